use Rattle.std.proofs.Common.{ap, ◌∙◌}
use Rattle.std.specs.Prelude.{is_some}
use Rattle.tt_join.proofs.Refusals.{room-is}
use Rattle.tt_join.proofs.refusing.has_room.Goals as goal

pub returns : goal.returns
returns c = record { room = c.is_some.ensures ∙ ap is_some c.add.ensures.number ∙ room-is c.args.live.now }
