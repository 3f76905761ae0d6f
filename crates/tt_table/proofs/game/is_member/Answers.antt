use Rattle.std.proofs.Common.{ap, sym}
use Rattle.std.specs.Prelude.{is_some}
use Rattle.tt_table.proofs.game.is_member.Goals as goal

pub returns-in-Some : goal.returns-in-Some
returns-in-Some c = record { is = sym (ap is_some (c.in-Some.ensures.found c.index-members-at.result)) }
