use Rattle.std.proofs.Common.{◌≡◌, List, Some, ap, subst}
use Rattle.tt_attempts.specs.Attempts.{stepped}
use Rattle.tt_gc_table.specs.contracts.parts.Parts.{the_view}
use Rattle.tt_gc_table.specs.Table.{Table, Meeting, meeting_of}
use Rattle.tt_gc_table.specs.OpenAttempts.{meetings_of}
use Rattle.tt_gc_table.specs.Parts.{at_stage}
use Rattle.tt_gc_table.proofs.parts.Parts.hear.Goals as goal

pub invariant_of-self : goal.invariant_of-self
invariant_of-self c = (c.self.invariant.0, c.hear.ensures.begun c.self.inside.begun c.self.invariant.1, c.self.invariant.2)

pub returns : goal.returns
returns c =
    let t : Table = the_view c.self.inside in
    let now : Table = record t { meetings = meetings_of c.hear.new.self } in
    subst (λ (t : Table). (m : Meeting) → meeting_of t c.args.token.now ≡ Some m → now ≡ at_stage (stepped m.state.ways m.state.stage
    c.args.heard).stage c.args.token.now t)
    c.self.view_is (λ m some. ap (λ (ms : List Meeting). record t { meetings = ms }) (c.hear.ensures.meetings m some))
