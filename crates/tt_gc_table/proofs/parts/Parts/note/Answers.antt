use Rattle.std.proofs.Common.{◌≡◌, List, Some, ap, subst}
use Rattle.tt_gc_table.specs.contracts.parts.Parts.{the_view}
use Rattle.tt_gc_table.specs.Table.{Table, Meeting, meeting_of, with_meeting}
use Rattle.tt_gc_table.specs.OpenAttempts.{meetings_of}
use Rattle.tt_gc_table.specs.Desk.{with_note}
use Rattle.tt_gc_table.proofs.parts.Parts.note.Goals as goal

pub invariant_of-self : goal.invariant_of-self
invariant_of-self c = (c.self.invariant.0, c.note.ensures.begun c.self.inside.begun c.self.invariant.1, c.self.invariant.2)

pub returns : goal.returns
returns c =
    let t : Table = the_view c.self.inside in
    let now : Table = record t { meetings = meetings_of c.note.new.self } in
    subst (λ (t : Table). (m : Meeting) → meeting_of t c.args.token.now ≡ Some m → now ≡ with_meeting c.args.token.now (with_note
    c.args.side c.args.peer) t)
    c.self.view_is (λ m some. ap (λ (ms : List Meeting). record t { meetings = ms }) (c.note.ensures.meetings m some))
