use Rattle.std.proofs.Common.{◌≡◌, true, Some, ap, sym, ◌∙◌}
use Rattle.std.specs.Option.{option_copied}
use Rattle.tt_gc_table.specs.Table.{Table, Meeting, meeting_of}
use Rattle.tt_gc_table.specs.Desk.{is_at_stun}
use Rattle.tt_gc.proofs.ChangesLaws.{note_done}
use Rattle.tt_gc.proofs.desk.plan_note.Goals as goal

pub returns : goal.returns
returns c =
    let t : Table = c.args.parts.now in
    let m : Meeting = c.in-Some.meeting.now in
    let here : meeting_of t c.args.token ≡ Some m =
    ap (meeting_of t) (sym c.bytes.ensures.same) ∙ sym c.meeting.ensures ∙ ap option_copied c.in-Some.is in
    let at : is_at_stun m.state.stage ≡ true =
    ap (λ (k : Meeting). is_at_stun k.state.stage) (sym c.meeting-2.view_is) ∙ ap is_at_stun (sym c.stage.ensures)
    ∙ sym c.is_at_stun.ensures ∙ c.if-not-is_at_stun.false in
    note_done t c.args.conn c.args.peer c.args.token c.args.side m here at c.requires.there c.requires.unregistered
