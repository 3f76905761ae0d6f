use Rattle.std.proofs.Common.{◌≡◌, ◌++◌, Bool, List, Option, Some, sym, ap, ◌∙◌}
use Rattle.std.specs.Prelude.{eqb}
use Rattle.std.specs.Option.{option_copied}
use Rattle.tt_attempts.specs.declared.attempt.Heard.TheVariants.{Connected}
use Rattle.tt_gc_table.specs.Table.{Table, Meeting, meeting_of}
use Rattle.tt_gc_table.specs.Deed.{Step, where_, given}
use Rattle.tt_gc_table.specs.Meetings.{hears_it, is_heard}
use Rattle.tt_gc_table.specs.Told.{bytes_to}
use Rattle.tt_gc_table.specs.Tells.{told_to}
use Rattle.tt_gc_table.proofs.heard.plan_connected.Goals as goal

pub returns-clause-told : goal.returns-clause-told
returns-clause-told c = λ s host x.
    let t : Table = c.args.parts.now in
    let m : Meeting = c.in-Some.meeting.now in
    let here : meeting_of t c.args.token.now ≡ Some m = sym c.meeting.ensures ∙ ap option_copied c.in-Some.is in
    c.in_ok-stage.ensures.told s host x
    ∙ ap (λ (d : List Step). told_to x c.args.out.now ++ bytes_to x d)
    (sym (ap (λ (o : Option Meeting). (given o (λ (m : Meeting). where_ (eqb m.client.conn c.args.conn)
    (is_heard s Connected c.args.token.now)) t).told) here
    ∙ ap (λ (b : Bool). (where_ b (is_heard s Connected c.args.token.now) t).told) (sym c.if-not-is_client.ensures)
    ∙ ap (λ (o : Option Meeting). (given o (hears_it s Connected) t).told) here))
