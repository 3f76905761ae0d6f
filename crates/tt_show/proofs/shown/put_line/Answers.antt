use Rattle.std.proofs.Common.{arith}
use Rattle.tt_frame.proofs.TableLaws.{is_found, stops_at}
use Rattle.std.proofs.Common.{◌≡◌, ap, Result, Ok, Err}
use Rattle.tt_frame.specs.declared.bad.Bad.{Bad}
use Rattle.tt_frame.specs.declared.bad.Bad.TheVariants.{Malformed}
use Rattle.tt_show.proofs.ShowLaws.{line_shown}
use Rattle.tt_show.proofs.shown.put_line.Goals as goal

pub returns-in-Ok-put_message-clause-shown : goal.returns-in-Ok-put_message-clause-shown
returns-in-Ok-put_message-clause-shown g c =
    let family = g.M.Shown.family in
    let m = c.in-Ok.message in
    line_shown _ family c.args.kind c.args.body.now m c.args.line.now.text.items c.put_message.new.line.text.items c.in-Ok.ensures
    (g.met.M.Shown.same_kind m c.args.kind c.args.body.now (is_found family.table c.args.kind c.args.body.now (Ok m)
    (λ i. omega (arith, c.type_inv.body i)) c.in-Ok.ensures))
    c.in-Ok-put_message.ensures

pub returns-clause-place : goal.returns-clause-place
returns-clause-place g c at e =
    let same : c.in-Err.e ≡ Malformed at = cc in
    let refused : (◌≡◌ {A = Result g.row.M.Denot Bad} (Err c.in-Err.e) (Err (Malformed at))) = ap (λ (b : Bad). Err b) same in
    stops_at g.M.Shown.family.table c.args.kind c.args.body.now (Err c.in-Err.e) at (λ i. omega (arith, c.type_inv.body i)) refused
    c.in-Err.ensures
