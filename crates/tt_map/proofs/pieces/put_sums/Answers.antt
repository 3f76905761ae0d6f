use Rattle.std.proofs.Common.{◌≡◌, ◌∷◌, [], ◌∙◌, ap, ℤ, rules, FitsSigned, w64}
use mir.Facts.{to_z-of_z}
use Rattle.tt_map.specs.Layout.{i64, u32}
use Rattle.tt_map.proofs.WritingLaws.{four_wrote, with_bytes}
use Rattle.tt_map.proofs.pieces.put_sums.Goals as goal

pub returns-clause-items : goal.returns-clause-items
returns-clause-items c =
    let fits : FitsSigned w64 c.args.company.now.money = search rules in
    let money_bytes : c.to_be_bytes.result ≡ i64 c.args.company.now.money =
    c.to_be_bytes.ensures ∙ ap (λ (z : ℤ). i64 z) (to_z-of_z fits) in
    let loan_bytes : c.to_be_bytes-2.result ≡ u32 c.args.company.now.loan = c.to_be_bytes-2.ensures in
    let most_bytes : c.to_be_bytes-3.result ≡ u32 c.args.company.now.most = c.to_be_bytes-3.ensures in
    four_wrote c.args.piece.now.items c.put.new.piece.items c.put-2.new.piece.items c.put-3.new.piece.items c.put-4.new.piece.items
    (c.args.number ∷ []) (i64 c.args.company.now.money) (u32 c.args.company.now.loan) (u32 c.args.company.now.most)
    c.put.ensures.items
    (c.put-2.ensures.items ∙ with_bytes c.put.new.piece.items money_bytes)
    (c.put-3.ensures.items ∙ with_bytes c.put-2.new.piece.items loan_bytes)
    (c.put-4.ensures.items ∙ with_bytes c.put-3.new.piece.items most_bytes)
