use Rattle.std.proofs.Common.{sym, refl}
use Rattle.tt_frame.proofs.TextLaws.{IsText-from_is_text, length_of_text, no_text}
use Rattle.tt_frame.proofs.long_texts.LongText.new.Goals as goal

pub returns-then-not-is_text_bytes-clause-text : goal.returns-then-not-is_text_bytes-clause-text
returns-then-not-is_text_bytes-clause-text g c =
    ((λ e. absurd cc), (λ t. absurd (no_text g.row.N c.args.bytes.now (sym c.if-not-is_text_bytes.ensures) t)))

pub returns-clause-text : goal.returns-clause-text
returns-clause-text g c =
    let test = sym c.if-not-is_text_bytes.ensures in
    ((λ _. (IsText-from_is_text g.row.N c.args.bytes.now test, length_of_text g.row.N c.args.bytes.now test)), (λ _. refl))
