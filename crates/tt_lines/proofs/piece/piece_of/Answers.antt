use Rattle.std.proofs.Common.{◌≡◌, true, false, arith, sym, ◌∙◌}
use Rattle.std.proofs.lemmas.Bool.{eqb-true, eqb-false}
use Rattle.std.specs.List.{list_all}
use Rattle.tt_frame.specs.Text.{is_hex_digit}
use Rattle.tt_lines.proofs.HexDigits.{no_digits_none, other_digits_none, refused_none, decoded}
use Rattle.tt_lines.proofs.piece.piece_of.Goals as goal

pub returns-then-is_empty-clause-none : goal.returns-then-is_empty-clause-none
returns-then-is_empty-clause-none c = no_digits_none c.args.digits.now (eqb-true _ _ (sym c.is_empty.ensures ∙ c.if-is_empty.true))

pub returns-then-not-are_hex_digits-clause-none : goal.returns-then-not-are_hex_digits-clause-none
returns-then-not-are_hex_digits-clause-none c =
    let bad : list_all is_hex_digit c.args.digits.now ≡ false = cc in
    other_digits_none c.args.digits.now bad

pub returns-in-Ok-clause-found : goal.returns-in-Ok-clause-found
returns-in-Ok-clause-found c =
    let all : list_all is_hex_digit c.args.digits.now ≡ true = cc in
    let some = eqb-false _ _ (sym c.is_empty.ensures ∙ c.if-is_empty.false) in
    decoded c.args.digits.now c.in-Ok.piece.items (omega (arith, some)) all c.in-Ok.ensures.ok

pub returns-in-Err-OddLength-clause-none : goal.returns-in-Err-OddLength-clause-none
returns-in-Err-OddLength-clause-none c = refused_none c.args.digits.now c.in-Err-OddLength.field-0 (λ is. cc) c.in-Err-OddLength.ensures.err

pub returns-in-Err-InvalidStringLength-clause-none : goal.returns-in-Err-InvalidStringLength-clause-none
returns-in-Err-InvalidStringLength-clause-none c =
    refused_none c.args.digits.now c.in-Err-InvalidStringLength.field-0 (λ is. cc) c.in-Err-InvalidStringLength.ensures.err

pub returns-in-Err-InvalidHexCharacter-clause-none : goal.returns-in-Err-InvalidHexCharacter-clause-none
returns-in-Err-InvalidHexCharacter-clause-none c =
    refused_none c.args.digits.now c.in-Err-InvalidHexCharacter.field-0 (λ is. cc) c.in-Err-InvalidHexCharacter.ensures.err
