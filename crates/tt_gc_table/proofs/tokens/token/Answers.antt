use Rattle.std.proofs.Common.{◌≡◌, ℕ, ◌≤◌, ◌<◌, ◌^◌, ◌++◌, List, true, length, sym, ap, ◌∙◌, arith, subst}
use Rattle.std.specs.Fmt.{decimal}
use Rattle.std.proofs.lemmas.Bool.{false≢true}
use Rattle.std.proofs.lemmas.List.{length-append}
use Rattle.std.proofs.lemmas.Fmt.{length-decimal-le}
use Rattle.tt_frame.specs.Text.{is_plain}
use Rattle.tt_gc_table.proofs.Plain.{plain_characters, plain_decimal, plain_both}
use Rattle.tt_gc_table.proofs.tokens.token.Goals as goal

-- it is a text, and short enough
pub unreachable-requires : goal.unreachable-requires
unreachable-requires c =
    let drawn : List ℕ = c.draw_characters.new.to in
    let small : c.args.number < 2 ^ 32 = omega (arith, c.ranges.number.fits) in
    let text : c.as_slice.result.now ≡ drawn ++ decimal c.args.number =
    c.as_slice.ensures.value ∙ c.in_ok-put_number.ensures.text
    ∙ ap (λ (xs : List ℕ). xs ++ decimal c.args.number) (c.in_ok-put.ensures.text
    ∙ ap (λ (xs : List ℕ). xs ++ drawn) c.new-bytes.ensures.items) in
    let eight : length drawn ≡ 8 = ap length c.draw_characters.ensures.drawn in
    let ten : length (decimal c.args.number) ≤ 10 = length-decimal-le 10 c.args.number (omega arith) (omega (arith, small))
    (omega (arith, small)) in
    false≢true (c.in-None.ensures.plain (subst (λ (xs : List ℕ). is_plain xs ≡ true) (sym text) (plain_both drawn
    (decimal c.args.number) (plain_characters drawn c.draw_characters.ensures.characters) (plain_decimal c.args.number small)))
    (subst (λ (xs : List ℕ). length xs ≤ 31) (sym text) (omega (arith, length-append drawn (decimal c.args.number), eight, ten))))
