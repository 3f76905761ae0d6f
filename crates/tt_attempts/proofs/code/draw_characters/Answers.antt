use Rattle.std.proofs.Common.{◌≡◌, ℕ, ◌+◌, ◌∷◌, [], ◌++◌, List, length, take, refl, sym, ap, ap₂, ◌∙◌, arith}
use Rattle.std.proofs.lemmas.List.{take_more_set, length-set}
use Rattle.tt_world.specs.Random.{next_random}
use Rattle.tt_attempts.specs.Codes.{is_character, words_behind, drawn_character, drawn_characters}
use Rattle.tt_attempts.proofs.DrawLaws.{words_more, drawn_more, more_characters}
use Rattle.tt_attempts.proofs.code.draw_characters.Goals as goal

pub loop-at-init : goal.loop-at-init
loop-at-init c = record { within = omega arith; words = refl; drawn = refl; each = refl }

pub loop-at-preserved : goal.loop-at-preserved
loop-at-preserved c =
    let at : ℕ = c.loop-at.at in
    let words : ℕ × ℕ = c.args.random.now in
    record {
      within = omega (arith, c.loop-at-test.true, length-set c.loop-at.to at c.draw_character.result);
      words = c.draw_character.ensures.words ∙ ap next_random c.loop-at.invariant.words ∙ sym (words_more at words);
      drawn = take_more_set c.loop-at.to at c.draw_character.result c.loop-at-test.true
          ∙ ap₂ (λ (l : List ℕ) (b : ℕ). l ++ b ∷ []) c.loop-at.invariant.drawn (c.draw_character.ensures.drawn
          ∙ ap drawn_character c.loop-at.invariant.words) ∙ sym (drawn_more at words);
      each = more_characters at words c.loop-at.invariant.each (ap is_character (sym (c.draw_character.ensures.drawn
          ∙ ap drawn_character c.loop-at.invariant.words)) ∙ c.draw_character.ensures.character);
    }
