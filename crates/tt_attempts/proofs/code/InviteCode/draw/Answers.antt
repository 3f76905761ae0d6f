use Rattle.std.proofs.Common.{refl}
use Rattle.tt_attempts.proofs.code.InviteCode.draw.Goals as goal

pub invariant_of-result : goal.invariant_of-result
invariant_of-result c = record {
  long = refl;
  plus = refl;
  each = rw (
    c.draw_character-first.ensures.character,
    c.draw_character-second.ensures.character,
    c.draw_character-third.ensures.character,
    c.draw_character-fourth.ensures.character,
    c.draw_character-fifth.ensures.character,
    c.draw_character-sixth.ensures.character,
  ) refl;
}
