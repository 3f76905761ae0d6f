use Rattle.std.proofs.Common.{◌≡◌, ◌-◌, ◌≤◌, true, length, take}
use Rattle.std.specs.List.{list_all}
use Rattle.tt_attempts.specs.Codes.{is_character, words_behind, drawn_characters}
use Rattle.tt_attempts.proofs.code.draw_characters.Given as goal

-- the places so far have what was drawn
abbrev pub invariant-loop-at : goal.invariant-loop-at
invariant-loop-at l = record {
  within : l.at ≤ length l.to;
  words : l.random ≡ words_behind l.at l.initial.random;
  drawn : take l.at l.to ≡ drawn_characters l.at l.initial.random;
  each : list_all is_character (drawn_characters l.at l.initial.random) ≡ true;
}

abbrev pub decreases-loop-at : goal.decreases-loop-at
decreases-loop-at l = length l.initial.to - l.at
