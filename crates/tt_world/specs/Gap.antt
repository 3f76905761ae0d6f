-- Where ids rise, the least unused one is the first place whose sign has another id than the place's number.
use Rattle.std.specs.Prelude.{ℕ, ◌+◌, true, false, ◌==◌, List, [], ◌∷◌}
use Rattle.tt_world.specs.declared.sign.Sign.{Sign}

-- that place, counted from i on
abbrev pub gap_from : ℕ → List Sign → ℕ
gap_from i [] = i
gap_from i (g ∷ gs) = elim (g.id == i) [ true ↦ gap_from (i + 1) gs | false ↦ i ]
