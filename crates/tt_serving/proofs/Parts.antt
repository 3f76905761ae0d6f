-- Parts that are put on a page, one after another.
use Rattle.std.proofs.Common.{◌≡◌, ℕ, ◌+◌, ◌<◌, List, [], ◌∷◌, ◌++◌, length, get_or, take, drop, Option, refl, sym, ap, ◌∙◌, subst}
use Rattle.std.proofs.lemmas.List.{flat_map_more, take_more, take-append-drop}
use Rattle.std.proofs.lemmas.Grind.{flat_map-append}
use Rattle.tt_serving.specs.declared.page.Part.{Part}
use Rattle.tt_serving.specs.Page.{part_text, parts_text, Puts, Loses}
use Rattle.tt_serving.proofs.Pages.{puts-then, loses-then, loses-more}

-- one part more
parts-next : (xs : List Part) (k : ℕ) (x : Part) → k < length xs
    → parts_text (take (k + 1) xs) ≡ parts_text (take k xs) ++ part_text (get_or xs k x)
parts-next xs k x less = ap parts_text (take_more xs k x less) ∙ sym (flat_map_more part_text [] (take k xs) (get_or xs k x))

pub parts-more : (a b c : Option (List ℕ)) (w w1 w2 : List ℕ) (xs : List Part) (k : ℕ) (x : Part) → k < length xs
    → Puts a b w w1 (parts_text (take k xs)) → Puts b c w1 w2 (part_text (get_or xs k x)) → Puts a c w w2 (parts_text (take (k + 1) xs))
parts-more a b c w w1 w2 xs k x less p q =
    subst (λ (t : List ℕ). Puts a c w w2 t) (sym (parts-next xs k x less))
    (puts-then a b c w w1 w2 (parts_text (take k xs)) (part_text (get_or xs k x)) p q)

-- all parts are those up to one and those behind it
parts-split : (xs : List Part) (k : ℕ) (x : Part) → k < length xs
    → (parts_text (take k xs) ++ part_text (get_or xs k x)) ++ parts_text (drop (k + 1) xs) ≡ parts_text xs
parts-split xs k x less =
    ap (λ (t : List ℕ). t ++ parts_text (drop (k + 1) xs)) (sym (parts-next xs k x less))
    ∙ sym (flat_map-append part_text (take (k + 1) xs) (drop (k + 1) xs)) ∙ ap parts_text (take-append-drop (k + 1) xs)

pub parts-lost : (a b c : Option (List ℕ)) (w w1 : List ℕ) (xs : List Part) (k : ℕ) (x : Part) → k < length xs
    → Puts a b w w1 (parts_text (take k xs)) → Loses b c w1 (part_text (get_or xs k x)) → Loses a c w (parts_text xs)
parts-lost a b c w w1 xs k x less p q =
    subst (λ (t : List ℕ). Loses a c w t) (parts-split xs k x less)
    (loses-more a c w (parts_text (take k xs) ++ part_text (get_or xs k x)) (parts_text (drop (k + 1) xs))
    (loses-then a b c w w1 (parts_text (take k xs)) (part_text (get_or xs k x)) p q))
