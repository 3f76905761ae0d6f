-- Text that is put on a page, one piece after another.
use Rattle.std.proofs.Common.{◌≡◌, ℕ, ◌<◌, List, [], ◌++◌, length, Option, refl, sym, ap, ◌∙◌, subst, append_assoc, arith, length-append}
use Rattle.std.proofs.lemmas.List.{append-nil}
use Rattle.std.proofs.KnownBytes.{Appends-nil, Appends-trans}
use Rattle.std.specs.Io.KnownBytes.{Appends}
use Rattle.tt_edge.specs.Sink.{AppendsPart}
use Rattle.tt_serving.specs.Page.{Puts, Loses}

-- nothing is put
pub puts-nothing : (a : Option (List ℕ)) (w : List ℕ) → Puts a a w w []
puts-nothing a w = record { out = []; written = Appends-nil a; all = sym (append-nil w) }

-- one text behind another
pub puts-then : (a b c : Option (List ℕ)) (w w' w'' s t : List ℕ) → Puts a b w w' s → Puts b c w' w'' t → Puts a c w w'' (s ++ t)
puts-then a b c w w' w'' s t p q = record {
  out = p.out ++ q.out;
  written = Appends-trans a b c p.out q.out p.written q.written;
  all = append_assoc p.out q.out w'' ∙ ap (λ (x : List ℕ). p.out ++ x) q.all ∙ sym (append_assoc p.out w' t)
      ∙ ap (λ (x : List ℕ). x ++ t) p.all ∙ append_assoc w s t;
}

-- a text behind another is lost in part
pub loses-then : (a b c : Option (List ℕ)) (w w' s t : List ℕ) → Puts a b w w' s → Loses b c w' t → Loses a c w (s ++ t)
loses-then a b c w w' s t p q = record {
  out = p.out ++ q.out;
  lost = q.lost;
  some = q.some;
  written = Appends-trans a b c p.out q.out p.written q.written;
  all = append_assoc p.out q.out q.lost ∙ ap (λ (x : List ℕ). p.out ++ x) q.all ∙ sym (append_assoc p.out w' t)
      ∙ ap (λ (x : List ℕ). x ++ t) p.all ∙ append_assoc w s t;
}

-- what is lost, is lost of a longer text too
pub loses-more : (a b : Option (List ℕ)) (w s t : List ℕ) → Loses a b w s → Loses a b w (s ++ t)
loses-more a b w s t p = record {
  out = p.out;
  lost = p.lost ++ t;
  some = omega (arith, p.some, length-append p.lost t);
  written = p.written;
  all = sym (append_assoc p.out p.lost t) ∙ ap (λ (x : List ℕ). x ++ t) p.all ∙ append_assoc w s t;
}

-- all that waited was written, and then the text
pub flushed-then : (a b c : Option (List ℕ)) (w t : List ℕ) → Appends a b w → Appends b c t → Puts a c w [] t
flushed-then a b c w t p q = record { out = w ++ t; written = Appends-trans a b c w t p q; all = append-nil (w ++ t) }

-- all that waited was written, and the text waits
pub flushed-waits : (a b : Option (List ℕ)) (w t : List ℕ) → Appends a b w → Puts a b w t t
flushed-waits a b w t p = record { out = w; written = p; all = refl }

-- what waited was not written whole
pub lost-before : (a b : Option (List ℕ)) (w t : List ℕ) → AppendsPart a b w → Loses a b w t
lost-before a b w t p = record {
  out = p.2.0;
  lost = p.0 ++ t;
  some = omega (arith, p.1, length-append p.0 t);
  written = p.2.2;
  all = sym (append_assoc p.2.0 p.0 t) ∙ ap (λ (x : List ℕ). x ++ t) p.2.1;
}

-- all that waited was written, and the text not whole
pub lost-behind : (a b c : Option (List ℕ)) (w t : List ℕ) → Appends a b w → AppendsPart b c t → Loses a c w t
lost-behind a b c w t p q = record {
  out = w ++ q.2.0;
  lost = q.0;
  some = q.1;
  written = Appends-trans a b c w q.2.0 p q.2.2;
  all = append_assoc w q.2.0 q.0 ∙ ap (λ (x : List ℕ). w ++ x) q.2.1;
}

-- all that waited was written, and the text behind it
pub put-behind : (a b c : Option (List ℕ)) (w w1 w2 w3 t : List ℕ) → w1 ≡ w → Appends a b w1 → w2 ≡ [] → w3 ≡ w2
    → Appends b c t → Puts a c w w3 t
put-behind a b c w w1 w2 w3 t e p n f q =
    let whole : Puts a c w [] t = flushed-then a b c w t (subst (λ (x : List ℕ). Appends a b x) e p) q in
    subst (λ (x : List ℕ). Puts a c w x t) (sym (f ∙ n)) whole

-- all that waited was written, and a front of the text behind it
pub lost-after : (a b c : Option (List ℕ)) (w w1 t : List ℕ) → w1 ≡ w → Appends a b w1 → AppendsPart b c t → Loses a c w t
lost-after a b c w w1 t e p q = lost-behind a b c w t (subst (λ (x : List ℕ). Appends a b x) e p) q

-- a page that was empty, and all of whose text was written
pub told-whole : (a b c : Option (List ℕ)) (w w' t : List ℕ) → w ≡ [] → Puts a b w w' t → Appends b c w' → Appends a c t
told-whole a b c w w' t e p q =
    let all : p.out ++ w' ≡ t = p.all ∙ ap (λ (x : List ℕ). x ++ t) e in
    subst (λ (x : List ℕ). Appends a c x) all (Appends-trans a b c p.out w' p.written q)

-- a page that was empty, whose text waited and was not written whole
pub told-in_part : (a b c : Option (List ℕ)) (w w' t : List ℕ) → w ≡ [] → Puts a b w w' t → AppendsPart b c w' → AppendsPart a c t
told-in_part a b c w w' t e p q =
    let all : p.out ++ w' ≡ t = p.all ∙ ap (λ (x : List ℕ). x ++ t) e in (
      q.0,
      q.1,
      (
        p.out ++ q.2.0,
        append_assoc p.out q.2.0 q.0 ∙ ap (λ (x : List ℕ). p.out ++ x) q.2.1 ∙ all,
        Appends-trans a b c p.out q.2.0 p.written q.2.2,
      ),
    )

-- a page that was empty, whose text was lost in part
pub told-lost : (a b : Option (List ℕ)) (w t : List ℕ) → w ≡ [] → Loses a b w t → AppendsPart a b t
told-lost a b w t e p = (p.lost, p.some, (p.out, p.all ∙ ap (λ (x : List ℕ). x ++ t) e, p.written))
