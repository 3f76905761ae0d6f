-- Events that go on.
use Rattle.std.proofs.Common.{◌≡◌, ℕ, List, [], ◌∷◌, ◌++◌, refl, ap, sym, ◌∙◌, append_assoc, true}
use Rattle.std.specs.Prelude.{fold, flat_map}
use Rattle.tt_edge.specs.declared.event.Event.{Event}
use Rattle.tt_log.specs.Origin.{Origin}
use Rattle.tt_log.specs.Table.{Table, first}
use Rattle.std.proofs.lemmas.List.Sums.{fold-append}
use Rattle.tt_log.specs.Deed.{Deed, Said, becomes, spelled}
use Rattle.tt_log.specs.History.{table_of}
use Rattle.tt_log.specs.Events.{deed, stepped}
use Rattle.tt_log.specs.Told.{told_by, heard_from, heard, sent}

pub heard-append : (o : Origin) (t : Table) (es fs : List Event) (conn : ℕ) → heard_from o t (es ++ fs) conn ≡ heard_from o t es conn
    ++ heard_from o (fold (stepped o) t es) fs conn
heard-append o t [] fs conn = refl
heard-append o t (e ∷ es) fs conn = ap (λ (xs : List Said). told_by o t e conn ++ xs) (heard-append o (stepped o t e) es fs conn)
    ∙ sym (append_assoc (told_by o t e conn) (heard_from o (stepped o t e) es conn)
    (heard_from o (fold (stepped o) (stepped o t e) es) fs conn))

spelled-append : (xs ys : List Said) → flat_map spelled (xs ++ ys) ≡ flat_map spelled xs ++ flat_map spelled ys
spelled-append [] ys = refl
spelled-append (x ∷ xs) ys = ap (λ (bs : List ℕ). spelled x ++ bs) (spelled-append xs ys)
    ∙ sym (append_assoc (spelled x) (flat_map spelled xs) (flat_map spelled ys))

pub sent-grows : (o : Origin) (es fs : List Event) (conn : ℕ) → (more : List ℕ) × (sent o (es ++ fs) conn ≡ sent o es conn ++ more)
sent-grows o es fs conn = (
  flat_map spelled (heard_from o (fold (stepped o) (first o) es) fs conn),
  ap (λ (xs : List Said). flat_map spelled xs) (heard-append o (first o) es fs conn) ∙ spelled-append (heard o es conn)
      (heard_from o (fold (stepped o) (first o) es) fs conn),
)

pub over-stays : (o : Origin) (t : Table) (e : Event) → t.over ≡ true → deed o e t ≡ becomes t
over-stays o t e over = rw over refl

pub over-from : (o : Origin) (es : List Event) (t : Table) → t.over ≡ true → fold (stepped o) t es ≡ t
over-from o [] t over = refl
over-from o (e ∷ es) t over = ap (λ (d : Deed). fold (stepped o) d.table es) (over-stays o t e over) ∙ over-from o es t over

pub over-for-good : (o : Origin) (es fs : List Event) → (table_of o es).over ≡ true → table_of o (es ++ fs) ≡ table_of o es
over-for-good o es fs over = fold-append (stepped o) (first o) es fs ∙ over-from o fs (table_of o es) over
