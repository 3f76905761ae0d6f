-- Events that a table does not take.
use Rattle.std.proofs.Common.{◌≡◌, ℕ, List, [], ◌∷◌, ◌++◌, refl, ap, ◌∙◌, append-nil, Bool, true, false}
use Rattle.std.proofs.lemmas.List.Sums.{fold-append}
use Rattle.tt_edge.specs.declared.event.Event.{Event}
use Rattle.tt_log.specs.Origin.{Origin}
use Rattle.tt_log.specs.Table.{Table, first}
use Rattle.tt_log.specs.Deed.{Deed, Said, becomes, where_}
use Rattle.tt_log.specs.Tellings.{tellings}
use Rattle.tt_log.specs.Events.{deed, stepped, taken, takes}
use Rattle.tt_log.specs.History.{table_of}
use Rattle.tt_log.specs.Told.{told_by, told_to, heard}
use Rattle.tt_log.proofs.Going.{heard-append}

-- one event more
pub table-snoc : (o : Origin) (es : List Event) (e : Event) → table_of o (es ++ e ∷ []) ≡ stepped o (table_of o es) e
table-snoc o es e = fold-append (stepped o) (first o) es (e ∷ [])

pub heard-snoc : (o : Origin) (es : List Event) (e : Event) (conn : ℕ) → heard o (es ++ e ∷ []) conn ≡ heard o es conn
    ++ told_by o (table_of o es) e conn
heard-snoc o es e conn = heard-append o (first o) es (e ∷ []) conn ∙ ap (λ (xs : List Said). heard o es conn ++ xs)
    (append-nil (told_by o (table_of o es) e conn))

where-not : (b : Bool) (rule : Table → Deed) (t : Table) → b ≡ false → where_ b rule t ≡ becomes t
where-not true rule t is = absurd cc
where-not false rule t is = refl

pub not-taken : (o : Origin) (t : Table) (e : Event) → takes t e ≡ false → deed o e t ≡ becomes t
not-taken o t e is = where-not (takes t e) (taken o e) t is

pub table-stays : (o : Origin) (es : List Event) (e : Event) → takes (table_of o es) e ≡ false → table_of o (es ++ e ∷ []) ≡ table_of o es
table-stays o es e is = table-snoc o es e ∙ ap (λ (d : Deed). d.table) (not-taken o (table_of o es) e is)

pub heard-stays : (o : Origin) (es : List Event) (e : Event) (conn : ℕ) → takes (table_of o es) e ≡ false → heard o (es ++ e ∷ []) conn
    ≡ heard o es conn
heard-stays o es e conn is =
    let t : Table = table_of o es in
    heard-snoc o es e conn ∙ ap (λ (d : Deed). heard o es conn ++ told_to conn (tellings o t d)) (not-taken o t e is)
    ∙ append-nil (heard o es conn)
