-- What an event does is the same where room was made before.
use Rattle.std.proofs.Common.{◌≡◌, List, sym, subst}
use Rattle.tt_edge.specs.declared.event.Event.{Event}
use Rattle.tt_log.specs.History.{table_of}
use Rattle.tt_log.specs.Origin.{Origin}
use Rattle.tt_table.specs.declared.change.Change.{Change}
use Rattle.tt_table.specs.Does.{IsChange}
use Rattle.tt_table.specs.Held.{Played, table}

pub same_change : (g n : Played) (e f : Event) (c : Change) → n.origin ≡ g.origin → n.events ≡ g.events → f ≡ e
    → IsChange n.origin e (table n) c → IsChange g.origin f (table g) c
same_change g n e f c origin events is change =
    subst (λ (y : Event). IsChange g.origin y (table g) c) (sym is)
    (subst (λ (es : List Event). IsChange g.origin e (table_of g.origin es) c) events
    (subst (λ (o : Origin). IsChange o e (table_of o n.events) c) origin change))
