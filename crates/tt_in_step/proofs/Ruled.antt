-- By the true rules the servers of the wrong ones are the true server.
use Rattle.std.proofs.Common.{◌≡◌, ℕ, Bool, true, false, List, [], ◌∷◌, ◌++◌, map, refl, ap, ap₂, ◌∙◌}
use Rattle.tt_edge.specs.declared.event.Event.{Event}
use Rattle.tt_edge.specs.declared.event.Event.TheVariants.{Open, Packet, Broken, Shut, Tick, Stop}
use Rattle.tt_log.specs.declared.deed.Step.{Step}
use Rattle.tt_log.specs.declared.deed.What.{What}
use Rattle.tt_log.specs.declared.deed.What.TheVariants.{Msg, ToAdmin, MapBegin, MapPieces, Sync, Entries, Stamp, End}
use Rattle.tt_log.specs.Origin.{Origin}
use Rattle.tt_log.specs.Table.{Table, first}
use Rattle.tt_log.specs.Deed.{Deed, ◌▹◌, where_, Said, spelled}
use Rattle.tt_log.specs.Tellings.{Filling, Telling, telling, said_by, filled, filling}
use Rattle.tt_log.specs.Events.{by_event, takes, taken, charged, closed, stops, deed, stepped}
use Rattle.tt_log.specs.Told.{told_to, heard_from, sent}
use Rattle.std.specs.Prelude.{flat_map}
use Rattle.tt_in_step.specs.Wrong.{true_rules, ruled_said, ruled_filled, ruled_event, kept_where, has_left, ruled_taken, ruled_deed}
use Rattle.tt_in_step.specs.Wrong.{ruled_told, ruled_heard, ruled_sent}

said-is : (o : Origin) (f : Filling) (w : What) → ruled_said true_rules o f w ≡ said_by o f w
said-is o f (Msg m) = refl
said-is o f (ToAdmin r) = refl
said-is o f MapBegin = refl
said-is o f MapPieces = refl
said-is o f Sync = refl
said-is o f (Entries frame) = refl
said-is o f (Stamp e) = refl
said-is o f End = refl

filled-is : (o : Origin) (f : Filling) (steps : List Step) → ruled_filled true_rules o f steps ≡ filled o f steps
filled-is o f [] = refl
filled-is o f (s ∷ steps) = ap₂ (λ (said : List Said) (more : List Telling). map (telling s.to) said ++ more) (said-is o f s.what)
    (filled-is o f steps)

event-is : (o : Origin) (e : Event) (t : Table) → ruled_event true_rules o e t ≡ by_event o e t
event-is o (Open door peer) t = refl
event-is o (Packet conn kind body) t = refl
event-is o (Broken conn) t = refl
event-is o (Shut conn) t = refl
event-is o Tick t = refl
event-is o Stop t = refl

kept-is : (o : Origin) (b : Bool) (t : Table) → kept_where true_rules o b t ≡ t
kept-is o true t = refl
kept-is o false t = refl

taken-is : (o : Origin) (e : Event) (t : Table) → ruled_taken true_rules o e t ≡ taken o e t
taken-is o e t = ap (λ (d : Deed). d ▹ charged e ▹ closed o (stops o e t))
    (ap (λ (u : Table). record { table = u; told = (ruled_event true_rules o e t).told })
    (kept-is o (has_left true_rules o t (ruled_event true_rules o e t).table) (ruled_event true_rules o e t).table) ∙ event-is o e t)

deed-is : (o : Origin) (e : Event) (t : Table) → ruled_deed true_rules o e t ≡ deed o e t
deed-is o e t = by (takes t e)
  where
    by : (b : Bool) → where_ b (ruled_taken true_rules o e) t ≡ where_ b (taken o e) t
    by true = taken-is o e t
    by false = refl

told-is : (o : Origin) (t : Table) (d : Deed) (conn : ℕ)
    → ruled_told true_rules o t d conn ≡ told_to conn (filled o (filling o t d.table) d.told)
told-is o t d conn = ap (λ (ds : List Telling). told_to conn ds) (filled-is o (filling o t d.table) d.told)

heard-is : (o : Origin) (t : Table) (events : List Event) (conn : ℕ) → ruled_heard true_rules o t events conn ≡ heard_from o t events conn
heard-is o t [] conn = refl
heard-is o t (e ∷ events) conn =
    ap (λ (d : Deed). ruled_told true_rules o t d conn ++ ruled_heard true_rules o d.table events conn) (deed-is o e t)
    ∙ ap₂ (λ (xs ys : List Said). xs ++ ys) (told-is o t (deed o e t) conn) (heard-is o (stepped o t e) events conn)

pub sent-is : (o : Origin) (events : List Event) (conn : ℕ) → ruled_sent true_rules o events conn ≡ sent o events conn
sent-is o events conn = ap (λ (said : List Said). flat_map spelled said) (heard-is o (first o) events conn)
