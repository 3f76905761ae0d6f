-- What an event tells, as packets: those of its rule, and then, where the game is over by it, that it is over.
use Rattle.std.proofs.Common.{◌≡◌, ℕ, Bool, true, false, List, [], ◌∷◌, ◌++◌, refl, sym, ap, ap₂, ◌∙◌}
use Rattle.std.specs.Prelude.{cond, flat_map, map}
use Rattle.std.proofs.lemmas.List.{append-nil}
use Rattle.std.proofs.lemmas.Grind.{flat_map-append}
use Rattle.tt_edge.specs.declared.event.Event.{Event}
use Rattle.tt_game.specs.declared.message.GameMsg.TheVariants as games
use Rattle.tt_admin.specs.declared.message.AdminMsg.TheVariants as admins
use Rattle.tt_log.specs.declared.deed.Step.{Step}
use Rattle.tt_log.specs.Deed.{Deed, Said, game, admin, spelled, where_, ◌▹◌}
use Rattle.tt_log.specs.Events.{by_event, charged, deed, shut_down, taken, takes}
use Rattle.tt_log.specs.History.{table_of}
use Rattle.tt_log.specs.Origin.{Origin}
use Rattle.tt_log.specs.Table.{Table}
use Rattle.tt_log.specs.Tellings.{Filling, Telling, filled, filling, said_by, telling, tellings}
use Rattle.tt_log.specs.Told as book
use Rattle.tt_log.proofs.Refusing.{heard-snoc}
use Rattle.tt_outgoing.specs.Staging.{Packet, bytes_for, packet_to, packets_of}
use Rattle.tt_outgoing.proofs.Packets.{packets_told}
use Rattle.tt_table.specs.Ending.{Ended, ended_admins, ended_members, is_last}
use Rattle.tt_hub.specs.Running.{farewells}

-- what is filled in of steps behind others
filled-append : (o : Origin) (f : Filling) (xs ys : List Step) → filled o f (xs ++ ys) ≡ filled o f xs ++ filled o f ys
filled-append o f xs ys = flat_map-append (λ (s : Step). map (telling s.to) (said_by o f s.what)) xs ys

packets-append : (xs ys : List Telling) → packets_of (xs ++ ys) ≡ packets_of xs ++ packets_of ys
packets-append xs ys = flat_map-append (λ (d : Telling). packet_to d.to d.said) xs ys

-- the packets of the end, where it comes
abbrev last_packets : Bool → Table → List Packet
last_packets true u = packet_to (map (λ m. m.conn) u.members) (game games.ServerShutdown)
    ++ packet_to (map (λ a. a.conn) u.admins) (admin admins.ServerShutdown)
last_packets false u = []

-- what is told of an event that is over or not, in the same filling
closing : (b : Bool) (o : Origin) (t : Table) (d : Deed) (e : Event)
    → packets_of (tellings o t (d ▹ charged e ▹ (λ u. where_ b shut_down u))) ≡ packets_of (tellings o t d) ++ last_packets b d.table
closing true o t d e =
    let f : Filling = filling o t d.table in
    let last : List Step = (shut_down (charged e d.table).table).told in
    ap (λ (l : List Telling). packets_of l) (filled-append o f (d.told ++ []) last)
    ∙ packets-append (filled o f (d.told ++ [])) (filled o f last)
    ∙ ap₂ (λ (x : List Step) (y : List Packet). packets_of (filled o f x) ++ y) (append-nil d.told)
    (ap (λ (l : List Packet). packet_to (map (λ m. m.conn) d.table.members) (game games.ServerShutdown) ++ l)
    (append-nil (packet_to (map (λ a. a.conn) d.table.admins) (admin admins.ServerShutdown))))
closing false o t d e =
    let f : Filling = filling o t d.table in
    ap (λ (x : List Step). packets_of (filled o f x)) (append-nil (d.told ++ []) ∙ append-nil d.told)
    ∙ sym (append-nil (packets_of (filled o f d.told)))

-- the packets of those that are told the end
farewells-by : (b : Bool) (u : Table) → packet_to (cond b (map (λ m. m.conn) u.members) []) (game games.ServerShutdown)
    ++ packet_to (cond b (map (λ a. a.conn) u.admins) []) (admin admins.ServerShutdown) ≡ last_packets b u
farewells-by true u = refl
farewells-by false u = refl

-- all that an event tells
pub all-told : (o : Origin) (t : Table) (e : Event) (ends : Ended) → takes t e ≡ true → ends.members ≡ ended_members o e t
    → ends.admins ≡ ended_admins o e t
    → packets_of (tellings o t (deed o e t)) ≡ packets_of (tellings o t (by_event o e t)) ++ farewells ends
all-told o t e ends is ms gs =
    let d : Deed = by_event o e t in
    let b : Bool = is_last o e t in
    ap (λ (x : Bool). packets_of (tellings o t (where_ x (taken o e) t))) is
    ∙ closing b o t d e
    ∙ ap (λ (l : List Packet). packets_of (tellings o t d) ++ l) (sym (farewells-by b d.table))
    ∙ ap₂ (λ (x y : List ℕ). packets_of (tellings o t d)
    ++ (packet_to x (game games.ServerShutdown) ++ packet_to y (admin admins.ServerShutdown))) (sym ms) (sym gs)

-- what is sent with an event more: what it says, and so its packets
pub sent-told : (o : Origin) (es : List Event) (e : Event) (c : ℕ)
    → book.sent o (es ++ e ∷ []) c ≡ book.sent o es c ++ flat_map spelled (book.told o es e c)
sent-told o es e c =
    ap (λ (s : List Said). flat_map spelled s) (heard-snoc o es e c) ∙ flat_map-append spelled (book.heard o es c) (book.told o es e c)

pub sent-more : (o : Origin) (es : List Event) (e : Event) (c : ℕ)
    → book.sent o (es ++ e ∷ []) c ≡ book.sent o es c ++ bytes_for c (packets_of (tellings o (table_of o es) (deed o e (table_of o es))))
sent-more o es e c =
    sent-told o es e c
    ∙ ap (λ (l : List ℕ). book.sent o es c ++ l) (sym (packets_told c (tellings o (table_of o es) (deed o e (table_of o es)))))

-- one message alone
pub sent-one : (o : Origin) (es : List Event) (e : Event) (c : ℕ) (s : Said) → book.told o es e c ≡ s ∷ []
    → book.sent o (es ++ e ∷ []) c ≡ book.sent o es c ++ spelled s
sent-one o es e c s is =
    sent-told o es e c ∙ ap (λ (l : List Said). book.sent o es c ++ flat_map spelled l) is
    ∙ ap (λ (l : List ℕ). book.sent o es c ++ l) (append-nil (spelled s))
