-- Nobody is told that it is banned: no rule tells it, and so it stands in no stream that is sent.
use Rattle.std.proofs.Common.{◌≡◌, ◌+◌, ℕ, List, [], ◌∷◌, ◌++◌, Option, Some, map, ap₂, sym, subst}
use Rattle.std.specs.List.{AllByRecursion}
use Rattle.tt_edge.specs.declared.event.Event.{Event}
use Rattle.tt_edge.specs.declared.event.Event.TheVariants.{Tick}
use Rattle.tt_frame.specs.Packet.{Packet, IsBytes, size_of}
use Rattle.tt_frame.specs.Stream.{End, rest_of}
use Rattle.tt_game.specs.declared.message.GameMsg.{GameMsg}
use Rattle.tt_game.specs.declared.message.GameMsg.TheVariants.{ServerBanned}
use Rattle.tt_log.specs.Origin.{Origin}
use Rattle.tt_log.specs.Table.{Table, first}
use Rattle.tt_log.specs.Deed.{Said, game, admin}
use Rattle.tt_log.specs.Tellings.{Filling, filling}
use Rattle.tt_log.specs.Events.{stepped}
use Rattle.tt_log.specs.History.{table_of}
use Rattle.tt_log.specs.Told.{told, told_by, heard, heard_from}
use Rattle.tt_log.specs.Shown.{Item, items_from, items_in}
use Rattle.tt_log.proofs.Lists.{all-append, all-so}
use Rattle.tt_in_step.specs.Watched.{game_messages}
use Rattle.tt_in_step.specs.Fed.{AreSpelled}
use Rattle.tt_in_step.proofs.Bytes.{packet_for, stream_for, is_read, front-of, reading-is, spelled-front}
use Rattle.tt_in_step.proofs.Syncs.{in-middle, Word, words-told}

abbrev pub IsNoBan : GameMsg → Type 0
IsNoBan ServerBanned = ⊥
IsNoBan other = Unit

abbrev pub TellsNoBan : Said → Type 0
TellsNoBan (game m) = IsNoBan m
TellsNoBan (admin m) = Unit

-- ---- what is told

no-ban-msg : (S : Type 0) (f : Filling) (m : GameMsg) → Word S f (game m) → IsNoBan m
no-ban-msg S f ServerBanned h = absurd h
no-ban-msg S f other h = tt

no-ban : (S : Type 0) (f : Filling) (s : Said) → Word S f s → TellsNoBan s
no-ban S f (game m) h = no-ban-msg S f m h
no-ban S f (admin m) h = tt

told-none : (o : Origin) (t : Table) (e : Event) (c : ℕ) → AllByRecursion TellsNoBan (told_by o t e c)
told-none o t e c =
    let f : Filling = filling o t (stepped o t e) in
    all-so (Word (e ≡ Tick) f) TellsNoBan (told_by o t e c) (λ s h. no-ban (e ≡ Tick) f s h) (words-told o t e c)

pub never-banned : (o : Origin) (es : List Event) (e : Event) (c : ℕ) (front later : List Said)
    → told o es e c ≡ front ++ game ServerBanned ∷ later → ⊥
never-banned o es e c front later is = in-middle TellsNoBan front later (game ServerBanned)
    (subst (λ said. AllByRecursion TellsNoBan said) is (told-none o (table_of o es) e c))

heard-none : (o : Origin) (t : Table) (es : List Event) (c : ℕ) → AllByRecursion TellsNoBan (heard_from o t es c)
heard-none o t [] c = tt
heard-none o t (e ∷ es) c = all-append TellsNoBan (told_by o t e c) (heard_from o (stepped o t e) es c) (told-none o t e c)
    (heard-none o (stepped o t e) es c)

games-none : (said : List Said) → AllByRecursion TellsNoBan said → AllByRecursion IsNoBan (game_messages said)
games-none [] a = tt
games-none (game m ∷ said) a = (a.0, games-none said a.1)
games-none (admin m ∷ said) a = games-none said a.1

pub messages-none : (o : Origin) (es : List Event) (c : ℕ) → AllByRecursion IsNoBan (game_messages (heard o es c))
messages-none o es c = games-none (heard o es c) (heard-none o (first o) es c)

-- ---- what stands in a front of the bytes

abbrev pub HasNoBan : Item → Type 0
HasNoBan i = i.msg ≡ Some ServerBanned → ⊥

not-banned : (m : GameMsg) (read : Option GameMsg) → IsNoBan m → read ≡ Some m → read ≡ Some ServerBanned → ⊥
not-banned m read none is ban =
    let same : m ≡ ServerBanned = cc in
    subst IsNoBan same none

items-none : (at : ℕ) (ms : List GameMsg) (rest : List ℕ) → AreSpelled ms → AllByRecursion IsNoBan ms
    → AllByRecursion HasNoBan (items_from at (map packet_for ms) (rest_of rest))
items-none at [] rest s a = tt
items-none at (m ∷ ms) rest s a =
    (λ ban. not-banned m _ a.0 (is_read m s.0) ban, items-none (at + size_of (packet_for m)) ms rest s.1 a.1)

all-front : {A : Type 0} (P : A → Type 0) (xs ys : List A) → AllByRecursion P (xs ++ ys) → AllByRecursion P xs
all-front P [] ys a = tt
all-front P (x ∷ xs) ys a = (a.0, all-front P xs ys a.1)

pub front-none : (ms : List GameMsg) (bytes later : List ℕ) → IsBytes bytes → AreSpelled ms → AllByRecursion IsNoBan ms
    → stream_for ms ≡ bytes ++ later → AllByRecursion HasNoBan (items_in bytes)
front-none ms bytes later fits s a e =
    let g = front-of ms bytes later s e in
    let is = reading-is bytes (map packet_for g.front) g.rest fits g.cut in
    let same : items_in bytes ≡ items_from 0 (map packet_for g.front) (rest_of g.rest) =
    ap₂ (λ (qs : List Packet) (end1 : End). items_from 0 qs end1) is.0 is.1 in
    subst (λ items. AllByRecursion HasNoBan items) (sym same) (items-none 0 g.front g.rest
    (spelled-front g.front g.back (subst (λ xs. AreSpelled xs) g.all s))
    (all-front IsNoBan g.front g.back (subst (λ xs. AllByRecursion IsNoBan xs) g.all a)))
