-- That the game is over is told to members and admins, behind what was staged.
use Rattle.std.proofs.Common.{◌≡◌, ℕ, List, [], ◌∷◌, ◌++◌, refl, sym, ap, ◌∙◌, arith, append_assoc}
use Rattle.std.specs.Prelude.{◌==◌}
use Rattle.std.specs.List.{AllByRecursion, list_any}
use Rattle.std.proofs.lemmas.Grind.{flat_map-append}
use Rattle.std.proofs.lemmas.List.{append-nil}
use Rattle.tt_game.specs.declared.message.GameMsg.TheVariants as games
use Rattle.tt_admin.specs.declared.message.AdminMsg.TheVariants as admins
use Rattle.tt_log.specs.Deed.{Said, game, admin, spelled}
use Rattle.tt_outgoing.specs.Staging.{AreDistinct, MayAllBeTold, MayBeTold, Packet, bytes_for, packet_to}
use Rattle.tt_outgoing.specs.Waiting.{bytes_if, told}
use Rattle.tt_outgoing.proofs.Delivered.{told_once}
use Rattle.tt_table.specs.Ending.{Ended}
use Rattle.tt_hub.specs.Running.{farewells}

-- ---- who is told

split : (P : Packet → Type 0) (xs ys : List Packet) → AllByRecursion P (xs ++ ys) → AllByRecursion P xs × AllByRecursion P ys
split P [] ys a = (tt, a)
split P (x ∷ xs) ys a = let rest = split P xs ys a.1 in ((a.0, rest.0), rest.1)

told-first : (most : ℕ) (to : List ℕ) (s : Said) → MayAllBeTold most (packet_to to s) → MayBeTold most to
told-first most [] s may = record {
  opened = λ k d low. absurd (omega (arith, low));
  distinct = λ i j before low. absurd (omega (arith, low));
}
told-first most (c ∷ to) s may = may.0

-- what was staged may be told, and members and admins may be told the end
pub record MayEnd (most : ℕ) (packets : List Packet) (ends : Ended) : Type 0 where
  pub staged : MayAllBeTold most packets
  pub members : MayBeTold most ends.members
  pub admins : MayBeTold most ends.admins

pub may-end : (most : ℕ) (packets : List Packet) (ends : Ended) → MayAllBeTold most (packets ++ farewells ends) → MayEnd most packets ends
may-end most packets ends may =
    let P : Packet → Type 0 = λ p. MayBeTold most p.to in
    let m : Said = game games.ServerShutdown in
    let a : Said = admin admins.ServerShutdown in
    let first = split P packets (farewells ends) may in
    let last = split P (packet_to ends.members m) (packet_to ends.admins a) first.1 in
    record { staged = first.0; members = told-first most ends.members m last.0; admins = told-first most ends.admins a last.1 }

-- ---- what is told

for-first : (c : ℕ) (to : List ℕ) (s : Said) → AreDistinct to → bytes_for c (packet_to to s) ≡ told to c (spelled s)
for-first c [] s distinct = refl
for-first c (d ∷ to) s distinct =
    append-nil (bytes_if (list_any (λ x. x == c) (d ∷ to)) (spelled s)) ∙ sym (told_once (d ∷ to) c (spelled s) distinct)

for-append : (c : ℕ) (xs ys : List Packet) → bytes_for c (xs ++ ys) ≡ bytes_for c xs ++ bytes_for c ys
for-append c xs ys = flat_map-append (λ (p : Packet). bytes_if (list_any (λ x. x == c) p.to) p.bytes) xs ys

for-last : (c : ℕ) (packets : List Packet) (ends : Ended) → AreDistinct ends.members → AreDistinct ends.admins
    → bytes_for c (packets ++ farewells ends) ≡ bytes_for c packets
    ++ (told ends.members c (spelled (game games.ServerShutdown)) ++ told ends.admins c (spelled (admin admins.ServerShutdown)))
for-last c packets ends ms gs =
    let m : List Packet = packet_to ends.members (game games.ServerShutdown) in
    let a : List Packet = packet_to ends.admins (admin admins.ServerShutdown) in
    for-append c packets (m ++ a)
    ∙ ap (λ (l : List ℕ). bytes_for c packets ++ l) (for-append c m a)
    ∙ ap (λ (l : List ℕ). bytes_for c packets ++ (l ++ bytes_for c a)) (for-first c ends.members (game games.ServerShutdown) ms)
    ∙ ap (λ (l : List ℕ). bytes_for c packets ++ (told ends.members c (spelled (game games.ServerShutdown)) ++ l))
    (for-first c ends.admins (admin admins.ServerShutdown) gs)

-- what waits, where what was staged was told, and then the end to members, and then to admins
pub ended-told : (c : ℕ) (start staged inside aside : List ℕ) (packets : List Packet) (ends : Ended) → AreDistinct ends.members
    → AreDistinct ends.admins → staged ≡ start ++ bytes_for c packets
    → inside ≡ staged ++ told ends.members c (spelled (game games.ServerShutdown))
    → aside ≡ inside ++ told ends.admins c (spelled (admin admins.ServerShutdown))
    → aside ≡ start ++ bytes_for c (packets ++ farewells ends)
ended-told c start staged inside aside packets ends ms gs first second third =
    let x : List ℕ = told ends.members c (spelled (game games.ServerShutdown)) in
    let y : List ℕ = told ends.admins c (spelled (admin admins.ServerShutdown)) in
    let p : List ℕ = bytes_for c packets in
    third ∙ ap (λ (l : List ℕ). l ++ y) (second ∙ ap (λ (l : List ℕ). l ++ x) first)
    ∙ append_assoc (start ++ p) x y ∙ append_assoc start p (x ++ y)
    ∙ ap (λ (l : List ℕ). start ++ l) (sym (for-last c packets ends ms gs))
