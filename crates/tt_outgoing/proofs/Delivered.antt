-- Packets are delivered, one after another.
use Rattle.std.proofs.Common.{◌≡◌, ◌≢◌, ℕ, suc, ◌+◌, ◌<◌, ◌≤◌, Bool, true, false, ◌⊎◌, inl, inr, List, [], ◌∷◌, ◌++◌, length, refl}
use Rattle.std.proofs.Common.{sym, ap, subst, ◌∙◌, arith, append_assoc, take, drop}
use Rattle.std.specs.Prelude.{◌==◌, ◌||◌, slice_index_or}
use Rattle.std.specs.List.{list_any}
use Rattle.std.proofs.lemmas.List.{append-nil}
use Rattle.tt_outgoing.specs.declared.staged.Cut.{Cut}
use Rattle.tt_outgoing.specs.Waiting.{Waiting, bytes_if, list_of, opened, told}
use Rattle.tt_outgoing.specs.Staging.{AreDistinct, MayAllBeTold, Packet, bytes_for, bytes_in, cut_up, parts_in}
use Rattle.tt_outgoing.proofs.OutsParts.{bytes_unless, bytes_when}
use Rattle.tt_outgoing.proofs.OutsLogs.{or_same}

-- ---- each of distinct connections is told once

told_none : (conns : List ℕ) (c : ℕ) (b : List ℕ) → ((k : ℕ) → k < length conns → slice_index_or conns k 0 ≢ c) → told conns c b ≡ []
told_none [] c b other = refl
told_none (d ∷ conns) c b other =
    ap (λ (l : List ℕ). l ++ told conns c b) (bytes_unless d c b (other 0 (omega arith)))
    ∙ told_none conns c b (λ k lt. other (suc k) (omega (arith, lt)))

told_once_by : (d : ℕ) (conns : List ℕ) (c : ℕ) (b : List ℕ) → AreDistinct (d ∷ conns) → (d ≡ c) ⊎ (d ≢ c)
    → told conns c b ≡ bytes_if (list_any (λ d. d == c) conns) b
    → told (d ∷ conns) c b ≡ bytes_if (list_any (λ d. d == c) (d ∷ conns)) b
told_once_by d conns c b distinct (inl e) rest =
    let same : (d == c) ≡ true = grind (arith, e) in
    ap (λ (l : List ℕ). l ++ told conns c b) (bytes_when d c b e)
    ∙ ap (λ (l : List ℕ). b ++ l) (told_none conns c b (λ k lt is. distinct 0 (suc k) (omega arith) (omega (arith, lt)) (e ∙ sym is)))
    ∙ append-nil b ∙ ap (λ (t : Bool). bytes_if (t || list_any (λ d. d == c) conns) b) (sym same)
told_once_by d conns c b distinct (inr ne) rest =
    let other : (d == c) ≡ false = grind (arith, ne) in
    ap (λ (l : List ℕ). l ++ told conns c b) (bytes_unless d c b ne)
    ∙ rest ∙ ap (λ (t : Bool). bytes_if (t || list_any (λ d. d == c) conns) b) (sym other)

pub told_once : (conns : List ℕ) (c : ℕ) (b : List ℕ) → AreDistinct conns → told conns c b ≡ bytes_if (list_any (λ d. d == c) conns) b
told_once [] c b distinct = refl
told_once (d ∷ conns) c b distinct =
    told_once_by d conns c b distinct (or_same d c) (told_once conns c b (λ i j lt inside. distinct (suc i) (suc j) (omega (arith, lt))
    (omega (arith, inside))))

-- ---- what is left to be delivered

-- what waits now, and what these packets tell, are what waited at the start and what all packets tell
pub record Left (start : Waiting) (all : List Packet) (now : Waiting) (rest : List Packet) : Type 0 where
  pub each : MayAllBeTold (opened start) rest
  pub bytes : bytes_in rest ≤ now.bytes
  pub parts : parts_in rest ≤ now.parts
  pub told : (c : ℕ) → 1 ≤ c → c ≤ opened start → list_of now c ++ bytes_for c rest ≡ list_of start c ++ bytes_for c all
  pub same : opened now ≡ opened start
  -- what was spare at the start is spare still, but for what was put
  pub spare_bytes : start.bytes + bytes_in rest ≤ now.bytes + bytes_in all
  pub spare_parts : start.parts + parts_in rest ≤ now.parts + parts_in all

-- what `share` does with the first of them
pub record Shared (now after : Waiting) (p : Packet) : Type 0 where
  pub told : (c : ℕ) → 1 ≤ c → c ≤ opened now → list_of after c ≡ list_of now c ++ told p.to c p.bytes
  pub bytes : now.bytes ≤ after.bytes + length p.bytes
  pub parts : now.parts ≤ after.parts + length p.to
  pub same : opened after ≡ opened now

pub left_shared : (start : Waiting) (all : List Packet) (now after : Waiting) (p : Packet) (rest : List Packet)
    → Left start all now (p ∷ rest) → Shared now after p → Left start all after rest
left_shared start all now after p rest was does = record {
  each = was.each.1;
  bytes = omega (arith, was.bytes, does.bytes);
  parts = omega (arith, was.parts, does.parts);
  told = λ c low high.
      let b : List ℕ = bytes_if (list_any (λ d. d == c) p.to) p.bytes in
      ap (λ (l : List ℕ). l ++ bytes_for c rest) (does.told c low (omega (arith, high, was.same)))
      ∙ ap (λ (l : List ℕ). (list_of now c ++ l) ++ bytes_for c rest) (told_once p.to c p.bytes was.each.0.distinct)
      ∙ append_assoc (list_of now c) b (bytes_for c rest) ∙ was.told c low high;
  same = does.same ∙ was.same;
  spare_bytes = omega (arith, was.spare_bytes, does.bytes);
  spare_parts = omega (arith, was.spare_parts, does.parts);
}

pub left_step : (start now after : Waiting) (all : List Packet) (cuts more : List Cut) (c : Cut) (conns bytes to packet others rest : List
    ℕ)
    → cuts ≡ c ∷ more → Left start all now (cut_up cuts conns bytes) → to ≡ take c.conns conns → packet ≡ take c.bytes bytes
    → others ≡ drop c.conns conns → rest ≡ drop c.bytes bytes → Shared now after (record { to = to; bytes = packet })
    → Left start all after (cut_up more others rest)
left_step start now after all cuts more c conns bytes to packet others rest e was to_is packet_is others_is rest_is does =
    let P : List Cut → Type 0 = λ l. Left start all now (cut_up l conns bytes) in
    let Q : List ℕ → Type 0 = λ l. Shared now after (record { to = l; bytes = packet }) in
    let R : List ℕ → Type 0 = λ l. Shared now after (record { to = take c.conns conns; bytes = l }) in
    let S : List ℕ → Type 0 = λ l. Left start all after (cut_up more l (drop c.bytes bytes)) in
    let T : List ℕ → Type 0 = λ l. Left start all after (cut_up more others l) in
    subst T (sym rest_is) (subst S (sym others_is)
    (left_shared start all now after (record { to = take c.conns conns; bytes = take c.bytes bytes })
    (cut_up more (drop c.conns conns) (drop c.bytes bytes)) (subst P e was) (subst R packet_is (subst Q to_is does))))
