-- Packets of tellings: what they tell a connection, and those of one step.
use Rattle.std.proofs.Common.{◌≡◌, ℕ, Bool, true, false, List, [], ◌∷◌, ◌++◌, map, length, refl, sym, ap, subst, ◌∙◌, append_assoc}
use Rattle.std.proofs.Common.{arith}
use Rattle.std.specs.Prelude.{◌==◌, flat_map, Result, Ok, Err, OnOk}
use Rattle.std.specs.List.{list_any}
use Rattle.std.proofs.lemmas.Grind.{flat_map-append}
use Rattle.std.proofs.lemmas.List.{append-nil}
use Rattle.tt_log.specs.Deed.{Said, spelled}
use Rattle.tt_log.specs.declared.deed.Step.{Step}
use Rattle.tt_log.specs.Filling.{Filling}
use Rattle.tt_log.specs.Origin.{Origin}
use Rattle.tt_log.specs.Tellings.{Telling, filled, said_by, telling}
use Rattle.tt_log.specs.Told.{kept_if, told_to}
use Rattle.tt_log.specs.Admin.{Admin}
use Rattle.tt_members.specs.declared.step.Step as plan
use Rattle.tt_members.specs.Steps.{conns_of, step_in, steps_in}
use Rattle.tt_outgoing.specs.Waiting.{bytes_if}
use Rattle.tt_outgoing.specs.declared.sources.Sources.{Sources}
use Rattle.tt_outgoing.specs.Sources.{AreAtHand, IsAtHand}
use Rattle.tt_outgoing.specs.Staging.{MayAllBeSaid, MayAllBeTold, MayBeTold, Packet, bytes_for, packet_to, packets_of, packets_to}

-- ---- what packets tell a connection

told_if : (b : Bool) (s : Said) (rest : List Said) → bytes_if b (spelled s) ++ flat_map spelled rest ≡ flat_map spelled (kept_if b s rest)
told_if true s rest = refl
told_if false s rest = refl

told_one : (conn : ℕ) (to : List ℕ) (s : Said) (rest : List Said)
    → bytes_for conn (packet_to to s) ++ flat_map spelled rest ≡ flat_map spelled (kept_if (list_any (λ c. c == conn) to) s rest)
told_one conn [] s rest = refl
told_one conn (c ∷ cs) s rest =
    let b : Bool = list_any (λ d. d == conn) (c ∷ cs) in
    ap (λ (l : List ℕ). l ++ flat_map spelled rest) (append-nil (bytes_if b (spelled s))) ∙ told_if b s rest

pub packets_told : (conn : ℕ) (ds : List Telling) → bytes_for conn (packets_of ds) ≡ flat_map spelled (told_to conn ds)
packets_told conn [] = refl
packets_told conn (d ∷ ds) =
    flat_map-append (λ (p : Packet). bytes_if (list_any (λ c. c == conn) p.to) p.bytes) (packet_to d.to d.said) (packets_of ds)
    ∙ ap (λ (l : List ℕ). bytes_for conn (packet_to d.to d.said) ++ l) (packets_told conn ds)
    ∙ told_one conn d.to d.said (told_to conn ds)

-- ---- the packets of a step

packets_said : (to : List ℕ) (said : List Said) → packets_of (map (telling to) said) ≡ packets_to to said
packets_said to [] = refl
packets_said to (s ∷ said) = ap (λ (l : List Packet). packet_to to s ++ l) (packets_said to said)

pub packets_step : (o : Origin) (f : Filling) (s : Step) → packets_of (filled o f (s ∷ [])) ≡ packets_to s.to (said_by o f s.what)
packets_step o f s = ap packets_of (append-nil (map (telling s.to) (said_by o f s.what))) ∙ packets_said s.to (said_by o f s.what)

-- nobody is told
nobody_told : (said : List Said) → packets_to [] said ≡ []
nobody_told [] = refl
nobody_told (s ∷ said) = nobody_told said

pub packets_nobody : (to : List ℕ) (said : List Said) → length to ≡ 0 → packets_to to said ≡ []
packets_nobody [] said e = nobody_told said
packets_nobody (c ∷ to) said e = absurd (omega (arith, e))

pub packet_nobody : (to : List ℕ) (s : Said) → length to ≡ 0 → packet_to to s ≡ []
packet_nobody [] s e = refl
packet_nobody (c ∷ to) s e = absurd (omega (arith, e))

-- somebody is told
pub packet_somebody : (to : List ℕ) (s : Said) → (length to ≡ 0 → ⊥) → packet_to to s ≡ record { to = to; bytes = spelled s } ∷ []
packet_somebody [] s ne = absurd (ne refl)
packet_somebody (c ∷ to) s ne = refl

-- ---- a step is staged

pub on_ok : {A E P Q : Type 0} (r : Result A E) → (P → Q) → OnOk r P → OnOk r Q
on_ok (Ok x) f h = f h
on_ok (Err e) f h = tt

pub staged_step : (o : Origin) (f : Filling) (admins : List Admin) (step : plan.Step) (conns : List ℕ) (old new : List Packet)
    → conns_of admins step.to ≡ conns → new ≡ old ++ packets_to conns (said_by o f step.what)
    → new ≡ old ++ packets_of (filled o f (step_in admins step ∷ []))
staged_step o f admins step conns old new to_is new_is =
    new_is ∙ ap (λ (l : List ℕ). old ++ packets_to l (said_by o f step.what)) (sym to_is)
    ∙ ap (λ (l : List Packet). old ++ l) (sym (packets_step o f (step_in admins step)))

-- ---- steps, one after another

packets_first : (o : Origin) (f : Filling) (s : Step) (steps : List Step)
    → packets_of (filled o f (s ∷ steps)) ≡ packets_of (filled o f (s ∷ [])) ++ packets_of (filled o f steps)
packets_first o f s steps =
    let said : List Telling = map (telling s.to) (said_by o f s.what) in
    flat_map-append (λ (d : Telling). packet_to d.to d.said) said (filled o f steps)
    ∙ ap (λ (l : List Telling). packets_of l ++ packets_of (filled o f steps)) (sym (append-nil said))

-- what is at hand, and what is staged and left
abbrev pub AreLeft : Origin → Filling → Sources → List Admin → List Packet → List plan.Step → List Packet → Type 0
AreLeft o f s admins all steps now = AreAtHand o f s steps × (now ++ packets_of (filled o f (steps_in admins steps)) ≡ all)

pub left_next : (o : Origin) (f : Filling) (s : Sources) (admins : List Admin) (all now after : List Packet) (left more : List plan.Step)
    (step : plan.Step) → left ≡ step ∷ more → AreLeft o f s admins all left now
    → (IsAtHand o f s step.what → after ≡ now ++ packets_of (filled o f (step_in admins step ∷ []))) → AreLeft o f s admins all more after
left_next o f s admins all now after left more step first was does =
    let P : List plan.Step → Type 0 = λ l. AreLeft o f s admins all l now in
    let is : AreLeft o f s admins all (step ∷ more) now = subst P first was in
    let one : List Packet = packets_of (filled o f (step_in admins step ∷ [])) in
    let rest : List Packet = packets_of (filled o f (steps_in admins more)) in (
      is.0.1,
      ap (λ (l : List Packet). l ++ rest) (does is.0.0) ∙ append_assoc now one rest
          ∙ ap (λ (l : List Packet). now ++ l) (sym (packets_first o f (step_in admins step) (steps_in admins more))) ∙ is.1,
    )

-- ---- who is told

packet_for : (most : ℕ) (to : List ℕ) (s : Said) (packets : List Packet) → MayBeTold most to → MayAllBeTold most packets
    → MayAllBeTold most (packet_to to s ++ packets)
packet_for most [] s packets may all = all
packet_for most (c ∷ to) s packets may all = (may, all)

pub packets_for : (most : ℕ) (ds : List Telling) → MayAllBeSaid most ds → MayAllBeTold most (packets_of ds)
packets_for most [] may = tt
packets_for most (d ∷ ds) may = packet_for most d.to d.said (packets_of ds) may.0 (packets_for most ds may.1)
