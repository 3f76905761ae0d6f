-- What follows from a verdict: its code is that of a reason, and a name that is allowed is not empty and not too long.
use Rattle.std.proofs.Common.{◌≡◌, ◌≤◌, ◌<◌, ℕ, List, refl, true, false, Bool, Option, Some, None, arith}
use Rattle.std.specs.Prelude.{not, ◌||◌, ◌==◌, nat_le, nat_lt}
use Rattle.tt_game.specs.declared.message.GameMsg.{GameMsg}
use Rattle.tt_game.specs.declared.message.GameMsg.TheVariants.{ClientAck, ClientCommand, ClientSetPassword, ClientMove}
use Rattle.tt_rules.specs.declared.status.Standing.{Standing}
use Rattle.tt_rules.specs.declared.status.Verdict.{Verdict}
use Rattle.tt_rules.specs.declared.status.Verdict.TheVariants.{Allowed, Ends}
use Rattle.tt_rules.specs.Reasons.{◌⇒◌, ◌or_else◌}
use Rattle.tt_rules.specs.Commands.{is_own_code}
use Rattle.tt_rules.specs.Companies.{is_living}
use Rattle.tt_rules.specs.Verdict.{permits, refusal, first_reason, verdict_of, verdict, command_refusal, spectator}
use Rattle.tt_log.specs.Judged.{unless, join_refused, name_refused, is_empty, is_same_game, may_ask_for}
use Rattle.tt_log.specs.Names.{given_name, is_too_long}
use Rattle.tt_log.specs.Member.{Member}
use Rattle.tt_log.specs.Origin.{Origin}
use Rattle.tt_log.specs.Table.{Table}
use Rattle.tt_join.specs.Planning.{IsCode}

-- ---- codes

abbrev Within : Option ℕ → Type 0
Within None = Unit {0}
Within (Some code) = code ≤ 20

within_then : (b : Bool) (code : ℕ) → code ≤ 20 → Within (b ⇒ code)
within_then true code low = low
within_then false code low = tt

within_or : (x y : Option ℕ) → Within x → Within y → Within (x or_else y)
within_or None y first later = later
within_or (Some code) y first later = first

within_refusal : (said : GameMsg) (s : Standing) (live : List Bool) → Within (refusal s live said)
within_refusal (ClientAck frame token) s live =
    within_or (nat_lt frame s.acked || nat_lt s.told frame ⇒ 7) (not ((token == 0) || (token == s.token)) ⇒ 7)
    (within_then (nat_lt frame s.acked || nat_lt s.told frame) 7 (omega arith)) (within_then (not ((token == 0) || (token == s.token))) 7
    (omega arith))
within_refusal (ClientCommand company code number to text) s live =
    let last = within_then (not (company == s.company)) 11 (omega arith) in
    let fourth = within_or (not (is_living live company) ⇒ 12) (not (company == s.company) ⇒ 11)
    (within_then (not (is_living live company)) 12 (omega arith)) last in
    let third = within_or (is_own_code code ⇒ 12) (not (is_living live company) ⇒ 12 or_else not (company == s.company) ⇒ 11)
    (within_then (is_own_code code) 12 (omega arith)) fourth in
    let second = within_or (nat_lt 8 code ⇒ 7) (is_own_code code ⇒ 12 or_else not (is_living live company) ⇒ 12 or_else not (company ==
    s.company) ⇒ 11)
    (within_then (nat_lt 8 code) 7 (omega arith)) third in
    within_or (nat_le 16 s.waiting ⇒ 15)
    (nat_lt 8 code ⇒ 7 or_else is_own_code code ⇒ 12 or_else not (is_living live company) ⇒ 12 or_else not (company == s.company) ⇒ 11)
    (within_then (nat_le 16 s.waiting) 15 (omega arith)) second
within_refusal (ClientSetPassword digest) s live = within_then (nat_lt 14 s.company) 11 (omega arith)
within_refusal (ClientMove company digest) s live = within_then (not ((company == spectator) || is_living live company)) 11 (omega arith)
within_refusal other s live = tt

within_first : (b : Bool) (x : Option ℕ) → Within x → Within (first_reason b x)
within_first true x low = low
within_first false x low = omega arith

is_code : (x : Option ℕ) → Within x → IsCode (verdict_of x)
is_code None low = tt
is_code (Some code) low = low

pub verdict_code : (said : GameMsg) (s : Standing) (live : List Bool) → IsCode (verdict s live said)
verdict_code said s live = is_code (first_reason (permits said s.status) (refusal s live said))
    (within_first (permits said s.status) (refusal s live said) (within_refusal said s live))

-- ---- what is allowed

pub unless_allowed : (v : Verdict) (x : Option ℕ) → unless v x ≡ Allowed → (v ≡ Allowed) × (x ≡ None)
unless_allowed Allowed None is = (refl, refl)
unless_allowed Allowed (Some code) is = absurd cc
unless_allowed (Ends code) x is = absurd cc

pub unless_ends : (v : Verdict) (code : ℕ) (x : Option ℕ) → v ≡ Ends code → unless v x ≡ v
unless_ends Allowed code x is = absurd cc
unless_ends (Ends one) code x is = refl

then_none : (b : Bool) (code : ℕ) → (b ⇒ code) ≡ None → b ≡ false
then_none true code is = absurd cc
then_none false code is = refl

or_none : (x y : Option ℕ) → (x or_else y) ≡ None → (x ≡ None) × (y ≡ None)
or_none None y is = (refl, is)
or_none (Some code) y is = absurd cc

pub join_named : (o : Origin) (live : List Bool) (t : Table) (m : Member) (revision : List ℕ) (grf : ℕ) (name : List ℕ) (company : ℕ)
    → join_refused o live t m revision grf name company ≡ None → (is_empty name ≡ false) × (is_too_long (given_name t m.conn name) ≡ false)
join_named o live t m revision grf name company is =
    let one = or_none (not (is_same_game o revision grf) ⇒ 8)
    (is_empty name ⇒ 20 or_else not (may_ask_for live company) ⇒ 11 or_else is_too_long (given_name t m.conn name) ⇒ 9) is in
    let two = or_none (is_empty name ⇒ 20) (not (may_ask_for live company) ⇒ 11 or_else is_too_long (given_name t m.conn name) ⇒ 9) one.1 in
    let three = or_none (not (may_ask_for live company) ⇒ 11) (is_too_long (given_name t m.conn name) ⇒ 9) two.1 in
    (then_none (is_empty name) 20 two.0, then_none (is_too_long (given_name t m.conn name)) 9 three.1)

pub name_named : (t : Table) (m : Member) (name : List ℕ) → name_refused t m name ≡ None
    → (is_empty name ≡ false) × (is_too_long (given_name t m.conn name) ≡ false)
name_named t m name is =
    let two = or_none (is_empty name ⇒ 20) (is_too_long (given_name t m.conn name) ⇒ 9) is in
    (then_none (is_empty name) 20 two.0, then_none (is_too_long (given_name t m.conn name)) 9 two.1)

-- a command is allowed only where fewer than sixteen wait
pub few_wait : (s : Standing) (live : List Bool) (company code : ℕ) → command_refusal s live company code ≡ None → s.waiting < 16
few_wait s live company code is =
    let one = or_none (nat_le 16 s.waiting ⇒ 15)
    (nat_lt 8 code ⇒ 7 or_else is_own_code code ⇒ 12 or_else not (is_living live company) ⇒ 12 or_else not (company == s.company) ⇒ 11) is
    in
    let e : nat_le 16 s.waiting ≡ false = then_none (nat_le 16 s.waiting) 15 one.0 in
    grind (arith, e)

first_none : (b : Bool) (x : Option ℕ) → verdict_of (first_reason b x) ≡ Allowed → x ≡ None
first_none true None is = refl
first_none true (Some code) is = absurd cc
first_none false x is = absurd cc

pub allowed_refusal : (said : GameMsg) (s : Standing) (live : List Bool) → verdict s live said ≡ Allowed → refusal s live said ≡ None
allowed_refusal said s live is = first_none (permits said s.status) (refusal s live said) is
