-- Members are in order behind the plans of messages.
use Rattle.std.proofs.Common.{◌≡◌, ◌<◌, ◌≤◌, ◌^◌, ℕ, List, [], ◌∷◌, refl, sym, subst, true, false, Bool, Some, None}
use Rattle.std.proofs.Common.{arith}
use Rattle.std.specs.Prelude.{find, ◌==◌, cond}
use Rattle.std.specs.List.{AllByRecursion}
use Rattle.tt_log.specs.History.{AreRising}
use Rattle.tt_log.specs.Member.{Member}
use Rattle.tt_log.specs.Table.{is_on}
use Rattle.tt_members.specs.Crew.{Crew}
use Rattle.tt_members.specs.Done.{renamed}
use Rattle.tt_members.specs.Planned.{Planned}
use Rattle.tt_members.specs.Rules.{Rise}
use Rattle.tt_members.proofs.Found.{conns_of, rise_after, rise_renamed}
use Rattle.tt_join.specs.Members.{IsOrdered}

-- a plan that brings nobody, counts nobody, and lets no command wait
pub record IsCalm (p : Planned) : Type 0 where
  pub arrives : p.arrives ≡ None
  pub counts : p.counts ≡ false
  pub offers : p.offers ≡ None

pub calm_ordered : (crew : Crew) (p : Planned) → Rise crew.members → crew.clients < 2 ^ 32 → IsCalm p → IsOrdered crew p
calm_ordered crew p rise few calm = record {
  rise = rw (calm.arrives, calm.offers) (rise_after p.edits (renamed p.names crew.members) (rise_renamed p.names crew.members rise));
  few = rw calm.counts few;
  waits = rw calm.offers tt;
}

-- what holds of the one that is found holds of each on its connection
above_all : (n conn : ℕ) (P : Member → Type 0) (ms : List Member) → AreRising n (conns_of ms) → conn ≤ n → AllByRecursion (λ m. is_on conn
    m ≡ true → P m) ms
above_all n conn P [] rising low = tt
above_all n conn P (m ∷ ms) rising low = (
  (λ here. absurd (let e : m.conn ≡ conn = grind (arith, here) in omega (arith, rising.0, low))),
  above_all m.conn conn P ms rising.1 (omega (arith, rising.0, low)),
)

all_head : (b : Bool) (conn : ℕ) (P : Member → Type 0) (m k : Member) (ms : List Member) → (k.conn == conn) ≡ b → AreRising k.conn
    (conns_of ms) → P m
    → cond b (Some k) (find (is_on conn) ms) ≡ Some m → (find (is_on conn) ms ≡ Some m → AllByRecursion (λ x. is_on conn x ≡ true → P x) ms)
    → (b ≡ true → P k) × AllByRecursion (λ x. is_on conn x ≡ true → P x) ms
all_head true conn P m k ms e rising holds is later =
    let same : k ≡ m = cc in
    ((λ here. subst P (sym same) holds), above_all k.conn conn P ms rising (let low : conn ≤ k.conn = grind (arith, e) in low))
all_head false conn P m k ms e rising holds is later = ((λ here. absurd cc), later is)

pub all_found : (n conn : ℕ) (P : Member → Type 0) (m : Member) (ms : List Member) → AreRising n (conns_of ms) → P m → find (is_on conn) ms
    ≡ Some m
    → AllByRecursion (λ x. is_on conn x ≡ true → P x) ms
all_found n conn P m [] rising holds is = tt
all_found n conn P m (k ∷ ms) rising holds is =
    all_head (k.conn == conn) conn P m k ms refl rising.1 holds is (all_found k.conn conn P m ms rising.1 holds)
