-- Members behind the quiet changes of a tick, beside the members as they were.
use Rattle.std.proofs.Common.{◌≡◌, ℕ, ◌-◌, List, [], ◌∷◌, refl, sym, subst, ap, ap₂, ◌∙◌, true, false, Bool, Option, Some}
use Rattle.std.proofs.Common.{None}
use Rattle.std.specs.Prelude.{◌||◌, nat_lt, map, filter, find, cond}
use Rattle.tt_world.specs.declared.setup.Setup.{Setup}
use Rattle.tt_rules.specs.declared.status.Status.{Status}
use Rattle.tt_rules.specs.declared.status.Status.TheVariants.{Inactive, NewgrfsCheck, AuthGame, AuthCompany, Authorized, MapWait, Map}
use Rattle.tt_rules.specs.declared.status.Status.TheVariants.{DoneMap, PreActive, Active}
use Rattle.tt_rules.specs.Reasons.{◌⇒◌}
use Rattle.tt_rules.specs.Codes.{timeout_password, timeout_computer, timeout_map, timeout_join}
use Rattle.tt_rules.specs.Statuses as status
use Rattle.tt_log.specs.Member.{Member, is_playing, is_welcomed, is_in}
use Rattle.tt_log.specs.Downloads.{is_downloading}
use Rattle.tt_log.specs.Tick.{late, late_in, keeps_token}
use Rattle.tt_members.specs.Leaving.{playing_in}

-- ---- lists of pairs

abbrev pub Pairs : (Member → Member → Type 0) → List Member → List Member → Type 0
Pairs R [] [] = Unit {0}
Pairs R [] (n ∷ ns) = ⊥
Pairs R (m ∷ ms) [] = ⊥
Pairs R (m ∷ ms) (n ∷ ns) = R m n × Pairs R ms ns

-- what was found, and what is
abbrev pub BothFound : (Member → Member → Type 0) → Option Member → Option Member → Type 0
BothFound R None None = Unit {0}
BothFound R None (Some n) = ⊥
BothFound R (Some m) None = ⊥
BothFound R (Some m) (Some n) = R m n

pub pairs_so : (R Q : Member → Member → Type 0) (ms ns : List Member) → ((m n : Member) → R m n → Q m n) → Pairs R ms ns → Pairs Q ms ns
pairs_so R Q [] [] so p = tt
pairs_so R Q [] (n ∷ ns) so p = absurd p
pairs_so R Q (m ∷ ms) [] so p = absurd p
pairs_so R Q (m ∷ ms) (n ∷ ns) so p = (so m n p.0, pairs_so R Q ms ns so p.1)

pub pairs_map : (R : Member → Member → Type 0) (f : Member → Member) (ms ns : List Member) → ((m n : Member) → R m n → R m (f n)) → Pairs R
    ms ns
    → Pairs R ms (map f ns)
pairs_map R f [] [] so p = tt
pairs_map R f [] (n ∷ ns) so p = absurd p
pairs_map R f (m ∷ ms) [] so p = absurd p
pairs_map R f (m ∷ ms) (n ∷ ns) so p = (so m n p.0, pairs_map R f ms ns so p.1)

pub pairs_own : (R : Member → Member → Type 0) (ms : List Member) → ((m : Member) → R m m) → Pairs R ms ms
pairs_own R [] own = tt
pairs_own R (m ∷ ms) own = (own m, pairs_own R ms own)

found_head : (R : Member → Member → Type 0) (b : Bool) (m n : Member) (x y : Option Member) → R m n → BothFound R x y
    → BothFound R (cond b (Some m) x) (cond b (Some n) y)
found_head R true m n x y own later = own
found_head R false m n x y own later = later

-- what a test finds, that looks at what is the same
pub both_found : (R : Member → Member → Type 0) (p : Member → Bool) (ms ns : List Member) → ((m n : Member) → R m n → p n ≡ p m) → Pairs R
    ms ns
    → BothFound R (find p ms) (find p ns)
both_found R p [] [] same q = tt
both_found R p [] (n ∷ ns) same q = absurd q
both_found R p (m ∷ ms) [] same q = absurd q
both_found R p (m ∷ ms) (n ∷ ns) same q =
    subst (λ (b : Bool). BothFound R (cond (p m) (Some m) (find p ms)) (cond b (Some n) (find p ns))) (sym (same m n q.0))
    (found_head R (p m) m n (find p ms) (find p ns) q.0 (both_found R p ms ns same q.1))

plays_head : (b : Bool) (m n : Member) (ms ns : List Member) → n.conn ≡ m.conn → playing_in ns ≡ playing_in ms
    → map (λ (k : Member). k.conn) (cond b (n ∷ filter is_playing ns) (filter is_playing ns))
    ≡ map (λ (k : Member). k.conn) (cond b (m ∷ filter is_playing ms) (filter is_playing ms))
plays_head true m n ms ns own later = ap₂ (λ (x : ℕ) (xs : List ℕ). x ∷ xs) own later
plays_head false m n ms ns own later = later

-- the same ones play
pub same_playing : (R : Member → Member → Type 0) (ms ns : List Member) → ((m n : Member) → R m n → (n.conn ≡ m.conn) × (is_playing n ≡
    is_playing m))
    → Pairs R ms ns → playing_in ns ≡ playing_in ms
same_playing R [] [] same p = refl
same_playing R [] (n ∷ ns) same p = absurd p
same_playing R (m ∷ ms) [] same p = absurd p
same_playing R (m ∷ ms) (n ∷ ns) same p =
    ap (λ (b : Bool). map (λ (k : Member). k.conn) (cond b (n ∷ filter is_playing ns) (filter is_playing ns))) (same m n p.0).1
    ∙ plays_head (is_playing m) m n ms ns (same m n p.0).0 (same_playing R ms ns same p.1)

-- ---- members that are alike

-- but for its company, its token and what waits
pub record IsLike (setup : Setup) (frame : ℕ) (m n : Member) : Type 0 where
  pub conn : n.conn ≡ m.conn
  pub client : n.client ≡ m.client
  pub name : n.name ≡ m.name
  pub status : n.status ≡ m.status
  pub pieces : n.pieces ≡ m.pieces
  pub since : n.since ≡ m.since
  pub acked : n.acked ≡ m.acked
  pub keeps : keeps_token setup frame n ≡ keeps_token setup frame m

abbrev pub AreLike : Setup → ℕ → List Member → List Member → Type 0
AreLike setup frame ms ns = Pairs (IsLike setup frame) ms ns

-- for an end all that counts
pub record IsQuiet (setup : Setup) (frame : ℕ) (m n : Member) : Type 0 where
  pub conn : n.conn ≡ m.conn
  pub client : n.client ≡ m.client
  pub welcomed : is_welcomed n ≡ is_welcomed m
  pub playing : is_playing n ≡ is_playing m
  pub waiting : is_in MapWait n ≡ is_in MapWait m
  pub downloading : is_downloading n ≡ is_downloading m
  pub late : late setup frame n ≡ late setup frame m

abbrev pub AreQuiet : Setup → ℕ → List Member → List Member → Type 0
AreQuiet setup frame ms ns = Pairs (IsQuiet setup frame) ms ns

pub own_like : (setup : Setup) (frame : ℕ) (m : Member) → IsLike setup frame m m
own_like setup frame m =
    record { conn = refl; client = refl; name = refl; status = refl; pieces = refl; since = refl; acked = refl; keeps = refl }

pub same_late : (s : Status) (setup : Setup) (frame : ℕ) (m n : Member) → n.since ≡ m.since → n.acked ≡ m.acked
    → keeps_token setup frame n ≡ keeps_token setup frame m → late_in s setup frame n ≡ late_in s setup frame m
same_late Inactive setup frame m n since acked keeps = ap (λ (k : ℕ). nat_lt setup.init (frame - k) ⇒ timeout_computer) since
same_late NewgrfsCheck setup frame m n since acked keeps = refl
same_late AuthGame setup frame m n since acked keeps = ap (λ (k : ℕ). nat_lt setup.pass_limit (frame - k) ⇒ timeout_password) since
same_late AuthCompany setup frame m n since acked keeps = ap (λ (k : ℕ). nat_lt setup.pass_limit (frame - k) ⇒ timeout_password) since
same_late Authorized setup frame m n since acked keeps = ap (λ (k : ℕ). nat_lt setup.init (frame - k) ⇒ timeout_computer) since
same_late MapWait setup frame m n since acked keeps = refl
same_late Map setup frame m n since acked keeps = ap (λ (k : ℕ). nat_lt setup.download (frame - k) ⇒ timeout_map) since
same_late DoneMap setup frame m n since acked keeps = ap (λ (k : ℕ). nat_lt setup.download (frame - k) ⇒ timeout_map) since
same_late PreActive setup frame m n since acked keeps = ap (λ (k : ℕ). nat_lt setup.join (frame - k) ⇒ timeout_join) since
same_late Active setup frame m n since acked keeps =
    ap₂ (λ (k : ℕ) (b : Bool). nat_lt setup.lag (frame - k) || b ⇒ timeout_computer) acked keeps

pub like_late : (setup : Setup) (frame : ℕ) (m n : Member) → IsLike setup frame m n → late setup frame n ≡ late setup frame m
like_late setup frame m n l =
    ap (λ (s : Status). late_in s setup frame n) l.status ∙ same_late m.status setup frame m n l.since l.acked l.keeps

pub like_quiet : (setup : Setup) (frame : ℕ) (m n : Member) → IsLike setup frame m n → IsQuiet setup frame m n
like_quiet setup frame m n l = record {
  conn = l.conn;
  client = l.client;
  welcomed = ap status.is_welcomed l.status;
  playing = ap status.is_playing l.status;
  waiting = ap (status.is_at MapWait) l.status;
  downloading = ap (λ (s : Status). status.is_at Map s || status.is_at DoneMap s) l.status;
  late = like_late setup frame m n l;
}

pub like_playing : (setup : Setup) (frame : ℕ) (ms ns : List Member) → AreLike setup frame ms ns → playing_in ns ≡ playing_in ms
like_playing setup frame ms ns l =
    same_playing (IsLike setup frame) ms ns (λ m n (k : IsLike setup frame m n). (k.conn, ap status.is_playing k.status)) l

pub quiet_playing : (setup : Setup) (frame : ℕ) (ms ns : List Member) → AreQuiet setup frame ms ns → playing_in ns ≡ playing_in ms
quiet_playing setup frame ms ns l =
    same_playing (IsQuiet setup frame) ms ns (λ m n (k : IsQuiet setup frame m n). (k.conn, k.playing)) l
