-- Those that play are told how far they may run, one after another: it is one change of all.
use Rattle.std.proofs.Common.{◌≡◌, ℕ, ◌-◌, ◌<◌, ◌≤◌, List, [], ◌∷◌, ◌++◌, refl, sym, ap, ap₂, ◌∙◌, true, false, Bool, Option}
use Rattle.std.proofs.Common.{Some}
use Rattle.std.proofs.Common.{arith, append_assoc}
use Rattle.std.specs.Prelude.{◌==◌, ◌&&◌, not, nat_lt, map, find, cond}
use Rattle.std.specs.List.{AllByRecursion}
use Rattle.std.proofs.lemmas.List.{map-append}
use Rattle.tt_world.specs.declared.setup.Setup.{Setup}
use Rattle.tt_world.specs.Random.{next_random}
use Rattle.tt_game.specs.declared.message.GameMsg.TheVariants.{ServerFrame}
use Rattle.tt_log.specs.declared.deed.Step as book
use Rattle.tt_log.specs.Member.{Member, is_playing}
use Rattle.tt_log.specs.Table.{Table, is_on, member_of}
use Rattle.tt_log.specs.Deed.{Deed, ◌▹◌, where_, where_some}
use Rattle.tt_log.specs.Frames.{fresh_token, tells_frame, tells_frame_by, frames_told}
use Rattle.tt_log.specs.History.{AreRising}
use Rattle.tt_log.specs.Tick.{keeps_token, drawn}
use Rattle.tt_log.proofs.Lists.{all-append, all-so}
use Rattle.tt_members.specs.declared.step.Step.{Step}
use Rattle.tt_members.specs.Edits.{permitted_by, words_by, permitted, words_after}
use Rattle.tt_members.specs.Steps.{step_in, steps_in, says_one}
use Rattle.tt_join.specs.Ticking.{step_if, token_told, permitting}
use Rattle.tt_join.proofs.Like.{IsLike, AreLike}

-- a table with other members and words
abbrev pub with_words : Table → List Member → ℕ × ℕ → Table
with_words t ms words = record t { members = ms; tokens = words }

-- one member behind its FRAME
abbrev pub permitted_one : ℕ → ℕ → ℕ × ℕ → Member → Member
permitted_one frame top words m = cond (is_playing m) (permitted_by (m.token == 0) frame top words m) m

-- ---- its place

abbrev pub AreUpTo : ℕ → List Member → Type 0
AreUpTo n ms = AllByRecursion (λ (m : Member). m.conn ≤ n) ms

-- what stands before it is on other connections
find_behind : (n conn : ℕ) (pre ms : List Member) → AreUpTo n pre → n < conn → find (is_on conn) (pre ++ ms) ≡ find (is_on conn) ms
find_behind n conn [] ms low above = refl
find_behind n conn (k ∷ pre) ms low above =
    let other : (k.conn == conn) ≡ false = grind (arith, low.0) in
    rw other (find_behind n conn pre ms low.1 above)

put_behind : (n conn : ℕ) (x : Member) (pre ms : List Member) → AreUpTo n pre → n < conn
    → map (λ (k : Member). cond (k.conn == conn) x k) (pre ++ ms) ≡ pre ++ map (λ (k : Member). cond (k.conn == conn) x k) ms
put_behind n conn x [] ms low above = refl
put_behind n conn x (k ∷ pre) ms low above =
    let other : (k.conn == conn) ≡ false = grind (arith, low.0) in
    rw other (ap (λ (xs : List Member). k ∷ xs) (put_behind n conn x pre ms low.1 above))

-- and so is what stands behind it
put_before : (n conn : ℕ) (x : Member) (ms : List Member) → AreRising n (map (λ (m : Member). m.conn) ms) → conn ≤ n
    → map (λ (k : Member). cond (k.conn == conn) x k) ms ≡ ms
put_before n conn x [] rising low = refl
put_before n conn x (m ∷ ms) rising low =
    let other : (m.conn == conn) ≡ false = grind (arith, rising.0) in
    rw other (ap (λ (xs : List Member). m ∷ xs) (put_before m.conn conn x ms rising.1 (omega (arith, rising.0, low))))

found_here : (n : ℕ) (m : Member) (pre ms : List Member) → AreUpTo n pre → n < m.conn → find (is_on m.conn) (pre ++ m ∷ ms) ≡ Some m
found_here n m pre ms low above =
    let own : (m.conn == m.conn) ≡ true = grind arith in
    find_behind n m.conn pre (m ∷ ms) low above ∙ rw own refl

put_here : (n : ℕ) (m x : Member) (pre ms : List Member) → AreUpTo n pre → n < m.conn → AreRising m.conn (map (λ (k : Member). k.conn) ms)
    → map (λ (k : Member). cond (k.conn == m.conn) x k) (pre ++ m ∷ ms) ≡ pre ++ x ∷ ms
put_here n m x pre ms low above rising =
    let own : (m.conn == m.conn) ≡ true = grind arith in
    put_behind n m.conn x pre (m ∷ ms) low above
    ∙ rw own (ap (λ (xs : List Member). pre ++ x ∷ xs) (put_before m.conn m.conn x ms rising (omega arith)))

-- ---- one FRAME

-- what is behind it: a member that plays or not, with an open token or not
abbrev told_by : Bool → Bool → Member → List Member → List Member → Table → ℕ × ℕ → Deed
told_by b c m pre ms t words = record {
  table = with_words t (pre ++ cond b (permitted_by c t.frame t.top words m) m ∷ ms) (cond (b && c) (next_random words) words);
  told = steps_in t.admins (step_if b (says_one m.conn (ServerFrame t.frame t.top (token_told c words))));
}

told_one : (b c : Bool) (n : ℕ) (m : Member) (pre ms : List Member) (t : Table) (words : ℕ × ℕ) → AreUpTo n pre → n < m.conn
    → AreRising m.conn (map (λ (k : Member). k.conn) ms)
    → where_ b (tells_frame_by c m) (with_words t (pre ++ m ∷ ms) words) ≡ told_by b c m pre ms t words
told_one true true n m pre ms t words low above rising =
    ap (λ (ks : List Member). record {
      table = with_words t ks (next_random words);
      told = steps_in t.admins (step_if true (says_one m.conn (ServerFrame t.frame t.top (fresh_token words))));
    }) (put_here n m (permitted_by true t.frame t.top words m) pre ms low above rising)
told_one true false n m pre ms t words low above rising =
    ap (λ (ks : List Member). record {
      table = with_words t ks words;
      told = steps_in t.admins (step_if true (says_one m.conn (ServerFrame t.frame t.top 0)));
    }) (put_here n m (permitted_by false t.frame t.top words m) pre ms low above rising)
told_one false c n m pre ms t words low above rising = refl

tells_one : (n : ℕ) (m : Member) (pre ms : List Member) (t : Table) (words : ℕ × ℕ) → AreUpTo n pre → n < m.conn
    → AreRising m.conn (map (λ (k : Member). k.conn) ms)
    → where_some (member_of (with_words t (pre ++ m ∷ ms) words) m.conn) tells_frame (with_words t (pre ++ m ∷ ms) words)
    ≡ told_by (is_playing m) (m.token == 0) m pre ms t words
tells_one n m pre ms t words low above rising =
    ap (λ (x : Option Member). where_some x tells_frame (with_words t (pre ++ m ∷ ms) words)) (found_here n m pre ms low above)
    ∙ told_one (is_playing m) (m.token == 0) n m pre ms t words low above rising

-- ---- all of them

permitted_conn : (b c : Bool) (frame top : ℕ) (words : ℕ × ℕ) (m : Member) → (cond b (permitted_by c frame top words m) m).conn ≡ m.conn
permitted_conn true true frame top words m = refl
permitted_conn true false frame top words m = refl
permitted_conn false c frame top words m = refl

abbrev all_told : Table → List Member → List Member → ℕ × ℕ → Deed
all_told t pre ms words = record {
  table = with_words t (pre ++ permitted t.frame t.top words ms) (words_after ms words);
  told = steps_in t.admins (permitting t.frame t.top words ms);
}

told_all : (n : ℕ) (pre ms : List Member) (t : Table) (words : ℕ × ℕ) → AreUpTo n pre → AreRising n (map (λ (k : Member). k.conn) ms)
    → frames_told ms (with_words t (pre ++ ms) words) ≡ all_told t pre ms words
told_all n pre [] t words low rising = refl
told_all n pre (m ∷ ms) t words low rising =
    let x : Member = permitted_one t.frame t.top words m in
    let next : ℕ × ℕ = words_by m words in
    let first : List Step = step_if (is_playing m) (says_one m.conn (ServerFrame t.frame t.top (token_told (m.token == 0) words))) in
    let lower : AreUpTo m.conn pre = all-so (λ (k : Member). k.conn ≤ n) (λ (k : Member). k.conn ≤ m.conn) pre
    (λ k (l : k.conn ≤ n). omega (arith, l, rising.0)) low in
    let own : x.conn ≡ m.conn = permitted_conn (is_playing m) (m.token == 0) t.frame t.top words m in
    let here : x.conn ≤ m.conn = omega (arith, own) in
    let later : frames_told ms (with_words t (pre ++ x ∷ ms) next) ≡ all_told t (pre ++ x ∷ []) ms next =
    ap (λ (ks : List Member). frames_told ms (with_words t ks next)) (sym (append_assoc pre (x ∷ []) ms))
    ∙ told_all m.conn (pre ++ x ∷ []) ms t next (all-append (λ (k : Member). k.conn ≤ m.conn) pre (x ∷ []) lower (here, tt)) rising.1 in
    ap (λ (d : Deed). d ▹ frames_told ms) (tells_one n m pre ms t words low rising.0 rising.1)
    ∙ ap (λ (d : Deed). record { table = d.table; told = steps_in t.admins first ++ d.told }) later
    ∙ ap₂ (λ (ks : List Member) (ss : List book.Step). record { table = with_words t ks (words_after ms next); told = ss })
    (append_assoc pre (x ∷ []) (permitted t.frame t.top next ms))
    (sym (map-append (step_in t.admins) first (permitting t.frame t.top next ms)))

pub frames_are : (t : Table) → AreRising 0 (map (λ (k : Member). k.conn) t.members) → frames_told t.members t ≡ all_told t [] t.members
    t.tokens
frames_are t rising = told_all 0 [] t.members t t.tokens tt rising

-- ---- what stays

fresh_keeps : (setup : Setup) (frame top : ℕ) (words : ℕ × ℕ) (m : Member) → (m.token == 0) ≡ true
    → keeps_token setup frame (permitted_by true frame top words m) ≡ keeps_token setup frame m
fresh_keeps setup frame top words m free =
    let new : nat_lt setup.lag (frame - frame) ≡ false = grind arith in
    let none : not (m.token == 0) ≡ false = ap not free in
    ap (λ (b : Bool). not (fresh_token words == 0) && b) new ∙ both_false (not (fresh_token words == 0))
    ∙ sym (ap (λ (b : Bool). b && nat_lt setup.lag (frame - m.token_frame)) none)
  where
    both_false : (b : Bool) → (b && false) ≡ false
    both_false true = refl
    both_false false = refl

permitted_like : (b c : Bool) (setup : Setup) (frame top : ℕ) (words : ℕ × ℕ) (m n : Member) → (n.token == 0) ≡ c → IsLike setup frame m n
    → IsLike setup frame m (cond b (permitted_by c frame top words n) n)
permitted_like true true setup frame top words m n free l = record {
  conn = l.conn;
  client = l.client;
  name = l.name;
  status = l.status;
  pieces = l.pieces;
  since = l.since;
  acked = l.acked;
  keeps = fresh_keeps setup frame top words n free ∙ l.keeps;
}
permitted_like true false setup frame top words m n free l = record {
  conn = l.conn;
  client = l.client;
  name = l.name;
  status = l.status;
  pieces = l.pieces;
  since = l.since;
  acked = l.acked;
  keeps = l.keeps;
}
permitted_like false c setup frame top words m n free l = l

pub all_permitted_like : (setup : Setup) (frame top : ℕ) (words : ℕ × ℕ) (ms ns : List Member) → AreLike setup frame ms ns
    → AreLike setup frame ms (permitted frame top words ns)
all_permitted_like setup frame top words [] [] l = tt
all_permitted_like setup frame top words [] (n ∷ ns) l = absurd l
all_permitted_like setup frame top words (m ∷ ms) [] l = absurd l
all_permitted_like setup frame top words (m ∷ ms) (n ∷ ns) l = (
  permitted_like (is_playing n) (n.token == 0) setup frame top words m n refl l.0,
  all_permitted_like setup frame top (words_by n words) ms ns l.1,
)

-- who waits has no part in it

pub drawn_permitted : (frame top : ℕ) (words : ℕ × ℕ) (ms : List Member) → permitting frame top words (map drawn ms) ≡ permitting frame top
    words ms
drawn_permitted frame top words [] = refl
drawn_permitted frame top words (m ∷ ms) = ap (λ (ss : List Step). step_if (is_playing m) (says_one m.conn (ServerFrame frame top
    (token_told (m.token == 0) words))) ++ ss) (drawn_permitted frame top (words_by m words) ms)

pub drawn_words : (words : ℕ × ℕ) (ms : List Member) → words_after (map drawn ms) words ≡ words_after ms words
drawn_words words [] = refl
drawn_words words (m ∷ ms) = drawn_words (words_by m words) ms

pub drawn_conns : (ms : List Member) → map (λ (k : Member). k.conn) (map drawn ms) ≡ map (λ (k : Member). k.conn) ms
drawn_conns [] = refl
drawn_conns (m ∷ ms) = ap (λ (xs : List ℕ). m.conn ∷ xs) (drawn_conns ms)

pub permitted_conns : (frame top : ℕ) (words : ℕ × ℕ) (ms : List Member) → map (λ (k : Member). k.conn) (permitted frame top words ms)
    ≡ map (λ (k : Member). k.conn) ms
permitted_conns frame top words [] = refl
permitted_conns frame top words (m ∷ ms) = ap₂ (λ (x : ℕ) (xs : List ℕ). x ∷ xs)
    (permitted_conn (is_playing m) (m.token == 0) frame top words m) (permitted_conns frame top (words_by m words) ms)
