-- Who downloads where the queue moves: a connection leaves it, or stands in it.
use Rattle.std.proofs.Common.{◌≡◌, ℕ, suc, ◌+◌, List, [], ◌∷◌, ◌++◌, refl, ap, sym, ◌∙◌, subst, true, false, Bool, Option, Some, None}
use Rattle.std.proofs.Common.{arith}
use Rattle.std.specs.Prelude.{◌==◌, cond, drop, find, length, map, nat_lt, not, take}
use Rattle.std.specs.List.{AllByRecursion}
use Rattle.std.proofs.lemmas.Bool.{eq-eqb, eqb-true, ne_eqb}
use Rattle.tt_game.specs.declared.message.GameMsg.{GameMsg}
use Rattle.tt_rules.specs.declared.status.Status.TheVariants.{MapWait, PreActive}
use Rattle.tt_world.specs.Random.{next_random}
use Rattle.tt_log.specs.declared.deed.Step.{Step}
use Rattle.tt_log.specs.declared.deed.What.TheVariants.{End, Entries}
use Rattle.tt_log.specs.Member.{Member, is_in, is_welcomed}
use Rattle.tt_log.specs.Table.{Table, downloader, first_loading, is_on, member_of, now_in, welcomed, with_member, without_member}
use Rattle.tt_log.specs.Deed.{Deed, ◌▹◌, tells_each, tells_what, where_, where_some}
use Rattle.tt_log.specs.Frames.{fresh_token, opened_token, tells_fresh}
use Rattle.tt_log.specs.Queue.{asks, begins, begins_for, begins_where, downloading, leaves_queue, left_place, moved_up}
use Rattle.tt_log.specs.Ending.{Farewell, Quitting, Failing, ends, leaves, tells_farewell}
use Rattle.tt_log.specs.PacketRules.{client_info, enters}
use Rattle.tt_log.proofs.Lists.{all-append, all-drop, all-so, all-take}
use Rattle.tt_log.proofs.Crew.{find-others, find-put-here, find-put-other, found-on, put}
use Rattle.tt_log.proofs.Phases.{place_in}
use Rattle.tt_log.proofs.Malformed.{later-stays}
use Rattle.tt_outgoing.specs.Carrying.{begins_map}
use Rattle.tt_outgoing.proofs.Loaders.{Alone, Calm, From, Idle, calm-alone, calm-then, from-calm}
use Rattle.tt_outgoing.proofs.Loaders.{idle-calm, if-loading, loading-if, out-calm, out-idle, put-idle, quiet-behind, quiet-front}
use Rattle.tt_outgoing.proofs.Loaders.{same-calm}

-- somebody's download begins at the table's frame: nothing of its map was told
pub record IsFresh (t : Table) : Type 0 where
  pub who : Member
  pub loads : downloader t ≡ Some who
  pub map_frame : who.map_frame ≡ t.frame
  pub pieces : who.pieces ≡ 0
  pub since : who.since ≡ t.frame

-- ---- those that stand behind the first place are told that they wait

pub waits-quiet : (place : ℕ) (xs : List ℕ) (t : Table) → begins_map (moved_up (suc place) xs t).told ≡ false
waits-quiet place [] t = refl
waits-quiet place (x ∷ xs) t = waits-quiet (suc place) xs t

-- ---- what a place that is free makes of the download: a map begins where the one that downloads was there, and another waits

pub record Parts (t u : Table) (begun : Bool) : Type 0 where
  pub alone : Alone u u.queue
  pub frame : u.frame ≡ t.frame
  pub fresh : begun ≡ true → IsFresh u
  pub goes : begun ≡ false → (n : Member) → downloader u ≡ Some n → downloader t ≡ Some n
  pub keeps : (n : Member) → downloader t ≡ Some n → (begun ≡ false) × (downloader u ≡ Some n)

abbrev pub PartsBy : Table → Deed → Type 0
PartsBy t d = Parts t d.table (begins_map d.told)

parts-still : (t : Table) → Alone t t.queue → Parts t t false
parts-still t alone = record {
  alone = alone;
  frame = refl;
  fresh = λ is. absurd cc;
  goes = λ no n is. is;
  keeps = λ n is. (refl, is);
}

-- and then the others wait
then-waits : (t : Table) (d : Deed) (place : ℕ) (xs : List ℕ) → PartsBy t d → PartsBy t (d ▹ moved_up (suc place) xs)
then-waits t d place xs p =
    let rest : List Step = (moved_up (suc place) xs d.table).told in
    subst (λ (b : Bool). Parts t (moved_up (suc place) xs d.table).table b) (sym (quiet-behind d.told rest (waits-quiet place xs d.table)))
    (subst (λ (v : Table). Parts t v (begins_map d.told)) (sym (later-stays 0 place xs d.table)) p)

-- ---- the next one, where nobody on the queue loads

abbrev AllIdle : Table → List ℕ → Type 0
AllIdle t xs = AllByRecursion (Idle t) xs

idle-alone : (t : Table) (xs : List ℕ) → AllIdle t xs → Alone t xs
idle-alone t [] a = tt
idle-alone t (x ∷ xs) a = all-so (Idle t) (λ y. (y == x) ≡ false → Idle t y) xs (λ y idle apart. idle) a.1

other-way : (c d : ℕ) → (d == c) ≡ false → (c == d) ≡ false
other-way c d is = ne_eqb c d (λ same. let e : (d == c) ≡ true = eq-eqb d c (sym same) in absurd cc)

begun-alone : (t : Table) (n : Member) (x : ℕ) (xs : List ℕ) → n.conn ≡ x → AllIdle t xs → Alone (with_member n t) (x ∷ xs)
begun-alone t n x xs at a = all-so (Idle t) (λ y. (y == x) ≡ false → Idle (with_member n t) y) xs
    (λ y idle apart k is loads. idle k (sym (find-put-other n y t.members (ap (λ (c : ℕ). c == y) at ∙ other-way x y apart)) ∙ is) loads) a

-- the member at the first place begins, if it waits
next-begins : (t : Table) (x : ℕ) (xs : List ℕ) (w : Table) → w.frame ≡ t.frame → w.queue ≡ x ∷ xs → AllIdle w (x ∷ xs)
    → ((n : Member) → downloader t ≡ Some n → ⊥) → PartsBy t (begins x w)
next-begins t x xs w frame q idle never = by (member_of w x) refl
  where
    first : (n : Member) → downloader w ≡ Some n → ⊥
    first n is = let a = if-loading (member_of w x) n (subst (λ (ys : List ℕ). first_loading ys w ≡ Some n) q is) in idle.0 n a.0 a.1

    none : PartsBy t (record { table = w; told = [] })
    none = record {
      alone = subst (λ (ys : List ℕ). Alone w ys) (sym q) (idle-alone w (x ∷ xs) idle);
      frame = frame;
      fresh = λ is. absurd cc;
      goes = λ no n is. absurd (first n is);
      keeps = λ n is. absurd (never n is);
    }

    some : (b : Bool) (k : Member) → k.conn ≡ x → member_of w x ≡ Some k → PartsBy t (where_ b (begins_for k) w)
    some false k at is = none
    some true k at is =
        let n : Member = downloading w k in
        let u : Table = with_member n w in
        let here : member_of u x ≡ Some n = subst (λ (c : ℕ). find (is_on c) (put n w.members) ≡ Some n) at
        (find-put-here n k w.members (subst (λ (c : ℕ). find (is_on c) w.members ≡ Some k) (sym at) is)) in
        record {
          alone = subst (λ (ys : List ℕ). Alone u ys) (sym q) (begun-alone w n x xs at idle.1);
          frame = frame;
          fresh = λ yes. record {
            who = n;
            loads = subst (λ (ys : List ℕ). first_loading ys u ≡ Some n) (sym q) (rw here refl);
            map_frame = refl;
            pieces = refl;
            since = refl;
          };
          goes = λ no. absurd cc;
          keeps = λ m is. absurd (never m is);
        }

    by : (y : Option Member) → member_of w x ≡ y → PartsBy t (where_some y begins_where w)
    by None is = none
    by (Some k) is = some (is_in MapWait k) k (found-on x w.members k is) is

-- the first place is free
head-left : (t : Table) (q : List ℕ) (w : Table) → w.frame ≡ t.frame → w.queue ≡ q → AllIdle w q
    → ((n : Member) → downloader t ≡ Some n → ⊥) → PartsBy t (moved_up 0 q w)
head-left t [] w frame q idle never = record {
  alone = subst (λ (ys : List ℕ). Alone w ys) (sym q) tt;
  frame = frame;
  fresh = λ is. absurd cc;
  goes = λ no n is. absurd (let e : None ≡ Some n = subst (λ (ys : List ℕ). first_loading ys w ≡ Some n) q is in cc);
  keeps = λ n is. absurd (never n is);
}
head-left t (x ∷ xs) w frame q idle never = then-waits t (begins x w) 0 xs (next-begins t x xs w frame q idle never)

-- ---- a connection on which nobody loads leaves the queue

one-behind : (k d : ℕ) (ds : List ℕ) → take (suc k) (d ∷ ds) ++ drop (suc k + 1) (d ∷ ds) ≡ d ∷ (take k ds ++ drop (k + 1) ds)
one-behind k d ds = let step : suc k + 1 ≡ suc (k + 1) = omega arith in ap (λ (j : ℕ). d ∷ take k ds ++ drop j (d ∷ ds)) step

later-left : (k d : ℕ) (ds : List ℕ) (t : Table) → t.queue ≡ d ∷ ds → Alone t (d ∷ ds) → PartsBy t (left_place (suc k) t)
later-left k d ds t q alone =
    let w : Table = record t { queue = take (suc k) t.queue ++ drop (suc k + 1) t.queue } in
    let behind : List ℕ = drop (suc k + 1) t.queue in
    let cut : w.queue ≡ d ∷ (take k ds ++ drop (k + 1) ds) =
    ap (λ (ys : List ℕ). take (suc k) ys ++ drop (suc k + 1) ys) q ∙ one-behind k d ds in
    let here : Parts t w false = record {
      alone = subst (λ (ys : List ℕ). Alone w ys) (sym cut) (all-append (λ y. (y == d) ≡ false → Idle t y) (take k ds) (drop (k + 1) ds)
          (all-take (λ y. (y == d) ≡ false → Idle t y) k ds alone) (all-drop (λ y. (y == d) ≡ false → Idle t y) (k + 1) ds alone));
      frame = refl;
      fresh = λ is. absurd cc;
      goes = λ no n is. subst (λ (ys : List ℕ). first_loading ys t ≡ Some n) (sym q)
          (subst (λ (ys : List ℕ). first_loading ys w ≡ Some n) cut is);
      keeps = λ n is. (
        refl,
        subst (λ (ys : List ℕ). first_loading ys w ≡ Some n) (sym cut)
            (subst (λ (ys : List ℕ). first_loading ys t ≡ Some n) q is),
      );
    } in
    then-waits t (record { table = w; told = [] }) k behind here

all-idle : (d : ℕ) (t : Table) (xs : List ℕ) → Idle t d → AllByRecursion (λ y. (y == d) ≡ false → Idle t y) xs → AllIdle t xs
all-idle d t [] idle a = tt
all-idle d t (x ∷ xs) idle a = (one (x == d) refl, all-idle d t xs idle a.1)
  where
    one : (b : Bool) → (x == d) ≡ b → Idle t x
    one true is = subst (λ (y : ℕ). Idle t y) (sym (eqb-true x d is)) idle
    one false is = a.0 is

cut-by : (q : List ℕ) (c : ℕ) (t : Table) → t.queue ≡ q → Idle t c → Alone t q
    → PartsBy t (where_some (cond (nat_lt (place_in c q) (length q)) (Some (place_in c q)) None) left_place t)
cut-by [] c t q idle alone = parts-still t (subst (λ (ys : List ℕ). Alone t ys) (sym q) alone)
cut-by (d ∷ ds) c t q idle alone = by (nat_lt (place_in c (d ∷ ds)) (length (d ∷ ds)))
  where
    at : (b : Bool) → (d == c) ≡ b → PartsBy t (left_place (cond (not b) (1 + place_in c ds) 0) t)
    at true is =
        let own : Idle t d = subst (λ (x : ℕ). Idle t x) (sym (eqb-true d c is)) idle in
        let never : (n : Member) → downloader t ≡ Some n → ⊥ = λ n loads.
        let a = if-loading (member_of t d) n (subst (λ (ys : List ℕ). first_loading ys t ≡ Some n) q loads) in own n a.0 a.1 in
        let P : List ℕ → Type 0 = λ ys. PartsBy t (moved_up 0 (drop 1 ys) (record t { queue = take 0 ys ++ drop 1 ys })) in
        subst P (sym q) (head-left t ds (record t { queue = ds }) refl refl (all-idle d t ds own alone) never)
    at false is =
        let one : suc (place_in c ds) ≡ 1 + place_in c ds = omega arith in
        subst (λ (k : ℕ). PartsBy t (left_place k t)) one (later-left (place_in c ds) d ds t q alone)

    by : (b : Bool) → PartsBy t (where_some (cond b (Some (place_in c (d ∷ ds))) None) left_place t)
    by true = at (d == c) refl
    by false = parts-still t (subst (λ (ys : List ℕ). Alone t ys) (sym q) alone)

pub parts-queue : (c : ℕ) (t : Table) → Idle t c → Alone t t.queue → PartsBy t (leaves_queue c t)
parts-queue c t idle alone = cut-by t.queue c t refl idle alone

-- ---- what a rule makes of the download

pub record Whole (t u : Table) (begun : Bool) : Type 0 where
  pub alone : Alone u u.queue
  pub frame : u.frame ≡ t.frame
  pub fresh : begun ≡ true → IsFresh u
  pub goes : begun ≡ false → From t u

abbrev pub WholeBy : Table → Deed → Type 0
WholeBy t d = Whole t d.table (begins_map d.told)

pub whole-calm : (t u : Table) → u.frame ≡ t.frame → Calm t u → Alone t t.queue → Whole t u false
whole-calm t u frame calm alone = record {
  alone = subst (λ (ys : List ℕ). Alone u ys) (sym calm.queue) (calm-alone t u t.queue calm alone);
  frame = frame;
  fresh = λ is. absurd cc;
  goes = λ no. from-calm t u calm;
}

whole-parts : (t v u : Table) (begun : Bool) → v.frame ≡ t.frame → Calm t v → Parts v u begun → Whole t u begun
whole-parts t v u begun frame calm p = record {
  alone = p.alone;
  frame = p.frame ∙ frame;
  fresh = p.fresh;
  goes = λ no n is. from-calm t v calm n (p.goes no n is);
}

-- ---- a member goes

out-alone : (c : ℕ) (t : Table) → Alone t t.queue → Alone (without_member c t) t.queue
out-alone c t alone = calm-alone t (without_member c t) t.queue (out-calm t c) alone

farewell-parts : (b : Bool) (f : Farewell) (m : Member) (t : Table) → Alone t t.queue
    → PartsBy (without_member m.conn t) (tells_what (m.conn ∷ []) End (without_member m.conn t) ▹ where_ b (tells_farewell f m)
    ▹ leaves_queue m.conn)
farewell-parts true Quitting m t alone = parts-queue m.conn (without_member m.conn t) (out-idle t m.conn) (out-alone m.conn t alone)
farewell-parts true (Failing code) m t alone = parts-queue m.conn (without_member m.conn t) (out-idle t m.conn) (out-alone m.conn t alone)
farewell-parts false f m t alone = parts-queue m.conn (without_member m.conn t) (out-idle t m.conn) (out-alone m.conn t alone)

leaves-parts : (m : Member) (f : Farewell) (t : Table) → Alone t t.queue → PartsBy (without_member m.conn t) (leaves m f t)
leaves-parts m f t alone = farewell-parts (is_welcomed m) f m t alone

pub leaves-whole : (m : Member) (f : Farewell) (t : Table) → Alone t t.queue → WholeBy t (leaves m f t)
leaves-whole m f t alone = whole-parts t (without_member m.conn t) (leaves m f t).table (begins_map (leaves m f t).told) refl
    (out-calm t m.conn) (leaves-parts m f t alone)

pub ends-whole : (m : Member) (code : ℕ) (t : Table) → Alone t t.queue → WholeBy t (ends m code t)
ends-whole m code t alone = leaves-whole m (Failing code) t alone

-- another one than the one that downloads
pub leaves-keeps : (m : Member) (f : Farewell) (t : Table) (n : Member) → Alone t t.queue → downloader t ≡ Some n
    → (m.conn == n.conn) ≡ false → (begins_map (leaves m f t).told ≡ false) × (downloader (leaves m f t).table ≡ Some n)
leaves-keeps m f t n alone is apart = (leaves-parts m f t alone).keeps n (by t.queue is)
  where
    by : (q : List ℕ) → first_loading q t ≡ Some n → first_loading q (without_member m.conn t) ≡ Some n
    by [] none = none
    by (d ∷ ds) some =
        let a = if-loading (member_of t d) n some in
        let at : n.conn ≡ d = found-on d t.members n a.0 in
        let other : (m.conn == d) ≡ false = subst (λ (x : ℕ). (m.conn == x) ≡ false) at apart in
        let found : member_of (without_member m.conn t) d ≡ Some n = find-others m.conn d t.members other ∙ a.0 in
        rw found (loading-if n a.1)

-- ---- a member enters the game

each-quiet : (conn : ℕ) (messages : List GameMsg) (t : Table) → begins_map (tells_each conn messages t).told ≡ false
each-quiet conn [] t = refl
each-quiet conn (m ∷ messages) t = each-quiet conn messages t

pub enters-whole : (m : Member) (t : Table) → Alone t t.queue → WholeBy t (enters m t)
enters-whole m t alone =
    let n : Member = record (now_in PreActive t m) { acked = m.map_frame; told = t.top } in
    let u : Table = with_member n t in
    let p : Member = opened_token (fresh_token t.tokens) u n in
    let drawn : Table = record u { tokens = next_random t.tokens } in
    let v : Table = with_member p drawn in
    let calm : Calm t v = calm-then t u v (idle-calm t n (λ at. absurd (omega (arith, at))))
    (calm-then u drawn v (same-calm u drawn refl refl) (idle-calm drawn p (λ at. absurd (omega (arith, at))))) in
    let idle : Idle v m.conn = put-idle drawn p (λ at. absurd (omega (arith, at))) in
    let infos : List GameMsg = map client_info (welcomed t) in
    let a : Deed = tells_each m.conn infos u in
    let c : Deed = a ▹ tells_what (m.conn ∷ []) (Entries m.map_frame) ▹ tells_fresh n in
    let rest : List Step = (leaves_queue m.conn v).told in
    let quiet : begins_map c.told ≡ false =
    quiet-behind (a ▹ tells_what (m.conn ∷ []) (Entries m.map_frame)).told _ refl ∙ quiet-behind a.told _ refl
    ∙ each-quiet m.conn infos u in
    whole-parts t v (leaves_queue m.conn v).table (begins_map (enters m t).told) refl calm
    (subst (λ (b : Bool). Parts v (leaves_queue m.conn v).table b) (sym (quiet-front c.told rest quiet)) (parts-queue m.conn v idle
    (calm-alone t v t.queue calm alone)))

-- ---- a member asks for the map

abbrev asks_by : List ℕ → Member → Table → Deed
asks_by q m t = moved_up (length q) (m.conn ∷ []) (record (with_member (now_in MapWait t m) t) { queue = q ++ m.conn ∷ [] })

asks-by : (q : List ℕ) (m : Member) (t : Table) → t.queue ≡ q → Alone t q → WholeBy t (asks_by q m t)
asks-by [] m t q alone =
    let n : Member = now_in MapWait t m in
    let v : Table = with_member n t in
    let w : Table = record v { queue = m.conn ∷ [] } in
    let never : (k : Member) → downloader v ≡ Some k → ⊥ = λ k is.
    let e : None ≡ Some k = subst (λ (ys : List ℕ). first_loading ys v ≡ Some k) q is in cc in
    whole-parts t v (asks_by [] m t).table (begins_map (asks_by [] m t).told) refl (idle-calm t n (λ at. absurd (omega (arith, at))))
    (head-left v (m.conn ∷ []) w refl refl (put-idle t n (λ at. absurd (omega (arith, at))), tt) never)
asks-by (d ∷ ds) m t q alone =
    let n : Member = now_in MapWait t m in
    let v : Table = with_member n t in
    let calm : Calm t v = idle-calm t n (λ at. absurd (omega (arith, at))) in
    record {
      alone = all-append (λ y. (y == d) ≡ false → Idle v y) ds (m.conn ∷ []) (calm-alone t v (d ∷ ds) calm alone)
          (λ apart. put-idle t n (λ at. absurd (omega (arith, at))), tt);
      frame = refl;
      fresh = λ is. absurd cc;
      goes = λ no k is. from-calm t v calm k (subst (λ (ys : List ℕ). first_loading ys v ≡ Some k) (sym q) is);
    }

pub asks-whole : (m : Member) (t : Table) → Alone t t.queue → WholeBy t (asks m t)
asks-whole m t alone = asks-by t.queue m t refl alone
