-- FRAME: each member that plays is told it once, and all seats stay.
use Rattle.std.proofs.Common.{◌≡◌, ℕ, Bool, true, false, cond, List, [], ◌∷◌, ◌++◌}
use Rattle.std.proofs.Common.{Option, Some, None, refl, ap, ap₂, sym, ◌∙◌, subst, arith}
use Rattle.std.specs.Prelude.{◌==◌, ◌||◌, ◌&&◌, find}
use Rattle.std.proofs.lemmas.Bool.{eqb-true}
use Rattle.tt_game.specs.declared.message.GameMsg.{GameMsg}
use Rattle.tt_game.specs.declared.message.GameMsg.TheVariants.{ServerFrame}
use Rattle.tt_world.specs.Random.{next_random}
use Rattle.tt_log.specs.Origin.{Origin}
use Rattle.tt_log.specs.Member.{Member, is_playing}
use Rattle.tt_log.specs.Table.{Table, member_of}
use Rattle.tt_log.specs.Deed.{Deed, where_, where_some}
use Rattle.tt_log.specs.Tellings.{Filling}
use Rattle.tt_log.specs.Frames.{fresh_token, opened_token, tells_frame_by, tells_frame, frames_told}
use Rattle.tt_log.specs.Tick.{all_moved}
use Rattle.tt_log.specs.PacketRules.{moves}
use Rattle.tt_log.specs.History.{AreRising}
use Rattle.tt_log.proofs.Lists.{any-not, found-among}
use Rattle.tt_log.proofs.Crew.{On, on-found, found-on, conns}
use Rattle.tt_log.proofs.Ordered.{Ordered, rising-not}
use Rattle.tt_in_step.specs.Watched.{Seat, seat_of, seat}
use Rattle.tt_in_step.proofs.Seats.{among, put-same, found-seat, none-found, sits, plays, plays-member, none-seated, not-any}
use Rattle.tt_in_step.proofs.Hearing.{hears, hears-append, if_told}
use Rattle.tt_in_step.proofs.Ways.{if_plays}
use Rattle.tt_in_step.proofs.Does.{altered, put-ordered}

-- the seats are as they were, and what else lockstep cares of
pub record Same (t u : Table) : Type 0 where
  pub ordered : Ordered u
  pub seats : (d : ℕ) → seat d u.members ≡ seat d t.members
  pub frame : u.frame ≡ t.frame
  pub top : u.top ≡ t.top
  pub journal : u.journal ≡ t.journal
  pub openings : u.openings ≡ t.openings
  pub queue : u.queue ≡ t.queue

same-self : (t : Table) → Ordered t → Same t t
same-self t h = record { ordered = h; seats = λ d. refl; frame = refl; top = refl; journal = refl; openings = refl; queue = refl }

pub same-then : (t u v : Table) → Same t u → Same u v → Same t v
same-then t u v a b = record {
  ordered = b.ordered;
  seats = λ d. b.seats d ∙ a.seats d;
  frame = b.frame ∙ a.frame;
  top = b.top ∙ a.top;
  journal = b.journal ∙ a.journal;
  openings = b.openings ∙ a.openings;
  queue = b.queue ∙ a.queue;
}

-- a member is put in its own place, at its own seat
same-put : (words : ℕ × ℕ) (t : Table) (m n : Member) → On t m → n.conn ≡ m.conn → n.client ≡ m.client → seat_of n ≡ seat_of m → Ordered t
    → Same t (altered n words t.queue t)
same-put words t m n on conn client same h =
    let there : seat n.conn t.members ≡ Some (seat_of n) = ap (λ (k : ℕ). seat k t.members) conn ∙ sits 0 m t.members h.rise on
    ∙ ap (λ (x : Seat). Some x) (sym same) in
    record {
      ordered = put-ordered t n m on conn client h;
      seats = λ d. put-same d n t.members there;
      frame = refl;
      top = refl;
      journal = refl;
      openings = refl;
      queue = refl;
    }

moved-one : (x : Option Member) (company : ℕ) (t : Table) → ((m : Member) → x ≡ Some m → On t m) → Ordered t
    → Same t (where_some x (λ m. moves m company) t).table
moved-one None company t on h = same-self t h
moved-one (Some m) company t on h = same-put t.tokens t m (record m { company = company }) (on m refl) refl refl refl h

-- a founder's move leaves all seats
pub moved-same : (fs : List (ℕ × ℕ)) (t : Table) → Ordered t → Same t (all_moved fs t).table
moved-same [] t h = same-self t h
moved-same (x ∷ xs) t h =
    let is_it : Member → Bool = λ m. m.client == x.0 in
    let d : Deed = where_some (find is_it t.members) (λ m. moves m x.1) t in
    let a : Same t d.table = moved-one (find is_it t.members) x.1 t (λ m is. found-among is_it m t.members is) h in
    same-then t d.table (all_moved xs d.table).table a (moved-same xs d.table a.ordered)

no-plays : (a p : Bool) (ms : List GameMsg) → (a ≡ true → p ≡ false) → [] ≡ if_plays (a && p) ms
no-plays true true ms h = absurd (cc (h refl))
no-plays true false ms h = refl
no-plays false p ms h = refl

plays-told : (a p : Bool) (m : GameMsg) → (a ≡ true → p ≡ true) → if_told (a || false) (m ∷ []) [] ≡ if_plays (a && p) (m ∷ [])
plays-told true true m h = refl
plays-told true false m h = absurd (cc (h refl))
plays-told false p m h = refl

module _ (o : Origin) (f : Filling) (c : ℕ) where
  abbrev pub told_frame : Table → ℕ → List GameMsg
  told_frame t token = ServerFrame t.frame t.top token ∷ []

  -- where c is one of these, and plays, it is told FRAME once
  pub record Framed (is_one : Bool) (t : Table) (d : Deed) : Type 0 where
    pub token : ℕ
    pub heard : hears c o f d.told ≡ if_plays (is_one && plays (seat c t.members)) (told_frame t token)
    pub same : Same t d.table

  one-token : (b : Bool) (conn : ℕ) (t : Table) (n : Member) → On t n → n.conn ≡ conn → ((conn == c) ≡ true → plays
      (seat c t.members) ≡ true)
      → Ordered t → Framed (conn == c) t (tells_frame_by b n t)
  one-token true conn t n on own p h =
      let token : ℕ = fresh_token t.tokens in
      let m : GameMsg = ServerFrame t.frame t.top token in
      record {
        token = token;
        heard = ap (λ (k : ℕ). if_told ((k == c) || false) (m ∷ []) []) own ∙ plays-told (conn == c) (plays (seat c t.members)) m p;
        same = same-put (next_random t.tokens) t n (opened_token token t n) on refl refl refl h;
      }
  one-token false conn t n on own p h =
      let m : GameMsg = ServerFrame t.frame t.top 0 in
      record {
        token = 0;
        heard = ap (λ (k : ℕ). if_told ((k == c) || false) (m ∷ []) []) own ∙ plays-told (conn == c) (plays (seat c t.members)) m p;
        same = same-put t.tokens t n (record n { told = t.top }) on refl refl refl h;
      }

  one-frame : (x : Option Member) (conn : ℕ) (t : Table) → member_of t conn ≡ x → Ordered t
      → Framed (conn == c) t (where_some x tells_frame t)
  one-frame None conn t is h = record {
    token = 0;
    heard = no-plays (conn == c) (plays (seat c t.members)) (told_frame t 0)
        (λ own. ap plays (subst (λ k. seat k t.members ≡ None) (eqb-true conn c own) (none-found conn t.members is)));
    same = same-self t h;
  }
  one-frame (Some n) conn t is h = by (is_playing n) refl
    where
      playing : (conn == c) ≡ true → plays (seat c t.members) ≡ is_playing n
      playing own = ap plays (subst (λ k. seat k t.members ≡ Some (seat_of n)) (eqb-true conn c own) (found-seat conn t.members n is))
          ∙ sym (plays-member n)

      by : (b : Bool) → is_playing n ≡ b → Framed (conn == c) t (where_ b (tells_frame_by (n.token == 0) n) t)
      by true plays = one-token (n.token == 0) conn t n (on-found t conn n is) (found-on conn t.members n is) (λ own. playing own ∙ plays) h
      by false idle = record {
        token = 0;
        heard = no-plays (conn == c) (plays (seat c t.members)) (told_frame t 0) (λ own. playing own ∙ idle);
        same = same-self t h;
      }

  joined : (t : Table) (x y p : Bool) (i j : ℕ) → (x ≡ true → y ≡ false)
      → if_plays (x && p) (told_frame t i) ++ if_plays (y && p) (told_frame t j) ≡ if_plays ((x || y) && p) (told_frame t (cond x i j))
  joined t true true p i j h = absurd (cc (h refl))
  joined t true false true i j h = refl
  joined t true false false i j h = refl
  joined t false y p i j h = refl

  frames : (k : ℕ) (ms : List Member) (t : Table) → AreRising k (conns ms) → Ordered t → Framed (among c (conns ms)) t (frames_told ms t)
  frames k [] t r h = record { token = 0; heard = refl; same = same-self t h }
  frames k (m ∷ ms) t r h =
      let d : Deed = where_some (member_of t m.conn) tells_frame t in
      let next : Deed = frames_told ms d.table in
      let a = one-frame (member_of t m.conn) m.conn t refl h in
      let b = frames m.conn ms d.table r.1 a.same.ordered in
      let p : Bool = plays (seat c t.members) in
      let none : (m.conn == c) ≡ true → among c (conns ms) ≡ false = λ own. any-not c (conns ms) (rising-not m.conn c (conns ms)
      (let e : m.conn ≡ c = eqb-true m.conn c own in omega (arith, e)) r.1) in
      let told : told_frame d.table b.token ≡ told_frame t b.token =
      ap₂ (λ (g top : ℕ). ServerFrame g top b.token ∷ []) a.same.frame a.same.top in
      let later : hears c o f next.told ≡ if_plays (among c (conns ms) && p) (told_frame t b.token) = b.heard
      ∙ ap₂ (λ (x : Option Seat) (ms2 : List GameMsg). if_plays (among c (conns ms) && plays x) ms2) (a.same.seats c) told in
      record {
        token = cond (m.conn == c) a.token b.token;
        heard = hears-append c o f d.told next.told ∙ ap₂ (λ (xs ys : List GameMsg). xs ++ ys) a.heard later
            ∙ joined t (m.conn == c) (among c (conns ms)) p a.token b.token none;
        same = same-then t d.table next.table a.same b.same;
      }

  -- each that plays is told it
  pub all-frames : (t : Table) → Ordered t → Framed true t (frames_told t.members t)
  all-frames t h =
      let a = frames 0 t.members t h.rise h in
      record {
        token = a.token;
        heard = a.heard ∙ ap (λ (b : Bool). if_plays b (told_frame t a.token)) (there (among c (conns t.members))
            (plays (seat c t.members)) (λ none. ap plays (none-seated c t.members (not-any c (conns t.members) none))));
        same = a.same;
      }
    where
      there : (x p : Bool) → (x ≡ false → p ≡ false) → (x && p) ≡ (true && p)
      there true p h = refl
      there false true h = absurd (cc (h refl))
      there false false h = refl
