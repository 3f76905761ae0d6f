-- The marks of members: frames that they were told, have acknowledged, and at which something began; commands that wait; tokens.
use Rattle.std.proofs.Common.{◌≡◌, inl, inr, ℕ, ◌+◌, ◌≤◌, ◌<◌, List, [], ◌∷◌, ◌++◌, refl, ap, true, false, Bool, Option, None, arith}
use Rattle.std.specs.Prelude.{◌==◌, ◌||◌, ◌/◌, ◌*◌, ◌^◌, length, drop, nat_lt, nat_le, cond, not}
use Rattle.std.specs.List.{AllByRecursion}
use Rattle.std.proofs.lemmas.Bool.{leb-true, leb-false, ltb-true, ltb-false}
use Rattle.tt_edge.specs.declared.event.Event.{Event}
use Rattle.std.proofs.Math.Nat.{div-lt_iff_lt-mul, mod-lt}
use Rattle.tt_world.specs.declared.command.Command.{Command}
use Rattle.std.specs.Prelude.{◌-◌}
use Rattle.std.specs.Int.{w32, rotate_right}
use Rattle.tt_world.specs.Random.{next_random}
use Rattle.tt_rules.specs.Reasons.{◌⇒◌, ◌or_else◌}
use Rattle.tt_rules.specs.Statuses.{rank}
use Rattle.tt_log.specs.declared.deed.Step.{Step}
use Rattle.tt_log.specs.Origin.{Origin}
use Rattle.tt_log.specs.Member.{Member, new_member}
use Rattle.tt_log.specs.Table.{Table, first, is_on, with_member}
use Rattle.tt_log.specs.Frames.{fresh_token, opened_token}
use Rattle.tt_log.specs.PacketRules.{closed_token}
use Rattle.tt_log.specs.Desk.{admin_arrives, counted_aside, most_admins}
use Rattle.tt_log.specs.Tick.{drawn}
use Rattle.tt_log.specs.Events.{arrives, counted_in, stepped}
use Rattle.tt_log.specs.History.{table_of}
use Rattle.tt_log.specs.Marks.{IsMarked}
use Rattle.tt_log.proofs.Lists.{all-append, all-filter, all-map, all-so, among-all}
use Rattle.tt_log.proofs.Crew.{On, put-all}
use Rattle.tt_log.proofs.Changes.{Change, wants_password, is_let_in, gets_token, gets_frame, answers, plays, commands, has_name, goes_to}
use Rattle.tt_log.proofs.Changes.{founds, gets_pieces, has_all, Asks, May, turned, moved, Move, queues, begins_map, loads}
use Rattle.tt_log.proofs.Walk.{Turns, ahead-of, behind-of}
use Rattle.tt_log.proofs.Walk.{MayMove, Base, Walk, Doors, Closing, Moves, Ticks, running, of-asks, of-enters, of-leaves, of-deed}
use Rattle.tt_log.proofs.Clock.{from-all}

-- ---- the reasons that were not there

pub none-first : (b : Bool) (code : ℕ) (later : Option ℕ) → ((b ⇒ code) or_else later) ≡ None → (b ≡ false) × (later ≡ None)
none-first true code later is = absurd cc
none-first false code later is = (refl, is)

pub last-none : (b : Bool) (code : ℕ) → (b ⇒ code) ≡ None → b ≡ false
last-none true code is = absurd cc
last-none false code is = refl

or-false : (x y : Bool) → (x || y) ≡ false → (x ≡ false) × (y ≡ false)
or-false true y is = absurd cc
or-false false y is = (refl, is)

-- ---- a fresh token is one byte

pub fresh-low : (words : ℕ × ℕ) → fresh_token words ≤ 255
fresh-low words =
    let low : (next_random words).1 < 2 ^ 32 = mod-lt (rotate_right w32 words.0 3 + (2 ^ 32 - 1)) {m = 2 ^ 32} (omega arith) in
    let q : (next_random words).1 * 255 / 2 ^ 32 < 255 = (div-lt_iff_lt-mul {k = 2 ^ 32} {x = (next_random words).1 * 255} {y = 255}
    (omega arith)).1 (omega (arith, low)) in
    omega (arith, q)

-- ---- a member that changes

abbrev Marks : Table → Type 0
Marks t = (t.frame ≤ t.top) × AllByRecursion (IsMarked t.frame t.top) t.members

asked-early : (o : Origin) (e : Event) (t : Table) (m : Member) (name : List ℕ) (asked : ℕ) → Asks o e t m name asked → rank m.status ≤ 7
asked-early o e t m name asked (inl before) = omega (arith, before.3)
asked-early o e t m name asked (inr now) = omega (arith, now.0)

ack-mark : (b : Bool) (frame token f top : ℕ) (m : Member) → frame ≤ m.told → m.acked ≤ frame → 8 ≤ rank m.status → IsMarked f top m
    → IsMarked f top (record (cond b m (closed_token m)) { acked = frame })
ack-mark true frame token f top m high low at h = record {
  since = h.since;
  mapped = h.mapped;
  acked = λ is. let a = h.acked is in (omega (arith, a.0, low), high, a.2);
  few = h.few;
  idle = h.idle;
  token = h.token;
  token_frame = h.token_frame;
}
ack-mark false frame token f top m high low at h = record {
  since = h.since;
  mapped = h.mapped;
  acked = λ is. let a = h.acked is in (omega (arith, a.0, low), high, a.2);
  few = h.few;
  idle = λ is. absurd (omega (arith, at, is));
  token = omega arith;
  token_frame = omega arith;
}

length-more : {A : Type 0} (xs : List A) (x : A) → length (xs ++ x ∷ []) ≡ length xs + 1
length-more [] x = omega arith
length-more (y ∷ ys) x = omega (arith, length-more ys x)

turned-mark : (c : Change) (o : Origin) (e : Event) (t : Table) (m : Member) → May o e t m c → t.frame ≤ t.top
    → IsMarked t.frame t.top m
    → IsMarked t.frame t.top (turned c t m)
turned-mark (wants_password true name asked) o e t m may ahead h =
    let i = h.idle (asked-early o e t m name asked may) in
    record {
      since = omega arith;
      mapped = h.mapped;
      acked = λ is. absurd (omega (arith, is));
      few = h.few;
      idle = λ is. i;
      token =
          h.token;
      token_frame = h.token_frame;
    }
turned-mark (wants_password false name asked) o e t m may ahead h =
    let i = h.idle (asked-early o e t m name asked may) in
    record {
      since = omega arith;
      mapped = h.mapped;
      acked = λ is. absurd (omega (arith, is));
      few = h.few;
      idle = λ is. i;
      token =
          h.token;
      token_frame = h.token_frame;
    }
turned-mark (is_let_in name asked) o e t m may ahead h =
    let i = h.idle (asked-early o e t m name asked may) in
    record {
      since = omega arith;
      mapped = h.mapped;
      acked = λ is. absurd (omega (arith, is));
      few = h.few;
      idle = λ is. i;
      token =
          h.token;
      token_frame = h.token_frame;
    }
turned-mark gets_token o e t m may ahead h =
    let high : 8 ≤ rank m.status = may.0 in
    record {
      since = h.since;
      mapped = h.mapped;
      acked = λ is. let a = h.acked is in (a.0, omega (arith, a.1, a.2), omega arith);
      few = h.few;
      idle = λ is. absurd (omega (arith, is, high));
      token = fresh-low t.tokens;
      token_frame = omega arith;
    }
turned-mark gets_frame o e t m may ahead h =
    record {
      since = h.since;
      mapped = h.mapped;
      acked = λ is. let a = h.acked is in (a.0, omega (arith, a.1, a.2), omega arith);
      few =
          h.few;
      idle = h.idle;
      token = h.token;
      token_frame = h.token_frame;
    }
turned-mark (answers frame token) o e t m may ahead h =
    let first = none-first (nat_lt frame m.acked || nat_lt m.told frame) 7 _ may.standing in
    let both = or-false (nat_lt frame m.acked) (nat_lt m.told frame) first.0 in
    ack-mark (token == 0) frame token t.frame t.top m (ltb-false m.told frame both.1) (ltb-false frame m.acked both.0)
    (leb-true 8 (rank m.status) may.permits) h
turned-mark plays o e t m may ahead h =
    record {
      since = omega arith;
      mapped = h.mapped;
      acked = λ is. h.acked (omega (arith, may));
      few = h.few;
      idle =
          λ is. absurd (omega (arith, is));
      token = h.token;
      token_frame = h.token_frame;
    }
turned-mark (commands company code number to text command) o e t m may ahead h =
    let first = none-first (nat_le 16 (length m.waiting)) 15 _ may.1.standing in
    let low : length m.waiting < 16 = leb-false 16 (length m.waiting) first.0 in
    let high : 8 ≤ rank m.status = leb-true 8 (rank m.status) may.1.permits in
    record {
      since = h.since;
      mapped = h.mapped;
      acked = h.acked;
      few = omega (arith, length-more m.waiting (company, command), low);
      idle = λ is. absurd (omega (arith, is, high));
      token = h.token;
      token_frame = h.token_frame;
    }
turned-mark (has_name name) o e t m may ahead h = record {
  since = h.since;
  mapped = h.mapped;
  acked = h.acked;
  few = h.few;
  idle =
      h.idle;
  token = h.token;
  token_frame = h.token_frame;
}
turned-mark (goes_to company digest) o e t m may ahead h = record {
  since = h.since;
  mapped = h.mapped;
  acked = h.acked;
  few = h.few;
  idle =
      h.idle;
  token = h.token;
  token_frame = h.token_frame;
}
turned-mark (founds company) o e t m may ahead h = record {
  since = h.since;
  mapped = h.mapped;
  acked = h.acked;
  few = h.few;
  idle =
      h.idle;
  token = h.token;
  token_frame = h.token_frame;
}
turned-mark (gets_pieces left) o e t m may ahead h = record {
  since = h.since;
  mapped = h.mapped;
  acked = h.acked;
  few = h.few;
  idle =
      h.idle;
  token = h.token;
  token_frame = h.token_frame;
}
turned-mark has_all o e t m may ahead h =
    let i = h.idle (omega (arith, may)) in
    record {
      since = h.since;
      mapped = h.mapped;
      acked = λ is. absurd (omega (arith, is));
      few = h.few;
      idle = λ is. i;
      token =
          h.token;
      token_frame = h.token_frame;
    }

-- one that is in the queue moves on
moved-mark : (v : Move) (t : Table) (m : Member) → MayMove v m → t.frame ≤ t.top → IsMarked t.frame t.top m
    → IsMarked t.frame t.top (moved v t m)
moved-mark queues t m may ahead h =
    let i = h.idle (omega (arith, may)) in
    record {
      since = omega arith;
      mapped = h.mapped;
      acked = λ is. absurd (omega (arith, is));
      few = h.few;
      idle = λ is. i;
      token =
          h.token;
      token_frame = h.token_frame;
    }
moved-mark begins_map t m may ahead h =
    let i = h.idle (omega (arith, may)) in
    record {
      since = omega arith;
      mapped = omega arith;
      acked = λ is. absurd (omega (arith, is));
      few = h.few;
      idle = λ is. i;
      token =
          h.token;
      token_frame = h.token_frame;
    }
moved-mark loads t m may ahead h =
    record {
      since = omega arith;
      mapped = h.mapped;
      acked = λ is. (omega arith, omega (arith, h.mapped, ahead), omega arith);
      few = h.few;
      idle = λ is. absurd (omega (arith, is));
      token = h.token;
      token_frame = h.token_frame;
    }

-- ---- the walk

later-mark : (f g top above : ℕ) (m : Member) → f ≤ g → top ≤ above → IsMarked f top m → IsMarked g above m
later-mark f g top above m l k h = record {
  since = omega (arith, h.since, l);
  mapped = omega (arith, h.mapped, l);
  acked = λ is. let a = h.acked is in (a.0, a.1, omega (arith, a.2, k));
  few = h.few;
  idle = h.idle;
  token = h.token;
  token_frame = omega (arith, h.token_frame, l);
}

drawn-mark : (f top : ℕ) (m : Member) → IsMarked f top m → IsMarked f top (drawn m)
drawn-mark f top m h = record {
  since = h.since;
  mapped = h.mapped;
  acked = h.acked;
  few = fewer m.waiting h.few;
  idle = λ is. let a = h.idle is in (ap (λ (ws : List (ℕ × Command)). drop 2 ws) a.0, a.1);
  token = h.token;
  token_frame = h.token_frame;
}
  where
    fewer : (ws : List (ℕ × Command)) → length ws ≤ 16 → length (drop 2 ws) ≤ 16
    fewer [] l = l
    fewer (x ∷ []) l = omega arith
    fewer (x ∷ y ∷ ws) l = omega (arith, l)

new-mark : (conn client f top : ℕ) → IsMarked f top (new_member conn client f)
new-mark conn client f top = record {
  since = omega arith;
  mapped = omega arith;
  acked = λ is. absurd (omega (arith, is));
  few =
      omega arith;
  idle = λ is. (refl, refl);
  token = omega arith;
  token_frame = omega arith;
}

abbrev KeepsMarks : Table → List Step → Table → Type 0
KeepsMarks t steps u = Marks t → Marks u

put-marks : (t : Table) (n : Member) → IsMarked t.frame t.top n → Marks t → Marks (with_member n t)
put-marks t n a h = (h.0, put-all (IsMarked t.frame t.top) n t.members a h.1)

found-mark : (t : Table) (m : Member) → On t m → Marks t → IsMarked t.frame t.top m
found-mark t m on h = among-all (IsMarked t.frame t.top) m t.members on h.1

mark-turns : (o : Origin) (e : Event) → Turns o e KeepsMarks
mark-turns o e c t m on may by h = put-marks t (turned c t m) (turned-mark c o e t m may h.0 (found-mark t m on h)) h

mark-base : (o : Origin) (e : Event) → Base o e KeepsMarks
mark-base o e = record {
  still = λ t h. h;
  joins = λ t u v xs ys a b h. b (a h);
  turns = ahead-of o e KeepsMarks (mark-turns o e);
  tells_one = λ t m msg on talk h. h;
  tells_some = λ t to w there news h. h;
  tells_admins = λ t to r may is h. h;
}

greeted-mark : (t : Table) (m : Member) → rank m.status ≡ 8 → IsMarked t.frame t.top m
    → IsMarked t.frame t.top (opened_token (fresh_token t.tokens) t m)
greeted-mark t m at h = record {
  since = h.since;
  mapped = h.mapped;
  acked = λ is. let a = h.acked is in (a.0, omega (arith, a.1, a.2), omega arith);
  few = h.few;
  idle = λ is. absurd (omega (arith, is, at));
  token = fresh-low t.tokens;
  token_frame = omega arith;
}

mark-moves : (o : Origin) (e : Event) → Moves o e KeepsMarks
mark-moves o e = record {
  moving = λ v t m on may h. put-marks t (moved v t m) (moved-mark v t m may h.0 (found-mark t m on h)) h;
  recalls = λ t m on at h. h;
  waits_on = λ t conn n there h. h;
  stands = λ t m on h. h;
  cuts = λ t place h. h;
  ends_one = λ t m on h. h;
  parts = λ t m on h. (h.0, all-filter (IsMarked t.frame t.top) (λ n. not (is_on m.conn n)) t.members h.1);
  greets = λ t m on at h. put-marks t (opened_token (fresh_token t.tokens) t m) (greeted-mark t m at (found-mark t m on h)) h;
}

mark-walk : (o : Origin) (e : Event) → Walk o e KeepsMarks
mark-walk o e = record {
  base = mark-base o e;
  locks = λ t m digest on allowed h. h;
  orders = λ t c is still h. h;
  asks_map = λ t m on at. of-asks o e KeepsMarks (mark-base o e) (mark-moves o e) t m on at;
  enters_game = λ t m on at. of-enters o e KeepsMarks (mark-base o e) (mark-moves o e) t m on at;
  goes = λ t m farewell on is. of-leaves o e KeepsMarks (mark-base o e) (mark-moves o e) t m farewell on is;
  settles = λ t a b on is h. h;
  goes_aside = λ t a on h. h;
}

arrives-marks : (full : Bool) (t : Table) → Marks t → Marks (arrives full (counted_in t)).table
arrives-marks true t h = h
arrives-marks false t h =
    (h.0, all-append (IsMarked t.frame t.top) t.members _ h.1 (new-mark (t.openings + 1) (t.clients + 1) t.frame t.top, tt))

aside-marks : (full : Bool) (t : Table) → Marks t → Marks (admin_arrives full (counted_aside t)).table
aside-marks true t h = h
aside-marks false t h = h

mark-doors : (o : Origin) (e : Event) → Doors o e KeepsMarks
mark-doors o e = record {
  comes = λ t h. arrives-marks (nat_le o.setup.max_clients (length t.members)) t h;
  comes_aside =
      λ t h. aside-marks (nat_le most_admins (length t.admins)) t h;
}

run-marks : (b : Bool) (o : Origin) (t : Table) → nat_lt t.top (t.frame + 1) ≡ b → Marks t → Marks (running b o t)
run-marks true o t is h =
    let low : t.top < t.frame + 1 = ltb-true t.top (t.frame + 1) is in (
      omega arith,
      all-so (IsMarked t.frame t.top) (IsMarked (t.frame + 1) (t.frame + 1 + o.setup.frame_freq)) t.members
          (λ m a. later-mark t.frame (t.frame + 1) t.top (t.frame + 1 + o.setup.frame_freq) m (omega arith) (omega (arith, low)) a) h.1,
    )
run-marks false o t is h =
    let high : t.frame + 1 ≤ t.top = ltb-false t.top (t.frame + 1) is in (
      high,
      all-so (IsMarked t.frame t.top) (IsMarked (t.frame + 1) t.top) t.members (λ m a. later-mark t.frame (t.frame + 1) t.top t.top m
          (omega arith) (omega arith) a) h.1,
    )

mark-ticks : (o : Origin) (e : Event) → Ticks o e KeepsMarks
mark-ticks o e = record {
  stamping = λ t h. (h.0, all-map (IsMarked t.frame t.top) (IsMarked t.frame t.top) drawn t.members (drawn-mark t.frame t.top) h.1);
  behind = behind-of o e KeepsMarks (mark-turns o e);
  running = λ t b is h. run-marks b o t is h;
}

mark-closing : (o : Origin) (e : Event) → Closing o e KeepsMarks
mark-closing o e = record { charges = λ t h. h; closes = λ t h. (h.0, tt) }

step-marks : (o : Origin) (e : Event) (t : Table) → Marks t → Marks (stepped o t e)
step-marks o e t h = of-deed o e KeepsMarks (mark-walk o e) (mark-ticks o e) (mark-doors o e) (mark-closing o e) t h

pub are-marked : (o : Origin) (es : List Event) → AllByRecursion (IsMarked (table_of o es).frame (table_of o es).top)
    (table_of o es).members
are-marked o es = (from-all o Marks (step-marks o) es (first o) (omega arith, tt)).1
