-- An event brings in at most one member and at most one admin.
use Rattle.std.proofs.Common.{◌≡◌, ℕ, ◌+◌, ◌≤◌, Bool, true, false, List, [], ◌∷◌, arith, length, refl}
use Rattle.std.specs.Prelude.{cond, filter, map, nat_le, not, ◌==◌}
use Rattle.std.proofs.lemmas.List.{length-append, length-map}
use Rattle.tt_edge.specs.declared.event.Door.TheVariants.{Main, Side}
use Rattle.tt_edge.specs.declared.event.Event.{Event}
use Rattle.tt_edge.specs.declared.event.Event.TheVariants.{Open, Packet, Broken, Shut, Tick, Stop}
use Rattle.tt_log.specs.declared.deed.Step.{Step}
use Rattle.tt_log.specs.Admin.{Admin, new_admin}
use Rattle.tt_log.specs.Desk.{admin_arrives, counted_aside, most_admins}
use Rattle.tt_log.specs.Events.{arrives, by_event, counted_in}
use Rattle.tt_log.specs.Member.{Member, new_member}
use Rattle.tt_log.specs.Origin.{Origin}
use Rattle.tt_log.specs.Table.{Table, is_admin_on}
use Rattle.tt_log.specs.Tick.{drawn}
use Rattle.tt_log.proofs.Walk.{Base, Moves, Ticks, Turns, Walk, behind-of, ahead-of, of-asks, of-enters, of-event, of-leaves, of-ticked}
use Rattle.tt_log.proofs.Walk.{running}
use Rattle.tt_table.specs.Ending.{ended_admins, ended_members, is_last}

-- no more are there than before
record Fewer (t u : Table) : Type 0 where
  members : length u.members ≤ length t.members
  admins : length u.admins ≤ length t.admins

abbrev Keeps : Table → List Step → Table → Type 0
Keeps t steps u = Fewer t u

none-more : (t : Table) → Fewer t t
none-more t = record { members = omega arith; admins = omega arith }

fewer : {A : Type 0} (p : A → Bool) (xs : List A) → length (filter p xs) ≤ length xs
fewer p [] = omega arith
fewer p (x ∷ xs) = by (p x) (fewer p xs)
  where
    by : (b : Bool) → length (filter p xs) ≤ length xs → length (cond b (x ∷ filter p xs) (filter p xs)) ≤ length (x ∷ xs)
    by true l = omega (arith, l)
    by false l = omega (arith, l)

-- one member is put in its place
put-fewer : (n : Member) (t u : Table) → u.members ≡ map (λ (x : Member). cond (x.conn == n.conn) n x) t.members → u.admins ≡ t.admins
    → Fewer t u
put-fewer n t u members admins =
    let same = length-map t.members (λ (x : Member). cond (x.conn == n.conn) n x) in
    record { members = rw members (omega (arith, same)); admins = rw admins (omega arith) }

few-turns : (o : Origin) (e : Event) → Turns o e Keeps
few-turns o e k t m on may by = put-fewer _ t _ refl refl

few-base : (o : Origin) (e : Event) → Base o e Keeps
few-base o e = record {
  still = none-more;
  joins = λ t u v xs ys a b. record {
    members = omega (arith, a.members, b.members);
    admins = omega (arith, a.admins, b.admins);
  };
  turns = ahead-of o e Keeps (few-turns o e);
  tells_one = λ t m msg on talk. none-more t;
  tells_some = λ t to w there news. none-more t;
  tells_admins = λ t to r may is. none-more t;
}

few-moves : (o : Origin) (e : Event) → Moves o e Keeps
few-moves o e = record {
  moving = λ v t m on may. put-fewer _ t _ refl refl;
  recalls = λ t m on at. none-more t;
  waits_on = λ t conn n there. none-more t;
  stands = λ t m on. record { members = omega arith; admins = omega arith };
  cuts = λ t place. record { members = omega arith; admins = omega arith };
  ends_one = λ t m on. none-more t;
  parts = λ t m on. record { members = fewer _ t.members; admins = omega arith };
  greets = λ t m on at. put-fewer _ t _ refl refl;
}

few-walk : (o : Origin) (e : Event) → Walk o e Keeps
few-walk o e = record {
  base = few-base o e;
  locks = λ t m digest on allowed. record { members = omega arith; admins = omega arith };
  orders = λ t k is still. record { members = omega arith; admins = omega arith };
  asks_map = λ t m on at. of-asks o e Keeps (few-base o e) (few-moves o e) t m on at;
  enters_game = λ t m on at. of-enters o e Keeps (few-base o e) (few-moves o e) t m on at;
  goes = λ t m farewell on. of-leaves o e Keeps (few-base o e) (few-moves o e) t m farewell on;
  settles = λ t a b on is.
      let same = length-map t.admins (λ (x : Admin). cond (x.conn == b.conn) b x) in
      record { members = omega arith; admins = omega (arith, same) };
  goes_aside = λ t a on. record { members = omega arith; admins = fewer (λ b. not (is_admin_on a.conn b)) t.admins };
}

few-running : (b : Bool) (o : Origin) (t : Table) → Fewer t (running b o t)
few-running true o t = record { members = omega arith; admins = omega arith }
few-running false o t = record { members = omega arith; admins = omega arith }

few-ticks : (o : Origin) (e : Event) → Ticks o e Keeps
few-ticks o e = record {
  stamping = λ t. let same = length-map t.members drawn in record { members = omega (arith, same); admins = omega arith };
  behind = behind-of o e Keeps (few-turns o e);
  running = λ t b is. few-running b o t;
}

-- at most one more is there, of each
pub record IsFew (t u : Table) : Type 0 where
  pub members : length u.members ≤ length t.members + 1
  pub admins : length u.admins ≤ length t.admins + 1

no-more : (t u : Table) → Fewer t u → IsFew t u
no-more t u f = let l = f.members in let k = f.admins in record { members = omega (arith, l); admins = omega (arith, k) }

by-main : (full : Bool) (t : Table) → IsFew t (arrives full (counted_in t)).table
by-main true t = no-more t _ (record { members = omega arith; admins = omega arith })
by-main false t =
    let more = length-append t.members (new_member (t.openings + 1) (t.clients + 1) t.frame ∷ []) in
    record { members = omega (arith, more); admins = omega arith }

by-side : (full : Bool) (t : Table) → IsFew t (admin_arrives full (counted_aside t)).table
by-side true t = no-more t _ (record { members = omega arith; admins = omega arith })
by-side false t =
    let more = length-append t.admins (new_admin (t.openings + 1) t.frame ∷ []) in
    record { members = omega arith; admins = omega (arith, more) }

still-few : (o : Origin) (e : Event) (t : Table) → Fewer t (by_event o e t).table → IsFew t (by_event o e t).table
still-few o e t f = no-more t (by_event o e t).table f

pub few-behind : (o : Origin) (e : Event) (t : Table) → IsFew t (by_event o e t).table
few-behind o (Open Main peer) t = by-main (nat_le o.setup.max_clients (length t.members)) t
few-behind o (Open Side peer) t = by-side (nat_le most_admins (length t.admins)) t
few-behind o (Packet conn kind body) t =
    let e = Packet conn kind body in still-few o e t (of-event o e Keeps (few-walk o e) t refl refl)
few-behind o (Broken conn) t = let e = Broken conn in still-few o e t (of-event o e Keeps (few-walk o e) t refl refl)
few-behind o (Shut conn) t = let e = Shut conn in still-few o e t (of-event o e Keeps (few-walk o e) t refl refl)
few-behind o Tick t = still-few o Tick t (of-ticked o Tick Keeps (few-walk o Tick) (few-ticks o Tick) t)
few-behind o Stop t = still-few o Stop t (of-event o Stop Keeps (few-walk o Stop) t refl refl)

-- so few are told that the game is over
members-by : (b : Bool) (ms : List Member) (n : ℕ) → length ms ≤ n → length (cond b (map (λ m. m.conn) ms) []) ≤ n
members-by true ms n low = let same = length-map ms (λ m. m.conn) in omega (arith, same, low)
members-by false ms n low = omega arith

admins-by : (b : Bool) (xs : List Admin) (n : ℕ) → length xs ≤ n → length (cond b (map (λ a. a.conn) xs) []) ≤ n
admins-by true xs n low = let same = length-map xs (λ a. a.conn) in omega (arith, same, low)
admins-by false xs n low = omega arith

pub few-members-told : (o : Origin) (e : Event) (t : Table) → length (ended_members o e t) ≤ length t.members + 1
few-members-told o e t = members-by (is_last o e t) (by_event o e t).table.members (length t.members + 1) (few-behind o e t).members

pub few-admins-told : (o : Origin) (e : Event) (t : Table) → length (ended_admins o e t) ≤ length t.admins + 1
few-admins-told o e t = admins-by (is_last o e t) (by_event o e t).table.admins (length t.admins + 1) (few-behind o e t).admins
