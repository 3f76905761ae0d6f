-- At most sixteen admins are there behind the rule of an event.
use Rattle.std.proofs.Common.{◌≡◌, ◌+◌, ◌≤◌, ◌<◌, Bool, true, false, List, [], ◌∷◌, ◌++◌, arith, length, refl}
use Rattle.std.specs.Prelude.{cond, filter, map, nat_le, not, ◌==◌}
use Rattle.std.proofs.lemmas.Bool.{leb-false}
use Rattle.std.proofs.lemmas.List.{length-append, length-map}
use Rattle.tt_edge.specs.declared.event.Event.{Event}
use Rattle.tt_edge.specs.declared.event.Event.TheVariants.{Open, Packet, Broken, Shut, Tick, Stop}
use Rattle.tt_log.specs.declared.deed.Step.{Step}
use Rattle.tt_log.specs.Admin.{Admin, new_admin}
use Rattle.tt_log.specs.Desk.{admin_arrives, counted_aside, most_admins}
use Rattle.tt_log.specs.Events.{arrives, by_event, counted_in}
use Rattle.tt_log.specs.Origin.{Origin}
use Rattle.tt_log.specs.Table.{Table, is_admin_on}
use Rattle.tt_log.proofs.Walk.{Base, Doors, Moves, Ticks, Turns, Walk, behind-of, ahead-of, of-asks, of-enters, of-leaves, of-still}
use Rattle.tt_log.proofs.Walk.{of-ticked, running}

abbrev Few : Table → List Step → Table → Type 0
Few t steps u = length t.admins ≤ 16 → length u.admins ≤ 16

pub fewer : {A : Type 0} (p : A → Bool) (xs : List A) → length (filter p xs) ≤ length xs
fewer p [] = omega arith
fewer p (x ∷ xs) = by (p x) (fewer p xs)
  where
    by : (b : Bool) → length (filter p xs) ≤ length xs → length (cond b (x ∷ filter p xs) (filter p xs)) ≤ length (x ∷ xs)
    by true l = omega (arith, l)
    by false l = omega (arith, l)

few-turns : (o : Origin) (e : Event) → Turns o e Few
few-turns o e k t m on may by h = h

few-base : (o : Origin) (e : Event) → Base o e Few
few-base o e = record {
  still = λ t h. h;
  joins = λ t u v xs ys a b h. b (a h);
  turns = ahead-of o e Few (few-turns o e);
  tells_one = λ t m msg on talk h. h;
  tells_some = λ t to w there news h. h;
  tells_admins = λ t to r may is h. h;
}

few-moves : (o : Origin) (e : Event) → Moves o e Few
few-moves o e = record {
  moving = λ v t m on may h. h;
  recalls = λ t m on at h. h;
  waits_on = λ t conn n there h. h;
  stands = λ t m on h. h;
  cuts = λ t place h. h;
  ends_one = λ t m on h. h;
  parts = λ t m on h. h;
  greets = λ t m on at h. h;
}

few-walk : (o : Origin) (e : Event) → Walk o e Few
few-walk o e = record {
  base = few-base o e;
  locks = λ t m digest on allowed h. h;
  orders = λ t k is still h. h;
  asks_map = λ t m on at. of-asks o e Few (few-base o e) (few-moves o e) t m on at;
  enters_game = λ t m on at. of-enters o e Few (few-base o e) (few-moves o e) t m on at;
  goes = λ t m farewell on. of-leaves o e Few (few-base o e) (few-moves o e) t m farewell on;
  settles = λ t a b on is h. let same : length (map (λ (x : Admin). cond (x.conn == b.conn) b x) t.admins) ≡ length t.admins =
      length-map t.admins (λ (x : Admin). cond (x.conn == b.conn) b x) in omega (arith, same, h);
  goes_aside = λ t a on h. let less : length (filter (λ b. not (is_admin_on a.conn b)) t.admins) ≤ length t.admins =
      fewer (λ b. not (is_admin_on a.conn b)) t.admins in omega (arith, less, h);
}

few-main : (full : Bool) (t : Table) → Few t (arrives full (counted_in t)).told (arrives full (counted_in t)).table
few-main true t h = h
few-main false t h = h

few-side : (full : Bool) (t : Table) → nat_le most_admins (length t.admins) ≡ full
    → Few t (admin_arrives full (counted_aside t)).told (admin_arrives full (counted_aside t)).table
few-side true t is h = h
few-side false t is h =
    let low : length t.admins < 16 = leb-false 16 (length t.admins) is in
    let new : Admin = new_admin (t.openings + 1) t.frame in
    let more : length (t.admins ++ new ∷ []) ≡ length t.admins + 1 = length-append t.admins (new ∷ []) in omega (arith, low, more)

few-running : (b : Bool) (o : Origin) (t : Table) → Few t [] (running b o t)
few-running true o t h = h
few-running false o t h = h

few-doors : (o : Origin) (e : Event) → Doors o e Few
few-doors o e = record {
  comes = λ t. few-main (nat_le o.setup.max_clients (length t.members)) t;
  comes_aside = λ t. few-side (nat_le most_admins (length t.admins)) t refl;
}

few-ticks : (o : Origin) (e : Event) → Ticks o e Few
few-ticks o e = record { stamping = λ t h. h; behind = behind-of o e Few (few-turns o e); running = λ t b is. few-running b o t }

pub few-behind : (o : Origin) (e : Event) (t : Table) → length t.admins ≤ 16 → length (by_event o e t).table.admins ≤ 16
few-behind o Tick t = of-ticked o Tick Few (few-walk o Tick) (few-ticks o Tick) t
few-behind o (Open door peer) t = of-still o (Open door peer) Few (few-walk o (Open door peer)) (few-doors o (Open door peer)) t refl
few-behind o (Packet conn kind body) t = of-still o (Packet conn kind body) Few (few-walk o (Packet conn kind body))
    (few-doors o (Packet conn kind body)) t refl
few-behind o (Broken conn) t = of-still o (Broken conn) Few (few-walk o (Broken conn)) (few-doors o (Broken conn)) t refl
few-behind o (Shut conn) t = of-still o (Shut conn) Few (few-walk o (Shut conn)) (few-doors o (Shut conn)) t refl
few-behind o Stop t = λ h. h
