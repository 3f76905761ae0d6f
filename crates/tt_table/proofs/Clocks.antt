-- What an event makes of the clock, the journal and the counts of a table.
use Rattle.std.proofs.Common.{◌≡◌, ◌⊎◌, inl, inr, ℕ, suc, ◌+◌, ◌≤◌, ◌<◌, Bool, true, false, List, arith, refl, ap, sym}
use Rattle.std.proofs.Common.{◌∙◌}
use Rattle.std.specs.Prelude.{cond, not, nat_lt, ◌&&◌}
use Rattle.tt_edge.specs.declared.event.Event.{Event}
use Rattle.tt_edge.specs.declared.event.Event.TheVariants.{Open, Packet, Broken, Shut, Tick, Stop}
use Rattle.tt_edge.specs.Event.{is_tick}
use Rattle.tt_world.specs.declared.command.Entry.{Entry}
use Rattle.tt_world.specs.World.{WorldState}
use Rattle.tt_world.specs.Economy.{framed}
use Rattle.tt_lockstep.specs.Journal.{AreAbove, applied_all}
use Rattle.tt_lockstep.proofs.Journals.{world-next, world-stable}
use Rattle.tt_log.specs.Events.{by_event, names_live, takes}
use Rattle.tt_log.specs.Origin.{Origin, at_frame, game_of, world_at}
use Rattle.tt_log.specs.Table.{Table, world_of}
use Rattle.tt_log.specs.Tick.{stamps}
use Rattle.tt_log.proofs.Clock.{SameClock, Ticked, event-same, ticked-is}
use Rattle.tt_log.proofs.Entries.{for-above, stamps-for}

-- an event leaves the clock and the journal, or it is a tick
abbrev pub IsRunBy : Bool → Origin → Table → Table → Type 0
IsRunBy true o t u = Ticked o t u
IsRunBy false o t u = SameClock t u

pub run-by : (o : Origin) (e : Event) (t : Table) → IsRunBy (is_tick e) o t (by_event o e t).table
run-by o Tick t = ticked-is o t
run-by o (Open door peer) t = event-same o (Open door peer) t refl
run-by o (Packet conn kind body) t = event-same o (Packet conn kind body) t refl
run-by o (Broken conn) t = event-same o (Broken conn) t refl
run-by o (Shut conn) t = event-same o (Shut conn) t refl
run-by o Stop t = event-same o Stop t refl

-- what is stamped is for a frame above every permitted one
pub stamps-above : (o : Origin) (t : Table) → AreAbove (game_of o) t.top (stamps t)
stamps-above o t = for-above o t.top (stamps t) (stamps-for t)

-- the world behind a tick: the entries of its frame are carried out, and the frame is run
pub world-ticked : (o : Origin) (t u : Table) → Ticked o t u → t.frame ≤ t.top
    → world_of o u ≡ framed (applied_all (game_of o) (world_of o t) (at_frame o u.frame u.journal))
world-ticked o t u is near =
    let next : u.frame ≡ suc t.frame = is.frame ∙ (let e : t.frame + 1 ≡ suc t.frame = omega arith in e) in
    let before : world_at o u.journal t.frame ≡ world_of o t =
    ap (λ (xs : List Entry). world_at o xs t.frame) is.journal
    ∙ world-stable (game_of o) t.frame t.top t.journal (stamps t) (stamps-above o t) near in
    ap (λ (f : ℕ). world_at o u.journal f) next ∙ world-next (game_of o) u.journal t.frame
    ∙ ap (λ (w : WorldState). framed (applied_all (game_of o) w (at_frame o (suc t.frame) u.journal))) before
    ∙ ap (λ (f : ℕ). framed (applied_all (game_of o) (world_of o t) (at_frame o f u.journal))) (sym next)

pub world-same : (o : Origin) (t u : Table) → SameClock t u → world_of o u ≡ world_of o t
world-same o t u same = ap (λ (xs : List Entry). world_at o xs u.frame) same.journal ∙ ap (λ (f : ℕ). world_at o t.journal f) same.frame

-- the greatest permitted frame
pub top-ticked : (o : Origin) (t u : Table) → Ticked o t u
    → u.top ≡ cond (nat_lt t.top (t.frame + 1)) (t.frame + 1 + o.setup.frame_freq) t.top
top-ticked o t u is = by is.top
  where
    by : ((t.top < t.frame + 1) × (u.top ≡ t.frame + 1 + o.setup.frame_freq)) ⊎ ((t.frame + 1 ≤ t.top) × (u.top ≡ t.top))
        → u.top ≡ cond (nat_lt t.top (t.frame + 1)) (t.frame + 1 + o.setup.frame_freq) t.top
    by (inl h) =
        let yes : nat_lt t.top (t.frame + 1) ≡ true = let low = h.0 in grind (arith, low) in
        h.1 ∙ ap (λ (b : Bool). cond b (t.frame + 1 + o.setup.frame_freq) t.top) (sym yes)
    by (inr h) =
        let no : nat_lt t.top (t.frame + 1) ≡ false = let high = h.0 in grind (arith, high) in
        h.1 ∙ ap (λ (b : Bool). cond b (t.frame + 1 + o.setup.frame_freq) t.top) (sym no)

-- where an event can be taken the game is not over
pub going : (t : Table) (e : Event) → takes t e ≡ true → t.over ≡ false
going t e is = by t.over (names_live t e) is
  where
    by : (x y : Bool) → not x && y ≡ true → x ≡ false
    by true y h = absurd cc
    by false y h = refl
