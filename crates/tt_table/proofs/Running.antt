-- The world behind a frame, and its day.
use Rattle.std.proofs.Common.{◌≡◌, ℕ, suc, ◌+◌, List, [], ◌∷◌, ◌++◌, refl, ap, subst, ◌∙◌, true, false, Bool, arith}
use Rattle.std.specs.Prelude.{◌==◌}
use Rattle.std.proofs.lemmas.Bool.{eqb-false, ne_eqb}
use Rattle.tt_lockstep.specs.Journal.{AreAbove, applied_all, of_frame}
use Rattle.tt_lockstep.proofs.Journals.{world-next, world-stable}
use Rattle.tt_world.specs.declared.command.Entry.{Entry}
use Rattle.tt_world.specs.Commands.{applied}
use Rattle.tt_world.specs.Economy.{framed, framed_by, went_on}
use Rattle.tt_world.specs.Random.{next_random}
use Rattle.tt_world.specs.World.{WorldState}
use Rattle.tt_world.proofs.ApplyLaws.{applied_time}
use Rattle.tt_log.specs.Origin.{Origin, at_frame, game_of, world_at}
use Rattle.tt_table.specs.Frames.{ran}
use Rattle.tt_table.specs.Ticking.{last_part}

-- the world behind a frame is that before it, in which its entries were carried out and a frame was run
pub world_ran : (o : Origin) (journal stamped : List Entry) (f : ℕ) → AreAbove (game_of o) f stamped
    → world_at o (journal ++ stamped) (f + 1) ≡ ran o (world_at o journal f) (at_frame o (f + 1) (journal ++ stamped))
world_ran o journal stamped f later =
    let next : suc f ≡ f + 1 = omega arith in
    subst (λ (k : ℕ). world_at o (journal ++ stamped) k ≡ ran o (world_at o journal f) (at_frame o k (journal ++ stamped))) next
    (world-next (game_of o) (journal ++ stamped) f
    ∙ ap (λ (w : WorldState). framed (applied_all (game_of o) w (of_frame (game_of o) (suc f) (journal ++ stamped))))
    (world-stable (game_of o) f f journal stamped later (omega arith)))

-- entries take no time
all_time : (o : Origin) (w : WorldState) (es : List Entry)
    → ((applied_all (game_of o) w es).day ≡ w.day) × ((applied_all (game_of o) w es).part ≡ w.part)
all_time o w [] = (refl, refl)
all_time o w (e ∷ es) =
    let one = applied_time w e in
    let more = all_time o (applied w e).0 es in
    (more.0 ∙ one.1, more.1 ∙ one.2)

day_kept : (b : Bool) (w : WorldState) → (w.part + 1 == 74) ≡ false → (framed_by b w).day ≡ w.day
day_kept true w is = refl
day_kept false w is = ap (λ (c : Bool). (went_on c (record w { words = next_random w.words })).day) is

-- behind any part but the last one the day is the same
pub day_stays : (o : Origin) (w : WorldState) (es : List Entry) → (w.part == last_part) ≡ false → (ran o w es).day ≡ w.day
day_stays o w es is =
    let v : WorldState = applied_all (game_of o) w es in
    let time = all_time o w es in
    let part : v.part ≡ w.part = time.1 in
    let not_last : w.part ≡ 73 → ⊥ = eqb-false w.part 73 is in
    let goes : (v.part + 1 == 74) ≡ false = ne_eqb (v.part + 1) 74 (λ same. not_last (omega (arith, same, part))) in
    day_kept v.paused v goes ∙ time.0
