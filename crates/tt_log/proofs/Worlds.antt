-- The worlds that a game comes to are sound, and their random words are words.
use Rattle.std.proofs.Common.{ℕ, zero, suc, ◌+◌, ◌<◌, Bool, true, false, List, [], ◌∷◌, Option, Some, None, sym, subst, arith, lit<}
use Rattle.std.specs.Prelude.{◌-◌, ◌==◌, ◌^◌, cond}
use Rattle.std.specs.List.{AllByRecursion}
use Rattle.std.proofs.Math.Nat.{min-le_right, mod-lt}
use Rattle.tt_frame.specs.Text.{IsShort}
use Rattle.tt_lockstep.specs.Journal.{of_frame, applied_all}
use Rattle.tt_world.specs.declared.company.Company.{Company}
use Rattle.tt_world.specs.declared.command.Entry.{Entry}
use Rattle.tt_world.specs.World.{WorldState}
use Rattle.tt_world.specs.Sound.{IsSound}
use Rattle.tt_world.specs.Random.{next_random}
use Rattle.tt_world.specs.Economy.{earned, went_on, framed_by, framed}
use Rattle.tt_world.specs.Commands.{applied}
use Rattle.tt_world.proofs.ApplyLaws.{IsSound-applied, applied_time}
use Rattle.tt_world.proofs.FrameLaws.{IsSound-framed}
use Rattle.tt_log.specs.Origin.{Origin, IsOrigin, game_of, world_at}

abbrev pub AreWords : ℕ × ℕ → Type 0
AreWords words = (words.0 < 2 ^ 32) × (words.1 < 2 ^ 32)

pub record IsGood (w : WorldState) : Type 0 where
  pub sound : IsSound w
  pub words : AreWords w.words
  pub day : w.day < 2 ^ 32

-- the texts of entries are short ones
abbrev pub AreShort : List Entry → Type 0
AreShort entries = AllByRecursion (λ (e : Entry). IsShort e.command.text) entries

drawn-words : (words : ℕ × ℕ) → AreWords (next_random words)
drawn-words words = (mod-lt _ (lit< tt), mod-lt _ (lit< tt))

earned-words : (words : ℕ × ℕ) (places : List (Option Company)) → AreWords words → AreWords (earned words places).0
earned-words words [] a = a
earned-words words (None ∷ places) a = earned-words words places a
earned-words words (Some c ∷ places) a = earned-words (next_random words) places (drawn-words words)

went-words : (b : Bool) (w : WorldState) → AreWords w.words → AreWords (went_on b w).words
went-words true w a = earned-words w.words w.companies a
went-words false w a = a

framed-words : (b : Bool) (w : WorldState) → AreWords w.words → AreWords (framed_by b w).words
framed-words true w a = a
framed-words false w a = went-words (w.part + 1 == 74) (record w { words = next_random w.words }) (drawn-words w.words)

went-day : (b : Bool) (w : WorldState) → w.day < 2 ^ 32 → (went_on b w).day < 2 ^ 32
went-day true w l = let m = min-le_right (w.day + 1) (2 ^ 32 - 1) in omega (arith, m)
went-day false w l = l

framed-day : (b : Bool) (w : WorldState) → w.day < 2 ^ 32 → (framed_by b w).day < 2 ^ 32
framed-day true w l = l
framed-day false w l = went-day (w.part + 1 == 74) (record w { words = next_random w.words }) l

framed-good : (w : WorldState) → IsGood w → IsGood (framed w)
framed-good w h = record { sound = IsSound-framed w h.sound; words = framed-words w.paused w h.words; day = framed-day w.paused w h.day }

pub entry-good : (w : WorldState) (e : Entry) → IsShort e.command.text → IsGood w → IsGood (applied w e).0
entry-good w e short h =
    let same = applied_time w e in record {
      sound = IsSound-applied w e short h.sound;
      words = subst AreWords (sym same.0) h.words;
      day = let d = same.1 in omega (arith, d, h.day);
    }

entries-good : (o : Origin) (w : WorldState) (es : List Entry) → AreShort es → IsGood w → IsGood (applied_all (game_of o) w es)
entries-good o w [] a h = h
entries-good o w (e ∷ es) a h = entries-good o (applied w e).0 es a.1 (entry-good w e a.0 h)

frame-short-by : (b : Bool) (e : Entry) (rest : List Entry) → IsShort e.command.text → AreShort rest → AreShort (cond b (e ∷ rest) rest)
frame-short-by true e rest s a = (s, a)
frame-short-by false e rest s a = a

pub frame-short : (o : Origin) (f : ℕ) (es : List Entry) → AreShort es → AreShort (of_frame (game_of o) f es)
frame-short o f [] a = tt
frame-short o f (e ∷ es) a = frame-short-by (e.frame == f) e (of_frame (game_of o) f es) a.0 (frame-short o f es a.1)

pub world-good : (o : Origin) (journal : List Entry) (f : ℕ) → IsOrigin o → AreShort journal → IsGood (world_at o journal f)
world-good o journal zero ok a = record { sound = ok.start.sound; words = ok.start.words; day = let l = ok.start.day in omega (arith, l) }
world-good o journal (suc f) ok a =
    framed-good (applied_all (game_of o) (world_at o journal f) (of_frame (game_of o) (0 + suc f) journal))
    (entries-good o (world_at o journal f) (of_frame (game_of o) (0 + suc f) journal) (frame-short o (0 + suc f) journal a)
    (world-good o journal f ok a))
