-- Each world that a game may come to is read back from its map: worlds stay sound, and the day comes slowly.
use Rattle.std.proofs.Common.{◌≡◌, ℕ, zero, suc, ◌+◌, ◌<◌, ◌≤◌, Bool, true, false}
use Rattle.std.proofs.Common.{cond, List, [], ◌∷◌, Option, Some, None, refl, sym, subst}
use Rattle.std.proofs.Common.{arith, lit<, length}
use Rattle.std.specs.Prelude.{◌==◌, ◌*◌, ◌^◌, ◌-◌, Ok}
use Rattle.std.specs.List.{AllByRecursion}
use Rattle.std.proofs.lemmas.Bool.{eqb-true}
use Rattle.std.proofs.Math.Nat.{mod-lt, min-le_left}
use Rattle.tt_frame.specs.Text.{IsShort}
use Rattle.tt_lockstep.specs.Journal.{of_frame, applied_all}
use Rattle.tt_world.specs.declared.company.Company.{Company}
use Rattle.tt_world.specs.declared.command.Entry.{Entry}
use Rattle.tt_world.specs.World.{WorldState}
use Rattle.tt_world.specs.Sound.{IsSound}
use Rattle.tt_world.specs.Random.{next_random}
use Rattle.tt_world.specs.Economy.{earned, next_day, went_on, framed_by, framed}
use Rattle.tt_world.specs.Commands.{applied}
use Rattle.tt_world.proofs.ApplyLaws.{IsSound-applied, applied_time}
use Rattle.tt_world.proofs.FrameLaws.{IsSound-framed}
use Rattle.tt_map.specs.Reading.{map_in}
use Rattle.tt_map.specs.Layout.{map_of}
use Rattle.tt_map.specs.Maps.{IsTold, IsMap}
use Rattle.tt_map.proofs.MapLaws.{map_is_read}
use Rattle.tt_map.proofs.WritingLaws.{map_length}
use Rattle.tt_log.specs.Origin.{Origin, IsOrigin, game_of, world_at}
use Rattle.tt_log.specs.Events.{last_frame}
use Rattle.tt_log.specs.Shown.{most_map}
use Rattle.tt_in_step.proofs.Ways.{map_at}

-- the texts of a journal's commands are short
abbrev pub AreShort : List Entry → Type 0
AreShort entries = AllByRecursion (λ (e : Entry). IsShort e.command.text) entries

-- a world's map is read back, and is not too long
pub record IsMapRead (o : Origin) (journal : List Entry) (s : ℕ) : Type 0 where
  pub is_read : map_in (map_at o journal s) ≡ Ok (world_at o journal s)
  pub fits : length (map_at o journal s) ≤ most_map

-- so is each world that the game may come to
abbrev pub MapsAreRead : Origin → Type 0
MapsAreRead o = (journal : List Entry) (s : ℕ) → AreShort journal → s ≤ last_frame → IsMapRead o journal s

abbrev AreWords : ℕ × ℕ → Type 0
AreWords words = (words.0 < 2 ^ 32) × (words.1 < 2 ^ 32)

-- so many frames after a moment a world is sound, and its day has come no further
record IsAfter (moment : ℕ) (w : WorldState) : Type 0 where
  sound : IsSound w
  words : AreWords w.words
  time : 74 * w.day + w.part ≤ moment

drawn-words : (words : ℕ × ℕ) → AreWords (next_random words)
drawn-words words = (mod-lt _ (lit< tt), mod-lt _ (lit< tt))

earned-words : (words : ℕ × ℕ) (places : List (Option Company)) → AreWords words → AreWords (earned words places).0
earned-words words [] a = a
earned-words words (None ∷ places) a = earned-words words places a
earned-words words (Some c ∷ places) a = earned-words (next_random words) places (drawn-words words)

went-words : (b : Bool) (w : WorldState) → AreWords w.words → AreWords (went_on b w).words
went-words true w a = earned-words w.words w.companies a
went-words false w a = a

by-words : (b : Bool) (w : WorldState) → AreWords w.words → AreWords (framed_by b w).words
by-words true w a = a
by-words false w a = went-words (w.part + 1 == 74) (record w { words = next_random w.words }) (drawn-words w.words)

went-time : (b : Bool) (w : WorldState) (moment : ℕ) → (w.part + 1 == 74) ≡ b → 74 * w.day + w.part ≤ moment
    → 74 * (went_on b w).day + (went_on b w).part ≤ suc moment
went-time true w moment is l =
    let last : w.part + 1 ≡ 74 = eqb-true (w.part + 1) 74 is in
    let day : next_day w.day ≤ w.day + 1 = min-le_left (w.day + 1) (2 ^ 32 - 1) in
    omega (arith, l, last, day)
went-time false w moment is l = omega (arith, l)

by-time : (b : Bool) (w : WorldState) (moment : ℕ) → 74 * w.day + w.part ≤ moment
    → 74 * (framed_by b w).day + (framed_by b w).part ≤ suc moment
by-time true w moment l = omega (arith, l)
by-time false w moment l = went-time (w.part + 1 == 74) (record w { words = next_random w.words }) moment refl l

after-frame : (moment : ℕ) (w : WorldState) → IsAfter moment w → IsAfter (suc moment) (framed w)
after-frame moment w h = record {
  sound = IsSound-framed w h.sound;
  words = by-words w.paused w h.words;
  time = by-time w.paused w moment h.time;
}

after-entry : (moment : ℕ) (w : WorldState) (e : Entry) → IsShort e.command.text → IsAfter moment w → IsAfter moment (applied w e).0
after-entry moment w e short h =
    let same = applied_time w e in record {
      sound = IsSound-applied w e short h.sound;
      words = subst AreWords (sym same.0) h.words;
      time = omega (arith, h.time, same.1, same.2);
    }

after-entries : (o : Origin) (moment : ℕ) (w : WorldState) (es : List Entry) → AreShort es → IsAfter moment w
    → IsAfter moment (applied_all (game_of o) w es)
after-entries o moment w [] a h = h
after-entries o moment w (e ∷ es) a h = after-entries o moment (applied w e).0 es a.1 (after-entry moment w e a.0 h)

frame-entries-one : (b : Bool) (e : Entry) (rest : List Entry) → IsShort e.command.text → AreShort rest → AreShort (cond b (e ∷ rest) rest)
frame-entries-one true e rest s a = (s, a)
frame-entries-one false e rest s a = a

frame-entries : (o : Origin) (f : ℕ) (es : List Entry) → AreShort es → AreShort (of_frame (game_of o) f es)
frame-entries o f [] a = tt
frame-entries o f (e ∷ es) a = frame-entries-one (e.frame == f) e (of_frame (game_of o) f es) a.0 (frame-entries o f es a.1)

later : (m n : ℕ) (w : WorldState) → m ≤ n → IsAfter m w → IsAfter n w
later m n w l h = record { sound = h.sound; words = h.words; time = omega (arith, h.time, l) }

world-after : (o : Origin) (moment : ℕ) (journal : List Entry) (f : ℕ) → AreShort journal → IsAfter moment o.start
    → IsAfter (f + moment) (world_at o journal f)
world-after o moment journal zero a h = later moment (0 + moment) o.start (omega arith) h
world-after o moment journal (suc f) a h =
    let now = of_frame (game_of o) (0 + suc f) journal in
    later (suc (f + moment)) (suc f + moment) (world_at o journal (suc f)) (omega arith)
    (after-frame (f + moment) (applied_all (game_of o) (world_at o journal f) now)
    (after-entries o (f + moment) (world_at o journal f) now (frame-entries o (0 + suc f) journal a) (world-after o moment journal f a h)))

early-enough : (day day0 part part0 f : ℕ) → 74 * day + part ≤ f + (74 * day0 + part0) → part0 < 74 → f ≤ last_frame
    → day0 ≤ 900000000 → day ≤ 1000000000
early-enough day day0 part part0 f time p l early = omega (arith, time, p, l, early)

within : {n : ℕ} → n ≤ 40280 → n ≤ 65536
within l = omega (arith, l)

-- what is known of maps: that of a world that can be told is one of it
abbrev pub MapsAreMaps : Type 0
MapsAreMaps = (w : WorldState) → IsTold w → IsMap (map_of w) w

pub maps_are_read : MapsAreMaps → (o : Origin) → IsOrigin o → MapsAreRead o
maps_are_read maps o h journal s entries low =
    let moment : ℕ = 74 * o.start.day + o.start.part in
    let start : IsAfter moment o.start = record { sound = h.start.sound; words = h.start.words; time = omega arith } in
    let w : WorldState = world_at o journal s in
    let k = world-after o moment journal s entries start in
    let early : w.day ≤ 1000000000 = early-enough w.day o.start.day w.part o.start.part s k.time h.start.sound.part low h.early in
    record {
      is_read = map_is_read (map_of w) w (maps w (record { sound = k.sound; day = early; words = k.words }));
      fits = within (map_length w k.sound);
    }
