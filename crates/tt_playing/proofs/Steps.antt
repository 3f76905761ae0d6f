-- Scripts, read step by step and done.
use Rattle.std.proofs.Common.{◌≡◌, ℕ, ◌+◌, ◌-◌, ◌≤◌, List, [], ◌∷◌, ◌++◌, length, take, drop, map, refl, sym, ap, ap₂, subst, ◌∙◌}
use Rattle.std.proofs.Common.{arith, ◌<◌, ◌↔◌, inl, inr, Result, Ok, Err}
use Rattle.std.specs.Prelude.{false, fold}
use Rattle.std.proofs.lemmas.List.{take-append-drop, take-map, length-map, length-append, append-nil}
use Rattle.std.proofs.lemmas.List.Sums.{fold-append}
use Rattle.std.proofs.lemmas.Grind.{flat_map-append}
use Rattle.std.proofs.Math.Seq.{take-append_seam}
use Rattle.tt_lines.specs.Lines.{lines_of, IsFirstBad}
use Rattle.tt_log.specs.Origin.{Origin}
use Rattle.tt_log.specs.Steps.{step_text, IsStep}
use Rattle.tt_log.specs.Contents.{Contents}
use Rattle.tt_log.specs.Script.{Spells, IsScriptText, setup_of, saved_in, line_in, lines_in, contents_of}
use Rattle.tt_log.specs.Standing.{Standing}
use Rattle.tt_log.specs.Reader as reader
use Rattle.tt_log.specs.declared.script.line.Line1.{Line1}
use Rattle.tt_log.specs.declared.script.step.Step.{Step}
use Rattle.tt_log.proofs.ScriptLaws.{all_last, one_of, first_of_script}
use Rattle.tt_world.specs.declared.setup.Setup.{Setup}
use Rattle.tt_world.specs.World.{WorldState, start}
use Rattle.tt_world.specs.Setup.{Fits}
use Rattle.tt_map.specs.Maps.{IsMap}
use Rattle.tt_map.specs.Reading.{map_in}
use Rattle.tt_map.specs.declared.bad.MapBad.{MapBad}
use Rattle.tt_map.specs.declared.bad.MapBad.TheVariants as bad
use Rattle.tt_map.proofs.MapLaws.{map_is_read}
use Rattle.tt_log.specs.Saved.{IsSaved}
use Rattle.tt_log.specs.Printing.{IsScript}
use Rattle.tt_log.proofs.PrintLaws.{told_fits, spelled_script}
use Rattle.tt_playing.specs.Begun.{world_or, world_from, origin_from, MayStart, IsScriptOf}
use Rattle.tt_playing.specs.declared.play.Play.{Play}
use Rattle.tt_playing.specs.Played.{nothing, done, played}
use Rattle.tt_playing.specs.Playing.{IsAt, PlayedTo}

-- where nothing is left, these steps are spelled
abbrev all_read : (r : Standing) (bytes : List ℕ) (steps : List Step) → reader.IsAt r bytes steps → r.rest ≡ []
    → Spells (contents_of steps) (lines_of bytes)
all_read r bytes steps at none = record {
  steps = steps;
  is = at.is;
  text = at.text ∙ ap (λ (t : List ℕ). map step_text steps ++ lines_of t) none ∙ append-nil (map step_text steps);
  makes = refl;
}

-- and they make the start of its game
pub script_of : (r : Standing) (bytes : List ℕ) (steps : List Step) (setup : Setup) (saved : List ℕ) → reader.IsAt r bytes steps
    → r.rest ≡ [] → setup ≡ setup_of steps → saved ≡ saved_in steps → IsScriptOf setup saved (lines_of bytes)
script_of r bytes steps setup saved at none made told = record {
  script = contents_of steps;
  spelled = all_read r bytes steps at none;
  made = made;
  told = told;
}

-- ---- read a second time

-- no line of it is refused
pub none_unread : (setup : Setup) (saved : List ℕ) (texts : List (List ℕ)) (line : ℕ) → IsScriptOf setup saved texts
    → IsFirstBad IsScriptText texts line → ⊥
none_unread setup saved texts line is first = first.bad (first_of_script is.script texts line is.spelled)

-- the last line that was read is one of the grammar
pub read_step : (r : Standing) (bytes : List ℕ) (steps : List Step) (step : Step) → reader.IsAt r bytes (steps ++ step ∷ []) → IsStep step
read_step r bytes steps step at = all_last IsStep steps step at.is.each

-- one line more was done
pub played_snoc : (o : Origin) (steps : List Step) (step : Step) → played o (lines_in (steps ++ step ∷ [])) ≡ fold (done o)
    (played o (lines_in steps)) (line_in step)
played_snoc o steps step =
    let lines : lines_in (steps ++ step ∷ []) ≡ lines_in steps ++ line_in step =
    flat_map-append line_in steps (step ∷ []) ∙ ap (λ (t : List Line1). lines_in steps ++ t) (append-nil (line_in step)) in
    ap (played o) lines ∙ fold-append (done o) nothing (lines_in steps) (line_in step)

-- all of it was done
pub played_to : (setup : Setup) (saved : List ℕ) (r : Standing) (bytes : List ℕ) (steps : List Step) (play : Play)
    → IsScriptOf setup saved (lines_of bytes) → reader.IsAt r bytes steps → r.rest ≡ []
    → IsAt (origin_from setup saved) play (played (origin_from setup saved) (lines_in steps)) → PlayedTo (lines_of bytes) play
played_to setup saved r bytes steps play is at none done_so =
    let spelled = all_read r bytes steps at none in
    let same = one_of is.script (contents_of steps) (lines_of bytes) is.spelled spelled in
    let made : setup ≡ setup_of steps = is.made ∙ ap (λ (c : Contents). c.setup) same in
    let told : saved ≡ saved_in steps = is.told ∙ ap (λ (c : Contents). c.saved) same in
    record {
      script = contents_of steps;
      spelled = spelled;
      at = subst (λ (o : Origin). IsAt o play (played o (lines_in steps))) (ap₂ origin_from made told) done_so;
    }

-- ---- the start

started : (script : Contents) → IsScript script → MayStart script.saved
started script is = elim is.map [ inl none ↦ inl none | inr fits ↦ inr fits.1 ]

-- a game that is played may start
pub start_fits : (setup : Setup) (saved : List ℕ) (texts : List (List ℕ)) → IsScriptOf setup saved texts → Fits setup × MayStart saved
start_fits setup saved texts is =
    let script = spelled_script is.script texts is.spelled in (
      subst Fits (sym is.made) (told_fits is.script.setup script.setup),
      subst MayStart (sym is.told) (started is.script script),
    )

no_map : map_in [] ≡ Err (bad.Chunk 0)
unfolding map_in
no_map = refl

-- without a map the start is the setup's own
pub own_start : (setup : Setup) (saved : List ℕ) → saved ≡ [] → start setup ≡ world_from setup saved
own_start setup saved none = sym (ap (λ (m : List ℕ). world_or (map_in m) (start setup)) none
    ∙ ap (λ (r : Result WorldState MapBad). world_or r (start setup)) no_map)

pub map_start : (setup : Setup) (saved : List ℕ) (w : WorldState) → map_in saved ≡ Ok w → w ≡ world_from setup saved
map_start setup saved w read = sym (ap (λ (r : Result WorldState MapBad). world_or r (start setup)) read)

not_none : (saved : List ℕ) → MayStart saved → (saved ≡ [] → ⊥) → IsSaved saved
not_none saved (inl none) some = absurd (some none)
not_none saved (inr is) some = is

pub some_saved : (saved : List ℕ) → MayStart saved → 0 < length saved → IsSaved saved
some_saved saved may lt = not_none saved may (λ none. let e = ap length none in omega arith)

ok_is : (w v : WorldState) → ◌≡◌ {A = Result WorldState MapBad} (Ok w) (Ok v) → w ≡ v
ok_is w v e = cc

-- what is read of a saved game is its world
pub saved_is : (saved : List ℕ) (w : WorldState) → IsSaved saved → IsMap saved w → (map_in saved ≡ Ok w) × (w.day ≤ 900000000)
saved_is saved w is map =
    let same : is.world ≡ w = ok_is is.world w (sym (map_is_read saved is.world is.is) ∙ map_is_read saved w map) in
    (map_is_read saved w map, subst (λ (v : WorldState). v.day ≤ 900000000) same is.day)

-- a decoder that answers no world was handed no saved game
abbrev failed : MapBad → Result WorldState MapBad
failed told = Err told

same_bad : (a b : MapBad) → failed a ≡ failed b → a ≡ b
same_bad a b e = cc

no_world : (w : WorldState) (told : MapBad) → Ok w ≡ failed told → ⊥
no_world w told e = absurd cc

pub never_bad : (saved : List ℕ) (result : Result WorldState MapBad) (told : MapBad) → IsSaved saved → result ≡ Err told
    → (told ≡ bad.Memory → ⊥)
    → ((result ≡ Err bad.Memory → ⊥) → (w : WorldState) → (result ≡ Ok w) ↔ IsMap saved w) → ⊥
never_bad saved result told is e other map =
    let answered : result ≡ Err bad.Memory → ⊥ = λ m. other (same_bad told bad.Memory (sym e ∙ m)) in
    no_world is.world told (sym ((map answered is.world).1 is.is) ∙ e)
