-- A company that lives goes on living, whatever is done in its world; and what entries found lives behind them.
use Rattle.std.proofs.Common.{◌≡◌, ℕ, zero, suc, ◌+◌, ◌≤◌, ◌<◌, Bool, true, false, List, [], ◌∷◌, ◌++◌, length, Option, Some, None}
use Rattle.std.proofs.Common.{refl, ap, sym, ◌∙◌, subst, arith}
use Rattle.std.specs.Prelude.{is_some, map}
use Rattle.std.specs.List.{AllByRecursion}
use Rattle.std.proofs.lemmas.List.{get_or-set_same}
use Rattle.tt_lockstep.specs.Journal.{applied_all}
use Rattle.tt_lockstep.proofs.Journals.{world-next, world-stable}
use Rattle.tt_world.specs.declared.command.Entry.{Entry}
use Rattle.tt_world.specs.declared.company.Company.{Company}
use Rattle.tt_world.specs.World.{WorldState}
use Rattle.tt_world.specs.Commands.{applied}
use Rattle.tt_world.specs.Economy.{earned, paid, paid_monthly, framed_by, went_on}
use Rattle.tt_world.specs.Random.{next_random}
use Rattle.tt_rules.specs.Companies.{founded, living}
use Rattle.tt_log.specs.Origin.{Origin, at_frame, game_of, world_at}
use Rattle.tt_log.specs.Seats.{Lives}
use Rattle.tt_log.specs.Table.{Table}
use Rattle.tt_log.specs.Tick.{founder_of, founding, foundings, living_with, stamps}
use Rattle.tt_log.proofs.Entries.{for-above, stamps-for}
use Rattle.tt_log.proofs.Founders.{applied-lives}
use Rattle.tt_log.proofs.Lists.{all-append, all-so}
use Rattle.tt_log.proofs.Places.{founding-low}

-- ---- what lives goes on living

abbrev pub Lasts : List Bool → List Bool → Type 0
Lasts old new = (n : ℕ) → Lives old n → Lives new n

founded-lasts : (live : List Bool) (k n : ℕ) → Lives live n → Lives (founded k live) n
founded-lasts [] k n is = absurd cc
founded-lasts (b ∷ live) zero zero is = refl
founded-lasts (b ∷ live) zero (suc n) is = is
founded-lasts (b ∷ live) (suc k) zero is = is
founded-lasts (b ∷ live) (suc k) (suc n) is = founded-lasts live k n is

with-lasts : (x : Option ℕ) (live : List Bool) → Lasts live (living_with x live)
with-lasts None live n is = is
with-lasts (Some k) live n is = founded-lasts live k n is

entries-last : (o : Origin) (w : WorldState) (es : List Entry) → Lasts (living w) (living (applied_all (game_of o) w es))
entries-last o w [] n is = is
entries-last o w (e ∷ es) n is = entries-last o (applied w e).0 es n (subst (λ (live : List Bool). Lives live n) (sym (applied-lives w e))
    (with-lasts (founding e.command.code (living w)) (living w) n is))

-- ---- a frame leaves them

earned-lives : (places : List (Option Company)) (words : ℕ × ℕ) → map is_some (earned words places).1 ≡ map is_some places
earned-lives [] words = refl
earned-lives (None ∷ places) words = ap (λ (live : List Bool). false ∷ live) (earned-lives places words)
earned-lives (Some c ∷ places) words = ap (λ (live : List Bool). true ∷ live) (earned-lives places (next_random words))

paid-lives : (places : List (Option Company)) → map is_some (paid places) ≡ map is_some places
paid-lives [] = refl
paid-lives (None ∷ places) = ap (λ (live : List Bool). false ∷ live) (paid-lives places)
paid-lives (Some c ∷ places) = ap (λ (live : List Bool). true ∷ live) (paid-lives places)

monthly-lives : (b : Bool) (places : List (Option Company)) → map is_some (paid_monthly b places) ≡ map is_some places
monthly-lives true places = paid-lives places
monthly-lives false places = refl

went-lives : (b : Bool) (w : WorldState) → living (went_on b w) ≡ living w
went-lives true w = monthly-lives _ (earned w.words w.companies).1 ∙ earned-lives w.companies w.words
went-lives false w = refl

framed-lives : (b : Bool) (w : WorldState) → living (framed_by b w) ≡ living w
framed-lives true w = refl
framed-lives false w = went-lives _ (record w { words = next_random w.words })

-- ---- what is founded lives

founder-lives : (x : Option ℕ) (client : ℕ) (live : List Bool) → ((k : ℕ) → x ≡ Some k → k < length live)
    → AllByRecursion (λ (f : ℕ × ℕ). Lives (living_with x live) f.1) (founder_of x client)
founder-lives None client live low = tt
founder-lives (Some k) client live low = (get_or-set_same live k true false (low k refl), tt)

foundings-live : (o : Origin) (w : WorldState) (es : List Entry)
    → AllByRecursion (λ (f : ℕ × ℕ). Lives (living (applied_all (game_of o) w es)) f.1) (foundings (living w) es)
foundings-live o w [] = tt
foundings-live o w (e ∷ es) =
    let v : WorldState = (applied w e).0 in
    let new : Option ℕ = founding e.command.code (living w) in
    let behind : List Bool = living (applied_all (game_of o) v es) in
    let first = founder-lives new e.command.number (living w) (founding-low e.command.code (length (living w)) (living w) refl) in
    all-append (λ (f : ℕ × ℕ). Lives behind f.1) (founder_of new e.command.number) (foundings (living_with new (living w)) es)
    (all-so (λ (f : ℕ × ℕ). Lives (living_with new (living w)) f.1) (λ (f : ℕ × ℕ). Lives behind f.1) (founder_of new e.command.number)
    (λ f at. entries-last o v es f.1 (subst (λ (live : List Bool). Lives live f.1) (sym (applied-lives w e)) at)) first)
    (subst (λ (live : List Bool). AllByRecursion (λ (f : ℕ × ℕ). Lives behind f.1) (foundings live es)) (applied-lives w e)
    (foundings-live o v es))

-- ---- the worlds of a journal

next-lives : (o : Origin) (journal : List Entry) (f : ℕ) → living (world_at o journal (f + 1))
    ≡ living (applied_all (game_of o) (world_at o journal f) (at_frame o (f + 1) journal))
next-lives o journal f =
    let w : WorldState = world_at o journal f in
    let behind : ℕ → WorldState = λ (k : ℕ). applied_all (game_of o) w (at_frame o k journal) in
    let more : suc f ≡ f + 1 = omega arith in
    subst (λ (k : ℕ). living (world_at o journal k) ≡ living (behind k)) more
    (ap (λ (v : WorldState). living v) (world-next (game_of o) journal f) ∙ framed-lives (behind (suc f)).paused (behind (suc f)))

-- a company that lives at a frame lives at the next one
pub next-lasts : (o : Origin) (journal : List Entry) (f : ℕ) → Lasts (living (world_at o journal f)) (living (world_at o journal (f + 1)))
next-lasts o journal f n is = subst (λ (live : List Bool). Lives live n) (sym (next-lives o journal f))
    (entries-last o (world_at o journal f) (at_frame o (f + 1) journal) n is)

-- and so does one that the next frame founds
pub founders-live : (o : Origin) (journal : List Entry) (f : ℕ)
    → AllByRecursion (λ (x : ℕ × ℕ). Lives (living (world_at o journal (f + 1))) x.1)
    (foundings (living (world_at o journal f)) (at_frame o (f + 1) journal))
founders-live o journal f =
    let es : List Entry = at_frame o (f + 1) journal in
    let w : WorldState = world_at o journal f in
    subst (λ (live : List Bool). AllByRecursion (λ (x : ℕ × ℕ). Lives live x.1) (foundings (living w) es)) (sym (next-lives o journal f))
    (foundings-live o w es)

-- what is stamped changes no world that is permitted
pub stamping-stays : (o : Origin) (t : Table) → t.frame ≤ t.top → world_at o (t.journal ++ stamps t) t.frame ≡ world_at o t.journal t.frame
stamping-stays o t low = world-stable (game_of o) t.frame t.top t.journal (stamps t) (for-above o t.top (stamps t) (stamps-for t)) low
