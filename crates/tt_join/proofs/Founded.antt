-- Founders: who has ordered the companies that a frame founds, and what they are told.
use Rattle.std.proofs.Common.{◌≡◌, ℕ, ◌<◌, List, [], ◌∷◌, ◌++◌, refl, sym, ap, ◌∙◌, true, false, Bool}
use Rattle.std.proofs.Common.{arith, append_assoc}
use Rattle.std.specs.Prelude.{◌==◌, nat_lt, map, filter, cond, if◌then◌else◌}
use Rattle.std.proofs.lemmas.List.{map-append}
use Rattle.std.proofs.lemmas.List.Elements.{filter-append}
use Rattle.tt_world.specs.declared.command.Code.{Code}
use Rattle.tt_world.specs.declared.command.Code.TheVariants.{NewCompany}
use Rattle.tt_world.specs.declared.command.Entry.{Entry}
use Rattle.tt_rules.specs.Companies.{least_free}
use Rattle.tt_log.specs.Origin.{Origin, at_frame, above}
use Rattle.tt_log.specs.Tick.{founding, founder_of, living_with, foundings}
use Rattle.tt_members.specs.Crew.{founder_by, founders_in}
use Rattle.tt_join.specs.Ticking.{assigned, clients_at}

abbrev clients : List (ℕ × ℕ) → List ℕ
clients fs = map (λ (f : ℕ × ℕ). f.1) fs

abbrev for_frame : ℕ → List (ℕ × ℕ) → List (ℕ × ℕ)
for_frame frame fs = filter (λ (f : ℕ × ℕ). f.0 == frame) fs

-- ---- founders alone count

founds_one : (code : Code) (e : Entry) (live : List Bool) (es : List Entry)
    → ((l : List Bool) → foundings l es ≡ assigned l (clients (founders_in es)))
    → founder_of (founding code live) e.command.number ++ foundings (living_with (founding code live) live) es
    ≡ assigned live (clients (founder_by code e ++ founders_in es))
founds_one NewCompany e live es later =
    ap (λ (xs : List (ℕ × ℕ)). founder_of (least_free live) e.command.number ++ xs) (later (living_with (least_free live) live))
founds_one code e live es later = later live

founds_all : (es : List Entry) (live : List Bool) → foundings live es ≡ assigned live (clients (founders_in es))
founds_all [] live = refl
founds_all (e ∷ es) live = founds_one e.command.code e live es (founds_all es)

-- ---- those of a frame

kept_by : (code : Code) (e : Entry) (frame : ℕ) (fs : List (ℕ × ℕ)) → (e.frame == frame) ≡ true
    → founder_by code e ++ for_frame frame fs ≡ for_frame frame (founder_by code e ++ fs)
kept_by NewCompany e frame fs is =
    ap (λ (b : Bool). cond b ((e.frame, e.command.number) ∷ for_frame frame fs) (for_frame frame fs)) (sym is)
kept_by code e frame fs is = refl

passed_by : (code : Code) (e : Entry) (frame : ℕ) (fs : List (ℕ × ℕ)) → (e.frame == frame) ≡ false
    → for_frame frame fs ≡ for_frame frame (founder_by code e ++ fs)
passed_by NewCompany e frame fs is =
    ap (λ (b : Bool). cond b ((e.frame, e.command.number) ∷ for_frame frame fs) (for_frame frame fs)) (sym is)
passed_by code e frame fs is = refl

at_head : (b : Bool) (e : Entry) (frame : ℕ) (xs es : List Entry) → (e.frame == frame) ≡ b → founders_in xs ≡ for_frame frame (founders_in
    es)
    → founders_in (if b then e ∷ xs else xs) ≡ for_frame frame (founder_by e.command.code e ++ founders_in es)
at_head true e frame xs es is later = ap (λ (fs : List (ℕ × ℕ)). founder_by e.command.code e ++ fs) later
    ∙ kept_by e.command.code e frame (founders_in es) is
at_head false e frame xs es is later = later ∙ passed_by e.command.code e frame (founders_in es) is

founders_at : (o : Origin) (frame : ℕ) (es : List Entry) → founders_in (at_frame o frame es) ≡ for_frame frame (founders_in es)
founders_at o frame [] = refl
founders_at o frame (e ∷ es) = at_head (e.frame == frame) e frame (at_frame o frame es) es refl (founders_at o frame es)

-- what is at most at a frame is at no later one
low_head : (b : Bool) (e : Entry) (low frame : ℕ) (xs es : List Entry) → low < frame → nat_lt low e.frame ≡ b
    → for_frame frame (founders_in xs) ≡ for_frame frame (founders_in es)
    → for_frame frame (founders_in (if b then e ∷ xs else xs)) ≡ for_frame frame (founder_by e.command.code e ++ founders_in es)
low_head true e low frame xs es below is later =
    filter-append (λ (f : ℕ × ℕ). f.0 == frame) (founder_by e.command.code e) (founders_in xs)
    ∙ ap (λ (fs : List (ℕ × ℕ)). for_frame frame (founder_by e.command.code e) ++ fs) later
    ∙ sym (filter-append (λ (f : ℕ × ℕ). f.0 == frame) (founder_by e.command.code e) (founders_in es))
low_head false e low frame xs es below is later =
    let other : (e.frame == frame) ≡ false = grind (arith, is, below) in
    later ∙ passed_by e.command.code e frame (founders_in es) other

founders_above : (o : Origin) (low frame : ℕ) (es : List Entry) → low < frame
    → for_frame frame (founders_in (above o low es)) ≡ for_frame frame (founders_in es)
founders_above o low frame [] below = refl
founders_above o low frame (e ∷ es) below =
    low_head (nat_lt low e.frame) e low frame (above o low es) es below refl (founders_above o low frame es below)

pub founders_append : (xs ys : List Entry) → founders_in (xs ++ ys) ≡ founders_in xs ++ founders_in ys
founders_append [] ys = refl
founders_append (e ∷ xs) ys = ap (λ (fs : List (ℕ × ℕ)). founder_by e.command.code e ++ fs) (founders_append xs ys)
    ∙ sym (append_assoc (founder_by e.command.code e) (founders_in xs) (founders_in ys))

pub clients_append : (frame : ℕ) (fs gs : List (ℕ × ℕ)) → clients_at frame (fs ++ gs) ≡ clients_at frame fs ++ clients_at frame gs
clients_append frame fs gs = ap clients (filter-append (λ (f : ℕ × ℕ). f.0 == frame) fs gs)
    ∙ map-append (λ (f : ℕ × ℕ). f.1) (for_frame frame fs) (for_frame frame gs)

-- the companies of a later frame, where the founders that a journal holds behind a frame are known
pub founded_at : (o : Origin) (low frame : ℕ) (live : List Bool) (fs : List (ℕ × ℕ)) (journal new : List Entry) → low < frame
    → fs ≡ founders_in (above o low journal)
    → foundings live (at_frame o frame (journal ++ new)) ≡ assigned live (clients_at frame (fs ++ founders_in new))
founded_at o low frame live fs journal new below is =
    founds_all (at_frame o frame (journal ++ new)) live
    ∙ ap (λ (gs : List (ℕ × ℕ)). assigned live (clients gs)) (founders_at o frame (journal ++ new))
    ∙ ap (λ (gs : List (ℕ × ℕ)). assigned live (clients_at frame gs)) (founders_append journal new)
    ∙ ap (assigned live) (clients_append frame (founders_in journal) (founders_in new))
    ∙ ap (λ (gs : List (ℕ × ℕ)). assigned live (clients gs ++ clients_at frame (founders_in new)))
    (sym (founders_above o low frame journal below) ∙ ap (for_frame frame) (sym is))
    ∙ ap (assigned live) (sym (clients_append frame fs (founders_in new)))
