-- The entries of the frame behind one that was run: those at the front of what was not carried out yet, and those that are stamped
-- with it.
use Rattle.std.proofs.Common.{◌≡◌, ℕ, ◌<◌, ◌≤◌, List, [], ◌∷◌, ◌++◌, refl, ap, ap₂, sym, ◌∙◌, true, false, Bool, cond, arith}
use Rattle.std.specs.Prelude.{◌==◌, nat_lt, if◌then◌else◌}
use Rattle.std.proofs.lemmas.Bool.{ltb-true, ne_eqb}
use Rattle.tt_lockstep.specs.Journal.{AreRising}
use Rattle.tt_lockstep.proofs.Journals.{AreRising-above, of_frame-above, of_frame-append}
use Rattle.tt_world.specs.declared.command.Entry.{Entry}
use Rattle.tt_log.specs.Origin.{IsJournal, Origin, above, at_frame, game_of}
use Rattle.tt_table.specs.Frames.{for_frame, front}

pub for_frame_is : (o : Origin) (frame : ℕ) (es : List Entry) → for_frame frame es ≡ at_frame o frame es
for_frame_is o frame [] = refl
for_frame_is o frame (e ∷ es) = ap (λ (xs : List Entry). cond (e.frame == frame) (e ∷ xs) xs) (for_frame_is o frame es)

none_later : (o : Origin) (n frame : ℕ) (es : List Entry) → AreRising (game_of o) n es → frame < n → for_frame frame es ≡ []
none_later o n frame [] rise low = refl
none_later o n frame (e ∷ es) rise low =
    let later : n ≤ e.frame = rise.0 in
    let other : (e.frame == frame) ≡ false = ne_eqb e.frame frame (λ same. omega (arith, same, later, low)) in
    ap (λ (b : Bool). cond b (e ∷ for_frame frame es) (for_frame frame es)) other
    ∙ none_later o e.frame frame es rise.1 (omega (arith, later, low))

front_head : (b : Bool) (o : Origin) (frame : ℕ) (e : Entry) (es : List Entry) → nat_lt frame e.frame ≡ b
    → AreRising (game_of o) e.frame es → for_frame frame (front frame es) ≡ for_frame frame es
    → for_frame frame (if b then [] else e ∷ front frame es) ≡ for_frame frame (e ∷ es)
front_head true o frame e es is rise same =
    let low : frame < e.frame = ltb-true frame e.frame is in
    sym (none_later o e.frame frame (e ∷ es) (omega arith, rise) low)
front_head false o frame e es is rise same = ap (λ (xs : List Entry). cond (e.frame == frame) (e ∷ xs) xs) same

-- where frames do not fall, none is behind an entry for a later one
front_is : (o : Origin) (n frame : ℕ) (es : List Entry) → AreRising (game_of o) n es
    → for_frame frame (front frame es) ≡ for_frame frame es
front_is o n frame [] rise = refl
front_is o n frame (e ∷ es) rise =
    front_head (nat_lt frame e.frame) o frame e es refl rise.1 (front_is o e.frame frame es rise.1)

pub due_is : (o : Origin) (journal left stamped : List Entry) (past frame : ℕ) → IsJournal o journal → left ≡ above o past journal
    → past < frame → for_frame frame (front frame left) ++ for_frame frame stamped ≡ at_frame o frame (journal ++ stamped)
due_is o journal left stamped past frame rise is next =
    let rest : List Entry = above o past journal in
    let first : for_frame frame (front frame left) ≡ at_frame o frame journal =
    ap (λ (es : List Entry). for_frame frame (front frame es)) is
    ∙ front_is o 0 frame rest (AreRising-above (game_of o) 0 past journal rise)
    ∙ for_frame_is o frame rest
    ∙ of_frame-above (game_of o) past frame journal next
    in
    ap₂ (λ (xs ys : List Entry). xs ++ ys) first (for_frame_is o frame stamped) ∙ sym (of_frame-append (game_of o) frame journal stamped)
