-- What a stream shows is what lockstep makes of what the stream tells.
use Rattle.std.proofs.Common.{◌≡◌, ℕ, List, [], ◌∷◌, refl, ap, ap₂, sym, ◌∙◌, true, false, Bool, Option, Some}
use Rattle.std.specs.Prelude.{fold, if◌then◌else◌}
use Rattle.tt_game.specs.declared.message.GameMsg.{GameMsg}
use Rattle.tt_game.specs.declared.message.GameMsg.TheVariants.{ServerFull, ServerBanned, ServerError, ServerWelcome, ServerClientInfo}
use Rattle.tt_game.specs.declared.message.GameMsg.TheVariants.{ServerMove}
use Rattle.tt_world.specs.declared.command.Entry.{Entry}
use Rattle.tt_world.specs.World.{WorldState}
use Rattle.tt_lockstep.specs.Told.{Told}
use Rattle.tt_lockstep.specs.Shown as lockstep
use Rattle.tt_log.specs.Origin.{Origin, game_of}
use Rattle.tt_log.specs.Shown.{Place, Item, things_of, items_in, things_in, Shown, nothing_shown, goes_on, learns, end_by, phase_by}
use Rattle.tt_log.specs.Shown.{with_item, behind, unless_over, shown}

-- whether lockstep goes on
abbrev is_going : lockstep.Shown WorldState Entry → Bool
is_going lockstep.Joining = true
is_going (lockstep.Running view) = true
is_going _ = false

-- the phase says so
abbrev Fits : Shown → Type 0
Fits s = goes_on s.phase ≡ is_going s.seen

seen-stays : (o : Origin) (h : lockstep.Shown WorldState Entry) (t : Told WorldState Entry) → is_going h ≡ false
    → lockstep.seen (game_of o) h t ≡ h
seen-stays o lockstep.Joining t e = absurd cc
seen-stays o (lockstep.Running view) t e = absurd cc
seen-stays o lockstep.EndedJoining t e = refl
seen-stays o (lockstep.Ended view) t e = refl
seen-stays o lockstep.WrongJoining t e = refl
seen-stays o (lockstep.Wrong view) t e = refl

stays : (o : Origin) (h : lockstep.Shown WorldState Entry) (ts : List (Told WorldState Entry)) → is_going h ≡ false
    → lockstep.shown (game_of o) h ts ≡ h
stays o h [] e = refl
stays o h (t ∷ ts) e = ap (λ (x : lockstep.Shown WorldState Entry). lockstep.shown (game_of o) x ts) (seen-stays o h t e) ∙ stays o h ts e

end-stops : (msg : Option GameMsg) → goes_on (end_by msg) ≡ false
end-stops (Some ServerFull) = refl
end-stops (Some ServerBanned) = refl
end-stops (Some (ServerError code)) = refl
end-stops _ = refl

phase-going : (h : lockstep.Shown WorldState Entry) (i : Item) → goes_on (phase_by h i) ≡ is_going h
phase-going lockstep.Joining i = refl
phase-going (lockstep.Running view) i = refl
phase-going lockstep.EndedJoining i = end-stops i.msg
phase-going (lockstep.Ended view) i = end-stops i.msg
phase-going lockstep.WrongJoining i = refl
phase-going (lockstep.Wrong view) i = refl

-- what is learnt changes neither what is seen nor where it stands
record Same (s t : Shown) : Type 0 where
  seen : t.seen ≡ s.seen
  place : t.place ≡ s.place
  phase : t.phase ≡ s.phase

learns-same : (msg : Option GameMsg) (s : Shown) → Same s (learns msg s)
learns-same (Some (ServerWelcome client seed id)) s = record { seen = refl; place = refl; phase = refl }
learns-same (Some (ServerClientInfo client company name)) s = record { seen = refl; place = refl; phase = refl }
learns-same (Some (ServerMove client company)) s = record { seen = refl; place = refl; phase = refl }
learns-same _ s = record { seen = refl; place = refl; phase = refl }

if-same : (b : Bool) (msg : Option GameMsg) (s : Shown) → Same s (if b then learns msg s else s)
if-same true msg s = learns-same msg s
if-same false msg s = record { seen = refl; place = refl; phase = refl }

behind-same : (o : Origin) (s : Shown) (i : Item) → Same (with_item o s i) (behind o s i)
behind-same o s i = if-same (goes_on (with_item o s i).phase) i.msg (with_item o s i)

behind-fits : (o : Origin) (s : Shown) (i : Item) → Fits (behind o s i)
behind-fits o s i =
    let same : Same (with_item o s i) (behind o s i) = behind-same o s i in
    ap goes_on same.phase ∙ phase-going (with_item o s i).seen i ∙ sym (ap is_going same.seen)

-- one item more, and then the items behind it
one-more : (b : Bool) (o : Origin) (i : Item) (items : List Item) (s : Shown) → goes_on s.phase ≡ b → Fits s
    → ((n : Shown) → Fits n → (fold (unless_over o) n items).seen ≡ lockstep.shown (game_of o) n.seen (things_of n.place items))
    → (fold (unless_over o) (if b then behind o s i else s) items).seen ≡ lockstep.shown (game_of o) s.seen (things_of s.place (i ∷ items))
one-more true o i items s is fits next =
    let same : Same (with_item o s i) (behind o s i) = behind-same o s i in
    next (behind o s i) (behind-fits o s i)
    ∙ ap₂ (λ (h : lockstep.Shown WorldState Entry) (p : Place). lockstep.shown (game_of o) h (things_of p items)) same.seen same.place
one-more false o i items s is fits next =
    let over : is_going s.seen ≡ false = sym fits ∙ is in
    next s fits ∙ stays o s.seen (things_of s.place items) over ∙ sym (stays o s.seen (things_of s.place (i ∷ items)) over)

from-seen : (o : Origin) (items : List Item) (s : Shown) → Fits s → (fold (unless_over o) s items).seen ≡ lockstep.shown (game_of o) s.seen
    (things_of s.place items)
from-seen o [] s fits = refl
from-seen o (i ∷ items) s fits = one-more (goes_on s.phase) o i items s refl fits (λ n f. from-seen o items n f)

pub is-seen : (o : Origin) (bytes : List ℕ) → (shown o bytes).seen ≡ lockstep.shown (game_of o) lockstep.Joining (things_in bytes)
is-seen o bytes = from-seen o (items_in bytes) nothing_shown refl
