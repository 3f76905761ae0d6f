-- Each thing that the server does is a way of the server that one connection sees: by cases on its seat, and with no table.
use Rattle.std.proofs.Common.{◌≡◌, ℕ, suc, ◌+◌, ◌<◌, ◌≤◌, Bool, true, false, List, [], ◌∷◌, ◌++◌, Option, Some, None, length, take}
use Rattle.std.proofs.Common.{refl, ap, ap₂, sym, ◌∙◌, subst, map, arith}
use Rattle.std.specs.Prelude.{◌*◌}
use Rattle.std.specs.List.{AllByRecursion}
use Rattle.std.proofs.lemmas.Bool.{le-leb}
use Rattle.tt_lockstep.specs.Journal.{AreAbove}
use Rattle.tt_lockstep.specs.Told as told
use Rattle.tt_lockstep.specs.Told.{Told}
use Rattle.tt_lockstep.specs.Server.{Server, Playing, TellSync, TellOther, BeginMap, BeginPlay, Leave, Vanish, if_there}
use Rattle.tt_lockstep.specs.Leads.{Leads, AreStamped}
use Rattle.tt_lockstep.specs.Dialog.{things, place_after}
use Rattle.tt_lockstep.proofs.Journals.{world-stable}
use Rattle.tt_lockstep.proofs.Leading.{leads_by_stamps, leads_by_run, leads_by_frame}
use Rattle.tt_lockstep.proofs.Dialogs.{Goes, Goes-nowhere, Goes-on, Goes-by, things-append, place-append}
use Rattle.tt_game.specs.declared.message.GameMsg.{GameMsg}
use Rattle.tt_game.specs.declared.message.GameMsg.TheVariants.{ServerFull, ServerError, ServerShutdown, ServerMapBegin, ServerMapSize}
use Rattle.tt_game.specs.declared.message.GameMsg.TheVariants.{ServerFrame, ServerSync}
use Rattle.tt_world.specs.declared.command.Code.{Code}
use Rattle.tt_world.specs.declared.command.Code.TheVariants.{IncreaseLoan, DecreaseLoan, Give, PlaceSign, RenameSign, RenameCompany}
use Rattle.tt_world.specs.declared.command.Code.TheVariants.{RenamePresident, Pause, NewCompany}
use Rattle.tt_world.specs.declared.command.Entry.{Entry}
use Rattle.tt_world.specs.World.{WorldState}
use Rattle.tt_map.specs.Layout.{map_of}
use Rattle.tt_rules.specs.Commands.{number_of, code_of}
use Rattle.tt_log.specs.Origin.{Origin, game_of, above, world_at}
use Rattle.tt_log.specs.PacketRules.{told_command}
use Rattle.tt_log.specs.Shown.{Place, Asking, Greeted, Begun, Fetching, InPlay, Parted, told_at, moves_on, place_behind, dialog, other_if}
use Rattle.tt_log.specs.Shown.{most_map, unless_parted}
use Rattle.tt_in_step.specs.Watched.{Seat, AtDoor, Welcome, InQueue, Loads, HasMap, Plays, stage_at, stage_of}
use Rattle.tt_in_step.proofs.Seats.{plays_at, plays}

-- the server as a connection with a seat, or none, sees it
abbrev pub seen_as : ℕ → ℕ → List Entry → Bool → Option Seat → Server Entry
seen_as f top journal b x = record { frame = f; permitted = top; journal = journal; stage = stage_of b x }

-- by these messages the dialogue goes from place to place, and what they tell leads from server to server
abbrev pub Way : Origin → Place → List GameMsg → Server Entry → Server Entry → Place → Type 0
Way o place ms old new end = Goes (game_of o) dialog place ms old new end

-- the map of a frame, of a journal
abbrev pub map_at : Origin → List Entry → ℕ → List ℕ
map_at o journal s = map_of (world_at o journal s)

-- where the dialogue stands at a seat
abbrev pub place_at : Origin → List Entry → Seat → Place
place_at o journal AtDoor = Asking
place_at o journal Welcome = Greeted
place_at o journal InQueue = Greeted
place_at o journal (Loads s k) = Fetching s (length (map_at o journal s)) (take (1400 * k) (map_at o journal s))
place_at o journal (HasMap s) = InPlay
place_at o journal (Plays s) = InPlay

-- a map that comes is of no frame to come
abbrev pub HasBegun : ℕ → Seat → Type 0
HasBegun f (Loads s k) = s ≤ f
HasBegun f other = Unit

-- the dialogue stands where the seat says
abbrev pub FitsAt : Origin → ℕ → List Entry → Seat → Place → Type 0
FitsAt o f journal x place = (place ≡ place_at o journal x) × HasBegun f x

abbrev pub Fitting : Origin → ℕ → List Entry → Bool → Option Seat → Place → Type 0
Fitting o f journal b None place = b ≡ false → place ≡ Asking
Fitting o f journal b (Some x) place = FitsAt o f journal x place

-- messages, to who plays
abbrev pub if_plays : Bool → List GameMsg → List GameMsg
if_plays true ms = ms
if_plays false ms = []

pub stays : (o : Origin) (place : Place) (server : Server Entry) → Way o place [] server server place
stays o place server = Goes-nowhere (game_of o) dialog place server

-- a way that begins at a place is one that begins at the same place
pub way-from : (o : Origin) (place here end : Place) (ms : List GameMsg) (old new : Server Entry) → place ≡ here → Way o here ms old new end
    → Way o place ms old new end
way-from o place here end ms old new at way = subst (λ p. Way o p ms old new end) (sym at) way

-- who has a seat is there
there : (x : Seat) (t : Told WorldState Entry) → if_there (stage_at x) t ≡ t ∷ []
there AtDoor t = refl
there Welcome t = refl
there InQueue t = refl
there (Loads s k) t = refl
there (HasMap s) t = refl
there (Plays s) t = refl

-- ---- what changes nothing

-- a message that changes no stage, behind which the dialogue stands elsewhere or not
pub way-on : (o : Origin) (f top : ℕ) (journal : List Entry) (b : Bool) (x : Seat) (place end : Place) (m : GameMsg)
    → told_at place m ≡ told.Other → moves_on place m ≡ end
    → Way o place (m ∷ []) (seen_as f top journal b (Some x)) (seen_as f top journal b (Some x)) end
way-on o f top journal b x place end m is on =
    let server = seen_as f top journal b (Some x) in
    Goes-by (game_of o) dialog place end (m ∷ []) server TellOther
    (ap (λ t. t ∷ []) is ∙ sym (there x told.Other))
    (ap (λ (t : Told WorldState Entry). unless_parted t (moves_on place m)) is ∙ on)

-- it tells those that play what changes nothing
abbrev pub IsNoise : GameMsg → Type 0
IsNoise m = (told_at InPlay m ≡ told.Other) × (moves_on InPlay m ≡ InPlay)

in-play : (o : Origin) (journal : List Entry) (x : Seat) → plays_at x ≡ true → place_at o journal x ≡ InPlay
in-play o journal (Plays s) p = refl
in-play o journal other p = absurd cc

pub way-noise : (o : Origin) (f top : ℕ) (journal : List Entry) (b : Bool) (x : Option Seat) (place : Place) (m : GameMsg) → plays x ≡ true
    → Fitting o f journal b x place → IsNoise m → Way o place (m ∷ []) (seen_as f top journal b x) (seen_as f top journal b x) place
way-noise o f top journal b None place m p fit noise = absurd cc
way-noise o f top journal b (Some x) place m p fit noise =
    let at : place ≡ InPlay = fit.0 ∙ in-play o journal x p in
    let server = seen_as f top journal b (Some x) in
    subst (λ p. Way o p (m ∷ []) server server p) (sym at) (way-on o f top journal b x InPlay InPlay m noise.0 noise.1)

pub ways-noise : (o : Origin) (f top : ℕ) (journal : List Entry) (b : Bool) (x : Seat) (ms : List GameMsg) → AllByRecursion IsNoise ms
    → Way o InPlay ms (seen_as f top journal b (Some x)) (seen_as f top journal b (Some x)) InPlay
ways-noise o f top journal b x [] a = stays o InPlay (seen_as f top journal b (Some x))
ways-noise o f top journal b x (m ∷ ms) a =
    let server = seen_as f top journal b (Some x) in
    Goes-on (game_of o) dialog InPlay InPlay InPlay server server server (m ∷ []) ms
    (way-on o f top journal b x InPlay InPlay m a.0.0 a.0.1) (ways-noise o f top journal b x ms a.1)

-- ---- entries

code-known : (code : Code) → code_of (number_of code) ≡ Some code
code-known IncreaseLoan = refl
code-known DecreaseLoan = refl
code-known Give = refl
code-known PlaceSign = refl
code-known RenameSign = refl
code-known RenameCompany = refl
code-known RenamePresident = refl
code-known Pause = refl
code-known NewCompany = refl

thing-command : (e : Entry) → told_at InPlay (told_command e) ≡ told.Command e
thing-command e = rw (code-known e.command.code) refl

command-place : (e : Entry) → place_behind InPlay (told_command e) ≡ InPlay
command-place e = ap (λ (t : Told WorldState Entry). unless_parted t InPlay) (thing-command e)

commands : (es : List Entry) → things dialog InPlay (map told_command es) ≡ map (λ e. told.Command e) es
commands [] = refl
commands (e ∷ es) =
    ap₂ (λ (t : Told WorldState Entry) (ts : List (Told WorldState Entry)). t ∷ ts) (thing-command e)
    (ap (λ (p : Place). things dialog p (map told_command es)) (command-place e) ∙ commands es)

commands-end : (es : List Entry) → place_after dialog InPlay (map told_command es) ≡ InPlay
commands-end [] = refl
commands-end (e ∷ es) = ap (λ (p : Place). place_after dialog p (map told_command es)) (command-place e) ∙ commands-end es

-- those that play stay at their place
in_play : (o : Origin) (place : Place) (ms : List GameMsg) (old new : Server Entry) → place ≡ InPlay → Way o InPlay ms old new InPlay
    → Way o place ms old new place
in_play o place ms old new fit way = subst (λ p. Way o p ms old new p) (sym fit) way

-- stamps, to whoever is there
pub way-stamps : (o : Origin) (f top : ℕ) (journal es : List Entry) (b : Bool) (x : Option Seat) (place : Place)
    → AreStamped (game_of o) top es → Fitting o f journal b x place
    → Way o place (if_plays (plays x) (map told_command es)) (seen_as f top journal b x) (seen_as f top (journal ++ es) b x) place
way-stamps o f top journal es b (Some (Plays s)) place a fit =
    let old : Server Entry = record { frame = f; permitted = top; journal = journal; stage = Playing s } in
    let new : Server Entry = record { frame = f; permitted = top; journal = journal ++ es; stage = Playing s } in
    in_play o place (map told_command es) old new fit.0
    (record {
      leads = subst (λ ts. Leads (game_of o) old ts new) (sym (commands es)) (leads_by_stamps (game_of o) old es a);
      ends = commands-end es;
    })
way-stamps o f top journal es true None place a fit =
    record { leads = leads_by_stamps (game_of o) (seen_as f top journal true None) es a; ends = refl }
way-stamps o f top journal es false None place a fit =
    record { leads = leads_by_stamps (game_of o) (seen_as f top journal false None) es a; ends = refl }
way-stamps o f top journal es b (Some x) place a fit =
    record { leads = leads_by_stamps (game_of o) (seen_as f top journal b (Some x)) es a; ends = refl }

stamped_above : (o : Origin) (f : ℕ) (es : List Entry) → AreStamped (game_of o) f es → AreAbove (game_of o) f es
stamped_above o f [] a = tt
stamped_above o f (e ∷ es) a = (omega (arith, a.0), stamped_above o f es a.1)

-- a world that could be run stays as it was
pub world-stays : (o : Origin) (s f top : ℕ) (journal es : List Entry) → s ≤ f → f ≤ top → AreStamped (game_of o) top es
    → world_at o (journal ++ es) s ≡ world_at o journal s
world-stays o s f top journal es l m a = world-stable (game_of o) s top journal es (stamped_above o top es a) (omega (arith, l, m))

pub fitting-stamps : (o : Origin) (f top : ℕ) (journal es : List Entry) (b : Bool) (x : Option Seat) (place : Place) → f ≤ top
    → AreStamped (game_of o) top es → Fitting o f journal b x place → Fitting o f (journal ++ es) b x place
fitting-stamps o f top journal es b None place l a fit = fit
fitting-stamps o f top journal es b (Some (Loads s k)) place l a fit = (
  fit.0 ∙ ap (λ (w : WorldState). Fetching s (length (map_of w)) (take (1400 * k) (map_of w)))
      (sym (world-stays o s f top journal es fit.1 l a)),
  fit.1,
)
fitting-stamps o f top journal es b (Some AtDoor) place l a fit = fit
fitting-stamps o f top journal es b (Some Welcome) place l a fit = fit
fitting-stamps o f top journal es b (Some InQueue) place l a fit = fit
fitting-stamps o f top journal es b (Some (HasMap s)) place l a fit = fit
fitting-stamps o f top journal es b (Some (Plays s)) place l a fit = fit

begun-later : (f g : ℕ) (x : Seat) → f ≤ g → HasBegun f x → HasBegun g x
begun-later f g (Loads s k) l h = omega (arith, l, h)
begun-later f g AtDoor l h = h
begun-later f g Welcome l h = h
begun-later f g InQueue l h = h
begun-later f g (HasMap s) l h = h
begun-later f g (Plays s) l h = h

pub fitting-later : (o : Origin) (f g : ℕ) (journal : List Entry) (b : Bool) (x : Option Seat) (place : Place) → f ≤ g
    → Fitting o f journal b x place → Fitting o g journal b x place
fitting-later o f g journal b None place l fit = fit
fitting-later o f g journal b (Some x) place l fit = (fit.0, begun-later f g x l fit.1)

-- ---- frames and words

pub way-frame : (o : Origin) (f top token : ℕ) (journal : List Entry) (b : Bool) (x : Option Seat) (place : Place) → top < suc f
    → Fitting o f journal b x place
    → Way o place (if_plays (plays x) (ServerFrame (suc f) (suc f + o.setup.frame_freq) token ∷ []))
    (seen_as f top journal b x) (seen_as (suc f) (suc f + o.setup.frame_freq) journal b x) place
way-frame o f top token journal b (Some (Plays s)) place l fit =
    let old : Server Entry = record { frame = f; permitted = top; journal = journal; stage = Playing s } in
    in_play o place _ old _ fit.0 (record { leads = leads_by_frame (game_of o) old l; ends = refl })
way-frame o f top token journal true None place l fit =
    record { leads = leads_by_frame (game_of o) (seen_as f top journal true None) l; ends = refl }
way-frame o f top token journal false None place l fit =
    record { leads = leads_by_frame (game_of o) (seen_as f top journal false None) l; ends = refl }
way-frame o f top token journal b (Some x) place l fit =
    record { leads = leads_by_frame (game_of o) (seen_as f top journal b (Some x)) l; ends = refl }

pub way-run : (o : Origin) (f top : ℕ) (journal : List Entry) (b : Bool) (x : Option Seat) (place : Place) → suc f ≤ top
    → Way o place [] (seen_as f top journal b x) (seen_as (suc f) top journal b x) place
way-run o f top journal b x place l = record { leads = leads_by_run (game_of o) (seen_as f top journal b x) l; ends = refl }

pub way-sync : (o : Origin) (f top : ℕ) (journal : List Entry) (b : Bool) (x : Option Seat) (place : Place) → Fitting o f journal b x place
    → Way o place (if_plays (plays x) (ServerSync f (world_at o journal f).words.0 ∷ [])) (seen_as f top journal b x)
    (seen_as f top journal b x) place
way-sync o f top journal b (Some (Plays s)) place fit =
    let server : Server Entry = record { frame = f; permitted = top; journal = journal; stage = Playing s } in
    in_play o place _ server server fit.0 (Goes-by (game_of o) dialog InPlay InPlay (ServerSync f (world_at o journal f).words.0 ∷ [])
    server TellSync refl refl)
way-sync o f top journal b None place fit = stays o place (seen_as f top journal b None)
way-sync o f top journal b (Some x) place fit = stays o place (seen_as f top journal b (Some x))

-- ---- it begins to play

pub way-play : (o : Origin) (f top s token : ℕ) (journal : List Entry) (b : Bool)
    → Way o InPlay (map told_command (above o s journal) ++ ServerFrame f top token ∷ [])
    (seen_as f top journal b (Some (HasMap s))) (seen_as f top journal b (Some (Plays s))) InPlay
way-play o f top s token journal b =
    let es = above o s journal in
    let ms = map told_command es in
    let last = ServerFrame f top token ∷ [] in
    Goes-by (game_of o) dialog InPlay InPlay (ms ++ last) (seen_as f top journal b (Some (HasMap s))) BeginPlay
    (things-append dialog InPlay ms last
    ∙ ap₂ (λ (ts : List (Told WorldState Entry)) (p : Place). ts ++ things dialog p last) (commands es) (commands-end es))
    (place-append dialog InPlay ms last ∙ ap (λ (p : Place). place_behind p (ServerFrame f top token)) (commands-end es))

-- ---- it ends

-- at each seat an error and the end of the game end the dialogue
ends-there : (o : Origin) (journal : List Entry) (x : Seat) (code : ℕ) → (told_at (place_at o journal x) (ServerError code) ≡ told.End)
    × (told_at (place_at o journal x) ServerShutdown ≡ told.End)
ends-there o journal AtDoor code = (refl, refl)
ends-there o journal Welcome code = (refl, refl)
ends-there o journal InQueue code = (refl, refl)
ends-there o journal (Loads s k) code = (refl, refl)
ends-there o journal (HasMap s) code = (refl, refl)
ends-there o journal (Plays s) code = (refl, refl)

way-end : (o : Origin) (f top : ℕ) (journal : List Entry) (x : Seat) (place : Place) (m : GameMsg) → told_at place m ≡ told.End
    → Way o place (m ∷ []) (seen_as f top journal true (Some x)) (seen_as f top journal true None) Parted
way-end o f top journal x place m is =
    Goes-by (game_of o) dialog place Parted (m ∷ []) (seen_as f top journal true (Some x)) Leave
    (ap (λ t. t ∷ []) is ∙ sym (there x told.End))
    (ap (λ (t : Told WorldState Entry). unless_parted t (moves_on place m)) is)

pub way-error : (o : Origin) (f top : ℕ) (journal : List Entry) (x : Seat) (place : Place) (code : ℕ) → FitsAt o f journal x place
    → Way o place (ServerError code ∷ []) (seen_as f top journal true (Some x)) (seen_as f top journal true None) Parted
way-error o f top journal x place code fit = way-end o f top journal x place (ServerError code)
    (ap (λ p. told_at p (ServerError code)) fit.0 ∙ (ends-there o journal x code).0)

pub way-shutdown : (o : Origin) (f top : ℕ) (journal : List Entry) (x : Seat) (place : Place) → FitsAt o f journal x place
    → Way o place (ServerShutdown ∷ []) (seen_as f top journal true (Some x)) (seen_as f top journal true None) Parted
way-shutdown o f top journal x place fit = way-end o f top journal x place ServerShutdown
    (ap (λ p. told_at p ServerShutdown) fit.0 ∙ (ends-there o journal x 0).1)

pub way-vanish : (o : Origin) (f top : ℕ) (journal : List Entry) (b : Bool) (x : Option Seat) (place : Place)
    → Way o place [] (seen_as f top journal b x) (seen_as f top journal true None) place
way-vanish o f top journal b x place = Goes-by (game_of o) dialog place place [] (seen_as f top journal b x) Vanish refl refl

-- where there is no room it is opened and ends at once
pub way-full : (o : Origin) (f top : ℕ) (journal : List Entry)
    → Way o Asking (ServerFull ∷ []) (seen_as f top journal false None) (seen_as f top journal true None) Parted
way-full o f top journal = Goes-by (game_of o) dialog Asking Parted (ServerFull ∷ []) (seen_as f top journal false None) Leave refl refl

-- ---- a map begins

pub way-begin : (o : Origin) (f top : ℕ) (journal : List Entry) (b : Bool) → length (map_at o journal f) ≤ most_map
    → Way o Greeted (ServerMapBegin f ∷ ServerMapSize (length (map_at o journal f)) ∷ [])
    (seen_as f top journal b (Some InQueue)) (seen_as f top journal b (Some (Loads f 0))) (place_at o journal (Loads f 0))
way-begin o f top journal b fits =
    let size = length (map_at o journal f) in
    let old = seen_as f top journal b (Some InQueue) in
    let x : Seat = Loads f 0 in
    let new = seen_as f top journal b (Some x) in
    let one : Way o Greeted [] old new Greeted = Goes-by (game_of o) dialog Greeted Greeted [] old BeginMap refl refl in
    let two : Way o Greeted (ServerMapBegin f ∷ []) new new (Begun f) =
    way-on o f top journal b x Greeted (Begun f) (ServerMapBegin f) refl refl in
    let three : Way o (Begun f) (ServerMapSize size ∷ []) new new (Fetching f size []) =
    way-on o f top journal b x (Begun f) (Fetching f size []) (ServerMapSize size) (ap other_if (le-leb size most_map fits)) refl in
    Goes-on (game_of o) dialog Greeted Greeted (Fetching f size []) old new new [] (ServerMapBegin f ∷ ServerMapSize size ∷ []) one
    (Goes-on (game_of o) dialog Greeted (Begun f) (Fetching f size []) new new new (ServerMapBegin f ∷ []) (ServerMapSize size ∷ [])
    two three)
