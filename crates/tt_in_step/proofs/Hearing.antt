-- What a connection hears of the steps of a deed: the messages of the game among them.
use Rattle.std.proofs.Common.{◌≡◌, ℕ, Bool, true, false, List, [], ◌∷◌, ◌++◌, map, refl, ap, ap₂, sym, ◌∙◌, append-nil, append_assoc}
use Rattle.std.specs.Prelude.{◌==◌}
use Rattle.tt_game.specs.declared.message.GameMsg.{GameMsg}
use Rattle.tt_world.specs.declared.command.Entry.{Entry}
use Rattle.tt_log.specs.declared.deed.Step.{Step}
use Rattle.tt_log.specs.declared.deed.What.{What}
use Rattle.tt_admin.specs.declared.message.AdminMsg.{AdminMsg}
use Rattle.tt_log.specs.declared.deed.What.TheVariants.{ToAdmin}
use Rattle.tt_log.specs.declared.report.Report.{Report}
use Rattle.tt_log.specs.Reports.{reported}
use Rattle.tt_log.specs.Origin.{Origin}
use Rattle.tt_log.specs.Deed.{Said, game, admin}
use Rattle.tt_log.specs.Tellings.{Filling, said_by, Telling, telling, filled}
use Rattle.tt_log.specs.Told.{told_to, kept_if}
use Rattle.tt_log.specs.PacketRules.{told_command}
use Rattle.tt_log.proofs.Changes.{step}
use Rattle.tt_in_step.specs.Watched.{game_messages}
use Rattle.tt_in_step.proofs.Seats.{among}

-- these messages and then the rest, where a test holds
abbrev pub if_told : Bool → List GameMsg → List GameMsg → List GameMsg
if_told true ms rest = ms ++ rest
if_told false ms rest = rest

-- the messages of the game that a step tells
abbrev pub says : Origin → Filling → What → List GameMsg
says o f w = game_messages (said_by o f w)

abbrev pub hears : ℕ → Origin → Filling → List Step → List GameMsg
hears c o f [] = []
hears c o f (s ∷ steps) = if_told (among c s.to) (says o f s.what) (hears c o f steps)

if_told-append : (b : Bool) (ms xs ys : List GameMsg) → if_told b ms (xs ++ ys) ≡ if_told b ms xs ++ ys
if_told-append true ms xs ys = sym (append_assoc ms xs ys)
if_told-append false ms xs ys = refl

pub if_told-nil : (b : Bool) (rest : List GameMsg) → if_told b [] rest ≡ rest
if_told-nil true rest = refl
if_told-nil false rest = refl

pub hears-append : (c : ℕ) (o : Origin) (f : Filling) (xs ys : List Step) → hears c o f (xs ++ ys) ≡ hears c o f xs ++ hears c o f ys
hears-append c o f [] ys = refl
hears-append c o f (x ∷ xs) ys = ap (λ (ms : List GameMsg). if_told (among c x.to) (says o f x.what) ms) (hears-append c o f xs ys)
    ∙ if_told-append (among c x.to) (says o f x.what) (hears c o f xs) (hears c o f ys)

-- ---- that is what is told to it

pub messages-append : (xs ys : List Said) → game_messages (xs ++ ys) ≡ game_messages xs ++ game_messages ys
messages-append [] ys = refl
messages-append (game m ∷ xs) ys = ap (λ (ms : List GameMsg). m ∷ ms) (messages-append xs ys)
messages-append (admin m ∷ xs) ys = messages-append xs ys

pub games : (ms : List GameMsg) → game_messages (map game ms) ≡ ms
games [] = refl
games (m ∷ ms) = ap (λ (xs : List GameMsg). m ∷ xs) (games ms)

pub entries-said : (es : List Entry) → game_messages (map (λ e. game (told_command e)) es) ≡ map told_command es
entries-said [] = refl
entries-said (e ∷ es) = ap (λ (xs : List GameMsg). told_command e ∷ xs) (entries-said es)

-- what admins are told is no message of the game
no-games : (ms : List AdminMsg) → game_messages (map admin ms) ≡ []
no-games [] = refl
no-games (m ∷ ms) = no-games ms

pub report-silent : (o : Origin) (f : Filling) (r : Report) → says o f (ToAdmin r) ≡ []
report-silent o f r = no-games (reported o f r)

pub reports-silent : (c : ℕ) (o : Origin) (f : Filling) (conn : ℕ) (reports : List Report)
    → hears c o f (map (λ r. step (conn ∷ []) (ToAdmin r)) reports) ≡ []
reports-silent c o f conn [] = refl
reports-silent c o f conn (r ∷ reports) =
    ap₂ (λ (ms rest : List GameMsg). if_told (among c (conn ∷ [])) ms rest) (report-silent o f r) (reports-silent c o f conn reports)
    ∙ if_told-nil (among c (conn ∷ [])) []

one-step : (b : Bool) (c : ℕ) (to : List ℕ) (said : List Said) (more : List Telling) (rest : List GameMsg) → among c to ≡ b
    → game_messages (told_to c more) ≡ rest
    → game_messages (told_to c (map (telling to) said ++ more)) ≡ if_told b (game_messages said) rest
one-step true c to [] more rest is same = same
one-step true c to (game m ∷ ms) more rest is same =
    ap (λ (b : Bool). game_messages (kept_if b (game m) (told_to c (map (telling to) ms ++ more)))) is
    ∙ ap (λ (xs : List GameMsg). m ∷ xs) (one-step true c to ms more rest is same)
one-step true c to (admin m ∷ ms) more rest is same =
    ap (λ (b : Bool). game_messages (kept_if b (admin m) (told_to c (map (telling to) ms ++ more)))) is
    ∙ one-step true c to ms more rest is same
one-step false c to [] more rest is same = same
one-step false c to (m ∷ ms) more rest is same =
    ap (λ (b : Bool). game_messages (kept_if b m (told_to c (map (telling to) ms ++ more)))) is ∙ one-step false c to ms more rest is same

pub heard-is : (c : ℕ) (o : Origin) (f : Filling) (steps : List Step) → game_messages (told_to c (filled o f steps)) ≡ hears c o f steps
heard-is c o f [] = refl
heard-is c o f (s ∷ steps) = one-step (among c s.to) c s.to (said_by o f s.what) (filled o f steps) (hears c o f steps) refl
    (heard-is c o f steps)

-- ---- steps that tell one connection alone

-- it is told these, one behind the other
abbrev pub alone : ℕ → List What → List Step
alone conn ws = map (λ w. step (conn ∷ []) w) ws

abbrev pub all_said : Origin → Filling → List What → List GameMsg
all_said o f [] = []
all_said o f (w ∷ ws) = says o f w ++ all_said o f ws

pub alone-own : (c conn : ℕ) (o : Origin) (f : Filling) (ws : List What) → (conn == c) ≡ true → hears c o f
    (alone conn ws) ≡ all_said o f ws
alone-own c conn o f [] own = refl
alone-own c conn o f (w ∷ ws) own = rw own (ap (λ (ms : List GameMsg). says o f w ++ ms) (alone-own c conn o f ws own))

pub alone-none : (c conn : ℕ) (o : Origin) (f : Filling) (ws : List What) → (conn == c) ≡ false → hears c o f (alone conn ws) ≡ []
alone-none c conn o f [] apart = refl
alone-none c conn o f (w ∷ ws) apart = rw apart (alone-none c conn o f ws apart)

-- a step that some are told
pub hears-one : (c : ℕ) (o : Origin) (f : Filling) (to : List ℕ) (w : What) → among c to ≡ true → hears c o f (step to w ∷ []) ≡ says o f w
hears-one c o f to w is = ap (λ (b : Bool). if_told b (says o f w) []) is ∙ append-nil (says o f w)

pub hears-none : (c : ℕ) (o : Origin) (f : Filling) (to : List ℕ) (w : What) → among c to ≡ false → hears c o f (step to w ∷ []) ≡ []
hears-none c o f to w is = ap (λ (b : Bool). if_told b (says o f w) []) is
