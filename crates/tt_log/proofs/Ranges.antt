-- What is in range of a table, and that each message told of it has its spelling.
use Rattle.std.proofs.Common.{◌≡◌, ℕ, zero, suc, ◌+◌, ◌<◌, ◌≤◌, Bool, true, false, List, [], ◌∷◌, ◌++◌, arith, lit<}
use Rattle.std.specs.Prelude.{◌*◌, ◌^◌, ◌==◌, nat_lt, cond, take, drop, length, map}
use Rattle.std.specs.List.{AllByRecursion}
use Rattle.std.proofs.lemmas.List.{length-take}
use Rattle.tt_frame.specs.Text.{IsShort, is_text}
use Rattle.tt_frame.proofs.TextLaws.{IsText-from_is_text, length_of_text}
use Rattle.tt_game.specs.declared.message.GameMsg.{GameMsg}
use Rattle.tt_game.specs.declared.message.GameMsg.TheVariants.{ServerMapBegin, ServerMapSize, ServerMapData, ServerMapDone, ServerSync}
use Rattle.tt_world.specs.declared.command.Code.{Code}
use Rattle.tt_world.specs.declared.command.Code.TheVariants.{IncreaseLoan, DecreaseLoan, Give, PlaceSign, RenameSign, RenameCompany}
use Rattle.tt_world.specs.declared.command.Code.TheVariants.{RenamePresident, Pause, NewCompany}
use Rattle.tt_world.specs.declared.command.Entry.{Entry}
use Rattle.tt_map.specs.Layout.{map_of}
use Rattle.tt_map.proofs.WritingLaws.{map_length}
use Rattle.tt_rules.specs.Commands.{number_of}
use Rattle.tt_log.specs.declared.deed.Step.{Step}
use Rattle.tt_log.specs.declared.deed.What.{What}
use Rattle.tt_log.specs.declared.deed.What.TheVariants.{Msg, ToAdmin, MapBegin, MapPieces, Sync, Entries, Stamp, End}
use Rattle.tt_log.specs.Origin.{Origin, IsOrigin, above, at_frame}
use Rattle.tt_log.specs.Table.{Table}
use Rattle.tt_log.specs.Deed.{Said, game, admin}
use Rattle.tt_log.specs.PacketRules.{told_command}
use Rattle.tt_log.specs.Ranges.{FitsCommand, FitsEntry, FitsMember}
use Rattle.tt_log.specs.Tick.{pieces_of}
use Rattle.tt_log.specs.Filling.{Filling}
use Rattle.tt_log.specs.Reports.{reported}
use Rattle.tt_log.specs.Tellings.{Telling, telling, filled, said_by}
use Rattle.tt_log.specs.Told.{kept_if, told_to}
use Rattle.tt_log.specs.declared.report.Report.{Report}
use Rattle.tt_log.specs.declared.report.Report.TheVariants.{Message, Welcome, Date, CompanyInfo, CompanyEconomy, CompanyStats}
use Rattle.tt_log.specs.declared.report.Report.TheVariants.{CompanyLines, CompanyNews}
use Rattle.tt_log.proofs.Lists.{all-so}
use Rattle.tt_log.proofs.Sending.{AreSent, IsSent, game-spelled}
use Rattle.tt_log.proofs.Worlds.{AreShort, IsGood, frame-short}
use Rattle.tt_log.proofs.Companies.{all-stats-sent, date-sent, economies-sent, infos-sent, lines-sent, news-sent, welcome-sent}

-- ---- ranges

pub record FitsTable (o : Origin) (t : Table) : Type 0 where
  pub members : AllByRecursion FitsMember t.members
  pub few : length t.members ≤ 255
  pub own : AllByRecursion FitsCommand t.own
  pub journal : AllByRecursion FitsEntry t.journal
  pub near : t.top ≤ t.frame + o.setup.frame_freq

-- what is filled in
pub record FitsFilling (f : Filling) : Type 0 where
  pub frame : f.frame < 2 ^ 32
  pub world : IsGood f.world
  pub before : IsGood f.before
  pub journal : AllByRecursion FitsEntry f.journal

abbrev pub FitsReport : Report → Type 0
FitsReport (Message m) = IsSent (admin m)
FitsReport other = Unit

abbrev pub FitsWhat : What → Type 0
FitsWhat (Msg m) = IsSent (game m)
FitsWhat (ToAdmin r) = FitsReport r
FitsWhat (Stamp e) = FitsEntry e
FitsWhat other = Unit

abbrev pub FitsSteps : List Step → Type 0
FitsSteps steps = AllByRecursion (λ (s : Step). FitsWhat s.what) steps

pub short-text : (text : List ℕ) → is_text 31 text ≡ true → IsShort text
short-text text is = record { text = IsText-from_is_text 31 text is; fits = length_of_text 31 text is }

-- ---- messages

pub code-small : (code : Code) → number_of code < 2 ^ 16
code-small IncreaseLoan = lit< tt
code-small DecreaseLoan = lit< tt
code-small Give = lit< tt
code-small PlaceSign = lit< tt
code-small RenameSign = lit< tt
code-small RenameCompany = lit< tt
code-small RenamePresident = lit< tt
code-small Pause = lit< tt
code-small NewCompany = lit< tt

pub low-code : {n : ℕ} → n ≤ 20 → (n ≤ 20) × (n < 2 ^ 8)
low-code l = (l, omega (arith, l))

pub low-scope : {n : ℕ} → n ≤ 2 → (n ≤ 2) × (n < 2 ^ 8)
low-scope l = (l, omega (arith, l))

pub low-byte : {n : ℕ} → n ≤ 255 → n < 2 ^ 8
low-byte l = omega (arith, l)

-- ---- what is filled in

pub command-spelled : (e : Entry) → FitsEntry e → IsSent (game (told_command e))
command-spelled e h = game-spelled (told_command e) (
  h.company,
  (
    code-small e.command.code,
    (
      h.command.number,
      (
        h.command.to,
        (h.command.text, (h.frame, (h.sender, tt))),
      ),
    ),
  ),
)

commands-spelled : (es : List Entry) → AllByRecursion FitsEntry es → AreSent (map (λ e. game (told_command e)) es)
commands-spelled [] a = tt
commands-spelled (e ∷ es) a = (command-spelled e a.0, commands-spelled es a.1)

above-one : (b : Bool) (e : Entry) (rest : List Entry) → FitsEntry e → AllByRecursion FitsEntry rest
    → AllByRecursion FitsEntry (cond b (e ∷ rest) rest)
above-one true e rest h a = (h, a)
above-one false e rest h a = a

above-fits : (o : Origin) (s : ℕ) (es : List Entry) → AllByRecursion FitsEntry es → AllByRecursion FitsEntry (above o s es)
above-fits o s [] a = tt
above-fits o s (e ∷ es) a = above-one (nat_lt s e.frame) e (above o s es) a.0 (above-fits o s es a.1)

piece-spelled : (b : ℕ) (bs : List ℕ) → IsSent (game (ServerMapData (take 1400 (b ∷ bs))))
piece-spelled b bs = let n = length-take 1400 (b ∷ bs) in
    game-spelled (ServerMapData (take 1400 (b ∷ bs))) (omega (arith, n), omega (arith, n))

pieces-spelled : (n : ℕ) (left : List ℕ) (more : List GameMsg) → AreSent (map game more)
    → AreSent (map game (map ServerMapData (pieces_of n left) ++ more))
pieces-spelled n [] more a = a
pieces-spelled zero (b ∷ bs) more a = a
pieces-spelled (suc n) (b ∷ bs) more a = (piece-spelled b bs, pieces-spelled n (drop 1400 (b ∷ bs)) more a)

done-spelled : (b : Bool) → AreSent (map game (cond b [] (ServerMapDone ∷ [])))
done-spelled true = tt
done-spelled false = (game-spelled ServerMapDone tt, tt)

low-size : {n : ℕ} → n ≤ 40280 → n < 2 ^ 32
low-size l = omega (arith, l)

pub short-entries : (es : List Entry) → AllByRecursion FitsEntry es → AreShort es
short-entries es a = all-so FitsEntry (λ (e : Entry). IsShort e.command.text) es (λ
    (e : Entry) h. short-text e.command.text h.command.text) a

-- entries of a frame, each with its company
frame-companies-by : (b : Bool) (e : Entry) (rest : List Entry) → e.company < 2 ^ 8 → AllByRecursion (λ (x : Entry). x.company < 2 ^ 8) rest
    → AllByRecursion (λ (x : Entry). x.company < 2 ^ 8) (cond b (e ∷ rest) rest)
frame-companies-by true e rest l a = (l, a)
frame-companies-by false e rest l a = a

frame-companies : (o : Origin) (f : ℕ) (es : List Entry) → AllByRecursion FitsEntry es
    → AllByRecursion (λ (x : Entry). x.company < 2 ^ 8) (at_frame o f es)
frame-companies o f [] a = tt
frame-companies o f (e ∷ es) a = frame-companies-by (e.frame == f) e (at_frame o f es) a.0.company (frame-companies o f es a.1)

report-spelled : (o : Origin) (f : Filling) (r : Report) → IsOrigin o → FitsFilling f → FitsReport r → AreSent (map admin (reported o f r))
report-spelled o f (Message m) ok h a = (a, tt)
report-spelled o f Welcome ok h a = (welcome-sent o.setup f.world.day ok.name ok.revision ok.seed h.world.day, tt)
report-spelled o f Date ok h a = (date-sent f.world.day h.world.day, tt)
report-spelled o f (CompanyInfo id) ok h a = infos-sent f.digests id f.world h.world.sound
report-spelled o f (CompanyEconomy id) ok h a = economies-sent id f.world h.world.sound
report-spelled o f (CompanyStats id) ok h a = all-stats-sent id f.world h.world.sound
report-spelled o f CompanyLines ok h a = lines-sent f.world h.world.sound
report-spelled o f CompanyNews ok h a = news-sent f.digests f.before (at_frame o f.frame f.journal) h.before
    (frame-short o f.frame f.journal (short-entries f.journal h.journal)) (frame-companies o f.frame f.journal h.journal)

what-spelled : (o : Origin) (f : Filling) (w : What) → IsOrigin o → FitsFilling f → FitsWhat w → AreSent (said_by o f w)
what-spelled o f (Msg m) ok h a = (a, tt)
what-spelled o f (ToAdmin r) ok h a = report-spelled o f r ok h a
what-spelled o f (Stamp e) ok h a = (command-spelled e a, tt)
what-spelled o f MapBegin ok h a = (
  game-spelled (ServerMapBegin f.frame) (h.frame, tt),
  (game-spelled (ServerMapSize (length (map_of f.world))) (low-size (map_length f.world h.world.sound), tt), tt),
)
what-spelled o f MapPieces ok h a = pieces-spelled 4 f.left _ (done-spelled (nat_lt (4 * 1400) (length f.left)))
what-spelled o f Sync ok h a = (game-spelled (ServerSync f.frame f.world.words.0) (h.frame, (h.world.words.0, tt)), tt)
what-spelled o f (Entries frame) ok h a = commands-spelled (above o frame f.journal) (above-fits o frame f.journal h.journal)
what-spelled o f End ok h a = tt

kept-spelled : (b : Bool) (s : Said) (rest : List Said) → IsSent s → AreSent rest → AreSent (kept_if b s rest)
kept-spelled true s rest is a = (is, a)
kept-spelled false s rest is a = a

step-spelled : (c : ℕ) (to : List ℕ) (said : List Said) (more : List Telling) → AreSent said → AreSent (told_to c more)
    → AreSent (told_to c (map (telling to) said ++ more))
step-spelled c to [] more is a = a
step-spelled c to (s ∷ said) more is a = kept-spelled _ s (told_to c (map (telling to) said ++ more)) is.0
    (step-spelled c to said more is.1 a)

-- what steps in range tell a connection has its spelling
pub told-spelled : (c : ℕ) (o : Origin) (f : Filling) (steps : List Step) → IsOrigin o → FitsFilling f → FitsSteps steps
    → AreSent (told_to c (filled o f steps))
told-spelled c o f [] ok h a = tt
told-spelled c o f (s ∷ steps) ok h a = step-spelled c s.to (said_by o f s.what) (filled o f steps) (what-spelled o f s.what ok h a.0)
    (told-spelled c o f steps ok h a.1)
