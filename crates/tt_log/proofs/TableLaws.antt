-- The tables of reading and the tables of lines say the same.
use Rattle.std.proofs.Common.{◌≡◌, ℕ, List, [], ◌∷◌, ◌++◌, true, not, Option, Some, refl, sym, ap, ap₂, ◌∙◌, arith}
use Rattle.std.specs.Prelude.{◌==◌, codes}
use Rattle.std.specs.List.{list_all, AllByRecursion}
use Rattle.std.specs.Fmt.{decimal}
use Rattle.hex.specs.Hex.{encode_lower}
use Rattle.std.proofs.lemmas.List.{append-nil}
use Rattle.tt_lines.specs.Lines.{HasNo}
use Rattle.tt_log.specs.Forms.{number, text, hex, saved, key, text_spelled, Fits, WordFits}
use Rattle.tt_log.specs.Settings.{setting_words}
use Rattle.tt_log.specs.Orders.{words_by, UsesAll}
use Rattle.tt_log.specs.Lines.{any, IsLine}
use Rattle.tt_log.specs.Steps.{step_text, IsStep}
use Rattle.tt_log.specs.Rows.{◌>>=◌, end, ◌▸◌, row_at, pick}
use Rattle.tt_log.specs.Reading.{settings, orders, order, lines, step_at, sets}
use Rattle.tt_lines.proofs.Breaks.{has_no-cons, has_no-test}
use Rattle.tt_log.proofs.FormLaws.{IsLeft, Each, sound, pick_sound, go, rest_found}
use Rattle.tt_log.specs.declared.script.line.Line1.{Line1}
use Rattle.tt_log.specs.declared.script.line.Line1.TheVariants.{Open, Side, Bytes, Shut, Tick, Stop, Join, Up, Down, Run, Pump, Do, Forge}
use Rattle.tt_log.specs.declared.script.line.Line1.TheVariants.{Expect}
use Rattle.tt_log.specs.declared.script.setting.Setting.{Setting}
use Rattle.tt_log.specs.declared.script.setting.Setting.TheVariants.{Seed, FrameFreq, SyncFreq, Clients, Init, PassLimit, Download}
use Rattle.tt_log.specs.declared.script.setting.Setting.TheVariants.{Join as JoinLimit, Lag, Cost, Pw, Admin}
use Rattle.tt_log.specs.declared.script.step.Step.{Step}
use Rattle.tt_log.specs.declared.script.step.Step.TheVariants.{Set, Saved, Line}
use Rattle.tt_world.specs.declared.command.Code.{Code}
use Rattle.tt_world.specs.declared.command.Code.TheVariants.{IncreaseLoan, DecreaseLoan, Give, PlaceSign, RenameSign, RenameCompany}
use Rattle.tt_world.specs.declared.command.Code.TheVariants.{RenamePresident, Pause, NewCompany}

-- ---- what is read is a line, and its text was read

-- a line, and its words behind a blank
abbrev pub IsRead : Step → List ℕ → Type 0
IsRead step left = IsStep step × (left ≡ 32 ∷ step_text step)

pub settings_read : Each settings (λ step after. IsRead step (32 ∷ codes "set" ++ after))
settings_read = (
  (λ x fits. ((tt, (fits, tt)), refl)),
  (
    (λ x fits. ((tt, (fits, tt)), refl)),
    (
      (λ x fits. ((tt, (fits, tt)), refl)),
      (
        (λ x fits. ((tt, (fits, tt)), refl)),
        (
          (λ x fits. ((tt, (fits, tt)), refl)),
          (
            (λ x fits. ((tt, (fits, tt)), refl)),
            (
              (λ x fits. ((tt, (fits, tt)), refl)),
              (
                (λ x fits. ((tt, (fits, tt)), refl)),
                (
                  (λ x fits. ((tt, (fits, tt)), refl)),
                  (
                    (λ x fits. ((tt, (fits, tt)), refl)),
                    (
                      (λ x fits. ((tt, (fits, tt)), refl)),
                      (
                        (λ x fits. ((tt, (fits, tt)), refl)),
                        ((λ x fits. ((tt, (tt, (fits, tt))), refl)), tt),
                      ),
                    ),
                  ),
                ),
              ),
            ),
          ),
        ),
      ),
    ),
  ),
)

pub orders_read : (conn : ℕ) → Fits any conn →
    Each (orders conn) (λ step after. IsRead step (32 ∷ codes "do" ++ (32 ∷ decimal conn ++ after)))
orders_read conn is = (
  (λ x0 f0. (((tt, (is, (tt, (f0, tt)))), (refl, refl)), refl)),
  (
    (λ x0 f0. (((tt, (is, (tt, (f0, tt)))), (refl, refl)), refl)),
    (
      (λ x0 f0 x1 f1. (((tt, (is, (tt, (f0, (f1, tt))))), refl), refl)),
      (
        (λ x0 f0 x1 f1. (((tt, (is, (tt, (f0, (f1, tt))))), refl), refl)),
        (
          (λ x0 f0 x1 f1. (((tt, (is, (tt, (f0, (f1, tt))))), refl), refl)),
          (
            (λ x0 f0. (((tt, (is, (tt, (f0, tt)))), (refl, refl)), refl)),
            ((λ x0 f0. (((tt, (is, (tt, (f0, tt)))), (refl, refl)), refl)), tt),
          ),
        ),
      ),
    ),
  ),
)

pub lines_read : Each lines IsRead
lines_read = (
  (λ w fits. pick_sound settings (λ step after. IsRead step (32 ∷ codes "set" ++ after)) settings_read w),
  (
    (((tt, tt), tt), refl),
    (
      (((tt, tt), tt), refl),
      (
        (λ x0 f0 x1 f1. (((tt, (f0, (f1, tt))), tt), refl)),
        (
          (λ x0 f0. (((tt, (f0, tt)), tt), refl)),
          (
            (λ x0 f0. (((tt, (f0, tt)), tt), refl)),
            (
              (((tt, tt), tt), refl),
              (
                (λ x0 f0 x1 f1 x2 f2 x3 f3. (((tt, (f0, (f1, (f2, (f3, tt))))), tt), refl)),
                (
                  (λ x0 f0 x1 f1. (((tt, (f0, (f1, tt))), tt), refl)),
                  (
                    (λ x0 f0 x1 f1. (((tt, (f0, (f1, tt))), tt), refl)),
                    (
                      (λ x0 f0 x1 f1. (((tt, (f0, (f1, tt))), tt), refl)),
                      (
                        (λ x0 f0. (((tt, (f0, tt)), tt), refl)),
                        (
                          (λ conn is w fits. pick_sound (orders conn) (λ step after. IsRead step (32 ∷ codes "do"
                              ++ (32 ∷ decimal conn ++ after))) (orders_read conn is) w),
                          (
                            (λ x0 f0 x1 f1. (((tt, (f0, (f1, tt))), tt), refl)),
                            (
                              (λ content one. (((tt, (one, tt)), tt), ap (λ (t : List ℕ). 32 ∷ 61 ∷ 32 ∷ t) (sym (append-nil content)))),
                              tt,
                            ),
                          ),
                        ),
                      ),
                    ),
                  ),
                ),
              ),
            ),
          ),
        ),
      ),
    ),
  ),
)

-- what is read from a text is a line with that text
pub read_back : (line : List ℕ) (step : Step) → HasNo 10 line → step_at line ≡ Some step → IsStep step × (line ≡ step_text step)
read_back line step one e =
    let left : HasNo 10 (32 ∷ line) = has_no-cons 10 32 line (λ is. omega (arith, is)) one in
    let read = sound (key ▸ λ w. pick lines w) IsRead (λ w fits. pick_sound lines IsRead lines_read w) (32 ∷ line) left step e in
    let same = read.1 in
    (read.0, cc)

-- ---- a line is read from its text

-- the word that a line is known by
pub known : (w left : List ℕ) → list_all (λ b. not (b == 32)) w ≡ true → IsLeft left → row_at (key ▸ λ v. pick lines v) (32 ∷ w
    ++ left) ≡ row_at (pick lines w) left
known w left one is = go key (λ v. pick lines v) w left (has_no-test 32 w one) is

pub set_found : (w left : List ℕ) → list_all (λ b. not (b == 32)) w ≡ true → IsLeft left
    → row_at sets (32 ∷ w ++ left) ≡ row_at (pick settings w) left
set_found w left one is = go key (λ v. pick settings v) w left (has_no-test 32 w one) is

setting_found : (setting : Setting) → AllByRecursion WordFits (setting_words setting)
    → step_at (step_text (Set setting)) ≡ Some (Set setting)
setting_found (Seed n) fits =
    known (codes "set") (32 ∷ codes "seed" ++ (32 ∷ decimal n ++ [])) refl refl ∙ set_found (codes "seed") (32 ∷ decimal n ++ []) refl refl
    ∙ go (number 0 4294967295) (λ n. end (Set (Seed n))) n [] fits.1.0 tt
setting_found (FrameFreq n) fits =
    known (codes "set") (32 ∷ codes "frame_freq" ++ (32 ∷ decimal n ++ [])) refl refl ∙ set_found (codes "frame_freq") (32 ∷ decimal n
    ++ []) refl refl
    ∙ go (number 0 64) (λ n. end (Set (FrameFreq n))) n [] fits.1.0 tt
setting_found (SyncFreq n) fits =
    known (codes "set") (32 ∷ codes "sync_freq" ++ (32 ∷ decimal n ++ [])) refl refl ∙ set_found (codes "sync_freq") (32 ∷ decimal n
    ++ []) refl refl
    ∙ go (number 1 1000) (λ n. end (Set (SyncFreq n))) n [] fits.1.0 tt
setting_found (Clients n) fits =
    known (codes "set") (32 ∷ codes "clients" ++ (32 ∷ decimal n ++ [])) refl refl ∙ set_found (codes "clients") (32 ∷ decimal n
    ++ []) refl refl
    ∙ go (number 1 255) (λ n. end (Set (Clients n))) n [] fits.1.0 tt
setting_found (Init n) fits =
    known (codes "set") (32 ∷ codes "init" ++ (32 ∷ decimal n ++ [])) refl refl ∙ set_found (codes "init") (32 ∷ decimal n ++ []) refl refl
    ∙ go (number 1 65535) (λ n. end (Set (Init n))) n [] fits.1.0 tt
setting_found (PassLimit n) fits =
    known (codes "set") (32 ∷ codes "password" ++ (32 ∷ decimal n ++ [])) refl refl ∙ set_found (codes "password") (32 ∷ decimal n
    ++ []) refl refl
    ∙ go (number 1 65535) (λ n. end (Set (PassLimit n))) n [] fits.1.0 tt
setting_found (Download n) fits =
    known (codes "set") (32 ∷ codes "download" ++ (32 ∷ decimal n ++ [])) refl refl ∙ set_found (codes "download") (32 ∷ decimal n
    ++ []) refl refl
    ∙ go (number 1 65535) (λ n. end (Set (Download n))) n [] fits.1.0 tt
setting_found (JoinLimit n) fits =
    known (codes "set") (32 ∷ codes "join" ++ (32 ∷ decimal n ++ [])) refl refl ∙ set_found (codes "join") (32 ∷ decimal n ++ []) refl refl
    ∙ go (number 1 65535) (λ n. end (Set (JoinLimit n))) n [] fits.1.0 tt
setting_found (Lag n) fits =
    known (codes "set") (32 ∷ codes "lag" ++ (32 ∷ decimal n ++ [])) refl refl ∙ set_found (codes "lag") (32 ∷ decimal n ++ []) refl refl
    ∙ go (number 1 65535) (λ n. end (Set (Lag n))) n [] fits.1.0 tt
setting_found (Cost n) fits =
    known (codes "set") (32 ∷ codes "cost" ++ (32 ∷ decimal n ++ [])) refl refl ∙ set_found (codes "cost") (32 ∷ decimal n ++ []) refl refl
    ∙ go (number 64 1073741824) (λ n. end (Set (Cost n))) n [] fits.1.0 tt
setting_found (Pw content) fits =
    known (codes "set") (32 ∷ codes "pw" ++ (32 ∷ text_spelled content ++ [])) refl refl
    ∙ set_found (codes "pw") (32 ∷ text_spelled content ++ []) refl refl
    ∙ go (text 0 32) (λ content. end (Set (Pw content))) content [] fits.1.0 tt
setting_found (Admin content) fits =
    known (codes "set") (32 ∷ codes "admin" ++ (32 ∷ text_spelled content ++ [])) refl refl
    ∙ set_found (codes "admin") (32 ∷ text_spelled content ++ []) refl refl
    ∙ go (text 0 32) (λ content. end (Set (Admin content))) content [] fits.1.0 tt

map_found : (map : List ℕ) → IsStep (Saved map) → step_at (step_text (Saved map)) ≡ Some (Saved map)
map_found map fits =
    known (codes "set") (32 ∷ codes "map" ++ (32 ∷ encode_lower map ++ [])) refl refl ∙ set_found (codes "map") (32 ∷ encode_lower map
    ++ []) refl refl
    ∙ go saved (λ map. end (Saved map)) map [] fits.1.1.0 tt

pub order_found : (w left : List ℕ) (conn : ℕ) → list_all (λ b. not (b == 32)) w ≡ true → IsLeft left
    → row_at (key ▸ λ v. pick (orders conn) v) (32 ∷ w ++ left) ≡ row_at (pick (orders conn) w) left
order_found w left conn one is = go key (λ v. pick (orders conn) v) w left (has_no-test 32 w one) is

pub act_found : (conn : ℕ) (w left : List ℕ) → Fits any conn → list_all (λ b. not (b == 32)) w ≡ true → IsLeft left
    → row_at (key ▸ λ v. pick lines v) (32 ∷ codes "do" ++ (32 ∷ decimal conn ++ (32 ∷ w ++ left))) ≡ row_at (pick (orders conn) w) left
act_found conn w left fits one is =
    known (codes "do") (32 ∷ decimal conn ++ (32 ∷ w ++ left)) refl refl
    ∙ go any (λ c. key ▸ λ v. pick (orders c) v) conn (32 ∷ w ++ left) fits refl
    ∙ order_found w left conn one is

-- a command with what it doesn't use told apart
abbrev pub told : ℕ → Code → ℕ → ℕ → List ℕ → Step
told conn code n to content = Line (Do conn (record { code = code; number = n; to = to; text = content }))

pub command_found : (conn : ℕ) (code : Code) (n to : ℕ) (content : List ℕ) → Fits any conn
    → AllByRecursion WordFits (words_by code n to content) → UsesAll code n to content
    → step_at (step_text (told conn code n to content)) ≡ Some (told conn code n to content)
command_found conn IncreaseLoan n to content is fits uses =
    act_found conn (codes "loan") (32 ∷ decimal n ++ []) is refl refl
    ∙ go (any) (λ n. order conn IncreaseLoan n 0 []) n [] fits.1.0 tt
    ∙ ap₂ (λ (t : ℕ) (b : List ℕ). Some (told conn IncreaseLoan n t b)) (sym uses.0) (sym uses.1)
command_found conn DecreaseLoan n to content is fits uses =
    act_found conn (codes "repay") (32 ∷ decimal n ++ []) is refl refl
    ∙ go (any) (λ n. order conn DecreaseLoan n 0 []) n [] fits.1.0 tt
    ∙ ap₂ (λ (t : ℕ) (b : List ℕ). Some (told conn DecreaseLoan n t b)) (sym uses.0) (sym uses.1)
command_found conn Give n to content is fits uses =
    act_found conn (codes "give") (32 ∷ decimal n ++ (32 ∷ decimal to ++ [])) is refl refl
    ∙ go (any) (λ n. (number 0 255) ▸ λ to. order conn Give n to []) n (32 ∷ decimal to ++ []) fits.1.0 refl
    ∙ go (number 0 255) (λ to. order conn Give n to []) to [] fits.1.1.0 tt
    ∙ ap (λ (b : List ℕ). Some (told conn Give n to b)) (sym uses)
command_found conn PlaceSign n to content is fits uses =
    act_found conn (codes "sign") (32 ∷ decimal n ++ (32 ∷ text_spelled content ++ [])) is refl refl
    ∙ go (any) (λ n. (text 0 31) ▸ λ content. order conn PlaceSign n 0 content) n (32 ∷ text_spelled content ++ []) fits.1.0 refl
    ∙ go (text 0 31) (λ content. order conn PlaceSign n 0 content) content [] fits.1.1.0 tt
    ∙ ap (λ (t : ℕ). Some (told conn PlaceSign n t content)) (sym uses)
command_found conn RenameSign n to content is fits uses =
    act_found conn (codes "resign") (32 ∷ decimal n ++ (32 ∷ text_spelled content ++ [])) is refl refl
    ∙ go (any) (λ n. (text 0 31) ▸ λ content. order conn RenameSign n 0 content) n (32 ∷ text_spelled content ++ []) fits.1.0 refl
    ∙ go (text 0 31) (λ content. order conn RenameSign n 0 content) content [] fits.1.1.0 tt
    ∙ ap (λ (t : ℕ). Some (told conn RenameSign n t content)) (sym uses)
command_found conn RenameCompany n to content is fits uses =
    act_found conn (codes "company") (32 ∷ text_spelled content ++ []) is refl refl
    ∙ go (text 0 31) (λ content. order conn RenameCompany 0 0 content) content [] fits.1.0 tt
    ∙ ap₂ (λ (m t : ℕ). Some (told conn RenameCompany m t content)) (sym uses.0) (sym uses.1)
command_found conn RenamePresident n to content is fits uses =
    act_found conn (codes "president") (32 ∷ text_spelled content ++ []) is refl refl
    ∙ go (text 0 31) (λ content. order conn RenamePresident 0 0 content) content [] fits.1.0 tt
    ∙ ap₂ (λ (m t : ℕ). Some (told conn RenamePresident m t content)) (sym uses.0) (sym uses.1)
command_found conn Pause n to content is fits uses = absurd uses
command_found conn NewCompany n to content is fits uses = absurd uses

pub line_found : (line : Line1) → IsLine line → step_at (step_text (Line line)) ≡ Some (Line line)
line_found Open fits = known (codes "open") [] refl tt
line_found Side fits = known (codes "side") [] refl tt
line_found (Bytes conn piece) fits =
    known (codes "bytes") (32 ∷ decimal conn ++ (32 ∷ encode_lower piece ++ [])) refl refl
    ∙ go (any) (λ conn. (hex) ▸ λ piece. end (Line (Bytes conn piece))) conn (32 ∷ encode_lower piece ++ []) fits.0.1.0 refl
    ∙ go (hex) (λ piece. end (Line (Bytes conn piece))) piece [] fits.0.1.1.0 tt
line_found (Shut conn) fits =
    known (codes "shut") (32 ∷ decimal conn ++ []) refl refl
    ∙ go (any) (λ conn. end (Line (Shut conn))) conn [] fits.0.1.0 tt
line_found (Tick n) fits =
    known (codes "tick") (32 ∷ decimal n ++ []) refl refl
    ∙ go (number 1 1000000) (λ n. end (Line (Tick n))) n [] fits.0.1.0 tt
line_found Stop fits = known (codes "stop") [] refl tt
line_found (Join name company password other) fits =
    known (codes "join") (32 ∷ text_spelled name ++ (32 ∷ decimal company ++ (32 ∷ text_spelled password ++ (32 ∷ text_spelled other
    ++ [])))) refl refl
    ∙ go (text 1 24) (λ name. (number 0 255) ▸ λ company. (text 0 32) ▸ λ password. (text 0 32) ▸ λ other. end
    (Line (Join name company password other))) name (32 ∷ decimal company ++ (32 ∷ text_spelled password ++ (32 ∷ text_spelled other
    ++ []))) fits.0.1.0 refl
    ∙ go (number 0 255) (λ company. (text 0 32) ▸ λ password. (text 0 32) ▸ λ other. end (Line (Join name company password other))) company
    (32 ∷ text_spelled password ++ (32 ∷ text_spelled other ++ [])) fits.0.1.1.0 refl
    ∙ go (text 0 32) (λ password. (text 0 32) ▸ λ other. end (Line (Join name company password other))) password (32 ∷ text_spelled other
    ++ []) fits.0.1.1.1.0 refl
    ∙ go (text 0 32) (λ other. end (Line (Join name company password other))) other [] fits.0.1.1.1.1.0 tt
line_found (Up conn n) fits =
    known (codes "up") (32 ∷ decimal conn ++ (32 ∷ decimal n ++ [])) refl refl
    ∙ go (any) (λ conn. (any) ▸ λ n. end (Line (Up conn n))) conn (32 ∷ decimal n ++ []) fits.0.1.0 refl
    ∙ go (any) (λ n. end (Line (Up conn n))) n [] fits.0.1.1.0 tt
line_found (Down conn n) fits =
    known (codes "down") (32 ∷ decimal conn ++ (32 ∷ decimal n ++ [])) refl refl
    ∙ go (any) (λ conn. (any) ▸ λ n. end (Line (Down conn n))) conn (32 ∷ decimal n ++ []) fits.0.1.0 refl
    ∙ go (any) (λ n. end (Line (Down conn n))) n [] fits.0.1.1.0 tt
line_found (Run conn n) fits =
    known (codes "run") (32 ∷ decimal conn ++ (32 ∷ decimal n ++ [])) refl refl
    ∙ go (any) (λ conn. (any) ▸ λ n. end (Line (Run conn n))) conn (32 ∷ decimal n ++ []) fits.0.1.0 refl
    ∙ go (any) (λ n. end (Line (Run conn n))) n [] fits.0.1.1.0 tt
line_found (Pump conn) fits =
    known (codes "pump") (32 ∷ decimal conn ++ []) refl refl
    ∙ go (any) (λ conn. end (Line (Pump conn))) conn [] fits.0.1.0 tt
line_found (Do conn command) fits = command_found conn command.code command.number command.to command.text fits.0.1.0 fits.0.1.1 fits.1
line_found (Forge conn piece) fits =
    known (codes "forge") (32 ∷ decimal conn ++ (32 ∷ encode_lower piece ++ [])) refl refl
    ∙ go (any) (λ conn. (hex) ▸ λ piece. end (Line (Forge conn piece))) conn (32 ∷ encode_lower piece ++ []) fits.0.1.0 refl
    ∙ go (hex) (λ piece. end (Line (Forge conn piece))) piece [] fits.0.1.1.0 tt
line_found (Expect content) fits =
    known (codes "=") (32 ∷ (content ++ [])) refl refl ∙ ap (λ (o : Option (List ℕ)). o >>= λ t. Some (Line (Expect t)))
    (rest_found (content ++ []))
    ∙ ap (λ (t : List ℕ). Some (Line (Expect t))) (append-nil content)

-- a line is read from its text
pub read_found : (step : Step) → IsStep step → step_at (step_text step) ≡ Some step
read_found (Set setting) fits = setting_found setting fits
read_found (Saved map) fits = map_found map fits
read_found (Line line) fits = line_found line fits
