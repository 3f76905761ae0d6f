-- Command files, line by line.
use Rattle.std.proofs.Common.{◌≡◌, ◌≢◌, subst, zero, suc, ℕ, ◌+◌, ◌-◌, List, [], ◌∷◌, ◌++◌, length, take, refl, sym, ap}
use Rattle.std.proofs.Common.{true, not, Some, None, ◌∙◌, append_assoc, arith}
use Rattle.std.specs.Prelude.{map, codes, ◌==◌}
use Rattle.std.specs.List.{AllByRecursion, list_all}
use Rattle.std.specs.Fmt.{decimal}
use Rattle.std.proofs.lemmas.List.{append-nil, map-append, take_at, length-map, length-append, nil_from_length}
use Rattle.tt_lines.specs.Lines.{HasNo, lines_of, IsFirstBad}
use Rattle.tt_lines.proofs.Breaks.{has_no-cons, has_no-test}
use Rattle.tt_log.specs.Forms.{number, text, key, text_spelled}
use Rattle.tt_log.specs.Lines.{any}
use Rattle.tt_log.specs.Rows.{◌▸◌, end, row_at, pick}
use Rattle.tt_log.proofs.FormLaws.{IsLeft, Each, sound, pick_sound, go}
use Rattle.tt_admin_file.specs.declared.command.Command.{Command}
use Rattle.tt_admin_file.specs.declared.command.Command.TheVariants.{Ping, Update, Poll, Chat, Rcon, Wait, Quit}
use Rattle.tt_admin_file.specs.Commands.{line_text, IsLine, Spells, IsFile}
use Rattle.tt_admin_file.specs.Reading.{lines, line_at}

-- ---- what is read is a line, and its text was read

-- a line, and its words behind a blank
abbrev pub IsRead : Command → List ℕ → Type 0
IsRead line left = IsLine line × (left ≡ 32 ∷ line_text line)

lines_read : Each lines IsRead
lines_read = (
  (λ x f. ((tt, (f, tt)), refl)),
  (
    (λ x f y g. ((tt, (f, (g, tt))), refl)),
    (
      (λ x f y g. ((tt, (f, (g, tt))), refl)),
      ((λ x f. ((tt, (f, tt)), refl)), ((λ x f. ((tt, (f, tt)), refl)), ((λ x f. ((tt, (f, tt)), refl)), (((tt, tt), refl), tt)))),
    ),
  ),
)

-- what is read from a text is a line with that text
pub read_back : (content : List ℕ) (line : Command) → HasNo 10 content → line_at content ≡ Some line → IsLine line
    × (content ≡ line_text line)
read_back content line one e =
    let left : HasNo 10 (32 ∷ content) = has_no-cons 10 32 content (λ is. omega (arith, is)) one in
    let read = sound (key ▸ λ w. pick lines w) IsRead (λ w fits. pick_sound lines IsRead lines_read w) (32 ∷ content) left line e in
    let same = read.1 in
    (read.0, cc)

-- ---- a line is read from its text

known : (w left : List ℕ) → list_all (λ b. not (b == 32)) w ≡ true → IsLeft left
    → row_at (key ▸ λ v. pick lines v) (32 ∷ w ++ left) ≡ row_at (pick lines w) left
known w left one is = go key (λ v. pick lines v) w left (has_no-test 32 w one) is

pub read_found : (line : Command) → IsLine line → line_at (line_text line) ≡ Some line
read_found (Ping id) fits =
    known (codes "ping") (32 ∷ decimal id ++ []) refl refl ∙ go any (λ id. end (Ping id)) id [] fits.1.0 tt
read_found (Update kind bits) fits =
    known (codes "update") (32 ∷ decimal kind ++ (32 ∷ decimal bits ++ [])) refl refl
    ∙ go (number 0 65535) (λ kind. number 0 65535 ▸ λ bits. end (Update kind bits)) kind (32 ∷ decimal bits ++ []) fits.1.0 refl
    ∙ go (number 0 65535) (λ bits. end (Update kind bits)) bits [] fits.1.1.0 tt
read_found (Poll kind id) fits =
    known (codes "poll") (32 ∷ decimal kind ++ (32 ∷ decimal id ++ [])) refl refl
    ∙ go (number 0 255) (λ kind. any ▸ λ id. end (Poll kind id)) kind (32 ∷ decimal id ++ []) fits.1.0 refl
    ∙ go any (λ id. end (Poll kind id)) id [] fits.1.1.0 tt
read_found (Chat content) fits =
    known (codes "chat") (32 ∷ text_spelled content ++ []) refl refl
    ∙ go (text 0 899) (λ content. end (Chat content)) content [] fits.1.0 tt
read_found (Rcon content) fits =
    known (codes "rcon") (32 ∷ text_spelled content ++ []) refl refl
    ∙ go (text 0 899) (λ content. end (Rcon content)) content [] fits.1.0 tt
read_found (Wait ticks) fits =
    known (codes "wait") (32 ∷ decimal ticks ++ []) refl refl ∙ go any (λ ticks. end (Wait ticks)) ticks [] fits.1.0 tt
read_found Quit fits = known (codes "quit") [] refl tt

-- what is not read is no line
pub read_lost : (content : List ℕ) → line_at content ≡ None → (line : Command) → IsLine line → content ≢ line_text line
read_lost content e line is same =
    let found : line_at content ≡ Some line = ap line_at same ∙ read_found line is in
    absurd cc

-- ---- the lines so far

-- these lines were read, and the rest is still to be read
pub record SoFar (input rest : List ℕ) (ls : List Command) (k : ℕ) : Type 0 where
  pub each : AllByRecursion IsLine ls
  pub count : length ls ≡ k
  pub spelled : lines_of input ≡ map line_text ls ++ lines_of rest

pub none_yet : (input : List ℕ) (ls : List Command) → ls ≡ [] → SoFar input input ls 0
none_yet input ls none = subst (λ (xs : List Command). SoFar input input xs 0) (sym none) (record {
  each = tt;
  count = refl;
  spelled = refl;
})

each_more : (ls : List Command) (line : Command) → AllByRecursion IsLine ls → IsLine line → AllByRecursion IsLine (ls
    ++ line ∷ [])
each_more [] line each is = (is, tt)
each_more (first ∷ ls) line each is = (each.0, each_more ls line each.1 is)

-- one line more
pub one_more : (input rest after content : List ℕ) (ls more : List Command) (k next : ℕ) (line : Command)
    → SoFar input rest ls k → lines_of rest ≡ content ∷ lines_of after → IsLine line × (content ≡ line_text line)
    → more ≡ ls ++ line ∷ [] → next ≡ k + 1 → SoFar input after more next
one_more input rest after content ls more k next line so_far cut is grown counted =
    subst (λ (xs : List Command). SoFar input after xs next) (sym grown) (record {
      each = each_more ls line so_far.each is.0;
      count = omega (arith, length-append ls (line ∷ []), so_far.count, counted);
      spelled =
          so_far.spelled ∙ ap (λ (ts : List (List ℕ)). map line_text ls ++ ts) (cut ∙ ap (λ (t : List ℕ). t ∷ lines_of after) is.1)
          ∙ sym (append_assoc (map line_text ls) (line_text line ∷ []) (lines_of after))
          ∙ ap (λ (ts : List (List ℕ)). ts ++ lines_of after) (sym (map-append line_text ls (line ∷ [])));
    })

-- all lines were read
pub all_read : (input rest : List ℕ) (ls : List Command) (k : ℕ) → SoFar input rest ls k → length rest ≡ 0
    → Spells ls (lines_of input)
all_read input rest ls k so_far none = record {
  each = so_far.each;
  text = so_far.spelled ∙ ap (λ (r : List ℕ). map line_text ls ++ lines_of r) (nil_from_length rest none)
      ∙ append-nil (map line_text ls);
}

-- ---- the first bad line

-- the last of some lines is one
last_is : (texts : List (List ℕ)) (content : List ℕ) (others : List Command) → texts ++ content ∷ [] ≡ map line_text others
    → AllByRecursion IsLine others → (line : Command) × (IsLine line × (content ≡ line_text line))
last_is [] content [] e each = absurd cc
last_is [] content (other ∷ others) e each = (other, (each.0, cc))
last_is (first ∷ texts) content [] e each = absurd cc
last_is (first ∷ texts) content (other ∷ others) e each = let tails : texts ++ content ∷ [] ≡ map line_text others =
    cc in last_is texts content others tails each.1

pub first_bad : (input rest after content : List ℕ) (ls : List Command) (k next : ℕ) → SoFar input rest ls k
    → lines_of rest ≡ content ∷ lines_of after → line_at content ≡ None → next ≡ k + 1 → IsFirstBad IsFile (lines_of input) next
first_bad input rest after content ls k next so_far cut none counted =
    let front = map line_text ls in
    let long : length front ≡ k = length-map ls line_text ∙ so_far.count in
    let spelled : lines_of input ≡ front ++ (content ∷ lines_of after) =
    so_far.spelled ∙ ap (λ (ts : List (List ℕ)). front ++ ts) cut in
    let before : take (next - 1) (lines_of input) ≡ front =
    ap (take (next - 1)) spelled ∙ take_at front (content ∷ lines_of after) (next - 1) (omega (arith, long, counted)) in
    let with_it : take next (lines_of input) ≡ front ++ content ∷ [] =
    ap (take next) (spelled ∙ sym (append_assoc front (content ∷ []) (lines_of after)))
    ∙ take_at (front ++ content ∷ []) (lines_of after) next (omega (arith, length-append front (content ∷ []), long, counted)) in
    record {
      some = omega (arith, counted);
      within = omega (arith, ap length spelled, length-append front (content ∷ lines_of after), long, counted);
      before = (ls, record { each = so_far.each; text = before });
      bad = λ is.
          let last = last_is front content is.0 (sym with_it ∙ is.1.text) is.1.each in
          read_lost content none last.0 last.1.0 last.1.1;
    }

-- ---- a whole command file has no bad line

-- the first lines of a command file are one
front_lines : (n : ℕ) (ls : List Command) → AllByRecursion IsLine ls → (few : List Command) × (AllByRecursion IsLine few
    × (take n (map line_text ls) ≡ map line_text few))
front_lines zero ls each = ([], (tt, refl))
front_lines (suc n) [] each = ([], (tt, refl))
front_lines (suc n) (l ∷ ls) each =
    let few = front_lines n ls each.1 in
    (l ∷ few.0, ((each.0, few.1.0), ap (λ (texts : List (List ℕ)). line_text l ∷ texts) few.1.1))

pub none_bad : (texts : List (List ℕ)) (l : ℕ) → IsFile texts → IsFirstBad IsFile texts l → ⊥
none_bad texts l file bad =
    let few = front_lines l file.0 file.1.each in
    bad.bad (few.0, record { each = few.1.0; text = ap (take l) file.1.text ∙ few.1.1 })
