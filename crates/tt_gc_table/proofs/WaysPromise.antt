-- The promise on ways: in order, each after the failure of the one before, and the end at most once.
use Rattle.std.proofs.Common.{◌≡◌, ℕ, zero, suc, ◌<◌, ◌^◌, true, List, [], ◌∷◌, ◌++◌, length, refl, sym, ap, ap₂, ◌∙◌, append_assoc, arith}
use Rattle.std.proofs.Common.{inl, inr}
use Rattle.std.specs.Prelude.{◌⊎◌, filter, replicate}
use Rattle.std.proofs.lemmas.List.{append-nil, length-append}
use Rattle.tt_edge.specs.declared.event.Event.{Event}
use Rattle.tt_attempts.specs.declared.attempt.Ways.{Ways}
use Rattle.tt_attempts.specs.declared.attempt.Stage.{Stage}
use Rattle.tt_attempts.specs.declared.attempt.Heard.{Heard}
use Rattle.tt_attempts.specs.declared.attempt.Heard.TheVariants.{Connected, ServerGone}
use Rattle.tt_attempts.specs.declared.attempt.Told as word
use Rattle.tt_attempts.specs.declared.attempt.Told.TheVariants.{Nothing, Direct, AskStun, Stun, Turn, AllFailed}
use Rattle.tt_attempts.specs.Attempts.{from_direct, stepped as attempt_stepped}
use Rattle.tt_attempts.specs.Runs.{told_in, answers, ways_in, applying, word_after, last_word, fails}
use Rattle.tt_attempts.proofs.OrderLaws.{in_order}
use Rattle.tt_attempts.proofs.EndLaws.{connected_silent, failed_silent}
use Rattle.tt_attempts.proofs.AdvanceLaws.{way_because, end_because}
use Rattle.tt_attempts.proofs.RunLaws.{stage_after, stage_in, told_append, word_step}
use Rattle.tt_gc_table.specs.declared.setup.GcSetup.{GcSetup}
use Rattle.tt_gc_table.specs.Events.{table_of}
use Rattle.tt_gc_table.specs.Ways.{is_way, words_for, ways, hearings, numbered, numbers, IsCaused}
use Rattle.tt_gc_table.proofs.WaysLaws.{state_in, Stands, nothing_more, numbers_append, stands_of, few_attempts}

-- what is told for a token is what its attempt tells for all that it heard, or nothing at all
pub words_told : (s : GcSetup) (es : List Event) (token : List ℕ) → length es < 2 ^ 64
    → ((words_for s es token ≡ []) × (hearings s es token ≡ [])) ⊎ (words_for s es token ≡ numbers (told_in s.ways (hearings s es token)))
words_told s es token few = by (stands_of s es token (few_attempts s es few))
  where
    by : Stands s token (state_in (table_of s es) token) (table_of s es).attempts (words_for s es token) (hearings s es token)
        → ((words_for s es token ≡ []) × (hearings s es token ≡ []))
        ⊎ (words_for s es token ≡ numbers (told_in s.ways (hearings s es token)))
    by (inl f) = inl (f.ways, f.heard)
    by (inr b) = inr b.ways

-- ---- the order

numbers_ways : (ts : List word.Told) → numbers (ways_in ts) ≡ filter is_way (numbers ts)
numbers_ways [] = refl
numbers_ways (Nothing ∷ ts) = numbers_ways ts
numbers_ways (Direct ∷ ts) = ap (λ (l : List ℕ). 1 ∷ l) (numbers_ways ts)
numbers_ways (AskStun ∷ ts) = ap (λ (l : List ℕ). 2 ∷ l) (numbers_ways ts)
numbers_ways (Stun ∷ ts) = numbers_ways ts
numbers_ways (Turn ∷ ts) = ap (λ (l : List ℕ). 3 ∷ l) (numbers_ways ts)
numbers_ways (AllFailed ∷ ts) = numbers_ways ts

pub ways_order : (s : GcSetup) (es : List Event) (token : List ℕ) → length es < 2 ^ 64
    → (later : List ℕ) × (numbers (applying s.ways) ≡ ways s es token ++ later)
ways_order s es token few = by (words_told s es token few)
  where
    by : ((words_for s es token ≡ []) × (hearings s es token ≡ []))
        ⊎ (words_for s es token ≡ numbers (told_in s.ways (hearings s es token)))
        → (later : List ℕ) × (numbers (applying s.ways) ≡ ways s es token ++ later)
    by (inl none) = (numbers (applying s.ways), ap (λ (l : List ℕ). filter is_way l ++ numbers (applying s.ways)) (sym none.0))
    by (inr is) =
        let heard : List Heard = hearings s es token in
        let order = in_order s.ways heard in (
          numbers order.0,
          ap numbers order.1 ∙ numbers_append (ways_in (told_in s.ways heard)) order.0
              ∙ ap (λ (l : List ℕ). l ++ numbers order.0) (numbers_ways (told_in s.ways heard) ∙ sym (ap (filter is_way) is)),
        )

-- ---- silence

quiet_words : (n : ℕ) → numbers (replicate n Nothing) ≡ []
quiet_words zero = refl
quiet_words (suc n) = quiet_words n

-- after CLIENT_CONNECTED, or the client's end, nothing is told
pub none_after : (s : GcSetup) (es : List Event) (token : List ℕ) (before after : List Heard) → length es < 2 ^ 64
    → hearings s es token ≡ before ++ Connected ∷ after → words_for s es token ≡ numbers (told_in s.ways before)
none_after s es token before after few is = by (words_told s es token few)
  where
    some : (l : List Heard) → l ≡ [] → l ≡ before ++ Connected ∷ after → 0 ≡ length (before ++ Connected ∷ after)
    some l none same = ap length (sym none ∙ same)

    by : ((words_for s es token ≡ []) × (hearings s es token ≡ []))
        ⊎ (words_for s es token ≡ numbers (told_in s.ways (hearings s es token)))
        → words_for s es token ≡ numbers (told_in s.ways before)
    by (inl none) = absurd (omega (arith, some (hearings s es token) none.1 is, length-append before (Connected ∷ after)))
    by (inr told) =
        told ∙ ap (λ (l : List Heard). numbers (told_in s.ways l)) is
        ∙ ap numbers (connected_silent s.ways before after)
        ∙ numbers_append (told_in s.ways before) (Nothing ∷ replicate (length after) Nothing)
        ∙ nothing_more (numbers (told_in s.ways before)) (numbers (replicate (length after) Nothing)) (quiet_words (length after))

-- ---- causes

-- a word tells nothing, or one thing
spelling : (w : word.Told) → (numbered w ≡ []) ⊎ ((n : ℕ) × (numbered w ≡ n ∷ []))
spelling Nothing = inl refl
spelling Direct = inr (1, refl)
spelling AskStun = inr (2, refl)
spelling Stun = inl refl
spelling Turn = inr (3, refl)
spelling AllFailed = inr (4, refl)

-- the event that is answered by a word, of those from a stage on
record Answered (ways : Ways) (stage : Stage) (heard : List Heard) (before : List ℕ) (x : ℕ) : Type 0 where
  pub early : List Heard
  pub cause : Heard
  pub late : List Heard
  pub parts : heard ≡ early ++ cause ∷ late
  pub told : before ≡ numbers (answers ways stage early)
  pub word : numbered (attempt_stepped ways (stage_after ways stage early) cause).told ≡ x ∷ []

empty_apart : (before : List ℕ) (x : ℕ) (after : List ℕ) → [] ≡ before ++ x ∷ after → ⊥
empty_apart before x after is = omega (arith, ap length is, length-append before (x ∷ after))

head_is : (x y : ℕ) (xs ys : List ℕ) → x ∷ xs ≡ y ∷ ys → x ≡ y
head_is x y xs ys is = ap (first_or 0) is
  where
    first_or : ℕ → List ℕ → ℕ
    first_or d [] = d
    first_or d (x ∷ xs) = x

tail_is : (x y : ℕ) (xs ys : List ℕ) → x ∷ xs ≡ y ∷ ys → xs ≡ ys
tail_is x y xs ys is = ap rest is
  where
    rest : List ℕ → List ℕ
    rest [] = []
    rest (x ∷ xs) = xs

-- the event comes later, after one that is answered by some of these words
later : (ways : Ways) (stage : Stage) (h : Heard) (hs : List Heard) (mine rest before : List ℕ) (x : ℕ)
    → numbered (attempt_stepped ways stage h).told ≡ mine → before ≡ mine ++ rest
    → Answered ways (attempt_stepped ways stage h).stage hs rest x → Answered ways stage (h ∷ hs) before x
later ways stage h hs mine rest before x same all a = record {
  early = h ∷ a.early;
  cause = a.cause;
  late = a.late;
  parts = ap (λ (l : List Heard). h ∷ l) a.parts;
  told = all ∙ ap₂ (λ (x y : List ℕ). x ++ y) (sym same) a.told;
  word = a.word;
}

answered_step : (ways : Ways) (stage : Stage) (h : Heard) (hs : List Heard) (before : List ℕ) (x : ℕ) (after : List ℕ)
    → (numbered (attempt_stepped ways stage h).told ≡ []) ⊎ ((n : ℕ) × (numbered (attempt_stepped ways stage h).told ≡ n ∷ []))
    → ((b : List ℕ) → numbers (answers ways (attempt_stepped ways stage h).stage hs) ≡ b ++ x ∷ after
    → Answered ways (attempt_stepped ways stage h).stage hs b x)
    → numbered (attempt_stepped ways stage h).told ++ numbers (answers ways (attempt_stepped ways stage h).stage hs) ≡ before ++ x ∷ after
    → Answered ways stage (h ∷ hs) before x
answered_step ways stage h hs before x after (inl none) rest is =
    let all : List ℕ = numbers (answers ways (attempt_stepped ways stage h).stage hs) in
    later ways stage h hs [] before before x none refl (rest before (ap (λ (l : List ℕ). l ++ all) (sym none) ∙ is))
answered_step ways stage h hs [] x after (inr one) rest is =
    let all : List ℕ = numbers (answers ways (attempt_stepped ways stage h).stage hs) in
    record {
      early = [];
      cause = h;
      late = hs;
      parts = refl;
      told = refl;
      word = one.1 ∙ ap (λ (k : ℕ). k ∷ []) (head_is one.0 x all after (ap (λ (l : List ℕ). l ++ all) (sym one.1) ∙ is));
    }
answered_step ways stage h hs (y ∷ ys) x after (inr one) rest is =
    let all : List ℕ = numbers (answers ways (attempt_stepped ways stage h).stage hs) in
    let same : one.0 ∷ all ≡ y ∷ ys ++ x ∷ after = ap (λ (l : List ℕ). l ++ all) (sym one.1) ∙ is in
    later ways stage h hs (one.0 ∷ []) ys (y ∷ ys) x one.1 (ap (λ (k : ℕ). k ∷ ys) (sym (head_is one.0 y all (ys ++ x ∷ after) same)))
    (rest ys (tail_is one.0 y all (ys ++ x ∷ after) same))

answered : (ways : Ways) (stage : Stage) (heard : List Heard) (before : List ℕ) (x : ℕ) (after : List ℕ)
    → numbers (answers ways stage heard) ≡ before ++ x ∷ after → Answered ways stage heard before x
answered ways stage [] before x after is = absurd (empty_apart before x after is)
answered ways stage (h ∷ hs) before x after is =
    answered_step ways stage h hs before x after (spelling (attempt_stepped ways stage h).told)
    (λ b same. answered ways (attempt_stepped ways stage h).stage hs b x after same) is

-- the word that tells this, and why it came
word_rule : (ways : Ways) (early : List Heard) (cause : Heard) (w : word.Told) (x : ℕ)
    → told_in ways (early ++ cause ∷ []) ≡ told_in ways early ++ w ∷ [] → numbered w ≡ x ∷ []
    → (fails (last_word ways early) cause ≡ true) ⊎ ((x ≡ 4) × (cause ≡ ServerGone))
word_rule ways early cause Nothing x told is = absurd (empty_apart [] x [] is)
word_rule ways early cause Stun x told is = absurd (empty_apart [] x [] is)
word_rule ways early cause Direct x told is = inl (way_because ways early cause Direct tt told)
word_rule ways early cause AskStun x told is = inl (way_because ways early cause AskStun tt told)
word_rule ways early cause Turn x told is = inl (way_because ways early cause Turn tt told)
word_rule ways early cause AllFailed x told is = by (end_because ways early cause told)
  where
    by : (fails (last_word ways early) cause ≡ true) ⊎ (cause ≡ ServerGone)
        → (fails (last_word ways early) cause ≡ true) ⊎ ((x ≡ 4) × (cause ≡ ServerGone))
    by (inl failed) = inl failed
    by (inr gone) = inr (sym (head_is 4 x [] [] is), gone)

one_told : (ways : Ways) (early : List Heard) (cause : Heard)
    → told_in ways (early ++ cause ∷ []) ≡ told_in ways early ++ (attempt_stepped ways (stage_in ways early) cause).told ∷ []
one_told ways early cause = told_append ways early (cause ∷ [])

-- this is the first word, or else it is answered after it
abbrev IsFirst : Ways → List ℕ → ℕ → Type 0
IsFirst ways before x = (before ≡ []) × (numbered (from_direct ways).told ≡ x ∷ [])

abbrev IsLater : Ways → List Heard → List ℕ → ℕ → Type 0
IsLater ways heard before x =
    (b : List ℕ) × (before ≡ numbered (from_direct ways).told ++ b) × Answered ways (from_direct ways).stage heard b x

first_told : (ways : Ways) (heard : List Heard) (before : List ℕ) (x : ℕ) (after : List ℕ)
    → (numbered (from_direct ways).told ≡ []) ⊎ ((n : ℕ) × (numbered (from_direct ways).told ≡ n ∷ []))
    → numbers (told_in ways heard) ≡ before ++ x ∷ after → IsFirst ways before x ⊎ IsLater ways heard before x
first_told ways heard before x after (inl none) is =
    let all : List ℕ = numbers (answers ways (from_direct ways).stage heard) in
    inr (
      before,
      ap (λ (l : List ℕ). l ++ before) (sym none),
      answered ways (from_direct ways).stage heard before x after
          (ap (λ (l : List ℕ). l ++ all) (sym none) ∙ is),
    )
first_told ways heard [] x after (inr one) is =
    let all : List ℕ = numbers (answers ways (from_direct ways).stage heard) in
    inl (refl, one.1 ∙ ap (λ (k : ℕ). k ∷ []) (head_is one.0 x all after (ap (λ (l : List ℕ). l ++ all) (sym one.1) ∙ is)))
first_told ways heard (y ∷ ys) x after (inr one) is =
    let all : List ℕ = numbers (answers ways (from_direct ways).stage heard) in
    let same : one.0 ∷ all ≡ y ∷ ys ++ x ∷ after = ap (λ (l : List ℕ). l ++ all) (sym one.1) ∙ is in
    inr (
      ys,
      ap (λ (k : ℕ). k ∷ ys) (sym (head_is one.0 y all (ys ++ x ∷ after) same)) ∙ ap (λ (l : List ℕ). l ++ ys) (sym one.1),
      answered ways (from_direct ways).stage heard ys x after (tail_is one.0 y all (ys ++ x ∷ after) same),
    )

caused : (ways : Ways) (heard : List Heard) (before : List ℕ) (x : ℕ) → (before ≡ [] → ⊥)
    → IsFirst ways before x ⊎ IsLater ways heard before x → IsCaused ways heard before x
caused ways heard before x some (inl f) = absurd (some f.0)
caused ways heard before x some (inr f) =
    let a : Answered ways (from_direct ways).stage heard f.0 x = f.2 in
    record {
      early = a.early;
      cause = a.cause;
      late = a.late;
      parts = a.parts;
      told = f.1 ∙ ap (λ (l : List ℕ). numbered (from_direct ways).told ++ l) a.told;
      rule = word_rule ways a.early a.cause (attempt_stepped ways (stage_in ways a.early) a.cause).told x (one_told ways a.early a.cause)
          a.word;
    }

-- what is told after the first word has a cause
pub words_caused : (s : GcSetup) (es : List Event) (token : List ℕ) (before : List ℕ) (x : ℕ) (after : List ℕ) → length es < 2 ^ 64
    → words_for s es token ≡ before ++ x ∷ after → (before ≡ [] → ⊥) → IsCaused s.ways (hearings s es token) before x
words_caused s es token before x after few is some = by (words_told s es token few)
  where
    by : ((words_for s es token ≡ []) × (hearings s es token ≡ []))
        ⊎ (words_for s es token ≡ numbers (told_in s.ways (hearings s es token)))
        → IsCaused s.ways (hearings s es token) before x
    by (inl none) = absurd (empty_apart before x after (sym none.0 ∙ is))
    by (inr told) = caused s.ways (hearings s es token) before x some
        (first_told s.ways (hearings s es token) before x after (spelling (from_direct s.ways).told) (sym told ∙ is))

-- ---- the end, at most once

failed_by : (w : word.Told) → numbered w ≡ 4 ∷ [] → w ≡ AllFailed
failed_by Nothing is = absurd (empty_apart [] 4 [] is)
failed_by Direct is = absurd (omega (arith, head_is 1 4 [] [] is))
failed_by AskStun is = absurd (omega (arith, head_is 2 4 [] [] is))
failed_by Stun is = absurd (empty_apart [] 4 [] is)
failed_by Turn is = absurd (omega (arith, head_is 3 4 [] [] is))
failed_by AllFailed is = refl

last_is : (w : word.Told) (ts : List word.Told) (last : word.Told) → last ≡ AllFailed → word_after w (ts ++ last ∷ []) ≡ AllFailed
last_is w [] last is = ap (λ (t : word.Told). word_after w (t ∷ [])) is
last_is w (t ∷ ts) last is = word_step w t (ts ++ last ∷ []) ∙ last_is (word_after w (t ∷ [])) ts last is

no_more : (before : List ℕ) (x : ℕ) (after : List ℕ) → before ++ x ∷ after ≡ before ++ x ∷ [] → after ≡ []
no_more before x [] is = refl
no_more before x (y ∷ ys) is = absurd (omega (arith, ap length is, length-append before (x ∷ y ∷ ys), length-append before (x ∷ [])))

silent_after : (ways : Ways) (early late : List Heard) → last_word ways early ≡ AllFailed
    → numbers (told_in ways (early ++ late)) ≡ numbers (told_in ways early)
silent_after ways early late last =
    ap numbers (failed_silent ways early late last) ∙ numbers_append (told_in ways early) (replicate (length late) Nothing)
    ∙ nothing_more (numbers (told_in ways early)) (numbers (replicate (length late) Nothing)) (quiet_words (length late))

once : (ways : Ways) (heard : List Heard) (before after : List ℕ) → numbers (told_in ways heard) ≡ before ++ 4 ∷ after
    → IsFirst ways before 4 ⊎ IsLater ways heard before 4 → after ≡ []
once ways heard before after is (inl f) =
    let end : numbers (told_in ways heard) ≡ numbered (from_direct ways).told ++ [] =
    silent_after ways [] heard (last_is Nothing [] (from_direct ways).told (failed_by (from_direct ways).told f.1)) in
    no_more before 4 after (sym is ∙ end ∙ append-nil (numbered (from_direct ways).told) ∙ f.1 ∙ ap (λ (l : List ℕ). l ++ 4 ∷ []) (sym f.0))
once ways heard before after is (inr f) =
    let a : Answered ways (from_direct ways).stage heard f.0 4 = f.2 in
    let w : word.Told = (attempt_stepped ways (stage_in ways a.early) a.cause).told in
    let told : told_in ways (a.early ++ a.cause ∷ []) ≡ told_in ways a.early ++ w ∷ [] = one_told ways a.early a.cause in
    let last : last_word ways (a.early ++ a.cause ∷ []) ≡ AllFailed =
    ap (word_after Nothing) told ∙ last_is Nothing (told_in ways a.early) w (failed_by w a.word) in
    let all : numbers (told_in ways heard) ≡ numbers (told_in ways (a.early ++ a.cause ∷ [])) =
    ap (λ (l : List Heard). numbers (told_in ways l)) (a.parts ∙ sym (append_assoc a.early (a.cause ∷ []) a.late))
    ∙ silent_after ways (a.early ++ a.cause ∷ []) a.late last in
    let here : before ≡ numbers (told_in ways a.early) = f.1 ∙ ap (λ (l : List ℕ). numbered (from_direct ways).told ++ l) a.told in
    no_more before 4 after (sym is ∙ all ∙ ap numbers told ∙ numbers_append (told_in ways a.early) (w ∷ [])
    ∙ ap₂ (λ (x y : List ℕ). x ++ y) (sym here) (append-nil (numbered w) ∙ a.word))

-- the end is told last, so at most once
pub ends_once : (s : GcSetup) (es : List Event) (token : List ℕ) (before after : List ℕ) → length es < 2 ^ 64
    → words_for s es token ≡ before ++ 4 ∷ after → after ≡ []
ends_once s es token before after few is = by (words_told s es token few)
  where
    by : ((words_for s es token ≡ []) × (hearings s es token ≡ []))
        ⊎ (words_for s es token ≡ numbers (told_in s.ways (hearings s es token)))
        → after ≡ []
    by (inl none) = absurd (empty_apart before 4 after (sym none.0 ∙ is))
    by (inr told) = once s.ways (hearings s es token) before after (sym told ∙ is)
        (first_told s.ways (hearings s es token) before 4 after (spelling (from_direct s.ways).told) (sym told ∙ is))
