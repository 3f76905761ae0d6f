-- What a round of writes comes to.
use Rattle.std.proofs.Common.{◌≡◌, ℕ, ◌+◌, ◌-◌, ◌≤◌, ◌<◌, inl, inr, Bool, true, false, List, [], ◌++◌, length, take}
use Rattle.std.proofs.Common.{drop, refl, sym, ap}
use Rattle.std.proofs.Common.{subst, ◌∙◌, append_assoc, arith, length-append, Option, Some, None}
use Rattle.std.specs.Prelude.{◌&&◌, ◌==◌}
use Rattle.std.proofs.Math.Seq.{take-add}
use Rattle.std.proofs.lemmas.Bool.{eq-eqb, eqb-true, cases_lt}
use Rattle.std.proofs.lemmas.List.{length-take, take-take, take_at}
use Rattle.tt_edge.specs.Link.{LinkCounts}
use Rattle.tt_rounds.specs.Links.{LinkNow}
use Rattle.tt_rounds.specs.Chain.{joined}
use Rattle.tt_rounds.specs.Saying.{SaysRound, SaidCounts}
use Rattle.tt_rounds.specs.declared.outbox.Said.{Said}
use Rattle.tt_rounds.specs.declared.outbox.Said.TheVariants as said
use Rattle.tt_admin_run.specs.declared.ended.Ended.{Ended}
use Rattle.tt_admin_run.specs.declared.ended.Ended.TheVariants as ended
use Rattle.tt_admin_run.specs.Speaking.{IsSpoken}
use Rattle.tt_admin_run.specs.Rounds.{SpeaksTo, Speaks}

-- whether all there is was due, and ends with QUIT
is_last : (q : Bool) (due most : ℕ) → (q && (due == most)) ≡ true → (q ≡ true) × (due ≡ most)
is_last true due most is = (refl, eqb-true due most is)
is_last false due most is = absurd cc

not_last : (q : Bool) (due most : ℕ) → (q && (due == most)) ≡ false → due ≤ most → q ≡ true → due < most
not_last true due most is le holds = elim (cases_lt due most) [
  | inl lt ↦ lt
  | inr ge ↦ absurd (let same : due ≡ most = omega (arith, le, ge) in let t = eq-eqb due most same in cc)
]
not_last false due most is le holds = absurd cc

ends_said : (r : Option Ended) (s : Said) (q last : Bool) (most due given : ℕ) (w rest : List ℕ) (c c' : LinkCounts) → SaidCounts c c' s
    → (s ≡ said.All → (w ≡ []) × (rest ≡ [])) → (s ≡ said.Held → 0 < length w) → given ≡ due - length rest → due ≤ most
    → last ≡ (q && (due == most)) → IsSpoken s last r → SpeaksTo r q most due given w c c'
ends_said None s q last most due given w rest c c' counts all some is le end (inl (done, fails)) =
    let none = all done in
    inl (
      subst (λ (x : Said). SaidCounts c c' x) done counts,
      none.0,
      omega (arith, is, ap length none.1),
      not_last q due most (sym end ∙ fails) le,
    )
ends_said None s q last most due given w rest c c' counts all some is le end (inr held) =
    inr (subst (λ (x : Said). SaidCounts c c' x) held counts, some held)
ends_said (Some ended.LinkFault) s q last most due given w rest c c' counts all some is le end so =
    subst (λ (x : Said). SaidCounts c c' x) so counts
ends_said (Some ended.Quit) s q last most due given w rest c c' counts all some is le end so =
    let none = all so.0 in
    let both = is_last q due most (sym end ∙ so.1) in (
      subst (λ (x : Said). SaidCounts c c' x) so.0 counts,
      none.0,
      omega (arith, is, ap length none.1, both.1),
      both.0,
    )
ends_said (Some e) s q last most due given w rest c c' counts all some is le end so = absurd so

-- what was written and what waits is what was given
said_balance : (all w w' out given rest rest' : List ℕ) (due a b : ℕ) (before : List ℕ) → take a all ++ rest ≡ take due all
    → rest ≡ given ++ rest' → w ++ given ≡ out ++ w' → due ≤ length all → b ≡ due - length rest' → before ++ w ≡ take a all
    → (before ++ out) ++ w' ≡ take b all
said_balance all w w' out given rest rest' due a b before whole parts balance fits is so =
    let x = take a all ++ given in
    let first : (before ++ out) ++ w' ≡ x =
    append_assoc before out w' ∙ ap (λ (bs : List ℕ). before ++ bs) (sym balance) ∙ sym (append_assoc before w given)
    ∙ ap (λ (bs : List ℕ). bs ++ given) so in
    let both : x ++ rest' ≡ take due all =
    append_assoc (take a all) given rest' ∙ ap (λ (bs : List ℕ). take a all ++ bs) (sym parts) ∙ whole in
    let long : length x ≡ b = omega (arith, is, ap length both, length-append x rest', length-take due all, fits) in
    let le : b ≤ due = omega (arith, is) in
    first ∙ sym (take_at x rest' b long) ∙ ap (take b) both ∙ take-take b due all le

-- what was given, and what of what is due is left
pub given_and_left : (all bytes rest : List ℕ) (a b : ℕ) → bytes ≡ all → a ≤ b → rest ≡ take (b - a) (drop a bytes)
    → take a all ++ rest ≡ take b all
given_and_left all bytes rest a b same le is =
    let long : a + (b - a) ≡ b = omega (arith, le) in
    ap (λ (xs : List ℕ). take a all ++ xs) (is ∙ ap (λ (xs : List ℕ). take (b - a) (drop a xs)) same)
    ∙ sym (take-add a (b - a) all) ∙ ap (λ (n : ℕ). take n all) long

pub speaks_so : {S : Type 0} (due_of : S → List ℕ) (says : S → List ℕ → S → Type 0) (s s' : S) (all : List ℕ) (q last : Bool)
    (due a b : ℕ) (w w' : List ℕ) (l l' : LinkNow) (x : Said) (r : Option Ended) → SaysRound due_of says s s' w w' l l' x
    → take a all ++ due_of s ≡ take due all → due ≤ length all → b ≡ due - length (due_of s') → last ≡ (q && (due == length all))
    → IsSpoken x last r → Speaks all q due a b w w' l l' r
speaks_so due_of says s s' all q last due a b w w' l l' x r round whole fits is end spoken = record {
  out = round.moves.out;
  written = round.moves.written;
  kept = round.moves.read;
  within = omega (arith, is);
  balance = λ before so. said_balance all w w' round.moves.out (joined round.moves.given) (due_of s) (due_of s') due a b before whole
      round.moves.due_is round.moves.balance fits is so;
  ends = ends_said r x q last (length all) due b w' (due_of s') l.counts l'.counts round.counts round.all round.some_held is fits end
      spoken;
}
