use Rattle.std.proofs.Common.{rules, ◌≡◌, ◌++◌, [], ℕ, List, sym, ap, ◌∙◌}
use Rattle.std.specs.Prelude.{filter}
use Rattle.std.proofs.lemmas.List.{append-nil}
use Rattle.tt_attempts.specs.declared.attempt.Heard.TheVariants.{ServerGone}
use Rattle.tt_gc_table.specs.Table.{Meeting}
use Rattle.tt_gc_table.specs.OpenAttempts.{meetings_of}
use Rattle.tt_gc_table.specs.Parts.{is_lost}
use Rattle.tt_gc_table.specs.Hearing.{told_each}
use Rattle.tt_gc_table.specs.Tells.{told_to}
use Rattle.tt_gc_table.specs.ByConnection.{numbers_of, all_numbered}
use Rattle.tt_gc_table.proofs.ByConnectionLaws.{lost_numbered, told_next}
use Rattle.tt_gc_table.proofs.meetings.Meetings.tell_lost.Goals as goal

-- it has no attempts
pub returns-in_default : goal.returns-in_default
returns-in_default c =
    let es : List (ℕ × Meeting) = c.args.self.now in
    let nobody : filter (is_lost c.args.conn) (meetings_of es) ≡ [] =
    sym (lost_numbered c.args.conn es c.in_default.ensures.apart)
    ∙ ap (λ (ns : List ℕ). filter (is_lost c.args.conn) (all_numbered ns es)) c.in_default.ensures.none in
    record {
      told = λ s host x. sym (ap (λ (ms : List Meeting). told_to x c.args.out.now ++ told_each s ServerGone c.args.parts.now x ms) nobody
          ∙ append-nil (told_to x c.args.out.now));
    }

pub loop-number-init : goal.loop-number-init
loop-number-init c = λ s host x.
    let es : List (ℕ × Meeting) = c.args.self.now in
    let are : c.into_iter-number-iterator.result ≡ numbers_of c.args.conn es = first_of (cc, search rules) in
    ap (λ (ns : List ℕ). told_to x c.args.out.now ++ told_each s ServerGone c.args.parts.now x (filter (is_lost c.args.conn)
    (all_numbered ns es))) are
    ∙ ap (λ (ms : List Meeting). told_to x c.args.out.now ++ told_each s ServerGone c.args.parts.now x ms)
    (lost_numbered c.args.conn es c.in-Some.ensures.apart)

pub loop-number-preserved : goal.loop-number-preserved
loop-number-preserved c = λ s host x.
    let es : List (ℕ × Meeting) = c.args.self.now in
    let rest : List ℕ = c.next.new.self in
    ap (λ (l : List ℕ). l ++ told_each s ServerGone c.args.parts.now x (filter (is_lost c.args.conn) (all_numbered rest es)))
    (c.in_ok-tell_number.ensures.told s host x)
    ∙ told_next s ServerGone c.args.parts.now x c.args.conn c.in-Some-number.number.now rest es (told_to x c.loop-number.out)
    ∙ ap (λ (ns : List ℕ). told_to x c.loop-number.out ++ told_each s ServerGone c.args.parts.now x (filter (is_lost c.args.conn)
    (all_numbered ns es))) (sym c.in-Some-number.ensures.steps)
    ∙ c.loop-number.invariant s host x
