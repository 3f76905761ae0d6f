use Rattle.std.proofs.Common.{ℕ, ◌≡◌, ◌↔◌, subst, sym, arith}
use Rattle.tt_frame.specs.Stream.{Reads, Cut, Broken}
use Rattle.tt_frame.specs.Runs.{taken_by, given_by}
use Rattle.tt_frame.specs.declared.framer.Next.TheVariants as next
use Rattle.tt_frame.proofs.RunLaws.{after_calls, given_first, partial_is, bad_size_is, bad_size_stays, takes_some}
use Rattle.tt_frame.proofs.laws.every_run.Goals as goal

pub returns-clause-packets : goal.returns-clause-packets
returns-clause-packets c limit calls now packets end small leads reads =
    let holds = after_calls limit calls now small leads in
    given_first (taken_by calls) (given_by calls) now packets end (omega arith) holds.0 (subst (λ (n : ℕ). Reads n (taken_by calls) packets
    end) (sym holds.1) reads)

pub returns-clause-partial : goal.returns-clause-partial
returns-clause-partial c limit calls now after answer small leads gives =
    let holds = after_calls limit calls now small leads in
    subst (λ (n : ℕ). (answer ≡ next.Partial) ↔ Cut n (taken_by calls) (given_by calls) now.held) holds.1 (partial_is (taken_by calls)
    (given_by calls) now answer after (omega arith) holds.0 gives)

pub returns-clause-bad_size : goal.returns-clause-bad_size
returns-clause-bad_size c limit calls now after answer n small leads gives =
    let holds = after_calls limit calls now small leads in
    subst (λ (m : ℕ). (answer ≡ next.BadSize n) ↔ Broken m (taken_by calls) (given_by calls) n) holds.1 (bad_size_is (taken_by calls)
    (given_by calls) now answer after n (omega arith) holds.0 gives)

pub returns-clause-stays : goal.returns-clause-stays
returns-clause-stays c old now later after n calls answer small gives leads then =
    bad_size_stays old now n calls later answer after small gives leads then

pub returns-clause-moves : goal.returns-clause-moves
returns-clause-moves c old now after piece n gives feeds some = takes_some old now after piece n gives feeds some
