use Rattle.std.proofs.Common.{ℕ, ◌≡◌, subst, sym, ap}
use Rattle.std.specs.Prelude.{length}
use Rattle.tt_log.specs.Downloads.{IsQueue}
use Rattle.tt_log.specs.Origin.{Origin, above}
use Rattle.tt_log.specs.Table.{Table, living_in}
use Rattle.tt_log.specs.Tick.{left_of}
use Rattle.tt_members.specs.Crew.{crew_of, founders_in, origin_at, rest_of, table_at}
use Rattle.tt_members.specs.Done.{Does}
use Rattle.tt_join.specs.declared.input.Input.{Input}
use Rattle.tt_join.specs.declared.input.Now.{Now}
use Rattle.tt_join.specs.Inputs.{by_input, IsAt}
use Rattle.tt_join.specs.Ties.{IsTimeOf}
use Rattle.tt_join.proofs.Tied.{crew_behind}
use Rattle.tt_join.proofs.laws.a_plan_is_its_rule.Goals as goal

-- what holds at the clock of a table holds at a time that is its own
at_clock : (P : ℕ → ℕ → Type 0) (f g frame top : ℕ) → f ≡ frame → g ≡ top → P frame top → P f g
at_clock P f g frame top is_frame is_top holds = subst (λ (k : ℕ). P k g) (sym is_frame) (subst (λ (k : ℕ). P frame k) (sym is_top) holds)

at_time : (o : Origin) (t : Table) (now : Now) (input : Input) → IsTimeOf o t now input
    → IsAt o.setup (crew_of o t) now input (rest_of o t)
at_time o t now input time =
    let clock = λ (P : ℕ → ℕ → Type 0) (holds : P t.frame t.top). at_clock P now.frame now.top t.frame t.top time.frame time.top holds in
    let at = λ (frame top : ℕ). table_at (crew_of o t) frame top (rest_of o t) in
    record {
      live = clock (λ frame top. living_in (origin_at o.setup (rest_of o t)) (at frame top) ≡ now.live) time.live;
      many = time.many;
      left = clock (λ frame top. length (left_of (origin_at o.setup (rest_of o t)) (at frame top)) ≡ now.left) time.left;
      founders = ap (λ (frame : ℕ). founders_in (above o frame t.journal)) (sym time.frame);
      queued = clock (λ frame top. IsQueue (at frame top) t.queue) time.queued;
      next = time.next;
    }

pub returns : goal.returns
returns c = record {
  tied = λ o t now input p time plans.
      let d : Does o.setup (crew_of o t) now.frame now.top (rest_of o t) (by_input input) p = plans (rest_of o t) (at_time o t now input
      time)
      in
      let e : Does o.setup (crew_of o t) t.frame t.top (rest_of o t) (by_input input) p =
      subst (λ (top : ℕ). Does o.setup (crew_of o t) t.frame top (rest_of o t) (by_input input) p) time.top
      (subst (λ (frame : ℕ). Does o.setup (crew_of o t) frame now.top (rest_of o t) (by_input input) p) time.frame d)
      in
      record { told = e.told; table = e.table; crew = crew_behind input o t p e.table };
}
