-- A client without a map runs nothing.
use Rattle.std.proofs.Common.{◌≡◌, ℕ, zero, suc, Bool, true, false, cond, refl, sym, ap, ap₂, ◌∙◌, Option, Some, None}
use Rattle.tt_lockstep.specs.Runner.{Kept, Runner, RunnerJoining, runner_advanced}
use Rattle.tt_world.specs.declared.command.Entry.{Entry}
use Rattle.tt_world.specs.World.{WorldState}
use Rattle.tt_log.specs.Shown.{goes_on}
use Rattle.tt_client.specs.declared.login.Login.{Login}
use Rattle.tt_client.specs.declared.running.Mismatch.{Mismatch}
use Rattle.tt_client.specs.declared.stage.Stage.{Stage}
use Rattle.tt_client.specs.declared.stage.Phase.{Phase}
use Rattle.tt_client.specs.declared.stage.Phase.TheVariants.{Joining, Loaded, Ended, Shutdown, Wrong}
use Rattle.tt_client.specs.Known.{known}
use Rattle.tt_client.specs.Player.{Player, advanced, run_as, is_on}
use Rattle.tt_client.specs.Runs.{running, runner_frame, runner_permitted}
use Rattle.tt_client.specs.Held.{Stands, phase_of, unmapped}

joins_still : (n : ℕ) → runner_advanced known n RunnerJoining ≡ RunnerJoining
joins_still zero = refl
joins_still (suc n) = joins_still n

rests_by : (b : Bool) (r : Runner WorldState Entry) (p : Player (Runner WorldState Entry)) → p.runs ≡ RunnerJoining → r ≡ RunnerJoining
    → cond b (run_as (runner_frame p.runs) (runner_frame r) (runner_permitted r) r p) p ≡ p
rests_by true r p one two =
    ap₂ (λ x y. run_as (runner_frame x) (runner_frame y) (runner_permitted y) y p) one two
    ∙ ap (λ r. let q : Player (Runner WorldState Entry) = record p { runs = r } in q) (sym one)
rests_by false r p one two = refl

pub joining_rests : (login : Login) (n : ℕ) (p : Player (Runner WorldState Entry)) → p.runs ≡ RunnerJoining → advanced running login n p ≡ p
joining_rests login n p is = rests_by (is_on running login p) (runner_advanced known n p.runs) p is (ap (λ r. runner_advanced known n r) is
    ∙ joins_still n)

pub unmapped_on : (p : Phase) → goes_on (phase_of p) ≡ true → unmapped p ≡ RunnerJoining
unmapped_on Joining on = refl
unmapped_on Loaded on = refl
unmapped_on (Ended code) on = absurd cc
unmapped_on Shutdown on = absurd cc
unmapped_on (Wrong at) on = absurd cc

pub stands_on : (stage : Stage) (p : Phase) (off new : Option Mismatch) (r : Option (Kept WorldState Entry)) (k l : Kept WorldState Entry)
    → r ≡ Some k → goes_on (phase_of p) ≡ true → Stands stage p off r → Stands stage p new (Some l)
stands_on stage Joining off new r k l is on s = absurd (let no : None ≡ Some k = sym s.2 ∙ is in cc)
stands_on stage Loaded off new r k l is on s = (s.0, refl)
stands_on stage (Ended code) off new r k l is on s = absurd cc
stands_on stage Shutdown off new r k l is on s = absurd cc
stands_on stage (Wrong at) off new r k l is on s = absurd cc
