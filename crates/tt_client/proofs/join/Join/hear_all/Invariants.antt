use Rattle.std.proofs.Common.{◌≡◌, ◌≤◌, ◌-◌, ℕ, Option, length, drop}
use Rattle.tt_client.specs.Player.{heard_all}
use Rattle.tt_client.specs.Runs.{running}
use Rattle.tt_client.specs.Planned.{JoinStands, joined_by}
use Rattle.tt_client.specs.Saying.{Saying}
use Rattle.tt_client.proofs.join.Join.hear_all.Given as goal

abbrev pub invariant-items : goal.invariant-items
invariant-items l = record {
  within : l.heard ≤ length l.items;
  heard : (saying : Saying) (acked : Option ℕ) → heard_all running l.login (drop l.heard l.items) (joined_by l.come l.self saying acked)
      ≡ heard_all running l.login l.items (joined_by l.come l.fn.self saying acked);
  stands : JoinStands l.self l.come;
}

abbrev pub decreases-items : goal.decreases-items
decreases-items l = length l.items - l.heard
