use Rattle.std.proofs.Common.{◌≡◌, ap, ◌+◌, ◌≤◌, List, arith, length, subst}
use Rattle.tt_log.specs.Admin.{Admin}
use Rattle.tt_log.specs.Member.{Member}
use Rattle.tt_table.specs.Held.{Played, table}
use Rattle.tt_table.proofs.PutFacts.{most-there}
use Rattle.tt_table.proofs.game.Game.most_ends.Goals as goal

pub returns-clause-members : goal.returns-clause-members
returns-clause-members c =
    let most = (most-there _ _ _ c.self.invariant.0).0 in
    let here : length c.all.result.now ≡ length c.self.inside.members.crew.members =
    ap (λ (xs : List Member). length xs) c.all.ensures.all in
    let greatest = c.max.ensures in
    subst (λ (g : Played). length (table g).members + 1 ≤ c.max.result + 1) c.self.view_is (omega (arith, most, here, greatest))

pub returns-clause-admins : goal.returns-clause-admins
returns-clause-admins c =
    let most = (most-there _ _ _ c.self.invariant.0).1 in
    let here : length c.all-2.result.now ≡ length c.self.inside.desk = ap (λ (xs : List Admin). length xs) c.all-2.ensures.all in
    let greatest = c.max.ensures in
    subst (λ (g : Played). length (table g).admins + 1 ≤ c.max.result + 1) c.self.view_is (omega (arith, most, here, greatest))
