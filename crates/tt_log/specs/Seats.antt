-- Which companies a table speaks of: those that members are in, those for which commands wait, and those with a password.
use Rattle.std.specs.Prelude.{◌≡◌, ◌⊎◌, ℕ, Bool, true, List}
use Rattle.std.specs.List.{AllByRecursion}
use Rattle.tt_world.specs.declared.command.Command.{Command}
use Rattle.tt_rules.specs.Companies.{is_living}
use Rattle.tt_rules.specs.Verdict.{spectator}
use Rattle.tt_log.specs.Member.{Member}
use Rattle.tt_log.specs.Origin.{Origin}
use Rattle.tt_log.specs.Table.{Table, living_in}

-- the company lives, where these live
abbrev pub Lives : List Bool → ℕ → Type 0
Lives live company = is_living live company ≡ true

-- it lives, or it is none
abbrev pub LivesIfAny : List Bool → ℕ → Type 0
LivesIfAny live company = (company ≡ spectator) ⊎ Lives live company

-- each member is in a company that lives, or in none
abbrev pub AreSeated : Origin → Table → Type 0
AreSeated o t = AllByRecursion (λ (m : Member). LivesIfAny (living_in o t) m.company) t.members

-- each command that waits, waits for a company that lives
abbrev pub WaitForLive : Origin → Table → Type 0
WaitForLive o t = AllByRecursion (λ (m : Member). AllByRecursion (λ (w : ℕ × Command). Lives (living_in o t) w.0) m.waiting) t.members

-- each company with a password lives
abbrev pub LockLive : Origin → Table → Type 0
LockLive o t = AllByRecursion (λ (d : ℕ × List ℕ). Lives (living_in o t) d.0) t.digests
