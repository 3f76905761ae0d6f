use Rattle.tt_in_step.proofs.Syncs.{by-tick, of-world, above-map}
use Rattle.tt_in_step.proofs.syncs_told.Goals as goal

pub returns-clause-told_by_its_tick : goal.returns-clause-told_by_its_tick
returns-clause-told_by_its_tick c o es e conn front later g w is = by-tick o es e conn front later g w is

pub returns-clause-of_its_world : goal.returns-clause-of_its_world
returns-clause-of_its_world c o es e conn front later g w is = of-world o es e conn front later g w is

pub returns-clause-above_the_map : goal.returns-clause-above_the_map
returns-clause-above_the_map c o es e conn front later g w is = above-map o es e conn front later g w is
