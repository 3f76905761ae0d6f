use Rattle.tt_rows.proofs.AdminJoinsComputed.{computed}
use Rattle.tt_rows.proofs.admin_joins.admin_joins_come_to.Goals as goal

pub returns-clause-greeted_and_answered : goal.returns-clause-greeted_and_answered
returns-clause-greeted_and_answered c = computed.0

pub returns-clause-joins_twice : goal.returns-clause-joins_twice
returns-clause-joins_twice c = computed.1

pub returns-clause-names_wanted : goal.returns-clause-names_wanted
returns-clause-names_wanted c = computed.2

pub returns-clause-no_password_set : goal.returns-clause-no_password_set
returns-clause-no_password_set c = computed.3

pub returns-clause-another_password : goal.returns-clause-another_password
returns-clause-another_password c = computed.4

pub returns-clause-before_joining : goal.returns-clause-before_joining
returns-clause-before_joining c = computed.5

pub returns-clause-leaves : goal.returns-clause-leaves
returns-clause-leaves c = computed.6

pub returns-clause-packets_of_servers : goal.returns-clause-packets_of_servers
returns-clause-packets_of_servers c = computed.7

pub returns-clause-spells_nothing : goal.returns-clause-spells_nothing
returns-clause-spells_nothing c = computed.8

pub returns-clause-streams_break : goal.returns-clause-streams_break
returns-clause-streams_break c = computed.9

pub returns-clause-sixteen_aside : goal.returns-clause-sixteen_aside
returns-clause-sixteen_aside c = computed.10

pub returns-clause-slow_to_join : goal.returns-clause-slow_to_join
returns-clause-slow_to_join c = computed.11

pub returns-clause-just_in_time : goal.returns-clause-just_in_time
returns-clause-just_in_time c = computed.12

pub returns-clause-greeted_elsewhere : goal.returns-clause-greeted_elsewhere
returns-clause-greeted_elsewhere c = computed.13

pub returns-clause-doors_apart : goal.returns-clause-doors_apart
returns-clause-doors_apart c = computed.14
