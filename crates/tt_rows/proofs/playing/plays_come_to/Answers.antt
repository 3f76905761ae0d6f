use Rattle.tt_rows.proofs.PlayingComputed.{computed}
use Rattle.tt_rows.proofs.playing.plays_come_to.Goals as goal

pub returns-clause-moves_and_digests : goal.returns-clause-moves_and_digests
returns-clause-moves_and_digests c = computed.0

pub returns-clause-sync_each_frame : goal.returns-clause-sync_each_frame
returns-clause-sync_each_frame c = computed.1

pub returns-clause-stamps_in_order : goal.returns-clause-stamps_in_order
returns-clause-stamps_in_order c = computed.2

pub returns-clause-stamped_as_accepted : goal.returns-clause-stamped_as_accepted
returns-clause-stamped_as_accepted c = computed.3

pub returns-clause-sixteen_may_wait : goal.returns-clause-sixteen_may_wait
returns-clause-sixteen_may_wait c = computed.4

pub returns-clause-no_company_to_lock : goal.returns-clause-no_company_to_lock
returns-clause-no_company_to_lock c = computed.5

pub returns-clause-chats_of_companies : goal.returns-clause-chats_of_companies
returns-clause-chats_of_companies c = computed.6

pub returns-clause-told_before_active : goal.returns-clause-told_before_active
returns-clause-told_before_active c = computed.7
