use Rattle.tt_in_step.proofs.Ruled.{sent-is}
use Rattle.tt_in_step.proofs.WrongComputed as games
use Rattle.tt_in_step.proofs.wrong_rules_go_wrong.Goals as goal

pub returns-clause-true_rules : goal.returns-clause-true_rules
returns-clause-true_rules c = λ o events conn. sent-is o events conn

pub returns-clause-true_joiner : goal.returns-clause-true_joiner
returns-clause-true_joiner c = games.right-joiner

pub returns-clause-true_late_joiner : goal.returns-clause-true_late_joiner
returns-clause-true_late_joiner c = games.right-late

pub returns-clause-true_first : goal.returns-clause-true_first
returns-clause-true_first c = games.right-first

pub returns-clause-true_stayer : goal.returns-clause-true_stayer
returns-clause-true_stayer c = games.right-stays

pub returns-clause-joiner_misses_stamped_commands : goal.returns-clause-joiner_misses_stamped_commands
returns-clause-joiner_misses_stamped_commands c = games.misses-stamped

pub returns-clause-joiner_told_whole_journal : goal.returns-clause-joiner_told_whole_journal
returns-clause-joiner_told_whole_journal c = games.whole-journal

pub returns-clause-stamped_for_next_frame : goal.returns-clause-stamped_for_next_frame
returns-clause-stamped_for_next_frame c = games.next-frame

pub returns-clause-frame_told_before_commands : goal.returns-clause-frame_told_before_commands
returns-clause-frame_told_before_commands c = games.frame-first

pub returns-clause-word_before_the_frame : goal.returns-clause-word_before_the_frame
returns-clause-word_before_the_frame c = games.word-before

pub returns-clause-map_of_a_later_frame : goal.returns-clause-map_of_a_later_frame
returns-clause-map_of_a_later_frame c = games.later-map

pub returns-clause-stamped_commands_dropped : goal.returns-clause-stamped_commands_dropped
returns-clause-stamped_commands_dropped c = games.dropped
