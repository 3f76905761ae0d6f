use Rattle.std.proofs.Common.{refl}
use Rattle.tt_lockstep.proofs.games.wrong_servers.Goals as goal

pub returns-clause-true_server : goal.returns-clause-true_server
returns-clause-true_server c = refl

pub returns-clause-misses_stamped : goal.returns-clause-misses_stamped
returns-clause-misses_stamped c = refl

pub returns-clause-tells_whole_journal : goal.returns-clause-tells_whole_journal
returns-clause-tells_whole_journal c = refl

pub returns-clause-tells_above_own_frame : goal.returns-clause-tells_above_own_frame
returns-clause-tells_above_own_frame c = refl

pub returns-clause-stamps_next_frame : goal.returns-clause-stamps_next_frame
returns-clause-stamps_next_frame c = refl

pub returns-clause-stamps_permitted_frame : goal.returns-clause-stamps_permitted_frame
returns-clause-stamps_permitted_frame c = refl

pub returns-clause-tells_word_before : goal.returns-clause-tells_word_before
returns-clause-tells_word_before c = refl

pub returns-clause-tells_later_map : goal.returns-clause-tells_later_map
returns-clause-tells_later_map c = refl

pub returns-clause-true_tick : goal.returns-clause-true_tick
returns-clause-true_tick c = refl

pub returns-clause-frame_told_first : goal.returns-clause-frame_told_first
returns-clause-frame_told_first c = refl

pub returns-clause-keeps_test_runs : goal.returns-clause-keeps_test_runs
returns-clause-keeps_test_runs c = refl

pub returns-clause-drops_stamped : goal.returns-clause-drops_stamped
returns-clause-drops_stamped c = refl
