-- Both sides compute.
use Rattle.std.specs.Prelude.{refl}
use Rattle.tt_frame.specs.Reading.{number_at, within_at, truth_at, fixed_at, before_zero, text_at, digest_at, optional_digest_at, raw_at}
use Rattle.tt_frame.specs.ItemForms.{items_at, marked_at}
use Rattle.tt_frame.specs.Text.{is_text, is_digest}
use Rattle.std.specs.Str.{is_utf8, chars}
use Rattle.std.specs.Fmt.{digits}
use lib.Utf8.{encode}
use Rattle.md5.specs.Md5.{block_words, rounds, compress, hash_after, digest_bytes, md5}
use Rattle.hex.specs.Hex.{encode_with}
use Rattle.tt_world.specs.Commands.{new_id, new_name}
use Rattle.tt_rows.proofs.StepsComputed.{computed_0, computed_1, computed_2}
use Rattle.tt_rows.proofs.steps.first_steps_come_to.Goals as goal

pub returns-clause-welcomed_and_quiet : goal.returns-clause-welcomed_and_quiet
returns-clause-welcomed_and_quiet c = computed_0.0

pub returns-clause-told_of_the_game : goal.returns-clause-told_of_the_game
returns-clause-told_of_the_game c = computed_0.1

pub returns-clause-another_revision : goal.returns-clause-another_revision
returns-clause-another_revision c = computed_0.2

pub returns-clause-another_grf_version : goal.returns-clause-another_grf_version
returns-clause-another_grf_version c = computed_0.3

pub returns-clause-no_such_company : goal.returns-clause-no_such_company
returns-clause-no_such_company c = computed_0.4

pub returns-clause-files_unasked : goal.returns-clause-files_unasked
returns-clause-files_unasked c = computed_0.5

pub returns-clause-broken_behind_the_welcome : goal.returns-clause-broken_behind_the_welcome
returns-clause-broken_behind_the_welcome c = computed_1.0

pub returns-clause-shut_untold : goal.returns-clause-shut_untold
returns-clause-shut_untold c = computed_1.1

pub returns-clause-name_too_long_with_a_number : goal.returns-clause-name_too_long_with_a_number
returns-clause-name_too_long_with_a_number c = computed_1.2

pub returns-clause-name_with_a_number : goal.returns-clause-name_with_a_number
returns-clause-name_with_a_number c = computed_1.3

pub returns-clause-map_asked_for_twice : goal.returns-clause-map_asked_for_twice
returns-clause-map_asked_for_twice c = computed_1.4

pub returns-clause-map_loaded_before_it_came : goal.returns-clause-map_loaded_before_it_came
returns-clause-map_loaded_before_it_came c = computed_1.5

pub returns-clause-joins_twice : goal.returns-clause-joins_twice
returns-clause-joins_twice c = computed_2.0

pub returns-clause-quits_at_once : goal.returns-clause-quits_at_once
returns-clause-quits_at_once c = computed_2.1

pub returns-clause-name_judged_before_company : goal.returns-clause-name_judged_before_company
returns-clause-name_judged_before_company c = computed_2.2

pub returns-clause-stranger_ends_unheard : goal.returns-clause-stranger_ends_unheard
returns-clause-stranger_ends_unheard c = computed_2.3

pub returns-clause-chat_in_the_game : goal.returns-clause-chat_in_the_game
returns-clause-chat_in_the_game c = computed_2.4

pub returns-clause-name_with_a_number_name : goal.returns-clause-name_with_a_number_name
unfolding number_at within_at truth_at fixed_at before_zero text_at digest_at optional_digest_at raw_at items_at marked_at is_text
    is_digest is_utf8 chars encode digits block_words rounds compress hash_after digest_bytes md5 encode_with new_id new_name
returns-clause-name_with_a_number_name c = refl

pub returns-clause-map_told_whole_before : goal.returns-clause-map_told_whole_before
unfolding number_at within_at truth_at fixed_at before_zero text_at digest_at optional_digest_at raw_at items_at marked_at is_text
    is_digest is_utf8 chars encode digits block_words rounds compress hash_after digest_bytes md5 encode_with new_id new_name
returns-clause-map_told_whole_before c = refl

pub returns-clause-map_told_whole_behind : goal.returns-clause-map_told_whole_behind
unfolding number_at within_at truth_at fixed_at before_zero text_at digest_at optional_digest_at raw_at items_at marked_at is_text
    is_digest is_utf8 chars encode digits block_words rounds compress hash_after digest_bytes md5 encode_with new_id new_name
returns-clause-map_told_whole_behind c = refl

pub returns-clause-map_told_in_two_ticks_first : goal.returns-clause-map_told_in_two_ticks_first
unfolding number_at within_at truth_at fixed_at before_zero text_at digest_at optional_digest_at raw_at items_at marked_at is_text
    is_digest is_utf8 chars encode digits block_words rounds compress hash_after digest_bytes md5 encode_with new_id new_name
returns-clause-map_told_in_two_ticks_first c = refl

pub returns-clause-map_told_in_two_ticks_behind : goal.returns-clause-map_told_in_two_ticks_behind
unfolding number_at within_at truth_at fixed_at before_zero text_at digest_at optional_digest_at raw_at items_at marked_at is_text
    is_digest is_utf8 chars encode digits block_words rounds compress hash_after digest_bytes md5 encode_with new_id new_name
returns-clause-map_told_in_two_ticks_behind c = refl

pub returns-clause-map_told_in_two_ticks_early : goal.returns-clause-map_told_in_two_ticks_early
unfolding number_at within_at truth_at fixed_at before_zero text_at digest_at optional_digest_at raw_at items_at marked_at is_text
    is_digest is_utf8 chars encode digits block_words rounds compress hash_after digest_bytes md5 encode_with new_id new_name
returns-clause-map_told_in_two_ticks_early c = refl

pub returns-clause-map_told_in_two_ticks_loaded : goal.returns-clause-map_told_in_two_ticks_loaded
unfolding number_at within_at truth_at fixed_at before_zero text_at digest_at optional_digest_at raw_at items_at marked_at is_text
    is_digest is_utf8 chars encode digits block_words rounds compress hash_after digest_bytes md5 encode_with new_id new_name
returns-clause-map_told_in_two_ticks_loaded c = refl
