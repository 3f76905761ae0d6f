-- Both sides compute.
use Rattle.std.specs.Prelude.{refl}
use Rattle.tt_frame.specs.Reading.{number_at, within_at, truth_at, fixed_at, before_zero, text_at, digest_at, optional_digest_at, raw_at}
use Rattle.tt_frame.specs.ItemForms.{items_at, marked_at}
use Rattle.tt_frame.specs.Text.{is_text, is_digest}
use Rattle.std.specs.Str.{is_utf8, chars}
use Rattle.std.specs.Fmt.{digits}
use lib.Utf8.{encode}
use Rattle.md5.specs.Md5.{block_words, rounds, compress, hash_after, digest_bytes, md5}
use Rattle.hex.specs.Hex.{encode_with}
use Rattle.tt_world.specs.Commands.{new_id, new_name}
use Rattle.tt_rows.proofs.LimitsComputed.{computed_0, computed_1}
use Rattle.tt_rows.proofs.limits.first_limits_come_to.Goals as goal

pub returns-clause-quiet_for_100_ticks : goal.returns-clause-quiet_for_100_ticks
returns-clause-quiet_for_100_ticks c = computed_0.0

pub returns-clause-late_behind_101_ticks : goal.returns-clause-late_behind_101_ticks
returns-clause-late_behind_101_ticks c = computed_0.1

pub returns-clause-limits_of_time : goal.returns-clause-limits_of_time
returns-clause-limits_of_time c = computed_0.2

pub returns-clause-limits_of_map : goal.returns-clause-limits_of_map
returns-clause-limits_of_map c = computed_0.3

pub returns-clause-lags : goal.returns-clause-lags
returns-clause-lags c = computed_0.4

pub returns-clause-acknowledged_in_time : goal.returns-clause-acknowledged_in_time
returns-clause-acknowledged_in_time c = computed_0.5

pub returns-clause-bad_ack : goal.returns-clause-bad_ack
returns-clause-bad_ack c = computed_1.0

pub returns-clause-late_acknowledgements : goal.returns-clause-late_acknowledgements
returns-clause-late_acknowledgements c = computed_1.1

pub returns-clause-quiet_for_100_ticks_world : goal.returns-clause-quiet_for_100_ticks_world
unfolding number_at within_at truth_at fixed_at before_zero text_at digest_at optional_digest_at raw_at items_at marked_at is_text
    is_digest is_utf8 chars encode digits block_words rounds compress hash_after digest_bytes md5 encode_with new_id new_name
returns-clause-quiet_for_100_ticks_world c = refl

pub returns-clause-late_behind_101_ticks_world : goal.returns-clause-late_behind_101_ticks_world
unfolding number_at within_at truth_at fixed_at before_zero text_at digest_at optional_digest_at raw_at items_at marked_at is_text
    is_digest is_utf8 chars encode digits block_words rounds compress hash_after digest_bytes md5 encode_with new_id new_name
returns-clause-late_behind_101_ticks_world c = refl

pub returns-clause-limits_of_time_world : goal.returns-clause-limits_of_time_world
unfolding number_at within_at truth_at fixed_at before_zero text_at digest_at optional_digest_at raw_at items_at marked_at is_text
    is_digest is_utf8 chars encode digits block_words rounds compress hash_after digest_bytes md5 encode_with new_id new_name
returns-clause-limits_of_time_world c = refl

pub returns-clause-limits_of_map_world : goal.returns-clause-limits_of_map_world
unfolding number_at within_at truth_at fixed_at before_zero text_at digest_at optional_digest_at raw_at items_at marked_at is_text
    is_digest is_utf8 chars encode digits block_words rounds compress hash_after digest_bytes md5 encode_with new_id new_name
returns-clause-limits_of_map_world c = refl

pub returns-clause-lags_world : goal.returns-clause-lags_world
unfolding number_at within_at truth_at fixed_at before_zero text_at digest_at optional_digest_at raw_at items_at marked_at is_text
    is_digest is_utf8 chars encode digits block_words rounds compress hash_after digest_bytes md5 encode_with new_id new_name
returns-clause-lags_world c = refl

pub returns-clause-acknowledged_in_time_world : goal.returns-clause-acknowledged_in_time_world
unfolding number_at within_at truth_at fixed_at before_zero text_at digest_at optional_digest_at raw_at items_at marked_at is_text
    is_digest is_utf8 chars encode digits block_words rounds compress hash_after digest_bytes md5 encode_with new_id new_name
returns-clause-acknowledged_in_time_world c = refl

pub returns-clause-bad_ack_world : goal.returns-clause-bad_ack_world
unfolding number_at within_at truth_at fixed_at before_zero text_at digest_at optional_digest_at raw_at items_at marked_at is_text
    is_digest is_utf8 chars encode digits block_words rounds compress hash_after digest_bytes md5 encode_with new_id new_name
returns-clause-bad_ack_world c = refl

pub returns-clause-late_acknowledgements_world : goal.returns-clause-late_acknowledgements_world
unfolding number_at within_at truth_at fixed_at before_zero text_at digest_at optional_digest_at raw_at items_at marked_at is_text
    is_digest is_utf8 chars encode digits block_words rounds compress hash_after digest_bytes md5 encode_with new_id new_name
returns-clause-late_acknowledgements_world c = refl
