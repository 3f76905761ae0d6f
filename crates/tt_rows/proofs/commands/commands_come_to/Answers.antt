-- Both sides compute.
use Rattle.std.specs.Prelude.{refl}
use Rattle.tt_frame.specs.Reading.{number_at, within_at, truth_at, fixed_at, before_zero, text_at, digest_at, optional_digest_at, raw_at}
use Rattle.tt_frame.specs.ItemForms.{items_at, marked_at}
use Rattle.tt_frame.specs.Text.{is_text, is_digest}
use Rattle.std.specs.Str.{is_utf8, chars}
use Rattle.std.specs.Fmt.{digits}
use lib.Utf8.{encode}
use Rattle.md5.specs.Md5.{block_words, rounds, compress, hash_after, digest_bytes, md5}
use Rattle.hex.specs.Hex.{encode_with}
use Rattle.tt_world.specs.Commands.{new_id, new_name}
use Rattle.tt_rows.proofs.CommandsComputed.{computed_0, computed_1}
use Rattle.tt_rows.proofs.commands.commands_come_to.Goals as goal

pub returns-clause-seventeen_commands : goal.returns-clause-seventeen_commands
returns-clause-seventeen_commands c = computed_0.0

pub returns-clause-company_and_loan : goal.returns-clause-company_and_loan
returns-clause-company_and_loan c = computed_0.1

pub returns-clause-other_company : goal.returns-clause-other_company
returns-clause-other_company c = computed_0.2

pub returns-clause-sixteen_wait : goal.returns-clause-sixteen_wait
returns-clause-sixteen_wait c = computed_0.3

pub returns-clause-two_founders : goal.returns-clause-two_founders
returns-clause-two_founders c = computed_0.4

pub returns-clause-gift_and_sign : goal.returns-clause-gift_and_sign
returns-clause-gift_and_sign c = computed_0.5

pub returns-clause-three_stamped_in_two_ticks : goal.returns-clause-three_stamped_in_two_ticks
returns-clause-three_stamped_in_two_ticks c = computed_1.0

pub returns-clause-ahead_of_time : goal.returns-clause-ahead_of_time
returns-clause-ahead_of_time c = computed_1.1

pub returns-clause-sync_told : goal.returns-clause-sync_told
returns-clause-sync_told c = computed_1.2

pub returns-clause-own_codes : goal.returns-clause-own_codes
returns-clause-own_codes c = computed_1.3

pub returns-clause-a_day : goal.returns-clause-a_day
returns-clause-a_day c = computed_1.4

pub returns-clause-seventeen_commands_world : goal.returns-clause-seventeen_commands_world
unfolding number_at within_at truth_at fixed_at before_zero text_at digest_at optional_digest_at raw_at items_at marked_at is_text
    is_digest is_utf8 chars encode digits block_words rounds compress hash_after digest_bytes md5 encode_with new_id new_name
returns-clause-seventeen_commands_world c = refl

pub returns-clause-company_and_loan_world : goal.returns-clause-company_and_loan_world
unfolding number_at within_at truth_at fixed_at before_zero text_at digest_at optional_digest_at raw_at items_at marked_at is_text
    is_digest is_utf8 chars encode digits block_words rounds compress hash_after digest_bytes md5 encode_with new_id new_name
returns-clause-company_and_loan_world c = refl

pub returns-clause-other_company_world : goal.returns-clause-other_company_world
unfolding number_at within_at truth_at fixed_at before_zero text_at digest_at optional_digest_at raw_at items_at marked_at is_text
    is_digest is_utf8 chars encode digits block_words rounds compress hash_after digest_bytes md5 encode_with new_id new_name
returns-clause-other_company_world c = refl

pub returns-clause-sixteen_wait_world : goal.returns-clause-sixteen_wait_world
unfolding number_at within_at truth_at fixed_at before_zero text_at digest_at optional_digest_at raw_at items_at marked_at is_text
    is_digest is_utf8 chars encode digits block_words rounds compress hash_after digest_bytes md5 encode_with new_id new_name
returns-clause-sixteen_wait_world c = refl

pub returns-clause-two_founders_world : goal.returns-clause-two_founders_world
unfolding number_at within_at truth_at fixed_at before_zero text_at digest_at optional_digest_at raw_at items_at marked_at is_text
    is_digest is_utf8 chars encode digits block_words rounds compress hash_after digest_bytes md5 encode_with new_id new_name
returns-clause-two_founders_world c = refl

pub returns-clause-gift_and_sign_world : goal.returns-clause-gift_and_sign_world
unfolding number_at within_at truth_at fixed_at before_zero text_at digest_at optional_digest_at raw_at items_at marked_at is_text
    is_digest is_utf8 chars encode digits block_words rounds compress hash_after digest_bytes md5 encode_with new_id new_name
returns-clause-gift_and_sign_world c = refl

pub returns-clause-three_stamped_in_two_ticks_world : goal.returns-clause-three_stamped_in_two_ticks_world
unfolding number_at within_at truth_at fixed_at before_zero text_at digest_at optional_digest_at raw_at items_at marked_at is_text
    is_digest is_utf8 chars encode digits block_words rounds compress hash_after digest_bytes md5 encode_with new_id new_name
returns-clause-three_stamped_in_two_ticks_world c = refl

pub returns-clause-ahead_of_time_world : goal.returns-clause-ahead_of_time_world
unfolding number_at within_at truth_at fixed_at before_zero text_at digest_at optional_digest_at raw_at items_at marked_at is_text
    is_digest is_utf8 chars encode digits block_words rounds compress hash_after digest_bytes md5 encode_with new_id new_name
returns-clause-ahead_of_time_world c = refl

pub returns-clause-sync_told_world : goal.returns-clause-sync_told_world
unfolding number_at within_at truth_at fixed_at before_zero text_at digest_at optional_digest_at raw_at items_at marked_at is_text
    is_digest is_utf8 chars encode digits block_words rounds compress hash_after digest_bytes md5 encode_with new_id new_name
returns-clause-sync_told_world c = refl

pub returns-clause-own_codes_world : goal.returns-clause-own_codes_world
unfolding number_at within_at truth_at fixed_at before_zero text_at digest_at optional_digest_at raw_at items_at marked_at is_text
    is_digest is_utf8 chars encode digits block_words rounds compress hash_after digest_bytes md5 encode_with new_id new_name
returns-clause-own_codes_world c = refl

pub returns-clause-a_day_world : goal.returns-clause-a_day_world
unfolding number_at within_at truth_at fixed_at before_zero text_at digest_at optional_digest_at raw_at items_at marked_at is_text
    is_digest is_utf8 chars encode digits block_words rounds compress hash_after digest_bytes md5 encode_with new_id new_name
returns-clause-a_day_world c = refl
