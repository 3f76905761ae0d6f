-- Both sides compute.
use Rattle.std.specs.Prelude.{refl}
use Rattle.tt_frame.specs.Reading.{number_at, within_at, truth_at, fixed_at, before_zero, text_at, digest_at, optional_digest_at, raw_at}
use Rattle.tt_frame.specs.ItemForms.{items_at, marked_at}
use Rattle.tt_frame.specs.Text.{is_text, is_digest}
use Rattle.std.specs.Str.{is_utf8, chars}
use Rattle.std.specs.Fmt.{digits}
use lib.Utf8.{encode}
use Rattle.md5.specs.Md5.{block_words, rounds, compress, hash_after, digest_bytes, md5}
use Rattle.hex.specs.Hex.{encode_with}
use Rattle.tt_world.specs.Commands.{new_id, new_name}
use Rattle.tt_rows.proofs.JoinsComputed.{computed_0, computed_1}
use Rattle.tt_rows.proofs.joins.joins_come_to.Goals as goal

pub returns-clause-two_joins_one_broken : goal.returns-clause-two_joins_one_broken
returns-clause-two_joins_one_broken c = computed_0.0

pub returns-clause-empty_name : goal.returns-clause-empty_name
returns-clause-empty_name c = computed_0.1

pub returns-clause-same_name : goal.returns-clause-same_name
returns-clause-same_name c = computed_0.2

pub returns-clause-whole_join : goal.returns-clause-whole_join
returns-clause-whole_join c = computed_0.3

pub returns-clause-next_downloads : goal.returns-clause-next_downloads
returns-clause-next_downloads c = computed_0.4

pub returns-clause-first_leaves : goal.returns-clause-first_leaves
returns-clause-first_leaves c = computed_0.5

pub returns-clause-asked_for_password : goal.returns-clause-asked_for_password
returns-clause-asked_for_password c = computed_1.0

pub returns-clause-right_password : goal.returns-clause-right_password
returns-clause-right_password c = computed_1.1

pub returns-clause-wrong_password : goal.returns-clause-wrong_password
returns-clause-wrong_password c = computed_1.2

pub returns-clause-full : goal.returns-clause-full
returns-clause-full c = computed_1.3

pub returns-clause-servers_packets : goal.returns-clause-servers_packets
returns-clause-servers_packets c = computed_1.4

pub returns-clause-wrong_times : goal.returns-clause-wrong_times
returns-clause-wrong_times c = computed_1.5

pub returns-clause-two_joins_one_broken_world : goal.returns-clause-two_joins_one_broken_world
unfolding number_at within_at truth_at fixed_at before_zero text_at digest_at optional_digest_at raw_at items_at marked_at is_text
    is_digest is_utf8 chars encode digits block_words rounds compress hash_after digest_bytes md5 encode_with new_id new_name
returns-clause-two_joins_one_broken_world c = refl

pub returns-clause-empty_name_world : goal.returns-clause-empty_name_world
unfolding number_at within_at truth_at fixed_at before_zero text_at digest_at optional_digest_at raw_at items_at marked_at is_text
    is_digest is_utf8 chars encode digits block_words rounds compress hash_after digest_bytes md5 encode_with new_id new_name
returns-clause-empty_name_world c = refl

pub returns-clause-same_name_name_2 : goal.returns-clause-same_name_name_2
unfolding number_at within_at truth_at fixed_at before_zero text_at digest_at optional_digest_at raw_at items_at marked_at is_text
    is_digest is_utf8 chars encode digits block_words rounds compress hash_after digest_bytes md5 encode_with new_id new_name
returns-clause-same_name_name_2 c = refl

pub returns-clause-same_name_world : goal.returns-clause-same_name_world
unfolding number_at within_at truth_at fixed_at before_zero text_at digest_at optional_digest_at raw_at items_at marked_at is_text
    is_digest is_utf8 chars encode digits block_words rounds compress hash_after digest_bytes md5 encode_with new_id new_name
returns-clause-same_name_world c = refl

pub returns-clause-whole_join_world : goal.returns-clause-whole_join_world
unfolding number_at within_at truth_at fixed_at before_zero text_at digest_at optional_digest_at raw_at items_at marked_at is_text
    is_digest is_utf8 chars encode digits block_words rounds compress hash_after digest_bytes md5 encode_with new_id new_name
returns-clause-whole_join_world c = refl

pub returns-clause-next_downloads_world : goal.returns-clause-next_downloads_world
unfolding number_at within_at truth_at fixed_at before_zero text_at digest_at optional_digest_at raw_at items_at marked_at is_text
    is_digest is_utf8 chars encode digits block_words rounds compress hash_after digest_bytes md5 encode_with new_id new_name
returns-clause-next_downloads_world c = refl

pub returns-clause-first_leaves_world : goal.returns-clause-first_leaves_world
unfolding number_at within_at truth_at fixed_at before_zero text_at digest_at optional_digest_at raw_at items_at marked_at is_text
    is_digest is_utf8 chars encode digits block_words rounds compress hash_after digest_bytes md5 encode_with new_id new_name
returns-clause-first_leaves_world c = refl

pub returns-clause-asked_for_password_world : goal.returns-clause-asked_for_password_world
unfolding number_at within_at truth_at fixed_at before_zero text_at digest_at optional_digest_at raw_at items_at marked_at is_text
    is_digest is_utf8 chars encode digits block_words rounds compress hash_after digest_bytes md5 encode_with new_id new_name
returns-clause-asked_for_password_world c = refl

pub returns-clause-right_password_world : goal.returns-clause-right_password_world
unfolding number_at within_at truth_at fixed_at before_zero text_at digest_at optional_digest_at raw_at items_at marked_at is_text
    is_digest is_utf8 chars encode digits block_words rounds compress hash_after digest_bytes md5 encode_with new_id new_name
returns-clause-right_password_world c = refl

pub returns-clause-wrong_password_world : goal.returns-clause-wrong_password_world
unfolding number_at within_at truth_at fixed_at before_zero text_at digest_at optional_digest_at raw_at items_at marked_at is_text
    is_digest is_utf8 chars encode digits block_words rounds compress hash_after digest_bytes md5 encode_with new_id new_name
returns-clause-wrong_password_world c = refl

pub returns-clause-full_world : goal.returns-clause-full_world
unfolding number_at within_at truth_at fixed_at before_zero text_at digest_at optional_digest_at raw_at items_at marked_at is_text
    is_digest is_utf8 chars encode digits block_words rounds compress hash_after digest_bytes md5 encode_with new_id new_name
returns-clause-full_world c = refl

pub returns-clause-servers_packets_world : goal.returns-clause-servers_packets_world
unfolding number_at within_at truth_at fixed_at before_zero text_at digest_at optional_digest_at raw_at items_at marked_at is_text
    is_digest is_utf8 chars encode digits block_words rounds compress hash_after digest_bytes md5 encode_with new_id new_name
returns-clause-servers_packets_world c = refl

pub returns-clause-wrong_times_world : goal.returns-clause-wrong_times_world
unfolding number_at within_at truth_at fixed_at before_zero text_at digest_at optional_digest_at raw_at items_at marked_at is_text
    is_digest is_utf8 chars encode digits block_words rounds compress hash_after digest_bytes md5 encode_with new_id new_name
returns-clause-wrong_times_world c = refl
