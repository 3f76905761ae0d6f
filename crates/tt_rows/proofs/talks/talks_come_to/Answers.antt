-- Both sides compute.
use Rattle.std.specs.Prelude.{refl}
use Rattle.tt_frame.specs.Reading.{number_at, within_at, truth_at, fixed_at, before_zero, text_at, digest_at, optional_digest_at, raw_at}
use Rattle.tt_frame.specs.ItemForms.{items_at, marked_at}
use Rattle.tt_frame.specs.Text.{is_text, is_digest}
use Rattle.std.specs.Str.{is_utf8, chars}
use Rattle.std.specs.Fmt.{digits}
use lib.Utf8.{encode}
use Rattle.md5.specs.Md5.{block_words, rounds, compress, hash_after, digest_bytes, md5}
use Rattle.hex.specs.Hex.{encode_with}
use Rattle.tt_world.specs.Commands.{new_id, new_name}
use Rattle.tt_rows.proofs.TalksComputed.{computed_0, computed_1}
use Rattle.tt_rows.proofs.talks.talks_come_to.Goals as goal

pub returns-clause-chats : goal.returns-clause-chats
returns-clause-chats c = computed_0.0

pub returns-clause-renamed : goal.returns-clause-renamed
returns-clause-renamed c = computed_0.1

pub returns-clause-company_password : goal.returns-clause-company_password
returns-clause-company_password c = computed_0.2

pub returns-clause-moves : goal.returns-clause-moves
returns-clause-moves c = computed_0.3

pub returns-clause-stopped : goal.returns-clause-stopped
returns-clause-stopped c = computed_0.4

pub returns-clause-cost_reached : goal.returns-clause-cost_reached
returns-clause-cost_reached c = computed_0.5

pub returns-clause-quits_and_errors : goal.returns-clause-quits_and_errors
returns-clause-quits_and_errors c = computed_1.0

pub returns-clause-cost_met : goal.returns-clause-cost_met
returns-clause-cost_met c = computed_1.1

pub returns-clause-chats_world : goal.returns-clause-chats_world
unfolding number_at within_at truth_at fixed_at before_zero text_at digest_at optional_digest_at raw_at items_at marked_at is_text
    is_digest is_utf8 chars encode digits block_words rounds compress hash_after digest_bytes md5 encode_with new_id new_name
returns-clause-chats_world c = refl

pub returns-clause-renamed_world : goal.returns-clause-renamed_world
unfolding number_at within_at truth_at fixed_at before_zero text_at digest_at optional_digest_at raw_at items_at marked_at is_text
    is_digest is_utf8 chars encode digits block_words rounds compress hash_after digest_bytes md5 encode_with new_id new_name
returns-clause-renamed_world c = refl

pub returns-clause-company_password_world : goal.returns-clause-company_password_world
unfolding number_at within_at truth_at fixed_at before_zero text_at digest_at optional_digest_at raw_at items_at marked_at is_text
    is_digest is_utf8 chars encode digits block_words rounds compress hash_after digest_bytes md5 encode_with new_id new_name
returns-clause-company_password_world c = refl

pub returns-clause-moves_world : goal.returns-clause-moves_world
unfolding number_at within_at truth_at fixed_at before_zero text_at digest_at optional_digest_at raw_at items_at marked_at is_text
    is_digest is_utf8 chars encode digits block_words rounds compress hash_after digest_bytes md5 encode_with new_id new_name
returns-clause-moves_world c = refl

pub returns-clause-stopped_world : goal.returns-clause-stopped_world
unfolding number_at within_at truth_at fixed_at before_zero text_at digest_at optional_digest_at raw_at items_at marked_at is_text
    is_digest is_utf8 chars encode digits block_words rounds compress hash_after digest_bytes md5 encode_with new_id new_name
returns-clause-stopped_world c = refl

pub returns-clause-stopped_ends : goal.returns-clause-stopped_ends
unfolding number_at within_at truth_at fixed_at before_zero text_at digest_at optional_digest_at raw_at items_at marked_at is_text
    is_digest is_utf8 chars encode digits block_words rounds compress hash_after digest_bytes md5 encode_with new_id new_name
returns-clause-stopped_ends c = refl

pub returns-clause-cost_reached_world : goal.returns-clause-cost_reached_world
unfolding number_at within_at truth_at fixed_at before_zero text_at digest_at optional_digest_at raw_at items_at marked_at is_text
    is_digest is_utf8 chars encode digits block_words rounds compress hash_after digest_bytes md5 encode_with new_id new_name
returns-clause-cost_reached_world c = refl

pub returns-clause-quits_and_errors_world : goal.returns-clause-quits_and_errors_world
unfolding number_at within_at truth_at fixed_at before_zero text_at digest_at optional_digest_at raw_at items_at marked_at is_text
    is_digest is_utf8 chars encode digits block_words rounds compress hash_after digest_bytes md5 encode_with new_id new_name
returns-clause-quits_and_errors_world c = refl

pub returns-clause-cost_met_over : goal.returns-clause-cost_met_over
unfolding number_at within_at truth_at fixed_at before_zero text_at digest_at optional_digest_at raw_at items_at marked_at is_text
    is_digest is_utf8 chars encode digits block_words rounds compress hash_after digest_bytes md5 encode_with new_id new_name
returns-clause-cost_met_over c = refl
