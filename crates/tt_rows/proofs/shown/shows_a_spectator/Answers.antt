-- Both sides compute.
use Rattle.std.specs.Prelude.{refl}
use Rattle.tt_frame.specs.Reading.{number_at, within_at, truth_at, fixed_at, before_zero, text_at, digest_at, optional_digest_at, raw_at}
use Rattle.tt_frame.specs.ItemForms.{items_at, marked_at}
use Rattle.tt_frame.specs.Text.{is_text, is_digest}
use Rattle.tt_frame.specs.StreamReading.{reading_within}
use Rattle.std.specs.Str.{is_utf8, chars}
use Rattle.std.specs.Fmt.{digits}
use lib.Utf8.{encode}
use Rattle.md5.specs.Md5.{block_words, rounds, compress, hash_after, digest_bytes, md5}
use Rattle.hex.specs.Hex.{encode_with}
use Rattle.tt_world.specs.Commands.{new_id, new_name}
use Rattle.tt_map.specs.Reading.{bytes_here, byte_here, number_here, signed_here, name_here, company_here, places_here, sign_here}
use Rattle.tt_map.specs.Reading.{signs_here, game_in, words_in, companies_in, signs_in, nothing_in, body_here, part_here, map_in}
use Rattle.tt_rows.proofs.shown.shows_a_spectator.Goals as goal

pub returns-clause-phase : goal.returns-clause-phase
unfolding number_at within_at truth_at fixed_at before_zero text_at digest_at optional_digest_at raw_at items_at marked_at is_text
    is_digest is_utf8 chars encode digits block_words rounds compress hash_after digest_bytes md5 encode_with new_id new_name
    reading_within bytes_here byte_here number_here signed_here name_here company_here places_here sign_here signs_here game_in words_in
    companies_in signs_in nothing_in body_here part_here map_in
returns-clause-phase c = refl

pub returns-clause-client : goal.returns-clause-client
unfolding number_at within_at truth_at fixed_at before_zero text_at digest_at optional_digest_at raw_at items_at marked_at is_text
    is_digest is_utf8 chars encode digits block_words rounds compress hash_after digest_bytes md5 encode_with new_id new_name
    reading_within bytes_here byte_here number_here signed_here name_here company_here places_here sign_here signs_here game_in words_in
    companies_in signs_in nothing_in body_here part_here map_in
returns-clause-client c = refl

pub returns-clause-company : goal.returns-clause-company
unfolding number_at within_at truth_at fixed_at before_zero text_at digest_at optional_digest_at raw_at items_at marked_at is_text
    is_digest is_utf8 chars encode digits block_words rounds compress hash_after digest_bytes md5 encode_with new_id new_name
    reading_within bytes_here byte_here number_here signed_here name_here company_here places_here sign_here signs_here game_in words_in
    companies_in signs_in nothing_in body_here part_here map_in
returns-clause-company c = refl

pub returns-clause-permitted : goal.returns-clause-permitted
unfolding number_at within_at truth_at fixed_at before_zero text_at digest_at optional_digest_at raw_at items_at marked_at is_text
    is_digest is_utf8 chars encode digits block_words rounds compress hash_after digest_bytes md5 encode_with new_id new_name
    reading_within bytes_here byte_here number_here signed_here name_here company_here places_here sign_here signs_here game_in words_in
    companies_in signs_in nothing_in body_here part_here map_in
returns-clause-permitted c = refl
