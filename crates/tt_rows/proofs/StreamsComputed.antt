-- Both sides compute.
use Rattle.std.specs.Prelude.{◌≡◌, [], ◌∷◌, refl}
use Rattle.tt_frame.specs.Reading.{number_at, within_at, truth_at, fixed_at, before_zero, text_at, digest_at, optional_digest_at, raw_at}
use Rattle.tt_frame.specs.ItemForms.{items_at, marked_at}
use Rattle.tt_frame.specs.Text.{is_text, is_digest}
use Rattle.tt_frame.specs.StreamReading.{reading_within}
use Rattle.std.specs.Str.{is_utf8, chars}
use Rattle.std.specs.Fmt.{digits}
use lib.Utf8.{encode}
use Rattle.md5.specs.Md5.{block_words, rounds, compress, hash_after, digest_bytes, md5}
use Rattle.hex.specs.Hex.{encode_with}
use Rattle.tt_world.specs.Commands.{new_id, new_name}
use Rattle.tt_map.specs.Reading.{bytes_here, byte_here, number_here, signed_here, name_here, company_here, places_here, sign_here}
use Rattle.tt_map.specs.Reading.{signs_here, game_in, words_in, companies_in, signs_in, nothing_in, body_here, part_here, map_in}
use Rattle.tt_rows.specs.ShownGames.{seen_in}
use Rattle.tt_rows.specs.StreamsGames.{Shows, game_password_without_id, company_password_without_id, no_files, a_file, greatest_map}
use Rattle.tt_rows.specs.StreamsGames.{too_great_a_map, data_past_the_size, done_before_the_size, no_map, full_in_the_game}
use Rattle.tt_rows.specs.StreamsGames.{wait_in_the_game, unknown_code, frame_above_the_permitted, command_at_the_permitted_frame}
use Rattle.tt_rows.specs.StreamsGames.{command_below_the_last, command_at_the_last, anothers_name, syncs_in, two_words}

pub computed : Shows game_password_without_id
    × Shows company_password_without_id
    × Shows no_files
    × Shows a_file
    × Shows greatest_map
    × Shows too_great_a_map
    × Shows data_past_the_size
    × Shows done_before_the_size
    × Shows no_map
    × Shows full_in_the_game
    × Shows wait_in_the_game
    × Shows unknown_code
    × Shows frame_above_the_permitted
    × Shows command_at_the_permitted_frame
    × Shows command_below_the_last
    × Shows command_at_the_last
    × Shows anothers_name
    × ((seen_in anothers_name.bytes).company ≡ 255)
    × (syncs_in (seen_in two_words).seen ≡ record { frame = 1; word = 7; permitted = 2 } ∷ record { frame = 2; word = 9; permitted = 2 } ∷
    [])
unfolding number_at within_at truth_at fixed_at before_zero text_at digest_at optional_digest_at raw_at items_at marked_at is_text
    is_digest is_utf8 chars encode digits block_words rounds compress hash_after digest_bytes md5 encode_with new_id new_name
    reading_within bytes_here byte_here number_here signed_here name_here company_here places_here sign_here signs_here game_in words_in
    companies_in signs_in nothing_in body_here part_here map_in
computed = (refl, refl, refl, refl, refl, refl, refl, refl, refl, refl, refl, refl, refl, refl, refl, refl, refl, refl, refl)
