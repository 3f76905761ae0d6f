-- Both sides compute.
use Rattle.std.specs.Prelude.{refl}
use Rattle.tt_frame.specs.Reading.{number_at, within_at, truth_at, fixed_at, before_zero, text_at, digest_at, optional_digest_at, raw_at}
use Rattle.tt_frame.specs.ItemForms.{items_at, marked_at}
use Rattle.tt_frame.specs.Text.{is_text, is_digest}
use Rattle.std.specs.Str.{is_utf8, chars}
use Rattle.std.specs.Fmt.{digits}
use lib.Utf8.{encode}
use Rattle.md5.specs.Md5.{block_words, rounds, compress, hash_after, digest_bytes, md5}
use Rattle.hex.specs.Hex.{encode_with}
use Rattle.tt_world.specs.Commands.{new_id, new_name}
use Rattle.tt_rows.specs.Games.{ComesTo}
use Rattle.tt_rows.specs.StepsGames.{welcomed_and_quiet, told_of_the_game, another_revision, another_grf_version, no_such_company}
use Rattle.tt_rows.specs.StepsGames.{files_unasked, broken_behind_the_welcome, shut_untold, name_too_long_with_a_number, name_with_a_number}
use Rattle.tt_rows.specs.StepsGames.{map_asked_for_twice, map_loaded_before_it_came, joins_twice, quits_at_once, name_judged_before_company}
use Rattle.tt_rows.specs.StepsGames.{stranger_ends_unheard, chat_in_the_game}

pub computed_0 : ComesTo welcomed_and_quiet
    × ComesTo told_of_the_game
    × ComesTo another_revision
    × ComesTo another_grf_version
    × ComesTo no_such_company
    × ComesTo files_unasked
unfolding number_at within_at truth_at fixed_at before_zero text_at digest_at optional_digest_at raw_at items_at marked_at is_text
    is_digest is_utf8 chars encode digits block_words rounds compress hash_after digest_bytes md5 encode_with new_id new_name
computed_0 = (
  ((refl, refl, tt), refl, refl, refl),
  ((refl, refl, tt), refl, refl, refl),
  ((refl, refl, tt), refl, refl, refl),
  ((refl, refl, tt), refl, refl, refl),
  ((refl, refl, tt), refl, refl, refl),
  ((refl, refl, tt), refl, refl, refl),
)

pub computed_1 : ComesTo broken_behind_the_welcome
    × ComesTo shut_untold
    × ComesTo name_too_long_with_a_number
    × ComesTo name_with_a_number
    × ComesTo map_asked_for_twice
    × ComesTo map_loaded_before_it_came
unfolding number_at within_at truth_at fixed_at before_zero text_at digest_at optional_digest_at raw_at items_at marked_at is_text
    is_digest is_utf8 chars encode digits block_words rounds compress hash_after digest_bytes md5 encode_with new_id new_name
computed_1 = (
  ((refl, refl, tt), refl, refl, refl),
  ((refl, refl, tt), refl, refl, refl),
  ((refl, refl, (refl, refl, tt)), refl, refl, refl),
  ((refl, refl, (refl, refl, tt)), refl, refl, refl),
  ((refl, refl, tt), refl, refl, refl),
  ((refl, refl, tt), refl, refl, refl),
)

pub computed_2 : ComesTo joins_twice
    × ComesTo quits_at_once
    × ComesTo name_judged_before_company
    × ComesTo stranger_ends_unheard
    × ComesTo chat_in_the_game
unfolding number_at within_at truth_at fixed_at before_zero text_at digest_at optional_digest_at raw_at items_at marked_at is_text
    is_digest is_utf8 chars encode digits block_words rounds compress hash_after digest_bytes md5 encode_with new_id new_name
computed_2 = (
  ((refl, refl, tt), refl, refl, refl),
  ((refl, refl, tt), refl, refl, refl),
  ((refl, refl, tt), refl, refl, refl),
  ((refl, refl, (refl, refl, tt)), refl, refl, refl),
  ((refl, refl, (refl, refl, tt)), refl, refl, refl),
)
