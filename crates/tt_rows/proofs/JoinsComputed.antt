-- Both sides compute.
use Rattle.std.specs.Prelude.{refl}
use Rattle.tt_frame.specs.Reading.{number_at, within_at, truth_at, fixed_at, before_zero, text_at, digest_at, optional_digest_at, raw_at}
use Rattle.tt_frame.specs.ItemForms.{items_at, marked_at}
use Rattle.tt_frame.specs.Text.{is_text, is_digest}
use Rattle.std.specs.Str.{is_utf8, chars}
use Rattle.std.specs.Fmt.{digits}
use lib.Utf8.{encode}
use Rattle.md5.specs.Md5.{block_words, rounds, compress, hash_after, digest_bytes, md5}
use Rattle.hex.specs.Hex.{encode_with}
use Rattle.tt_world.specs.Commands.{new_id, new_name}
use Rattle.tt_rows.specs.Games.{ComesTo}
use Rattle.tt_rows.specs.JoinsGames.{two_joins_one_broken, empty_name, same_name, whole_join, next_downloads, first_leaves}
use Rattle.tt_rows.specs.JoinsGames.{asked_for_password, right_password, wrong_password, full, servers_packets, wrong_times}

pub computed_0 : ComesTo two_joins_one_broken
    × ComesTo empty_name
    × ComesTo same_name
    × ComesTo whole_join
    × ComesTo next_downloads
    × ComesTo first_leaves
unfolding number_at within_at truth_at fixed_at before_zero text_at digest_at optional_digest_at raw_at items_at marked_at is_text
    is_digest is_utf8 chars encode digits block_words rounds compress hash_after digest_bytes md5 encode_with new_id new_name
computed_0 = (
  ((refl, refl, (refl, refl, tt)), refl, refl, refl),
  ((refl, refl, tt), refl, refl, refl),
  ((refl, refl, (refl, refl, tt)), refl, refl, refl),
  ((refl, refl, tt), refl, refl, refl),
  ((refl, refl, (refl, refl, tt)), refl, refl, refl),
  ((refl, refl, (refl, refl, tt)), refl, refl, refl),
)

pub computed_1 : ComesTo asked_for_password
    × ComesTo right_password
    × ComesTo wrong_password
    × ComesTo full
    × ComesTo servers_packets
    × ComesTo wrong_times
unfolding number_at within_at truth_at fixed_at before_zero text_at digest_at optional_digest_at raw_at items_at marked_at is_text
    is_digest is_utf8 chars encode digits block_words rounds compress hash_after digest_bytes md5 encode_with new_id new_name
computed_1 = (
  ((refl, refl, tt), refl, refl, refl),
  ((refl, refl, tt), refl, refl, refl),
  ((refl, refl, tt), refl, refl, refl),
  ((refl, refl, (refl, refl, (refl, refl, tt))), refl, refl, refl),
  ((refl, refl, (refl, refl, (refl, refl, tt))), refl, refl, refl),
  ((refl, refl, (refl, refl, (refl, refl, (refl, refl, tt)))), refl, refl, refl),
)
