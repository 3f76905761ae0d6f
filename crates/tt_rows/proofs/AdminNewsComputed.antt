-- Both sides compute.
use Rattle.std.specs.Prelude.{refl}
use Rattle.tt_frame.specs.Reading.{number_at, within_at, truth_at, fixed_at, before_zero, text_at, digest_at, optional_digest_at, raw_at}
use Rattle.tt_frame.specs.ItemForms.{items_at, marked_at}
use Rattle.tt_frame.specs.Text.{is_text, is_digest}
use Rattle.std.specs.Str.{is_utf8, chars}
use Rattle.std.specs.Fmt.{digits}
use lib.Utf8.{encode}
use Rattle.md5.specs.Md5.{block_words, rounds, compress, hash_after, digest_bytes, md5}
use Rattle.hex.specs.Hex.{encode_with}
use Rattle.tt_world.specs.Commands.{new_id, new_name}
use Rattle.tt_log.specs.Rows.{word_at, rest_at, number_in, number_at as line_number_at}
use Rattle.tt_rows.proofs.AllTold.{all_told}
use Rattle.tt_rows.specs.Games.{ComesTo}
use Rattle.tt_rows.specs.AdminNewsGames.{news_of_a_founder, news_of_a_locked_company, news_of_a_lost_founder, news_of_a_name}
use Rattle.tt_rows.specs.AdminNewsGames.{news_of_a_password, news_of_a_quit, news_of_a_welcome, news_of_an_entry, news_of_ends}
use Rattle.tt_rows.specs.AdminNewsGames.{news_of_moves, news_of_names, news_of_no_end, news_of_one_founding}

pub computed : ComesTo news_of_a_welcome
    × ComesTo news_of_an_entry
    × ComesTo news_of_a_name
    × ComesTo news_of_moves
    × ComesTo news_of_a_founder
    × ComesTo news_of_a_quit
    × ComesTo news_of_ends
    × ComesTo news_of_no_end
    × ComesTo news_of_names
    × ComesTo news_of_a_locked_company
    × ComesTo news_of_a_lost_founder
    × ComesTo news_of_a_password
    × ComesTo news_of_one_founding
unfolding number_at within_at truth_at fixed_at before_zero text_at digest_at optional_digest_at raw_at items_at marked_at is_text
    is_digest is_utf8 chars encode digits block_words rounds compress hash_after digest_bytes md5 encode_with new_id new_name
    word_at rest_at number_in line_number_at
computed = (
  (all_told news_of_a_welcome 1 news_of_a_welcome.conns refl, refl, refl, refl),
  ((refl, refl, (refl, refl, tt)), refl, refl, refl),
  ((refl, refl, (refl, refl, tt)), refl, refl, refl),
  ((refl, refl, (refl, refl, tt)), refl, refl, refl),
  ((refl, refl, (refl, refl, tt)), refl, refl, refl),
  ((refl, refl, (refl, refl, (refl, refl, tt))), refl, refl, refl),
  (all_told news_of_ends 1 news_of_ends.conns refl, refl, refl, refl),
  (all_told news_of_no_end 1 news_of_no_end.conns refl, refl, refl, refl),
  ((refl, refl, (refl, refl, tt)), refl, refl, refl),
  ((refl, refl, (refl, refl, tt)), refl, refl, refl),
  ((refl, refl, (refl, refl, tt)), refl, refl, refl),
  ((refl, refl, (refl, refl, (refl, refl, tt))), refl, refl, refl),
  ((refl, refl, tt), refl, refl, refl),
)
