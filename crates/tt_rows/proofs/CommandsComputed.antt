-- Both sides compute.
use Rattle.std.specs.Prelude.{refl}
use Rattle.tt_frame.specs.Reading.{number_at, within_at, truth_at, fixed_at, before_zero, text_at, digest_at, optional_digest_at, raw_at}
use Rattle.tt_frame.specs.ItemForms.{items_at, marked_at}
use Rattle.tt_frame.specs.Text.{is_text, is_digest}
use Rattle.std.specs.Str.{is_utf8, chars}
use Rattle.std.specs.Fmt.{digits}
use lib.Utf8.{encode}
use Rattle.md5.specs.Md5.{block_words, rounds, compress, hash_after, digest_bytes, md5}
use Rattle.hex.specs.Hex.{encode_with}
use Rattle.tt_world.specs.Commands.{new_id, new_name}
use Rattle.tt_rows.specs.Games.{ComesTo}
use Rattle.tt_rows.specs.CommandsGames.{seventeen_commands, company_and_loan, other_company, sixteen_wait, two_founders, gift_and_sign}
use Rattle.tt_rows.specs.CommandsGames.{three_stamped_in_two_ticks, ahead_of_time, sync_told, own_codes, a_day}

pub computed_0 : ComesTo seventeen_commands
    × ComesTo company_and_loan
    × ComesTo other_company
    × ComesTo sixteen_wait
    × ComesTo two_founders
    × ComesTo gift_and_sign
unfolding number_at within_at truth_at fixed_at before_zero text_at digest_at optional_digest_at raw_at items_at marked_at is_text
    is_digest is_utf8 chars encode digits block_words rounds compress hash_after digest_bytes md5 encode_with new_id new_name
computed_0 = (
  ((refl, refl, tt), refl, refl, refl),
  ((refl, refl, tt), refl, refl, refl),
  ((refl, refl, tt), refl, refl, refl),
  ((refl, refl, tt), refl, refl, refl),
  ((refl, refl, (refl, refl, tt)), refl, refl, refl),
  ((refl, refl, (refl, refl, tt)), refl, refl, refl),
)

pub computed_1 : ComesTo three_stamped_in_two_ticks
    × ComesTo ahead_of_time
    × ComesTo sync_told
    × ComesTo own_codes
    × ComesTo a_day
unfolding number_at within_at truth_at fixed_at before_zero text_at digest_at optional_digest_at raw_at items_at marked_at is_text
    is_digest is_utf8 chars encode digits block_words rounds compress hash_after digest_bytes md5 encode_with new_id new_name
computed_1 = (
  ((refl, refl, (refl, refl, tt)), refl, refl, refl),
  ((refl, refl, (refl, refl, tt)), refl, refl, refl),
  ((refl, refl, tt), refl, refl, refl),
  ((refl, refl, (refl, refl, (refl, refl, tt))), refl, refl, refl),
  ((refl, refl, tt), refl, refl, refl),
)
