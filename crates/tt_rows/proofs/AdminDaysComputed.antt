-- Both sides compute.
use Rattle.std.specs.Prelude.{refl}
use Rattle.tt_frame.specs.Reading.{number_at, within_at, truth_at, fixed_at, before_zero, text_at, digest_at, optional_digest_at, raw_at}
use Rattle.tt_frame.specs.ItemForms.{items_at, marked_at}
use Rattle.tt_frame.specs.Text.{is_text, is_digest}
use Rattle.std.specs.Str.{is_utf8, chars}
use Rattle.std.specs.Fmt.{digits}
use lib.Utf8.{encode}
use Rattle.md5.specs.Md5.{block_words, rounds, compress, hash_after, digest_bytes, md5}
use Rattle.hex.specs.Hex.{encode_with}
use Rattle.tt_world.specs.Commands.{new_id, new_name}
use Rattle.tt_log.specs.Rows.{word_at, rest_at, number_in, number_at as line_number_at}
use Rattle.tt_rows.proofs.AllTold.{all_told}
use Rattle.tt_rows.specs.Games.{ComesTo}
use Rattle.tt_rows.specs.AdminDaysGames.{a_tick_in_order, each_day, each_month, each_quarter, each_week, each_year}
use Rattle.tt_rows.specs.AdminDaysGames.{gone_before_its_day, only_asked, paused_days, told_once, types_in_order}

pub computed : ComesTo each_day
    × ComesTo each_week
    × ComesTo each_month
    × ComesTo each_quarter
    × ComesTo each_year
    × ComesTo told_once
    × ComesTo types_in_order
    × ComesTo only_asked
    × ComesTo paused_days
    × ComesTo a_tick_in_order
    × ComesTo gone_before_its_day
unfolding number_at within_at truth_at fixed_at before_zero text_at digest_at optional_digest_at raw_at items_at marked_at is_text
    is_digest is_utf8 chars encode digits block_words rounds compress hash_after digest_bytes md5 encode_with new_id new_name
    word_at rest_at number_in line_number_at
computed = (
  ((refl, refl, tt), refl, refl, refl),
  ((refl, refl, tt), refl, refl, refl),
  (all_told each_month 1 each_month.conns refl, refl, refl, refl),
  (all_told each_quarter 1 each_quarter.conns refl, refl, refl, refl),
  (all_told each_year 1 each_year.conns refl, refl, refl, refl),
  ((refl, refl, tt), refl, refl, refl),
  ((refl, refl, (refl, refl, (refl, refl, tt))), refl, refl, refl),
  ((refl, refl, (refl, refl, tt)), refl, refl, refl),
  ((refl, refl, tt), refl, refl, refl),
  ((refl, refl, (refl, refl, (refl, refl, tt))), refl, refl, refl),
  ((refl, refl, (refl, refl, tt)), refl, refl, refl),
)
