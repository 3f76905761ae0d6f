-- Both sides compute.
use Rattle.std.specs.Prelude.{◌≡◌, refl}
use Rattle.tt_log.specs.Told.{sent}
use Rattle.tt_frame.specs.Reading.{number_at, within_at, truth_at, fixed_at, before_zero, text_at, digest_at, optional_digest_at, raw_at}
use Rattle.tt_frame.specs.ItemForms.{items_at, marked_at}
use Rattle.tt_frame.specs.Text.{is_text, is_digest}
use Rattle.std.specs.Str.{is_utf8, chars}
use Rattle.std.specs.Fmt.{digits}
use lib.Utf8.{encode}
use Rattle.md5.specs.Md5.{block_words, rounds, compress, hash_after, digest_bytes, md5}
use Rattle.hex.specs.Hex.{encode_with}
use Rattle.tt_world.specs.Commands.{new_id, new_name}
use Rattle.tt_log.specs.Rows.{word_at, rest_at, number_in, number_at as line_number_at}
use Rattle.tt_rows.specs.Games.{ComesTo}
use Rattle.tt_rows.specs.AsideGames.{by_its_cost, console_ends_it, told_at_both_doors, with_admins, without_admins}

pub computed : ComesTo without_admins
    × ComesTo with_admins
    × (sent with_admins.origin with_admins.events 1 ≡ sent without_admins.origin without_admins.events 1)
    × ComesTo console_ends_it
    × ComesTo told_at_both_doors
    × ComesTo by_its_cost
unfolding number_at within_at truth_at fixed_at before_zero text_at digest_at optional_digest_at raw_at items_at marked_at is_text
    is_digest is_utf8 chars encode digits block_words rounds compress hash_after digest_bytes md5 encode_with new_id new_name
    word_at rest_at number_in line_number_at
computed = (
  ((refl, refl, tt), refl, refl, refl),
  ((refl, refl, (refl, refl, (refl, refl, tt))), refl, refl, refl),
  refl,
  ((refl, refl, (refl, refl, tt)), refl, refl, refl),
  ((refl, refl, (refl, refl, (refl, refl, tt))), refl, refl, refl),
  ((refl, refl, (refl, refl, tt)), refl, refl, refl),
)
