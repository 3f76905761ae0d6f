-- Both sides compute.
use Rattle.std.specs.Prelude.{refl}
use Rattle.tt_frame.specs.Reading.{number_at, within_at, truth_at, fixed_at, before_zero, text_at, digest_at, optional_digest_at, raw_at}
use Rattle.tt_frame.specs.ItemForms.{items_at, marked_at}
use Rattle.tt_frame.specs.Text.{is_text, is_digest}
use Rattle.std.specs.Str.{is_utf8, chars}
use Rattle.std.specs.Fmt.{digits}
use lib.Utf8.{encode}
use Rattle.md5.specs.Md5.{block_words, rounds, compress, hash_after, digest_bytes, md5}
use Rattle.hex.specs.Hex.{encode_with}
use Rattle.tt_world.specs.Commands.{new_id, new_name}
use Rattle.tt_rows.specs.Games.{ComesTo}
use Rattle.tt_rows.specs.PlayingGames.{moves_and_digests, sync_each_frame, stamps_in_order, stamped_as_accepted, sixteen_may_wait}
use Rattle.tt_rows.specs.PlayingGames.{no_company_to_lock, chats_of_companies, told_before_active}

pub computed : ComesTo moves_and_digests
    × ComesTo sync_each_frame
    × ComesTo stamps_in_order
    × ComesTo stamped_as_accepted
    × ComesTo sixteen_may_wait
    × ComesTo no_company_to_lock
    × ComesTo chats_of_companies
    × ComesTo told_before_active
unfolding number_at within_at truth_at fixed_at before_zero text_at digest_at optional_digest_at raw_at items_at marked_at is_text
    is_digest is_utf8 chars encode digits block_words rounds compress hash_after digest_bytes md5 encode_with new_id new_name
computed = (
  ((refl, refl, (refl, refl, tt)), refl, refl, refl),
  ((refl, refl, tt), refl, refl, refl),
  ((refl, refl, (refl, refl, (refl, refl, tt))), refl, refl, refl),
  ((refl, refl, tt), refl, refl, refl),
  ((refl, refl, tt), refl, refl, refl),
  ((refl, refl, tt), refl, refl, refl),
  ((refl, refl, (refl, refl, tt)), refl, refl, refl),
  ((refl, refl, (refl, refl, tt)), refl, refl, refl),
)
