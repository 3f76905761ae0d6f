-- Both sides compute.
use Rattle.std.specs.Prelude.{refl}
use Rattle.tt_frame.specs.Reading.{number_at, within_at, truth_at, fixed_at, before_zero, text_at, digest_at, optional_digest_at, raw_at}
use Rattle.tt_frame.specs.ItemForms.{items_at, marked_at}
use Rattle.tt_frame.specs.Text.{is_text, is_digest}
use Rattle.std.specs.Str.{is_utf8, chars}
use Rattle.std.specs.Fmt.{digits}
use lib.Utf8.{encode}
use Rattle.md5.specs.Md5.{block_words, rounds, compress, hash_after, digest_bytes, md5}
use Rattle.hex.specs.Hex.{encode_with}
use Rattle.tt_world.specs.Commands.{new_id, new_name}
use Rattle.tt_log.specs.Rows.{word_at, rest_at, number_in, number_at as line_number_at}
use Rattle.tt_rows.proofs.AllTold.{all_told}
use Rattle.tt_rows.specs.Games.{ComesTo}
use Rattle.tt_rows.specs.AdminPollsGames.{all_bits_allowed, asks_for_clients, asks_for_companies, asks_for_money, asks_for_names}
use Rattle.tt_rows.specs.AdminPollsGames.{asks_for_signs, asks_for_the_day, polls_not_allowed, updates_not_allowed}

pub computed : ComesTo updates_not_allowed
    × ComesTo all_bits_allowed
    × ComesTo polls_not_allowed
    × ComesTo asks_for_the_day
    × ComesTo asks_for_clients
    × ComesTo asks_for_companies
    × ComesTo asks_for_money
    × ComesTo asks_for_signs
    × ComesTo asks_for_names
unfolding number_at within_at truth_at fixed_at before_zero text_at digest_at optional_digest_at raw_at items_at marked_at is_text
    is_digest is_utf8 chars encode digits block_words rounds compress hash_after digest_bytes md5 encode_with new_id new_name
    word_at rest_at number_in line_number_at
computed = (
  (all_told updates_not_allowed 1 updates_not_allowed.conns refl, refl, refl, refl),
  ((refl, refl, tt), refl, refl, refl),
  (all_told polls_not_allowed 1 polls_not_allowed.conns refl, refl, refl, refl),
  ((refl, refl, (refl, refl, tt)), refl, refl, refl),
  (all_told asks_for_clients 1 asks_for_clients.conns refl, refl, refl, refl),
  ((refl, refl, (refl, refl, tt)), refl, refl, refl),
  ((refl, refl, tt), refl, refl, refl),
  ((refl, refl, tt), refl, refl, refl),
  ((refl, refl, tt), refl, refl, refl),
)
