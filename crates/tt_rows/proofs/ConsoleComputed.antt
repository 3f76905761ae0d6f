-- Both sides compute.
use Rattle.std.specs.Prelude.{◌≡◌, [], true, false, refl}
use Rattle.tt_frame.specs.Reading.{number_at, within_at, truth_at, fixed_at, before_zero, text_at, digest_at, optional_digest_at, raw_at}
use Rattle.tt_frame.specs.ItemForms.{items_at, marked_at}
use Rattle.tt_frame.specs.Text.{is_text, is_digest}
use Rattle.std.specs.Str.{is_utf8, chars}
use Rattle.std.specs.Fmt.{digits}
use lib.Utf8.{encode}
use Rattle.md5.specs.Md5.{block_words, rounds, compress, hash_after, digest_bytes, md5}
use Rattle.hex.specs.Hex.{encode_with}
use Rattle.tt_world.specs.Commands.{new_id, new_name}
use Rattle.tt_log.specs.Rows.{word_at, rest_at, number_in, number_at as line_number_at}
use Rattle.tt_rows.proofs.AllTold.{all_told}
use Rattle.tt_rows.specs.Games.{ComesTo, world_of_game}
use Rattle.tt_rows.specs.ConsoleGames.{goes_on_again, kick_is_spelled, kicks, kicks_nobody, kicks_the_downloader}
use Rattle.tt_rows.specs.ConsoleGames.{kicks_the_unwelcomed, lists_clients, lists_companies, lists_no_companies, pauses}
use Rattle.tt_rows.specs.ConsoleGames.{quit_at_both_doors, quits_before_joining, quits_the_game, says_to_all, stop_at_both_doors}
use Rattle.tt_rows.specs.ConsoleGames.{unknown_lines}
use Rattle.tt_rows.specs.Words.{world}

pub computed : ComesTo pauses
    × (world_of_game pauses ≡ world (4263798957, 4294967295) 0 1 true [] [])
    × ComesTo goes_on_again
    × (world_of_game goes_on_again ≡ world (1, 3217329428) 0 2 false [] [])
    × ComesTo kicks
    × ComesTo kicks_the_unwelcomed
    × ComesTo kicks_the_downloader
    × ComesTo kicks_nobody
    × ComesTo kick_is_spelled
    × ComesTo says_to_all
    × ComesTo unknown_lines
    × ComesTo lists_clients
    × ComesTo lists_companies
    × ComesTo lists_no_companies
    × ComesTo quits_the_game
    × ComesTo quits_before_joining
    × ComesTo quit_at_both_doors
    × ComesTo stop_at_both_doors
unfolding number_at within_at truth_at fixed_at before_zero text_at digest_at optional_digest_at raw_at items_at marked_at is_text
    is_digest is_utf8 chars encode digits block_words rounds compress hash_after digest_bytes md5 encode_with new_id new_name
    word_at rest_at number_in line_number_at
computed = (
  ((refl, refl, tt), refl, refl, refl),
  refl,
  ((refl, refl, tt), refl, refl, refl),
  refl,
  ((refl, refl, (refl, refl, (refl, refl, tt))), refl, refl, refl),
  ((refl, refl, (refl, refl, (refl, refl, tt))), refl, refl, refl),
  ((refl, refl, (refl, refl, (refl, refl, tt))), refl, refl, refl),
  ((refl, refl, (refl, refl, (refl, refl, tt))), refl, refl, refl),
  ((refl, refl, (refl, refl, tt)), refl, refl, refl),
  ((refl, refl, (refl, refl, tt)), refl, refl, refl),
  ((refl, refl, tt), refl, refl, refl),
  (all_told lists_clients 1 lists_clients.conns refl, refl, refl, refl),
  ((refl, refl, (refl, refl, tt)), refl, refl, refl),
  ((refl, refl, tt), refl, refl, refl),
  ((refl, refl, tt), refl, refl, refl),
  ((refl, refl, (refl, refl, tt)), refl, refl, refl),
  (all_told quit_at_both_doors 1 quit_at_both_doors.conns refl, refl, refl, refl),
  ((refl, refl, (refl, refl, (refl, refl, tt))), refl, refl, refl),
)
