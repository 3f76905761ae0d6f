-- Both sides compute.
use Rattle.std.specs.Prelude.{◌≡◌, [], ◌∷◌, codes, false, pos, refl}
use Rattle.tt_frame.specs.Reading.{number_at, within_at, truth_at, fixed_at, before_zero, text_at, digest_at, optional_digest_at, raw_at}
use Rattle.tt_frame.specs.ItemForms.{items_at, marked_at}
use Rattle.tt_frame.specs.Text.{is_text, is_digest}
use Rattle.std.specs.Str.{is_utf8, chars}
use Rattle.std.specs.Fmt.{digits}
use lib.Utf8.{encode}
use Rattle.md5.specs.Md5.{block_words, rounds, compress, hash_after, digest_bytes, md5}
use Rattle.hex.specs.Hex.{encode_with}
use Rattle.tt_world.specs.Commands.{new_id, new_name}
use Rattle.tt_rows.specs.Games.{ComesTo, world_of_game}
use Rattle.tt_rows.specs.SavedGames.{goes_on, told_the_start}
use Rattle.tt_rows.specs.Words.{company, world}

pub computed : ComesTo goes_on
    × (world_of_game goes_on ≡ world (1, 3217329428) 30 0 false ((0, company (pos 249) 300000 (codes "A") (codes "B")) ∷ []) [])
    × ComesTo told_the_start
unfolding number_at within_at truth_at fixed_at before_zero text_at digest_at optional_digest_at raw_at items_at marked_at is_text
    is_digest is_utf8 chars encode digits block_words rounds compress hash_after digest_bytes md5 encode_with new_id new_name
computed = ((tt, refl, refl, refl), refl, ((refl, refl, tt), refl, refl, refl))
