-- Both sides compute; a history that would take what cannot be taken would make false true.
use Rattle.std.specs.Prelude.{◌≡◌, [], ◌∷◌, codes, refl}
use Rattle.tt_frame.specs.Reading.{number_at, within_at, truth_at, fixed_at, before_zero, text_at, digest_at, optional_digest_at, raw_at}
use Rattle.tt_frame.specs.ItemForms.{items_at, marked_at}
use Rattle.tt_frame.specs.Text.{is_text, is_digest}
use Rattle.std.specs.Str.{is_utf8, chars}
use Rattle.std.specs.Fmt.{digits}
use lib.Utf8.{encode}
use Rattle.md5.specs.Md5.{block_words, rounds, compress, hash_after, digest_bytes, md5}
use Rattle.hex.specs.Hex.{encode_with}
use Rattle.tt_world.specs.Commands.{new_id, new_name}
use Rattle.tt_log.specs.Rows.{word_at, rest_at, number_in, number_at as line_number_at}
use Rattle.tt_world.specs.declared.command.Code.TheVariants.{IncreaseLoan, NewCompany, Pause, PlaceSign}
use Rattle.tt_log.specs.History.{IsHistory}
use Rattle.tt_log.specs.Stamps.{accepted, ordered}
use Rattle.tt_rows.specs.AdminWords.{admin_game, admin_game_with}
use Rattle.tt_rows.specs.OrdersGames.{a_history, after_the_end, command, named_too_early, named_too_late}
use Rattle.tt_rows.specs.OrdersGames.{orders_of_the_server, orders_of_two}
use Rattle.tt_rows.specs.Words.{plain_game}

pub computed :
    (accepted (admin_game_with 1) orders_of_two 1
    ≡ (0, command IncreaseLoan 10000 []) ∷ (0, command PlaceSign 7 (codes "a")) ∷ (0, command IncreaseLoan 1 []) ∷ [])
    × (accepted (admin_game_with 1) orders_of_two 2 ≡ (0, command IncreaseLoan 20000 []) ∷ [])
    × (accepted (admin_game_with 1) orders_of_two 3 ≡ [])
    × (ordered (admin_game_with 1) orders_of_two ≡ [])
    × (ordered admin_game orders_of_the_server ≡ command NewCompany 2 [] ∷ command Pause 1 [] ∷ command Pause 0 [] ∷ [])
    × IsHistory plain_game a_history
unfolding number_at within_at truth_at fixed_at before_zero text_at digest_at optional_digest_at raw_at items_at marked_at is_text
    is_digest is_utf8 chars encode digits block_words rounds compress hash_after digest_bytes md5 encode_with new_id new_name
    word_at rest_at number_in line_number_at
computed = (refl, refl, refl, refl, refl, (refl, (refl, (refl, (refl, (refl, (refl, (refl, tt))))))))

pub too_early : IsHistory plain_game named_too_early → ⊥
unfolding number_at within_at truth_at fixed_at before_zero text_at digest_at optional_digest_at raw_at items_at marked_at is_text
    is_digest is_utf8 chars encode digits block_words rounds compress hash_after digest_bytes md5 encode_with new_id new_name
    word_at rest_at number_in line_number_at
too_early h = cc h.0

pub too_late : IsHistory plain_game named_too_late → ⊥
unfolding number_at within_at truth_at fixed_at before_zero text_at digest_at optional_digest_at raw_at items_at marked_at is_text
    is_digest is_utf8 chars encode digits block_words rounds compress hash_after digest_bytes md5 encode_with new_id new_name
    word_at rest_at number_in line_number_at
too_late h = cc h.1.1.0

pub after : IsHistory plain_game after_the_end → ⊥
unfolding number_at within_at truth_at fixed_at before_zero text_at digest_at optional_digest_at raw_at items_at marked_at is_text
    is_digest is_utf8 chars encode digits block_words rounds compress hash_after digest_bytes md5 encode_with new_id new_name
    word_at rest_at number_in line_number_at
after h = cc h.1.1.0
