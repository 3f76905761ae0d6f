-- The wrong servers' games, computed to their end.
use Rattle.std.proofs.Common.{◌≡◌, refl}
use Rattle.std.specs.Str.{is_utf8, chars}
use lib.Utf8.{encode}
use Rattle.std.specs.Fmt.{digits}
use Rattle.tt_world.specs.Commands.{new_id, new_name}
use Rattle.tt_frame.specs.Reading.{number_at, within_at, truth_at, fixed_at, before_zero, text_at, digest_at, optional_digest_at, raw_at}
use Rattle.tt_frame.specs.ItemForms.{items_at, marked_at}
use Rattle.tt_frame.specs.Text.{is_text, is_digest}
use Rattle.tt_frame.specs.StreamReading.{reading_within}
use Rattle.tt_map.specs.Reading.{bytes_here, byte_here, number_here, signed_here, name_here, company_here, places_here, sign_here}
use Rattle.tt_map.specs.Reading.{signs_here, game_in, words_in, companies_in, signs_in, nothing_in, body_here, part_here, map_in}
use Rattle.tt_in_step.specs.Worked.{two_clients}
use Rattle.tt_in_step.specs.Wrong.{true_rules, misses_stamped_commands, tells_whole_journal, stamps_for_next_frame, tells_frame_first}
use Rattle.tt_in_step.specs.Wrong.{tells_word_before, tells_later_map, drops_stamped_commands, outcome, StandsAt, ToldWrong, OutOfStepAt}
use Rattle.tt_in_step.specs.Wrong.{evening_at_once, evening_ahead, joins_late, leaves_early}

pub right-joiner : outcome true_rules evening_ahead two_clients 2 ≡ StandsAt 8
unfolding number_at within_at truth_at fixed_at before_zero text_at digest_at optional_digest_at raw_at items_at marked_at is_text
    is_digest reading_within is_utf8 chars bytes_here byte_here number_here signed_here name_here company_here places_here sign_here
    signs_here game_in words_in companies_in signs_in nothing_in body_here part_here map_in encode new_id new_name
right-joiner = refl

pub right-late : outcome true_rules evening_at_once joins_late 2 ≡ StandsAt 5
unfolding number_at within_at truth_at fixed_at before_zero text_at digest_at optional_digest_at raw_at items_at marked_at is_text
    is_digest reading_within is_utf8 chars bytes_here byte_here number_here signed_here name_here company_here places_here sign_here
    signs_here game_in words_in companies_in signs_in nothing_in body_here part_here map_in encode new_id new_name digits
right-late = refl

pub right-first : outcome true_rules evening_at_once two_clients 1 ≡ StandsAt 6
unfolding number_at within_at truth_at fixed_at before_zero text_at digest_at optional_digest_at raw_at items_at marked_at is_text
    is_digest reading_within is_utf8 chars bytes_here byte_here number_here signed_here name_here company_here places_here sign_here
    signs_here game_in words_in companies_in signs_in nothing_in body_here part_here map_in encode new_id new_name
right-first = refl

pub right-stays : outcome true_rules evening_ahead leaves_early 1 ≡ StandsAt 8
unfolding number_at within_at truth_at fixed_at before_zero text_at digest_at optional_digest_at raw_at items_at marked_at is_text
    is_digest reading_within is_utf8 chars bytes_here byte_here number_here signed_here name_here company_here places_here sign_here
    signs_here game_in words_in companies_in signs_in nothing_in body_here part_here map_in encode new_id new_name
right-stays = refl

pub misses-stamped : outcome misses_stamped_commands evening_ahead two_clients 2 ≡ OutOfStepAt 5
unfolding number_at within_at truth_at fixed_at before_zero text_at digest_at optional_digest_at raw_at items_at marked_at is_text
    is_digest reading_within is_utf8 chars bytes_here byte_here number_here signed_here name_here company_here places_here sign_here
    signs_here game_in words_in companies_in signs_in nothing_in body_here part_here map_in encode new_id new_name
misses-stamped = refl

pub whole-journal : outcome tells_whole_journal evening_at_once joins_late 2 ≡ ToldWrong
unfolding number_at within_at truth_at fixed_at before_zero text_at digest_at optional_digest_at raw_at items_at marked_at is_text
    is_digest reading_within is_utf8 chars bytes_here byte_here number_here signed_here name_here company_here places_here sign_here
    signs_here game_in words_in companies_in signs_in nothing_in body_here part_here map_in encode new_id new_name digits
whole-journal = refl

pub next-frame : outcome stamps_for_next_frame evening_ahead two_clients 1 ≡ ToldWrong
unfolding number_at within_at truth_at fixed_at before_zero text_at digest_at optional_digest_at raw_at items_at marked_at is_text
    is_digest reading_within is_utf8 chars bytes_here byte_here number_here signed_here name_here company_here places_here sign_here
    signs_here game_in words_in companies_in signs_in nothing_in body_here part_here map_in encode new_id new_name
next-frame = refl

pub frame-first : outcome tells_frame_first evening_at_once two_clients 1 ≡ ToldWrong
unfolding number_at within_at truth_at fixed_at before_zero text_at digest_at optional_digest_at raw_at items_at marked_at is_text
    is_digest reading_within is_utf8 chars bytes_here byte_here number_here signed_here name_here company_here places_here sign_here
    signs_here game_in words_in companies_in signs_in nothing_in body_here part_here map_in encode new_id new_name
frame-first = refl

pub word-before : outcome tells_word_before evening_ahead two_clients 1 ≡ OutOfStepAt 2
unfolding number_at within_at truth_at fixed_at before_zero text_at digest_at optional_digest_at raw_at items_at marked_at is_text
    is_digest reading_within is_utf8 chars bytes_here byte_here number_here signed_here name_here company_here places_here sign_here
    signs_here game_in words_in companies_in signs_in nothing_in body_here part_here map_in encode new_id new_name
word-before = refl

pub later-map : outcome tells_later_map evening_ahead two_clients 1 ≡ OutOfStepAt 2
unfolding number_at within_at truth_at fixed_at before_zero text_at digest_at optional_digest_at raw_at items_at marked_at is_text
    is_digest reading_within is_utf8 chars bytes_here byte_here number_here signed_here name_here company_here places_here sign_here
    signs_here game_in words_in companies_in signs_in nothing_in body_here part_here map_in encode new_id new_name
later-map = refl

pub dropped : outcome drops_stamped_commands evening_ahead leaves_early 1 ≡ OutOfStepAt 5
unfolding number_at within_at truth_at fixed_at before_zero text_at digest_at optional_digest_at raw_at items_at marked_at is_text
    is_digest reading_within is_utf8 chars bytes_here byte_here number_here signed_here name_here company_here places_here sign_here
    signs_here game_in words_in companies_in signs_in nothing_in body_here part_here map_in encode new_id new_name
dropped = refl
