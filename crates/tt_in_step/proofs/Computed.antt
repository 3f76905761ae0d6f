-- The worked games, computed to their end.
use Rattle.std.proofs.Common.{◌≡◌, refl, arith}
use Rattle.tt_world.specs.Sound.{IsSound}
use Rattle.tt_world.specs.Setup.{plain}
use Rattle.tt_world.specs.World.{start}
use Rattle.tt_world.proofs.SoundLaws.{IsSound-start}
use Rattle.tt_map.specs.Maps.{IsTold}
use Rattle.std.specs.Str.{is_utf8, chars}
use lib.Utf8.{encode}
use Rattle.tt_world.specs.Commands.{new_id, new_name}
use Rattle.tt_frame.specs.Reading.{number_at, within_at, truth_at, fixed_at, before_zero, text_at, digest_at, optional_digest_at, raw_at}
use Rattle.tt_frame.specs.ItemForms.{items_at, marked_at}
use Rattle.tt_frame.specs.Text.{is_text, is_digest}
use Rattle.tt_frame.specs.StreamReading.{reading_within}
use Rattle.tt_map.specs.Reading.{bytes_here, byte_here, number_here, signed_here, name_here, company_here, places_here, sign_here}
use Rattle.tt_map.specs.Reading.{signs_here, game_in, words_in, companies_in, signs_in, nothing_in, body_here, part_here, map_in}
use Rattle.tt_lockstep.specs.Shown as lockstep
use Rattle.tt_log.specs.Told.{sent}
use Rattle.tt_log.specs.Shown.{shown}
use Rattle.tt_in_step.specs.Late.{late, late_events}
use Rattle.tt_in_step.specs.Worked.{at_once, ahead, two_clients, client_of, stands_at, in_step_at}

pub late-told : IsTold late.start
late-told =
    let s : IsSound (start plain) = IsSound-start plain in
    record {
      sound = record {
        part = omega arith;
        places = s.places;
        companies = s.companies;
        names = s.names;
        few = s.few;
        rising = s.rising;
        signs = s.signs;
      };
      day = omega arith;
      words = (omega arith, omega arith);
    }

pub wrong : (shown late (sent late late_events 1)).seen ≡ lockstep.WrongJoining
unfolding number_at within_at truth_at fixed_at before_zero text_at digest_at optional_digest_at raw_at items_at marked_at is_text
    is_digest reading_within is_utf8 chars bytes_here byte_here number_here signed_here name_here company_here places_here sign_here
    signs_here game_in words_in companies_in signs_in nothing_in body_here part_here map_in encode new_id new_name
wrong = refl

pub ann : stands_at at_once (client_of at_once two_clients 1) ≡ in_step_at at_once two_clients 1
unfolding number_at within_at truth_at fixed_at before_zero text_at digest_at optional_digest_at raw_at items_at marked_at is_text
    is_digest reading_within is_utf8 chars bytes_here byte_here number_here signed_here name_here company_here places_here sign_here
    signs_here game_in words_in companies_in signs_in nothing_in body_here part_here map_in encode new_id new_name
ann = refl

pub bob : stands_at at_once (client_of at_once two_clients 2) ≡ in_step_at at_once two_clients 1
unfolding number_at within_at truth_at fixed_at before_zero text_at digest_at optional_digest_at raw_at items_at marked_at is_text
    is_digest reading_within is_utf8 chars bytes_here byte_here number_here signed_here name_here company_here places_here sign_here
    signs_here game_in words_in companies_in signs_in nothing_in body_here part_here map_in encode new_id new_name
bob = refl

pub ann-ahead : stands_at ahead (client_of ahead two_clients 1) ≡ in_step_at ahead two_clients 1
unfolding number_at within_at truth_at fixed_at before_zero text_at digest_at optional_digest_at raw_at items_at marked_at is_text
    is_digest reading_within is_utf8 chars bytes_here byte_here number_here signed_here name_here company_here places_here sign_here
    signs_here game_in words_in companies_in signs_in nothing_in body_here part_here map_in encode new_id new_name
ann-ahead = refl

pub bob-ahead : stands_at ahead (client_of ahead two_clients 2) ≡ in_step_at ahead two_clients 1
unfolding number_at within_at truth_at fixed_at before_zero text_at digest_at optional_digest_at raw_at items_at marked_at is_text
    is_digest reading_within is_utf8 chars bytes_here byte_here number_here signed_here name_here company_here places_here sign_here
    signs_here game_in words_in companies_in signs_in nothing_in body_here part_here map_in encode new_id new_name
bob-ahead = refl
