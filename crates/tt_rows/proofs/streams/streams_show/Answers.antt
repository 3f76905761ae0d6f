use Rattle.tt_rows.proofs.StreamsComputed.{computed}
use Rattle.tt_rows.proofs.streams.streams_show.Goals as goal

pub returns-clause-game_password_without_id : goal.returns-clause-game_password_without_id
returns-clause-game_password_without_id c = computed.0

pub returns-clause-company_password_without_id : goal.returns-clause-company_password_without_id
returns-clause-company_password_without_id c = computed.1

pub returns-clause-no_files : goal.returns-clause-no_files
returns-clause-no_files c = computed.2

pub returns-clause-a_file : goal.returns-clause-a_file
returns-clause-a_file c = computed.3

pub returns-clause-greatest_map : goal.returns-clause-greatest_map
returns-clause-greatest_map c = computed.4

pub returns-clause-too_great_a_map : goal.returns-clause-too_great_a_map
returns-clause-too_great_a_map c = computed.5

pub returns-clause-data_past_the_size : goal.returns-clause-data_past_the_size
returns-clause-data_past_the_size c = computed.6

pub returns-clause-done_before_the_size : goal.returns-clause-done_before_the_size
returns-clause-done_before_the_size c = computed.7

pub returns-clause-no_map : goal.returns-clause-no_map
returns-clause-no_map c = computed.8

pub returns-clause-full_in_the_game : goal.returns-clause-full_in_the_game
returns-clause-full_in_the_game c = computed.9

pub returns-clause-wait_in_the_game : goal.returns-clause-wait_in_the_game
returns-clause-wait_in_the_game c = computed.10

pub returns-clause-unknown_code : goal.returns-clause-unknown_code
returns-clause-unknown_code c = computed.11

pub returns-clause-frame_above_the_permitted : goal.returns-clause-frame_above_the_permitted
returns-clause-frame_above_the_permitted c = computed.12

pub returns-clause-command_at_the_permitted_frame : goal.returns-clause-command_at_the_permitted_frame
returns-clause-command_at_the_permitted_frame c = computed.13

pub returns-clause-command_below_the_last : goal.returns-clause-command_below_the_last
returns-clause-command_below_the_last c = computed.14

pub returns-clause-command_at_the_last : goal.returns-clause-command_at_the_last
returns-clause-command_at_the_last c = computed.15

pub returns-clause-anothers_name : goal.returns-clause-anothers_name
returns-clause-anothers_name c = computed.16

pub returns-clause-own_company : goal.returns-clause-own_company
returns-clause-own_company c = computed.17

pub returns-clause-words : goal.returns-clause-words
returns-clause-words c = computed.18
