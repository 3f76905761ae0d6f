use Rattle.tt_rows.proofs.ConsoleComputed.{computed}
use Rattle.tt_rows.proofs.console.console_lines_come_to.Goals as goal

pub returns-clause-pauses : goal.returns-clause-pauses
returns-clause-pauses c = computed.0

pub returns-clause-pauses_world : goal.returns-clause-pauses_world
returns-clause-pauses_world c = computed.1

pub returns-clause-goes_on_again : goal.returns-clause-goes_on_again
returns-clause-goes_on_again c = computed.2

pub returns-clause-goes_on_again_world : goal.returns-clause-goes_on_again_world
returns-clause-goes_on_again_world c = computed.3

pub returns-clause-kicks : goal.returns-clause-kicks
returns-clause-kicks c = computed.4

pub returns-clause-kicks_the_unwelcomed : goal.returns-clause-kicks_the_unwelcomed
returns-clause-kicks_the_unwelcomed c = computed.5

pub returns-clause-kicks_the_downloader : goal.returns-clause-kicks_the_downloader
returns-clause-kicks_the_downloader c = computed.6

pub returns-clause-kicks_nobody : goal.returns-clause-kicks_nobody
returns-clause-kicks_nobody c = computed.7

pub returns-clause-kick_is_spelled : goal.returns-clause-kick_is_spelled
returns-clause-kick_is_spelled c = computed.8

pub returns-clause-says_to_all : goal.returns-clause-says_to_all
returns-clause-says_to_all c = computed.9

pub returns-clause-unknown_lines : goal.returns-clause-unknown_lines
returns-clause-unknown_lines c = computed.10

pub returns-clause-lists_clients : goal.returns-clause-lists_clients
returns-clause-lists_clients c = computed.11

pub returns-clause-lists_companies : goal.returns-clause-lists_companies
returns-clause-lists_companies c = computed.12

pub returns-clause-lists_no_companies : goal.returns-clause-lists_no_companies
returns-clause-lists_no_companies c = computed.13

pub returns-clause-quits_the_game : goal.returns-clause-quits_the_game
returns-clause-quits_the_game c = computed.14

pub returns-clause-quits_before_joining : goal.returns-clause-quits_before_joining
returns-clause-quits_before_joining c = computed.15

pub returns-clause-quit_at_both_doors : goal.returns-clause-quit_at_both_doors
returns-clause-quit_at_both_doors c = computed.16

pub returns-clause-stop_at_both_doors : goal.returns-clause-stop_at_both_doors
returns-clause-stop_at_both_doors c = computed.17
