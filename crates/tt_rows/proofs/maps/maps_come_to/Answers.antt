use Rattle.tt_rows.proofs.MapsComputed.{computed}
use Rattle.tt_rows.proofs.maps.maps_come_to.Goals as goal

pub returns-clause-six_pieces : goal.returns-clause-six_pieces
returns-clause-six_pieces c = computed.0

pub returns-clause-four_whole_pieces : goal.returns-clause-four_whole_pieces
returns-clause-four_whole_pieces c = computed.1

pub returns-clause-one_whole_piece : goal.returns-clause-one_whole_piece
returns-clause-one_whole_piece c = computed.2

pub returns-clause-too_long_a_map : goal.returns-clause-too_long_a_map
returns-clause-too_long_a_map c = computed.3

pub returns-clause-map_of_its_frame : goal.returns-clause-map_of_its_frame
returns-clause-map_of_its_frame c = computed.4
