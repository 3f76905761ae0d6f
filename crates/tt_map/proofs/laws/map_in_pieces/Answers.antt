use Rattle.tt_map.proofs.WriterLaws.{front_given, all_is_given}
use Rattle.tt_map.proofs.laws.map_in_pieces.Goals as goal

pub returns-clause-front : goal.returns-clause-front
returns-clause-front c w rooms = front_given w rooms

pub returns-clause-whole : goal.returns-clause-whole
returns-clause-whole c w rooms none = all_is_given w rooms none
