use Rattle.tt_gc_table.proofs.OneConnection.{bad_packet}
use Rattle.tt_gc_table.proofs.laws.a_bad_packet_ends_its_own_connection.Goals as goal

pub returns : goal.returns
returns c = bad_packet
