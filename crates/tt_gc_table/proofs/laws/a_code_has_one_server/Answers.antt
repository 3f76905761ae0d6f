use Rattle.tt_gc_table.proofs.CodesLaws.{one_holder}
use Rattle.tt_gc_table.proofs.laws.a_code_has_one_server.Goals as goal

pub returns : goal.returns
returns c = one_holder
