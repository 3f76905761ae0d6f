use Rattle.tt_gc_table.proofs.CodesLaws.{code_owned}
use Rattle.tt_gc_table.proofs.laws.a_code_is_its_owners.Goals as goal

pub returns : goal.returns
returns c = code_owned
