use Rattle.tt_log.proofs.Naming as naming
use Rattle.tt_log.proofs.facts.names_differ.Goals as goal

pub returns : goal.returns
returns c o es x y i j ok a b apart p q same = naming.names-differ o es x y i j ok a b apart p q same
