use Rattle.tt_in_step.proofs.Promises.{leads}
use Rattle.tt_in_step.proofs.table_is_tied.Goals as goal

pub returns : goal.returns
returns c = record { leads = λ o es conn h are. leads c.one_map.ensures.there o h es are conn }
