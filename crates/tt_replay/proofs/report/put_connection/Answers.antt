use Rattle.std.proofs.Common.{◌∙◌}
use Rattle.tt_replay.proofs.report.put_connection.Goals as goal

pub told_in_all-requires : goal.told_in_all-requires
told_in_all-requires c = record { told = c.deref.ensures.value ∙ c.requires.to_be_told.told }
