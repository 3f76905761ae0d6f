use Rattle.std.proofs.Common.{subst, sym, arith}
use Rattle.tt_world.specs.Setup.{Fits}
use Rattle.tt_world.specs.declared.setup.Setup.{Setup}
use Rattle.tt_hour.proofs.ScriptLaws.{hour_fits}
use Rattle.tt_hour.proofs.hour.hour_setup.Goals as goal

pub returns-clause-fits : goal.returns-clause-fits
returns-clause-fits c =
    subst (λ (s : Setup). Fits (record s { seed = c.args.number })) (sym c.plain-setup.ensures.setup)
    (hour_fits c.args.number (omega (arith, c.ranges.number.fits)))
