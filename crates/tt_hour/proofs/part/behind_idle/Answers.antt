use Rattle.tt_hour.proofs.PartLaws.{less_idle}
use Rattle.tt_hour.proofs.part.behind_idle.Goals as goal

pub returns-else-more-eq0 : goal.returns-else-more-eq0
returns-else-more-eq0 c = λ words. less_idle c.args.more words c.if-more-eq0.false
