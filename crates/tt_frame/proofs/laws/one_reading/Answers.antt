use Rattle.tt_frame.proofs.StreamLaws.{some_reading, same_reading, reading_reads}
use Rattle.tt_frame.proofs.FrontLaws.{proper_front, front_is_partial}
use Rattle.tt_frame.proofs.laws.one_reading.Goals as goal

pub returns-clause-some : goal.returns-clause-some
returns-clause-some c limit bytes least small fits = some_reading limit bytes least fits

pub returns-clause-only : goal.returns-clause-only
returns-clause-only c limit bytes ps qs d e small a b = same_reading limit bytes ps qs d e small a b

pub returns-clause-partial : goal.returns-clause-partial
returns-clause-partial c limit rest least small fits two = (proper_front limit rest fits two, front_is_partial limit rest small two)

pub returns-clause-reading : goal.returns-clause-reading
returns-clause-reading c limit bytes least fits = reading_reads limit bytes least fits
