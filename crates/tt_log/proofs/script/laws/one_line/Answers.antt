use Rattle.std.proofs.Common.{◌≡◌, Some, sym, ap, ◌∙◌}
use Rattle.tt_log.specs.Reading.{step_at}
use Rattle.tt_log.proofs.TableLaws.{read_found}
use Rattle.tt_log.proofs.script.laws.one_line.Goals as goal

pub returns : goal.returns
returns c = λ a b fits other e. let same : Some a ≡ Some b = sym (read_found a fits) ∙ ap step_at e ∙ read_found b other in cc
