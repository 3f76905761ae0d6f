use Rattle.std.proofs.Common.{List, ℕ, Option, subst}
use Rattle.tt_words.specs.Values.{Finds, Given, IsWords}
use Rattle.tt_words.proofs.options.needed_name.Goals as goal

pub returns : goal.returns
returns c =
    subst (λ (o : Option (List ℕ)). Finds (Given (IsWords 1 24) o) c.name_needed.result) c.given.ensures c.name_needed.ensures
