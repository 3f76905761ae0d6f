use Rattle.std.proofs.Common.{◌<◌, ℕ, List, length}
use Rattle.std.proofs.lemmas.Result.{IfOk-weaker}
use Rattle.tt_words.proofs.OptionLaws.{all_behind, all_texts}
use Rattle.tt_words.proofs.command.parsed.Goals as goal

abbrev has_some : List ℕ → Type 0
has_some word = 0 < length word

pub returns-then-are_whole-clause-taken : goal.returns-then-are_whole-clause-taken
returns-then-are_whole-clause-taken c =
    IfOk-weaker c.matched.result _ _ (λ matches faultless. record {
      faultless = faultless;
      whole = all_texts has_some c.args.words.now (c.are_whole.ensures.0 c.if-are_whole.true);
    }) c.matched.ensures.taken

pub returns-then-are_whole-clause-rows : goal.returns-then-are_whole-clause-rows
returns-then-are_whole-clause-rows c = c.matched.ensures.rows

pub returns-then-are_whole-clause-bad : goal.returns-then-are_whole-clause-bad
returns-then-are_whole-clause-bad c e taken = c.matched.ensures.bad e taken.faultless

pub returns-else-are_whole-clause-bad : goal.returns-else-are_whole-clause-bad
returns-else-are_whole-clause-bad c e taken =
    let whole = c.are_whole.ensures.1 (all_behind has_some c.args.words.now taken.whole) in
    let not_whole = c.if-are_whole.false in
    cc
