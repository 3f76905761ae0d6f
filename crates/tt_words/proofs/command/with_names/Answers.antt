use Rattle.std.proofs.Common.{◌∙◌, ap₂}
use Rattle.clap.specs.Words.{app_of, with_rule}
use Rattle.tt_words.proofs.OptionLaws.{next_option}
use Rattle.tt_words.proofs.command.with_names.Goals as goal

pub loop-name-preserved : goal.loop-name-preserved
loop-name-preserved c =
    c.in_ok-command.ensures.shape c.option.ensures.alone
    ∙ ap₂ with_rule c.loop-name.invariant c.option.ensures.rule
    ∙ next_option c.args.needed c.args.names.now c.loop-name.name-index _ (app_of c.args.command) c.loop-name-test.true
