use Rattle.std.proofs.Common.{◌≡◌, ◌∙◌, ap, map, true, false}
use Rattle.std.proofs.lemmas.Result.{IfOk-weaker}
use Rattle.clap.specs.Words.{App, app_of}
use Rattle.clap.specs.Simple.{app_of_fields}
use Rattle.clap.specs.declared.builder.command.Command.{Command}
use Rattle.clap.specs.declared.builder.command.Command.TheOpen.{Command-F}
use Rattle.tt_words.specs.Options.{command_of, no_options, with_options}
use Rattle.tt_words.proofs.command.command_with.Goals as goal

pub returns : goal.returns
unfolding command_of
returns c =
    let bare : app_of c.disable_help_flag-bare.result ≡ no_options =
    ap app_of_fields c.disable_help_flag-bare.ensures
    ∙ ap (λ (f : Command-F Command). app_of_fields (record f { disable_help_flag = true })) c.no_binary_name.ensures
    ∙ ap (λ (a : App). record a { top = record a.top { no_binary_name = true; disable_help_flag = true } }) c.new.ensures.app in
    let first = c.in_ok-first.ensures ∙ ap (with_options true (map (λ name. name.now) c.args.needed.now)) bare in
    IfOk-weaker c.with_names-2.result _ _
    (λ made is. is ∙ ap (with_options false (map (λ name. name.now) c.args.others.now)) first) c.with_names-2.ensures
