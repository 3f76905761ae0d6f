use Rattle.std.proofs.Common.{◌≡◌, map, take}
use Rattle.clap.specs.Words.{app_of}
use Rattle.tt_words.specs.Options.{with_options}
use Rattle.tt_words.proofs.command.with_names.Given as goal

abbrev pub invariant-loop-name : goal.invariant-loop-name
invariant-loop-name l =
    app_of l.command ≡ with_options l.needed (map (λ name. name.now) (take l.name-index l.names)) (app_of l.initial.command)
