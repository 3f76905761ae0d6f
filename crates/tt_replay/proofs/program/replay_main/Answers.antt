use Rattle.std.proofs.Common.{subst}
use Rattle.std.specs.Io.KnownBytes.{Appends}
use Rattle.tt_edge.specs.Sink.{AppendsPart}
use Rattle.tt_hour_run.specs.declared.made.Made.{Made}
use Rattle.tt_hour_run.specs.Made.{made_text}
use Rattle.tt_replay.proofs.Words.{one_made}
use Rattle.tt_replay.proofs.program.replay_main.Goals as goal

pub returns-in-Some-clause-made_done : goal.returns-in-Some-clause-made_done
returns-in-Some-clause-made_done g c made is zero =
    let text : Made → Type 0 = λ m. Appends (g.K.Sink.held c.args.sink.now) (g.K.Sink.held c.write_made.new.sink) (made_text m) in
    subst text (one_made c.args.args.now c.in-Some.made made c.in-Some.ensures.form is) (c.write_made.ensures.done zero)

pub returns-in-Some-clause-made_partly : goal.returns-in-Some-clause-made_partly
returns-in-Some-clause-made_partly g c made is five =
    let text : Made → Type 0 = λ m. AppendsPart (g.K.Sink.held c.args.sink.now) (g.K.Sink.held c.write_made.new.sink) (made_text m) in
    subst text (one_made c.args.args.now c.in-Some.made made c.in-Some.ensures.form is) (c.write_made.ensures.partly five)
