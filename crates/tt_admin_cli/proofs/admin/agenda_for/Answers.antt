use Rattle.std.proofs.Common.{ℕ, List, Err, ap, subst}
use Rattle.tt_lines.specs.Lines.{lines_of, IsFirstBad}
use Rattle.tt_admin_file.specs.Commands.{IsFile, Spells}
use Rattle.tt_admin_file.specs.declared.file.FileBad.{FileBad}
use Rattle.tt_admin.specs.declared.message.AdminMsg.{AdminMsg}
use Rattle.tt_admin_file.specs.declared.command.Command.{Command}
use Rattle.tt_admin_run.specs.Agendas.{IsAgenda}
use Rattle.tt_admin_run.specs.Rounds.{SinkNow, sink_now}
use Rattle.tt_admin_cli.specs.Runs.{SourceNow, source_now, TellsBadLine}
use Rattle.tt_admin_cli.proofs.Outcomes.{reading_refused, file_refused}
use Rattle.tt_admin_cli.proofs.admin.agenda_for.Goals as goal

pub returns-in-Err-clause-refused : goal.returns-in-Err-clause-refused
returns-in-Err-clause-refused g c =
    let sink : g.row.K.Denot → SinkNow = sink_now g.K.Sink.faults g.K.Sink.held in
    let source : g.row.S.Denot → SourceNow = source_now g.S.Source.faults g.S.Source.left in
    let e = c.in-Err.ensures in
    reading_refused c.args.args.now source sink c.args.commands.now c.read_commands.new.commands c.args.sink.now c.in-Err.status
    (c.in-Ok.words, c.in-Ok.ensures.ok) e.status (λ is. e.failed (ap (λ (n : ℕ). Err n) is))
    (λ is. e.kept_memory (ap (λ (n : ℕ). Err n) is)) (λ is. record {
      over = e.over (ap (λ (n : ℕ). Err n) is);
      long = e.too_long (ap (λ (n : ℕ). Err n) is);
      quiet = e.kept_too_long (ap (λ (n : ℕ). Err n) is);
    })

pub returns-in-Err-Line-clause-refused : goal.returns-in-Err-Line-clause-refused
returns-in-Err-Line-clause-refused g c =
    let sink : g.row.K.Denot → SinkNow = sink_now g.K.Sink.faults g.K.Sink.held in
    let source : g.row.S.Denot → SourceNow = source_now g.S.Source.faults g.S.Source.left in
    let e = c.in-Ok-read_commands.ensures in
    let line = c.in-Err-Line.line in
    let bad = subst (λ (bytes : List ℕ). IsFirstBad IsFile (lines_of bytes) line) c.deref.ensures.value
    (c.in-Err-Line.ensures.first line (ap (λ (b : FileBad). Err b) c.in-Err-Line.field-0-is)) in
    file_refused c.args.args.now source sink c.args.commands.now c.read_commands.new.commands c.args.sink.now c.refused.new.sink
    c.refused.result line c.in-Ok-read_commands.input.items (c.in-Ok.words, c.in-Ok.ensures.ok)
    (record { whole = e.whole; taken = e.taken; within = e.within; quiet = e.kept }) bad c.refused.ensures.status
    (λ is. subst (λ (n : ℕ). TellsBadLine n (sink c.args.sink.now) (sink c.refused.new.sink)) c.in-Err-Line.line-is
    (c.refused.ensures.told is))
    c.refused.ensures.unwritten

pub returns-in-Ok-agenda_of-clause-asked : goal.returns-in-Ok-agenda_of-clause-asked
returns-in-Ok-agenda_of-clause-asked g c =
    let e = c.in-Ok-read_commands.ensures in
    let lines = c.in-Ok-read_file.lines.items in
    let agenda = c.in-Ok-agenda_of.agenda in
    record {
      words = c.in-Ok.words;
      lines = lines;
      asked = record {
        form = c.in-Ok.ensures.ok;
        input = c.in-Ok-read_commands.input.items;
        is_input = record { whole = e.whole; taken = e.taken; within = e.within; quiet = e.kept };
        spelled = subst (λ (bytes : List ℕ). Spells lines (lines_of bytes)) c.deref.ensures.value c.in-Ok-read_file.ensures.found;
      };
      agenda = subst (λ (m : AdminMsg). IsAgenda m lines agenda) c.join_of-join.ensures
          (subst (λ (ls : List Command). IsAgenda c.join_of-join.result ls agenda) c.deref-2.ensures.value c.in-Ok-agenda_of.ensures);
    }
