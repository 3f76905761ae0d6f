use Rattle.std.proofs.Common.{◌≡◌, take}
use Rattle.tt_serving.specs.Page.{Puts, parts_text}
use Rattle.tt_serving.proofs.page.Page.put_parts.Given as goal

-- the parts so far were put, and no write failed
abbrev pub invariant-loop-part : goal.invariant-loop-part
invariant-loop-part g l =
    let sink = g.K.Sink in
    record {
      puts : Puts (sink.held l.initial.sink) (sink.held l.sink) l.initial.self l.self (parts_text (take l.part-index l.parts));
      faults : sink.faults l.sink ≡ sink.faults l.initial.sink;
    }
