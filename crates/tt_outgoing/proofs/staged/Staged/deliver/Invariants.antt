use Rattle.std.proofs.Common.{drop}
use Rattle.tt_outgoing.specs.Staging.{IsCutUp, cut_up}
use Rattle.tt_outgoing.proofs.Delivered.{Left}
use Rattle.tt_outgoing.proofs.staged.Staged.deliver.Given as goal

abbrev pub invariant-loop-cut : goal.invariant-loop-cut
invariant-loop-cut l = record {
  whole : IsCutUp (drop l.cut-index l.cuts) l.conns l.bytes;
  left : Left l.initial.outs (cut_up l.initial.cuts l.initial.conns l.initial.bytes) l.outs
      (cut_up (drop l.cut-index l.cuts) l.conns l.bytes);
}
