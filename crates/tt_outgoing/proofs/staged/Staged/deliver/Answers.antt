use Rattle.std.proofs.Common.{◌≡◌, ◌+◌, ◌∷◌, drop}
use Rattle.std.specs.Prelude.{slice_index_or}
use Rattle.std.proofs.lemmas.List.{drop_more}
use Rattle.tt_outgoing.specs.declared.staged.Cut.{Cut}
use Rattle.tt_outgoing.specs.Staging.{cut_up}
use Rattle.tt_outgoing.proofs.CutUp.{whole_step}
use Rattle.tt_outgoing.proofs.Delivered.{left_step}
use Rattle.tt_outgoing.proofs.staged.Staged.deliver.Goals as goal

pub loop-cut-preserved : goal.loop-cut-preserved
loop-cut-preserved c =
    let l = c.loop-cut in
    let i = l.cut-index in
    let cuts = c.as_slice-cuts.result.now in
    let none : Cut = record { conns = 0; bytes = 0 } in
    let cut : Cut = slice_index_or cuts i none in
    let conns = c.split_at.result in
    let bytes = c.split_at-in-loop-cut.result in
    let first : drop i cuts ≡ cut ∷ drop (i + 1) cuts = drop_more cuts i none c.loop-cut-test.true in record {
      whole = whole_step (drop i cuts) (drop (i + 1) cuts) cut l.conns.now l.bytes.now conns.1.now bytes.1.now first l.invariant.whole
          c.split_at.ensures.back c.split_at-in-loop-cut.ensures.back;
      left = left_step c.args.outs.now l.outs c.share.new.self (cut_up cuts c.as_slice-conns.result.now c.as_slice-bytes.result.now)
          (drop i cuts) (drop (i + 1) cuts) cut l.conns.now l.bytes.now conns.0.now bytes.0.now conns.1.now bytes.1.now first
          l.invariant.left
          c.split_at.ensures.front c.split_at-in-loop-cut.ensures.front c.split_at.ensures.back c.split_at-in-loop-cut.ensures.back
          (record {
            told = c.share.ensures.told;
            bytes = c.share.ensures.bytes;
            parts = c.share.ensures.parts;
            same = c.share.ensures.opened;
          });
    }
