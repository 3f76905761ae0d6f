use Rattle.std.proofs.Common.{◌≡◌, ℕ, ◌-◌, ◌+◌, ◌∷◌, [], List, Option, Ok, length, ap, ◌∙◌, arith}
use Rattle.std.specs.Prelude.{option_map}
use Rattle.std.proofs.lemmas.List.{length-append}
use Rattle.tt_frame.specs.ItemForms.{Item, marked_at}
use Rattle.tt_frame.proofs.ItemLoops.{with_front, with_none, error_or_memory}
use Rattle.tt_frame.proofs.MarkLoops.{goes_on, ends, fails_as, is_full, overruns_as}
use Rattle.tt_frame.proofs.items.marked.Goals as goal

pub loop-init : goal.loop-init
loop-init g c =
    let fs = g.T.ListItem.fields in
    record {
      few = omega (arith, ap length c.new-list.ensures);
      same =
          with_none fs (g.T.ListItem.listed c.new-list.result) (marked_at fs (g.row.MAX - 0) c.args.f.now) (ap g.T.ListItem.listed
          c.new-list.ensures ∙ g.met.T.ListItem.none)
          ∙ ap (λ (n : ℕ). marked_at fs n c.args.f.now) (let n : g.row.MAX - 0 ≡ g.row.MAX = omega arith in n);
    }

pub returns-in-Ok-None : goal.returns-in-Ok-None
returns-in-Ok-None g c =
    let fs = g.T.ListItem.fields in
    ends fs (g.T.ListItem.listed c.loop.list) g.row.MAX c.loop.counter c.loop.f c.marked_item.new.f (marked_at fs g.row.MAX c.args.f.now)
    (omega arith) (c.in-Ok-None.ensures ∙ ap (λ (o : Option g.row.T.Denot). Ok (option_map g.T.ListItem.values o, c.marked_item.new.f))
    c.in-Ok-None.field-0-is) c.loop.invariant.same

pub returns-in-Err : goal.returns-in-Err
returns-in-Err g c =
    let fs = g.T.ListItem.fields in
    let total = marked_at fs g.row.MAX c.args.f.now in
    error_or_memory _ _ g.T.ListItem.listed c.in-Err.e c.marked_item.new.f total
    (fails_as _ _ fs g.T.ListItem.listed (option_map g.T.ListItem.values) c.in-Err.e (g.T.ListItem.listed c.loop.list) g.row.MAX
    c.loop.counter c.loop.f c.marked_item.new.f c.marked_item.new.f total (omega arith) c.in-Err.ensures c.loop.invariant.same)

pub loop-preserved : goal.loop-preserved
loop-preserved g c =
    let fs = g.T.ListItem.fields in
    record {
      few = omega (arith, ap length c.in_default.ensures.ok, length-append c.loop.list (c.in-Ok-Some.item ∷ []));
      same =
          ap (λ (xs : List (Item fs)). with_front fs xs (marked_at fs (g.row.MAX - (c.loop.counter + 1)) c.marked_item.new.f))
          (ap g.T.ListItem.listed c.in_default.ensures.ok ∙ g.met.T.ListItem.more c.loop.list c.in-Ok-Some.item)
          ∙ goes_on fs (g.T.ListItem.listed c.loop.list) g.row.MAX c.loop.counter c.loop.f (g.T.ListItem.values c.in-Ok-Some.item)
          c.marked_item.new.f (marked_at fs g.row.MAX c.args.f.now) (omega arith) (c.in-Ok-Some.ensures
          ∙ ap (λ (o : Option g.row.T.Denot). Ok (option_map g.T.ListItem.values o, c.marked_item.new.f)) c.in-Ok-Some.field-0-is)
          c.loop.invariant.same;
    }

pub returns-in-Ok : goal.returns-in-Ok
returns-in-Ok g c =
    let fs = g.T.ListItem.fields in
    is_full fs (g.T.ListItem.listed c.loop.list) g.row.MAX c.loop.counter _ c.loop.f c.up_to-last.new.f (marked_at fs g.row.MAX
    c.args.f.now) (omega arith) c.in-Ok.ensures c.loop.invariant.same

pub returns-in-Err-last : goal.returns-in-Err-last
returns-in-Err-last g c =
    let fs = g.T.ListItem.fields in
    let total = marked_at fs g.row.MAX c.args.f.now in
    error_or_memory _ _ g.T.ListItem.listed c.in-Err-last.e c.up_to-last.new.f total
    (overruns_as _ _ fs g.T.ListItem.listed (λ x. x) c.in-Err-last.e (g.T.ListItem.listed c.loop.list) g.row.MAX c.loop.counter c.loop.f
    c.up_to-last.new.f c.up_to-last.new.f total (omega arith) c.in-Err-last.ensures c.loop.invariant.same)
