use Rattle.std.proofs.Common.{◌≡◌, ℕ, ◌-◌, ◌+◌, ◌∷◌, [], List, length, ap, ◌∙◌, arith}
use Rattle.std.proofs.lemmas.List.{length-append}
use Rattle.tt_frame.specs.ItemForms.{Item, items_at}
use Rattle.tt_frame.proofs.ItemLoops.{with_front, with_none, error_or_memory, goes_on, fails_as, is_done}
use Rattle.tt_frame.proofs.items.counted.Goals as goal

pub loop-init : goal.loop-init
loop-init g c =
    let fs = g.T.ListItem.fields in
    record {
      few = omega (arith, ap length c.new-list.ensures);
      same =
          with_none fs (g.T.ListItem.listed c.new-list.result) (items_at fs (c.args.count - 0) c.args.f.now) (ap g.T.ListItem.listed
          c.new-list.ensures ∙ g.met.T.ListItem.none)
          ∙ ap (λ (n : ℕ). items_at fs n c.args.f.now) (let n : c.args.count - 0 ≡ c.args.count = omega arith in n);
    }

pub returns-in-Err : goal.returns-in-Err
returns-in-Err g c =
    let fs = g.T.ListItem.fields in
    let total = items_at fs c.args.count c.args.f.now in
    error_or_memory _ _ g.T.ListItem.listed c.in-Err.e c.read.new.f total
    (fails_as _ _ fs g.T.ListItem.listed g.T.ListItem.values c.in-Err.e (g.T.ListItem.listed c.loop.list) c.args.count c.loop.counter
    c.loop.f c.read.new.f c.read.new.f total (omega arith) c.in-Err.ensures c.loop.invariant.same)

pub loop-preserved : goal.loop-preserved
loop-preserved g c =
    let fs = g.T.ListItem.fields in
    record {
      few = omega (arith, ap length c.in_default.ensures.ok, length-append c.loop.list (c.in-Ok.item ∷ []));
      same =
          ap (λ (xs : List (Item fs)). with_front fs xs (items_at fs (c.args.count - (c.loop.counter + 1)) c.read.new.f))
          (ap g.T.ListItem.listed c.in_default.ensures.ok ∙ g.met.T.ListItem.more c.loop.list c.in-Ok.item)
          ∙ goes_on fs (g.T.ListItem.listed c.loop.list) c.args.count c.loop.counter c.loop.f (g.T.ListItem.values c.in-Ok.item)
          c.read.new.f (items_at fs c.args.count c.args.f.now) (omega arith) c.in-Ok.ensures c.loop.invariant.same;
    }

pub returns : goal.returns
returns g c = let fs = g.T.ListItem.fields in is_done fs (g.T.ListItem.listed c.loop.list) c.args.count c.loop.counter c.loop.f
    (items_at fs c.args.count c.args.f.now) (omega arith) c.loop.invariant.same
