use Rattle.std.proofs.Common.{◌≡◌, ◌+◌, ◌++◌, List, ℕ, ap, ap₂, ◌∙◌, arith}
use Rattle.tt_edge.specs.declared.event.Event.{Event}
use Rattle.tt_gc_table.specs.declared.setup.GcSetup.{GcSetup}
use Rattle.tt_gc_table.specs.Table.{Table}
use Rattle.tt_gc_table.specs.Events.{closed}
use Rattle.tt_gc_table.specs.Told.{bytes_to, told}
use Rattle.tt_gc_table.specs.Tells.{Tell, told_to}
use Rattle.tt_gc.specs.Queues.{Queue}
use Rattle.tt_gc.proofs.RunningLaws.{done, paid, stepped_table, stepped_told, applied_cost}
use Rattle.tt_gc.proofs.advance.advance.Goals as goal

pub charge-requires : goal.charge-requires
charge-requires c =
    let s : GcSetup = c.args.rules.now in
    let same : c.apply.new.parts.cost ≡ c.args.parts.now.cost =
    ap (λ (t : Table). t.cost) (c.in_ok-apply.ensures.ok s) ∙ applied_cost s c.in_ok-change.change c.args.parts.now in
    record { fits = omega (arith, same, c.if-cost.false, c.cost.ensures) }

pub returns-clause-ok : goal.returns-clause-ok
returns-clause-ok c =
    let s : GcSetup = c.args.rules.now in
    let t : Table = c.args.parts.now in
    let e : Event = c.args.event.now in
    let now : c.charge.new.self ≡ paid e (done s e t).table =
    c.charge.ensures ∙ ap₂ (λ (u : Table) (n : ℕ). record u { cost = u.cost + n }) (c.in_ok-apply.ensures.ok s
    ∙ c.in_ok-change.ensures.done) c.cost_of-cost.ensures in
    record {
      table = c.close.ensures ∙ ap (λ (u : Table). (closed s e u).table) now ∙ stepped_table s e t c.requires.taken;
      tells = λ x.
          let told_is : told_to x c.plan_event.new.out ≡ told s t e x =
          c.in_ok-change.ensures.told x
          ∙ ap (λ (ts : List Tell). told_to x ts ++ bytes_to x (done s e t).told) c.new-tells.ensures
          ∙ stepped_told s e t x c.requires.taken in
          record {
            taken = (c.tell.ensures x).taken ∙ (c.reserve.ensures.same x).taken ∙ ap (λ (q : Queue). q.taken) (c.seat.ensures x);
            left = (c.tell.ensures x).left ∙ ap₂ (λ (l m : List ℕ). l ++ m) ((c.reserve.ensures.same x).left
                ∙ ap (λ (q : Queue). q.left) (c.seat.ensures x)) told_is;
          };
    }
