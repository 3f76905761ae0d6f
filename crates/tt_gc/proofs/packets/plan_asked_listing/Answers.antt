use Rattle.std.proofs.Common.{List, ℕ, sym, subst}
use Rattle.std.specs.Prelude.{filter}
use Rattle.tt_gc_table.specs.declared.setup.GcSetup.{GcSetup}
use Rattle.tt_gc_table.specs.Table.{Table}
use Rattle.tt_gc_table.specs.PacketRules.{is_listed, on_listing}
use Rattle.tt_gc_table.proofs.ListedLaws.{all_table}
use Rattle.tt_gc.specs.declared.change.Change.TheVariants.{Stay}
use Rattle.tt_gc.specs.Changes.{IsPlanned}
use Rattle.tt_gc.proofs.packets.plan_asked_listing.Goals as goal

pub returns : goal.returns
returns c =
    let s : GcSetup = c.args.rules.now in
    let t : Table = c.args.parts.now in
    subst (λ (revision : List ℕ). IsPlanned s (on_listing c.args.conn revision t) t c.args.out.now c.plan_listing.new.out Stay)
    c.bytes.ensures.same (record {
      told = c.in_ok-plan_listing.ensures.told;
      done = sym (all_table c.args.conn (filter (is_listed c.bytes.result.now) t.servers) t);
      fits = tt;
    })
