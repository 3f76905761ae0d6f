use Rattle.std.proofs.Common.{◌≡◌, refl, sym, subst, true}
use Rattle.std.specs.Prelude.{is_none}
use Rattle.std.specs.List.{list_any}
use Rattle.tt_world.specs.World.{WorldState}
use Rattle.tt_world.specs.Holding.{held}
use Rattle.tt_world.proofs.FoundLaws.{IsSound-founded_at}
use Rattle.tt_world.proofs.world.World.found.Goals as goal

pub invariant_of-self : goal.invariant_of-self
invariant_of-self c =
    let room : list_any is_none (held c.self.inside).companies ≡ true =
    subst (λ (x : WorldState). list_any is_none x.companies ≡ true) (sym c.self.view_is) c.requires in (
      IsSound-founded_at (held c.self.inside) c.self.inside.companies c.new_number-n.result c.new_company-company.result refl
          c.new_number-n.ensures.number c.new_company-company.ensures room c.self.invariant.0,
      c.self.invariant.1,
    )
