use Rattle.std.proofs.Common.{ℕ, map, cond, List, Some, refl, sym, ap, ◌∙◌}
use Rattle.std.specs.Str.{bytes_eq}
use Rattle.tt_gc_table.specs.declared.registry.Served.{Served}
use Rattle.tt_gc_table.specs.Table.{Server}
use Rattle.tt_gc_table.specs.Registry.{RegistryState, servers_of, server_at}
use Rattle.tt_gc_table.proofs.Keyed.{none_changed, changed}
use Rattle.tt_gc_table.proofs.Numbers.{within_code, one_code}
use Rattle.std.proofs.Common.{subst}
use Rattle.tt_gc_table.specs.Registry.{AreCodes}
use Rattle.tt_gc_table.proofs.AllCodes.{codes_set}
use Rattle.tt_gc_table.proofs.registry.Registry.update.Goals as goal

pub returns-in_default-clause-servers : goal.returns-in_default-clause-servers
returns-in_default-clause-servers c =
    let code : List ℕ = c.args.code.now in
    let es : List (List ℕ × Served) = c.self.inside.servers.entries in
    let change : Server → Server = λ v. record v { info = Some c.args.info } in
    ap (λ m. map server_at m.entries) c.get_mut.follows.holds-at-none
    ∙ sym (none_changed server_at (bytes_eq code) (λ (v : Server). bytes_eq code v.code) change es
    (within_code server_at code (λ (v : Server). bytes_eq code v.code) (λ e. refl) es) (sym c.in_default.ensures.value))
    ∙ ap (λ (r : RegistryState). map (λ v. cond (bytes_eq code v.code) (change v) v) (servers_of r)) c.self.view_is

pub returns-clause-servers : goal.returns-clause-servers
returns-clause-servers c =
    let code : List ℕ = c.args.code.now in
    let es : List (List ℕ × Served) = c.self.inside.servers.entries in
    let change : Server → Server = λ v. record v { info = Some c.args.info } in
    let v : Served = c.in-Some.served.now in
    let w : Served = record v { info = Some c.args.info } in
    ap (map server_at) (c.get_mut.follows.holds w).0
    ∙ changed server_at (bytes_eq code) (λ (v : Server). bytes_eq code v.code) change es v w
    (within_code server_at code (λ (v : Server). bytes_eq code v.code) (λ e. refl) es) (one_code code es c.get_mut.ensures.unique)
    (sym c.in-Some.ensures.value) (λ k own. own) (λ k. refl)
    ∙ ap (λ (r : RegistryState). map (λ v. cond (bytes_eq code v.code) (change v) v) (servers_of r)) c.self.view_is

pub invariant_of-self-2 : goal.invariant_of-self-2
invariant_of-self-2 c =
    let w : Served = record c.in-Some.served.now { info = Some c.args.info } in (
      subst AreCodes (sym (c.get_mut.follows.holds w).0) (codes_set c.args.code.now w c.self.inside.servers.entries c.self.invariant.0),
      c.self.invariant.1,
    )
