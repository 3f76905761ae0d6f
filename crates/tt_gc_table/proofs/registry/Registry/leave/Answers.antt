use Rattle.std.proofs.Common.{rules, sym, refl, ◌≡◌, ap, ◌∙◌, map, not}
use Rattle.std.specs.Prelude.{filter}
use Rattle.std.specs.Str.{bytes_eq}
use Rattle.std.specs.Map.{lookup}
use Rattle.indexmap.specs.IndexMap.{shift_remove_entry}
use Rattle.tt_gc_table.specs.Table.{Server}
use Rattle.tt_gc_table.specs.Registry.{RegistryState, servers_of, server_at}
use Rattle.tt_gc_table.proofs.RegistryLaws.{taken}
use Rattle.std.proofs.Common.{subst}
use Rattle.tt_gc_table.specs.Registry.{AreCodes}
use Rattle.tt_gc_table.proofs.AllCodes.{codes_remove}
use Rattle.tt_gc_table.proofs.registry.Registry.leave.Goals as goal

pub returns-clause-servers : goal.returns-clause-servers
returns-clause-servers c =
    let entries : c.shift_remove-gone.new.self.entries ≡ shift_remove_entry (bytes_eq c.args.code.now) c.self.inside.servers.entries =
    search rules in
    ap (map server_at) entries
    ∙ taken server_at c.args.code.now (λ (v : Server). bytes_eq c.args.code.now v.code) (λ e. refl) c.self.inside.servers.entries
    (ap (lookup (bytes_eq c.args.code.now)) (sym entries) ∙ c.shift_remove-gone.ensures.updates.1)
    ∙ ap (λ (r : RegistryState). filter (λ v. not (bytes_eq c.args.code.now v.code)) (servers_of r)) c.self.view_is

pub invariant_of-self : goal.invariant_of-self
invariant_of-self c =
    let entries : c.shift_remove-gone.new.self.entries ≡ shift_remove_entry (bytes_eq c.args.code.now) c.self.inside.servers.entries =
    search rules in
    (subst AreCodes (sym entries) (codes_remove c.args.code.now c.self.inside.servers.entries c.self.invariant.0), c.self.invariant.1)
