use Rattle.std.proofs.Common.{rules, refl, ◌≡◌, ap, ◌∙◌, false, map, ◌++◌, ◌∷◌, []}
use Rattle.std.specs.Prelude.{find, is_some}
use Rattle.std.specs.Str.{bytes_eq}
use Rattle.indexmap.specs.IndexMap.{insert_entry}
use Rattle.tt_gc_table.specs.Table.{Server}
use Rattle.tt_gc_table.specs.Registry.{RegistryState, servers_of, server_at}
use Rattle.tt_gc_table.proofs.RegistryLaws.{put}
use Rattle.std.proofs.Common.{sym, subst}
use Rattle.tt_gc_table.specs.Registry.{AreCodes}
use Rattle.tt_gc_table.proofs.AllCodes.{codes_insert}
use Rattle.tt_gc_table.proofs.registry.Registry.register.Goals as goal

pub returns-clause-servers : goal.returns-clause-servers
returns-clause-servers c =
    let entries : c.insert.new.self.entries ≡ insert_entry bytes_eq c.self.inside.servers.entries c.args.code c.args.served =
    search rules in
    let none : is_some (find (λ (v : Server). bytes_eq c.args.code v.code) (map server_at c.self.inside.servers.entries)) ≡ false =
    ap (λ (r : RegistryState). is_some (find (λ (v : Server). bytes_eq c.args.code v.code) (servers_of r))) c.self.view_is
    ∙ c.requires.not_live in
    ap (map server_at) entries
    ∙ put server_at c.args.code (λ (v : Server). bytes_eq c.args.code v.code) (λ e. refl) c.args.served c.self.inside.servers.entries none
    ∙ ap (λ (r : RegistryState). servers_of r ++ server_at (c.args.code, c.args.served) ∷ []) c.self.view_is

pub invariant_of-self : goal.invariant_of-self
invariant_of-self c =
    let entries : c.insert.new.self.entries ≡ insert_entry bytes_eq c.self.inside.servers.entries c.args.code c.args.served =
    search rules in (
      subst AreCodes (sym entries) (codes_insert c.args.code c.args.served c.self.inside.servers.entries c.text-text.ensures.code
          c.self.invariant.0),
      c.self.invariant.1,
    )
