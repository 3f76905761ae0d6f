use Rattle.std.proofs.Common.{◌≡◌, ℕ, List, refl, ap, ◌∙◌, subst}
use Rattle.std.proofs.lemmas.Bool.{false≢true}
use Rattle.std.specs.Prelude.{find, option_map}
use Rattle.std.specs.Str.{bytes_eq}
use Rattle.std.specs.Option.{option_copied}
use Rattle.tt_gc_table.specs.Table.{Server}
use Rattle.tt_gc_table.specs.Registry.{RegistryState, servers_of, server_at}
use Rattle.tt_gc_table.proofs.RegistryLaws.{got}
use Rattle.tt_gc_table.proofs.AllCodes.{no_code}
use Rattle.tt_gc_table.proofs.registry.Registry.server_named.Goals as goal

pub returns-in_default : goal.returns-in_default
returns-in_default c =
    no_code server_at c.args.text.now (λ (v : Server). bytes_eq c.args.text.now v.code) (λ e. refl) (λ is. false≢true
    (c.in_default.ensures.code.1 is))
    c.self.inside.servers.entries c.self.invariant.0
    ∙ ap (λ (r : RegistryState). find (λ (v : Server). bytes_eq c.args.text.now v.code) (servers_of r)) c.self.view_is

pub returns : goal.returns
returns c =
    let same : c.in-Some.code ≡ c.args.text.now = c.in-Some.ensures.same in
    subst (λ (text : List ℕ). option_map (λ v. server_at (text, v)) (option_copied c.get.result)
    ≡ find (λ (v : Server). bytes_eq text v.code) (servers_of c.args.self.now)) same
    (got server_at c.in-Some.code (λ (v : Server). bytes_eq c.in-Some.code v.code) (λ e. refl) c.self.inside.servers.entries
    (option_copied c.get.result) c.get.ensures.value
    ∙ ap (λ (r : RegistryState). find (λ (v : Server). bytes_eq c.in-Some.code v.code) (servers_of r)) c.self.view_is)
