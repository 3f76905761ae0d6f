use Rattle.std.proofs.Common.{◌≡◌, ℕ, List, refl, ap, ◌∙◌, subst}
use Rattle.std.proofs.lemmas.Bool.{false≢true}
use Rattle.std.specs.Prelude.{find, option_map}
use Rattle.std.specs.Str.{bytes_eq}
use Rattle.tt_gc_table.specs.Table.{Drawn}
use Rattle.tt_gc_table.specs.Registry.{RegistryState, drawn_of, drawn_at}
use Rattle.tt_gc_table.proofs.RegistryLaws.{got}
use Rattle.tt_gc_table.proofs.AllCodes.{no_code}
use Rattle.tt_gc_table.proofs.registry.Registry.secret_named.Goals as goal

pub returns-in_default : goal.returns-in_default
returns-in_default c =
    no_code drawn_at c.args.text.now (λ (v : Drawn). bytes_eq c.args.text.now v.code) (λ e. refl) (λ is. false≢true
    (c.in_default.ensures.code.1 is))
    c.self.inside.drawn.entries c.self.invariant.1
    ∙ ap (λ (r : RegistryState). find (λ (v : Drawn). bytes_eq c.args.text.now v.code) (drawn_of r)) c.self.view_is

pub returns : goal.returns
returns c =
    let same : c.in-Some.code ≡ c.args.text.now = c.in-Some.ensures.same in
    subst (λ (text : List ℕ). option_map (λ v. drawn_at (text, v)) c.copied.result
    ≡ find (λ (v : Drawn). bytes_eq text v.code) (drawn_of c.args.self.now)) same
    (got drawn_at c.in-Some.code (λ (v : Drawn). bytes_eq c.in-Some.code v.code) (λ e. refl) c.self.inside.drawn.entries
    c.copied.result (c.copied.ensures ∙ c.get.ensures.value)
    ∙ ap (λ (r : RegistryState). find (λ (v : Drawn). bytes_eq c.in-Some.code v.code) (drawn_of r)) c.self.view_is)
