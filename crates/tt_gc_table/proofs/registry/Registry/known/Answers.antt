use Rattle.std.proofs.Common.{◌≡◌, Bool, true, false, Some, ap, sym, refl, ◌∙◌}
use Rattle.std.specs.Prelude.{find, is_some, option_map}
use Rattle.std.specs.Str.{bytes_eq}
use Rattle.std.proofs.lemmas.Bool.{true≢false}
use Rattle.tt_gc_table.specs.Table.{Drawn}
use Rattle.tt_gc_table.specs.Registry.{RegistryState, drawn_of, drawn_at}
use Rattle.tt_gc_table.specs.PacketRules.{is_known}
use Rattle.tt_gc_table.proofs.AllCodes.{no_code}
use Rattle.tt_gc_table.proofs.registry.Registry.known.Goals as goal

decided : (b : Bool) → (b ≡ false → ⊥) → b ≡ true
decided true never = refl
decided false never = absurd (never refl)

pub returns-clause-known : goal.returns-clause-known
returns-clause-known c =
    let p : Drawn → Bool = λ d. bytes_eq c.args.text.now d.code in
    let here : Some (drawn_at (c.args.text.now, c.in_ok-kept.kept)) ≡ find p (drawn_of c.args.self.now) =
    ap (option_map (λ s. drawn_at (c.args.text.now, s))) (sym c.in_ok-kept.was) ∙ c.secret_named.ensures in
    decided (is_some c.parse.result) (λ none. true≢false (ap is_some (here ∙ sym (no_code drawn_at c.args.text.now p (λ e. refl)
    (λ code. true≢false (sym (c.parse.ensures.code.1 code) ∙ none)) c.self.inside.drawn.entries c.self.invariant.1
    ∙ ap (λ (r : RegistryState). find p (drawn_of r)) c.self.view_is))))
    ∙ c.if-not-is.ensures ∙ ap (is_known c.args.secret.now) here
