use Rattle.std.proofs.Common.{ℕ, List, ◌++◌, sym, ap, ap₂, subst, ◌∙◌, ◌≡◌}
use Rattle.std.specs.List.{flat_map}
use Rattle.tt_log.specs.Settings.{settings_of}
use Rattle.tt_lines.specs.Lines.{lines_of}
use Rattle.tt_log.specs.Script.{Spells}
use Rattle.tt_log.specs.Printing.{script_text}
use Rattle.tt_log.specs.Written.{setting_text, map_text, line_text}
use Rattle.tt_log.proofs.PrintLaws.{text_is, spelled_text}
use Rattle.tt_log.proofs.script.printing.print_script.Goals as goal

pub returns-clause-text : goal.returns-clause-text
returns-clause-text c =
    let own = c.script.inside in
    let settings : c.put_settings.new.out.items ≡ flat_map setting_text (settings_of own.setup) =
    c.in_ok-put_settings.ensures.ok ∙ ap (λ (t : List ℕ). t ++ flat_map setting_text c.all_settings.result) c.new-out.ensures.items
    ∙ ap (flat_map setting_text) c.all_settings.ensures.settings in
    let map : c.put_map.new.out.items ≡ flat_map setting_text (settings_of own.setup) ++ map_text own.saved.items =
    c.in_ok-put_map.ensures.ok ∙ ap₂ (λ (a : List ℕ) b. a ++ map_text b) settings c.deref.ensures.value in
    c.in_ok-put_lines.ensures.ok ∙ ap₂ (λ (a : List ℕ) b. a ++ flat_map line_text b) map c.deref-2.ensures.value
    ∙ text_is own.setup own.saved.items own.lines.items ∙ ap script_text c.script.view_is

pub returns-clause-spells : goal.returns-clause-spells
returns-clause-spells c = subst (λ (text : List ℕ). Spells c.args.script.now (lines_of text)) (sym (returns-clause-text c))
    (spelled_text c.args.script.now c.requires)
