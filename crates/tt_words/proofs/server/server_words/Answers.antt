use Rattle.std.proofs.Common.{◌≡◌, ap, map, Err, rules}
use Rattle.std.proofs.lemmas.Result.{IfOk-weaker}
use Rattle.tt_words.specs.declared.command.WordsError.TheVariants.{Bad}
use Rattle.tt_words.specs.declared.program.Program.TheVariants.{Server}
use Rattle.tt_words.specs.Forms.{ServerMeans}
use Rattle.tt_words.proofs.FormLaws.{server_fits}
use Rattle.tt_words.proofs.FoundLaws.{found_bad, found_form, taken_bad}
use Rattle.tt_words.proofs.server.server_words.Goals as goal

pub returns-in-Err-clause-bad : goal.returns-in-Err-clause-bad
returns-in-Err-clause-bad c e =
    let bad : c.in-Err.error ≡ Bad = cc in
    let same : map (λ word. word.now) c.as_slice.result.now ≡ c.args.args.now = search rules in
    taken_bad Server ServerMeans c.args.args.now _ same (c.in-Err.ensures.bad (ap (λ x. Err x) bad))

pub returns-clause-ok : goal.returns-clause-ok
returns-clause-ok c =
    let same : map (λ word. word.now) c.as_slice.result.now ≡ c.args.args.now = search rules in
    found_form Server ServerMeans c.args.args.now _ _ c.server_of.result c.found.result same c.in-Ok-parsed.ensures.taken
    c.in-Ok-parsed.ensures.rows c.server_of.ensures c.found.ensures

pub returns-clause-fits : goal.returns-clause-fits
returns-clause-fits c =
    let same : map (λ word. word.now) c.as_slice.result.now ≡ c.args.args.now = search rules in
    IfOk-weaker c.found.result _ _ (server_fits c.args.args.now) (found_form Server ServerMeans c.args.args.now _ _ c.server_of.result
    c.found.result same c.in-Ok-parsed.ensures.taken c.in-Ok-parsed.ensures.rows c.server_of.ensures c.found.ensures)

pub returns-clause-bad : goal.returns-clause-bad
returns-clause-bad c =
    let same : map (λ word. word.now) c.as_slice.result.now ≡ c.args.args.now = search rules in
    found_bad Server ServerMeans c.args.args.now _ _ c.server_of.result c.found.result same c.in-Ok-parsed.ensures.rows
    c.server_of.ensures c.found.ensures
