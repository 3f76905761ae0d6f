use Rattle.std.proofs.Common.{◌≡◌, ◌+◌, Some, None, sym, ap, subst, ◌∙◌, arith}
use Rattle.tt_log.specs.Reader.{IsAt, MayFollow}
use Rattle.tt_log.specs.Reading.{step_at}
use Rattle.tt_log.specs.Standing.{Standing}
use Rattle.tt_log.proofs.ScriptLaws.{grown, first_bad}
use Rattle.tt_log.proofs.script.reader.ScriptReader.next.Goals as goal

pub returns-in-Err-Bad-clause-bad : goal.returns-in-Err-Bad-clause-bad
returns-in-Err-Bad-clause-bad c = λ bytes steps l at e.
    let lost : step_at c.first_line.result.0.now ≡ None = rw c.in-Err-Bad.field-0-is at c.in-Err-Bad.ensures in
    let told : c.in-Some.count ≡ l = cc in
    let counted : l ≡ c.self.inside.count + 1 = omega (arith, told, c.in-Some.ensures.1) in
    first_bad _ bytes c.first_line.result.0.now _ steps l (subst (λ r. IsAt r bytes steps) (sym c.self.view_is) at)
    c.first_line.ensures.line (λ step found may. absurd cc) counted

pub returns-in_default-behind-clause-bad : goal.returns-in_default-behind-clause-bad
returns-in_default-behind-clause-bad c = λ bytes steps l at e.
    let found : step_at c.first_line.result.0.now ≡ Some c.in-Ok.step = c.in-Ok.ensures in
    let told : c.in-Some.count ≡ l = cc in
    let counted : l ≡ c.self.inside.count + 1 = omega (arith, told, c.in-Some.ensures.1) in
    first_bad _ bytes c.first_line.result.0.now _ steps l (subst (λ r. IsAt r bytes steps) (sym c.self.view_is) at)
    c.first_line.ensures.line
    (λ step other may. let same : c.in-Ok.step ≡ step = (let both = sym found ∙ other in cc) in c.in_default-behind.ensures.none
    (subst (MayFollow c.self.inside.place c.self.inside.openings) (sym same) may)) counted

pub returns-clause-step : goal.returns-clause-step
returns-clause-step c = λ bytes steps at.
    grown _ _ bytes c.first_line.result.0.now steps c.in-Ok.step (subst (λ r. IsAt r bytes steps) (sym c.self.view_is) at)
    c.first_line.ensures.line c.first_line.ensures.one
    c.in-Ok.ensures c.in-Some.ensures.1 c.in-Some-behind.ensures.place c.in-Some-behind.ensures.openings c.in-Some-behind.ensures.may

pub returns-in-Err-Bad-clause-here : goal.returns-in-Err-Bad-clause-here
returns-in-Err-Bad-clause-here c = λ l e.
    let told : c.in-Some.count ≡ l = cc in
    let counted : l ≡ c.self.inside.count + 1 = omega (arith, told, c.in-Some.ensures.1) in
    counted ∙ ap (λ (r : Standing). r.count + 1) c.self.view_is

pub returns-in_default-behind-clause-here : goal.returns-in_default-behind-clause-here
returns-in_default-behind-clause-here c = λ l e.
    let told : c.in-Some.count ≡ l = cc in
    let counted : l ≡ c.self.inside.count + 1 = omega (arith, told, c.in-Some.ensures.1) in
    counted ∙ ap (λ (r : Standing). r.count + 1) c.self.view_is
