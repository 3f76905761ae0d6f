use Rattle.std.proofs.Common.{◌≡◌, ◌-◌, ◌∙◌, ap, sym, suc, false, true, arith}
use Rattle.std.specs.List.{list_any}
use Rattle.tt_world.specs.Commands.{has_name, numbered_name, new_name}
use Rattle.tt_world.proofs.NameLaws.{step_taken, step_free}
use Rattle.tt_world.proofs.founding.new_name.Goals as goal

pub returns-then-not-is_taken : goal.returns-then-not-is_taken
unfolding new_name
returns-then-not-is_taken c =
    let name = c.bytes.ensures.same ∙ c.numbered_name-name.ensures in
    let free : list_any (has_name (numbered_name c.loop-m.m)) c.args.companies.now ≡ false =
    ap (λ n. list_any (has_name n) c.args.companies.now) (sym name) ∙ (cc) in
    c.numbered_name-name.ensures ∙ sym (c.loop-m.invariant (suc (14 - c.loop-m.m)) (omega arith)
    ∙ step_free c.args.companies.now c.loop-m.m (14 - c.loop-m.m) free)

pub loop-m-preserved : goal.loop-m-preserved
loop-m-preserved c = λ n e.
    let name = c.bytes.ensures.same ∙ c.numbered_name-name.ensures in
    let taken : list_any (has_name (numbered_name c.loop-m.m)) c.args.companies.now ≡ true =
    ap (λ n. list_any (has_name n) c.args.companies.now) (sym name) ∙ (cc) in
    c.loop-m.invariant (suc n) (omega arith) ∙ step_taken c.args.companies.now c.loop-m.m n taken

pub returns : goal.returns
unfolding new_name
returns c = let end : c.loop-m.m ≡ 15 =
    omega arith in c.numbered_name.ensures ∙ sym (c.loop-m.invariant 0 (omega arith) ∙ ap numbered_name end)
