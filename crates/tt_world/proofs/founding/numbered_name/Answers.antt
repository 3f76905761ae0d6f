use Rattle.std.proofs.Common.{◌≡◌, ◌+◌, ◌-◌, ◌≤◌, ◌∙◌, ap, sym, subst, arith}
use Rattle.tt_frame.specs.Text.{IsName}
use Rattle.tt_world.specs.Commands.{numbered_name}
use Rattle.tt_world.proofs.NameLaws.{IsName-numbered, one_digit, two_digits}
use Rattle.tt_world.proofs.founding.numbered_name.Goals as goal

pub name_of-requires : goal.name_of-requires
name_of-requires c = subst (λ name. IsName name) (sym (one_digit c.args.m c.if-m-lt10.true)) (IsName-numbered c.args.m c.requires)

pub name_of-requires-else-m-lt10 : goal.name_of-requires-else-m-lt10
name_of-requires-else-m-lt10 c =
    let e : 10 + (c.args.m - 10) ≡ c.args.m = omega arith in
    let le : 10 + (c.args.m - 10) ≤ 15 = omega arith in
    subst (λ name. IsName name) (sym (two_digits (c.args.m - 10) (omega arith))) (IsName-numbered (10 + (c.args.m - 10)) le)

pub returns-then-m-lt10 : goal.returns-then-m-lt10
returns-then-m-lt10 c = c.name_of.ensures ∙ one_digit c.args.m c.if-m-lt10.true

pub returns-else-m-lt10 : goal.returns-else-m-lt10
returns-else-m-lt10 c =
    let e : 10 + (c.args.m - 10) ≡ c.args.m = omega arith in
    c.name_of-else-m-lt10.ensures ∙ two_digits (c.args.m - 10) (omega arith) ∙ ap numbered_name e
