use Rattle.std.proofs.Common.{◌≡◌, ◌∙◌, sym, refl, true, false, length}
use Rattle.std.specs.Prelude.{◌==◌}
use Rattle.tt_frame.specs.Text.{is_text}
use Rattle.tt_admin_desk.proofs.LineLaws.{no_rest, rest_here, said_none, said_some, text_behind}
use Rattle.tt_admin_desk.proofs.commands.say.Goals as goal

pub returns-in_default : goal.returns-in_default
returns-in_default c = record { command = rw (no_rest c.args.left.now c.in_default.ensures.cases) refl }

pub returns-then-is_empty : goal.returns-then-is_empty
returns-then-is_empty c =
    let none : (length c.in-Some.text.now == 0) ≡ true = sym c.is_empty.ensures ∙ c.if-is_empty.true in record {
      command = rw (rest_here c.args.left.now c.in-Some.text.now c.in-Some.ensures.cases) (rw (said_none c.in-Some.text.now none) refl);
    }

pub unreachable-requires : goal.unreachable-requires
unreachable-requires c =
    let yes : is_text 899 c.in-Some.text.now ≡ true =
    text_behind 899 c.args.left.now c.in-Some.text.now c.requires.text c.in-Some.ensures.cases in
    let no : is_text 899 c.in-Some.text.now ≡ false = c.in-None.ensures.test in
    cc

pub returns : goal.returns
returns c =
    let some : (length c.in-Some.text.now == 0) ≡ false = sym c.is_empty.ensures ∙ c.if-is_empty.false in record {
      command = rw (rest_here c.args.left.now c.in-Some.text.now c.in-Some.ensures.cases)
          (rw (said_some c.in-Some.text.now some) (rw c.in-Some-new.ensures.same refl));
    }
