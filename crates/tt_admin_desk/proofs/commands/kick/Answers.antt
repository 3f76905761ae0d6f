use Rattle.std.proofs.Common.{◌≡◌, ◌∙◌, sym, refl, ap, Some, None}
use Rattle.tt_log.specs.Console.{kicks}
use Rattle.tt_log.specs.Rows.{front_word, number_in}
use Rattle.tt_log.proofs.ValueLaws.{number_is}
use Rattle.tt_admin_desk.proofs.LineLaws.{no_number, no_word, number_here}
use Rattle.tt_admin_desk.proofs.commands.kick.Goals as goal

pub returns-in_default : goal.returns-in_default
returns-in_default c = record { command = rw (no_word c.args.left.now c.in_default.ensures.cases) refl }

pub returns-in-Some-number_of : goal.returns-in-Some-number_of
returns-in-Some-number_of c =
    let read : Some c.in-Some-number_of.client ≡ number_in (front_word c.in-Some.text.now) =
    sym c.in-Some-number_of.is
    ∙ number_is c.parted.result.0.now c.number_of.result c.number_of.ensures.found c.number_of.ensures.small c.number_of.ensures.none
    ∙ ap number_in c.parted.ensures.word in
    record {
      command = rw (number_here c.args.left.now c.in-Some.text.now c.in-Some-number_of.client c.in-Some.ensures.cases read
          c.in-Some-number_of.ensures.small)
          (rw (← c.parted.ensures.left) (c.alone.ensures.command (kicks c.in-Some-number_of.client) refl));
    }

pub returns-in-None : goal.returns-in-None
returns-in-None c =
    let lost : None ≡ number_in (front_word c.in-Some.text.now) =
    sym c.in-None.is
    ∙ number_is c.parted.result.0.now c.number_of.result c.number_of.ensures.found c.number_of.ensures.small c.number_of.ensures.none
    ∙ ap number_in c.parted.ensures.word in
    record { command = rw (no_number c.args.left.now c.in-Some.text.now c.in-Some.ensures.cases lost) refl }
