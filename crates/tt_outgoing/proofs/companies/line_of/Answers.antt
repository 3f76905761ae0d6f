use Rattle.std.proofs.Common.{◌∙◌, ap, List, ℕ}
use Rattle.tt_frame.specs.Text.{is_text}
use Rattle.tt_outgoing.proofs.LineTexts.{line_fits}
use Rattle.tt_outgoing.proofs.companies.line_of.Goals as goal

pub long_text_of-requires : goal.long_text_of-requires
long_text_of-requires c = record {
  text = ap (λ (l : List ℕ). is_text 899 l) (c.as_slice.ensures.value ∙ c.in_ok-line.ensures.line)
      ∙ line_fits c.args.number c.args.company.now c.requires.number c.requires.sound;
}
