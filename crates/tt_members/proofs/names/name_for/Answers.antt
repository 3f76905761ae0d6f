use Rattle.tt_frame.proofs.TextLaws.{IsText-from_is_text, length_of_text}
use Rattle.tt_members.proofs.names.name_for.Goals as goal

pub as_name-requires : goal.as_name-requires
as_name-requires c = record { text = IsText-from_is_text 24 c.args.wanted.now c.requires.text }

pub first_free-requires : goal.first_free-requires
first_free-requires c = record {
  text = IsText-from_is_text 24 c.args.wanted.now c.requires.text;
  short = length_of_text 24 c.args.wanted.now c.requires.text;
}
