use Rattle.tt_table.proofs.ClientLines.{plain_fits}
use Rattle.tt_table.proofs.answers.words.Goals as goal

pub long_text-requires : goal.long_text-requires
long_text-requires c = record { text = plain_fits 899 c.args.text.now c.requires.plain c.requires.few }
