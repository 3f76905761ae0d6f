use Rattle.tt_admin_desk.proofs.LineLaws.{command_is, text_left}
use Rattle.tt_admin_desk.proofs.commands.console.Goals as goal

pub command_of-requires : goal.command_of-requires
command_of-requires c = record {
  text = rw (c.parted.ensures.left, c.bytes.ensures.same) (text_left 899 c.args.text.now c.bytes.ensures.test);
}

pub returns : goal.returns
returns c = record {
  command = rw (command_is c.args.text.now, ← c.bytes.ensures.same, ← c.parted.ensures.word, ← c.parted.ensures.left)
      c.command_of.ensures.command;
}
