use Rattle.std.proofs.Common.{◌≡◌, take}
use Rattle.tt_frame.proofs.texts.copied.Given as goal

abbrev pub invariant-loop-byte : goal.invariant-loop-byte
invariant-loop-byte g l = l.content.items ≡ take l.byte-index l.bytes
