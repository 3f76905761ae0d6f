use Rattle.std.proofs.Common.{refl, arith}
use Rattle.tt_frame.proofs.SizeLaws.{body_size}
use Rattle.tt_game.specs.Messages.{messages}
use Rattle.tt_game.specs.declared.message.GameMsg.{GameMsg}
use Rattle.tt_game.proofs.laws.small_packets.Goals as goal

-- the longest row of the table has 1,457 bytes at most, as computing shows
pub returns : goal.returns
returns c m kind body spelled = omega (arith, body_size GameMsg 1457 messages m kind body refl spelled)
