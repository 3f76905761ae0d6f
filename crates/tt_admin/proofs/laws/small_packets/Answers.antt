use Rattle.std.proofs.Common.{◌≡◌, [], ◌∷◌, false, refl, arith}
use Rattle.tt_frame.proofs.SizeLaws.{is_one_of, body_size_but}
use Rattle.tt_frame.proofs.FamilyLaws.{spelled_size}
use Rattle.tt_admin.specs.Messages.{messages}
use Rattle.tt_admin.specs.Apart.{admin_family}
use Rattle.tt_admin.specs.declared.message.AdminMsg.{AdminMsg}
use Rattle.tt_admin.proofs.MessageLaws.{admin_lawful}
use Rattle.tt_admin.proofs.laws.small_packets.Goals as goal

pub returns-clause-read : goal.returns-clause-read
returns-clause-read c m kind body spelled = spelled_size AdminMsg admin_family admin_lawful m kind body spelled

-- the longest row of the table but that of the names has 1,457 bytes at most, as computing shows
pub returns-clause-sent : goal.returns-clause-sent
returns-clause-sent c m kind body no_names spelled =
    let other : is_one_of (122 ∷ []) kind ≡ false = grind arith in
    omega (arith, body_size_but AdminMsg (122 ∷ []) 1457 messages m kind body refl other spelled)
