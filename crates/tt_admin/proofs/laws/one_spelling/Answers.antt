use Rattle.tt_frame.proofs.FamilyLaws.{same_spelling}
use Rattle.tt_admin.specs.Apart.{admin_family}
use Rattle.tt_admin.specs.declared.message.AdminMsg.{AdminMsg}
use Rattle.tt_admin.proofs.MessageLaws.{admin_lawful}
use Rattle.tt_admin.proofs.laws.one_spelling.Goals as goal

pub returns : goal.returns
returns c m kind other body bytes = same_spelling AdminMsg admin_family admin_lawful m kind other body bytes
