-- Each variant tells its own parts.
use Rattle.std.proofs.Common.{rules, refl}
use Rattle.tt_game.proofs.kinds.tell_parts.Goals as goal

pub returns-in-ClientJoin : goal.returns-in-ClientJoin
returns-in-ClientJoin g c = c.told-in-ClientJoin.ensures _ _ c.in-ClientJoin.is (search rules) (search)

pub returns-in-ServerError : goal.returns-in-ServerError
returns-in-ServerError g c = c.told-in-ServerError.ensures _ _ c.in-ServerError.is (search rules) (search rules)

pub returns-in-ServerGameInfo : goal.returns-in-ServerGameInfo
returns-in-ServerGameInfo g c = c.told-in-ServerGameInfo.ensures _ _ c.in-ServerGameInfo.is
    (rw c.bytes-in-ServerGameInfo.ensures.same refl) (search)

pub returns-in-ServerNeedGamePassword : goal.returns-in-ServerNeedGamePassword
returns-in-ServerNeedGamePassword g c = c.told-in-ServerNeedGamePassword.ensures _ _ c.in-ServerNeedGamePassword.is
    (rw c.bytes-in-ServerNeedGamePassword.ensures.same refl) (search)

pub returns-in-ClientGamePassword : goal.returns-in-ClientGamePassword
returns-in-ClientGamePassword g c = c.told-in-ClientGamePassword.ensures _ _ c.in-ClientGamePassword.is
    (rw c.bytes-in-ClientGamePassword.ensures.same refl) (search)

pub returns-in-ServerNeedCompanyPassword : goal.returns-in-ServerNeedCompanyPassword
returns-in-ServerNeedCompanyPassword g c = c.told-in-ServerNeedCompanyPassword.ensures _ _ c.in-ServerNeedCompanyPassword.is
    (rw c.bytes-in-ServerNeedCompanyPassword.ensures.same refl) (search)

pub returns-in-ClientCompanyPassword : goal.returns-in-ClientCompanyPassword
returns-in-ClientCompanyPassword g c = c.told-in-ClientCompanyPassword.ensures _ _ c.in-ClientCompanyPassword.is
    (rw c.bytes-in-ClientCompanyPassword.ensures.same refl) (search)

pub returns-in-ServerWelcome : goal.returns-in-ServerWelcome
returns-in-ServerWelcome g c = c.told-in-ServerWelcome.ensures _ _ c.in-ServerWelcome.is
    (rw c.bytes-in-ServerWelcome.ensures.same refl) (search)

pub returns-in-ServerWait : goal.returns-in-ServerWait
returns-in-ServerWait g c = c.told-in-ServerWait.ensures _ _ c.in-ServerWait.is refl (search)

pub returns-in-ServerMapBegin : goal.returns-in-ServerMapBegin
returns-in-ServerMapBegin g c = c.told-in-ServerMapBegin.ensures _ _ c.in-ServerMapBegin.is refl (search)

pub returns-in-ServerMapSize : goal.returns-in-ServerMapSize
returns-in-ServerMapSize g c = c.told-in-ServerMapSize.ensures _ _ c.in-ServerMapSize.is refl (search)

pub returns-in-ServerMapData : goal.returns-in-ServerMapData
returns-in-ServerMapData g c = c.told-in-ServerMapData.ensures _ _ c.in-ServerMapData.is
    (rw c.bytes-in-ServerMapData.ensures.same refl) (search)

pub returns-in-ServerJoin : goal.returns-in-ServerJoin
returns-in-ServerJoin g c = c.told-in-ServerJoin.ensures _ _ c.in-ServerJoin.is refl (search)

pub returns-in-ServerFrame : goal.returns-in-ServerFrame
returns-in-ServerFrame g c = c.told-in-ServerFrame.ensures _ _ c.in-ServerFrame.is refl (search)

pub returns-in-ServerSync : goal.returns-in-ServerSync
returns-in-ServerSync g c = c.told-in-ServerSync.ensures _ _ c.in-ServerSync.is refl (search)

pub returns-in-ClientAck : goal.returns-in-ClientAck
returns-in-ClientAck g c = c.told-in-ClientAck.ensures _ _ c.in-ClientAck.is refl (search)

pub returns-in-ClientCommand : goal.returns-in-ClientCommand
returns-in-ClientCommand g c = c.told-in-ClientCommand.ensures _ _ c.in-ClientCommand.is
    (rw c.bytes-in-ClientCommand.ensures.same refl) (search)

pub returns-in-ServerCommand : goal.returns-in-ServerCommand
returns-in-ServerCommand g c = c.told-in-ServerCommand.ensures _ _ c.in-ServerCommand.is
    (rw c.bytes-in-ServerCommand.ensures.same refl) (search)

pub returns-in-ClientChat : goal.returns-in-ClientChat
returns-in-ClientChat g c = c.told-in-ClientChat.ensures _ _ c.in-ClientChat.is
    (rw (c.get-in-ClientChat.ensures.same, c.bytes-in-ClientChat.ensures.same) refl) (search rules)

pub returns-in-ServerChat : goal.returns-in-ServerChat
returns-in-ServerChat g c = c.told-in-ServerChat.ensures _ _ c.in-ServerChat.is
    (rw (c.get-in-ServerChat.ensures.same, c.bytes-in-ServerChat.ensures.same) refl) (search rules)

pub returns-in-ClientSetName : goal.returns-in-ClientSetName
returns-in-ClientSetName g c = c.told-in-ClientSetName.ensures _ _ c.in-ClientSetName.is
    (rw c.bytes-in-ClientSetName.ensures.same refl) (search)

pub returns-in-ServerClientInfo : goal.returns-in-ServerClientInfo
returns-in-ServerClientInfo g c = c.told-in-ServerClientInfo.ensures _ _ c.in-ServerClientInfo.is
    (rw c.bytes-in-ServerClientInfo.ensures.same refl) (search)

pub returns-in-ClientSetPassword : goal.returns-in-ClientSetPassword
returns-in-ClientSetPassword g c = c.told-in-ClientSetPassword.ensures _ _ c.in-ClientSetPassword.is (search rules) (search)

pub returns-in-ClientMove : goal.returns-in-ClientMove
returns-in-ClientMove g c = c.told-in-ClientMove.ensures _ _ c.in-ClientMove.is
    (rw c.digits_or_none-in-ClientMove.ensures.same refl) (search)

pub returns-in-ServerMove : goal.returns-in-ServerMove
returns-in-ServerMove g c = c.told-in-ServerMove.ensures _ _ c.in-ServerMove.is refl (search)

pub returns-in-ClientError : goal.returns-in-ClientError
returns-in-ClientError g c = c.told-in-ClientError.ensures _ _ c.in-ClientError.is
    (rw c.get-in-ClientError.ensures.same refl) (search rules)

pub returns-in-ServerErrorQuit : goal.returns-in-ServerErrorQuit
returns-in-ServerErrorQuit g c = c.told-in-ServerErrorQuit.ensures _ _ c.in-ServerErrorQuit.is
    (rw c.get-in-ServerErrorQuit.ensures.same refl) (search rules)

pub returns-in-ServerQuit : goal.returns-in-ServerQuit
returns-in-ServerQuit g c = c.told-in-ServerQuit.ensures _ _ c.in-ServerQuit.is refl (search)
