-- Each variant tells its own parts.
use Rattle.std.proofs.Common.{rules, refl}
use Rattle.tt_admin.proofs.kinds.tell_parts.Goals as goal

pub returns-in-AdminJoin : goal.returns-in-AdminJoin
returns-in-AdminJoin g c = c.told.ensures _ _ c.in-AdminJoin.is (search rules) (search)

pub returns-in-AdminUpdateFrequency : goal.returns-in-AdminUpdateFrequency
returns-in-AdminUpdateFrequency g c = c.told-in-AdminUpdateFrequency.ensures _ _ c.in-AdminUpdateFrequency.is refl (search)

pub returns-in-AdminPoll : goal.returns-in-AdminPoll
returns-in-AdminPoll g c = c.told-in-AdminPoll.ensures _ _ c.in-AdminPoll.is refl (search)

pub returns-in-AdminChat : goal.returns-in-AdminChat
returns-in-AdminChat g c = c.told-in-AdminChat.ensures _ _ c.in-AdminChat.is (search rules) (search rules)

pub returns-in-AdminRcon : goal.returns-in-AdminRcon
returns-in-AdminRcon g c = c.told-in-AdminRcon.ensures _ _ c.in-AdminRcon.is (rw c.bytes-in-AdminRcon.ensures.same refl) (search)

pub returns-in-AdminGamescript : goal.returns-in-AdminGamescript
returns-in-AdminGamescript g c = c.told-in-AdminGamescript.ensures _ _ c.in-AdminGamescript.is
    (rw c.bytes-in-AdminGamescript.ensures.same refl) (search)

pub returns-in-AdminPing : goal.returns-in-AdminPing
returns-in-AdminPing g c = c.told-in-AdminPing.ensures _ _ c.in-AdminPing.is refl (search)

pub returns-in-AdminExternalChat : goal.returns-in-AdminExternalChat
returns-in-AdminExternalChat g c = c.told-in-AdminExternalChat.ensures _ _ c.in-AdminExternalChat.is (search rules) (search)

pub returns-in-ServerError : goal.returns-in-ServerError
returns-in-ServerError g c = c.told-in-ServerError.ensures _ _ c.in-ServerError.is
    (rw c.get-in-ServerError.ensures.same refl) (search rules)

pub returns-in-ServerWelcome : goal.returns-in-ServerWelcome
returns-in-ServerWelcome g c = c.told-in-ServerWelcome.ensures _ _ c.in-ServerWelcome.is (search rules) (search)

pub returns-in-ServerDate : goal.returns-in-ServerDate
returns-in-ServerDate g c = c.told-in-ServerDate.ensures _ _ c.in-ServerDate.is refl (search)

pub returns-in-ServerClientJoin : goal.returns-in-ServerClientJoin
returns-in-ServerClientJoin g c = c.told-in-ServerClientJoin.ensures _ _ c.in-ServerClientJoin.is refl (search)

pub returns-in-ServerClientInfo : goal.returns-in-ServerClientInfo
returns-in-ServerClientInfo g c = c.told-in-ServerClientInfo.ensures _ _ c.in-ServerClientInfo.is
    (rw c.bytes-in-ServerClientInfo.ensures.same refl) (search)

pub returns-in-ServerClientUpdate : goal.returns-in-ServerClientUpdate
returns-in-ServerClientUpdate g c = c.told-in-ServerClientUpdate.ensures _ _ c.in-ServerClientUpdate.is
    (rw c.bytes-in-ServerClientUpdate.ensures.same refl) (search)

pub returns-in-ServerClientQuit : goal.returns-in-ServerClientQuit
returns-in-ServerClientQuit g c = c.told-in-ServerClientQuit.ensures _ _ c.in-ServerClientQuit.is refl (search)

pub returns-in-ServerClientError : goal.returns-in-ServerClientError
returns-in-ServerClientError g c = c.told-in-ServerClientError.ensures _ _ c.in-ServerClientError.is
    (rw c.get-in-ServerClientError.ensures.same refl) (search rules)

pub returns-in-ServerCompanyNew : goal.returns-in-ServerCompanyNew
returns-in-ServerCompanyNew g c = c.told-in-ServerCompanyNew.ensures _ _ c.in-ServerCompanyNew.is refl (search)

pub returns-in-ServerCompanyInfo : goal.returns-in-ServerCompanyInfo
returns-in-ServerCompanyInfo g c = c.told-in-ServerCompanyInfo.ensures _ _ c.in-ServerCompanyInfo.is
    (rw (c.bytes-in-ServerCompanyInfo.ensures.same, c.bytes-in-ServerCompanyInfo-2.ensures.same) refl) (search)

pub returns-in-ServerCompanyUpdate : goal.returns-in-ServerCompanyUpdate
returns-in-ServerCompanyUpdate g c = c.told-in-ServerCompanyUpdate.ensures _ _ c.in-ServerCompanyUpdate.is
    (rw (c.bytes-in-ServerCompanyUpdate.ensures.same, c.bytes-in-ServerCompanyUpdate-2.ensures.same) refl) (search)

pub returns-in-ServerCompanyRemove : goal.returns-in-ServerCompanyRemove
returns-in-ServerCompanyRemove g c = c.told-in-ServerCompanyRemove.ensures _ _ c.in-ServerCompanyRemove.is refl (search)

pub returns-in-ServerCompanyEconomy : goal.returns-in-ServerCompanyEconomy
returns-in-ServerCompanyEconomy g c = c.told-in-ServerCompanyEconomy.ensures _ _ c.in-ServerCompanyEconomy.is refl (search)

pub returns-in-ServerCompanyStats : goal.returns-in-ServerCompanyStats
returns-in-ServerCompanyStats g c = c.told-in-ServerCompanyStats.ensures _ _ c.in-ServerCompanyStats.is refl (search)

pub returns-in-ServerChat : goal.returns-in-ServerChat
returns-in-ServerChat g c = c.told-in-ServerChat.ensures _ _ c.in-ServerChat.is
    (rw (c.get-in-ServerChat.ensures.same, c.bytes-in-ServerChat.ensures.same) refl) (search rules)

pub returns-in-ServerRcon : goal.returns-in-ServerRcon
returns-in-ServerRcon g c = c.told-in-ServerRcon.ensures _ _ c.in-ServerRcon.is (rw c.bytes-in-ServerRcon.ensures.same refl) (search)

pub returns-in-ServerConsole : goal.returns-in-ServerConsole
returns-in-ServerConsole g c = c.told-in-ServerConsole.ensures _ _ c.in-ServerConsole.is
    (rw (c.bytes-in-ServerConsole.ensures.same, c.bytes-in-ServerConsole-2.ensures.same) refl) (search)

pub returns-in-ServerGamescript : goal.returns-in-ServerGamescript
returns-in-ServerGamescript g c = c.told-in-ServerGamescript.ensures _ _ c.in-ServerGamescript.is
    (rw c.bytes-in-ServerGamescript.ensures.same refl) (search)

pub returns-in-ServerRconEnd : goal.returns-in-ServerRconEnd
returns-in-ServerRconEnd g c = c.told-in-ServerRconEnd.ensures _ _ c.in-ServerRconEnd.is
    (rw c.bytes-in-ServerRconEnd.ensures.same refl) (search)

pub returns-in-ServerPong : goal.returns-in-ServerPong
returns-in-ServerPong g c = c.told-in-ServerPong.ensures _ _ c.in-ServerPong.is refl (search)

pub returns-in-ServerCmdLogging : goal.returns-in-ServerCmdLogging
returns-in-ServerCmdLogging g c = c.told-in-ServerCmdLogging.ensures _ _ c.in-ServerCmdLogging.is refl (search)
