-- Each variant tells its own parts.
use Rattle.std.proofs.Common.{rules}
use Rattle.tt_coord.proofs.coord.tell_parts.Goals as goal

pub returns-in-GcError : goal.returns-in-GcError
returns-in-GcError g c = c.told.ensures _ _ c.in-GcError.is (cc) (search rules)

pub returns-in-ServerRegister : goal.returns-in-ServerRegister
returns-in-ServerRegister g c = c.told-in-ServerRegister.ensures _ _ c.in-ServerRegister.is (search rules) (search)

pub returns-in-GcRegisterAck : goal.returns-in-GcRegisterAck
returns-in-GcRegisterAck g c = c.told-in-GcRegisterAck.ensures _ _ c.in-GcRegisterAck.is (cc) (search rules)

pub returns-in-ClientListing : goal.returns-in-ClientListing
returns-in-ClientListing g c = c.told-in-ClientListing.ensures _ _ c.in-ClientListing.is (cc) (search)

pub returns-in-ClientConnect : goal.returns-in-ClientConnect
returns-in-ClientConnect g c = c.told-in-ClientConnect.ensures _ _ c.in-ClientConnect.is (cc) (search)

pub returns-in-GcConnecting : goal.returns-in-GcConnecting
returns-in-GcConnecting g c = c.told-in-GcConnecting.ensures _ _ c.in-GcConnecting.is (cc) (search)

pub returns-in-SercliConnectFailed : goal.returns-in-SercliConnectFailed
returns-in-SercliConnectFailed g c = c.told-in-SercliConnectFailed.ensures _ _ c.in-SercliConnectFailed.is (cc) (search)

pub returns-in-GcConnectFailed : goal.returns-in-GcConnectFailed
returns-in-GcConnectFailed g c = c.told-in-GcConnectFailed.ensures _ _ c.in-GcConnectFailed.is (cc) (search)

pub returns-in-ClientConnected : goal.returns-in-ClientConnected
returns-in-ClientConnected g c = c.told-in-ClientConnected.ensures _ _ c.in-ClientConnected.is (cc) (search)

pub returns-in-GcDirectConnect : goal.returns-in-GcDirectConnect
returns-in-GcDirectConnect g c = c.told-in-GcDirectConnect.ensures _ _ c.in-GcDirectConnect.is (search rules) (search)

pub returns-in-GcStunRequest : goal.returns-in-GcStunRequest
returns-in-GcStunRequest g c = c.told-in-GcStunRequest.ensures _ _ c.in-GcStunRequest.is (cc) (search)

pub returns-in-SercliStunResult : goal.returns-in-SercliStunResult
returns-in-SercliStunResult g c = c.told-in-SercliStunResult.ensures _ _ c.in-SercliStunResult.is (search rules) (search rules)

pub returns-in-GcStunConnect : goal.returns-in-GcStunConnect
returns-in-GcStunConnect g c = c.told-in-GcStunConnect.ensures _ _ c.in-GcStunConnect.is (search rules) (search rules)

pub returns-in-GcTurnConnect : goal.returns-in-GcTurnConnect
returns-in-GcTurnConnect g c = c.told-in-GcTurnConnect.ensures _ _ c.in-GcTurnConnect.is (search rules) (search)
