-- What each message of a game is spelled as.
use Rattle.std.specs.Prelude.{◌≡◌, ◌⊎◌, ℕ, List, [], ◌∷◌}
use Rattle.tt_frame.specs.FieldForms.{◌⦂◌, byte, u8, u16, u32, up_to, truth, text, digest, optional_digest}
use Rattle.tt_frame.specs.Rows.{end, rest, ◌▸◌, counted}
use Rattle.tt_frame.specs.Tables.{Rule, row, SpelledBy}
use Rattle.tt_game.specs.Items.{file}
use Rattle.tt_game.specs.declared.message.GameMsg.{GameMsg}
use Rattle.tt_game.specs.declared.message.GameMsg.TheVariants.{ServerFull, ServerBanned, ClientJoin, ServerError, ClientGameInfo}
use Rattle.tt_game.specs.declared.message.GameMsg.TheVariants.{ServerGameInfo, ServerCheckNewgrfs, ClientNewgrfsChecked}
use Rattle.tt_game.specs.declared.message.GameMsg.TheVariants.{ServerNeedGamePassword, ClientGamePassword, ServerNeedCompanyPassword}
use Rattle.tt_game.specs.declared.message.GameMsg.TheVariants.{ClientCompanyPassword, ServerWelcome, ClientGetmap, ServerWait}
use Rattle.tt_game.specs.declared.message.GameMsg.TheVariants.{ServerMapBegin, ServerMapSize, ServerMapData, ServerMapDone, ClientMapOk}
use Rattle.tt_game.specs.declared.message.GameMsg.TheVariants.{ServerJoin, ServerFrame, ServerSync, ClientAck, ClientCommand, ServerCommand}
use Rattle.tt_game.specs.declared.message.GameMsg.TheVariants.{ClientChat, ServerChat, ClientSetName, ServerClientInfo, ClientSetPassword}
use Rattle.tt_game.specs.declared.message.GameMsg.TheVariants.{ClientMove, ServerMove, ClientError, ServerErrorQuit, ClientQuit, ServerQuit}
use Rattle.tt_game.specs.declared.message.GameMsg.TheVariants.{ServerShutdown, ServerNewgame}

-- One line for each message: its number, its name, its fields in order with their names, and the variant that takes their
-- values in that order.
abbrev pub playing_messages : List (Rule GameMsg)
playing_messages =
    row 20 "SERVER_JOIN" ("client" ⦂ u32 ▸ end) ServerJoin
    ∷ row 21 "SERVER_FRAME" ("frame" ⦂ u32 ▸ "max" ⦂ u32 ▸ "token" ⦂ u8 ▸ end) ServerFrame
    ∷ row 22 "SERVER_SYNC" ("frame" ⦂ u32 ▸ "word" ⦂ u32 ▸ end) ServerSync
    ∷ row 23 "CLIENT_ACK" ("frame" ⦂ u32 ▸ "token" ⦂ u8 ▸ end) ClientAck
    ∷ row 24 "CLIENT_COMMAND" ("company" ⦂ u8 ▸ "code" ⦂ u16 ▸ "number" ⦂ u32 ▸ "to" ⦂ u8 ▸ "text" ⦂ text 31 ▸ end) ClientCommand
    ∷ row 25 "SERVER_COMMAND" ("company" ⦂ u8 ▸ "code" ⦂ u16 ▸ "number" ⦂ u32 ▸ "to" ⦂ u8 ▸ "text" ⦂ text 31 ▸ "frame" ⦂ u32 ▸ "sender" ⦂
    u32 ▸ end) ServerCommand
    ∷ row 26 "CLIENT_CHAT" ("scope" ⦂ up_to 2 ▸ "to" ⦂ u32 ▸ "text" ⦂ text 899 ▸ end) ClientChat
    ∷ row 27 "SERVER_CHAT" ("client" ⦂ u32 ▸ "scope" ⦂ up_to 2 ▸ "text" ⦂ text 899 ▸ end) ServerChat
    ∷ row 28 "CLIENT_SET_NAME" ("name" ⦂ text 24 ▸ end) ClientSetName
    ∷ row 29 "SERVER_CLIENT_INFO" ("client" ⦂ u32 ▸ "company" ⦂ u8 ▸ "name" ⦂ text 24 ▸ end) ServerClientInfo
    ∷ row 30 "CLIENT_SET_PASSWORD" ("digest" ⦂ optional_digest ▸ end) ClientSetPassword
    ∷ row 31 "CLIENT_MOVE" ("company" ⦂ u8 ▸ "digest" ⦂ optional_digest ▸ end) ClientMove
    ∷ row 32 "SERVER_MOVE" ("client" ⦂ u32 ▸ "company" ⦂ u8 ▸ end) ServerMove
    ∷ row 33 "CLIENT_ERROR" ("code" ⦂ up_to 20 ▸ end) ClientError
    ∷ row 34 "SERVER_ERROR_QUIT" ("client" ⦂ u32 ▸ "code" ⦂ up_to 20 ▸ end) ServerErrorQuit
    ∷ row 35 "CLIENT_QUIT" end ClientQuit
    ∷ row 36 "SERVER_QUIT" ("client" ⦂ u32 ▸ end) ServerQuit
    ∷ row 37 "SERVER_SHUTDOWN" end ServerShutdown
    ∷ row 38 "SERVER_NEWGAME" end ServerNewgame
    ∷ []

abbrev pub messages : List (Rule GameMsg)
messages =
    row 0 "SERVER_FULL" end ServerFull
    ∷ row 1 "SERVER_BANNED" end ServerBanned
    ∷ row 2 "CLIENT_JOIN" ("revision" ⦂ text 31 ▸ "grf" ⦂ u32 ▸ "name" ⦂ text 24 ▸ "company" ⦂ u8 ▸ end) ClientJoin
    ∷ row 3 "SERVER_ERROR" ("code" ⦂ up_to 20 ▸ end) ServerError
    ∷ row 4 "CLIENT_GAME_INFO" end ClientGameInfo
    ∷ row 5 "SERVER_GAME_INFO" ("name" ⦂ text 31 ▸ "frame" ⦂ u32 ▸ "clients" ⦂ u8 ▸ "companies" ⦂ u8 ▸ "max" ⦂ u8 ▸ "password" ⦂ truth ▸
    end) ServerGameInfo
    ∷ row 6 "SERVER_CHECK_NEWGRFS" (counted byte 62 file end) ServerCheckNewgrfs
    ∷ row 7 "CLIENT_NEWGRFS_CHECKED" end ClientNewgrfsChecked
    ∷ row 8 "SERVER_NEED_GAME_PASSWORD" ("seed" ⦂ u32 ▸ "id" ⦂ text 31 ▸ end) ServerNeedGamePassword
    ∷ row 9 "CLIENT_GAME_PASSWORD" ("digest" ⦂ digest ▸ end) ClientGamePassword
    ∷ row 10 "SERVER_NEED_COMPANY_PASSWORD" ("seed" ⦂ u32 ▸ "id" ⦂ text 31 ▸ end) ServerNeedCompanyPassword
    ∷ row 11 "CLIENT_COMPANY_PASSWORD" ("digest" ⦂ digest ▸ end) ClientCompanyPassword
    ∷ row 12 "SERVER_WELCOME" ("client" ⦂ u32 ▸ "seed" ⦂ u32 ▸ "id" ⦂ text 31 ▸ end) ServerWelcome
    ∷ row 13 "CLIENT_GETMAP" end ClientGetmap
    ∷ row 14 "SERVER_WAIT" ("number" ⦂ u8 ▸ end) ServerWait
    ∷ row 15 "SERVER_MAP_BEGIN" ("frame" ⦂ u32 ▸ end) ServerMapBegin
    ∷ row 16 "SERVER_MAP_SIZE" ("size" ⦂ u32 ▸ end) ServerMapSize
    ∷ row 17 "SERVER_MAP_DATA" (rest 1 1400) ServerMapData
    ∷ row 18 "SERVER_MAP_DONE" end ServerMapDone
    ∷ row 19 "CLIENT_MAP_OK" end ClientMapOk
    ∷ playing_messages

-- The body of a packet of that number spells the message: the fields of its line, each in its range, and nothing behind.
abbrev pub Spells : GameMsg → ℕ → List ℕ → Type 0
Spells m kind body = SpelledBy messages m kind body

-- The numbers of the messages that take memory when they are read: the files, a piece of the map, and a line of chat both ways.
abbrev pub TakesMemory : ℕ → Type 0
TakesMemory kind = (kind ≡ 6) ⊎ (kind ≡ 17) ⊎ (kind ≡ 26) ⊎ (kind ≡ 27)
