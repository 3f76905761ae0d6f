-- What each message between an admin and the server is spelled as.
use Rattle.std.specs.Prelude.{◌≡◌, ◌⊎◌, ℕ, List, [], ◌∷◌}
use Rattle.tt_frame.specs.FieldForms.{◌⦂◌, u8, u16, u32, u64, up_to, truth, text}
use Rattle.tt_frame.specs.Rows.{end, ◌▸◌, marked}
use Rattle.tt_frame.specs.Tables.{Rule, row, SpelledBy}
use Rattle.tt_admin.specs.Items.{update_type, command_name}
use Rattle.tt_admin.specs.declared.message.AdminMsg.{AdminMsg}
use Rattle.tt_admin.specs.declared.message.AdminMsg.TheVariants.{AdminJoin, AdminQuit, AdminUpdateFrequency, AdminPoll, AdminChat}
use Rattle.tt_admin.specs.declared.message.AdminMsg.TheVariants.{AdminRcon, AdminGamescript, AdminPing, AdminExternalChat, ServerFull}
use Rattle.tt_admin.specs.declared.message.AdminMsg.TheVariants.{ServerBanned, ServerError, ServerProtocol, ServerWelcome, ServerNewgame}
use Rattle.tt_admin.specs.declared.message.AdminMsg.TheVariants.{ServerShutdown, ServerDate, ServerClientJoin, ServerClientInfo}
use Rattle.tt_admin.specs.declared.message.AdminMsg.TheVariants.{ServerClientUpdate, ServerClientQuit, ServerClientError, ServerCompanyNew}
use Rattle.tt_admin.specs.declared.message.AdminMsg.TheVariants.{ServerCompanyInfo, ServerCompanyUpdate, ServerCompanyRemove}
use Rattle.tt_admin.specs.declared.message.AdminMsg.TheVariants.{ServerCompanyEconomy, ServerCompanyStats, ServerChat, ServerRcon}
use Rattle.tt_admin.specs.declared.message.AdminMsg.TheVariants.{ServerConsole, ServerCmdNames, ServerCmdLoggingOld, ServerGamescript}
use Rattle.tt_admin.specs.declared.message.AdminMsg.TheVariants.{ServerRconEnd, ServerPong, ServerCmdLogging}

-- One line for each message: its number, its name, its fields in order with their names, and the variant that takes their
-- values in that order.
abbrev pub report_messages : List (Rule AdminMsg)
report_messages =
    row 107 "DATE" ("day" ⦂ u32 ▸ end) ServerDate
    ∷ row 108 "CLIENT_JOIN" ("id" ⦂ u32 ▸ end) ServerClientJoin
    ∷ row 109 "CLIENT_INFO" ("client" ⦂ u32 ▸ "name" ⦂ text 24 ▸ "company" ⦂ u8 ▸ end) ServerClientInfo
    ∷ row 110 "CLIENT_UPDATE" ("client" ⦂ u32 ▸ "name" ⦂ text 24 ▸ "company" ⦂ u8 ▸ end) ServerClientUpdate
    ∷ row 111 "CLIENT_QUIT" ("id" ⦂ u32 ▸ end) ServerClientQuit
    ∷ row 112 "CLIENT_ERROR" ("id" ⦂ u32 ▸ "code" ⦂ up_to 20 ▸ end) ServerClientError
    ∷ row 113 "COMPANY_NEW" ("id" ⦂ u8 ▸ end) ServerCompanyNew
    ∷ row 114 "COMPANY_INFO" ("company" ⦂ u8 ▸ "name" ⦂ text 31 ▸ "president" ⦂ text 31 ▸ "password" ⦂ truth ▸ end) ServerCompanyInfo
    ∷ row 115 "COMPANY_UPDATE" ("company" ⦂ u8 ▸ "name" ⦂ text 31 ▸ "president" ⦂ text 31 ▸ "password" ⦂ truth ▸ end) ServerCompanyUpdate
    ∷ row 116 "COMPANY_REMOVE" ("id" ⦂ u8 ▸ "reason" ⦂ u8 ▸ end) ServerCompanyRemove
    ∷ row 117 "COMPANY_ECONOMY" ("company" ⦂ u8 ▸ "money" ⦂ u64 ▸ "loan" ⦂ u32 ▸ end) ServerCompanyEconomy
    ∷ row 118 "COMPANY_STATS" ("company" ⦂ u8 ▸ "signs" ⦂ u16 ▸ end) ServerCompanyStats
    ∷ row 119 "CHAT" ("scope" ⦂ up_to 2 ▸ "client" ⦂ u32 ▸ "text" ⦂ text 899 ▸ end) ServerChat
    ∷ row 120 "RCON" ("colour" ⦂ u16 ▸ "text" ⦂ text 899 ▸ end) ServerRcon
    ∷ row 121 "CONSOLE" ("origin" ⦂ text 31 ▸ "text" ⦂ text 899 ▸ end) ServerConsole
    ∷ row 122 "CMD_NAMES" (marked 255 command_name end) ServerCmdNames
    ∷ row 123 "CMD_LOGGING_OLD" end ServerCmdLoggingOld
    ∷ row 124 "GAMESCRIPT" ("text" ⦂ text 899 ▸ end) ServerGamescript
    ∷ row 125 "RCON_END" ("text" ⦂ text 899 ▸ end) ServerRconEnd
    ∷ row 126 "PONG" ("id" ⦂ u32 ▸ end) ServerPong
    ∷ row 127 "CMD_LOGGING" ("client" ⦂ u32 ▸ "company" ⦂ u8 ▸ "code" ⦂ u16 ▸ "frame" ⦂ u32 ▸ end) ServerCmdLogging
    ∷ []

abbrev pub messages : List (Rule AdminMsg)
messages =
    row 0 "JOIN" ("password" ⦂ text 32 ▸ "application" ⦂ text 31 ▸ "version" ⦂ text 31 ▸ end) AdminJoin
    ∷ row 1 "QUIT" end AdminQuit
    ∷ row 2 "UPDATE_FREQUENCY" ("kind" ⦂ u16 ▸ "bits" ⦂ u16 ▸ end) AdminUpdateFrequency
    ∷ row 3 "POLL" ("kind" ⦂ u8 ▸ "id" ⦂ u32 ▸ end) AdminPoll
    ∷ row 4 "CHAT" ("scope" ⦂ up_to 2 ▸ "to" ⦂ u32 ▸ "text" ⦂ text 899 ▸ end) AdminChat
    ∷ row 5 "RCON" ("text" ⦂ text 899 ▸ end) AdminRcon
    ∷ row 6 "GAMESCRIPT" ("text" ⦂ text 899 ▸ end) AdminGamescript
    ∷ row 7 "PING" ("id" ⦂ u32 ▸ end) AdminPing
    ∷ row 8 "EXTERNAL_CHAT" ("source" ⦂ text 31 ▸ "colour" ⦂ u16 ▸ "user" ⦂ text 31 ▸ "text" ⦂ text 899 ▸ end) AdminExternalChat
    ∷ row 100 "FULL" end ServerFull
    ∷ row 101 "BANNED" end ServerBanned
    ∷ row 102 "ERROR" ("code" ⦂ up_to 20 ▸ end) ServerError
    ∷ row 103 "PROTOCOL" ("version" ⦂ u8 ▸ marked 255 update_type end) ServerProtocol
    ∷ row 104 "WELCOME" ("name" ⦂ text 31 ▸ "revision" ⦂ text 31 ▸ "dedicated" ⦂ truth ▸ "map" ⦂ text 31 ▸ "seed" ⦂ u32 ▸ "landscape" ⦂ u8
    ▸ "day" ⦂ u32 ▸ "width" ⦂ u16 ▸ "height" ⦂ u16 ▸ end) ServerWelcome
    ∷ row 105 "NEWGAME" end ServerNewgame
    ∷ row 106 "SHUTDOWN" end ServerShutdown
    ∷ report_messages

-- The body of a packet of that number spells the message: the fields of its line, each in its range, and nothing behind.
abbrev pub Spells : AdminMsg → ℕ → List ℕ → Type 0
Spells m kind body = SpelledBy messages m kind body

-- The numbers of the messages that take memory when they are read, since they have a list or a text of up to 899 bytes.
abbrev pub TakesMemory : ℕ → Type 0
TakesMemory kind =
    (kind ≡ 4) ⊎ (kind ≡ 5) ⊎ (kind ≡ 6) ⊎ (kind ≡ 8) ⊎ (kind ≡ 103) ⊎ (kind ≡ 119) ⊎ (kind ≡ 120) ⊎ (kind ≡ 121)
    ⊎ (kind ≡ 122) ⊎ (kind ≡ 124) ⊎ (kind ≡ 125)
