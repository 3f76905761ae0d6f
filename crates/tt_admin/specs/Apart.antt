-- Each message taken apart: the number and the body of its packet.
use Rattle.std.specs.Prelude.{ℕ, List}
use Rattle.tt_frame.specs.Apart.{Parted, part}
use Rattle.tt_frame.specs.Families.{Family, family_kind, family_body}
use Rattle.tt_admin.specs.declared.message.AdminMsg.{AdminMsg}
use Rattle.tt_admin.specs.declared.message.AdminMsg.TheVariants.{AdminJoin, AdminQuit, AdminUpdateFrequency, AdminPoll, AdminChat}
use Rattle.tt_admin.specs.declared.message.AdminMsg.TheVariants.{AdminRcon, AdminGamescript, AdminPing, AdminExternalChat, ServerFull}
use Rattle.tt_admin.specs.declared.message.AdminMsg.TheVariants.{ServerBanned, ServerError, ServerProtocol, ServerWelcome, ServerNewgame}
use Rattle.tt_admin.specs.declared.message.AdminMsg.TheVariants.{ServerShutdown, ServerDate, ServerClientJoin, ServerClientInfo}
use Rattle.tt_admin.specs.declared.message.AdminMsg.TheVariants.{ServerClientUpdate, ServerClientQuit, ServerClientError, ServerCompanyNew}
use Rattle.tt_admin.specs.declared.message.AdminMsg.TheVariants.{ServerCompanyInfo, ServerCompanyUpdate, ServerCompanyRemove}
use Rattle.tt_admin.specs.declared.message.AdminMsg.TheVariants.{ServerCompanyEconomy, ServerCompanyStats, ServerChat, ServerRcon}
use Rattle.tt_admin.specs.declared.message.AdminMsg.TheVariants.{ServerConsole, ServerCmdNames, ServerCmdLoggingOld, ServerGamescript}
use Rattle.tt_admin.specs.declared.message.AdminMsg.TheVariants.{ServerRconEnd, ServerPong, ServerCmdLogging}
use Rattle.tt_admin.specs.Messages.{messages}

-- its number, and the values of its fields in order
abbrev pub apart : AdminMsg → Parted messages
apart (AdminJoin password application version) = part messages 0 (password, (application, (version, tt)))
apart AdminQuit = part messages 1 tt
apart (AdminUpdateFrequency kind bits) = part messages 2 (kind, (bits, tt))
apart (AdminPoll kind id) = part messages 3 (kind, (id, tt))
apart (AdminChat scope to text) = part messages 4 (scope, (to, (text, tt)))
apart (AdminRcon text) = part messages 5 (text, tt)
apart (AdminGamescript text) = part messages 6 (text, tt)
apart (AdminPing id) = part messages 7 (id, tt)
apart (AdminExternalChat source colour user text) = part messages 8 (source, (colour, (user, (text, tt))))
apart ServerFull = part messages 100 tt
apart ServerBanned = part messages 101 tt
apart (ServerError code) = part messages 102 (code, tt)
apart (ServerProtocol version items) = part messages 103 (version, (items, tt))
apart (ServerWelcome name revision dedicated map seed landscape day width height) =
    part messages 104 (name, (revision, (dedicated, (map, (seed, (landscape, (day, (width, (height, tt)))))))))
apart ServerNewgame = part messages 105 tt
apart ServerShutdown = part messages 106 tt
apart (ServerDate day) = part messages 107 (day, tt)
apart (ServerClientJoin id) = part messages 108 (id, tt)
apart (ServerClientInfo client name company) = part messages 109 (client, (name, (company, tt)))
apart (ServerClientUpdate client name company) = part messages 110 (client, (name, (company, tt)))
apart (ServerClientQuit id) = part messages 111 (id, tt)
apart (ServerClientError id code) = part messages 112 (id, (code, tt))
apart (ServerCompanyNew id) = part messages 113 (id, tt)
apart (ServerCompanyInfo company name president password) = part messages 114 (company, (name, (president, (password, tt))))
apart (ServerCompanyUpdate company name president password) = part messages 115 (company, (name, (president, (password, tt))))
apart (ServerCompanyRemove id reason) = part messages 116 (id, (reason, tt))
apart (ServerCompanyEconomy company money loan) = part messages 117 (company, (money, (loan, tt)))
apart (ServerCompanyStats company signs) = part messages 118 (company, (signs, tt))
apart (ServerChat scope client text) = part messages 119 (scope, (client, (text, tt)))
apart (ServerRcon colour text) = part messages 120 (colour, (text, tt))
apart (ServerConsole origin text) = part messages 121 (origin, (text, tt))
apart (ServerCmdNames items) = part messages 122 (items, tt)
apart ServerCmdLoggingOld = part messages 123 tt
apart (ServerGamescript text) = part messages 124 (text, tt)
apart (ServerRconEnd text) = part messages 125 (text, tt)
apart (ServerPong id) = part messages 126 (id, tt)
apart (ServerCmdLogging client company code frame) = part messages 127 (client, (company, (code, (frame, tt))))

-- the messages of an admin
abbrev pub admin_family : Family AdminMsg
admin_family = record { table = messages; apart = apart }

-- its number
abbrev pub kind_of : AdminMsg → ℕ
kind_of m = family_kind admin_family m

-- the bytes of its body
abbrev pub body_bytes : AdminMsg → List ℕ
body_bytes m = family_body admin_family m
