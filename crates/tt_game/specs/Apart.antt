-- Each message taken apart: the number and the body of its packet.
use Rattle.std.specs.Prelude.{ℕ, List}
use Rattle.tt_frame.specs.Apart.{Parted, part}
use Rattle.tt_frame.specs.Families.{Family, family_kind, family_body}
use Rattle.tt_game.specs.declared.message.GameMsg.{GameMsg}
use Rattle.tt_game.specs.declared.message.GameMsg.TheVariants.{ServerFull, ServerBanned, ClientJoin, ServerError, ClientGameInfo}
use Rattle.tt_game.specs.declared.message.GameMsg.TheVariants.{ServerGameInfo, ServerCheckNewgrfs, ClientNewgrfsChecked}
use Rattle.tt_game.specs.declared.message.GameMsg.TheVariants.{ServerNeedGamePassword, ClientGamePassword, ServerNeedCompanyPassword}
use Rattle.tt_game.specs.declared.message.GameMsg.TheVariants.{ClientCompanyPassword, ServerWelcome, ClientGetmap, ServerWait}
use Rattle.tt_game.specs.declared.message.GameMsg.TheVariants.{ServerMapBegin, ServerMapSize, ServerMapData, ServerMapDone, ClientMapOk}
use Rattle.tt_game.specs.declared.message.GameMsg.TheVariants.{ServerJoin, ServerFrame, ServerSync, ClientAck, ClientCommand, ServerCommand}
use Rattle.tt_game.specs.declared.message.GameMsg.TheVariants.{ClientChat, ServerChat, ClientSetName, ServerClientInfo, ClientSetPassword}
use Rattle.tt_game.specs.declared.message.GameMsg.TheVariants.{ClientMove, ServerMove, ClientError, ServerErrorQuit, ClientQuit, ServerQuit}
use Rattle.tt_game.specs.declared.message.GameMsg.TheVariants.{ServerShutdown, ServerNewgame}
use Rattle.tt_game.specs.Messages.{messages}

-- its number, and the values of its fields in order
abbrev pub apart : GameMsg → Parted messages
apart ServerFull = part messages 0 tt
apart ServerBanned = part messages 1 tt
apart (ClientJoin revision grf name company) = part messages 2 (revision, (grf, (name, (company, tt))))
apart (ServerError code) = part messages 3 (code, tt)
apart ClientGameInfo = part messages 4 tt
apart (ServerGameInfo name frame clients companies max password) =
    part messages 5 (name, (frame, (clients, (companies, (max, (password, tt))))))
apart (ServerCheckNewgrfs items) = part messages 6 (items, tt)
apart ClientNewgrfsChecked = part messages 7 tt
apart (ServerNeedGamePassword seed id) = part messages 8 (seed, (id, tt))
apart (ClientGamePassword digest) = part messages 9 (digest, tt)
apart (ServerNeedCompanyPassword seed id) = part messages 10 (seed, (id, tt))
apart (ClientCompanyPassword digest) = part messages 11 (digest, tt)
apart (ServerWelcome client seed id) = part messages 12 (client, (seed, (id, tt)))
apart ClientGetmap = part messages 13 tt
apart (ServerWait number) = part messages 14 (number, tt)
apart (ServerMapBegin frame) = part messages 15 (frame, tt)
apart (ServerMapSize size) = part messages 16 (size, tt)
apart (ServerMapData rest) = part messages 17 rest
apart ServerMapDone = part messages 18 tt
apart ClientMapOk = part messages 19 tt
apart (ServerJoin client) = part messages 20 (client, tt)
apart (ServerFrame frame max token) = part messages 21 (frame, (max, (token, tt)))
apart (ServerSync frame word) = part messages 22 (frame, (word, tt))
apart (ClientAck frame token) = part messages 23 (frame, (token, tt))
apart (ClientCommand company code number to text) = part messages 24 (company, (code, (number, (to, (text, tt)))))
apart (ServerCommand company code number to text frame sender) =
    part messages 25 (company, (code, (number, (to, (text, (frame, (sender, tt)))))))
apart (ClientChat scope to text) = part messages 26 (scope, (to, (text, tt)))
apart (ServerChat client scope text) = part messages 27 (client, (scope, (text, tt)))
apart (ClientSetName name) = part messages 28 (name, tt)
apart (ServerClientInfo client company name) = part messages 29 (client, (company, (name, tt)))
apart (ClientSetPassword digest) = part messages 30 (digest, tt)
apart (ClientMove company digest) = part messages 31 (company, (digest, tt))
apart (ServerMove client company) = part messages 32 (client, (company, tt))
apart (ClientError code) = part messages 33 (code, tt)
apart (ServerErrorQuit client code) = part messages 34 (client, (code, tt))
apart ClientQuit = part messages 35 tt
apart (ServerQuit client) = part messages 36 (client, tt)
apart ServerShutdown = part messages 37 tt
apart ServerNewgame = part messages 38 tt

-- the messages of a game
abbrev pub game_family : Family GameMsg
game_family = record { table = messages; apart = apart }

-- its number
abbrev pub kind_of : GameMsg → ℕ
kind_of m = family_kind game_family m

-- the bytes of its body
abbrev pub body_bytes : GameMsg → List ℕ
body_bytes m = family_body game_family m
