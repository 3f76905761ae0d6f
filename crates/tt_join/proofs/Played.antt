-- What packets do in the game, as plans.
use Rattle.std.proofs.Common.{◌≡◌, ℕ, List, [], ◌∷◌, ◌++◌, refl, sym, ap, ◌∙◌, Option, Some, None}
use Rattle.std.specs.Prelude.{find}
use Rattle.std.proofs.lemmas.List.{append-nil}
use Rattle.tt_world.specs.declared.command.Command.{Command}
use Rattle.tt_world.specs.declared.command.Entry.{Entry}
use Rattle.tt_world.specs.declared.setup.Setup.{Setup}
use Rattle.tt_game.specs.declared.message.GameMsg.TheVariants.{ServerMove}
use Rattle.tt_admin.specs.declared.message.AdminMsg.TheVariants.{ServerClientUpdate}
use Rattle.tt_log.specs.Admin.{client_updates}
use Rattle.tt_log.specs.Console.{orders}
use Rattle.tt_log.specs.Deed.{where_some}
use Rattle.tt_log.specs.Member.{Member}
use Rattle.tt_log.specs.PacketRules.{chats, command_waits, locks, moves}
use Rattle.tt_log.specs.Table.{is_on, playing, with_digest, with_member}
use Rattle.tt_members.specs.Crew.{Crew, Rest, table_at}
use Rattle.tt_members.specs.Done.{Does}
use Rattle.tt_members.specs.Edits.{moved, on}
use Rattle.tt_members.specs.Leaving.{playing_in}
use Rattle.tt_members.specs.Rules.{Rise}
use Rattle.tt_members.specs.Steps.{says_several, shows, steps_in}
use Rattle.tt_members.proofs.Found.{with_found}
use Rattle.tt_join.specs.Playing.{chatting, locking, moving_to, ordering, waiting}
use Rattle.tt_join.proofs.Welcomes.{same-playing, settled}

-- COMMAND
pub command_does : (setup : Setup) (crew : Crew) (frame top : ℕ) (r : Rest) (m : Member) (company : ℕ) (command : Option Command)
    → Rise crew.members → find (is_on m.conn) crew.members ≡ Some m
    → Does setup crew frame top r (λ o t. where_some command (command_waits m company) t) (waiting m company command)
command_does setup crew frame top r m company None rise is =
    let t = table_at crew frame top r in record { told = refl; table = settled t t crew.members refl }
command_does setup crew frame top r m company (Some command) rise is =
    let t = table_at crew frame top r in
    let waits : Member → Member = λ n. record n { waiting = n.waiting ++ (company, command) ∷ [] } in
    record {
      told = refl;
      table = settled t (with_member (waits m) t) (on m.conn waits crew.members) (with_found 0 m.conn waits m t rise is refl);
    }

-- CHAT, and what the server says
pub chat_does : (setup : Setup) (crew : Crew) (frame top : ℕ) (r : Rest) (client scope to : ℕ) (text : List ℕ)
    → Does setup crew frame top r (λ o t. chats client scope to text t) (chatting client scope to text crew.members)
chat_does setup crew frame top r client scope to text =
    let t = table_at crew frame top r in record { told = refl; table = settled t t crew.members refl }

-- SET_PASSWORD
pub set_password_does : (setup : Setup) (crew : Crew) (frame top : ℕ) (r : Rest) (m : Member) (digest : Option (List ℕ))
    → Does setup crew frame top r (λ o t. locks m digest t) (locking m digest)
set_password_does setup crew frame top r m digest =
    let t = table_at crew frame top r in
    record {
      told = refl;
      table = ap (λ (j : List Entry). record (with_digest m.company digest t) { journal = j }) (append-nil r.journal);
    }

-- MOVE
pub move_does : (setup : Setup) (crew : Crew) (frame top : ℕ) (r : Rest) (m : Member) (company : ℕ) → Rise crew.members
    → find (is_on m.conn) crew.members ≡ Some m
    → Does setup crew frame top r (λ o t. moves m company t) (moving_to company crew.members m)
move_does setup crew frame top r m company rise is =
    let t = table_at crew frame top r in
    let x : Member = moved company m in
    let found = with_found 0 m.conn (moved company) m t rise is refl in
    let plays : playing (with_member x t) ≡ playing_in crew.members = ap playing found
    ∙ same-playing m.conn (moved company) crew.members (λ k. refl) (λ k. refl) in
    record {
      told = ap (λ cs. steps_in r.admins (says_several cs (ServerMove m.client company)
          ∷ shows client_updates (ServerClientUpdate m.client m.name company) ∷ [])) (sym plays);
      table = settled t (with_member x t) (on m.conn (moved company) crew.members) found;
    }

-- a command of the server's own
pub order_does : (setup : Setup) (crew : Crew) (frame top : ℕ) (r : Rest) (command : Command)
    → Does setup crew frame top r (λ o t. orders command t) (ordering command)
order_does setup crew frame top r command =
    let t = table_at crew frame top r in
    record {
      told = refl;
      table = ap (λ (j : List Entry). record t { own = crew.own ++ command ∷ []; journal = j }) (append-nil r.journal);
    }
