-- Whatever the rules tell has its spelling, and what is in range stays so.
use Rattle.std.proofs.Common.{◌≡◌, inl, inr, ℕ, ◌+◌, ◌<◌, ◌≤◌, Bool, true, false, List, [], ◌∷◌, ◌++◌, Option, Some, None, refl, ap₂, sym}
use Rattle.std.proofs.Common.{subst, arith, lit<}
use Rattle.std.specs.Prelude.{◌^◌, ◌==◌, codes, cond, decimal, flat_map, length, map, min, nat_le, not, take}
use Rattle.std.specs.List.{AllByRecursion}
use Rattle.std.proofs.Math.Nat.{min-le_right}
use Rattle.std.proofs.lemmas.Bool.{leb-false}
use Rattle.std.proofs.lemmas.List.{length-append, length-map}
use Rattle.std.proofs.lemmas.Fmt.{length-decimal-le}
use Rattle.tt_frame.specs.Text.{IsText, is_text}
use Rattle.tt_frame.proofs.TextLaws.{is_text-from_IsText, IsText-from_is_plain, IsText-from_is_text, length_of_text}
use Rattle.tt_edge.specs.declared.event.Event.{Event}
use Rattle.tt_game.specs.declared.message.GameMsg.{GameMsg}
use Rattle.tt_game.specs.declared.message.GameMsg.TheVariants.{ServerFull, ServerError, ServerGameInfo, ServerNeedGamePassword}
use Rattle.tt_game.specs.declared.message.GameMsg.TheVariants.{ServerNeedCompanyPassword, ServerWelcome, ServerWait, ServerFrame}
use Rattle.tt_game.specs.declared.message.GameMsg.TheVariants.{ServerJoin}
use Rattle.tt_game.specs.declared.message.GameMsg.TheVariants.{ServerClientInfo, ServerMove, ServerChat, ServerErrorQuit, ServerQuit}
use Rattle.tt_game.specs.declared.message.GameMsg.TheVariants.{ServerShutdown, ClientJoin}
use Rattle.tt_admin.specs.declared.message.AdminMsg.{AdminMsg}
use Rattle.tt_admin.specs.declared.message.AdminMsg.TheVariants as admins
use Rattle.tt_world.specs.declared.command.Code.{Code}
use Rattle.tt_world.specs.declared.command.Command.{Command}
use Rattle.tt_rules.specs.Commands.{code_of, command_with}
use Rattle.tt_log.specs.declared.deed.Step.{Step}
use Rattle.tt_log.specs.declared.deed.What.{What}
use Rattle.tt_log.specs.declared.deed.What.TheVariants.{Msg, Stamp, Sync}
use Rattle.tt_log.specs.declared.report.Report.{Report}
use Rattle.tt_log.specs.declared.report.Report.TheVariants.{Message}
use Rattle.tt_log.specs.Origin.{Origin, IsOrigin}
use Rattle.tt_log.specs.Member.{Member, new_member}
use Rattle.tt_log.specs.Table.{Table, count_living, is_on, living_in, with_member}
use Rattle.tt_log.specs.Deed.{game, admin}
use Rattle.tt_log.specs.Frames.{fresh_token, opened_token}
use Rattle.tt_log.specs.Judged.{is_empty, is_same_game, may_ask_for, founder}
use Rattle.tt_log.specs.Names.{given_name, is_too_long}
use Rattle.tt_log.specs.PacketRules.{closed_token, first_company}
use Rattle.tt_log.specs.Desk.{admin_arrives, counted_aside, most_admins}
use Rattle.tt_log.specs.Tick.{drawn, entry_of, own_entry, stamps}
use Rattle.tt_log.specs.Events.{arrives, counted_in, deed, last_frame, stepped}
use Rattle.tt_log.specs.History.{IsEvent}
use Rattle.tt_log.proofs.Lists.{all-append, all-drop, all-filter, all-map, all-take, among-all}
use Rattle.tt_log.proofs.Crew.{On, put-all}
use Rattle.tt_log.proofs.Places.{living-places}
use Rattle.tt_log.proofs.Changes.{Allows, By, Change, wants_password, is_let_in, gets_token, gets_frame, answers, plays, commands}
use Rattle.tt_log.proofs.Changes.{has_name, goes_to, founds, gets_pieces, has_all, Asks, May, turned, turned_in, steps_with, moved, Move}
use Rattle.tt_log.proofs.Changes.{queues, begins_map, loads, IsClient, IsSeated, IsReason, IsEnd, IsChat, IsTalk, IsNews, IsNotice}
use Rattle.tt_log.proofs.Changes.{IsAnswer, IsReport}
use Rattle.tt_log.proofs.Walk.{Turns, ahead-of, behind-of}
use Rattle.tt_log.proofs.Walk.{running, told_moved, IsOrdered, Base, Walk, Doors, Closing, Moves, Ticks, of-asks, of-enters}
use Rattle.tt_log.proofs.Walk.{of-leaves, of-deed}
use Rattle.tt_log.proofs.Marking.{fresh-low, last-none, none-first}
use Rattle.tt_log.proofs.Reading.{join-fits, command-fits, chat-fits, name-fits, move-fits, error-fits, ping-fits, rcon-fits}
use Rattle.tt_log.proofs.Reading.{aside-fits}
use Rattle.tt_log.proofs.GivenNames.{given-fits, given-some}
use Rattle.tt_log.proofs.GivenNames.{decimal-text, text-append}
use Rattle.tt_log.proofs.Announced.{announced-fits}
use Rattle.tt_log.proofs.Companies.{empty-text, filter-short, name-text}
use Rattle.tt_log.proofs.Sending.{IsSent, admin-spelled, game-spelled, names-sent, protocol-sent}
use Rattle.tt_log.specs.Ranges.{FitsCommand, FitsEntry, FitsWaiting, FitsMember}
use Rattle.tt_log.proofs.Ranges.{FitsTable, FitsReport, FitsSteps, FitsWhat}
use Rattle.tt_log.proofs.Ranges.{code-small, low-code, low-scope, low-byte}

-- ---- what was not refused

join-short : (o : Origin) (e : Event) (t : Table) (m : Member) (revision : List ℕ) (grf : ℕ) (name : List ℕ) (company : ℕ)
    → Allows o e t m (ClientJoin revision grf name company) → is_too_long (given_name t m.conn name) ≡ false
join-short o e t m revision grf name company a =
    let live : List Bool = living_in o t in
    let one = none-first (not (is_same_game o revision grf)) 8 _ a.table in
    let two = none-first (is_empty name) 20 _ one.1 in
    let three = none-first (not (may_ask_for live company)) 11 _ two.1 in
    last-none (is_too_long (given_name t m.conn name)) 9 three.1

join-named : (o : Origin) (e : Event) (t : Table) (m : Member) (revision : List ℕ) (grf : ℕ) (name : List ℕ) (company : ℕ)
    → Allows o e t m (ClientJoin revision grf name company) → is_empty name ≡ false
join-named o e t m revision grf name company a =
    let one = none-first (not (is_same_game o revision grf)) 8 _ a.table in (none-first (is_empty name) 20 _ one.1).0

some-name : (name : List ℕ) → is_empty name ≡ false → 1 ≤ length name
some-name [] is = absurd cc
some-name (b ∷ bytes) is = omega arith

-- ---- texts

question : is_text 24 (codes "?") ≡ true
question = is_text-from_IsText 24 (codes "?") (IsText-from_is_plain (codes "?") refl) (omega arith)

first-small : (asked : ℕ) → asked < 2 ^ 8 → first_company asked < 2 ^ 8
first-small asked l = elim (asked == founder) as (λ b. cond b 255 asked < 2 ^ 8) [ true ↦ lit< tt | false ↦ l ]

-- ---- members

same-member : (m n : Member) → n.client ≡ m.client → n.asked ≡ m.asked → n.company ≡ m.company → n.name ≡ m.name → n.waiting ≡ m.waiting
    → FitsMember m → FitsMember n
same-member m n client asked company name waiting h = record {
  client = rw client h.client;
  asked = rw asked h.asked;
  company = rw company h.company;
  name = rw name h.name;
  some = rw name h.some;
  waiting = rw waiting h.waiting;
}

put-fits : (t : Table) (o : Origin) (n : Member) (words : ℕ × ℕ) → FitsMember n → FitsTable o t
    → FitsTable o (with_member n (record t { tokens = words }))
put-fits t o n words f h = record {
  members = put-all FitsMember n t.members f h.members;
  few = let l = length-map t.members (λ x. cond (x.conn == n.conn) n x) in omega (arith, l, h.few);
  own = h.own;
  journal = h.journal;
  near = h.near;
}

found-fits : (o : Origin) (t : Table) (m : Member) → On t m → FitsTable o t → FitsMember m
found-fits o t m on h = among-all FitsMember m t.members on h.members

-- the command that waits
command-by : (c : Option Code) (number to : ℕ) (text : List ℕ) (command : Command) → command_with c number to text ≡ Some command
    → number < 2 ^ 32 → to < 2 ^ 8 → is_text 31 text ≡ true → FitsCommand command
command-by None number to text command is a b d = absurd cc
command-by (Some code) number to text command is a b d =
    let made : Command = record { code = code; number = number; to = to; text = text } in
    let same : made ≡ command = cc in subst FitsCommand same (record { number = a; to = b; text = d })

-- how far the permitted frame may be
top-low : (o : Origin) (t : Table) → IsOrigin o → t.frame ≤ last_frame → FitsTable o t → t.top + 1 < 2 ^ 32
top-low o t ok low h = let freq : o.setup.frame_freq ≤ 64 = ok.setup.frame_freq.1 in omega (arith, low, h.near, freq)

low-frame : {n : ℕ} → n ≤ last_frame → n < 2 ^ 32
low-frame l = omega (arith, l)

before-next : {n : ℕ} → n + 1 < 2 ^ 32 → n < 2 ^ 32
before-next l = omega (arith, l)

-- a client's line on the console
line-text : (client company : ℕ) (name : List ℕ) → client < 2 ^ 32 → company < 2 ^ 8 → is_text 24 name ≡ true
    → is_text 899 (decimal client ++ codes " " ++ decimal company ++ codes " " ++ name) ≡ true
line-text client company name few low is =
    let blank : IsText (codes " ") = IsText-from_is_plain (codes " ") refl in
    let a : List ℕ = decimal client in
    let b : List ℕ = decimal company in
    let la = length-decimal-le 20 client (omega arith) (omega (arith, few)) (omega (arith, few)) in
    let lb = length-decimal-le 20 company (omega arith) (omega (arith, low)) (omega (arith, low)) in
    let n1 = length-append a (codes " ") in
    let n2 = length-append (a ++ codes " ") b in
    let n3 = length-append (a ++ codes " " ++ b) (codes " ") in
    let n4 = length-append (a ++ codes " " ++ b ++ codes " ") name in
    let t1 : IsText (a ++ codes " ") = text-append a (codes " ") (decimal-text client (omega (arith, few))) blank in
    let t2 : IsText (a ++ codes " " ++ b) = text-append (a ++ codes " ") b t1 (decimal-text company (omega (arith, low))) in
    let t3 : IsText (a ++ codes " " ++ b ++ codes " ") = text-append (a ++ codes " " ++ b) (codes " ") t2 blank in
    let t4 : IsText (a ++ codes " " ++ b ++ codes " " ++ name) =
    text-append (a ++ codes " " ++ b ++ codes " ") name t3 (IsText-from_is_text 24 name is) in
    let short = length_of_text 24 name is in
    is_text-from_IsText 899 (a ++ codes " " ++ b ++ codes " " ++ name) t4 (omega (arith, la, lb, n1, n2, n3, n4, short))

origin-text : is_text 31 (codes "admin") ≡ true
origin-text = is_text-from_IsText 31 (codes "admin") (IsText-from_is_plain (codes "admin") refl) (omega arith)

module _ (o : Origin) (e : Event) (ok : IsOrigin o) (bytes : IsEvent e) where
  asked-fits : (t : Table) (m : Member) (name : List ℕ) (asked : ℕ) → Asks o e t m name asked → FitsTable o t → FitsMember m
      → (is_text 24 name ≡ true) × (asked < 2 ^ 8) × (1 ≤ length name)
  asked-fits t m name asked (inl before) h f = (rw before.0 f.name, rw before.1 f.asked, rw before.0 f.some)
  asked-fits t m name asked (inr (at, (revision, grf, wanted, is, allowed))) h f =
      let said = join-fits e m revision grf wanted asked bytes allowed.says in (
        subst (λ (s : List ℕ). is_text 24 s ≡ true) (sym is) (given-fits t m.conn wanted h.few said.0
            (join-short o e t m revision grf wanted asked allowed)),
        said.1,
        subst (λ (s : List ℕ). 1 ≤ length s) (sym is) (given-some t m.conn wanted
            (some-name wanted (join-named o e t m revision grf wanted asked allowed))),
      )

  acked-fits : (b : Bool) (frame : ℕ) (m : Member) → FitsMember m → FitsMember (record (cond b m (closed_token m)) { acked = frame })
  acked-fits true frame m f = same-member m _ refl refl refl refl refl f
  acked-fits false frame m f = same-member m _ refl refl refl refl refl f

  turned-fits : (c : Change) (t : Table) (m : Member) → May o e t m c → By e m c → FitsTable o t → FitsMember m → FitsMember (turned c t m)
  turned-fits (wants_password true name asked) t m may by h f = let a = asked-fits t m name asked may h f in
      record { client = f.client; asked = a.1; company = f.company; name = a.0; some = a.2; waiting = f.waiting }
  turned-fits (wants_password false name asked) t m may by h f = let a = asked-fits t m name asked may h f in
      record { client = f.client; asked = a.1; company = f.company; name = a.0; some = a.2; waiting = f.waiting }
  turned-fits (is_let_in name asked) t m may by h f = let a = asked-fits t m name asked may h f in
      record { client = f.client; asked = a.1; company = first-small asked a.1; name = a.0; some = a.2; waiting = f.waiting }
  turned-fits gets_token t m may by h f = same-member m _ refl refl refl refl refl f
  turned-fits gets_frame t m may by h f = same-member m _ refl refl refl refl refl f
  turned-fits (answers frame token) t m may by h f = acked-fits (token == 0) frame m f
  turned-fits plays t m may by h f = same-member m _ refl refl refl refl refl f
  turned-fits (commands company code number to text command) t m may by h f =
      let said = command-fits e m company code number to text bytes by in
      record {
        client = f.client;
        asked = f.asked;
        company = f.company;
        name = f.name;
        some = f.some;
        waiting = all-append FitsWaiting m.waiting ((company, command) ∷ []) f.waiting
            ((said.0, command-by (code_of code) number to text command may.0 said.1 said.2 said.3), tt);
      }
  turned-fits (has_name name) t m may by h f =
      let one = none-first (is_empty name) 20 _ may.table in
      record {
        client = f.client;
        asked = f.asked;
        company = f.company;
        name = given-fits t m.conn name h.few (name-fits e m name bytes may.says)
            (last-none (is_too_long (given_name t m.conn name)) 9 one.1);
        some = given-some t m.conn name (some-name name one.0);
        waiting = f.waiting;
      }
  turned-fits (goes_to company digest) t m may by h f =
      record {
        client = f.client;
        asked = f.asked;
        company = move-fits e m company digest bytes may.says;
        name = f.name;
        some = f.some;
        waiting = f.waiting;
      }
  turned-fits (founds company) t m may by h f =
      let places = ok.start.sound.places in
      record { client = f.client; asked = f.asked; company = omega (arith, may, places); name = f.name; some = f.some; waiting = f.waiting }
  turned-fits (gets_pieces left) t m may by h f = same-member m _ refl refl refl refl refl f
  turned-fits has_all t m may by h f = same-member m _ refl refl refl refl refl f

  with-fits : (c : Change) (t : Table) (m : Member) → t.frame ≤ last_frame → FitsTable o t → FitsMember m → FitsSteps (steps_with c o t m)
  with-fits (wants_password true name asked) t m low h f =
      (game-spelled (ServerNeedGamePassword o.setup.seed o.setup.id) (ok.seed, (name-text o.setup.id ok.id, tt)), tt)
  with-fits (wants_password false name asked) t m low h f =
      (game-spelled (ServerNeedCompanyPassword o.setup.seed o.setup.id) (ok.seed, (name-text o.setup.id ok.id, tt)), tt)
  with-fits (is_let_in name asked) t m low h f =
      (game-spelled (ServerWelcome m.client o.setup.seed o.setup.id) (f.client, (ok.seed, (name-text o.setup.id ok.id, tt))), tt)
  with-fits gets_token t m low h f = (
    game-spelled (ServerFrame t.frame t.top (fresh_token t.tokens)) (
      low-frame low,
      (
        before-next (top-low o t ok low h),
        (low-byte (fresh-low t.tokens), tt),
      ),
    ),
    tt,
  )
  with-fits gets_frame t m low h f =
      (game-spelled (ServerFrame t.frame t.top 0) (low-frame low, (before-next (top-low o t ok low h), (lit< tt, tt))), tt)
  with-fits (answers frame token) t m low h f = tt
  with-fits plays t m low h f = tt
  with-fits (commands company code number to text command) t m low h f = tt
  with-fits (has_name name) t m low h f = tt
  with-fits (goes_to company digest) t m low h f = tt
  with-fits (founds company) t m low h f = tt
  with-fits (gets_pieces left) t m low h f = (tt, tt)
  with-fits has_all t m low h f = tt

  moved-fits : (v : Move) (t : Table) (m : Member) → FitsMember m → FitsMember (moved v t m)
  moved-fits queues t m f = same-member m _ refl refl refl refl refl f
  moved-fits begins_map t m f = same-member m _ refl refl refl refl refl f
  moved-fits loads t m f = same-member m _ refl refl refl refl refl f

  -- ---- what is told

  client-fits : (t : Table) (client : ℕ) → IsClient t client → FitsTable o t → client < 2 ^ 32
  client-fits t client (m, on, is) h = let f = found-fits o t m on h in rw is f.client

  reason-fits : (m : Member) (code : ℕ) → IsReason e m code → code ≤ 20
  reason-fits m code (inl low) = low
  reason-fits m code (inr says) = error-fits e m code bytes says

  end-fits : (t : Table) (client code : ℕ) → IsEnd e t client code → FitsTable o t → (client < 2 ^ 32) × (code ≤ 20)
  end-fits t client code (m, on, is, reason) h = (client-fits t client (m, on, is) h, reason-fits m code reason)

  seated-fits : (t : Table) (client company : ℕ) (name : List ℕ) → IsSeated t client company name → FitsTable o t
      → (client < 2 ^ 32) × (company < 2 ^ 8) × (is_text 24 name ≡ true)
  seated-fits t client company name (m, on, a, b, d) h = let f = found-fits o t m on h in (rw a f.client, rw b f.company, rw d f.name)

  talk-of-chat : (t : Table) (client scope : ℕ) (text : List ℕ) → IsChat e t client scope text → FitsTable o t
      → (client < 2 ^ 32) × (scope ≤ 2) × (is_text 899 text ≡ true)
  talk-of-chat t client scope text (inl (m, on, is, to, says)) h = let f = chat-fits e m scope to text bytes says in
      (client-fits t client (m, on, is) h, f.0, f.1)
  talk-of-chat t client scope text (inr (inl (is, to, says))) h = let f = aside-fits e scope to text bytes says in
      (omega (arith, is), f.0, f.1)
  talk-of-chat t client scope text (inr (inr (is, zero_scope, line, says, found))) h =
      (omega (arith, is), omega (arith, zero_scope), announced-fits line text (rcon-fits e line bytes says) found)

  -- a line of the console
  answer-fits : (t : Table) (text : List ℕ) → IsAnswer t text → FitsTable o t → is_text 899 text ≡ true
  answer-fits t text (inl plain) h = is_text-from_IsText 899 text (IsText-from_is_plain text plain.0) plain.1
  answer-fits t text (inr (m, on, is)) h = let f = found-fits o t m on h in
      subst (λ (s : List ℕ). is_text 899 s ≡ true) (sym is) (line-text m.client m.company m.name f.client f.company f.name)

  few-live : (t : Table) → count_living (living_in o t) < 2 ^ 8
  few-live t =
      let few = filter-short (λ (lives : Bool). lives) (living_in o t) in
      let all = living-places o t.journal t.frame in
      let places = ok.start.sound.places in omega (arith, few, all, places)

  talk-fits : (t : Table) (msg : GameMsg) → IsTalk o e t msg → t.frame ≤ last_frame → FitsTable o t → IsSent (game msg)
  talk-fits t (ServerError code) is low h = game-spelled (ServerError code) (low-code is, tt)
  talk-fits t (ServerGameInfo name frame clients companies max password) is low h =
      let most : o.setup.max_clients ≤ 255 = ok.setup.max_clients.1 in
      game-spelled (ServerGameInfo name frame clients companies max password) (
        rw is.0 (name-text o.setup.name ok.name),
        (rw is.1 (low-frame low), (low-byte is.2, (rw is.3 (few-live t), (rw is.4 (low-byte most), (tt, tt))))),
      )
  talk-fits t (ServerClientInfo client company name) is low h = let f = seated-fits t client company name is h in
      game-spelled (ServerClientInfo client company name) (f.0, (f.1, (f.2, tt)))
  talk-fits t (ServerJoin client) is low h = game-spelled (ServerJoin client) (client-fits t client is h, tt)
  talk-fits t (ServerMove client company) (m, on, a, b) low h = let f = found-fits o t m on h in
      game-spelled (ServerMove client company) (rw a f.client, (rw b f.company, tt))
  talk-fits t (ServerChat client scope text) is low h = let f = talk-of-chat t client scope text is h in
      game-spelled (ServerChat client scope text) (f.0, (low-scope f.1, (f.2, tt)))
  talk-fits t (ServerErrorQuit client code) is low h = let f = end-fits t client code is h in
      game-spelled (ServerErrorQuit client code) (f.0, (low-code f.1, tt))
  talk-fits t (ServerQuit client) is low h = game-spelled (ServerQuit client) (client-fits t client is h, tt)
  talk-fits t other is low h = absurd is

  news-fits : (t : Table) (w : What) → IsNews o e t w → t.frame ≤ last_frame → FitsTable o t → FitsWhat w
  news-fits t (Msg msg) is low h = talk-fits t msg is low h
  news-fits t (Stamp entry) is low h = among-all FitsEntry entry t.journal is h.journal
  news-fits t Sync is low h = tt
  news-fits t other is low h = absurd is

  notice-fits : (t : Table) (msg : AdminMsg) → IsNotice o e t msg → FitsTable o t → IsSent (admin msg)
  notice-fits t (admins.ServerError code) is h = admin-spelled (admins.ServerError code) refl (low-code is, tt)
  notice-fits t (admins.ServerClientJoin client) is h = admin-spelled (admins.ServerClientJoin client) refl (client-fits t client is h, tt)
  notice-fits t (admins.ServerClientInfo client name company) is h = let f = seated-fits t client company name is h in
      admin-spelled (admins.ServerClientInfo client name company) refl (f.0, (f.2, (f.1, tt)))
  notice-fits t (admins.ServerClientUpdate client name company) is h = let f = seated-fits t client company name is h in
      admin-spelled (admins.ServerClientUpdate client name company) refl (f.0, (f.2, (f.1, tt)))
  notice-fits t (admins.ServerClientQuit client) is h = admin-spelled (admins.ServerClientQuit client) refl (client-fits t client is h, tt)
  notice-fits t (admins.ServerClientError client code) is h = let f = end-fits t client code is h in
      admin-spelled (admins.ServerClientError client code) refl (f.0, (low-code f.1, tt))
  notice-fits t (admins.ServerChat scope client text) is h = let f = talk-of-chat t client scope text is h in
      admin-spelled (admins.ServerChat scope client text) refl (low-scope f.1, (f.0, (f.2, tt)))
  notice-fits t (admins.ServerCmdLogging client company code frame) (entry, there, a, b, d, g) h =
      let f = among-all FitsEntry entry t.journal there h.journal in
      admin-spelled (admins.ServerCmdLogging client company code frame) refl
      (rw a f.sender, (rw b f.company, (rw d (code-small entry.command.code), (rw g f.frame, tt))))
  notice-fits t (admins.ServerProtocol version items) is h = subst (λ (m : AdminMsg). IsSent (admin m))
      (ap₂ (λ (v : ℕ) (xs : List (ℕ × (ℕ × Unit))). admins.ServerProtocol v xs) (sym is.0) (sym is.1)) protocol-sent
  notice-fits t (admins.ServerPong id) says h = admin-spelled (admins.ServerPong id) refl (ping-fits e id bytes says, tt)
  notice-fits t (admins.ServerConsole origin text) (is, says) h = admin-spelled (admins.ServerConsole origin text) refl
      (subst (λ (s : List ℕ). is_text 31 s ≡ true) (sym is) origin-text, (rcon-fits e text bytes says, tt))
  notice-fits t (admins.ServerRcon colour text) is h = admin-spelled (admins.ServerRcon colour text) refl
      (let c = is.0 in omega (arith, c), (answer-fits t text is.1 h, tt))
  notice-fits t (admins.ServerRconEnd text) says h = admin-spelled (admins.ServerRconEnd text) refl (rcon-fits e text bytes says, tt)
  notice-fits t (admins.ServerCmdNames names) is h = subst (λ (xs : List (ℕ × (List ℕ × Unit))). IsSent (admin (admins.ServerCmdNames xs)))
      (sym is) names-sent
  notice-fits t other is h = absurd is

  report-fits : (t : Table) (r : Report) → IsReport o e t r → FitsTable o t → FitsReport r
  report-fits t (Message msg) is h = notice-fits t msg is h
  report-fits t other is h = tt

  -- ---- the walk

  -- frames and client numbers do not fall; and as long as these are in range, all is
  pub record Fitting (t : Table) (steps : List Step) (u : Table) : Type 0 where
    pub frame : t.frame ≤ u.frame
    pub clients : t.clients ≤ u.clients
    pub fits : u.frame ≤ last_frame → u.clients < 2 ^ 32 → FitsTable o t → FitsTable o u × FitsSteps steps

  -- at the same time
  at-once : (t u : Table) (steps : List Step) → u.frame ≡ t.frame → u.clients ≡ t.clients
      → (t.frame ≤ last_frame → FitsTable o t → FitsTable o u × FitsSteps steps) → Fitting t steps u
  at-once t u steps frame clients fits = record {
    frame = omega (arith, frame);
    clients = omega (arith, clients);
    fits = λ low few h. fits (omega (arith, low, frame)) h;
  }

  same-table : (t u : Table) → u.members ≡ t.members → u.own ≡ t.own → u.journal ≡ t.journal → u.top ≡ t.top → u.frame ≡ t.frame
      → FitsTable o t → FitsTable o u
  same-table t u members own journal top frame h = record {
    members = rw members h.members;
    few = rw members h.few;
    own = rw own h.own;
    journal = rw journal h.journal;
    near = rw (top, frame) h.near;
  }

  fitting-turns : Turns o e Fitting
  fitting-turns c t m on may by = at-once t (turned_in c t m) _ refl refl (λ low h. let f = found-fits o t m on h in
      (put-fits t o (turned c t m) _ (turned-fits c t m may by h f) h, with-fits c t m low h f))

  fitting-base : Base o e Fitting
  fitting-base = record {
    still = λ t. at-once t t [] refl refl (λ low h. (h, tt));
    joins = λ t u v xs ys a b. record {
      frame = let l = a.frame in let k = b.frame in omega (arith, l, k);
      clients = let l = a.clients in let k = b.clients in omega (arith, l, k);
      fits = λ low few h.
          let one = a.fits (let k = b.frame in omega (arith, k, low)) (let k = b.clients in omega (arith, k, few)) h in
          let two = b.fits low few one.0 in (two.0, all-append (λ (s : Step). FitsWhat s.what) xs ys one.1 two.1);
    };
    turns = ahead-of o e Fitting fitting-turns;
    tells_one = λ t m msg on talk. at-once t t _ refl refl (λ low h. (h, (talk-fits t msg talk low h, tt)));
    tells_some = λ t to w there news. at-once t t _ refl refl (λ low h. (h, (news-fits t w news low h, tt)));
    tells_admins = λ t to r there is. at-once t t _ refl refl (λ low h. (h, (report-fits t r is h, tt)));
  }

  told-moved : (v : Move) (m : Member) → FitsSteps (told_moved v m)
  told-moved queues m = tt
  told-moved begins_map m = (tt, tt)
  told-moved loads m = tt

  fitting-moves : Moves o e Fitting
  fitting-moves = record {
    moving = λ v t m on may. at-once t _ _ refl refl (λ low h.
        (put-fits t o (moved v t m) t.tokens (moved-fits v t m (found-fits o t m on h)) h, told-moved v m));
    recalls = λ t m on at. at-once t t _ refl refl (λ low h. (h, (tt, tt)));
    waits_on = λ t conn n there. at-once t t _ refl refl (λ low h.
        (h, (game-spelled (ServerWait (min n 255)) (low-byte (min-le_right n 255), tt), tt)));
    stands = λ t m on. at-once t _ [] refl refl (λ low h. (same-table t _ refl refl refl refl refl h, tt));
    cuts = λ t place. at-once t _ [] refl refl (λ low h. (same-table t _ refl refl refl refl refl h, tt));
    ends_one = λ t m on. at-once t t _ refl refl (λ low h. (h, (tt, tt)));
    parts = λ t m on. at-once t _ [] refl refl (λ low h. (
      record {
        members = all-filter FitsMember (λ n. not (is_on m.conn n)) t.members h.members;
        few = let l = filter-short (λ n. not (is_on m.conn n)) t.members in omega (arith, l, h.few);
        own = h.own;
        journal = h.journal;
        near = h.near;
      },
      tt,
    ));
    greets = λ t m on at. at-once t _ _ refl refl (λ low h. let f = found-fits o t m on h in (
      put-fits t o (opened_token (fresh_token t.tokens) t m) _ (same-member m _ refl refl refl refl refl f) h,
      with-fits gets_token t m low h f,
    ));
  }

  order-fits : (t : Table) (c : Command) → IsOrdered t c → FitsTable o t → FitsCommand c
  order-fits t c (inr (true, is)) h = subst FitsCommand (sym is) (record { number = lit< tt; to = lit< tt; text = empty-text })
  order-fits t c (inr (false, is)) h = subst FitsCommand (sym is) (record { number = lit< tt; to = lit< tt; text = empty-text })
  order-fits t c (inl (m, on, is)) h = let f = found-fits o t m on h in
      subst FitsCommand (sym is) (record { number = f.client; to = lit< tt; text = empty-text })

  fitting-walk : Walk o e Fitting
  fitting-walk = record {
    base = fitting-base;
    locks = λ t m digest on allowed. at-once t _ [] refl refl (λ low h. (same-table t _ refl refl refl refl refl h, tt));
    orders = λ t c is still. at-once t _ [] refl refl (λ low h. (
      record {
        members = h.members;
        few = h.few;
        own = all-append FitsCommand t.own (c ∷ []) h.own (order-fits t c is h, tt);
        journal = h.journal;
        near = h.near;
      },
      tt,
    ));
    asks_map = λ t m on at. of-asks o e Fitting fitting-base fitting-moves t m on at;
    enters_game = λ t m on at. of-enters o e Fitting fitting-base fitting-moves t m on at;
    goes = λ t m farewell on is. of-leaves o e Fitting fitting-base fitting-moves t m farewell on is;
    settles = λ t a b on is. at-once t _ [] refl refl (λ low h. (same-table t _ refl refl refl refl refl h, tt));
    goes_aside = λ t a on. at-once t _ _ refl refl (λ low h. (same-table t _ refl refl refl refl refl h, (tt, tt)));
  }

  -- ---- the doors

  arrives-fits : (full : Bool) (t : Table) → nat_le o.setup.max_clients (length t.members) ≡ full
      → Fitting t (arrives full (counted_in t)).told (arrives full (counted_in t)).table
  arrives-fits true t is = record {
    frame = omega arith;
    clients = omega arith;
    fits = λ low few h. (same-table t _ refl refl refl refl refl h, (game-spelled ServerFull tt, (tt, tt)));
  }
  arrives-fits false t is =
      let new : Member = new_member (t.openings + 1) (t.clients + 1) t.frame in
      let room : length t.members < o.setup.max_clients = leb-false o.setup.max_clients (length t.members) is in
      let most : o.setup.max_clients ≤ 255 = ok.setup.max_clients.1 in
      let more = length-append t.members (new ∷ []) in
      record {
        frame = omega arith;
        clients = omega arith;
        fits = λ low few h. (
          record {
            members = all-append FitsMember t.members (new ∷ []) h.members
                (record { client = few; asked = lit< tt; company = lit< tt; name = question; some = omega arith; waiting = tt }, tt);
            few = omega (arith, room, most, more);
            own = h.own;
            journal = h.journal;
            near = h.near;
          },
          tt,
        );
      }

  side-fits : (full : Bool) (t : Table) → Fitting t (admin_arrives full (counted_aside t)).told (admin_arrives full (counted_aside t)).table
  side-fits true t = at-once t _ _ refl refl (λ low h.
      (same-table t _ refl refl refl refl refl h, (admin-spelled admins.ServerFull refl tt, (tt, tt))))
  side-fits false t = at-once t _ [] refl refl (λ low h. (same-table t _ refl refl refl refl refl h, tt))

  fitting-doors : Doors o e Fitting
  fitting-doors = record {
    comes = λ t. arrives-fits (nat_le o.setup.max_clients (length t.members)) t refl;
    comes_aside = λ t. side-fits (nat_le most_admins (length t.admins)) t;
  }

  -- ---- stamps

  own-fits : (f : ℕ) (cs : List Command) → f < 2 ^ 32 → AllByRecursion FitsCommand cs → AllByRecursion FitsEntry (map (own_entry f) cs)
  own-fits f [] l a = tt
  own-fits f (c ∷ cs) l a = (record { frame = l; sender = lit< tt; company = lit< tt; command = a.0 }, own-fits f cs l a.1)

  waiting-fits : (f : ℕ) (m : Member) (ws : List (ℕ × Command)) → f < 2 ^ 32 → m.client < 2 ^ 32 → AllByRecursion FitsWaiting ws
      → AllByRecursion FitsEntry (map (entry_of f m) ws)
  waiting-fits f m [] l k a = tt
  waiting-fits f m (w ∷ ws) l k a = (record { frame = l; sender = k; company = a.0.0; command = a.0.1 }, waiting-fits f m ws l k a.1)

  members-fit : (f : ℕ) (ms : List Member) → f < 2 ^ 32 → AllByRecursion FitsMember ms
      → AllByRecursion FitsEntry (flat_map (λ m. map (entry_of f m) (take 2 m.waiting)) ms)
  members-fit f [] l a = tt
  members-fit f (m ∷ ms) l a =
      all-append FitsEntry (map (entry_of f m) (take 2 m.waiting)) (flat_map (λ m. map (entry_of f m) (take 2 m.waiting)) ms)
      (waiting-fits f m (take 2 m.waiting) l a.0.client (all-take FitsWaiting 2 m.waiting a.0.waiting)) (members-fit f ms l a.1)

  stamps-fit : (t : Table) → t.frame ≤ last_frame → FitsTable o t → AllByRecursion FitsEntry (stamps t)
  stamps-fit t low h =
      let f : ℕ = t.top + 1 in
      all-append FitsEntry (map (own_entry f) t.own) (flat_map (λ m. map (entry_of f m) (take 2 m.waiting)) t.members)
      (own-fits f t.own (top-low o t ok low h) h.own) (members-fit f t.members (top-low o t ok low h) h.members)

  drawn-fits : (m : Member) → FitsMember m → FitsMember (drawn m)
  drawn-fits m f = record {
    client = f.client;
    asked = f.asked;
    company = f.company;
    name = f.name;
    some = f.some;
    waiting = all-drop FitsWaiting 2 m.waiting f.waiting;
  }

  running-fits : (b : Bool) (t : Table) → Fitting t [] (running b o t)
  running-fits true t = record {
    frame = omega arith;
    clients = omega arith;
    fits = λ low few h. (record { members = h.members; few = h.few; own = h.own; journal = h.journal; near = omega arith }, tt);
  }
  running-fits false t = record {
    frame = omega arith;
    clients = omega arith;
    fits = λ low few h. (
      record {
        members = h.members;
        few = h.few;
        own = h.own;
        journal = h.journal;
        near = let l = h.near in omega (arith, l);
      },
      tt,
    );
  }

  fitting-ticks : Ticks o e Fitting
  fitting-ticks = record {
    stamping = λ t. at-once t _ [] refl refl (λ low h. (
      record {
        members = all-map FitsMember FitsMember drawn t.members drawn-fits h.members;
        few = let l = length-map t.members drawn in omega (arith, l, h.few);
        own = tt;
        journal = all-append FitsEntry t.journal (stamps t) h.journal (stamps-fit t low h);
        near = h.near;
      },
      tt,
    ));
    behind = behind-of o e Fitting fitting-turns;
    running = λ t b is. running-fits b t;
  }

  fitting-closing : Closing o e Fitting
  fitting-closing = record {
    charges = λ t. at-once t _ [] refl refl (λ low h. (same-table t _ refl refl refl refl refl h, tt));
    closes = λ t. at-once t _ _ refl refl (λ low h. (
      record { members = tt; few = omega arith; own = h.own; journal = h.journal; near = h.near },
      (game-spelled ServerShutdown tt, (admin-spelled admins.ServerShutdown refl tt, (tt, tt))),
    ));
  }

  -- an event tells what has its spelling
  pub deed-fits : (t : Table) → Fitting t (deed o e t).told (stepped o t e)
  deed-fits t = of-deed o e Fitting fitting-walk fitting-ticks fitting-doors fitting-closing t
