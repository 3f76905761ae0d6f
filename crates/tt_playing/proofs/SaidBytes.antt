-- What a client has to say is bytes, whatever it is fed.
use Rattle.std.proofs.Common.{ℕ, zero, suc, Bool, true, false, List, [], ◌∷◌, ◌++◌, Option, Some, None}
use Rattle.std.specs.Prelude.{◌==◌, ◌&&◌, not, nat_lt, if◌then◌else◌}
use Rattle.std.specs.List.{AllByRecursion}
use Rattle.tt_frame.specs.Tables.{rule_of}
use Rattle.tt_lockstep.specs.Runner.{Runner}
use Rattle.tt_game.specs.Apart.{kind_of, body_bytes}
use Rattle.tt_game.specs.Messages.{messages}
use Rattle.tt_game.specs.declared.message.GameMsg.{GameMsg}
use Rattle.tt_game.specs.declared.message.GameMsg.TheVariants.{ServerCheckNewgrfs, ServerNeedGamePassword, ServerNeedCompanyPassword}
use Rattle.tt_game.specs.declared.message.GameMsg.TheVariants.{ServerWelcome, ServerMapDone, ClientJoin, ClientNewgrfsChecked}
use Rattle.tt_game.specs.declared.message.GameMsg.TheVariants.{ClientGamePassword, ClientCompanyPassword, ClientGetmap, ClientMapOk}
use Rattle.tt_game.specs.declared.message.GameMsg.TheVariants.{ClientCommand, ClientAck}
use Rattle.tt_world.specs.declared.command.Command.{Command}
use Rattle.tt_world.specs.declared.command.Entry.{Entry}
use Rattle.tt_world.specs.World.{WorldState}
use Rattle.tt_rules.specs.Commands.{number_of}
use Rattle.tt_rules.specs.Digest.{password_digest, salted}
use Rattle.md5.specs.Md5.{md5}
use Rattle.tt_log.specs.Shown.{Asking, Fetching, Item, Place, goes_on, item_told}
use Rattle.tt_client.specs.declared.login.Login.{Login}
use Rattle.tt_client.specs.declared.waiting.Ack.{Ack}
use Rattle.tt_client.specs.Answers.{answer, command_bytes, joining}
use Rattle.tt_client.specs.Calls.{Call, Feed, Advance, Submit, Take}
use Rattle.tt_client.specs.Cutting.{cut_at}
use Rattle.tt_client.specs.Held.{Held, held, held_after, held_first, with_call}
use Rattle.tt_client.specs.Player.{Player, Mark, acks, advanced, heard, heard_all, heard_as, is_due, is_off, is_on, phase_by, plays, run_as}
use Rattle.tt_client.specs.Player.{said_behind, token_in}
use Rattle.tt_client.specs.Runs.{running}
use Rattle.tt_client.specs.Saying.{Saying, ack_bytes, ack_spelling, bytes_of, less_begun, less_one, made_before, spelling, taken}
use Rattle.tt_client.specs.Saying.{with_bytes, with_bytes_at, with_token}
use Rattle.tt_playing.proofs.Bytes.{AreBytes, hex-bytes, join, left}
use Rattle.tt_playing.proofs.Spellings.{kind-small, packet-bytes, values-bytes}

-- ---- messages

said : (m : GameMsg) → AreBytes (body_bytes m) → AreBytes (spelling m)
said m body = packet-bytes (kind_of m) (body_bytes m) (kind-small m) body

digest-bytes : (password id : List ℕ) (seed : ℕ) → AreBytes (password_digest password id seed)
digest-bytes password id seed = hex-bytes (md5 (salted password id seed))

joins : (l : Login) → AreBytes l.revision → AreBytes l.name → AreBytes (joining l)
joins l revision name = said (ClientJoin l.revision l.grf l.name l.company)
    (values-bytes (rule_of messages 2).fields (l.revision, (l.grf, (l.name, (l.company, tt)))) (revision, (tt, (name, (tt, tt)))))

answers : (l : Login) (place : Place) (msg : Option GameMsg) → AreBytes (answer l place msg)
answers l Asking (Some (ServerCheckNewgrfs items)) = said ClientNewgrfsChecked tt
answers l Asking (Some (ServerNeedGamePassword seed id)) =
    let digest = password_digest l.password id seed in
    said (ClientGamePassword digest) (values-bytes (rule_of messages 9).fields (digest, tt) (digest-bytes l.password id seed, tt))
answers l Asking (Some (ServerNeedCompanyPassword seed id)) =
    let digest = password_digest l.company_password id seed in
    said (ClientCompanyPassword digest)
    (values-bytes (rule_of messages 11).fields (digest, tt) (digest-bytes l.company_password id seed, tt))
answers l Asking (Some (ServerWelcome client seed id)) = said ClientGetmap tt
answers l (Fetching frame size come) (Some ServerMapDone) = said ClientMapOk tt
answers l place other = tt

orders : (company : ℕ) (c : Command) → AreBytes c.text → AreBytes (command_bytes company c)
orders company c text = said (ClientCommand company (number_of c.code) c.number c.to c.text)
    (values-bytes (rule_of messages 24).fields (company, (number_of c.code, (c.number, (c.to, (c.text, tt)))))
    (tt, (tt, (tt, (tt, (text, tt))))))

acknowledges : (a : Ack) → AreBytes (ack_spelling a)
acknowledges a = said (ClientAck a.frame a.token) (values-bytes (rule_of messages 23).fields (a.frame, (a.token, tt)) (tt, (tt, tt)))

-- ---- what waits

record HoldsBytes (s : Saying) : Type 0 where
  begun : AreBytes s.begun
  before : AreBytes s.before
  behind : AreBytes s.behind

some-ack : (ack : Option Ack) → AreBytes (ack_bytes ack)
some-ack None = tt
some-ack (Some a) = acknowledges a

all-held : (s : Saying) → HoldsBytes s → AreBytes (bytes_of s)
all-held s is = join s.begun (s.before ++ (ack_bytes s.ack ++ s.behind)) is.begun (join s.before (ack_bytes s.ack ++ s.behind) is.before
    (join (ack_bytes s.ack) s.behind (some-ack s.ack) is.behind))

held-at : (ack : Option Ack) (bytes : List ℕ) (s : Saying) → AreBytes bytes → HoldsBytes s → HoldsBytes (with_bytes_at ack bytes s)
held-at None bytes s a is = record { begun = is.begun; before = join s.before bytes is.before a; behind = is.behind }
held-at (Some x) bytes s a is = record { begun = is.begun; before = is.before; behind = join s.behind bytes is.behind a }

held-token : (token : ℕ) (s : Saying) → HoldsBytes s → HoldsBytes (with_token token s)
held-token token s is =
    elim (token == 0) as (λ (b : Bool). HoldsBytes (if b then s else record s { owed = token; ack = made_before s.ack })) [
      | true ↦ is
      | false ↦ record { begun = is.begun; before = is.before; behind = is.behind }
    ]

held-less : (begun before : List ℕ) (ack : Option Ack) (behind : List ℕ) (owed : ℕ) → AreBytes begun → AreBytes before → AreBytes behind
    → HoldsBytes (less_begun begun before ack behind owed)
held-less (b ∷ begun) before ack behind owed x y z = record { begun = x.1; before = y; behind = z }
held-less [] (b ∷ before) ack behind owed x y z = record { begun = tt; before = y.1; behind = z }
held-less [] [] None behind owed x y z = record { begun = tt; before = tt; behind = z }
held-less [] [] (Some a) behind owed x y z = record { begun = left 1 (ack_spelling a) (acknowledges a); before = z; behind = tt }

held-taken : (n : ℕ) (s : Saying) → HoldsBytes s → HoldsBytes (taken n s)
held-taken zero s is = is
held-taken (suc n) s is = held-taken n (less_one s) (held-less s.begun s.before s.ack s.behind s.owed is.begun is.before is.behind)

-- ---- of each client

abbrev P : Type 0
P = Player (Runner WorldState Entry)

heard-as : (login : Login) (i : Item) (mark : Mark) (runs : Runner WorldState Entry) (p : P) → HoldsBytes p.saying
    → HoldsBytes (heard_as login i mark runs p).saying
heard-as login i mark runs p is =
    elim (goes_on (phase_by mark i) && not (is_off mark)) as (λ (b : Bool). HoldsBytes (if b then said_behind login p.place i.msg
    p.saying else p.saying)) [
      | true ↦ held-token (token_in i.msg) (with_bytes (answer login p.place i.msg) p.saying)
          (held-at p.saying.ack (answer login p.place i.msg) p.saying (answers login p.place i.msg) is)
      | false ↦ is
    ]

by-choice : (b : Bool) (p q : P) → HoldsBytes p.saying → HoldsBytes q.saying → HoldsBytes (if b then p else q).saying
by-choice true p q one other = one
by-choice false p q one other = other

one-heard : (login : Login) (i : Item) (p : P) → HoldsBytes p.saying → HoldsBytes (heard running login i p).saying
one-heard login i p is =
    let runs = running.hears p.runs (item_told p.place i.msg) in
    by-choice (is_on running login p) (heard_as login i (running.mark runs) runs p) p (heard-as login i (running.mark runs) runs p is) is

all-heard : (login : Login) (items : List Item) (p : P) → HoldsBytes p.saying → HoldsBytes (heard_all running login items p).saying
all-heard login [] p is = is
all-heard login (i ∷ items) p is = all-heard login items (heard running login i p) (one-heard login i p is)

acks-held : (b : Bool) (frame : ℕ) (p : P) → HoldsBytes p.saying → HoldsBytes (acks b frame p).saying
acks-held true frame p is = record { begun = is.begun; before = is.before; behind = is.behind }
acks-held false frame p is = is

advanced-held : (login : Login) (n : ℕ) (p : P) → HoldsBytes p.saying → HoldsBytes (advanced running login n p).saying
advanced-held login n p is =
    let runs = running.advanced n p.runs in
    let old = running.frame p.runs in
    let frame = running.frame runs in
    let permitted = running.permitted runs in
    by-choice (is_on running login p) (run_as old frame permitted runs p) p
    (acks-held (nat_lt old frame && is_due p.acked permitted frame) frame (record p { runs = runs }) is) is

by-choice-held : (b : Bool) (g h : Held) → HoldsBytes g.player.saying → HoldsBytes h.player.saying
    → HoldsBytes (if b then g else h).player.saying
by-choice-held true g h one other = one
by-choice-held false g h one other = other

-- a command that it is to send has a text of bytes
abbrev pub SaysBytes : Call → Type 0
SaysBytes (Submit company command) = AreBytes command.text
SaysBytes other = Unit {0}

call-held : (h : Held) (c : Call) → SaysBytes c → HoldsBytes h.player.saying → HoldsBytes (with_call h c).player.saying
call-held h (Feed piece) says is =
    let cut = cut_at h.at (h.rest ++ piece) in
    by-choice-held (is_on running h.login h.player)
    (record h { player = heard_all running h.login cut.items h.player; rest = cut.rest; at = cut.at }) h
    (all-heard h.login cut.items h.player is) is
call-held h (Advance n) says is = advanced-held h.login n h.player is
call-held h (Submit company command) says is =
    let p = h.player in
    by-choice (is_on running h.login p && plays (running.mark p.runs)) (record p {
      saying = with_bytes (command_bytes company command) p.saying;
    }) p (held-at p.saying.ack (command_bytes company command) p.saying (orders company command says) is) is
call-held h (Take room) says is = held-taken room h.player.saying is

after-held : (h : Held) (calls : List Call) → AllByRecursion SaysBytes calls → HoldsBytes h.player.saying
    → HoldsBytes (held_after h calls).player.saying
after-held h [] says is = is
after-held h (c ∷ calls) says is = after-held (with_call h c) calls says.1 (call-held h c says.0 is)

-- what a client has to say, that joins with texts of bytes
pub says-bytes : (login : Login) (calls : List Call) → AreBytes login.revision → AreBytes login.name → AllByRecursion SaysBytes calls
    → AreBytes (bytes_of (held login calls).player.saying)
says-bytes login calls revision name says = all-held (held login calls).player.saying
    (after-held (held_first login) calls says (record { begun = tt; before = joins login revision name; behind = tt }))
