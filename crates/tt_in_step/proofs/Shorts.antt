-- The texts of commands are short: of those that wait, of the server's own, and so of the journal.
use Rattle.std.proofs.Common.{◌≡◌, ℕ, ◌+◌, Bool, true, false, cond, List, [], ◌∷◌}
use Rattle.std.proofs.Common.{Option, Some, None, refl, ap, sym, subst, ◌∙◌, map, take, arith}
use Rattle.std.specs.Prelude.{◌==◌, flat_map, Result, Ok, length, nat_le, not}
use Rattle.std.specs.Result.{result_ok}
use Rattle.std.specs.List.{AllByRecursion}
use Rattle.tt_frame.specs.Packet.{IsBytes}
use Rattle.tt_frame.specs.Text.{IsShort, is_text}
use Rattle.tt_frame.specs.Tables.{rule_of, read_by}
use Rattle.tt_frame.specs.Unread.{whole}
use Rattle.tt_frame.proofs.RowLaws.{row_takes}
use Rattle.tt_frame.proofs.TableLaws.{read_by_row}
use Rattle.tt_frame.proofs.FamilyLaws.{kind_is}
use Rattle.tt_frame.proofs.TextLaws.{IsText-from_is_text, IsText-from_is_plain, length_of_text}
use Rattle.tt_edge.specs.declared.event.Event.{Event}
use Rattle.tt_game.specs.declared.message.GameMsg.{GameMsg}
use Rattle.tt_game.specs.declared.message.GameMsg.TheVariants.{ClientCommand}
use Rattle.tt_game.specs.Messages.{messages, Spells}
use Rattle.tt_game.specs.Apart.{game_family}
use Rattle.tt_game.proofs.MessageLaws.{game_lawful}
use Rattle.tt_world.specs.declared.command.Code.{Code}
use Rattle.tt_world.specs.declared.command.Command.{Command}
use Rattle.tt_world.specs.declared.command.Entry.{Entry}
use Rattle.tt_rules.specs.Commands.{command_with, code_of}
use Rattle.tt_log.specs.declared.deed.Step.{Step}
use Rattle.tt_log.specs.Origin.{Origin}
use Rattle.tt_log.specs.Member.{Member, new_member}
use Rattle.tt_log.specs.Table.{Table, is_on}
use Rattle.tt_log.specs.Desk.{admin_arrives, counted_aside, most_admins}
use Rattle.tt_log.specs.Tick.{own_entry, entry_of, stamps, drawn}
use Rattle.tt_log.specs.PacketRules.{acknowledged, closed_token}
use Rattle.tt_log.specs.Events.{read_msg, arrives, counted_in, stepped}
use Rattle.tt_log.specs.History.{IsEvent}
use Rattle.tt_log.proofs.Lists.{all-append, all-drop, all-filter, all-map, all-take, among-all}
use Rattle.tt_log.proofs.Crew.{put, put-all}
use Rattle.tt_log.proofs.Changes.{Says, By, Change, wants_password, is_let_in, gets_token}
use Rattle.tt_log.proofs.Changes.{gets_frame, answers, plays, May, Move, turned, moved}
use Rattle.tt_log.proofs.Changes.{commands, has_name, goes_to, founds, gets_pieces, has_all, queues, begins_map, loads}
use Rattle.std.proofs.Common.{inl, inr}
use Rattle.tt_log.proofs.Walk.{IsOrdered}
use Rattle.tt_log.proofs.Walk.{Base, Walk, Moves, Ticks, Turns, ahead-of, behind-of, running, of-asks, of-enters, of-leaves, of-deed}
use Rattle.tt_in_step.proofs.Worlds.{AreShort}

-- what is read spells its message
ok-is : (r : Result GameMsg ℕ) (m : GameMsg) → result_ok r ≡ Some m → r ≡ Ok m
ok-is (Ok x) m is = let e : x ≡ m = cc in ap Ok e
ok-is other m is = absurd cc

spells : (kind : ℕ) (body : List ℕ) (m : GameMsg) → IsBytes body → read_msg kind body ≡ Some m → Spells m kind body
spells kind body m bytes is =
    row_takes (rule_of messages kind).fields (rule_of messages kind).make (whole body) m bytes
    (sym (read_by_row messages kind (whole body)) ∙ ok-is (read_by messages kind (whole body)) m is)

abbrev text_in : GameMsg → List ℕ
text_in (ClientCommand company code number to text) = text
text_in other = []

short-text : (text : List ℕ) → is_text 31 text ≡ true → IsShort text
short-text text is = record { text = IsText-from_is_text 31 text is; fits = length_of_text 31 text is }

-- no text is short
nothing : IsShort []
nothing = record { text = IsText-from_is_plain [] refl; fits = omega arith }

command-short : (company code number to : ℕ) (text : List ℕ) (kind : ℕ) (body : List ℕ)
    → Spells (ClientCommand company code number to text) kind body → IsShort text
command-short company code number to text kind body is =
    let m : GameMsg = ClientCommand company code number to text in
    let at : kind ≡ 24 = sym (kind_is GameMsg game_family game_lawful m kind body is) in
    let row : Spells m 24 body = subst (λ k. Spells m k body) at is in
    let behind = row.1.1.2.1.1.2.1.1.2.1.1.2 in
    let same : text ≡ behind.0 = ap text_in behind.1.1.2.0 in
    subst IsShort (sym same) (short-text behind.0 behind.1.1.0)

with-text : (x : Option Code) (number to : ℕ) (text : List ℕ) (command : Command) → command_with x number to text ≡ Some command
    → command.text ≡ text
with-text None number to text command is = absurd cc
with-text (Some code) number to text command is =
    let made : Command = record { code = code; number = number; to = to; text = text } in
    let e : made ≡ command = cc in
    sym (ap (λ (c : Command). c.text) e)

-- ---- what is short

abbrev pub IsBrief : ℕ × Command → Type 0
IsBrief w = IsShort w.1.text

abbrev pub AreBrief : List (ℕ × Command) → Type 0
AreBrief ws = AllByRecursion IsBrief ws

pub record ShortIn (ms : List Member) (own : List Command) (journal : List Entry) : Type 0 where
  pub waiting : AllByRecursion (λ (m : Member). AreBrief m.waiting) ms
  pub owned : AllByRecursion (λ (c : Command). IsShort c.text) own
  pub entries : AreShort journal

abbrev pub Short : Table → Type 0
Short t = ShortIn t.members t.own t.journal

abbrev KeepsShort : Table → List Step → Table → Type 0
KeepsShort t steps u = Short t → Short u

put-short : (t : Table) (n : Member) → AreBrief n.waiting → Short t → ShortIn (put n t.members) t.own t.journal
put-short t n brief h = record {
  waiting = put-all (λ (m : Member). AreBrief m.waiting) n t.members brief h.waiting;
  owned = h.owned;
  entries = h.entries;
}

acked-brief : (frame token : ℕ) (m : Member) → AreBrief m.waiting → AreBrief (acknowledged frame token m).waiting
acked-brief frame token m h = by (token == 0)
  where
    by : (b : Bool) → AreBrief (record (cond b m (closed_token m)) { acked = frame }).waiting
    by true = h
    by false = h

moved-brief : (v : Move) (t : Table) (m : Member) → AreBrief m.waiting → AreBrief (moved v t m).waiting
moved-brief queues t m h = h
moved-brief begins_map t m h = h
moved-brief loads t m h = h

module _ (o : Origin) (e : Event) (bytes : IsEvent e) where
  brief : (m : Member) (company code number to : ℕ) (text : List ℕ) → Says e m (ClientCommand company code number to text) → IsShort text
  brief m company code number to text says =
      let body : IsBytes says.1 = subst IsEvent says.2 bytes in
      command-short company code number to text says.0 says.1 (spells says.0 says.1 (ClientCommand company code number to text) body says.3)

  turned-brief : (c : Change) (t : Table) (m : Member) → May o e t m c → By e m c → AreBrief m.waiting → AreBrief (turned c t m).waiting
  turned-brief (wants_password true name asked) t m may by h = h
  turned-brief (wants_password false name asked) t m may by h = h
  turned-brief (is_let_in name asked) t m may by h = h
  turned-brief gets_token t m may by h = h
  turned-brief gets_frame t m may by h = h
  turned-brief (answers frame token) t m may by h = acked-brief frame token m h
  turned-brief plays t m may by h = h
  turned-brief (commands company code number to text command) t m may by h =
      let same : command.text ≡ text = with-text (code_of code) number to text command may.0 in
      all-append IsBrief m.waiting ((company, command) ∷ []) h (subst IsShort (sym same) (brief m company code number to text by), tt)
  turned-brief (has_name name) t m may by h = h
  turned-brief (goes_to company digest) t m may by h = h
  turned-brief (founds company) t m may by h = h
  turned-brief (gets_pieces left) t m may by h = h
  turned-brief has_all t m may by h = h

  ordered-brief : (t : Table) (c : Command) → IsOrdered t c → IsShort c.text
  ordered-brief t c (inl is) = subst (λ (c : Command). IsShort c.text) (sym is.2) nothing
  ordered-brief t c (inr is) = subst (λ (c : Command). IsShort c.text) (sym is.1) nothing

  short-turns : Turns o e KeepsShort
  short-turns c t m on may by h = put-short t (turned c t m) (turned-brief c t m may by
      (among-all (λ (m : Member). AreBrief m.waiting) m t.members on h.waiting)) h

  short-base : Base o e KeepsShort
  short-base = record {
    still = λ t h. h;
    joins = λ t u v xs ys a b h. b (a h);
    turns = ahead-of o e KeepsShort short-turns;
    tells_one = λ t m msg on talk h. h;
    tells_some = λ t to w there news h. h;
    tells_admins = λ t to msg there report h. h;
  }

  short-moves : Moves o e KeepsShort
  short-moves = record {
    moving = λ v t m on may h. put-short t (moved v t m) (moved-brief v t m (among-all (λ (m : Member). AreBrief m.waiting) m t.members on
        h.waiting)) h;
    recalls = λ t m on at h. h;
    ends_one = λ t m on h. h;
    waits_on = λ t conn n there h. h;
    stands = λ t m on h. h;
    cuts = λ t place h. h;
    parts = λ t m on h. record {
      waiting = all-filter (λ (m : Member). AreBrief m.waiting) (λ n. not (is_on m.conn n)) t.members h.waiting;
      owned = h.owned;
      entries = h.entries;
    };
    greets = λ t m on at h. put-short t _ (among-all (λ (m : Member). AreBrief m.waiting) m t.members on h.waiting) h;
  }

  short-walk : Walk o e KeepsShort
  short-walk = record {
    base = short-base;
    locks = λ t m digest on allowed h. h;
    orders = λ t c is still h. record {
      waiting = h.waiting;
      owned = all-append (λ (c : Command). IsShort c.text) t.own (c ∷ []) h.owned (ordered-brief t c is, tt);
      entries = h.entries;
    };
    asks_map = λ t m on at. of-asks o e KeepsShort short-base short-moves t m on at;
    enters_game = λ t m on at. of-enters o e KeepsShort short-base short-moves t m on at;
    goes = λ t m farewell on is. of-leaves o e KeepsShort short-base short-moves t m farewell on is;
    settles = λ t a b on is h. h;
    goes_aside = λ t a on h. h;
  }

  own-entries : (f : ℕ) (cs : List Command) → AllByRecursion (λ (c : Command). IsShort c.text) cs → AreShort (map (own_entry f) cs)
  own-entries f [] a = tt
  own-entries f (c ∷ cs) a = (a.0, own-entries f cs a.1)

  waiting-entries : (f : ℕ) (m : Member) (ws : List (ℕ × Command)) → AreBrief ws → AreShort (map (entry_of f m) ws)
  waiting-entries f m [] a = tt
  waiting-entries f m (w ∷ ws) a = (a.0, waiting-entries f m ws a.1)

  members-entries : (f : ℕ) (ms : List Member) → AllByRecursion (λ (m : Member). AreBrief m.waiting) ms
      → AreShort (flat_map (λ m. map (entry_of f m) (take 2 m.waiting)) ms)
  members-entries f [] a = tt
  members-entries f (m ∷ ms) a = all-append (λ (e : Entry). IsShort e.command.text) (map (entry_of f m) (take 2 m.waiting)) _
      (waiting-entries f m (take 2 m.waiting) (all-take IsBrief 2 m.waiting a.0)) (members-entries f ms a.1)

  run-short : (b : Bool) (t : Table) → Short t → Short (running b o t)
  run-short true t h = h
  run-short false t h = h

  short-ticks : Ticks o e KeepsShort
  short-ticks = record {
    stamping = λ t h. record {
      waiting = all-map (λ (m : Member). AreBrief m.waiting) (λ (m : Member). AreBrief m.waiting) drawn t.members
          (λ m a. all-drop IsBrief 2 m.waiting a) h.waiting;
      owned = tt;
      entries = all-append (λ (e : Entry). IsShort e.command.text) t.journal (stamps t) h.entries
          (all-append (λ (e : Entry). IsShort e.command.text) (map (own_entry (t.top + 1)) t.own) _ (own-entries (t.top + 1) t.own h.owned)
          (members-entries (t.top + 1) t.members h.waiting));
    };
    behind = behind-of o e KeepsShort short-turns;
    running = λ t b is. run-short b t;
  }

  arrives-short : (full : Bool) (t : Table) → Short t → Short (arrives full (counted_in t)).table
  arrives-short true t h = h
  arrives-short false t h = record {
    waiting = all-append (λ (m : Member). AreBrief m.waiting) t.members (new_member (t.openings + 1) (t.clients + 1) t.frame ∷ []) h.waiting
        (tt, tt);
    owned = h.owned;
    entries = h.entries;
  }

  aside-short : (full : Bool) (t : Table) → Short t → Short (admin_arrives full (counted_aside t)).table
  aside-short true t h = h
  aside-short false t h = h

  pub step-short : (t : Table) → Short t → Short (stepped o t e)
  step-short t h = of-deed o e KeepsShort short-walk short-ticks (record {
    comes = λ t h. arrives-short (nat_le o.setup.max_clients (length t.members)) t h;
    comes_aside = λ t h. aside-short (nat_le most_admins (length t.admins)) t h;
  }) (record { charges = λ t h. h; closes = λ t h. record { waiting = tt; owned = h.owned; entries = h.entries } }) t h
