-- Entries of the server's own list are pauses and new companies, and those of clients all else.
use Rattle.std.proofs.Common.{◌≡◌, inl, inr, ℕ, ◌+◌, ◌≤◌, Bool, true, false, List, [], ◌∷◌, Option, Some, None, refl, ap, sym, ◌∙◌, arith}
use Rattle.std.specs.Prelude.{◌==◌, cond, flat_map, length, map, nat_le, nat_lt, not, take}
use Rattle.std.specs.List.{AllByRecursion}
use Rattle.std.proofs.lemmas.Bool.{eqb-true, ne_eqb}
use Rattle.tt_edge.specs.declared.event.Event.{Event}
use Rattle.tt_world.specs.declared.command.Code.{Code}
use Rattle.tt_world.specs.declared.command.Code.TheVariants.{IncreaseLoan, DecreaseLoan, Give, PlaceSign, RenameSign, RenameCompany}
use Rattle.tt_world.specs.declared.command.Code.TheVariants.{RenamePresident, Pause, NewCompany}
use Rattle.tt_world.specs.declared.command.Command.{Command}
use Rattle.tt_rules.specs.Commands.{code_of, code_or, command_of, command_with, is_own_code, number_of}
use Rattle.tt_log.specs.declared.deed.Step.{Step}
use Rattle.tt_log.specs.Origin.{Origin}
use Rattle.tt_log.specs.Member.{Member}
use Rattle.tt_log.specs.Table.{Table, first, is_on, with_member}
use Rattle.tt_log.specs.PacketRules.{closed_token}
use Rattle.tt_log.specs.Desk.{admin_arrives, counted_aside, most_admins}
use Rattle.tt_log.specs.Tick.{drawn, entry_of, own_entry, stamps}
use Rattle.tt_log.specs.Events.{arrives, counted_in, stepped}
use Rattle.tt_log.specs.History.{journal_of}
use Rattle.tt_log.specs.Senders.{IsKnown, IsOfSender}
use Rattle.tt_log.proofs.Lists.{all-append, all-drop, all-filter, all-map, all-take, among-all}
use Rattle.tt_log.proofs.Crew.{On, put-all}
use Rattle.tt_log.proofs.Changes.{Change, wants_password, is_let_in, gets_token, gets_frame, answers, plays, commands, has_name, goes_to}
use Rattle.tt_log.proofs.Changes.{founds, gets_pieces, has_all, May, turned, moved, Move, queues, begins_map, loads}
use Rattle.tt_log.proofs.Walk.{Turns, ahead-of, behind-of}
use Rattle.tt_log.proofs.Walk.{IsOrdered, running, Base, Walk, Doors, Closing, Moves, Ticks, of-asks, of-enters, of-leaves, of-deed}
use Rattle.tt_log.proofs.Marking.{none-first}
use Rattle.tt_log.proofs.Clock.{from-all}

-- ---- codes

pub known : (c : Command) → IsKnown c
known c = by c.code
  where
    by : (code : Code) → command_of (number_of code) c.number c.to c.text ≡ Some (record c { code = code })
    by IncreaseLoan = refl
    by DecreaseLoan = refl
    by Give = refl
    by PlaceSign = refl
    by RenameSign = refl
    by RenameCompany = refl
    by RenamePresident = refl
    by Pause = refl
    by NewCompany = refl

-- whose command it is
abbrev IsOwn : Command → Type 0
IsOwn c = is_own_code (number_of c.code) ≡ true

abbrev IsClients : ℕ × Command → Type 0
IsClients w = is_own_code (number_of w.1.code) ≡ false

-- the number of a code is the one by which it was found
found-by : (b : Bool) (n : ℕ) (one code : Code) (later : Option Code) → (n == number_of one) ≡ b
    → (later ≡ Some code → number_of code ≡ n) → code_or b one later ≡ Some code → number_of code ≡ n
found-by true n one code later is next found =
    let same : one ≡ code = cc in ap number_of (sym same) ∙ sym (eqb-true n (number_of one) is)
found-by false n one code later is next found = next found

found-code : (n : ℕ) (code : Code) → code_of n ≡ Some code → number_of code ≡ n
found-code n code found =
    found-by (n == 0) n IncreaseLoan code _ refl (λ a. found-by (n == 1) n DecreaseLoan code _ refl (λ b. found-by
    (n == 2) n Give code _ refl
    (λ c. found-by (n == 3) n PlaceSign code _ refl (λ d. found-by (n == 4) n RenameSign code _ refl (λ f. found-by (n == 5) n
    RenameCompany code _ refl (λ g. found-by (n == 6) n RenamePresident code _ refl (λ h. found-by (n == 7) n Pause code _ refl
    (λ i. found-by (n == 8) n NewCompany code None refl (λ none. absurd cc) i) h) g) f) d) c) b) a) found

-- a client's command is not the server's own
clients-by : (x : Option Code) (n number to : ℕ) (text : List ℕ) (command : Command) → ((code : Code) → x ≡ Some code → number_of code ≡ n)
    → command_with x number to text ≡ Some command → is_own_code n ≡ false → is_own_code (number_of command.code) ≡ false
clients-by None n number to text command named is own = absurd cc
clients-by (Some code) n number to text command named is own =
    let made : Command = record { code = code; number = number; to = to; text = text } in
    let same : made ≡ command = cc in
    ap (λ (c : Command). is_own_code (number_of c.code)) (sym same) ∙ ap is_own_code (named code refl) ∙ own

-- ---- members

record IsSender (m : Member) : Type 0 where
  number : 2 ≤ m.client
  waiting : AllByRecursion IsClients m.waiting

same-sender : (m n : Member) → n.client ≡ m.client → n.waiting ≡ m.waiting → IsSender m → IsSender n
same-sender m n client waiting h = record { number = rw client h.number; waiting = rw waiting h.waiting }

turned-sender : (c : Change) (o : Origin) (e : Event) (t : Table) (m : Member) → May o e t m c → IsSender m → IsSender (turned c t m)
turned-sender (wants_password true name asked) o e t m may h = same-sender m _ refl refl h
turned-sender (wants_password false name asked) o e t m may h = same-sender m _ refl refl h
turned-sender (is_let_in name asked) o e t m may h = same-sender m _ refl refl h
turned-sender gets_token o e t m may h = same-sender m _ refl refl h
turned-sender gets_frame o e t m may h = same-sender m _ refl refl h
turned-sender (answers frame token) o e t m may h = by (token == 0)
  where
    by : (b : Bool) → IsSender (record (cond b m (closed_token m)) { acked = frame })
    by true = same-sender m _ refl refl h
    by false = same-sender m _ refl refl h
turned-sender plays o e t m may h = same-sender m _ refl refl h
turned-sender (commands company code number to text command) o e t m may h =
    let one = none-first (nat_le 16 (length m.waiting)) 15 _ may.1.standing in
    let two = none-first (nat_lt 8 code) 7 _ one.1 in
    let three = none-first (is_own_code code) 12 _ two.1 in
    record {
      number = h.number;
      waiting = all-append IsClients m.waiting ((company, command) ∷ []) h.waiting
          (clients-by (code_of code) code number to text command (λ found is. found-code code found is) may.0 three.0, tt);
    }
turned-sender (has_name name) o e t m may h = same-sender m _ refl refl h
turned-sender (goes_to company digest) o e t m may h = same-sender m _ refl refl h
turned-sender (founds company) o e t m may h = same-sender m _ refl refl h
turned-sender (gets_pieces left) o e t m may h = same-sender m _ refl refl h
turned-sender has_all o e t m may h = same-sender m _ refl refl h

moved-sender : (v : Move) (t : Table) (m : Member) → IsSender m → IsSender (moved v t m)
moved-sender queues t m h = same-sender m _ refl refl h
moved-sender begins_map t m h = same-sender m _ refl refl h
moved-sender loads t m h = same-sender m _ refl refl h

-- ---- the walk

record AreSenders (t : Table) : Type 0 where
  members : AllByRecursion IsSender t.members
  own : AllByRecursion IsOwn t.own
  journal : AllByRecursion IsOfSender t.journal
  some : 1 ≤ t.clients

abbrev KeepsSenders : Table → List Step → Table → Type 0
KeepsSenders t steps u = AreSenders t → AreSenders u

put-sender : (t : Table) (n : Member) (words : ℕ × ℕ) → IsSender n → AreSenders t
    → AreSenders (with_member n (record t { tokens = words }))
put-sender t n words a h = record { members = put-all IsSender n t.members a h.members; own = h.own; journal = h.journal; some = h.some }

found-sender : (t : Table) (m : Member) → On t m → AreSenders t → IsSender m
found-sender t m on h = among-all IsSender m t.members on h.members

same-senders : (t u : Table) → u.members ≡ t.members → u.own ≡ t.own → u.journal ≡ t.journal → u.clients ≡ t.clients → AreSenders t
    → AreSenders u
same-senders t u members own journal clients h =
    record { members = rw members h.members; own = rw own h.own; journal = rw journal h.journal; some = rw clients h.some }

sender-turns : (o : Origin) (e : Event) → Turns o e KeepsSenders
sender-turns o e c t m on may by h = put-sender t (turned c t m) _ (turned-sender c o e t m may (found-sender t m on h)) h

sender-base : (o : Origin) (e : Event) → Base o e KeepsSenders
sender-base o e = record {
  still = λ t h. h;
  joins = λ t u v xs ys a b h. b (a h);
  turns = ahead-of o e KeepsSenders (sender-turns o e);
  tells_one = λ t m msg on talk h. h;
  tells_some = λ t to w there news h. h;
  tells_admins = λ t to r there is h. h;
}

sender-moves : (o : Origin) (e : Event) → Moves o e KeepsSenders
sender-moves o e = record {
  moving = λ v t m on may h. put-sender t (moved v t m) t.tokens (moved-sender v t m (found-sender t m on h)) h;
  recalls = λ t m on at h. h;
  waits_on = λ t conn n there h. h;
  stands = λ t m on h. same-senders t _ refl refl refl refl h;
  cuts = λ t place h. same-senders t _ refl refl refl refl h;
  ends_one = λ t m on h. h;
  parts = λ t m on h. record {
    members = all-filter IsSender (λ n. not (is_on m.conn n)) t.members h.members;
    own = h.own;
    journal = h.journal;
    some = h.some;
  };
  greets = λ t m on at h. put-sender t _ _ (same-sender m _ refl refl (found-sender t m on h)) h;
}

ordered-own : (t : Table) (c : Command) → IsOrdered t c → IsOwn c
ordered-own t c (inl (m, on, is)) = ap (λ (d : Command). is_own_code (number_of d.code)) is
ordered-own t c (inr (paused, is)) = ap (λ (d : Command). is_own_code (number_of d.code)) is

sender-walk : (o : Origin) (e : Event) → Walk o e KeepsSenders
sender-walk o e = record {
  base = sender-base o e;
  locks = λ t m digest on allowed h. same-senders t _ refl refl refl refl h;
  orders = λ t c is still h. record {
    members = h.members;
    own = all-append IsOwn t.own (c ∷ []) h.own (ordered-own t c is, tt);
    journal = h.journal;
    some = h.some;
  };
  asks_map = λ t m on at. of-asks o e KeepsSenders (sender-base o e) (sender-moves o e) t m on at;
  enters_game = λ t m on at. of-enters o e KeepsSenders (sender-base o e) (sender-moves o e) t m on at;
  goes = λ t m farewell on is. of-leaves o e KeepsSenders (sender-base o e) (sender-moves o e) t m farewell on is;
  settles = λ t a b on is h. same-senders t _ refl refl refl refl h;
  goes_aside = λ t a on h. same-senders t _ refl refl refl refl h;
}

arrives-senders : (full : Bool) (t : Table) → AreSenders t → AreSenders (arrives full (counted_in t)).table
arrives-senders true t h = record { members = h.members; own = h.own; journal = h.journal; some = omega arith }
arrives-senders false t h = record {
  members = all-append IsSender t.members _ h.members (record { number = let l = h.some in omega (arith, l); waiting = tt }, tt);
  own = h.own;
  journal = h.journal;
  some = omega arith;
}

aside-senders : (full : Bool) (t : Table) → AreSenders t → AreSenders (admin_arrives full (counted_aside t)).table
aside-senders true t h = same-senders t _ refl refl refl refl h
aside-senders false t h = same-senders t _ refl refl refl refl h

sender-doors : (o : Origin) (e : Event) → Doors o e KeepsSenders
sender-doors o e = record {
  comes = λ t h. arrives-senders (nat_le o.setup.max_clients (length t.members)) t h;
  comes_aside = λ t h. aside-senders (nat_le most_admins (length t.admins)) t h;
}

-- ---- stamps

own-sent : (f : ℕ) (cs : List Command) → AllByRecursion IsOwn cs → AllByRecursion IsOfSender (map (own_entry f) cs)
own-sent f [] a = tt
own-sent f (c ∷ cs) a = (a.0, own-sent f cs a.1)

waiting-sent : (f : ℕ) (m : Member) (ws : List (ℕ × Command)) → 2 ≤ m.client → AllByRecursion IsClients ws
    → AllByRecursion IsOfSender (map (entry_of f m) ws)
waiting-sent f m [] l a = tt
waiting-sent f m (w ∷ ws) l a = (a.0 ∙ sym (ne_eqb m.client 1 (λ e. omega (arith, e, l))), waiting-sent f m ws l a.1)

members-sent : (f : ℕ) (ms : List Member) → AllByRecursion IsSender ms
    → AllByRecursion IsOfSender (flat_map (λ m. map (entry_of f m) (take 2 m.waiting)) ms)
members-sent f [] a = tt
members-sent f (m ∷ ms) a =
    all-append IsOfSender (map (entry_of f m) (take 2 m.waiting)) (flat_map (λ m. map (entry_of f m) (take 2 m.waiting)) ms)
    (waiting-sent f m (take 2 m.waiting) a.0.number (all-take IsClients 2 m.waiting a.0.waiting)) (members-sent f ms a.1)

run-senders : (b : Bool) (o : Origin) (t : Table) → AreSenders t → AreSenders (running b o t)
run-senders true o t h = same-senders t _ refl refl refl refl h
run-senders false o t h = same-senders t _ refl refl refl refl h

sender-ticks : (o : Origin) (e : Event) → Ticks o e KeepsSenders
sender-ticks o e = record {
  stamping = λ t h. record {
    members = all-map IsSender IsSender drawn t.members (λ m a. record {
      number = a.number;
      waiting = all-drop IsClients 2 m.waiting a.waiting;
    }) h.members;
    own = tt;
    journal = all-append IsOfSender t.journal (stamps t) h.journal (all-append IsOfSender (map (own_entry (t.top + 1)) t.own) _
        (own-sent (t.top + 1) t.own h.own) (members-sent (t.top + 1) t.members h.members));
    some = h.some;
  };
  behind = behind-of o e KeepsSenders (sender-turns o e);
  running = λ t b is h. run-senders b o t h;
}

sender-closing : (o : Origin) (e : Event) → Closing o e KeepsSenders
sender-closing o e = record {
  charges = λ t h. same-senders t _ refl refl refl refl h;
  closes = λ t h. record { members = tt; own = h.own; journal = h.journal; some = h.some };
}

step-senders : (o : Origin) (e : Event) (t : Table) → AreSenders t → AreSenders (stepped o t e)
step-senders o e t h = of-deed o e KeepsSenders (sender-walk o e) (sender-ticks o e) (sender-doors o e) (sender-closing o e) t h

pub entries-of-senders : (o : Origin) (es : List Event) → AllByRecursion IsOfSender (journal_of o es)
entries-of-senders o es = (from-all o AreSenders (step-senders o) es (first o)
    (record { members = tt; own = tt; journal = tt; some = omega arith })).journal
