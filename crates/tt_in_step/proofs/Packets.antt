-- Each packet's rule.
use Rattle.std.proofs.Common.{◌≡◌, ℕ, ◌+◌, ◌≤◌, Bool, true, false, List, [], ◌∷◌}
use Rattle.std.proofs.Common.{nat_le, Option, Some, None, refl, ap, sym, ◌∙◌, subst, arith}
use Rattle.std.specs.Prelude.{◌==◌, ◌&&◌, cond, filter, map, not}
use Rattle.std.proofs.lemmas.Bool.{eqb-true, and_parts}
use Rattle.tt_lockstep.specs.Told as told
use Rattle.tt_lockstep.specs.Server.{Server, Stage, BeforeMap}
use Rattle.tt_game.specs.declared.message.GameMsg.{GameMsg}
use Rattle.tt_game.specs.declared.message.GameMsg.TheVariants.{ClientJoin, ClientGameInfo, ClientGamePassword, ClientCompanyPassword}
use Rattle.tt_game.specs.declared.message.GameMsg.TheVariants.{ClientGetmap, ClientMapOk, ClientAck, ClientCommand, ClientChat}
use Rattle.tt_game.specs.declared.message.GameMsg.TheVariants.{ClientSetName, ClientSetPassword, ClientMove, ClientError, ClientQuit}
use Rattle.tt_game.specs.declared.message.GameMsg.TheVariants.{ServerNeedGamePassword, ServerNeedCompanyPassword, ServerWelcome, ServerJoin}
use Rattle.tt_game.specs.declared.message.GameMsg.TheVariants.{ServerChat}
use Rattle.tt_world.specs.declared.command.Command.{Command}
use Rattle.tt_world.specs.declared.command.Entry.{Entry}
use Rattle.tt_rules.specs.Commands.{command_of}
use Rattle.tt_rules.specs.Statuses.{rank}
use Rattle.tt_rules.specs.declared.status.Status.TheVariants.{AuthGame, AuthCompany, Authorized, PreActive, Active}
use Rattle.tt_rules.specs.declared.status.Verdict.{Verdict}
use Rattle.tt_rules.specs.declared.status.Verdict.TheVariants.{Allowed, Ends}
use Rattle.tt_log.specs.declared.deed.What.TheVariants.{Msg}
use Rattle.tt_log.specs.Origin.{Origin}
use Rattle.tt_log.specs.Member.{Member, is_in, is_playing}
use Rattle.tt_log.specs.Table.{Table, now_in, digest_of, with_digest, playing, with_member}
use Rattle.tt_log.specs.Deed.{Deed, ◌▹◌, where_, becomes, tells, tells_playing}
use Rattle.tt_log.specs.Names.{given_name}
use Rattle.tt_rules.specs.Verdict.{permits, refusal, verdict_of, first_reason}
use Rattle.tt_log.specs.Member.{standing_of}
use Rattle.tt_log.specs.Table.{living_in}
use Rattle.tt_log.specs.Judged.{refused, unless}
use Rattle.tt_log.specs.Tellings.{Filling}
use Rattle.tt_log.specs.Judged.{is_empty, judged, founder}
use Rattle.tt_log.specs.Ending.{Quitting, Failing}
use Rattle.tt_log.specs.PacketRules.{client_info, first_company, welcomes, company_step_by, password_step_by, becomes_active, asks_company}
use Rattle.tt_log.specs.PacketRules.{has_caught_up, acknowledged, acknowledges, closed_token, is_in_scope, chats}
use Rattle.tt_log.specs.PacketRules.{does, command_waits}
use Rattle.tt_log.specs.Watching.{sees_welcome, sees_active, sees_chat, sees_change}
use Rattle.tt_log.specs.Events.{by_verdict, heard}
use Rattle.tt_log.specs.Shown.{Place, Asking, Greeted, told_at, moves_on, other_if}
use Rattle.tt_log.proofs.Changes.{answers, turned-conn, turned-client}
use Rattle.tt_log.proofs.Lists.{IsOther, Within, all-filter, map-filter-not}
use Rattle.tt_log.proofs.Crew.{On, put-among}
use Rattle.tt_in_step.specs.Watched.{Seat, AtDoor, stage_at, seat_of}
use Rattle.tt_in_step.proofs.Seats.{put-same, ranked, at-door}
use Rattle.tt_in_step.proofs.Hearing.{alone}
use Rattle.tt_in_step.proofs.Ways.{seen_as, Way, FitsAt, Fitting, way-on, IsNoise}
use Rattle.tt_in_step.proofs.Worlds.{MapsAreRead}
use Rattle.tt_in_step.proofs.Lines.{in_line}
use Rattle.tt_in_step.proofs.Does.{altered, Tied, Does, Turns, way-is, does-then, does-becomes, does-quiet, does-still, does-where}
use Rattle.tt_in_step.proofs.Does.{does-some, does-silent, does-news, does-playing, tied-turn, tied-same, seated, seen_same}
use Rattle.tt_in_step.proofs.Queueing.{does-asks}
use Rattle.tt_in_step.proofs.Ending.{does-leaves, does-ends, does-enters}

permitted-by : (b : Bool) (x y : Option ℕ) → unless (verdict_of (first_reason b x)) y ≡ Allowed → b ≡ true
permitted-by true x y is = refl
permitted-by false None y is = absurd cc
permitted-by false (Some code) y is = absurd cc

permitted : (o : Origin) (t : Table) (m : Member) (msg : GameMsg) → judged o t m (Some msg) ≡ Allowed → permits msg m.status ≡ true
permitted o t m msg is = permitted-by (permits msg m.status) (refusal (standing_of m) (living_in o t) msg)
    (refused o (living_in o t) t m msg) is

module _ (o : Origin) (reads : MapsAreRead o) (named : is_empty o.setup.id ≡ false) (f : Filling) (c : ℕ) where
  abbrev Done : Table → Place → Deed → Type 0
  Done t place d = Does o f c (Tied o f c) t place d

  -- a table whose own list, passwords or cost are others
  pub tied-but : (own : List Command) (digests : List (ℕ × List ℕ)) (cost : ℕ) (t : Table) (place : Place) → Tied o f c t place
      → Tied o f c (record t { own = own; digests = digests; cost = cost }) place
  tied-but own digests cost t place h = record {
    base = record { ordered = h.base.ordered; steady = h.base.steady; fits = h.base.fits };
    line = h.line;
  }

  -- ---- at the door

  door-turns : (t : Table) (place end : Place) (m : Member) (y : Seat) (said : GameMsg) → seat_of m ≡ AtDoor → stage_at y ≡ BeforeMap
      → told_at Asking said ≡ told.Other → moves_on Asking said ≡ end → FitsAt o t.frame t.journal y end
      → FitsAt o t.frame t.journal (seat_of m) place → Turns o f c t place (said ∷ []) (seat_of m) y
  door-turns t place end m y said at stage is on fit was =
      let b = nat_le c t.openings in
      let here : place ≡ Asking = (subst (λ x. FitsAt o t.frame t.journal x place) at was).0 in
      let door = seen_as t.frame t.top t.journal b (Some AtDoor) in
      record {
        end = end;
        way = way-is o f c place end _ _ _ _ _ _ (subst (λ p. Way o p (said ∷ []) door door end) (sym here)
            (way-on o t.frame t.top t.journal
            b AtDoor Asking end said is on)) refl (ap (λ (x : Seat). seen_as t.frame t.top t.journal b (Some x)) (sym at))
            (ap (λ (s : Stage). let v : Server Entry = record { frame = t.frame; permitted = t.top; journal = t.journal; stage = s } in v)
            (sym stage));
        fit = fit;
      }

  -- one at the door is told something and has another status, still outside the queue
  does-door : (t : Table) (place end : Place) (m n : Member) (said : GameMsg) → On t m → rank m.status ≤ 3 → n.conn ≡ m.conn
      → n.client ≡ m.client → stage_at (seat_of n) ≡ BeforeMap → told_at Asking said ≡ told.Other → moves_on Asking said ≡ end
      → FitsAt o t.frame t.journal (seat_of n) end → Tied o f c t place
      → Done t place (record { table = altered n t.tokens t.queue t; told = alone m.conn (Msg said ∷ []) })
  does-door t place end m n said on low conn client stage is go fit h =
      let at : seat_of m ≡ AtDoor = at-door m low in
      let out : in_line (Some (seat_of m)) ≡ false = ap (λ (x : Seat). in_line (Some x)) at in
      tied-turn o f c t.tokens t place m n (Msg said ∷ []) on conn client h (λ stands. absurd (cc (stands, out)))
      (λ waits. absurd (cc (ap in_line waits, out))) (λ own was. door-turns t place end m (seat_of n) said at stage is go fit was)

  does-welcomes : (t : Table) (place : Place) (m : Member) (name : List ℕ) (asked : ℕ) → On t m → rank m.status ≤ 3 → Tied o f c t place
      → Done t place (welcomes o (record m { name = name; asked = asked }) t)
  does-welcomes t place m name asked on low h =
      let n : Member = record (now_in Authorized t (record m { name = name; asked = asked })) { company = first_company asked } in
      let u : Table = with_member n t in
      let d : Deed = tells (m.conn ∷ []) (ServerWelcome m.client o.setup.seed o.setup.id) u in
      does-then o f c (Tied o f c) (Tied o f c) t place (d ▹ tells_playing (client_info n)) (sees_welcome n)
      (does-then o f c (Tied o f c) (Tied o f c) t place d (tells_playing (client_info n))
      (does-door t place Greeted m n (ServerWelcome m.client o.setup.seed o.setup.id) on low refl refl refl refl refl (refl, tt) h)
      (λ end k. does-playing o f c (Tied o f c) u end (client_info n) k.base k (refl, refl)))
      (λ end k. does-silent o f c (Tied o f c) u end _ _ refl k)

  does-company : (digest : Option (List ℕ)) (t : Table) (place : Place) (m : Member) (name : List ℕ) (asked : ℕ) → On t m
      → rank m.status ≤ 3 → Tied o f c t place → Done t place (company_step_by digest o (record m { name = name; asked = asked }) t)
  does-company None t place m name asked on low h = does-welcomes t place m name asked on low h
  does-company (Some digest) t place m name asked on low h =
      does-door t place Asking m (now_in AuthCompany t (record m { name = name; asked = asked }))
      (ServerNeedCompanyPassword o.setup.seed o.setup.id) on low refl refl refl (ap (λ (b : Bool). other_if (not b)) named) refl
      (refl, tt) h

  does-password : (password : List ℕ) (t : Table) (place : Place) (m : Member) (name : List ℕ) (asked : ℕ) → On t m → rank m.status ≤ 3
      → Tied o f c t place → Done t place (password_step_by password o (record m { name = name; asked = asked }) t)
  does-password [] t place m name asked on low h = does-company (digest_of t asked) t place m name asked on low h
  does-password (b ∷ bs) t place m name asked on low h =
      does-door t place Asking m (now_in AuthGame t (record m { name = name; asked = asked }))
      (ServerNeedGamePassword o.setup.seed o.setup.id)
      on low refl refl refl (ap (λ (b : Bool). other_if (not b)) named) refl (refl, tt) h

  -- one at the door is told about the game
  does-info : (t : Table) (place : Place) (m : Member) (said : GameMsg) → On t m → rank m.status ≡ 0 → told_at Asking said ≡ told.Other
      → moves_on Asking said ≡ Asking → Tied o f c t place → Done t place (tells (m.conn ∷ []) said t)
  does-info t place m said on at is go h =
      let sat = seated o f c t place m on h.base in
      let same = put-same c m t.members sat in
      let door : seat_of m ≡ AtDoor = at-door m (omega (arith, at)) in
      let fit : FitsAt o t.frame t.journal (seat_of m) Asking = subst (λ x. FitsAt o t.frame t.journal x Asking) (sym door) (refl, tt) in
      let stage : stage_at (seat_of m) ≡ BeforeMap = ap stage_at door in
      let d : Deed = record { table = altered m t.tokens t.queue t; told = alone m.conn (Msg said ∷ []) } in
      does-becomes o f c (Tied o f c) (Tied o f c) t t place d
      (does-door t place Asking m m said on (omega (arith, at)) refl refl stage is go fit h)
      (λ end k. (
        seen_same o f c t _ _ same,
        record {
          base = record {
            ordered = h.base.ordered;
            steady = h.base.steady;
            fits = subst (λ x. Fitting o t.frame t.journal (nat_le c t.openings) x end) same k.base.fits;
          };
          line = h.line;
        },
      ))

  -- ---- in the game

  does-active : (t : Table) (place : Place) (m : Member) → On t m → rank m.status ≡ 8 → Tied o f c t place → Done t place
      (becomes_active m t)
  does-active t place m on at h =
      let n : Member = now_in Active t m in
      let u : Table = with_member n t in
      let to : List ℕ = filter (λ c. not (c == m.conn)) (playing t) in
      let others : Within to (playing t) = λ c a. all-filter (IsOther c) (λ x. not (x == m.conn)) (playing t) a in
      let a : Deed = tells to (ServerJoin m.client) u in
      let b : Deed = a ▹ sees_active n in
      let pa : Done t place a = does-then o f c (Tied o f c) (Tied o f c) t place (tells to (ServerJoin m.client) t) (λ s. becomes u)
      (does-news o f c (Tied o f c) t place to (ServerJoin m.client) h.base h others (refl, refl))
      (λ end k. tied-same o f c t.tokens t end m n on refl refl (sym (ranked 8 m at)) k) in
      let pb : Done t place b = does-then o f c (Tied o f c) (Tied o f c) t place a (sees_active n) pa
      (λ end k. does-silent o f c (Tied o f c) u end _ _ refl k) in
      does-then o f c (Tied o f c) (Tied o f c) t place b (where_ (m.asked == founder) (asks_company n)) pb
      (λ end k. does-where o f c (Tied o f c) (m.asked == founder) (asks_company n)
      u end k (λ yes. does-quiet o f c (Tied o f c) u _ end refl (tied-but _ u.digests u.cost u end k)))

  acked-seat : (frame token : ℕ) (m : Member) → seat_of (acknowledged frame token m) ≡ seat_of m
  acked-seat frame token m = by (token == 0)
    where
      by : (b : Bool) → seat_of (record (cond b m (closed_token m)) { acked = frame }) ≡ seat_of m
      by true = refl
      by false = refl

  acked-rank : (frame token : ℕ) (m : Member) → rank (acknowledged frame token m).status ≡ rank m.status
  acked-rank frame token m = by (token == 0)
    where
      by : (b : Bool) → rank (record (cond b m (closed_token m)) { acked = frame }).status ≡ rank m.status
      by true = refl
      by false = refl

  does-acknowledges : (t : Table) (place : Place) (m : Member) (frame token : ℕ) → On t m → Tied o f c t place
      → Done t place (acknowledges m frame token t)
  does-acknowledges t place m frame token on h =
      let n : Member = acknowledged frame token m in
      let u : Table = with_member n t in
      let conn : n.conn ≡ m.conn = turned-conn (answers frame token) t m in
      does-then o f c (Tied o f c) (Tied o f c) t place (becomes u) (where_ (has_caught_up frame t m) (becomes_active n))
      (tied-same o f c t.tokens t place m n on conn (turned-client (answers frame token) t m) (acked-seat frame token m) h)
      (λ end k. does-where o f c (Tied o f c) (has_caught_up frame t m) (becomes_active n) u end k (λ yes.
      does-active u end n (put-among n m t.members conn on) (acked-rank frame token m ∙ eqb-true (rank m.status) 8
      (and_parts (is_in PreActive m) (nat_le t.frame (frame + 74)) yes).0) k))

  -- it has another name or company, and all are told
  pub does-change : (t : Table) (place : Place) (m n : Member) (said : GameMsg) → On t m → n.conn ≡ m.conn → n.client ≡ m.client
      → seat_of n ≡ seat_of m → IsNoise said → Tied o f c t place → Done t place (tells_playing said (with_member n t) ▹ sees_change n)
  does-change t place m n said on conn client same noise h =
      let u : Table = with_member n t in
      let a : Deed = tells_playing said u in
      does-then o f c (Tied o f c) (Tied o f c) t place a (sees_change n)
      (does-then o f c (Tied o f c) (Tied o f c) t place (becomes u) (tells_playing said)
      (tied-same o f c t.tokens t place m n on conn client same h)
      (λ end k. does-playing o f c (Tied o f c) u end said k.base k noise))
      (λ end k. does-silent o f c (Tied o f c) u end _ _ refl k)

  pub does-chats : (t : Table) (place : Place) (client scope to : ℕ) (text : List ℕ) → Tied o f c t place
      → Done t place (chats client scope to text t)
  does-chats t place client scope to text h =
      let a : Deed = tells (map (λ m. m.conn) (filter (λ m. is_playing m && is_in_scope scope to m) t.members))
      (ServerChat client scope text) t in
      does-then o f c (Tied o f c) (Tied o f c) t place a (sees_chat client scope text)
      (does-news o f c (Tied o f c) t place _ (ServerChat client scope text) h.base h (λ c none. map-filter-not (λ (m : Member). m.conn)
      is_playing (is_in_scope scope to) c t.members none) (refl, refl))
      (λ end k. does-silent o f c (Tied o f c) t end _ _ refl k)

  -- ---- a packet that is allowed

  pub does-does : (t : Table) (place : Place) (m : Member) (msg : GameMsg) → On t m → permits msg m.status ≡ true → Tied o f c t place
      → Done t place (does o m msg t)
  does-does t place m (ClientJoin revision grf name company) on a h =
      let zero : rank m.status ≡ 0 = eqb-true (rank m.status) 0 a in
      does-password o.setup.password t place m (given_name t m.conn name) company on (omega (arith, zero)) h
  does-does t place m ClientGameInfo on a h = does-info t place m _ on (eqb-true (rank m.status) 0 a) refl refl h
  does-does t place m (ClientGamePassword digest) on a h =
      let two : rank m.status ≡ 2 = eqb-true (rank m.status) 2 a in
      does-company (digest_of t m.asked) t place m m.name m.asked on (omega (arith, two)) h
  does-does t place m (ClientCompanyPassword digest) on a h =
      let three : rank m.status ≡ 3 = eqb-true (rank m.status) 3 a in
      does-welcomes t place m m.name m.asked on (omega (arith, three)) h
  does-does t place m ClientGetmap on a h = does-asks o reads f c t place m on (eqb-true (rank m.status) 4 a) h
  does-does t place m ClientMapOk on a h = does-enters o reads f c t place m on (eqb-true (rank m.status) 7 a) h
  does-does t place m (ClientAck frame token) on a h = does-acknowledges t place m frame token on h
  does-does t place m (ClientCommand company code number to text) on a h =
      does-some o f c (Tied o f c) (command_of code number to text) (command_waits m company) t place h (λ command is.
      tied-same o f c t.tokens t place m _ on refl refl refl h)
  does-does t place m (ClientChat scope to text) on a h = does-chats t place m.client scope to text h
  does-does t place m (ClientSetName name) on a h =
      does-change t place m (record m { name = given_name t m.conn name }) _ on refl refl refl (refl, refl) h
  does-does t place m (ClientSetPassword digest) on a h =
      does-quiet o f c (Tied o f c) t (with_digest m.company digest t) place refl (tied-but t.own _ t.cost t place h)
  does-does t place m (ClientMove company digest) on a h =
      does-change t place m (record m { company = company }) _ on refl refl refl (refl, refl) h
  does-does t place m (ClientError code) on a h = does-leaves o reads f c t place m (Failing code) on h
  does-does t place m ClientQuit on a h = does-leaves o reads f c t place m Quitting on h
  does-does t place m other on a h = does-still o f c (Tied o f c) t place h

  verdict-by : (v : Verdict) (said : Option GameMsg) (t : Table) (place : Place) (m : Member) → judged o t m said ≡ v → On t m
      → Tied o f c t place → Done t place (by_verdict v o m said t)
  verdict-by Allowed None t place m is on h = does-still o f c (Tied o f c) t place h
  verdict-by Allowed (Some msg) t place m is on h = does-does t place m msg on (permitted o t m msg is) h
  verdict-by (Ends code) said t place m is on h = does-ends o reads f c t place m code on h

  pub does-heard : (said : Option GameMsg) (t : Table) (place : Place) (m : Member) → On t m → Tied o f c t place
      → Done t place (heard o said m t)
  does-heard said t place m on h = verdict-by (judged o t m said) said t place m refl on h
