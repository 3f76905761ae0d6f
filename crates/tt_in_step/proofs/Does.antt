-- What it is that each rule of the table keeps, and how rules are joined.
use Rattle.std.proofs.Common.{◌≡◌, ℕ, ◌≤◌, Bool, true, false, List, [], nat_le, Option, Some, None, refl, ap, sym, ◌∙◌, subst}
use Rattle.std.specs.Prelude.{◌==◌, is_some}
use Rattle.std.proofs.lemmas.Bool.{eqb-true}
use Rattle.tt_lockstep.specs.Server.{Server}
use Rattle.tt_lockstep.proofs.Dialogs.{Goes-on, Goes-is}
use Rattle.tt_game.specs.declared.message.GameMsg.{GameMsg}
use Rattle.tt_world.specs.declared.command.Entry.{Entry}
use Rattle.tt_log.specs.declared.deed.What.{What}
use Rattle.tt_log.specs.declared.deed.What.TheVariants.{Msg}
use Rattle.tt_log.specs.Origin.{Origin, game_of, world_at}
use Rattle.tt_log.specs.Member.{Member}
use Rattle.tt_log.specs.Table.{Table, playing}
use Rattle.tt_log.specs.Deed.{Deed, ◌▹◌, where_, where_some, becomes, tells, tells_what}
use Rattle.tt_log.specs.declared.report.Report.{Report}
use Rattle.tt_log.specs.Polls.{tells_admin}
use Rattle.tt_log.specs.Tellings.{Filling}
use Rattle.tt_log.specs.Events.{last_frame}
use Rattle.tt_log.specs.Shown.{Place, dialog}
use Rattle.tt_log.proofs.Lists.{Within, any-not}
use Rattle.tt_log.proofs.Crew.{On, put, conns, admin_conns, put-conns}
use Rattle.tt_log.proofs.Ordered.{Ordered, IsOrdered, put-clients, clients}
use Rattle.tt_in_step.specs.Watched.{Seat, InQueue, seat_of, seat, watched}
use Rattle.tt_in_step.proofs.Seats.{among, put-here, put-other, sits, plays, playing-is, not-any}
use Rattle.tt_in_step.proofs.Hearing.{reports-silent}
use Rattle.tt_in_step.proofs.Hearing.{hears, hears-append, hears-one, hears-none, says}
use Rattle.tt_in_step.proofs.Hearing.{if_told, if_told-nil, alone, alone-own, alone-none, all_said}
use Rattle.tt_in_step.proofs.Ways.{seen_as, Way, FitsAt, Fitting, stays, IsNoise, way-noise}
use Rattle.tt_in_step.proofs.Worlds.{AreShort}
use Rattle.tt_in_step.proofs.Lines.{Line, LineBut, in_line, line-put}

-- the table with a member in the place of the one on its connection, and another queue, and other words
abbrev pub altered : Member → ℕ × ℕ → List ℕ → Table → Table
altered n words queue t = record t { members = put n t.members; tokens = words; queue = queue }

pub put-ordered : (t : Table) (n m : Member) → On t m → n.conn ≡ m.conn → n.client ≡ m.client → Ordered t
    → IsOrdered t.openings t.clients (conns (put n t.members)) (clients (put n t.members)) (admin_conns t.admins)
put-ordered t n m on conn client h = rw (put-conns n t.members, put-clients 0 n m t.members h.rise on conn client) h

module _ (o : Origin) (f : Filling) (c : ℕ) where
  -- what no rule behind the frame changes: what is filled in is that of the table, and the journal is in range
  pub record Steady (frame : ℕ) (journal : List Entry) : Type 0 where
    pub frame_is : f.frame ≡ frame
    pub world_is : f.world ≡ world_at o journal frame
    pub journal_is : f.journal ≡ journal
    pub short : AreShort journal
    pub low : frame ≤ last_frame

  -- the dialogue of the connection stands where its seat says
  pub record Base (t : Table) (place : Place) : Type 0 where
    pub ordered : Ordered t
    pub steady : Steady t.frame t.journal
    pub fits : Fitting o t.frame t.journal (nat_le c t.openings) (seat c t.members) place

  pub record Tied (t : Table) (place : Place) : Type 0 where
    pub base : Base t place
    pub line : Line t.members t.queue

  -- one leaves, and the queue is still as it was
  pub record Parting (x : ℕ) (t : Table) (place : Place) : Type 0 where
    pub base : Base t place
    pub but : LineBut x t.members t.queue

  -- by a deed the connection goes on, and behind it something holds of the table and the place
  pub record Does (T : Table → Place → Type 0) (t : Table) (place : Place) (d : Deed) : Type 0 where
    pub end : Place
    pub way : Way o place (hears c o f d.told) (watched c t) (watched c d.table) end
    pub tied : T d.table end

  pub way-is : (place end : Place) (xs ys : List GameMsg) (a b old new : Server Entry) → Way o place xs a b end → xs ≡ ys
      → a ≡ old → b ≡ new
      → Way o place ys old new end
  way-is place end xs ys a b old new way p q r = Goes-is (game_of o) dialog place end xs ys a b old new way p q r

  -- ---- rules joined

  pub does-then : (T U : Table → Place → Type 0) (t : Table) (place : Place) (d : Deed) (rule : Table → Deed) → Does T t place d
      → ((end : Place) → T d.table end → Does U d.table end (rule d.table)) → Does U t place (d ▹ rule)
  does-then T U t place d rule p q =
      let r = q p.end p.tied in
      let next : Deed = rule d.table in
      record {
        end = r.end;
        way = subst (λ ms. Way o place ms (watched c t) (watched c next.table) r.end) (sym (hears-append c o f d.told next.told))
            (Goes-on (game_of o) dialog place p.end r.end (watched c t) (watched c d.table) (watched c next.table) (hears c o f d.told)
            (hears c o f next.told) p.way r.way);
        tied = r.tied;
      }

  -- what holds behind it may be weakened or made stronger
  pub does-so : (T U : Table → Place → Type 0) (t : Table) (place : Place) (d : Deed) → Does T t place d
      → ((end : Place) → T d.table end → U d.table end) → Does U t place d
  does-so T U t place d p g = record { end = p.end; way = p.way; tied = g p.end p.tied }

  -- and the table changed, where the connection sees the same
  pub does-becomes : (T U : Table → Place → Type 0) (t u : Table) (place : Place) (d : Deed) → Does T t place d
      → ((end : Place) → T d.table end → (watched c d.table ≡ watched c u) × U u end) → Does U t place (record { table = u; told = d.told })
  does-becomes T U t u place d p g =
      let h = g p.end p.tied in record {
        end = p.end;
        way = subst (λ s. Way o place (hears c o f d.told) (watched c t) s p.end) h.0 p.way;
        tied = h.1;
      }

  -- nothing is told, and the connection sees what it saw
  pub does-quiet : (T : Table → Place → Type 0) (t u : Table) (place : Place) → watched c t ≡ watched c u → T u place
      → Does T t place (becomes u)
  does-quiet T t u place same h = record {
    end = place;
    way = subst (λ s. Way o place [] (watched c t) s place) same (stays o place (watched c t));
    tied = h;
  }

  pub does-still : (T : Table → Place → Type 0) (t : Table) (place : Place) → T t place → Does T t place (becomes t)
  does-still T t place h = does-quiet T t t place refl h

  pub does-where : (T : Table → Place → Type 0) (b : Bool) (rule : Table → Deed) (t : Table) (place : Place) → T t place
      → (b ≡ true → Does T t place (rule t)) → Does T t place (where_ b rule t)
  does-where T true rule t place h d = d refl
  does-where T false rule t place h d = does-still T t place h

  pub does-some : {A : Type 0} (T : Table → Place → Type 0) (x : Option A) (rule : A → Table → Deed) (t : Table) (place : Place)
      → T t place → ((y : A) → x ≡ Some y → Does T t place (rule y t)) → Does T t place (where_some x rule t)
  does-some T None rule t place h d = does-still T t place h
  does-some T (Some y) rule t place h d = d y refl

  -- ---- what is told

  -- what says nothing to those that play: a message to admins, or an end
  pub does-silent : (T : Table → Place → Type 0) (t : Table) (place : Place) (to : List ℕ) (w : What) → says o f w ≡ [] → T t place
      → Does T t place (tells_what to w t)
  does-silent T t place to w silent h = record {
    end = place;
    way = way-is place place _ _ _ _ _ _ (stays o place (watched c t))
        (sym (ap (λ (ms : List GameMsg). if_told (among c to) ms []) silent ∙ if_told-nil (among c to) [])) refl refl;
    tied = h;
  }

  -- an admin is told reports
  pub does-reports : (T : Table → Place → Type 0) (t : Table) (place : Place) (conn : ℕ) (reports : List Report) → T t place
      → Does T t place (tells_admin conn reports t)
  does-reports T t place conn reports h = record {
    end = place;
    way = way-is place place _ _ _ _ _ _ (stays o place (watched c t)) (sym (reports-silent c o f conn reports)) refl refl;
    tied = h;
  }

  -- what changes nothing is told to some of those that play
  pub does-news : (T : Table → Place → Type 0) (t : Table) (place : Place) (to : List ℕ) (m : GameMsg) → Base t place → T t place
      → Within to (playing t) → IsNoise m → Does T t place (tells to m t)
  does-news T t place to m base h within noise = by (among c to) (plays (seat c t.members)) refl refl
    where
      by : (p q : Bool) → among c to ≡ p → plays (seat c t.members) ≡ q → Does T t place (tells to m t)
      by true true is plays = record {
        end = place;
        way = way-is place place _ _ _ _ _ _ (way-noise o t.frame t.top t.journal (nat_le c t.openings) (seat c t.members) place m plays
            base.fits noise) (sym (hears-one c o f to (Msg m) is)) refl refl;
        tied = h;
      }
      by true false is plays =
          let none : among c (playing t) ≡ false = playing-is 0 c t.members base.ordered.rise ∙ plays in
          absurd (cc (is, any-not c to (within c (not-any c (playing t) none))))
      by false q is plays = record {
        end = place;
        way = way-is place place _ _ _ _ _ _ (stays o place (watched c t)) (sym (hears-none c o f to (Msg m) is)) refl refl;
        tied = h;
      }

  pub does-playing : (T : Table → Place → Type 0) (t : Table) (place : Place) (m : GameMsg) → Base t place → T t place → IsNoise m
      → Does T t place (tells (playing t) m t)
  does-playing T t place m base h noise = does-news T t place (playing t) m base h (λ c none. none) noise

  -- ---- a member is changed, and told something alone

  -- the connection goes from a seat to another one
  pub record Turns (t : Table) (place : Place) (ms : List GameMsg) (x y : Seat) : Type 0 where
    pub end : Place
    pub way : Way o place ms (seen_as t.frame t.top t.journal (nat_le c t.openings) (Some x))
        (seen_as t.frame t.top t.journal (nat_le c t.openings) (Some y)) end
    pub fit : FitsAt o t.frame t.journal y end

  pub seen_same : (t : Table) (x y : Option Seat) → x ≡ y
      → seen_as t.frame t.top t.journal (nat_le c t.openings) x ≡ seen_as t.frame t.top t.journal (nat_le c t.openings) y
  seen_same t x y e = ap (λ z. seen_as t.frame t.top t.journal (nat_le c t.openings) z) e

  pub seated : (t : Table) (place : Place) (m : Member) → On t m → Base t place → seat m.conn t.members ≡ Some (seat_of m)
  seated t place m on h = sits 0 m t.members h.ordered.rise on

  pub does-turn : (words : ℕ × ℕ) (queue : List ℕ) (t : Table) (place : Place) (m n : Member) (ws : List What) → On t m → n.conn ≡ m.conn
      → n.client ≡ m.client → Base t place
      → ((m.conn == c) ≡ true → FitsAt o t.frame t.journal (seat_of m) place → Turns t place (all_said o f ws) (seat_of m) (seat_of n))
      → Does Base t place (record { table = altered n words queue t; told = alone m.conn ws })
  does-turn words queue t place m n ws on conn client h turns = by (m.conn == c) refl
    where
      sat : seat m.conn t.members ≡ Some (seat_of m)
      sat = seated t place m on h

      by : (b : Bool) → (m.conn == c) ≡ b → Does Base t place (record { table = altered n words queue t; told = alone m.conn ws })
      by true is =
          let was : seat c t.members ≡ Some (seat_of m) = subst (λ k. seat k t.members ≡ Some (seat_of m)) (eqb-true m.conn c is) sat in
          let own : (n.conn == c) ≡ true = ap (λ (k : ℕ). k == c) conn ∙ is in
          let now : seat c (put n t.members) ≡ Some (seat_of n) =
          put-here c n t.members own (ap (λ (x : Option Seat). is_some x) was) in
          let turn = turns is (subst (λ x. Fitting o t.frame t.journal (nat_le c t.openings) x place) was h.fits) in
          record {
            end = turn.end;
            way = way-is place turn.end _ _ _ _ _ _ turn.way (sym (alone-own c m.conn o f ws is)) (seen_same t _ _ (sym was))
                (seen_same t _ _ (sym now));
            tied = record {
              ordered = put-ordered t n m on conn client h.ordered;
              steady = h.steady;
              fits = subst (λ x. Fitting o t.frame t.journal (nat_le c t.openings) x turn.end) (sym now) turn.fit;
            };
          }
      by false is =
          let now : seat c (put n t.members) ≡ seat c t.members = put-other c n t.members (ap (λ (k : ℕ). k == c) conn ∙ is) in
          record {
            end = place;
            way = way-is place place _ _ _ _ _ _ (stays o place (watched c t)) (sym (alone-none c m.conn o f ws is)) refl
                (seen_same t _ _ (sym now));
            tied = record {
              ordered = put-ordered t n m on conn client h.ordered;
              steady = h.steady;
              fits = subst (λ x. Fitting o t.frame t.journal (nat_le c t.openings) x place) (sym now) h.fits;
            };
          }

  -- it keeps its place in the queue, or has none
  pub tied-turn : (words : ℕ × ℕ) (t : Table) (place : Place) (m n : Member) (ws : List What) → On t m → n.conn ≡ m.conn
      → n.client ≡ m.client → Tied t place → (in_line (Some (seat_of m)) ≡ true → in_line (Some (seat_of n)) ≡ true)
      → (Some (seat_of m) ≡ Some InQueue → Some (seat_of n) ≡ Some InQueue)
      → ((m.conn == c) ≡ true → FitsAt o t.frame t.journal (seat_of m) place → Turns t place (all_said o f ws) (seat_of m) (seat_of n))
      → Does Tied t place (record { table = altered n words t.queue t; told = alone m.conn ws })
  tied-turn words t place m n ws on conn client h stands waits turns =
      let was : seat n.conn t.members ≡ Some (seat_of m) =
      subst (λ k. seat k t.members ≡ Some (seat_of m)) (sym conn) (seated t place m on h.base) in
      let line : Line (put n t.members) t.queue = line-put n (seat_of m) t.members t.queue was stands waits h.line in
      does-so Base Tied t place (record { table = altered n words t.queue t; told = alone m.conn ws })
      (does-turn words t.queue t place m n ws on conn client h.base turns) (λ end k. record { base = k; line = line })

  pub same-turns : (t : Table) (place : Place) (x y : Seat) → y ≡ x → FitsAt o t.frame t.journal x place → Turns t place [] x y
  same-turns t place x y same fit = subst (λ z. Turns t place [] x z) (sym same) (record {
    end = place;
    way = stays o place (seen_as t.frame t.top t.journal (nat_le c t.openings) (Some x));
    fit = fit;
  })

  -- its seat is as it was
  pub tied-same : (words : ℕ × ℕ) (t : Table) (place : Place) (m n : Member) → On t m → n.conn ≡ m.conn → n.client ≡ m.client
      → seat_of n ≡ seat_of m → Tied t place → Does Tied t place (becomes (altered n words t.queue t))
  tied-same words t place m n on conn client same h =
      tied-turn words t place m n [] on conn client h (λ stands. ap (λ (x : Seat). in_line (Some x)) same ∙ stands)
      (λ waits. ap (λ (x : Seat). Some x) same ∙ waits) (λ own fit. same-turns t place (seat_of m) (seat_of n) same fit)
