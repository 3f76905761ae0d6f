-- How a member ends, and how it enters the game.
use Rattle.std.proofs.Common.{◌≡◌, ℕ, Bool, true, false, List, [], ◌∷◌, ◌++◌, nat_le, Option, Some, None, refl, ap, ap₂, sym}
use Rattle.std.proofs.Common.{◌∙◌, subst, append_assoc, map}
use Rattle.std.specs.Prelude.{◌==◌, is_some}
use Rattle.std.specs.List.{AllByRecursion}
use Rattle.std.proofs.lemmas.Bool.{eqb-true, eq-eqb, leb-false}
use Rattle.tt_edge.specs.declared.event.Event.TheVariants.{Stop}
use Rattle.tt_lockstep.proofs.Dialogs.{Goes-on}
use Rattle.tt_game.specs.declared.message.GameMsg.{GameMsg}
use Rattle.tt_game.specs.declared.message.GameMsg.TheVariants.{ServerError, ServerFrame}
use Rattle.tt_world.specs.declared.command.Entry.{Entry}
use Rattle.tt_world.specs.Random.{next_random}
use Rattle.tt_rules.specs.Statuses.{rank}
use Rattle.tt_rules.specs.declared.status.Status.TheVariants.{PreActive}
use Rattle.tt_log.specs.declared.deed.Step.{Step}
use Rattle.tt_log.specs.declared.deed.What.{What}
use Rattle.tt_log.specs.declared.deed.What.TheVariants.{Msg, Entries, End}
use Rattle.tt_log.specs.Origin.{Origin, game_of, above}
use Rattle.tt_log.specs.Member.{Member, is_welcomed}
use Rattle.tt_log.specs.Table.{Table, now_in, welcomed, without_member}
use Rattle.tt_log.specs.Deed.{Deed, ◌▹◌, where_, tells_playing}
use Rattle.tt_log.specs.Tellings.{Filling}
use Rattle.tt_log.specs.Frames.{fresh_token, opened_token}
use Rattle.tt_log.specs.Queue.{leaves_queue}
use Rattle.tt_log.specs.Ending.{Farewell, Quitting, Failing, ends, leaves, news_of, sees_farewell, tells_farewell}
use Rattle.tt_log.specs.PacketRules.{client_info, told_command, enters}
use Rattle.tt_log.specs.Shown.{Place, InPlay, Parted, dialog}
use Rattle.tt_log.proofs.Changes.{step}
use Rattle.tt_log.proofs.Crew.{On, put, put-among, others}
use Rattle.tt_log.proofs.Ordered.{Ordered, under-not, order-moves}
use Rattle.tt_in_step.specs.Watched.{Seat, HasMap, Plays, seat_of, seat, watched}
use Rattle.tt_in_step.proofs.Seats.{put-other, put-here, put-same, others-here, others-other, none-seated, ranked}
use Rattle.tt_in_step.proofs.Hearing.{alone, alone-own, alone-none, all_said, entries-said}
use Rattle.tt_in_step.proofs.Ways.{seen_as, Way, Fitting, FitsAt, stays, IsNoise, ways-noise, way-play, way-error, way-vanish}
use Rattle.tt_in_step.proofs.Worlds.{MapsAreRead}
use Rattle.tt_in_step.proofs.Lines.{line-but}
use Rattle.tt_in_step.proofs.Does.{altered, put-ordered, Base, Tied, Parting, Does, Turns, way-is, does-then, does-becomes, does-silent}
use Rattle.tt_in_step.proofs.Does.{does-where, does-playing, does-turn, seated, seen_same}
use Rattle.tt_in_step.proofs.Queueing.{does-leaves-queue}

-- who has a seat was opened
pub was-opened : (c : ℕ) (t : Table) (x : Seat) → Ordered t → seat c t.members ≡ Some x → nat_le c t.openings ≡ true
was-opened c t x h was = by (nat_le c t.openings) refl
  where
    by : (b : Bool) → nat_le c t.openings ≡ b → nat_le c t.openings ≡ true
    by true is = is
    by false is = absurd (cc (none-seated c t.members (under-not t.openings c _ (leb-false c t.openings is) h.under), was))

each-alone : (conn : ℕ) (ms : List GameMsg) (ws : List What)
    → alone conn (map Msg ms ++ ws) ≡ map (λ m. step (conn ∷ []) (Msg m)) ms ++ alone conn ws
each-alone conn [] ws = refl
each-alone conn (m ∷ ms) ws = ap (λ (steps : List Step). step (conn ∷ []) (Msg m) ∷ steps) (each-alone conn ms ws)

talk-said : (o : Origin) (f : Filling) (ms : List GameMsg) (ws : List What) → all_said o f (map Msg ms ++ ws) ≡ ms ++ all_said o f ws
talk-said o f [] ws = refl
talk-said o f (m ∷ ms) ws = ap (λ (xs : List GameMsg). m ∷ xs) (talk-said o f ms ws)

infos-noise : (ms : List Member) → AllByRecursion IsNoise (map client_info ms)
infos-noise [] = tt
infos-noise (m ∷ ms) = ((refl, refl), infos-noise ms)

module _ (o : Origin) (reads : MapsAreRead o) (f : Filling) (c : ℕ) where
  -- ---- one ends

  -- it is told something, and then is gone
  abbrev gone : Member → List What → Table → Deed
  gone m ws t = record { table = without_member m.conn t; told = alone m.conn ws }

  bye : (t : Table) (place : Place) (m : Member) (ws : List What) → On t m → Tied o f c t place
      → (FitsAt o t.frame t.journal (seat_of m) place → (end : Place) × Way o place (all_said o f ws)
      (seen_as t.frame t.top t.journal true (Some (seat_of m))) (seen_as t.frame t.top t.journal true None) end)
      → Does o f c (Parting o f c m.conn) t place (gone m ws t)
  bye t place m ws on h way = by (m.conn == c) refl
    where
      by : (b : Bool) → (m.conn == c) ≡ b → Does o f c (Parting o f c m.conn) t place (gone m ws t)
      by true is =
          let e : m.conn ≡ c = eqb-true m.conn c is in
          let was : seat c t.members ≡ Some (seat_of m) =
          subst (λ k. seat k t.members ≡ Some (seat_of m)) e (seated o f c t place m on h.base) in
          let b : nat_le c t.openings ≡ true = was-opened c t (seat_of m) h.base.ordered was in
          let now : seat c (others m.conn t.members) ≡ None =
          subst (λ k. seat c (others k t.members) ≡ None) (sym e) (others-here c t.members) in
          let g = way (subst (λ x. Fitting o t.frame t.journal (nat_le c t.openings) x place) was h.base.fits) in
          record {
            end = g.0;
            way = way-is o f c place g.0 _ _ _ _ _ _ g.1 (sym (alone-own c m.conn o f ws is))
                (ap₂ (λ (b : Bool) (x : Option Seat). seen_as t.frame t.top t.journal b x) (sym b) (sym was))
                (ap₂ (λ (b : Bool) (x : Option Seat). seen_as t.frame t.top t.journal b x) (sym b) (sym now));
            tied = record {
              base = record {
                ordered = (order-moves o Stop).parts t m on h.base.ordered;
                steady = h.base.steady;
                fits = subst (λ x. Fitting o t.frame t.journal (nat_le c t.openings) x g.0) (sym now) (λ closed. absurd (cc (b, closed)));
              };
              but = line-but m.conn t.members (others m.conn t.members) t.queue (λ d apart. others-other d m.conn t.members apart) h.line;
            };
          }
      by false is =
          let now : seat c (others m.conn t.members) ≡ seat c t.members = others-other c m.conn t.members is in
          record {
            end = place;
            way = way-is o f c place place _ _ _ _ _ _ (stays o place (watched c t)) (sym (alone-none c m.conn o f ws is)) refl
                (seen_same o f c t _ _ (sym now));
            tied = record {
              base = record {
                ordered = (order-moves o Stop).parts t m on h.base.ordered;
                steady = h.base.steady;
                fits = subst (λ x. Fitting o t.frame t.journal (nat_le c t.openings) x place) (sym now) h.base.fits;
              };
              but = line-but m.conn t.members (others m.conn t.members) t.queue (λ d apart. others-other d m.conn t.members apart) h.line;
            };
          }

  -- those that play are told of it, and admins
  farewell : (x : ℕ) (t : Table) (place : Place) (m : Member) (w : Farewell) → Parting o f c x t place
      → Does o f c (Parting o f c x) t place (tells_farewell w m t)
  farewell x t place m Quitting h =
      does-then o f c (Parting o f c x) (Parting o f c x) t place (tells_playing (news_of Quitting m) t) (sees_farewell Quitting m)
      (does-playing o f c (Parting o f c x) t place (news_of Quitting m) h.base h (refl, refl))
      (λ end k. does-silent o f c (Parting o f c x) t end _ _ refl k)
  farewell x t place m (Failing code) h =
      does-then o f c (Parting o f c x) (Parting o f c x) t place (tells_playing (news_of (Failing code) m) t) (sees_farewell
      (Failing code) m)
      (does-playing o f c (Parting o f c x) t place (news_of (Failing code) m) h.base h (refl, refl))
      (λ end k. does-silent o f c (Parting o f c x) t end _ _ refl k)

  -- behind its end the others are told, and the queue moves up
  away : (t : Table) (place : Place) (m : Member) (ws : List What) (w : Farewell)
      → Does o f c (Parting o f c m.conn) t place (gone m ws t)
      → Does o f c (Tied o f c) t place (gone m ws t ▹ where_ (is_welcomed m) (tells_farewell w m) ▹ leaves_queue m.conn)
  away t place m ws w d =
      let a : Deed = gone m ws t in
      let b : Deed = a ▹ where_ (is_welcomed m) (tells_farewell w m) in
      does-then o f c (Parting o f c m.conn) (Tied o f c) t place b (leaves_queue m.conn)
      (does-then o f c (Parting o f c m.conn) (Parting o f c m.conn) t place a (where_ (is_welcomed m) (tells_farewell w m)) d
      (λ end k. does-where o f c (Parting o f c m.conn) (is_welcomed m) (tells_farewell w m) a.table end k
      (λ yes. farewell m.conn a.table end m w k)))
      (λ end k. does-leaves-queue o reads f c m.conn b.table end k)

  pub does-leaves : (t : Table) (place : Place) (m : Member) (w : Farewell) → On t m → Tied o f c t place
      → Does o f c (Tied o f c) t place (leaves m w t)
  does-leaves t place m w on h = away t place m (End ∷ []) w (bye t place m (End ∷ []) on h (λ fit.
      (place, way-vanish o t.frame t.top t.journal true (Some (seat_of m)) place)))

  pub does-ends : (t : Table) (place : Place) (m : Member) (code : ℕ) → On t m → Tied o f c t place
      → Does o f c (Tied o f c) t place (ends m code t)
  does-ends t place m code on h =
      let ws : List What = Msg (ServerError code) ∷ End ∷ [] in
      away t place m ws (Failing code) (bye t place m ws on h (λ fit.
      (Parted, way-error o t.frame t.top t.journal (seat_of m) place code fit)))

  -- ---- it enters the game

  abbrev entering : Member → Table → Member
  entering m t = record (now_in PreActive t m) { acked = m.map_frame; told = t.top }

  abbrev frame_told : Table → GameMsg
  frame_told t = ServerFrame t.frame t.top (fresh_token t.tokens)

  -- what it is told: who is there, the entries above its map, and how far it may run
  abbrev entry_words : Member → Table → List What
  entry_words m t = map Msg (map client_info (welcomed t)) ++ Entries m.map_frame ∷ Msg (frame_told t) ∷ []

  entry-turns : (t : Table) (place : Place) (m : Member) → Base o f c t place → rank m.status ≡ 7
      → FitsAt o t.frame t.journal (seat_of m) place → Turns o f c t place (all_said o f (entry_words m t)) (seat_of m) (Plays m.map_frame)
  entry-turns t place m h at fit =
      let is : seat_of m ≡ HasMap m.map_frame = ranked 7 m at in
      let here : place ≡ InPlay = (subst (λ x. FitsAt o t.frame t.journal x place) is fit).0 in
      let infos = map client_info (welcomed t) in
      let cmds = map told_command (above o m.map_frame t.journal) in
      let last = frame_told t ∷ [] in
      let b = nat_le c t.openings in
      let old = seen_as t.frame t.top t.journal b (Some (HasMap m.map_frame)) in
      let new = seen_as t.frame t.top t.journal b (Some (Plays m.map_frame)) in
      let way : Way o InPlay (infos ++ (cmds ++ last)) old new InPlay = Goes-on (game_of o) dialog InPlay InPlay InPlay old old new infos
      (cmds ++ last) (ways-noise o t.frame t.top t.journal b (HasMap m.map_frame) infos (infos-noise (welcomed t)))
      (way-play o t.frame t.top m.map_frame (fresh_token t.tokens) t.journal b) in
      let said : infos ++ (cmds ++ last) ≡ all_said o f (entry_words m t) = sym (talk-said o f infos (Entries m.map_frame
      ∷ Msg (frame_told t) ∷ []) ∙ ap (λ (ms : List GameMsg). infos ++ (ms ++ last)) (entries-said (above o m.map_frame f.journal)
      ∙ ap (λ (es : List Entry). map told_command (above o m.map_frame es)) h.steady.journal_is)) in
      record {
        end = InPlay;
        way = way-is o f c place InPlay _ _ _ _ _ _ (subst (λ p. Way o p (infos ++ (cmds ++ last)) old new InPlay) (sym here) way) said
            (ap (λ (x : Seat). seen_as t.frame t.top t.journal b (Some x)) (sym is)) refl;
        fit = (refl, tt);
      }

  pub does-enters : (t : Table) (place : Place) (m : Member) → On t m → rank m.status ≡ 7 → Tied o f c t place
      → Does o f c (Tied o f c) t place (enters m t)
  does-enters t place m on at h =
      let n : Member = entering m t in
      let k : Member = opened_token (fresh_token t.tokens) t n in
      let ms : List Member = put n t.members in
      let v : Table = altered n t.tokens t.queue t in
      let u : Table = altered k (next_random t.tokens) t.queue v in
      let infos : List GameMsg = map client_info (welcomed t) in
      let each : List Step = map (λ m. step (n.conn ∷ []) (Msg m)) infos in
      let entries : Step = step (m.conn ∷ []) (Entries m.map_frame) in
      let frame : Step = step (m.conn ∷ []) (Msg (frame_told t)) in
      let was = seated o f c t place m on h.base in
      let now : seat m.conn ms ≡ Some (seat_of k) =
      put-here m.conn n t.members (eq-eqb m.conn m.conn refl) (ap (λ (x : Option Seat). is_some x) was) in
      let same : seat c (put k ms) ≡ seat c ms = put-same c k ms now in
      let d : Does o f c (Base o f c) t place (record { table = v; told = alone m.conn (entry_words m t) }) =
      does-turn o f c t.tokens t.queue t place m n (entry_words m t) on refl refl h.base (λ own fit. entry-turns t place m h.base at fit) in
      let told : alone m.conn (entry_words m t) ≡ (each ++ entries ∷ []) ++ frame ∷ [] = each-alone m.conn infos (Entries m.map_frame
      ∷ Msg (frame_told t) ∷ []) ∙ sym (append_assoc each (entries ∷ []) (frame ∷ [])) in
      let p : Does o f c (Parting o f c m.conn) t place (record { table = u; told = alone m.conn (entry_words m t) }) =
      does-becomes o f c (Base o f c) (Parting o f c m.conn) t u place (record { table = v; told = alone m.conn (entry_words m t) }) d
      (λ end b. (
        seen_same o f c t _ _ (sym same),
        record {
          base = record {
            ordered = put-ordered v k n (put-among n m t.members refl on) refl refl b.ordered;
            steady = b.steady;
            fits = subst (λ x. Fitting o t.frame t.journal (nat_le c t.openings) x end) (sym same) b.fits;
          };
          but = line-but m.conn t.members (put k ms) t.queue (λ e apart. put-other e k ms apart ∙ put-other e n t.members apart) h.line;
        },
      )) in
      let q : Does o f c (Parting o f c m.conn) t place (record { table = u; told = (each ++ entries ∷ []) ++ frame ∷ [] }) =
      subst (λ (steps : List Step). Does o f c (Parting o f c m.conn) t place (record { table = u; told = steps })) told p in
      does-then o f c (Parting o f c m.conn) (Tied o f c) t place (record { table = u; told = (each ++ entries ∷ []) ++ frame ∷ [] })
      (leaves_queue m.conn) q (λ end b. does-leaves-queue o reads f c m.conn u end b)
