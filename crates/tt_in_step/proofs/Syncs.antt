-- A SYNC is told by the tick that makes its frame, of the world at that frame, and to a member whose map lies below it.
use Rattle.std.proofs.Common.{◌≡◌, ◌<◌, ◌+◌, ℕ, inl, inr, Bool, true, false, List, [], ◌∷◌, ◌++◌, Option, Some, None, map, refl}
use Rattle.std.proofs.Common.{ap, sym, ◌∙◌, subst, arith}
use Rattle.std.specs.Prelude.{◌==◌, ◌*◌, nat_lt, length, if◌then◌else◌}
use Rattle.std.specs.List.{AllByRecursion}
use Rattle.std.proofs.lemmas.Bool.{eqb-true}
use Rattle.tt_edge.specs.declared.event.Event.{Event}
use Rattle.tt_edge.specs.declared.event.Event.TheVariants.{Tick}
use Rattle.tt_game.specs.declared.message.GameMsg.{GameMsg}
use Rattle.tt_game.specs.declared.message.GameMsg.TheVariants.{ServerSync, ServerBanned, ServerMapData, ServerMapDone}
use Rattle.tt_admin.specs.declared.message.AdminMsg.{AdminMsg}
use Rattle.tt_world.specs.declared.command.Entry.{Entry}
use Rattle.tt_log.specs.declared.deed.Step.{Step}
use Rattle.tt_log.specs.declared.deed.What.{What}
use Rattle.tt_log.specs.declared.deed.What.TheVariants.{Msg, ToAdmin, MapBegin, MapPieces, Sync, Entries, Stamp, End}
use Rattle.tt_log.specs.Origin.{Origin, above, world_at}
use Rattle.tt_log.specs.Member.{Member, is_in}
use Rattle.tt_log.specs.Table.{Table, member_of, world_of}
use Rattle.tt_log.specs.Deed.{Deed, Said, game, admin}
use Rattle.tt_log.specs.Reports.{reported}
use Rattle.tt_log.specs.PacketRules.{told_command}
use Rattle.tt_log.specs.Tick.{pieces_of}
use Rattle.tt_log.specs.Tellings.{Filling, filling, filled, said_by, piece_messages}
use Rattle.tt_log.specs.Events.{deed, stepped}
use Rattle.tt_log.specs.History.{table_of, journal_of}
use Rattle.tt_log.specs.Told.{told, told_by, told_to}
use Rattle.tt_log.specs.Marks.{IsMarked}
use Rattle.tt_log.specs.Downloads.{IsMember, IsQueue, is_downloading}
use Rattle.tt_rules.specs.declared.status.Status.TheVariants.{MapWait}
use Rattle.tt_log.proofs.Lists.{NotIn, all-append, all-so, among-all}
use Rattle.tt_log.proofs.Crew.{on-found}
use Rattle.tt_log.proofs.Hearing.{Says, heard-all}
use Rattle.tt_log.proofs.Families.{IsAside, Aside, Out, out-deed}
use Rattle.tt_log.proofs.Malformed.{none-member}
use Rattle.tt_log.proofs.Queueing.{is-queue}
use Rattle.tt_log.proofs.Marking.{are-marked}
use Rattle.tt_log.proofs.Clock.{tick-runs}
use Rattle.tt_log.proofs.Going.{over-stays}
use Rattle.tt_log.proofs.Refusing.{table-snoc}
use Rattle.tt_in_step.proofs.Quiet.{IsUsual, MayTell, MaySay, of-deed}

-- what stands in the middle of a list of which each is so
pub in-middle : {A : Type 0} (P : A → Type 0) (front later : List A) (x : A) → AllByRecursion P (front ++ x ∷ later) → P x
in-middle P [] later x a = a.0
in-middle P (y ∷ front) later x a = in-middle P front later x a.1

-- ---- a SYNC is that of the filling, and told only where this is so; a ban is told nowhere

module _ (S : Type 0) (f : Filling) where
  abbrev pub Word : Said → Type 0
  Word (game (ServerSync frame word)) = S × (frame ≡ f.frame) × (word ≡ f.world.words.0)
  Word (game ServerBanned) = ⊥
  Word other = Unit

  word-msg : (m : GameMsg) → IsUsual m → Word (game m)
  word-msg (ServerSync frame word) h = absurd h
  word-msg ServerBanned h = absurd h
  word-msg other h = tt

  word-admins : (ms : List AdminMsg) → AllByRecursion Word (map admin ms)
  word-admins [] = tt
  word-admins (m ∷ ms) = (tt, word-admins ms)

  word-games : (ms : List GameMsg) → AllByRecursion IsUsual ms → AllByRecursion Word (map game ms)
  word-games [] a = tt
  word-games (m ∷ ms) a = (word-msg m a.0, word-games ms a.1)

  word-entries : (es : List Entry) → AllByRecursion Word (map (λ e. game (told_command e)) es)
  word-entries [] = tt
  word-entries (e ∷ es) = (tt, word-entries es)

  no-piece : (pieces : List (List ℕ)) → AllByRecursion IsUsual (map ServerMapData pieces)
  no-piece [] = tt
  no-piece (p ∷ pieces) = (tt, no-piece pieces)

  no-done : (b : Bool) → AllByRecursion IsUsual (if b then [] else ServerMapDone ∷ [])
  no-done true = tt
  no-done false = (tt, tt)

  word-says : (o : Origin) (w : What) → MayTell S w → AllByRecursion Word (said_by o f w)
  word-says o (Msg m) h = (word-msg m h, tt)
  word-says o (ToAdmin r) h = word-admins (reported o f r)
  word-says o MapBegin h = (tt, (tt, tt))
  word-says o MapPieces h = word-games (piece_messages f.left) (all-append IsUsual (map ServerMapData (pieces_of 4 f.left)) _
      (no-piece (pieces_of 4 f.left)) (no-done (nat_lt (4 * 1400) (length f.left))))
  word-says o Sync h = ((h, refl, refl), tt)
  word-says o (Entries frame) h = word-entries (above o frame f.journal)
  word-says o (Stamp e) h = (tt, tt)
  word-says o End h = tt

pub words-told : (o : Origin) (t : Table) (e : Event) (c : ℕ)
    → AllByRecursion (Word (e ≡ Tick) (filling o t (stepped o t e))) (told_by o t e c)
words-told o t e c =
    let f : Filling = filling o t (stepped o t e) in
    let steps : List Step = (deed o e t).told in
    heard-all (Word (e ≡ Tick) f) c o f steps (all-so (MaySay (e ≡ Tick)) (Says (Word (e ≡ Tick) f) c o f) steps
    (λ s h. inr (word-says (e ≡ Tick) f o s.what h)) (of-deed (e ≡ Tick) o e t (λ is. is)))

-- ---- who is no member is told none

aside-says : (f : Filling) (c : ℕ) (o : Origin) (s : Step) → Aside c s → Says (Word ⊥ f) c o f s
aside-says f c o s (inl others) = inl others
aside-says f c o s (inr is) = inr (by s.what is)
  where
    by : (w : What) → IsAside w → AllByRecursion (Word ⊥ f) (said_by o f w)
    by (ToAdmin r) is = word-admins ⊥ f (reported o f r)
    by End is = tt
    by (Msg m) is = absurd is
    by MapBegin is = absurd is
    by MapPieces is = absurd is
    by Sync is = absurd is
    by (Entries frame) is = absurd is
    by (Stamp e) is = absurd is

none-told : (o : Origin) (t : Table) (c : ℕ) → Out c t → AllByRecursion (Word ⊥ (filling o t (stepped o t Tick))) (told_by o t Tick c)
none-told o t c out =
    let f : Filling = filling o t (stepped o t Tick) in
    let steps : List Step = (deed o Tick t).told in
    heard-all (Word ⊥ f) c o f steps (all-so (Aside c) (Says (Word ⊥ f) c o f) steps (λ s h. aside-says f c o s h)
    (out-deed c o Tick t tt out).1)

-- who is no member does not stand in the queue
not-one : (test : Member → Bool) (t : Table) (c d : ℕ) → member_of t c ≡ None → IsMember test t d → (d == c) ≡ false
not-one test t c d none there = by (d == c) refl
  where
    by : (b : Bool) → (d == c) ≡ b → b ≡ false
    by false is = refl
    by true is = let found : member_of t c ≡ Some there.0 = subst (λ x. member_of t x ≡ Some there.0) (eqb-true d c is) there.1 in absurd cc

not-queued : (t : Table) (c : ℕ) (q : List ℕ) → member_of t c ≡ None → IsQueue t q → NotIn c q
not-queued t c [] none h = tt
not-queued t c (d ∷ ds) none h = (
  not-one is_downloading t c d none h.0,
  all-so (IsMember (is_in MapWait) t) (λ x. (x == c) ≡ false) ds (λ x there. not-one (is_in MapWait) t c x none there) h.1,
)

-- ---- the clauses

module _ (o : Origin) (es : List Event) (e : Event) (c : ℕ) (front later : List Said) (g w : ℕ)
    (is : told o es e c ≡ front ++ game (ServerSync g w) ∷ later) where
  abbrev At : Table
  At = table_of o es

  abbrev Behind : Table
  Behind = stepped o At e

  word-is : (e ≡ Tick) × (g ≡ Behind.frame) × (w ≡ (world_of o Behind).words.0)
  word-is = in-middle (Word (e ≡ Tick) (filling o At Behind)) front later (game (ServerSync g w))
      (subst (λ said. AllByRecursion (Word (e ≡ Tick) (filling o At Behind)) said) is (words-told o At e c))

  pub by-tick : (e ≡ Tick) × (g ≡ (table_of o (es ++ e ∷ [])).frame)
  by-tick = (word-is.0, word-is.1 ∙ ap (λ (t : Table). t.frame) (sym (table-snoc o es e)))

  pub of-world : w ≡ (world_at o (journal_of o (es ++ e ∷ [])) g).words.0
  of-world = word-is.2 ∙ ap (λ (t : Table). (world_of o t).words.0) (sym (table-snoc o es e))
      ∙ ap (λ (n : ℕ). (world_at o (journal_of o (es ++ e ∷ [])) n).words.0) (sym by-tick.1)

  -- the game is not over
  going : (b : Bool) → At.over ≡ b → At.over ≡ false
  going false over = over
  going true over = absurd (nothing front (sym is
      ∙ ap (λ (d : Deed). told_to c (filled o (filling o At d.table) d.told)) (over-stays o At e over)))
    where
      nothing : (xs : List Said) → xs ++ game (ServerSync g w) ∷ later ≡ [] → ⊥
      nothing [] e = absurd cc
      nothing (x ∷ xs) e = absurd cc

  frame-is : g ≡ At.frame + 1
  frame-is = word-is.1 ∙ ap (λ (d : Event). (stepped o At d).frame) word-is.0 ∙ tick-runs o At (going At.over refl)

  pub above-map : (m : Member) × (member_of At c ≡ Some m) × (m.map_frame < g)
  above-map = by (member_of At c) refl
    where
      by : (x : Option Member) → member_of At c ≡ x → (m : Member) × (member_of At c ≡ Some m) × (m.map_frame < g)
      by (Some m) found =
          let marked : IsMarked At.frame At.top m = among-all (IsMarked At.frame At.top) m At.members (on-found At c m found)
          (are-marked o es) in
          (m, found, omega (arith, marked.mapped, frame-is))
      by None found =
          let out : Out c At = record {
            members = none-member c None At.members found refl;
            queue = not-queued At c At.queue found (is-queue o es);
          } in
          let f : Filling = filling o At (stepped o At Tick) in
          let same : told_by o At Tick c ≡ front ++ game (ServerSync g w) ∷ later =
          ap (λ (d : Event). told_by o At d c) (sym word-is.0) ∙ is in
          absurd (in-middle (Word ⊥ f) front later (game (ServerSync g w))
          (subst (λ said. AllByRecursion (Word ⊥ f) said) same (none-told o At c out))).0
