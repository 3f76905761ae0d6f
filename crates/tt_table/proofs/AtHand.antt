-- What a change's steps are filled in from is at hand before anything changes.
use Rattle.std.proofs.Common.{◌≡◌, ℕ, Bool, true, false, List, [], ◌∷◌, Option, Some, None, refl, ap, sym, ◌∙◌, length, subst}
use Rattle.std.specs.Prelude.{is_some, nat_lt, take, ◌||◌}
use Rattle.std.specs.List.{list_any}
use Rattle.tt_edge.specs.declared.event.Event.{Event}
use Rattle.tt_edge.specs.declared.event.Event.TheVariants.{Open, Packet, Broken, Shut, Tick, Stop}
use Rattle.tt_edge.specs.Event.{is_tick}
use Rattle.tt_map.specs.Layout.{map_of}
use Rattle.tt_world.specs.World.{WorldState}
use Rattle.tt_log.specs.declared.deed.What.{What}
use Rattle.tt_log.specs.declared.deed.What.TheVariants.{Msg, ToAdmin, MapBegin, MapPieces, Sync, Entries, Stamp, End}
use Rattle.tt_log.specs.declared.report.Report.{Report}
use Rattle.tt_log.specs.declared.report.Report.TheVariants.{Message, Welcome, Date, CompanyInfo, CompanyEconomy, CompanyStats}
use Rattle.tt_log.specs.declared.report.Report.TheVariants.{CompanyLines, CompanyNews}
use Rattle.tt_log.specs.Admin.{Admin}
use Rattle.tt_log.specs.Events.{by_event}
use Rattle.tt_log.specs.Origin.{IsJournal, Origin, at_frame}
use Rattle.tt_log.specs.Table.{Table, world_of}
use Rattle.tt_log.specs.Tellings.{filling}
use Rattle.tt_log.specs.Tick.{left_of}
use Rattle.tt_members.specs.declared.step.Step.{Step}
use Rattle.tt_members.specs.Steps.{steps_in}
use Rattle.tt_outgoing.specs.declared.sources.Sources.{Sources}
use Rattle.tt_outgoing.specs.Sources.{AreAtHand, AreLocks, IsAtHand, IsAtHandFor, four_pieces}
use Rattle.tt_table.specs.declared.change.Change.{Change}
use Rattle.tt_table.specs.Change.{steps_of}
use Rattle.tt_table.specs.Does.{IsBegun, IsBehind, IsChange, begins_map, is_begin, is_of_world, need_world, needs_world}
use Rattle.tt_table.specs.Held.{left_in}
use Rattle.tt_table.specs.Telling.{is_word, tells_word, world_by}
use Rattle.tt_table.proofs.Clocks.{IsRunBy, run-by, world-same}
use Rattle.tt_table.proofs.Recalls.{AreNoRecalls, IsNoRecall, tick-calm}

-- what sources hold, of the table before an event and the table behind its rule
pub record AreSources (o : Origin) (t u : Table) (c : Change) (s : Sources) : Type 0 where
  pub setup : s.setup.now ≡ o.setup
  pub frame : s.frame ≡ u.frame
  pub word : tells_word (steps_of c) ≡ true → s.word ≡ (world_of o u).words.0
  pub world : s.world.now ≡ world_by c.behind (world_of o t)
  pub size : s.size ≡ length (left_in c.download)
  pub before : s.before.now ≡ world_of o t
  pub entries : s.entries.now ≡ at_frame o u.frame u.journal
  pub journal : s.journal.now ≡ t.journal
  pub locked : AreLocks s.locked.now u.digests
  pub next : s.next.now ≡ take four_pieces (left_of o t)
  pub more : s.more ≡ nat_lt four_pieces (length (left_of o t))

-- ---- the entries behind a map

is_recall : What → Bool
is_recall (Entries frame) = true
is_recall other = false

abbrev recalls : List Step → Bool
recalls steps = list_any (λ (s : Step). is_recall s.what) steps

no-recall : (w : What) → IsNoRecall w → is_recall w ≡ false
unfolding is_recall
no-recall (Entries frame) none = absurd none
no-recall (Msg m) none = refl
no-recall (ToAdmin r) none = refl
no-recall MapBegin none = refl
no-recall MapPieces none = refl
no-recall Sync none = refl
no-recall (Stamp e) none = refl
no-recall End none = refl

or-none : (x y : Bool) → x ≡ false → y ≡ false → (x || y) ≡ false
or-none true y a b = a
or-none false y a b = b

no-recalls : (admins : List Admin) (steps : List Step) → AreNoRecalls (steps_in admins steps) → recalls steps ≡ false
no-recalls admins [] none = refl
no-recalls admins (s ∷ steps) none =
    or-none (is_recall s.what) (recalls steps) (no-recall s.what none.0) (no-recalls admins steps none.1)

-- ---- each step, and all

or-left : (x y : Bool) → x ≡ true → (x || y) ≡ true
or-left true y is = refl
or-left false y is = absurd cc

or-right : (x y : Bool) → y ≡ true → (x || y) ≡ true
or-right true y is = refl
or-right false y is = is

module _ (o : Origin) (t u : Table) (c : Change) (s : Sources) (are : AreSources o t u c s) where
  -- what some steps need
  record Needs (world begins word recalled : Bool) : Type 0 where
    world_is : world ≡ true → s.world.now ≡ world_of o u
    size_is : begins ≡ true → s.size ≡ length (map_of (world_of o u))
    word_is : word ≡ true → s.word ≡ (world_of o u).words.0
    journal_is : recalled ≡ true → (s.journal.now ≡ u.journal) × IsJournal o u.journal

  report-at-hand : (r : Report) → (is_of_world r ≡ true → s.world.now ≡ world_of o u) → IsAtHandFor o (filling o t u) s r
  report-at-hand (Message m) need = tt
  report-at-hand Welcome need = (are.setup, need refl)
  report-at-hand Date need = need refl
  report-at-hand (CompanyInfo id) need = (need refl, are.locked)
  report-at-hand (CompanyEconomy id) need = need refl
  report-at-hand (CompanyStats id) need = need refl
  report-at-hand CompanyLines need = need refl
  report-at-hand CompanyNews need = (are.before, are.entries, are.locked)

  one-at-hand : (w : What) → Needs (needs_world w) (is_begin w) (is_word w) (is_recall w) → IsAtHand o (filling o t u) s w
  unfolding is_recall
  one-at-hand (Msg m) needs = tt
  one-at-hand (ToAdmin r) needs = report-at-hand r needs.world_is
  one-at-hand MapBegin needs = (are.frame, needs.size_is refl)
  one-at-hand MapPieces needs = (are.next, are.more)
  one-at-hand Sync needs = (are.frame, needs.word_is refl)
  one-at-hand (Entries frame) needs = needs.journal_is refl
  one-at-hand (Stamp e) needs = tt
  one-at-hand End needs = tt

  steps-at-hand : (steps : List Step) → Needs (need_world steps) (begins_map steps) (tells_word steps) (recalls steps)
      → AreAtHand o (filling o t u) s steps
  steps-at-hand [] needs = tt
  steps-at-hand (x ∷ steps) needs =
      let first : Needs (needs_world x.what) (is_begin x.what) (is_word x.what) (is_recall x.what) = record {
        world_is = λ is. needs.world_is (or-left (needs_world x.what) (need_world steps) is);
        size_is = λ is. needs.size_is (or-left (is_begin x.what) (begins_map steps) is);
        word_is = λ is. needs.word_is (or-left (is_word x.what) (tells_word steps) is);
        journal_is = λ is. needs.journal_is (or-left (is_recall x.what) (recalls steps) is);
      } in
      let rest : Needs (need_world steps) (begins_map steps) (tells_word steps) (recalls steps) = record {
        world_is = λ is. needs.world_is (or-right (needs_world x.what) (need_world steps) is);
        size_is = λ is. needs.size_is (or-right (is_begin x.what) (begins_map steps) is);
        word_is = λ is. needs.word_is (or-right (is_word x.what) (tells_word steps) is);
        journal_is = λ is. needs.journal_is (or-right (is_recall x.what) (recalls steps) is);
      } in
      (one-at-hand x.what first, steps-at-hand steps rest)

-- ---- what a change needs is there

world-behind : (b : Bool) (x : Option WorldState) (o : Origin) (t u : Table) (need : Bool) → IsRunBy b o t u → IsBehind o u x
    → (b ≡ true → need ≡ true → is_some x ≡ true) → need ≡ true → world_by x (world_of o t) ≡ world_of o u
world-behind b (Some w) o t u need runs behind needed is = behind
world-behind true None o t u need runs behind needed is = let there = needed refl is in absurd cc
world-behind false None o t u need runs behind needed is = sym (world-same o t u runs)

size-begun : (x : Option (List ℕ)) (o : Origin) (u : Table) (begins : Bool) → is_some x ≡ begins → IsBegun o u x → begins ≡ true
    → length (left_in x) ≡ length (map_of (world_of o u))
size-begun None o u begins is begun so = absurd cc
size-begun (Some bytes) o u begins is begun so = ap (λ (xs : List ℕ). length xs) begun

journal-by : (b : Bool) (o : Origin) (t u : Table) (recalled : Bool) → IsRunBy b o t u → (b ≡ true → recalled ≡ false) → recalled ≡ true
    → t.journal ≡ u.journal
journal-by true o t u recalled runs none is = let no = none refl in absurd cc
journal-by false o t u recalled runs none is = sym runs.journal

calm-at : (o : Origin) (e : Event) (t : Table) → is_tick e ≡ true → AreNoRecalls (by_event o e t).told
calm-at o Tick t so = tick-calm o t
calm-at o (Open door peer) t so = absurd cc
calm-at o (Packet conn kind body) t so = absurd cc
calm-at o (Broken conn) t so = absurd cc
calm-at o (Shut conn) t so = absurd cc
calm-at o Stop t so = absurd cc

pub change-at-hand : (o : Origin) (e : Event) (t : Table) (c : Change) (s : Sources) → IsChange o e t c
    → AreSources o t (by_event o e t).table c s → IsJournal o (by_event o e t).table.journal
    → AreAtHand o (filling o t (by_event o e t).table) s (steps_of c)
change-at-hand o e t c s is are rising =
    let u : Table = (by_event o e t).table in
    let none : is_tick e ≡ true → recalls (steps_of c) ≡ false = λ so. no-recalls t.admins (steps_of c)
    (subst AreNoRecalls (sym is.does.told) (calm-at o e t so)) in
    steps-at-hand o t u c s are (steps_of c) (record {
      world_is = λ need. are.world
          ∙ world-behind (is_tick e) c.behind o t u (need_world (steps_of c)) (run-by o e t) is.behind is.needed need;
      size_is = λ begins. are.size ∙ size-begun c.download o u (begins_map (steps_of c)) is.begins is.begun begins;
      word_is = λ told. are.word told;
      journal_is = λ recalled. (are.journal ∙ journal-by (is_tick e) o t u (recalls (steps_of c)) (run-by o e t) none recalled, rising);
    })
