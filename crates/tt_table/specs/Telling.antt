-- What is at hand of a change where it is told, part by part.
use Rattle.std.specs.Prelude.{◌≡◌, ℕ, Bool, true, false, ◌==◌, cond, List, Option, Some, None, is_some, length, nat_lt, take}
use Rattle.std.specs.List.{list_any}
use Rattle.tt_world.specs.declared.command.Entry.{Entry}
use Rattle.tt_world.specs.World.{WorldState}
use Rattle.tt_log.specs.declared.deed.What.{What}
use Rattle.tt_log.specs.declared.deed.What.TheVariants.{Sync}
use Rattle.tt_log.specs.Origin.{IsJournal, Origin, at_frame}
use Rattle.tt_join.specs.Members.{is_locked}
use Rattle.tt_members.specs.declared.step.Step.{Step}
use Rattle.tt_members.specs.Done.{digests_behind}
use Rattle.tt_members.specs.Planned.{Planned}
use Rattle.tt_outgoing.specs.declared.sources.Sources.{Sources}
use Rattle.tt_outgoing.specs.Sources.{AreLocks, four_pieces}
use Rattle.tt_table.specs.declared.change.Change.{Change}
use Rattle.tt_table.specs.Change.{steps_of}
use Rattle.tt_table.specs.Held.{Held, left_in}
use Rattle.tt_table.specs.Putting.{one_more, ran_where}

-- the word of the world is told
abbrev pub is_word : What → Bool
is_word Sync = true
is_word other = false

abbrev pub tells_word : List Step → Bool
tells_word steps = list_any (λ (s : Step). is_word s.what) steps

-- the world behind, where it is there; else the world
abbrev pub world_by : Option WorldState → WorldState → WorldState
world_by None w = w
world_by (Some behind) w = behind

-- the entries of the frame behind an event: at a tick those that are carried out, else those of the frame
abbrev pub entries_by : Bool → Origin → List Entry → ℕ → List Entry → List Entry
entries_by true o due frame journal = due
entries_by false o due frame journal = at_frame o frame journal

-- the company passwords behind a plan
abbrev pub digests_by : Option Planned → List (ℕ × List ℕ) → List (ℕ × List ℕ)
digests_by None digests = digests
digests_by (Some p) digests = digests_behind p.locks digests

-- whether a company has one then
abbrev pub is_locked_with : Option (ℕ × Option (List ℕ)) → List (ℕ × List ℕ) → ℕ → Bool
is_locked_with None digests company = is_locked digests company
is_locked_with (Some l) digests company = cond (l.0 == company) (is_some l.1) (is_locked digests company)

abbrev pub is_locked_by : Option Planned → List (ℕ × List ℕ) → ℕ → Bool
is_locked_by None digests company = is_locked digests company
is_locked_by (Some p) digests company = is_locked_with p.locks digests company

-- what steps are filled in from, of what a game holds
pub record AreHeld (o : Origin) (c : Change) (h : Held) (s : Sources) : Type 0 where
  pub setup : s.setup.now ≡ o.setup
  pub frame : s.frame ≡ one_more c.beats h.frame
  pub word : tells_word (steps_of c) ≡ true → s.word ≡ (ran_where c.beats o h.world c.due.items).words.0
  pub world : s.world.now ≡ world_by c.behind h.world
  pub size : s.size ≡ length (left_in c.download)
  pub before : s.before.now ≡ h.world
  pub entries : IsJournal o h.journal → s.entries.now ≡ entries_by c.beats o c.due.items h.frame h.journal
  pub journal : s.journal.now ≡ h.journal
  pub locked : AreLocks s.locked.now (digests_by c.plan h.members.crew.digests)
  pub next : s.next.now ≡ take four_pieces (left_in h.download)
  pub more : s.more ≡ nat_lt four_pieces (length (left_in h.download))
