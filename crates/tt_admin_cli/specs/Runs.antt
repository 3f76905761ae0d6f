-- What one call of the program's top function came to.
use Rattle.std.specs.Prelude.{◌≡◌, ℕ, ◌≤◌, ◌<◌, ◌⊎◌, ◌++◌, List, Option, Some, IfSome, codes, length}
use Rattle.std.specs.Fmt.{decimal}
use Rattle.std.specs.Io.KnownBytes.{Appends, Consumes}
use Rattle.tt_lines.specs.Lines.{lines_of, IsFirstBad}
use Rattle.tt_edge.specs.Count.{Rose}
use Rattle.tt_edge.specs.Link.{Rises}
use Rattle.tt_edge.specs.Sink.{AppendsPart}
use Rattle.tt_edge.specs.Source.{ConsumesCount}
use Rattle.tt_words.specs.declared.admin.AdminWords.{AdminWords}
use Rattle.tt_words.specs.Forms.{IsAdminForm}
use Rattle.tt_rounds.specs.Links.{LinkNow}
use Rattle.tt_rounds.specs.Commands.{commands_limit}
use Rattle.tt_admin_file.specs.declared.command.Command.{Command}
use Rattle.tt_admin_file.specs.Commands.{Spells, IsFile}
use Rattle.tt_admin.specs.declared.message.AdminMsg.{AdminMsg}
use Rattle.tt_admin.specs.declared.message.AdminMsg.TheVariants.{AdminJoin}
use Rattle.tt_admin_run.specs.declared.sending.Agenda.{Agenda}
use Rattle.tt_admin_run.specs.declared.ended.Ended.{Ended}
use Rattle.tt_admin_run.specs.Agendas.{IsAgenda}
use Rattle.tt_admin_run.specs.Rounds.{SinkNow, TickerNow}
use Rattle.tt_admin_run.specs.Session.{DeskSession, status_of}

-- ---- what is asked for

-- the first message: the password and the name that the words give, and the version of this program
abbrev pub join_of : AdminWords → AdminMsg
join_of words = AdminJoin words.password words.name (codes "1")

-- what is known of a file of commands: its count of faults, and the bytes that are left
pub record SourceNow : Type 0 where
  pub faults : ℕ
  pub left : Option (List ℕ)

abbrev pub source_now : {S : Type 0} → (S → ℕ) → (S → Option (List ℕ)) → S → SourceNow
source_now faults left source = record { faults = faults source; left = left source }

-- the file was read to its end without a fault, and has no more bytes than the limit
pub record IsInput (s s' : SourceNow) (input : List ℕ) : Type 0 where
  pub whole : IfSome s.left (λ bytes. input ≡ bytes)
  pub taken : Consumes s.left s'.left input
  pub within : length input ≤ commands_limit
  pub quiet : s'.faults ≡ s.faults

-- the words are in form, and the file has these lines
pub record IsAsked (args : List (List ℕ)) (s s' : SourceNow) (words : AdminWords) (lines : List Command) : Type 0 where
  pub form : IsAdminForm args words
  pub input : List ℕ
  pub is_input : IsInput s s' input
  pub spelled : Spells lines (lines_of input)

-- the agenda says all that is asked for
pub record IsMadeOf (args : List (List ℕ)) (s s' : SourceNow) (a : Agenda) : Type 0 where
  pub words : AdminWords
  pub lines : List Command
  pub asked : IsAsked args s s' words lines
  pub agenda : IsAgenda (join_of words) lines a

-- ---- a run

-- It ran: a session of what was asked for, whose end gives the status.
pub record HasRun (args : List (List ℕ)) (s s' : SourceNow) (l l' : LinkNow) (t t' : TickerNow) (k k' : SinkNow) (status : ℕ)
    : Type 0 where
  pub words : AdminWords
  pub lines : List Command
  pub asked : IsAsked args s s' words lines
  pub ended : Ended
  pub gives : status ≡ status_of ended
  pub session : DeskSession (join_of words) lines l l' t t' k k' ended

-- ---- no run

-- the words are in form
abbrev pub IsFormed : List (List ℕ) → Type 0
IsFormed args = (words : AdminWords) × IsAdminForm args words

-- what is written of the first bad line
abbrev pub bad_line_text : ℕ → List ℕ
bad_line_text line = codes "script: line " ++ decimal line ++ codes "\n"

-- it was written, whole, or in part where the sink failed
abbrev pub TellsBadLine : ℕ → SinkNow → SinkNow → Type 0
TellsBadLine line k k' =
    Appends k.held k'.held (bad_line_text line) ⊎ (Rose k.faults k'.faults × AppendsPart k.held k'.held (bad_line_text line))

-- the file was read and is none of commands, and its first bad line was told
pub record IsBadFile (s s' : SourceNow) (k k' : SinkNow) : Type 0 where
  pub input : List ℕ
  pub is_input : IsInput s s' input
  pub line : ℕ
  pub bad : IsFirstBad IsFile (lines_of input) line
  pub told : TellsBadLine line k k'

-- more bytes than the limit were read
pub record IsLong (s s' : SourceNow) : Type 0 where
  pub over : ConsumesCount 1048577 s.left s'.left
  pub long : IfSome s.left (λ bytes. commands_limit < length bytes)
  pub quiet : s'.faults ≡ s.faults

-- Why nothing was run.
abbrev pub Refuses : {S K : Type 0} → List (List ℕ) → (S → SourceNow) → (K → SinkNow) → S → S → K → K → ℕ → Type 0
Refuses args source sink_of commands commands' sink sink' status =
    -- the words are in no form, and the file was not read
    ((status ≡ 2) × (IsFormed args → ⊥) × (commands' ≡ commands) × (sink' ≡ sink))
    -- the file is none of commands
    ⊎ (((status ≡ 3) × IsFormed args × IsBadFile (source commands) (source commands') (sink_of sink) (sink_of sink'))
    -- reading it failed
    ⊎ (((status ≡ 4) × IsFormed args × Rises (source commands).faults (source commands').faults × (sink' ≡ sink))
    -- it is too long
    ⊎ (((status ≡ 7) × IsFormed args × IsLong (source commands) (source commands') × (sink' ≡ sink))
    -- memory ran out
    ⊎ ((status ≡ 6) × ((source commands').faults ≡ (source commands).faults) × (sink' ≡ sink)))))

-- Nothing was run: the link and the ticker stand as before.
pub record HasRefused {S L T K : Type 0} (args : List (List ℕ)) (source : S → SourceNow) (sink_of : K → SinkNow) (commands commands' : S)
    (link link' : L) (ticker ticker' : T) (sink sink' : K) (status : ℕ) : Type 0 where
  pub why : Refuses args source sink_of commands commands' sink sink' status
  pub kept_link : link' ≡ link
  pub kept_ticker : ticker' ≡ ticker

-- ---- completeness

-- the words are in form, the file has lines and is within the limit, and no count of faults went up
pub record GoesWell (args : List (List ℕ)) (s s' : SourceNow) (l l' : LinkNow) (t t' : TickerNow) (k k' : SinkNow) : Type 0 where
  pub form : IsFormed args
  pub input : List ℕ
  pub known : s.left ≡ Some input
  pub lines : IsFile (lines_of input)
  pub within : length input ≤ commands_limit
  pub source : Rises s.faults s'.faults → ⊥
  pub link : Rises l.counts.faults l'.counts.faults → ⊥
  pub ticker : Rises t.counts.faults t'.counts.faults → ⊥
  pub sink : Rises k.faults k'.faults → ⊥

-- done as said, or refused or left by the server, unless memory ran out
abbrev pub IsDone : ℕ → Type 0
IsDone status = (status ≡ 0) ⊎ ((status ≡ 12) ⊎ ((status ≡ 13) ⊎ (status ≡ 6)))
