-- The player's file of commands: its lines, or why there are none.
use Rattle.std.specs.Prelude.{◌≡◌, ℕ, ◌+◌, ◌<◌, ◌≤◌, ◌⊎◌, ◌++◌, List, Option, IfSome, codes, length, map}
use Rattle.std.specs.Fmt.{decimal}
use Rattle.std.specs.Io.KnownBytes.{Appends, Consumes}
use Rattle.tt_edge.specs.Count.{Rose}
use Rattle.tt_edge.specs.Link.{Rises}
use Rattle.tt_edge.specs.Sink.{AppendsPart}
use Rattle.tt_edge.specs.Source.{ConsumesCount}
use Rattle.tt_lines.specs.Lines.{lines_of, IsFirstBad}
use Rattle.tt_rounds.specs.Commands.{commands_limit}
use Rattle.tt_play_file.specs.declared.line.TimedLine.{TimedLine}
use Rattle.tt_play_file.specs.File.{IsFile, IsFileText, line_text}
use Rattle.tt_session.specs.Session.{SinkNow}

-- what is known of a source
pub record SourceNow : Type 0 where
  pub left : Option (List ℕ)
  pub faults : ℕ
  pub ends : ℕ

abbrev pub source_now : {S : Type 0} → (S → Option (List ℕ)) → (S → ℕ) → (S → ℕ) → S → SourceNow
source_now left faults ends source = record { left = left source; faults = faults source; ends = ends source }

-- the source was read to its end and gave these bytes, no more than a file may have
pub record IsRead (f f' : SourceNow) (bytes : List ℕ) : Type 0 where
  pub few : length bytes ≤ commands_limit
  pub all : IfSome f.left (λ left. bytes ≡ left)
  pub taken : Consumes f.left f'.left bytes
  pub ended : Rose f.ends f'.ends
  pub kept : f'.faults ≡ f.faults

-- and they are the file of these lines
pub record IsFileOf (f f' : SourceNow) (lines : List TimedLine) : Type 0 where
  pub bytes : List ℕ
  pub read : IsRead f f' bytes
  pub is : IsFile lines
  pub text : lines_of bytes ≡ map line_text lines

-- what is written of the first bad line
abbrev pub bad_line_text : ℕ → List ℕ
bad_line_text line = codes "script: line " ++ decimal line ++ codes "\n"

-- a text was written: whole, or in part where the sink failed
abbrev pub IsWritten : SinkNow → SinkNow → List ℕ → Type 0
IsWritten k k' text =
    (Appends k.held k'.held text × (k'.faults ≡ k.faults)) ⊎ (AppendsPart k.held k'.held text × Rises k.faults k'.faults)

-- The source was read to its end, and its bytes are no file. Their first bad line was told.
pub record TellsBadLine (f f' : SourceNow) (k k' : SinkNow) : Type 0 where
  pub bytes : List ℕ
  pub read : IsRead f f' bytes
  pub line : ℕ
  pub bad : IsFirstBad IsFileText (lines_of bytes) line
  pub told : IsWritten k k' (bad_line_text line)

-- Why there are no lines, and what stands then. `now` tells what is known of a sink.
abbrev pub HasNoLines : {K : Type 0} → (K → SinkNow) → SourceNow → SourceNow → K → K → ℕ → Type 0
HasNoLines now f f' k k' status =
    -- the bytes are no file
    ((status ≡ 3) × TellsBadLine f f' (now k) (now k'))
    -- reading them failed
    ⊎ (((status ≡ 4) × Rises f.faults f'.faults × (k' ≡ k))
    -- more was read than a file may have
    ⊎ (((status ≡ 7) × ConsumesCount (commands_limit + 1) f.left f'.left × IfSome f.left (λ left. commands_limit < length left)
    × (k' ≡ k))
    -- memory ran out
    ⊎ ((status ≡ 6) × (k' ≡ k))))
