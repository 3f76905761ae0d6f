-- What the player has done at its end.
use Rattle.std.specs.Prelude.{◌≡◌, ℕ, ◌≤◌, ◌⊎◌, List, Some, codes, length}
use Rattle.tt_edge.specs.Count.{Rose}
use Rattle.tt_edge.specs.Link.{Rises}
use Rattle.tt_lines.specs.Lines.{lines_of}
use Rattle.tt_client.specs.declared.login.Login.{Login}
use Rattle.tt_client.specs.Held.{held_first}
use Rattle.tt_rounds.specs.Commands.{commands_limit}
use Rattle.tt_rounds.specs.Links.{LinkNow}
use Rattle.tt_words.specs.Forms.{IsPlayForm}
use Rattle.tt_words.specs.declared.play.PlayWords.{PlayWords}
use Rattle.tt_play_file.specs.declared.line.TimedLine.{TimedLine}
use Rattle.tt_play_file.specs.File.{IsFileText}
use Rattle.tt_session.specs.declared.end.PlayEnd.{PlayEnd}
use Rattle.tt_session.specs.Ending.{status_of}
use Rattle.tt_session.specs.Session.{Session, TickerNow, SinkNow}
use Rattle.tt_play.specs.Commands.{HasNoLines, IsFileOf, SourceNow}

-- the login that the words give: the revision and the version of the files are the player's own
abbrev pub login_of : PlayWords → Login
login_of words = record {
  revision = codes "13.4";
  grf = 13;
  name = words.name;
  company = words.company;
  password = words.password;
  company_password = words.company_password;
}

-- the words are in the player's form
abbrev pub AreInForm : List (List ℕ) → Type 0
AreInForm args = (words : PlayWords) × IsPlayForm args words

-- A client that joined with the login of these words was played by these lines to an end, and the status is that of the end.
pub record Plays (words : PlayWords) (lines : List TimedLine) (l l' : LinkNow) (t t' : TickerNow) (k k' : SinkNow) (status : ℕ) : Type 0
  where
    pub end : PlayEnd
    pub session : Session (held_first (login_of words)) lines l l' t t' k k' end
    pub status_is : status ≡ status_of end

-- The words are in the form, the source was read to its end and gave a file, and a client was played by them.
pub record HasPlayed (args : List (List ℕ)) (f f' : SourceNow) (l l' : LinkNow) (t t' : TickerNow) (k k' : SinkNow) (status : ℕ) : Type 0
  where
    pub words : PlayWords
    pub form : IsPlayForm args words
    pub lines : List TimedLine
    pub file : IsFileOf f f' lines
    pub plays : Plays words lines l l' t t' k k' status

-- Why nothing was played, and what stands then. `source` and `sink` tell what is known of each.
abbrev pub Refuses : {S K : Type 0} → List (List ℕ) → (S → SourceNow) → (K → SinkNow) → S → S → K → K → ℕ → Type 0
Refuses args source sink s s' k k' status =
    -- the words are in no form; nothing was read, and nothing written
    ((status ≡ 2) × (AreInForm args → ⊥) × (s' ≡ s) × (k' ≡ k))
    -- they are in the form, and there are no lines
    ⊎ ((AreInForm args × HasNoLines sink (source s) (source s') k k' status)
    -- memory ran out, and nothing was written
    ⊎ ((status ≡ 6) × (k' ≡ k)))

-- Nothing was played: the link and the ticker stand as before.
pub record HasRefused {S L T K : Type 0} (args : List (List ℕ)) (source : S → SourceNow) (sink : K → SinkNow) (s s' : S) (link link' : L)
    (ticker ticker' : T) (k k' : K) (status : ℕ) : Type 0 where
  pub why : Refuses args source sink s s' k k' status
  pub kept_link : link' ≡ link
  pub kept_ticker : ticker' ≡ ticker

-- The words are in the form, the source holds the bytes of a file, no more than a file may have, and no count of faults rose.
pub record GoesWell (args : List (List ℕ)) (f f' : SourceNow) (l l' : LinkNow) (t t' : TickerNow) (k k' : SinkNow) : Type 0 where
  pub form : AreInForm args
  pub input : List ℕ
  pub known : f.left ≡ Some input
  pub file : IsFileText (lines_of input)
  pub within : length input ≤ commands_limit
  pub source : Rises f.faults f'.faults → ⊥
  pub link : Rises l.counts.faults l'.counts.faults → ⊥
  pub ticker : Rises t.counts.faults t'.counts.faults → ⊥
  pub sink : Rose k.faults k'.faults → ⊥

-- Done as said; or memory ran out; or the client or the link came to its end, each told by its own status, 10 to 13.
abbrev pub IsDone : ℕ → Type 0
IsDone status = (status ≡ 0) ⊎ ((status ≡ 6) ⊎ ((10 ≤ status) × (status ≤ 13)))
