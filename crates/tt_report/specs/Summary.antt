-- The text of a summary: what a game, or a coordinator, came to in numbers.
use Rattle.std.specs.Prelude.{ℕ, zero, suc, List, [], ◌++◌, codes}
use Rattle.std.specs.Fmt.{decimal}
use Rattle.tt_report.specs.Worlds.{words_text}

abbrev pub connections_line : ℕ → List ℕ
connections_line connections = codes "connections " ++ decimal connections ++ codes "\n"

abbrev pub frame_line : ℕ → List ℕ
frame_line frame = codes "frame " ++ decimal frame ++ codes "\n"

abbrev pub entries_line : ℕ → List ℕ
entries_line entries = codes "entries " ++ decimal entries ++ codes "\n"

abbrev pub words_line : ℕ × ℕ → List ℕ
words_line words = codes "words " ++ words_text words ++ codes "\n"

-- how many bytes a connection was told
abbrev pub count_line : ℕ → ℕ → List ℕ
count_line conn count = codes "conn " ++ decimal conn ++ codes " " ++ decimal count ++ codes "\n"

-- those of the connections up to a number, by what each was told
abbrev pub count_lines : (ℕ → ℕ) → ℕ → List ℕ
count_lines count zero = []
count_lines count (suc conn) = count_lines count conn ++ count_line (suc conn) (count (suc conn))

-- how many lines of a script were refused
abbrev pub refused_line : ℕ → List ℕ
refused_line refused = codes "refused " ++ decimal refused ++ codes "\n"

-- where none was, a report has no line
abbrev pub refused_if_any : ℕ → List ℕ
refused_if_any zero = []
refused_if_any (suc refused) = refused_line (suc refused)

-- how many clients run at the server's frame
abbrev pub running_line : ℕ → List ℕ
running_line running = codes "running " ++ decimal running ++ codes "\n"

-- the summary of a game: how many connections were opened, the frame, the length of the journal, the two random words, and how
-- many bytes each connection was told
abbrev pub summary : ℕ → ℕ → ℕ → ℕ × ℕ → (ℕ → ℕ) → List ℕ
summary connections frame entries words count =
    connections_line connections ++ frame_line frame ++ entries_line entries ++ words_line words ++ count_lines count connections

-- A coordinator has no frames, and so its summary has the connections alone.
abbrev pub short_summary : ℕ → (ℕ → ℕ) → List ℕ
short_summary connections count = connections_line connections ++ count_lines count connections
