-- How words stand in a line.
use Rattle.std.specs.Prelude.{ℕ, List, ◌++◌, codes}

-- a word of a line, behind the words before it
abbrev pub word : List ℕ → List ℕ
word text = codes " " ++ text
