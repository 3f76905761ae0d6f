-- What a source over a file has to show: its counts alone.
use Rattle.std.specs.Prelude.{ℕ}
use Rattle.tt_edge.specs.declared.file.FileSource.{FileSource}

-- how often a read failed
abbrev pub file_faults_of : {R F D : Type 0} → FileSource R F D → ℕ
file_faults_of source = source.faults

-- how often the end was told
abbrev pub file_ends_of : {R F D : Type 0} → FileSource R F D → ℕ
file_ends_of source = source.ends
