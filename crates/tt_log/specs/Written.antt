-- What a printer writes in its steps.
use Rattle.std.specs.Prelude.{ℕ, List, [], ◌∷◌, if◌then◌else◌}
use Rattle.std.specs.List.{flat_map}
use Rattle.std.specs.Fmt.{decimal}
use Rattle.hex.specs.Hex.{encode_lower}
use Rattle.tt_log.specs.Forms.{text_spelled}
use Rattle.tt_log.specs.Settings.{is_plain}
use Rattle.tt_log.specs.Printing.{told_map, step_line}
use Rattle.tt_log.specs.declared.script.line.Line1.{Line1}
use Rattle.tt_log.specs.declared.script.setting.Setting.{Setting}
use Rattle.tt_log.specs.declared.script.step.Step.TheVariants.{Set, Line}
use Rattle.tt_log.specs.declared.script.writing.Part.{Part}
use Rattle.tt_log.specs.declared.script.writing.Part.TheVariants.{Number, Text, Hex, Plain}

abbrev pub part_text : Part → List ℕ
part_text (Number n) = decimal n
part_text (Text bytes) = text_spelled bytes.now
part_text (Hex bytes) = encode_lower bytes.now
part_text (Plain bytes) = bytes.now

-- a part behind its blank
abbrev pub behind_blank : Part → List ℕ
behind_blank part = 32 ∷ part_text part

abbrev pub parts_text : List Part → List ℕ
parts_text parts = flat_map behind_blank parts

-- a setting's line, unless it says what the plain setup says
abbrev pub setting_text : Setting → List ℕ
setting_text setting = if is_plain setting then [] else step_line (Set setting)

-- the map's line, where there is a map
abbrev pub map_text : List ℕ → List ℕ
map_text map = flat_map step_line (told_map map)

abbrev pub line_text : Line1 → List ℕ
line_text line = step_line (Line line)
