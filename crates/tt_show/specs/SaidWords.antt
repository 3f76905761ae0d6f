-- The words that are written for the parts of a message.
use Rattle.std.specs.Prelude.{ℕ, List, []}
use Rattle.std.specs.Fmt.{decimal}
use Rattle.tt_frame.specs.FieldForms.{truth_number}
use Rattle.tt_frame.specs.Said.{Said, head, number, truth_of, words, bytes, always, count, mark}
use Rattle.tt_lines.specs.Digits.{bytes_text}
use Rattle.tt_show.specs.Words.{word}

-- numbers in decimal, texts and bytes in hexadecimal digits; nothing for a message's number and for a mark
abbrev pub said_words : Said → List ℕ
said_words (head kind) = []
said_words (number w n) = word (decimal n)
said_words (truth_of b) = word (decimal (truth_number b))
said_words (words s) = word (bytes_text s)
said_words (bytes s) = word (bytes_text s)
said_words (always b) = word (decimal b)
said_words (count w n) = word (decimal n)
said_words (mark b) = []
