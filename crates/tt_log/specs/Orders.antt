-- The table of what a client may be told to do: the words behind `do C`, and the command.
use Rattle.std.specs.Prelude.{◌≡◌, ℕ, List, [], ◌∷◌, codes}
use Rattle.tt_log.specs.Forms.{Word, word, named, number, text}
use Rattle.tt_world.specs.declared.command.Code.{Code}
use Rattle.tt_world.specs.declared.command.Code.TheVariants.{IncreaseLoan, DecreaseLoan, Give, PlaceSign, RenameSign, RenameCompany}
use Rattle.tt_world.specs.declared.command.Code.TheVariants.{RenamePresident, Pause, NewCompany}
use Rattle.tt_world.specs.declared.command.Command.{Command}

-- the words of a command of that code
abbrev pub words_by : Code → ℕ → ℕ → List ℕ → List Word
words_by IncreaseLoan n to bytes = named (codes "loan") ∷ word (number 0 4294967295) n ∷ []
words_by DecreaseLoan n to bytes = named (codes "repay") ∷ word (number 0 4294967295) n ∷ []
words_by Give n to bytes = named (codes "give") ∷ word (number 0 4294967295) n ∷ word (number 0 255) to ∷ []
words_by PlaceSign n to bytes = named (codes "sign") ∷ word (number 0 4294967295) n ∷ word (text 0 31) bytes ∷ []
words_by RenameSign n to bytes = named (codes "resign") ∷ word (number 0 4294967295) n ∷ word (text 0 31) bytes ∷ []
words_by RenameCompany n to bytes = named (codes "company") ∷ word (text 0 31) bytes ∷ []
words_by RenamePresident n to bytes = named (codes "president") ∷ word (text 0 31) bytes ∷ []
words_by Pause n to bytes = []
words_by NewCompany n to bytes = []

-- what a command of that code doesn't use is plain, and a pause or a new company is no line
abbrev pub UsesAll : Code → ℕ → ℕ → List ℕ → Type 0
UsesAll IncreaseLoan n to bytes = (to ≡ 0) × (bytes ≡ [])
UsesAll DecreaseLoan n to bytes = (to ≡ 0) × (bytes ≡ [])
UsesAll Give n to bytes = bytes ≡ []
UsesAll PlaceSign n to bytes = to ≡ 0
UsesAll RenameSign n to bytes = to ≡ 0
UsesAll RenameCompany n to bytes = (n ≡ 0) × (to ≡ 0)
UsesAll RenamePresident n to bytes = (n ≡ 0) × (to ≡ 0)
UsesAll Pause n to bytes = ⊥
UsesAll NewCompany n to bytes = ⊥

abbrev pub order_words : Command → List Word
order_words c = words_by c.code c.number c.to c.text

-- a command that a line can say
abbrev pub IsOrder : Command → Type 0
IsOrder c = UsesAll c.code c.number c.to c.text
