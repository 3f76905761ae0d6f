-- What an event is going to tell, as the code keeps it.
use Rattle.std.specs.Prelude.{ℕ, ◌==◌, List, [], ◌∷◌, ◌++◌, cond}

-- bytes for a connection
pub record Tell : Type 0 where
  pub conn : ℕ
  pub bytes : List ℕ

-- what of these is for this connection
abbrev pub told_to : ℕ → List Tell → List ℕ
told_to c [] = []
told_to c (t ∷ ts) = cond (t.conn == c) (t.bytes ++ told_to c ts) (told_to c ts)
