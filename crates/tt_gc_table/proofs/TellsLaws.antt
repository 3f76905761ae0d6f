-- What is told to one after another.
use Rattle.std.proofs.Common.{◌≡◌, ℕ, Bool, true, false, cond, List, [], ◌∷◌, ◌++◌, append_assoc, refl, sym, ap, ap₂, ◌∙◌}
use Rattle.std.specs.Prelude.{filter, eqb}
use Rattle.std.proofs.lemmas.List.{append-nil}
use Rattle.tt_coord.specs.declared.coord.CoordMsg.{CoordMsg}
use Rattle.tt_gc_table.specs.Table.{Table, is_live}
use Rattle.tt_gc_table.specs.Deed.{Step, tells}
use Rattle.tt_gc_table.specs.Told.{copies, bytes_of, bytes_to, spelled}
use Rattle.tt_gc_table.specs.Tells.{Tell, told_to}

pub told_push : (c : ℕ) (ts : List Tell) (t : Tell) → told_to c (ts ++ t ∷ []) ≡ told_to c ts ++ cond (eqb t.conn c) t.bytes []
told_push c [] t = by (eqb t.conn c)
  where
    by : (b : Bool) → cond b (t.bytes ++ []) [] ≡ cond b t.bytes []
    by true = append-nil t.bytes
    by false = refl
told_push c (x ∷ xs) t = by (eqb x.conn c) (told_push c xs t)
  where
    last : List ℕ
    last = cond (eqb t.conn c) t.bytes []

    by : (b : Bool) → told_to c (xs ++ t ∷ []) ≡ told_to c xs ++ last
        → cond b (x.bytes ++ told_to c (xs ++ t ∷ [])) (told_to c (xs ++ t ∷ [])) ≡ cond b (x.bytes ++ told_to c xs) (told_to c xs) ++ last
    by true rest = ap (λ (l : List ℕ). x.bytes ++ l) rest ∙ sym (append_assoc x.bytes (told_to c xs) last)
    by false rest = rest

-- a live connection is told the message, and no other is told anything
pub tells_one : (c conn : ℕ) (m : CoordMsg) (t : Table) → is_live t conn ≡ true
    → bytes_to c (tells (conn ∷ []) m t).told ≡ cond (eqb conn c) (spelled m) []
tells_one c conn m t live =
    ap (λ (b : Bool). copies c (cond b (conn ∷ []) []) (spelled m) ++ []) live ∙ append-nil (copies c (conn ∷ []) (spelled m))
    ∙ by (eqb conn c)
  where
    by : (b : Bool) → cond b (spelled m ++ []) [] ≡ cond b (spelled m) []
    by true = append-nil (spelled m)
    by false = refl

pub tells_none : (c conn : ℕ) (m : CoordMsg) (t : Table) → is_live t conn ≡ false → bytes_to c (tells (conn ∷ []) m t).told ≡ []
tells_none c conn m t dead = ap (λ (b : Bool). copies c (cond b (conn ∷ []) []) (spelled m) ++ []) dead

pub bytes_joined : (c : ℕ) (xs ys : List Step) → bytes_to c (xs ++ ys) ≡ bytes_to c xs ++ bytes_to c ys
bytes_joined c [] ys = refl
bytes_joined c (x ∷ xs) ys = ap (λ (l : List ℕ). copies c x.to (bytes_of x.what) ++ l) (bytes_joined c xs ys)
    ∙ sym (append_assoc (copies c x.to (bytes_of x.what)) (bytes_to c xs) (bytes_to c ys))

-- two are told one message as one after the other is
pub tells_both : (c a b : ℕ) (m : CoordMsg) (t : Table)
    → bytes_to c (tells (a ∷ b ∷ []) m t).told ≡ bytes_to c (tells (a ∷ []) m t).told ++ bytes_to c (tells (b ∷ []) m t).told
tells_both c a b m t = by (is_live t a)
  where
    said : List ℕ
    said = spelled m

    rest : List ℕ
    rest = filter (is_live t) (b ∷ [])

    more : List ℕ
    more = copies c rest said

    inner : (d : Bool) → cond d (said ++ more) more ++ [] ≡ (cond d (said ++ []) [] ++ []) ++ (more ++ [])
    inner true = append-nil (said ++ more)
        ∙ sym (ap₂ (λ (x y : List ℕ). x ++ y) (append-nil (said ++ []) ∙ append-nil said) (append-nil more))
    inner false = refl

    by : (p : Bool) → copies c (cond p (a ∷ rest) rest) said ++ [] ≡ (copies c (cond p (a ∷ []) []) said ++ []) ++ (more ++ [])
    by true = inner (eqb a c)
    by false = refl
