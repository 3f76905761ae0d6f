-- What is taken of a connection: what waits for it, or nothing where it was never opened.
use Rattle.std.proofs.Common.{◌≡◌, ◌⊎◌, inl, inr, ℕ, zero, suc, ◌+◌, ◌-◌, ◌<◌, ◌≤◌, Bool, true, false, List, [], ◌++◌, refl, ap, ◌∙◌}
use Rattle.std.proofs.Common.{arith, length, take, drop, min}
use Rattle.std.specs.Prelude.{flat_map, slice_index_or, ◌↔◌}
use Rattle.std.specs.Bool.{IsTrue}
use Rattle.std.proofs.lemmas.List.{get_or_read, length-drop}
use Rattle.tt_edge.specs.Core.{IsAllTaken, Takes}
use Rattle.tt_log.specs.Deed.{Said, spelled}
use Rattle.tt_log.specs.Table.{is_live}
use Rattle.tt_log.specs.Told as book
use Rattle.tt_log.proofs.Ended.{nought, unopened as unopened-is}
use Rattle.tt_outgoing.specs.Waiting.{Waiting}
use Rattle.tt_table.specs.Held.{Played, table}
use Rattle.tt_hub.specs.Hub.{count_of}
use Rattle.tt_hub.specs.Running.{IsRunning, IsWaiting}
use Rattle.tt_hub.proofs.Seats.{count-beyond}

-- ---- a connection that was never opened

pub record IsNothing (g : Played) (counts : List ℕ) (c : ℕ) : Type 0 where
  pub dead : is_live (table g) c ≡ false
  pub untold : book.sent g.origin g.events c ≡ []
  pub untaken : count_of counts c ≡ 0

pub nothing-of : (g : Played) (w : Waiting) (counts : List ℕ) (most c : ℕ) → IsRunning g w counts most → (c ≡ 0) ⊎ (length counts < c)
    → IsNothing g counts c
nothing-of g w counts most c is (inl none) =
    let all = nought g.origin g.events in
    rw none (record { dead = all.0; untold = ap (λ (s : List Said). flat_map spelled s) all.1; untaken = refl })
nothing-of g w counts most c is (inr beyond) =
    let size = is.counts_are in
    let low = is.enough in
    let all = unopened-is g.origin g.events c (omega (arith, size, low, beyond)) in
    record { dead = all.0; untold = ap (λ (s : List Said). flat_map spelled s) all.1; untaken = count-beyond counts c beyond }

pub takes-nothing : (told out : List ℕ) (n : ℕ) → told ≡ [] → n ≡ 0 → Takes told n n out out 0
takes-nothing told out n none nil = rw (none, nil) (record { count_is = omega arith; bytes = refl; after_is = refl })

pub done-nothing : (live : Bool) (told : List ℕ) (n : ℕ) → live ≡ false → told ≡ [] → IsTrue true ↔ IsAllTaken live told n
done-nothing live told n dead none = (λ is. record { ended = dead; all = rw none (omega arith) }, λ is. refl)

-- ---- what waits is taken

-- a number that is read in a connection's place
pub count-read : (counts : List ℕ) (c n : ℕ) → 1 ≤ c → c ≤ length counts → n ≡ slice_index_or counts (c - 1) n → n ≡ count_of counts c
count-read counts zero n low high is = absurd (omega (arith, low))
count-read counts (suc c) n low high is =
    let e : suc c - 1 ≡ c = omega arith in
    get_or_read counts c n (omega (arith, high)) (is ∙ ap (λ (i : ℕ). slice_index_or counts i n) e) 0

pub takes-some : (told waits old new : List ℕ) (before after count most : ℕ) → IsWaiting told waits before most
    → count ≡ min (length old) (length waits) → new ≡ take count waits ++ drop count old → after ≡ before + count
    → Takes told before after old new count
takes-some told waits old new before after count most is count_is new_is after_is = record {
  count_is = count_is ∙ ap (λ (l : List ℕ). min (length old) (length l)) is.rest
      ∙ ap (λ (n : ℕ). min (length old) n) (length-drop before told);
  bytes = new_is ∙ ap (λ (l : List ℕ). take count l ++ drop count old) is.rest;
  after_is = after_is;
}

-- how many bytes were told: those that were taken, and those that wait
pub told-length : (told waits : List ℕ) (count most : ℕ) → IsWaiting told waits count most → count + length waits ≡ length told
told-length told waits count most is =
    let left : length waits ≡ length told - count = ap length is.rest ∙ length-drop count told in
    let within = is.within in omega (arith, left, within)

pub done-some : (r live : Bool) (told waits : List ℕ) (count left most : ℕ) → IsWaiting told waits count most → left ≡ length waits
    → IsTrue r ↔ ((live ≡ false) × (left ≡ 0)) → IsTrue r ↔ IsAllTaken live told count
done-some r live told waits count left most is left_is both =
    let all = told-length told waits count most is in (
      λ yes. let parts = both.0 yes in record { ended = parts.0; all = let none = parts.1 in omega (arith, all, left_is, none) },
      λ done. both.1 (done.ended, let l = done.all in omega (arith, all, left_is, l)),
    )
