-- A member that is found by halves is the one that the book finds.
use Rattle.std.proofs.Common.{◌≡◌, ◌<◌, ◌^◌, ℕ, List, sym, subst, ap, ◌∙◌, Some}
use Rattle.std.specs.Prelude.{find, slice_index_or, Result, Ok, Err, OnOk}
use Rattle.tt_log.specs.Member.{Member}
use Rattle.tt_log.specs.Table.{is_on}
use Rattle.tt_members.specs.Rules.{Rise}
use Rattle.tt_join.specs.Members.{Kept}

pub found_in : (conn at : ℕ) (xs ms : List Member) (m : Member) → xs ≡ ms → m ≡ slice_index_or ms at m
    → find (is_on conn) xs ≡ Some (slice_index_or xs at m) → find (is_on conn) ms ≡ Some m
found_in conn at xs ms m same is found =
    subst (λ (ys : List Member). find (is_on conn) ys ≡ Some (slice_index_or ys at m)) same found ∙ ap (λ (k : Member). Some k) (sym is)

pub ok_so : {A E P Q : Type 0} (res : Result A E) → OnOk res P → (P → Q) → OnOk res Q
ok_so (Ok x) p f = f p
ok_so (Err e) p f = tt

pub kept_found : (j k : Kept) (conn : ℕ) (m : Member) → j ≡ k → find (is_on conn) j.crew.members ≡ Some m → find (is_on conn)
    k.crew.members ≡ Some m
kept_found j k conn m same is = subst (λ (x : Kept). find (is_on conn) x.crew.members ≡ Some m) same is

pub kept_rise : (j k : Kept) → j ≡ k → Rise j.crew.members → Rise k.crew.members
kept_rise j k same rise = subst (λ (x : Kept). Rise x.crew.members) same rise

pub ok_each : {A E I : Type 0} {P Q : I → Type 0} (res : Result A E) → ((x : I) → OnOk res (P x)) → ((x : I) → P x → Q x) → OnOk res ((x :
    I) → Q x)
ok_each (Ok y) p f = λ x. f x (p x)
ok_each (Err e) p f = tt

pub kept_few : (j k : Kept) → j ≡ k → j.crew.clients < 2 ^ 32 → k.crew.clients < 2 ^ 32
kept_few j k same few = subst (λ (x : Kept). x.crew.clients < 2 ^ 32) same few
