-- How many members a plan leaves: at most one more.
use Rattle.std.proofs.Common.{◌≡◌, ℕ, ◌+◌, ◌≤◌, List, [], ◌∷◌, ◌++◌, Option, Some, None, arith, length}
use Rattle.std.specs.Prelude.{cond, not}
use Rattle.std.proofs.lemmas.List.{length-append, length-map}
use Rattle.tt_log.specs.Member.{Member}
use Rattle.tt_log.specs.Table.{is_on}
use Rattle.tt_log.specs.Tick.{drawn}
use Rattle.tt_members.specs.declared.edit.Edit.{Edit}
use Rattle.tt_members.specs.declared.edit.Edit.TheVariants.{Mark, Begin, Draw, Permit, Move, Load, Leave, Unask}
use Rattle.tt_members.specs.declared.edit.Offer.{Offer}
use Rattle.tt_members.specs.Done.{behind, members_behind, offered, renamed}
use Rattle.tt_members.specs.Edits.{loaded, loading, marked, members_after, members_by, moved, on, permitted, words_by}
use Rattle.tt_members.specs.Planned.{Planned}
use Rattle.tt_table.proofs.Sixteen.{fewer}

on-same : (conn : ℕ) (change : Member → Member) (ms : List Member) → length (on conn change ms) ≡ length ms
on-same conn change ms = length-map ms (λ n. cond (is_on conn n) (change n) n)

permitted-same : (frame top : ℕ) (words : ℕ × ℕ) (ms : List Member) → length (permitted frame top words ms) ≡ length ms
permitted-same frame top words [] = omega arith
permitted-same frame top words (m ∷ ms) = let rest = permitted-same frame top (words_by m words) ms in omega (arith, rest)

by-fewer : (e : Edit) (ms : List Member) → length (members_by e ms) ≤ length ms
by-fewer (Mark conn marks) ms = let same = on-same conn (marked marks) ms in omega (arith, same)
by-fewer (Begin conn frame) ms = let same = on-same conn (loading frame) ms in omega (arith, same)
by-fewer Draw ms = let same = length-map ms drawn in omega (arith, same)
by-fewer (Permit frame top words) ms = let same = permitted-same frame top words ms in omega (arith, same)
by-fewer (Move conn company) ms = let same = on-same conn (moved company) ms in omega (arith, same)
by-fewer (Load conn pieces status) ms = let same = on-same conn (loaded pieces status) ms in omega (arith, same)
by-fewer (Leave conn) ms = fewer (λ n. not (is_on conn n)) ms
by-fewer (Unask conn) ms = omega arith

after-fewer : (es : List Edit) (ms : List Member) → length (members_after es ms) ≤ length ms
after-fewer [] ms = omega arith
after-fewer (e ∷ es) ms =
    let rest = after-fewer es (members_by e ms) in let first = by-fewer e ms in omega (arith, rest, first)

offered-same : (w : Option Offer) (ms : List Member) → length (offered w ms) ≡ length ms
offered-same None ms = omega arith
offered-same (Some w) ms = on-same w.conn (λ m. record m { waiting = m.waiting ++ (w.company, w.command) ∷ [] }) ms

renamed-same : (n : Option (ℕ × List ℕ)) (ms : List Member) → length (renamed n ms) ≡ length ms
renamed-same None ms = omega arith
renamed-same (Some n) ms = on-same n.0 (λ m. record m { name = n.1 }) ms

behind-one : (x : Option Member) (ms : List Member) → length (behind x ms) ≤ length ms + 1
behind-one None ms = omega arith
behind-one (Some m) ms = let more = length-append ms (m ∷ []) in omega (arith, more)

pub one-more-member : (p : Planned) (ms : List Member) → length (members_behind p ms) ≤ length ms + 1
one-more-member p ms =
    let a = behind-one p.arrives (members_after p.edits (offered p.offers (renamed p.names ms))) in
    let b = after-fewer p.edits (offered p.offers (renamed p.names ms)) in
    let c = offered-same p.offers (renamed p.names ms) in
    let d = renamed-same p.names ms in
    omega (arith, a, b, c, d)
