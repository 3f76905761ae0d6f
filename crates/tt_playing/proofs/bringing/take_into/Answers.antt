use Rattle.std.proofs.Common.{◌≡◌, ◌++◌, ◌∙◌, ℕ, List, ap, arith, take, drop}
use Rattle.std.proofs.lemmas.List.{length-drop}
use Rattle.tt_hub.specs.Hub.{origin, taken}
use Rattle.tt_log.specs.Told.{sent}
use Rattle.tt_playing.proofs.Pieces.{take-self}
use Rattle.tt_playing.proofs.bringing.take_into.Goals as goal

pub returns-clause-bytes : goal.returns-clause-bytes
returns-clause-bytes c =
    let hub = c.args.hub.now in
    let whole = sent (origin hub) hub.events c.args.conn in
    let before = taken hub c.args.conn in
    let count = c.take-took.result.count in
    let takes = c.take-took.ensures.bytes in
    let part : take count c.take-took.new.out ≡ take count (drop before whole) = ap (take count) takes.bytes
    ∙ take-self count (drop before whole) (drop count c.args.piece.now) (omega (arith, takes.count_is, length-drop before whole)) in
    c.in_ok-extend_from_slice.ensures.items ∙ ap (λ (xs : List ℕ). c.args.bytes.now.items ++ xs) part
