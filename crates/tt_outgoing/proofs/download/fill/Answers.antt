use Rattle.std.proofs.Common.{◌≡◌, ◌∙◌, ◌++◌, List, ℕ, ap, arith, drop, length, take}
use Rattle.tt_map.specs.Writing.{Writing, given, size_given, unwritten}
use Rattle.tt_outgoing.proofs.Downloads.{filled_front, written_front}
use Rattle.tt_outgoing.proofs.download.fill.Goals as goal

pub returns-clause-bytes : goal.returns-clause-bytes
returns-clause-bytes c =
    let w : Writing = c.args.writer.now in
    let room : List ℕ = c.as_mut_slice-room.result.now in
    let r : ℕ = length room in
    let n = c.write.result in
    let does = c.write.ensures in
    let after : Writing = c.write.new.self in
    let same : length c.write.new.out ≡ r = c.write.auto.out in
    ap (λ (l : List ℕ). l ++ unwritten after) (written_front n c.args.ahead.now.len c.write.new.out c.args.ahead.now.items
    (omega (arith, does.count, same)) (same ∙ c.as_mut_slice-room.ensures.len))
    ∙ ap (λ (l : List ℕ). take n l ++ unwritten after) does.bytes
    ∙ ap (λ (k : ℕ). take k (given r w ++ drop n room) ++ unwritten after) does.count
    ∙ ap (λ (v : Writing). take (size_given r w) (given r w ++ drop n room) ++ unwritten v) does.now
    ∙ filled_front r w (drop n room)
