use Rattle.std.proofs.Common.{◌≡◌, ◌+◌, ◌-◌, ◌≤◌, List, ℕ, length, take, drop, sym, ap, ◌∙◌, arith}
use Rattle.std.specs.List.{slice_range}
use Rattle.std.proofs.lemmas.List.{length-take, length-drop}
use Rattle.tt_frame.proofs.PacketLaws.{drop-slice_range}
use Rattle.tt_rounds.proofs.outbox.Outbox.wrote.Goals as goal

pub returns : goal.returns
returns c =
    let o = c.self.inside in
    let k = c.args.count in
    let len : length (slice_range o.bytes o.start o.end) ≡ length c.args.self.now = ap (λ (xs : List ℕ). length xs) c.self.view_is in
    let fits : o.start + k ≤ o.end = omega (
      arith,
      len,
      c.requires,
      c.self.invariant,
      c.self.told,
      length-drop o.start
          (take o.end o.bytes),
      length-take o.end o.bytes,
      length-take (o.end - o.start) (drop o.start o.bytes),
      length-drop o.start
          o.bytes,
    ) in
    sym (drop-slice_range o.bytes o.start o.end k fits) ∙ ap (λ (xs : List ℕ). drop k xs) c.self.view_is
