use Rattle.std.proofs.Common.{◌≡◌, ℕ, List, Some, ◌++◌, length, length-append, ◌∙◌, sym, ap, arith}
use Rattle.std.specs.Result.{result_ok}
use Rattle.tt_map.specs.Reading.{map_in}
use Rattle.tt_client.proofs.Joining.{finished}
use Rattle.tt_client.proofs.join.Join.finish.Goals as goal

pub returns-clause-heard : goal.returns-clause-heard
returns-clause-heard c = λ login saying acked.
    let come = c.args.come.now in
    let old = c.args.self.now in
    let fits : length (come ++ old.more.items) ≡ c.args.size = omega (
      arith,
      length-append come old.more.items,
      c.if-come-len.false,
      c.len.ensures,
      old.more.ok.0,
    ) in
    let world : Some c.in-Some.world ≡ result_ok (map_in (come ++ old.more.items)) =
    sym c.in-Some.is ∙ c.in_ok-world.ensures.world ∙ ap (λ (xs : List ℕ). result_ok (map_in (come ++ xs))) c.deref.ensures.value in
    finished login come old c.args.frame c.args.size c.args.at c.in-Some.world c.in_ok-runs.runs c.encode.new.out.items saying acked
    c.requires.stands c.requires.fetching fits world c.in_ok-runs.ensures.mapped c.in_ok-encode.ensures.ok
