use Rattle.std.proofs.Common.{◌≡◌, ℕ, List, ◌++◌, ◌∙◌, sym, ap, subst, arith}
use Rattle.std.specs.Result.{result_ok}
use Rattle.tt_frame.specs.Packet.{IsBytes}
use Rattle.tt_client.proofs.WorldLaws.{R, bytes_both, decoded, ok_answered, err_answered}
use Rattle.tt_client.proofs.join.world_in.Goals as goal

pub returns-in-Ok : goal.returns-in-Ok
returns-in-Ok c =
    let come = c.args.come.now in
    let more = c.args.more.now in
    let same : c.as_slice.result.now ≡ come ++ more =
    c.as_slice.ensures.value ∙ c.in_ok-extend_from_slice.ensures.items ∙ ap (λ (xs : List ℕ). xs ++ more) c.in_ok-bytes.ensures.items in
    let fits : IsBytes (come ++ more) = bytes_both come more (λ i. omega (arith, c.type_inv.come i)) (λ i. omega (
      arith,
      c.type_inv.more
          i,
    )) in
    record {
      world = sym (ap (λ (r : R). result_ok r) c.in-Ok.is)
          ∙ decoded c.as_slice.result.now (come ++ more) c.decode_map.result same (subst (λ (xs : List ℕ). IsBytes xs) (sym same) fits)
          (ok_answered c.decode_map.result c.in-Ok.world c.in-Ok.is) c.decode_map.ensures.map;
    }

pub returns : goal.returns
returns c =
    let come = c.args.come.now in
    let more = c.args.more.now in
    let same : c.as_slice.result.now ≡ come ++ more =
    c.as_slice.ensures.value ∙ c.in_ok-extend_from_slice.ensures.items ∙ ap (λ (xs : List ℕ). xs ++ more) c.in_ok-bytes.ensures.items in
    let fits : IsBytes (come ++ more) = bytes_both come more (λ i. omega (arith, c.type_inv.come i)) (λ i. omega (
      arith,
      c.type_inv.more
          i,
    )) in
    record {
      world = sym (ap (λ (r : R). result_ok r) c.in-Err.is)
          ∙ decoded c.as_slice.result.now (come ++ more) c.decode_map.result same (subst (λ (xs : List ℕ). IsBytes xs) (sym same) fits)
          (err_answered c.decode_map.result c.in-Err.bad c.in-Err.is c.in_default.not-Memory) c.decode_map.ensures.map;
    }
