use Rattle.std.proofs.Common.{◌≡◌, ◌<◌, ◌+◌, ◌∙◌, ◌∷◌, [], ◌++◌, length, sym, ap, subst, arith, take, get_or, rules}
use Rattle.std.proofs.lemmas.List.{take_more}
use Rattle.tt_client.specs.Notes.{AreNoted}
use Rattle.tt_client.proofs.Notes.{noted_append, noted_still}
use Rattle.tt_client.proofs.noted.note_all.Goals as goal

pub loop-i-preserved : goal.loop-i-preserved
loop-i-preserved c =
    let new = c.note.new.noted in
    let xs = c.args.syncs.now.items in
    let still = noted_still 0 0 c.loop-i.noted new (take c.loop-i.i xs) (omega arith) c.in_ok-note.ensures.kept c.loop-i.invariant.noted in
    let within : c.loop-i.i < length xs = grind (arith, c.loop-i-test.true, c.len-i-end.ensures) in
    let read : get_or xs c.loop-i.i c.index.result.now ≡ c.index.result.now = search rules in
    let more : take (c.loop-i.i + 1) xs ≡ take c.loop-i.i xs ++ c.index.result.now ∷ [] =
    take_more xs c.loop-i.i c.index.result.now within ∙ ap (λ x. take c.loop-i.i xs ++ x ∷ []) read in
    let all : AreNoted 0 new (take c.loop-i.i xs ++ c.index.result.now ∷ []) =
    noted_append 0 new (take c.loop-i.i xs) (c.index.result.now ∷ []) still c.in_ok-note.ensures.noted in
    record {
      kept = λ f w is. c.in_ok-note.ensures.kept f w (c.loop-i.invariant.kept f w is);
      noted = subst (λ ys. AreNoted 0 new ys) (sym more) all;
    }
