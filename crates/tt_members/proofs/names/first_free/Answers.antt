use Rattle.std.proofs.Common.{◌≡◌, ◌+◌, ◌<◌, true, false, length, sym, ap, ◌∙◌, arith}
use Rattle.tt_log.specs.Names.{is_taken, numbered}
use Rattle.tt_members.specs.Places.{seated}
use Rattle.tt_members.proofs.NameLaws.{found-free, found-taken}
use Rattle.tt_members.proofs.names.first_free.Goals as goal

pub returns-then-not-is_taken-clause-free : goal.returns-then-not-is_taken-clause-free
returns-then-not-is_taken-clause-free c = λ t.
    let name = c.args.wanted.now in let tried = c.loop-tried.tried in let n = length c.args.taken.now in
    let more : tried < n = omega arith in
    let free : is_taken (seated t c.args.taken.now) c.args.conn (numbered name (tried + 1)) ≡ false =
    ap (is_taken (seated t c.args.taken.now) c.args.conn) (sym (c.as_slice.ensures.value ∙ c.numbered-name.ensures.numbered))
    ∙ sym c.is_taken.ensures.taken ∙ c.if-not-is_taken.true in
    c.numbered-name.ensures.numbered ∙ sym (found-free (seated t c.args.taken.now) c.args.conn name tried n more free) ∙ sym
    (c.loop-tried.invariant t)

pub loop-tried-preserved : goal.loop-tried-preserved
loop-tried-preserved c = λ t.
    let name = c.args.wanted.now in let tried = c.loop-tried.tried in let n = length c.args.taken.now in
    let more : tried < n = omega arith in
    let taken : is_taken (seated t c.args.taken.now) c.args.conn (numbered name (tried + 1)) ≡ true =
    ap (is_taken (seated t c.args.taken.now) c.args.conn) (sym (c.as_slice.ensures.value ∙ c.numbered-name.ensures.numbered))
    ∙ sym c.is_taken.ensures.taken ∙ c.if-not-is_taken.false in
    c.loop-tried.invariant t ∙ found-taken (seated t c.args.taken.now) c.args.conn name tried n more taken
