use Rattle.std.proofs.Common.{rules}
use Rattle.std.proofs.lemmas.List.FromFn.{fill_by_all}
use Rattle.tt_rules.specs.Digest.{salted_byte}
use Rattle.tt_rules.proofs.password.salted.Goals as goal

pub returns : goal.returns
returns c = record {
  salted = fill_by_all (salted_byte c.args.password.now c.args.id.now c.args.seed) c.loop-i.salted 32 0
      c.loop-i.invariant.0 (search rules);
}
