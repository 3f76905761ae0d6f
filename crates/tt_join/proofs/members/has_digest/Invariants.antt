use Rattle.std.proofs.Common.{◌≡◌}
use Rattle.std.specs.Prelude.{drop}
use Rattle.tt_join.specs.Members.{is_locked}
use Rattle.tt_join.proofs.members.has_digest.Given as goal

-- none of those before is the company's
abbrev pub invariant-loop-digest : goal.invariant-loop-digest
invariant-loop-digest l = is_locked (drop l.digest-index l.digests) l.company ≡ is_locked l.digests l.company
