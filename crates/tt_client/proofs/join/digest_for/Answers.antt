use Rattle.std.proofs.Common.{◌∙◌, sym, ap, List, ℕ}
use Rattle.std.proofs.lemmas.Bool.{false≢true}
use Rattle.tt_frame.specs.Text.{is_digest}
use Rattle.tt_rules.specs.Digest.{password_digest}
use Rattle.tt_client.proofs.Digits.{is_password_digest}
use Rattle.tt_client.proofs.join.digest_for.Goals as goal

pub unreachable-requires-in-None : goal.unreachable-requires-in-None
unreachable-requires-in-None c =
    false≢true (sym c.in-None.ensures.digest ∙ ap (λ (xs : List ℕ). is_digest xs) c.password_digest.ensures.digest
    ∙ is_password_digest c.args.password.now c.in-Some.id c.args.seed)

pub returns : goal.returns
returns c = record {
  digest = c.in-Some-new.ensures.same ∙ c.password_digest.ensures.digest
      ∙ ap (λ (xs : List ℕ). password_digest c.args.password.now xs c.args.seed) (c.in-Some.ensures.same ∙ c.bytes.ensures.same);
}
