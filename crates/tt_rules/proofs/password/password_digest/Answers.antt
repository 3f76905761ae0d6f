use Rattle.std.proofs.Common.{ap, ap₂, ◌∙◌, ℕ, List}
use Rattle.md5.specs.Md5.{md5}
use Rattle.hex.specs.Hex.{encode_lower}
use Rattle.tt_rules.specs.Digest.{salted}
use Rattle.tt_rules.proofs.password.password_digest.Goals as goal

pub returns : goal.returns
returns c = record {
  digest = c.digits_of.ensures.digits ∙ ap (λ (bytes : List ℕ). encode_lower (md5 bytes))
      (c.salted.ensures.salted ∙ ap₂ (λ (password id : List ℕ). salted password id c.args.seed) c.bytes.ensures.same
      c.bytes-2.ensures.same);
}
