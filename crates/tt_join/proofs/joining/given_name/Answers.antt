use Rattle.std.proofs.Common.{◌≡◌, ap, ap₂, ◌∙◌, false, true, sym, Err}
use Rattle.tt_log.specs.Names.{is_too_long}
use Rattle.tt_join.specs.Joining.{bare, name_in}
use Rattle.tt_join.proofs.joining.given_name.Goals as goal

pub returns : goal.returns
returns c = record {
  name = c.in-Ok.ensures.given (bare c.args.members.now)
      ∙ ap₂ (λ conn wanted. name_in c.args.members.now conn wanted) c.conn.ensures.conn c.bytes.ensures.same;
}

pub unreachable-requires-in-Err-InUse : goal.unreachable-requires-in-Err-InUse
unreachable-requires-in-Err-InUse c =
    let long = (c.name_for.ensures.in_use (bare c.args.members.now)).0 (c.in-Err-InUse.is ∙ ap Err c.in-Err-InUse.field-0-is) in
    let same = ap₂ (λ conn wanted. is_too_long (name_in c.args.members.now conn wanted)) c.conn.ensures.conn c.bytes.ensures.same in
    let wrong : false ≡ true = sym c.requires.short ∙ sym same ∙ long.1 in cc
