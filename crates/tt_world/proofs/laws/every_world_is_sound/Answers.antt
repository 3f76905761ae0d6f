use Rattle.std.proofs.Common.{subst, length, ◌≤◌}
use Rattle.tt_frame.specs.Text.{IsText, IsShort}
use Rattle.tt_world.specs.World.{WorldState}
use Rattle.tt_world.specs.Sound.{IsSound}
use Rattle.tt_world.proofs.ApplyLaws.{IsSound-applied}
use Rattle.tt_world.proofs.FrameLaws.{IsSound-framed}
use Rattle.tt_world.proofs.laws.every_world_is_sound.Goals as goal

pub returns : goal.returns
returns c =
    let sound : IsSound c.args.world.now = subst (λ (w : WorldState). IsSound w) c.world.view_is c.world.invariant.0 in
    let short : IsShort c.args.entry.now.command.text
    = record {
      text = subst (λ b. IsText b) c.bytes-text.ensures.same c.bytes-text.ensures.text;
      fits = subst (λ b. length b ≤ 31)
          c.bytes-text.ensures.same c.bytes-text.ensures.length;
    } in
    record {
      now = sound;
      command = IsSound-applied c.args.world.now c.args.entry.now short sound;
      frame = IsSound-framed c.args.world.now
          sound;
    }
