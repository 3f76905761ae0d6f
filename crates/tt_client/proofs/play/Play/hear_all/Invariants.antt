use Rattle.std.proofs.Common.{◌≡◌, ℕ, Option, drop}
use Rattle.tt_client.specs.declared.login.Login.{Login}
use Rattle.tt_client.specs.Hearing.{Sound, with_news}
use Rattle.tt_client.specs.Player.{heard_all}
use Rattle.tt_client.specs.Runs.{running}
use Rattle.tt_client.specs.Planned.{PlayStands, played}
use Rattle.tt_client.specs.Saying.{Saying}
use Rattle.tt_client.proofs.play.Play.hear_all.Given as goal

abbrev pub invariant-loop-item : goal.invariant-loop-item
invariant-loop-item l = record {
  heard : (login : Login) (saying : Saying) (acked : Option ℕ) → heard_all running login (drop l.item-index l.items) (played l.base l.self
      saying acked)
      ≡ heard_all running login l.items (played l.base l.fn.self saying acked);
  sound : Sound (with_news l.base l.self.news);
  stands : PlayStands l.self.phase l.self.off;
}
