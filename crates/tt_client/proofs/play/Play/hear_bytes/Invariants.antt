use Rattle.std.proofs.Common.{◌≡◌, ◌≤◌, ◌<◌, ◌-◌, ℕ, Option, length, drop}
use Rattle.tt_client.specs.declared.login.Login.{Login}
use Rattle.tt_client.specs.Cutting.{cut_at}
use Rattle.tt_client.specs.Hearing.{Sound, with_news}
use Rattle.tt_client.specs.Player.{heard_all}
use Rattle.tt_client.specs.Runs.{running}
use Rattle.tt_client.specs.Planned.{PlayStands, played}
use Rattle.tt_client.specs.Saying.{Saying}
use Rattle.tt_client.proofs.play.Play.hear_bytes.Given as goal

-- what is left, heard behind what was heard, is all
abbrev pub invariant-packets : goal.invariant-packets
invariant-packets l = record {
  within : l.end ≤ length l.bytes;
  place : l.place < 18446744073709551616;
  rest : (cut_at l.place (drop l.end l.bytes)).rest ≡ (cut_at l.at l.bytes).rest;
  at : (cut_at l.place (drop l.end l.bytes)).at ≡ (cut_at l.at l.bytes).at;
  heard : (login : Login) (saying : Saying) (acked : Option ℕ)
      → heard_all running login (cut_at l.place (drop l.end l.bytes)).items (played l.base l.self saying acked)
      ≡ heard_all running login (cut_at l.at l.bytes).items (played l.base l.fn.self saying acked);
  sound : Sound (with_news l.base l.self.news);
  stands : PlayStands l.self.phase l.self.off;
}

abbrev pub decreases-packets : goal.decreases-packets
decreases-packets l = length l.bytes - l.end
