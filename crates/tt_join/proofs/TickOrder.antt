-- Behind a tick the members are in order, and as many client numbers are given as before.
use Rattle.std.proofs.Common.{◌≡◌, ◌+◌, ◌<◌, ◌^◌, ap, refl, Bool, true, false, None}
use Rattle.std.specs.Prelude.{nat_lt}
use Rattle.tt_world.specs.declared.setup.Setup.{Setup}
use Rattle.tt_members.specs.Crew.{Crew}
use Rattle.tt_members.specs.Planned.{Planned}
use Rattle.tt_members.specs.Rules.{Rise}
use Rattle.tt_members.proofs.Found.{rise_after}
use Rattle.tt_join.specs.declared.input.Now.{Now}
use Rattle.tt_join.specs.Members.{IsOrdered}
use Rattle.tt_join.specs.Ticking.{seen, beating_by, with_founders, with_sync, with_pieces, with_ends, ticking}

-- nobody comes in, and nothing is given
record IsSteady (p : Planned) : Type 0 where
  names : p.names ≡ None
  offers : p.offers ≡ None
  arrives : p.arrives ≡ None
  counts : p.counts ≡ false

steady_orders : (crew : Crew) (p : Planned) → IsSteady p → Rise crew.members → crew.clients < 2 ^ 32 → IsOrdered crew p
steady_orders crew p steady rise few = record {
  rise = rw (steady.names, steady.offers, steady.arrives) (rise_after p.edits crew.members rise);
  few = rw steady.counts few;
  waits = rw steady.offers tt;
}

beat_steady : (b : Bool) (setup : Setup) (crew : Crew) (now : Now) → IsSteady (beating_by b setup crew now)
beat_steady true setup crew now = record { names = refl; offers = refl; arrives = refl; counts = refl }
beat_steady false setup crew now = record { names = refl; offers = refl; arrives = refl; counts = refl }

pub tick_orders : (setup : Setup) (crew : Crew) (now : Now) → Rise crew.members → crew.clients < 2 ^ 32 → IsOrdered crew (ticking setup
    crew now)
tick_orders setup crew now rise few =
    let s : IsSteady (beating_by (nat_lt now.top (now.frame + 1)) setup crew now) = beat_steady (nat_lt now.top (now.frame + 1)) setup crew
    now in
    steady_orders crew (ticking setup crew now) (record { names = s.names; offers = s.offers; arrives = s.arrives; counts = s.counts })
    rise few

seen_by : (b : Bool) (setup : Setup) (crew : Crew) (now : Now)
    → beating_by b setup (seen crew.members crew.queue crew.own crew.tokens crew.founders) now ≡ beating_by b setup crew now
seen_by true setup crew now = refl
seen_by false setup crew now = refl

-- a tick looks at these parts of a crew alone
pub seen_alone : (setup : Setup) (crew : Crew) (now : Now)
    → ticking setup (seen crew.members crew.queue crew.own crew.tokens crew.founders) now ≡ ticking setup crew now
seen_alone setup crew now =
    ap (λ (p : Planned). with_ends setup crew now (with_pieces crew now (with_sync setup crew now (with_founders crew now p))))
    (seen_by (nat_lt now.top (now.frame + 1)) setup crew now)
