use Rattle.std.proofs.Common.{◌≡◌, ◌∙◌, List, ◌++◌, ap, sym, append_assoc}
use Rattle.std.specs.Prelude.{ℕ}
use Rattle.tt_log.specs.declared.deed.Step.{Step}
use Rattle.tt_log.specs.Deed.{Deed, ◌▹◌}
use Rattle.tt_log.specs.Desk.{admins_limited}
use Rattle.tt_log.specs.Origin.{Origin}
use Rattle.tt_log.specs.Polls.{admins_told}
use Rattle.tt_log.specs.Table.{Table, world_of}
use Rattle.tt_log.specs.Tick.{frame_runs, left_of, stamped}
use Rattle.tt_log.specs.Watching.{sees_frame}
use Rattle.tt_join.specs.Inputs.{members_follow}
use Rattle.tt_join.proofs.laws.a_tick_ends_with_admins.Goals as goal

abbrev told_at : Table → List Step → Deed
told_at t told = record { table = t; told = told }

-- one rule, and then three, told in other brackets
told_so : (t : Table) (ks ls ms ns : List Step) → told_at t (ks ++ ((ls ++ ms) ++ ns)) ≡ told_at t (((ks ++ ls) ++ ms) ++ ns)
told_so t ks ls ms ns =
    ap (told_at t) (sym (append_assoc ks (ls ++ ms) ns) ∙ ap (λ (x : List Step). x ++ ns) (sym (append_assoc ks ls ms)))

regrouped : (d : Deed) (f g h : Table → Deed) → (d ▹ (λ t. f t ▹ g ▹ h)) ≡ (d ▹ f ▹ g ▹ h)
regrouped d f g h =
    let u : Table = d.table in
    let v : Table = (f u).table in
    let w : Table = (g v).table in
    told_so (h w).table d.told (f u).told (g v).told (h w).told

pub returns : goal.returns
returns c = record {
  tick = λ o t. regrouped (stamped t ▹ frame_runs o ▹ sees_frame) (members_follow (world_of o t) (left_of o t) o) (admins_limited o)
      (admins_told (world_of o t).day o);
}
