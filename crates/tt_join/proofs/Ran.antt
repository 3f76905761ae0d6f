-- What a tick fills a plan with, part by part, is the plan of a tick.
use Rattle.std.proofs.Common.{◌≡◌, ℕ, ◌+◌, List, [], ◌∷◌, ◌++◌, ap, ap₂, ◌∙◌}
use Rattle.tt_world.specs.declared.setup.Setup.{Setup}
use Rattle.tt_log.specs.declared.deed.What.TheVariants.{ToAdmin}
use Rattle.tt_log.specs.declared.report.Report.TheVariants.{CompanyNews}
use Rattle.tt_log.specs.Admin.{company_updates}
use Rattle.tt_members.specs.declared.edit.Edit.{Edit}
use Rattle.tt_members.specs.declared.step.Step.{Step}
use Rattle.tt_members.specs.declared.step.Audience.TheVariants.{Watching}
use Rattle.tt_members.specs.Crew.{Crew, founders_in}
use Rattle.tt_members.specs.Planned.{Planned, IsPlain}
use Rattle.tt_members.specs.Steps.{stamped_in, says}
use Rattle.tt_members.specs.Leaving.{playing_in}
use Rattle.tt_join.specs.declared.input.Now.{Now}
use Rattle.tt_join.specs.Ticking.{clients_at, assigned, founders_of, founding_edits, founding_steps, syncing, loader, loading_edits}
use Rattle.tt_join.specs.Ticking.{loading_steps}
use Rattle.tt_join.specs.Ticking.{limits_of, adds, beating, with_founders, with_sync, with_pieces, with_ends, ticking}
use Rattle.tt_join.proofs.Plain.{plain_is, added, added_steps}
use Rattle.tt_join.proofs.Beating.{founders_are}

-- one part of it: changes and steps were added
pub record IsPart (p q : Planned) (es : List Edit) (ss : List Step) : Type 0 where
  pub plain : IsPlain p q
  pub edits : q.edits ≡ p.edits ++ es
  pub steps : q.steps ≡ p.steps ++ ss

-- or steps alone
pub record IsTold (p q : Planned) (ss : List Step) : Type 0 where
  pub plain : IsPlain p q
  pub edits : q.edits ≡ p.edits
  pub steps : q.steps ≡ p.steps ++ ss

pub record IsLimited (setup : Setup) (crew : Crew) (now : Now) (p q : Planned) : Type 0 where
  pub plain : IsPlain p q
  pub edits : q.edits ≡ (limits_of setup (now.frame + 1) crew.members crew.queue p).edits
  pub steps : q.steps ≡ (limits_of setup (now.frame + 1) crew.members crew.queue p).steps

founders_ran : (setup : Setup) (crew : Crew) (now : Now) (clients : List ℕ) (p1 p2 p3 : Planned) → p1 ≡ beating setup crew now
    → clients ≡ clients_at (now.frame + 1) crew.founders ++ clients_at (now.frame + 1) (founders_in (stamped_in p1.steps))
    → IsTold p1 p2 (says (Watching company_updates) (ToAdmin CompanyNews) ∷ [])
    → IsPart p2 p3 (founding_edits crew.members (assigned now.live clients))
    (founding_steps (playing_in crew.members) crew.members (assigned now.live clients))
    → p3 ≡ with_founders crew now (beating setup crew now)
founders_ran setup crew now clients p1 p2 p3 first are two three =
    let news : List Step = says (Watching company_updates) (ToAdmin CompanyNews) ∷ [] in
    let conns : List ℕ = playing_in crew.members in
    let fs : List (ℕ × ℕ) = founders_of crew now in
    let same : assigned now.live clients ≡ fs = founders_are setup crew now clients p1.steps (ap (λ (p : Planned). p.steps) first) are in
    let told : p2 ≡ adds [] news (beating setup crew now) =
    added_steps p1 p2 news two.plain two.edits two.steps ∙ ap (λ (p : Planned). adds [] news p) first in
    added p2 p3 (founding_edits crew.members (assigned now.live clients)) (founding_steps conns crew.members (assigned now.live clients))
    three.plain three.edits three.steps
    ∙ ap (λ (gs : List (ℕ × ℕ)). adds (founding_edits crew.members gs) (founding_steps conns crew.members gs) p2) same
    ∙ ap (λ (p : Planned). adds (founding_edits crew.members fs) (founding_steps conns crew.members fs) p) told

pub tick_ran : (setup : Setup) (crew : Crew) (now : Now) (clients : List ℕ) (p1 p2 p3 p4 p5 p6 : Planned) → p1 ≡ beating setup crew now
    → clients ≡ clients_at (now.frame + 1) crew.founders ++ clients_at (now.frame + 1) (founders_in (stamped_in p1.steps))
    → IsTold p1 p2 (says (Watching company_updates) (ToAdmin CompanyNews) ∷ [])
    → IsPart p2 p3 (founding_edits crew.members (assigned now.live clients))
    (founding_steps (playing_in crew.members) crew.members (assigned now.live clients))
    → IsTold p3 p4 (syncing setup (now.frame + 1) (playing_in crew.members))
    → IsPart p4 p5 (loading_edits now.left (loader crew.queue crew.members)) (loading_steps (loader crew.queue crew.members))
    → IsLimited setup crew now p5 p6
    → p6 ≡ ticking setup crew now
tick_ran setup crew now clients p1 p2 p3 p4 p5 p6 first are two three four five six =
    let w3 : p3 ≡ with_founders crew now (beating setup crew now) = founders_ran setup crew now clients p1 p2 p3 first are two three in
    let w4 : p4 ≡ with_sync setup crew now (with_founders crew now (beating setup crew now)) =
    added_steps p3 p4 (syncing setup (now.frame + 1) (playing_in crew.members)) four.plain four.edits four.steps
    ∙ ap (with_sync setup crew now) w3 in
    let w5 : p5 ≡ with_pieces crew now (with_sync setup crew now (with_founders crew now (beating setup crew now))) =
    added p4 p5 (loading_edits now.left (loader crew.queue crew.members)) (loading_steps (loader crew.queue crew.members))
    five.plain five.edits five.steps ∙ ap (with_pieces crew now) w4 in
    plain_is p5 p6 six.plain
    ∙ ap₂ (λ (es : List Edit) (ss : List Step). record p5 { edits = es; steps = ss }) six.edits six.steps
    ∙ ap (with_ends setup crew now) w5
