-- What reports to admins are made of, where a poll is answered, a day begins, or the console answers.
use Rattle.std.proofs.Common.{inl, inr, ℕ, Bool, true, false, List, [], ◌∷◌, Option, Some, None, refl, arith}
use Rattle.std.specs.Prelude.{◌==◌, cond, filter, flat_map, map, slice_index}
use Rattle.std.specs.List.{AllByRecursion}
use Rattle.tt_edge.specs.declared.event.Event.{Event}
use Rattle.tt_log.specs.declared.report.Report.{Report}
use Rattle.tt_log.specs.Origin.{Origin}
use Rattle.tt_log.specs.Member.{Member, is_welcomed}
use Rattle.tt_log.specs.Admin.{Admin, date_updates, client_updates, company_updates, economy_updates, stats_updates, name_updates, is_due}
use Rattle.tt_log.specs.Table.{Table, member_with, welcomed}
use Rattle.tt_log.specs.Polls.{client_report, due_of, due_reports, everyone, is_asked, period_types, poll_answers}
use Rattle.tt_log.specs.Console.{ConsoleCommand, pauses, kicks, announces, clients, companies, quits, unknown, answer, client_line}
use Rattle.tt_log.specs.Console.{kick_answer, lines_of}
use Rattle.tt_log.proofs.Lists.{all-append, all-among, all-filter}
use Rattle.tt_log.proofs.Crew.{On}
use Rattle.tt_log.proofs.Changes.{IsReport}

module _ (o : Origin) (e : Event) where
  abbrev Known : Table → List Report → Type 0
  Known t reports = AllByRecursion (IsReport o e t) reports

  -- the welcomed members are on the table
  clients-known : (t : Table) (ms : List Member) → AllByRecursion (λ n. On t n) ms → Known t (map client_report ms)
  clients-known t [] on = tt
  clients-known t (m ∷ ms) on = ((m, on.0, refl, refl, refl), clients-known t ms on.1)

  if-known : (b : Bool) (t : Table) (xs ys : List Report) → Known t xs → Known t ys → Known t (cond b xs ys)
  if-known true t xs ys a h = a
  if-known false t xs ys a h = h

  pub polls-known : (kind id : ℕ) (t : Table) → Known t (poll_answers kind id t)
  polls-known kind id t =
      if-known (kind == date_updates) t _ _ (tt, tt) (if-known (kind == client_updates) t _ _
      (clients-known t (filter (λ m. is_asked id m.client) (welcomed t)) (all-filter (λ n. On t n) (λ m. is_asked id m.client) (welcomed t)
      (all-filter (λ n. On t n) is_welcomed t.members (all-among t.members)))) (if-known (kind == company_updates) t _ _ (tt, tt)
      (if-known (kind == economy_updates) t _ _ (tt, tt) (if-known (kind == stats_updates) t _ _ (tt, tt)
      (if-known (kind == name_updates) t _ _ (refl, tt) tt)))))

  each-due : (day : ℕ) (a : Admin) (t : Table) (kinds : List ℕ) → Known t (flat_map (due_of day a t) kinds)
  each-due day a t [] = tt
  each-due day a t (kind ∷ kinds) = all-append (IsReport o e t) (due_of day a t kind) (flat_map (due_of day a t) kinds)
      (if-known (is_due day (slice_index a.bits kind)) t _ [] (polls-known kind everyone t) tt) (each-due day a t kinds)

  pub due-known : (day : ℕ) (a : Admin) (t : Table) → Known t (due_reports day a t)
  due-known day a t = each-due day a t period_types

  -- ---- the console

  members-known : (t : Table) (ms : List Member) → AllByRecursion (λ n. On t n) ms → Known t (map (λ m. answer (client_line m)) ms)
  members-known t [] on = tt
  members-known t (m ∷ ms) on = ((refl, inr (m, on.0, refl)), members-known t ms on.1)

  kick-known : (x : Option Member) (t : Table) → IsReport o e t (kick_answer x)
  kick-known None t = (refl, inl (refl, omega arith))
  kick-known (Some m) t = (refl, inl (refl, omega arith))

  pub lines-known : (command : ConsoleCommand) (t : Table) → Known t (lines_of command t)
  lines-known (pauses paused) t = ((refl, inl (refl, omega arith)), tt)
  lines-known (kicks client) t = (kick-known (member_with client t) t, tt)
  lines-known (announces text) t = ((refl, inl (refl, omega arith)), tt)
  lines-known clients t = members-known t (welcomed t) (all-filter (λ n. On t n) is_welcomed t.members (all-among t.members))
  lines-known companies t = (tt, tt)
  lines-known quits t = ((refl, inl (refl, omega arith)), tt)
  lines-known unknown t = ((refl, inl (refl, omega arith)), tt)
