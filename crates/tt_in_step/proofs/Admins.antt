-- What an admin's packet does, as those that play see it: chats, ends and commands of the server's own.
use Rattle.std.proofs.Common.{◌≡◌, ℕ, ◌==◌, true, false, List, [], ◌∷◌, ◌++◌, Option, Some, None, refl, sym, subst}
use Rattle.tt_admin.specs.declared.message.AdminMsg.{AdminMsg}
use Rattle.tt_admin.specs.declared.message.AdminMsg.TheVariants.{AdminJoin, AdminQuit, AdminUpdateFrequency, AdminPoll, AdminChat}
use Rattle.tt_admin.specs.declared.message.AdminMsg.TheVariants.{AdminRcon, AdminPing, ServerError, ServerRconEnd, ServerPong}
use Rattle.tt_rules.specs.declared.status.Verdict.{Verdict}
use Rattle.tt_rules.specs.declared.status.Verdict.TheVariants.{Allowed, Ends}
use Rattle.tt_log.specs.declared.report.Report.{Report}
use Rattle.tt_log.specs.declared.report.Report.TheVariants.{Message}
use Rattle.tt_log.specs.Origin.{Origin}
use Rattle.tt_log.specs.Admin.{Admin}
use Rattle.tt_log.specs.Table.{Table, with_admin, member_with}
use Rattle.tt_log.specs.Deed.{Deed, ◌▹◌, becomes}
use Rattle.tt_log.specs.Judged.{is_empty}
use Rattle.tt_log.specs.Watching.{sees_console}
use Rattle.tt_log.specs.Polls.{tells_admin, poll_answers}
use Rattle.tt_log.specs.Console.{ConsoleCommand, pauses, kicks, announces, lines_of}
use Rattle.tt_log.specs.Console.{orders, pause, kicks_out, console_does, obeys, command_in}
use Rattle.tt_log.specs.Desk.{admin_leaves, admin_ends, admin_judged, admin_asks, admin_greeting, admin_does, by_admin_verdict}
use Rattle.tt_log.specs.Desk.{admin_hears}
use Rattle.tt_log.specs.Tellings.{Filling}
use Rattle.tt_log.specs.Shown.{Place}
use Rattle.tt_log.proofs.Lists.{found-among}
use Rattle.tt_log.proofs.Crew.{OnAdmin, put-admin-conns, conns}
use Rattle.tt_log.proofs.Ordered.{IsOrdered, clients}
use Rattle.tt_in_step.proofs.Worlds.{MapsAreRead}
use Rattle.tt_in_step.proofs.Does.{Tied, Does, does-then, does-quiet, does-still, does-some, does-silent, does-reports}
use Rattle.tt_in_step.proofs.Ending.{does-ends}
use Rattle.tt_in_step.proofs.Packets.{tied-but, does-chats}
use Rattle.tt_in_step.proofs.Ticks.{does-admin-leaves}

module _ (o : Origin) (reads : MapsAreRead o) (named : is_empty o.setup.id ≡ false) (f : Filling) (c : ℕ) where
  abbrev Done : Table → Place → Deed → Type 0
  Done t place d = Does o f c (Tied o f c) t place d

  -- an admin stands in its place with other marks
  settled : (b : Admin) (t : Table) (place : Place) → Tied o f c t place → Tied o f c (with_admin b t) place
  settled b t place h = record {
    base = record {
      ordered = subst (λ (xs : List ℕ). IsOrdered t.openings t.clients (conns t.members) (clients t.members) xs)
          (sym (put-admin-conns b t.admins)) h.base.ordered;
      steady = h.base.steady;
      fits = h.base.fits;
    };
    line = h.line;
  }

  admin-ended : (t : Table) (place : Place) (a : Admin) (code : ℕ) → OnAdmin t a → Tied o f c t place → Done t place (admin_ends a code t)
  admin-ended t place a code on h =
      let said : List Report = Message (ServerError code) ∷ [] in
      does-then o f c (Tied o f c) (Tied o f c) t place (tells_admin a.conn said t) (admin_leaves a)
      (does-reports o f c (Tied o f c) t place a.conn said h) (λ end k. does-admin-leaves o reads named f c t end a on k)

  console-by : (command : ConsoleCommand) (t : Table) (place : Place) → Tied o f c t place → Done t place (console_does command t)
  console-by (pauses paused) t place h = does-quiet o f c (Tied o f c) t (orders (pause paused) t).table place refl
      (tied-but o reads named f c (t.own ++ pause paused ∷ []) t.digests t.cost t place h)
  console-by (kicks client) t place h = does-some o f c (Tied o f c) (member_with client t) kicks_out t place h
      (λ m is. does-ends o reads f c t place m _ (found-among (λ m. m.client == client) m t.members is) h)
  console-by (announces text) t place h = does-chats o reads named f c t place 1 0 0 text h
  console-by _ t place h = does-still o f c (Tied o f c) t place h

  obeyed : (command : ConsoleCommand) (conn : ℕ) (text : List ℕ) (t : Table) (place : Place) → Tied o f c t place
      → Done t place (obeys command conn text t)
  obeyed command conn text t place h =
      let said : List Report = lines_of command t ++ Message (ServerRconEnd text) ∷ [] in
      let a : Deed = sees_console text t ▹ tells_admin conn said in
      does-then o f c (Tied o f c) (Tied o f c) t place a (console_does command)
      (does-then o f c (Tied o f c) (Tied o f c) t place (sees_console text t) (tells_admin conn said)
      (does-silent o f c (Tied o f c) t place _ _ refl h) (λ end k. does-reports o f c (Tied o f c) t end conn said k))
      (λ end k. console-by command t end k)

  admin-does : (a : Admin) (msg : AdminMsg) (t : Table) (place : Place) → OnAdmin t a → Tied o f c t place → Done t place
      (admin_does a msg t)
  admin-does a (AdminJoin password application version) t place on h =
      let u : Table = with_admin (record a { joined = true }) t in
      does-then o f c (Tied o f c) (Tied o f c) t place (becomes u) (tells_admin a.conn admin_greeting)
      (does-quiet o f c (Tied o f c) t u place refl (settled (record a { joined = true }) t place h))
      (λ end k. does-reports o f c (Tied o f c) u end a.conn admin_greeting k)
  admin-does a AdminQuit t place on h = does-admin-leaves o reads named f c t place a on h
  admin-does a (AdminUpdateFrequency kind bits) t place on h =
      does-quiet o f c (Tied o f c) t (admin_asks a kind bits t).table place refl (settled _ t place h)
  admin-does a (AdminPoll kind id) t place on h = does-reports o f c (Tied o f c) t place a.conn (poll_answers kind id t) h
  admin-does a (AdminChat scope to text) t place on h = does-chats o reads named f c t place 1 scope to text h
  admin-does a (AdminRcon text) t place on h = obeyed (command_in text) a.conn text t place h
  admin-does a (AdminPing id) t place on h = does-reports o f c (Tied o f c) t place a.conn (Message (ServerPong id) ∷ []) h
  admin-does a _ t place on h = does-still o f c (Tied o f c) t place h

  verdict-by : (v : Verdict) (said : Option AdminMsg) (t : Table) (place : Place) (a : Admin) → OnAdmin t a → Tied o f c t place
      → Done t place (by_admin_verdict v a said t)
  verdict-by Allowed None t place a on h = does-still o f c (Tied o f c) t place h
  verdict-by Allowed (Some msg) t place a on h = admin-does a msg t place on h
  verdict-by (Ends code) said t place a on h = admin-ended t place a code on h

  pub does-admin-hears : (said : Option AdminMsg) (t : Table) (place : Place) (a : Admin) → OnAdmin t a → Tied o f c t place
      → Done t place (admin_hears o said a t)
  does-admin-hears said t place a on h = verdict-by (admin_judged o a said) said t place a on h
