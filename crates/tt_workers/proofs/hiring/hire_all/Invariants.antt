use Rattle.std.proofs.Common.{◌≡◌, ◌+◌, [], ◌++◌, None, map, vec_len, vec_capacity}
use Rattle.tt_room.specs.Passes.{seats_of}
use Rattle.tt_workers.specs.Hiring.{IsStaffed, roles_of, roles_back, ticker_role}
use Rattle.tt_workers.specs.declared.working.Role.TheVariants as role
use Rattle.tt_workers.proofs.hiring.hire_all.Given as goal

-- the admin handles so far, from the last
abbrev pub invariant-admin : goal.invariant-admin
invariant-admin g l = record {
  staffed : IsStaffed l.room l.crew;
  roles : map (λ (a : g.row.A.Denot). role.Admin a) l.fn.doors.admin.items ++ ticker_role l.fn.doors.ticker
      ≡ map (λ (a : g.row.A.Denot). role.Admin a) l.doors.admin.items ++ roles_back l.crew.workers.items;
  number : vec_len l.crew.workers + vec_len l.doors.admin ≡ vec_len l.fn.doors.admin + 1;
  place : vec_capacity l.doors.admin ≡ vec_capacity l.fn.doors.admin;
  game : l.doors.game ≡ l.fn.doors.game;
  ticker : l.doors.ticker ≡ None;
}

abbrev pub decreases-admin : goal.decreases-admin
decreases-admin g l = goal.left-admin g l

-- and the game handles
abbrev pub invariant-game : goal.invariant-game
invariant-game g l = record {
  staffed : IsStaffed l.room l.crew;
  roles : roles_of l.fn.doors ≡ map (λ (x : g.row.L.Denot). role.Game x) l.doors.game.items ++ roles_back l.crew.workers.items;
  number : vec_len l.crew.workers + vec_len l.doors.game ≡ seats_of l.room;
  place : vec_capacity l.doors.game ≡ vec_capacity l.fn.doors.game;
  admin_place : vec_capacity l.doors.admin ≡ vec_capacity l.fn.doors.admin;
  admin : l.doors.admin.items ≡ [];
  ticker : l.doors.ticker ≡ None;
}

abbrev pub decreases-game : goal.decreases-game
decreases-game g l = goal.left-game g l
