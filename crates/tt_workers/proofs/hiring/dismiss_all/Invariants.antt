use Rattle.std.proofs.Common.{◌≡◌, ◌+◌, ◌||◌, ◌++◌, map, vec_len, vec_capacity}
use Rattle.std.specs.Prelude.{filter_map, option_to_list}
use Rattle.std.specs.List.{list_any}
use Rattle.tt_workers.specs.Running.{is_short, is_deaf, is_untimed}
use Rattle.tt_workers.specs.Hiring.{backwards, roles_back, game_of, admin_of, ticker_of}
use Rattle.tt_workers.specs.declared.working.Worker.{Worker}
use Rattle.tt_workers.proofs.hiring.dismiss_all.Given as goal

-- what came back so far, and what is still with the workers
abbrev pub invariant-worker : goal.invariant-worker
invariant-worker g l =
    let W : Type 0 = Worker g.row.C.Denot g.row.L.Denot g.row.A.Denot g.row.T.Denot in
    record {
      game : filter_map game_of (roles_back l.fn.crew.workers.items) ≡ l.doors.game.items ++ filter_map game_of (roles_back
          l.crew.workers.items);
      admin : filter_map admin_of (roles_back l.fn.crew.workers.items) ≡ l.doors.admin.items ++ filter_map admin_of (roles_back
          l.crew.workers.items);
      ticker : filter_map ticker_of (roles_back l.fn.crew.workers.items) ≡ option_to_list l.doors.ticker ++ filter_map ticker_of
          (roles_back l.crew.workers.items);
      game_place : vec_capacity l.doors.game ≡ vec_capacity l.fn.doors.game;
      admin_place : vec_capacity l.doors.admin ≡ vec_capacity l.fn.doors.admin;
      passes : l.fn.crew.passes.items ++ map (λ (w : W). w.pass) (backwards l.fn.crew.workers.items) ≡ l.crew.passes.items
          ++ map (λ (w : W). w.pass) (backwards l.crew.workers.items);
      pass_place : vec_capacity l.crew.passes ≡ vec_capacity l.fn.crew.passes;
      pass_number : vec_len l.crew.passes + vec_len l.crew.workers ≡ vec_len l.fn.crew.passes + vec_len l.fn.crew.workers;
      memory : list_any is_short (map (λ (w : W). w.end) (backwards l.fn.crew.workers.items)) ≡ l.ends.memory || list_any is_short
          (map (λ (w : W). w.end) (backwards l.crew.workers.items));
      listen_fault : list_any is_deaf (map (λ (w : W). w.end) (backwards l.fn.crew.workers.items)) ≡ l.ends.listen_fault || list_any is_deaf
          (map (λ (w : W). w.end) (backwards l.crew.workers.items));
      tick_fault : list_any is_untimed (map (λ (w : W). w.end) (backwards l.fn.crew.workers.items)) ≡ l.ends.tick_fault || list_any
          is_untimed (map (λ (w : W). w.end) (backwards l.crew.workers.items));
    }

abbrev pub decreases-worker : goal.decreases-worker
decreases-worker g l = goal.left-worker g l
