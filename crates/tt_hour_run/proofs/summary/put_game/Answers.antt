use Rattle.std.proofs.Common.{ap, length, ◌∙◌}
use Rattle.tt_hub.specs.Hub.{origin}
use Rattle.tt_world.specs.World.{WorldState}
use Rattle.tt_hour_run.proofs.Sums.{game_is}
use Rattle.tt_hour_run.proofs.summary.put_game.Goals as goal

pub returns : goal.returns
returns c =
    let hub = c.args.hub.now in
    game_is (origin hub) hub.events _ _ _ _ _ _ _ _ _ _ _ c.in_ok-put_connections.ensures.text c.in_ok-put_frame.ensures.text
    c.in_ok-put_entry_count.ensures.text c.in_ok-put_words_line.ensures.text c.in_ok-put_counts.ensures
    c.connections.ensures.connections c.frame.ensures.frame (ap length c.journal.ensures.journal)
    (c.random.ensures.words ∙ ap (λ (w : WorldState). w.words) c.world.ensures.world) c.connections-2.ensures.connections
