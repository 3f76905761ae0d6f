use Rattle.tt_edge.specs.declared.event.Event.TheVariants.{Packet}
use Rattle.tt_table.specs.Held.{table}
use Rattle.tt_table.proofs.Inputs.{packet_heard}
use Rattle.tt_table.proofs.Oks.{ok_then}
use Rattle.tt_table.proofs.Playing.{is_aside, names}
use Rattle.tt_table.proofs.game.Game.plan_admin_packet.Goals as goal

pub returns-clause-change : goal.returns-clause-change
returns-clause-change c =
    let g = c.args.self.now in
    let e = Packet c.args.conn c.args.kind c.args.body.now in
    let there = is_aside (table g) c.args.conn (names (table g) e c.requires.taken) c.requires.aside in
    ok_then c.plan_heard.result _ _ c.plan_heard.ensures.change (λ x change.
    change e (packet_heard g.origin (table g) c.args.conn c.args.kind c.args.body.now c.in_ok-heard.heard c.requires.aside there
    c.in_ok-heard.ensures.done c.in_ok-heard.ensures.quits))
