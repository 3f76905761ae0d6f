use Rattle.std.proofs.Common.{sym, subst, ◌∙◌}
use Rattle.tt_edge.specs.declared.event.Event.TheVariants.{Packet}
use Rattle.tt_log.specs.Events.{read_msg}
use Rattle.tt_join.specs.declared.input.Input.{Input}
use Rattle.tt_join.specs.Inputs.{by_input}
use Rattle.tt_join.specs.Ties.{packet_input}
use Rattle.tt_table.specs.Coming.{Comes, IsPlanned}
use Rattle.tt_table.specs.Held.{table}
use Rattle.tt_table.proofs.Coming.{input_change}
use Rattle.tt_table.proofs.Inputs.{packet_comes, packet_is}
use Rattle.tt_table.proofs.Oks.{ok_then}
use Rattle.tt_table.proofs.Playing.{goes_on}
use Rattle.tt_table.proofs.game.Game.plan_packet.Goals as goal

pub plan_input-requires-clause-going : goal.plan_input-requires-clause-going
plan_input-requires-clause-going c = goes_on (table c.args.self.now) (Packet c.args.conn c.args.kind c.args.body.now) c.requires.taken

pub plan_input-requires-clause-comes : goal.plan_input-requires-clause-comes
plan_input-requires-clause-comes c =
    subst (λ (i : Input). Comes (table c.args.self.now) i) (sym c.in_ok-input.ensures.input)
    (packet_comes (table c.args.self.now) c.args.conn (read_msg c.args.kind c.args.body.now))

pub returns-in_ok-input-clause-change : goal.returns-in_ok-input-clause-change
returns-in_ok-input-clause-change c =
    let g = c.args.self.now in
    let conn = c.args.conn in
    let said = read_msg c.args.kind c.args.body.now in
    ok_then c.plan_input.result _ _ c.plan_input.ensures.planned (λ x plan.
    input_change g.origin (Packet conn c.args.kind c.args.body.now) (table g) (packet_input conn said) x
    (packet_is g.origin (table g) conn c.args.kind c.args.body.now (sym c.has_member.ensures.has ∙ c.if-has_member.true)
    (c.an_event_is_its_input.ensures.packet g.origin (table g) conn c.args.kind c.args.body.now))
    (subst (λ (i : Input). IsPlanned g.origin (table g) (by_input i g.origin (table g)) x) c.in_ok-input.ensures.input plan))
