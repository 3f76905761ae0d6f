use Rattle.std.proofs.Common.{arith}
use Rattle.tt_frame.specs.Unread.{whole}
use Rattle.tt_frame.specs.Tables.{read_by}
use Rattle.tt_frame.proofs.TableLaws.{or_memory, is_found, is_read, never_memory, is_nothing, stops_at}
use Rattle.tt_coord.specs.Turn.{turn_messages}
use Rattle.tt_coord.proofs.turn.TurnMsg.decode.Goals as goal

pub returns-clause-found : goal.returns-clause-found
returns-clause-found c = is_found turn_messages c.args.kind c.args.body.now c.read.result (λ i. omega (arith, c.type_inv.body i))
    (or_memory c.read.result (read_by turn_messages c.args.kind (whole c.args.body.now)) c.read.ensures)

pub returns-clause-only : goal.returns-clause-only
returns-clause-only c m spelled = is_read turn_messages c.args.kind c.args.body.now c.read.result m spelled c.read.ensures

pub returns-clause-never : goal.returns-clause-never
returns-clause-never c = never_memory c.read.result (read_by turn_messages c.args.kind (whole c.args.body.now)) c.read.ensures

pub returns-clause-nothing : goal.returns-clause-nothing
returns-clause-nothing c at m e spelled = is_nothing turn_messages c.args.kind c.args.body.now c.read.result at m e
    (or_memory c.read.result (read_by turn_messages c.args.kind (whole c.args.body.now)) c.read.ensures) spelled

pub returns-clause-place : goal.returns-clause-place
returns-clause-place c at e = stops_at turn_messages c.args.kind c.args.body.now c.read.result at (λ i. omega (arith, c.type_inv.body i)) e
    (or_memory c.read.result (read_by turn_messages c.args.kind (whole c.args.body.now)) c.read.ensures)
