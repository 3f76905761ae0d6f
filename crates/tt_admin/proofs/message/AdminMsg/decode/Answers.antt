use Rattle.std.proofs.Common.{arith}
use Rattle.tt_frame.proofs.TableLaws.{is_found, is_read_or_memory, is_nothing, stops_at}
use Rattle.tt_admin.specs.Messages.{messages}
use Rattle.tt_admin.proofs.message.AdminMsg.decode.Goals as goal

pub returns-clause-found : goal.returns-clause-found
returns-clause-found c = is_found messages c.args.kind c.args.body.now c.read.result (λ i. omega (arith, c.type_inv.body i))
    c.read.ensures.read

pub returns-clause-only : goal.returns-clause-only
returns-clause-only c m spelled = is_read_or_memory messages c.args.kind c.args.body.now c.read.result m spelled c.read.ensures.read

pub returns-clause-nothing : goal.returns-clause-nothing
returns-clause-nothing c at m e spelled = is_nothing messages c.args.kind c.args.body.now c.read.result at m e
    c.read.ensures.read spelled

pub returns-clause-place : goal.returns-clause-place
returns-clause-place c at e = stops_at messages c.args.kind c.args.body.now c.read.result at (λ i. omega (arith, c.type_inv.body i)) e
    c.read.ensures.read
