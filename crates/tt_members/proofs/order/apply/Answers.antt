use Rattle.std.proofs.Common.{sym, subst}
use Rattle.tt_members.specs.Rules.{Rise}
use Rattle.tt_members.specs.declared.edit.Edit.TheVariants.{Mark, Begin, Draw, Permit, Move, Load, Leave}
use Rattle.tt_members.proofs.Found.{rise_by}
use Rattle.tt_members.proofs.order.apply.Goals as goal

pub returns-in-Mark-clause-rise : goal.returns-in-Mark-clause-rise
returns-in-Mark-clause-rise c =
    subst Rise (sym c.change.ensures.members) (rise_by (Mark c.in-Mark.conn c.in-Mark.marks) c.args.members.now.items c.requires)

pub returns-in-Begin-clause-rise : goal.returns-in-Begin-clause-rise
returns-in-Begin-clause-rise c =
    subst Rise (sym c.change-in-Begin.ensures.members) (rise_by (Begin c.in-Begin.conn c.in-Begin.frame) c.args.members.now.items
    c.requires)

pub returns-in-Move-clause-rise : goal.returns-in-Move-clause-rise
returns-in-Move-clause-rise c =
    subst Rise (sym c.change-in-Move.ensures.members) (rise_by (Move c.in-Move.conn c.in-Move.company) c.args.members.now.items c.requires)

pub returns-in-Load-clause-rise : goal.returns-in-Load-clause-rise
returns-in-Load-clause-rise c =
    subst Rise (sym c.change-in-Load.ensures.members) (rise_by (Load c.in-Load.conn c.in-Load.pieces c.in-Load.status)
    c.args.members.now.items c.requires)

pub returns-in-Draw-clause-rise : goal.returns-in-Draw-clause-rise
returns-in-Draw-clause-rise c = subst Rise (sym c.draw_all.ensures.members) (rise_by Draw c.args.members.now.items c.requires)

pub returns-in-Permit-clause-rise : goal.returns-in-Permit-clause-rise
returns-in-Permit-clause-rise c = subst Rise (sym c.permit_all.ensures.members)
    (rise_by (Permit c.in-Permit.frame c.in-Permit.top c.in-Permit.words) c.args.members.now.items c.requires)

pub returns-in-Leave-clause-rise : goal.returns-in-Leave-clause-rise
returns-in-Leave-clause-rise c = subst Rise (sym c.leave.ensures.members) (rise_by (Leave c.in-Leave.conn) c.args.members.now.items
    c.requires)
