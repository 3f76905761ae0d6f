use Rattle.std.proofs.Common.{◌<◌, ap, length, arith}
use Rattle.tt_frame.proofs.ItemLoops.{one_more}
use Rattle.tt_frame.proofs.items.Items.push.Goals as goal

pub invariant_of-self : goal.invariant_of-self
invariant_of-self g c =
    let many : length c.self.inside.content.items < g.row.MAX = omega (arith, c.requires, ap length c.self.view_is) in
    one_more _ g.T.ListItem.fields g.T.ListItem.listed g.T.ListItem.values g.met.T.ListItem.more g.row.MAX _ c.self.inside.content.items
    c.push.new.self.items c.args.item c.push.ensures.items many c.self.invariant.1 c.fits.ensures
