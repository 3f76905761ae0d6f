use Rattle.std.proofs.Common.{subst, arith}
use Rattle.tt_frame.specs.ItemForms.{Item, ItemFits}
use Rattle.tt_coord.specs.Items.{listed}
use Rattle.tt_coord.proofs.server_list.ListedListItem.fits.Goals as goal

pub returns : goal.returns
returns c = subst (λ (v : Item listed). ItemFits listed v) c.self.view_is (
  c.bytes-code.ensures.test,
  (
    c.bytes-name.ensures.test,
    (c.bytes-revision.ensures.test, (omega arith, (omega arith, (omega arith, (tt, (omega arith, tt)))))),
  ),
)
