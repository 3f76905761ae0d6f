use Rattle.std.proofs.Common.{subst, arith}
use Rattle.tt_frame.specs.ItemForms.{Item, ItemFits}
use Rattle.tt_coord.specs.Items.{file}
use Rattle.tt_coord.proofs.file_list.LookupFileListItem.fits.Goals as goal

pub returns : goal.returns
returns c = subst (λ (v : Item file). ItemFits file v) c.self.view_is (
  omega arith,
  (
    omega arith,
    (
      c.array_bytes-sum.ensures.length,
      (c.bytes-name.ensures.test, tt),
    ),
  ),
)
