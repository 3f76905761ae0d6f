-- Both sides compute.
use Rattle.std.proofs.Common.{refl}
use Rattle.tt_frame.specs.Reading.{number_at, within_at, truth_at, fixed_at, before_zero, text_at}
use Rattle.tt_frame.specs.ItemForms.{items_at, marked_at}
use Rattle.tt_frame.specs.Text.{is_text}
use Rattle.std.specs.Str.{is_utf8, chars}
use Rattle.std.specs.Fmt.{digits}
use lib.Utf8.{encode}
use Rattle.tt_gc_rows.proofs.registry.makes_listing_of_none.Goals as goal

pub returns : goal.returns
unfolding number_at within_at truth_at fixed_at before_zero text_at items_at marked_at is_text is_utf8 chars encode digits
returns c = refl
