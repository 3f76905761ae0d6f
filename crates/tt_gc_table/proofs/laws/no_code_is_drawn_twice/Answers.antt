use Rattle.tt_gc_table.proofs.CodesLaws.{one_holder, none_undrawn}
use Rattle.tt_gc_table.proofs.Counting.{new_is_undrawn, drawn_once}
use Rattle.tt_gc_table.proofs.laws.no_code_is_drawn_twice.Goals as goal

pub returns : goal.returns
returns c = record {
  new = new_is_undrawn;
  once = drawn_once;
  one_server = λ s es code few. one_holder s es code (drawn_once s es few);
  drawn = λ s es code few. none_undrawn s es code (drawn_once s es few);
}
