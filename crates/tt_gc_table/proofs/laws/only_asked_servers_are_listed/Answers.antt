use Rattle.tt_gc_table.proofs.ListingLaws.{listing_steps}
use Rattle.tt_gc_table.proofs.laws.only_asked_servers_are_listed.Goals as goal

pub returns : goal.returns
returns c = listing_steps
