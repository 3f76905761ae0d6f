use Rattle.tt_world.proofs.FoundLaws.{IsName-president}
use Rattle.tt_world.proofs.founding.new_company.Goals as goal

pub name_of-requires : goal.name_of-requires
name_of-requires c = IsName-president
