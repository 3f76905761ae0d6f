use Rattle.tt_in_step.proofs.Bans.{never-banned}
use Rattle.tt_in_step.proofs.nobody_is_told_a_ban.Goals as goal

pub returns : goal.returns
returns c = record { never = λ o es e conn front later is. never-banned o es e conn front later is }
