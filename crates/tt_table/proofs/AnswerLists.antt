-- What is told of each of some members.
use Rattle.std.proofs.Common.{ℕ, List}
use Rattle.std.specs.Prelude.{filter, map}
use Rattle.tt_log.specs.declared.report.Report.{Report}
use Rattle.tt_log.specs.Console.{answer, client_line}
use Rattle.tt_log.specs.Member.{Member, is_welcomed}
use Rattle.tt_log.specs.Polls.{client_report, is_asked}

-- the reports on those that are welcomed and asked for, and the console's lines on those that are welcomed
abbrev pub clients_in : ℕ → List Member → List Report
clients_in id ms = map client_report (filter (λ m. is_asked id m.client) (filter is_welcomed ms))

abbrev pub lines_in : List Member → List Report
lines_in ms = map (λ m. answer (client_line m)) (filter is_welcomed ms)
