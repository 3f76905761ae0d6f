use Rattle.tt_outgoing.proofs.Packets.{on_ok}
use Rattle.tt_outgoing.proofs.ReportLists.{economies_said, lines_said, stats_said}
use Rattle.tt_outgoing.proofs.staging.say_report.Goals as goal

pub returns-in-CompanyEconomy-clause-said : goal.returns-in-CompanyEconomy-clause-said
returns-in-CompanyEconomy-clause-said c =
    let tell = c.tell_companies-in-CompanyEconomy in
    on_ok tell.result (λ told o f at. economies_said o f c.args.from.now c.args.to.now c.args.report.now c.in-CompanyEconomy.id
    c.args.staged.now
    tell.new.staged c.in-CompanyEconomy.is at (told f.digests tt)) tell.ensures.told

pub returns-in-CompanyStats-clause-said : goal.returns-in-CompanyStats-clause-said
returns-in-CompanyStats-clause-said c =
    let tell = c.tell_companies-in-CompanyStats in
    on_ok tell.result (λ told o f at. stats_said o f c.args.from.now c.args.to.now c.args.report.now c.in-CompanyStats.id c.args.staged.now
    tell.new.staged c.in-CompanyStats.is at (told f.digests tt)) tell.ensures.told

pub returns-in-CompanyLines-clause-said : goal.returns-in-CompanyLines-clause-said
returns-in-CompanyLines-clause-said c =
    let tell = c.tell_companies-in-CompanyLines in
    on_ok tell.result (λ told o f at. lines_said o f c.args.from.now c.args.to.now c.args.report.now c.args.staged.now
    tell.new.staged c.in-CompanyLines.is at (told f.digests tt)) tell.ensures.told
