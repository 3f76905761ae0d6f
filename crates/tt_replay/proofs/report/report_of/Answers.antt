use Rattle.std.proofs.Common.{◌≡◌, ◌∙◌, List, length, sym, ap, subst}
use Rattle.tt_edge.specs.Event.{opens}
use Rattle.tt_playing.specs.declared.play.Connection.{Connection}
use Rattle.tt_playing.specs.Attached.{client_in}
use Rattle.tt_replay.specs.Report.{clients_upto}
use Rattle.tt_replay.specs.Reporting.{AreToBeTold}
use Rattle.tt_replay.proofs.Reports.{report-joined, clients_are, to_be_told}
use Rattle.tt_replay.proofs.report.report_of.Goals as goal

pub put_connections-requires : goal.put_connections-requires
put_connections-requires c = let stands = c.requires.stands in
    record {
      to_be_told = subst (λ (cs : List Connection). AreToBeTold c.args.play.now.hub cs) (sym c.deref.ensures.value)
          (to_be_told stands.0 c.args.play.now stands.1 stands.2 c.requires.keeps);
    }

pub returns : goal.returns
returns c = record {
  text = λ o p at.
      let play = c.args.play.now in
      let hub = c.put_connections.new.hub in
      let count : length c.deref.result.now ≡ opens p.events = ap length c.deref.ensures.value ∙ at.count in
      report-joined o _ _ p _ _ _ _ _ _ _ _ _ _ _ _ _ _
      c.new-text.ensures.items c.in_ok-put_connections.ensures.text c.in_ok-put_journal.ensures.text c.in_ok-put_clients.ensures.text
      c.in_ok-put_standing.ensures.text
      c.in_ok-put_holdings.ensures.text c.in_ok-put_refused_if_any.ensures.text
      at.made c.put_connections.ensures.origin at.events c.put_connections.ensures.events count c.journal.ensures.journal
      (clients_are o play p hub (length play.connections.items) at ∙ ap (clients_upto (λ conn. client_in (p.clients conn))) at.count)
      c.world.ensures.world at.refused;
}
