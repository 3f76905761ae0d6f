use Rattle.std.proofs.Common.{ap, ◌∙◌}
use Rattle.std.specs.Prelude.{is_some}
use Rattle.tt_gc_table.specs.Table.{Table, server_on}
use Rattle.tt_gc_table.specs.Registry.{servers_of}
use Rattle.tt_gc_table.proofs.Serving.{is_registered}
use Rattle.tt_gc_table.proofs.parts.Parts.is_server.Goals as goal

pub returns : goal.returns
returns c =
    c.is_some.ensures ∙ ap is_some c.code.ensures
    ∙ is_registered c.self.inside.lines.lines (servers_of c.self.inside.registry) c.args.conn c.self.invariant.0
    ∙ ap (λ (t : Table). is_some (server_on t c.args.conn)) c.self.view_is
