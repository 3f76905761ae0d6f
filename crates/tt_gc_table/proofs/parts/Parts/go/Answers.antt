use Rattle.std.proofs.Common.{List, ap, ◌∙◌}
use Rattle.std.specs.Prelude.{find}
use Rattle.tt_gc_table.specs.Table.{Table, Server, is_servers}
use Rattle.tt_gc_table.specs.Ending.{goes}
use Rattle.tt_gc_table.proofs.LeavingLaws.{none_left}
use Rattle.tt_gc_table.proofs.PartsLaws.{none_of}
use Rattle.tt_gc_table.proofs.parts.Parts.go.Goals as goal

pub returns : goal.returns
returns c =
    let t : Table = c.args.self.now in
    c.end.ensures ∙ ap (λ (vs : List Server). record (goes c.args.conn t).table { servers = vs }) (none_left (is_servers c.args.conn)
    t.servers (none_of (find (is_servers c.args.conn) t.servers) c.requires.unregistered))
