use Rattle.std.proofs.Common.{sym, ap, ◌∙◌}
use Rattle.std.specs.Prelude.{option_map}
use Rattle.tt_gc_table.specs.Table.{Table, connection_of}
use Rattle.tt_gc_table.specs.Lines.{seen}
use Rattle.tt_gc_table.proofs.LinesLaws.{found_live}
use Rattle.tt_gc_table.proofs.parts.Parts.connection.Goals as goal

pub returns-in-Some : goal.returns-in-Some
returns-in-Some c =
    ap (option_map (seen c.args.conn)) (sym c.in-Some.is ∙ c.get.ensures) ∙ sym (found_live c.args.conn c.self.inside.lines.lines)
    ∙ ap (λ (t : Table). connection_of t c.args.conn) c.self.view_is

pub returns-in-None : goal.returns-in-None
returns-in-None c =
    ap (option_map (seen c.args.conn)) (sym c.in-None.is ∙ c.get.ensures) ∙ sym (found_live c.args.conn c.self.inside.lines.lines)
    ∙ ap (λ (t : Table). connection_of t c.args.conn) c.self.view_is
