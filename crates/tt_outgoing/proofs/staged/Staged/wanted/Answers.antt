use Rattle.std.proofs.Common.{◌∙◌, ap, sym}
use Rattle.tt_outgoing.specs.Staging.{bytes_in, parts_in}
use Rattle.tt_outgoing.proofs.CutUp.{bytes_are_in, parts_are_in}
use Rattle.tt_outgoing.proofs.staged.Staged.wanted.Goals as goal

pub returns-clause-bytes : goal.returns-clause-bytes
returns-clause-bytes c =
    let s = c.self.inside in
    c.len.ensures ∙ s.bytes.ok.0 ∙ sym (bytes_are_in s.cuts.items s.conns.items s.bytes.items c.self.invariant) ∙ ap bytes_in c.self.view_is

pub returns-clause-parts : goal.returns-clause-parts
returns-clause-parts c =
    let s = c.self.inside in
    c.len-2.ensures ∙ s.conns.ok.0 ∙ sym (parts_are_in s.cuts.items s.conns.items s.bytes.items c.self.invariant) ∙ ap parts_in
    c.self.view_is
