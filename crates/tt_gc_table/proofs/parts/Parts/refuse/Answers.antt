use Rattle.std.proofs.Common.{◌≡◌, ℕ, ◌∷◌, [], ◌++◌, List, length, refl, sym, ap, ap₂, ◌∙◌, arith, subst}
use Rattle.tt_gc_table.specs.declared.lines.Line.{Line}
use Rattle.tt_gc_table.specs.Table.{Table, Connection}
use Rattle.tt_gc_table.specs.Lines.{refused, connections_of}
use Rattle.tt_gc_table.specs.Registry.{servers_of}
use Rattle.tt_gc_table.specs.Parts.{IsServing, passed_over}
use Rattle.std.proofs.lemmas.List.{append-nil}
use Rattle.tt_gc_table.specs.contracts.parts.Parts.{the_view}
use Rattle.tt_gc_table.proofs.PartsLaws.{length_push}
use Rattle.tt_gc_table.proofs.LinesLaws.{pushed_live}
use Rattle.tt_gc_table.proofs.Serving.{serving_pushed}
use Rattle.tt_gc_table.proofs.parts.Parts.refuse.Goals as goal

pub invariant_of-self-2 : goal.invariant_of-self-2
invariant_of-self-2 c =
    let ls : List Line = c.self.inside.lines.lines in
    let now : c.refuse.new.self.lines ≡ ls ++ refused c.args.side c.args.peer ∷ [] =
    c.refuse.ensures ∙ ap (λ (l : List Line). l ++ refused c.args.side c.args.peer ∷ []) c.in_ok-reserve.ensures.same in (
      subst (λ (l : List Line). IsServing l (servers_of c.self.inside.registry)) (sym now) (serving_pushed ls
          (servers_of c.self.inside.registry) (refused c.args.side c.args.peer) c.self.invariant.0 refl),
      c.self.invariant.1,
      omega (
        arith,
        c.requires.few,
        ap (λ (t : Table). t.openings) c.self.view_is,
        ap length now,
        length_push ls (refused c.args.side
            c.args.peer),
      ),
    )

pub returns-clause-ok : goal.returns-clause-ok
returns-clause-ok c =
    let t : Table = the_view c.self.inside in
    let ls : List Line = c.self.inside.lines.lines in
    let line : Line = refused c.args.side c.args.peer in
    let now : c.refuse.new.self.lines ≡ ls ++ line ∷ [] =
    c.refuse.ensures ∙ ap (λ (l : List Line). l ++ line ∷ []) c.in_ok-reserve.ensures.same in
    ap₂ (λ (cs : List Connection) (n : ℕ). record t { connections = cs; openings = n })
    (ap connections_of now ∙ pushed_live line ls ∙ append-nil (connections_of ls))
    (ap length now ∙ length_push ls line) ∙ ap passed_over c.self.view_is
