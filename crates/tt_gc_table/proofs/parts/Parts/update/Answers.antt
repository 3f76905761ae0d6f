use Rattle.std.proofs.Common.{List, Some, refl, sym, ap, ap₂, ◌∙◌, subst}
use Rattle.std.specs.Str.{bytes_eq}
use Rattle.tt_gc_table.specs.contracts.parts.Parts.{the_view}
use Rattle.tt_gc_table.specs.declared.lines.Line.{Line}
use Rattle.tt_gc_table.specs.Table.{Table, Server, Drawn, with_info}
use Rattle.tt_gc_table.specs.Registry.{servers_of}
use Rattle.tt_gc_table.specs.Parts.{IsServing}
use Rattle.tt_gc_table.proofs.Serving.{serving_changed}
use Rattle.tt_gc_table.proofs.PartsLaws.{by_its_code, by_no_code}
use Rattle.tt_gc_table.proofs.parts.Parts.update.Goals as goal

pub invariant_of-self : goal.invariant_of-self
invariant_of-self c =
    let change : Server → Server = λ v. record v { info = Some c.args.info } in (
      subst (IsServing c.self.inside.lines.lines) (sym c.update.ensures.servers) (serving_changed c.self.inside.lines.lines
          (servers_of c.self.inside.registry) (λ (v : Server). bytes_eq c.in-Some.code v.code) change c.self.invariant.0 (λ v. refl)
          (λ v. refl)),
      c.self.invariant.1,
      c.self.invariant.2,
    )

pub returns-in-Some : goal.returns-in-Some
returns-in-Some c =
    let t : Table = the_view c.self.inside in
    let ls : List Line = c.self.inside.lines.lines in
    let vs : List Server = servers_of c.self.inside.registry in
    let change : Server → Server = λ v. record v { info = Some c.args.info } in
    ap₂ (λ (us : List Server) (ds : List Drawn). record t { servers = us; drawn = ds })
    (c.update.ensures.servers ∙ by_its_code ls vs c.args.conn c.in-Some.code change c.self.invariant.0 (sym c.code.ensures ∙ c.in-Some.is))
    c.update.ensures.drawn ∙ ap (with_info c.args.conn c.args.info) c.self.view_is

pub returns-in_default : goal.returns-in_default
returns-in_default c =
    let t : Table = the_view c.self.inside in
    let ls : List Line = c.self.inside.lines.lines in
    let vs : List Server = servers_of c.self.inside.registry in
    let change : Server → Server = λ v. record v { info = Some c.args.info } in
    sym c.self.view_is ∙ ap (λ (us : List Server). record t { servers = us })
    (by_no_code ls vs c.args.conn change c.self.invariant.0 (sym c.code.ensures ∙ c.in_default.is))
    ∙ ap (with_info c.args.conn c.args.info) c.self.view_is
