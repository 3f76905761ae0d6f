use Rattle.std.proofs.Common.{◌≡◌, ℕ, ◌-◌, ◌<◌, true, not, List, length, sym, ap, ap₂, ◌∙◌, subst}
use Rattle.std.specs.Prelude.{is_some, filter}
use Rattle.std.proofs.lemmas.List.{length-set}
use Rattle.tt_gc_table.specs.contracts.parts.Parts.{the_view}
use Rattle.tt_gc_table.specs.declared.lines.Line.{Line}
use Rattle.tt_gc_table.specs.Table.{Table, Connection, Server, Drawn, connection_of, is_on, is_servers}
use Rattle.tt_gc_table.specs.Registry.{servers_of, drawn_of}
use Rattle.tt_gc_table.specs.Lines.{line_of, connections_of, gone}
use Rattle.tt_gc_table.specs.Parts.{IsServing, without_connection}
use Rattle.tt_gc_table.proofs.PartsLaws.{line_live, ended, serving_ended, without_its_code, without_no_code}
use Rattle.tt_gc_table.proofs.parts.Parts.end.Goals as goal

pub end-requires : goal.end-requires
end-requires c = record {
  live = line_live c.self.inside.lines.lines c.args.conn (ap (λ (t : Table). is_some (connection_of t c.args.conn)) c.self.view_is
      ∙ c.requires.there);
}

pub invariant_of-self : goal.invariant_of-self
invariant_of-self c =
    let ls : List Line = c.self.inside.lines.lines in
    let vs : List Server = servers_of c.self.inside.registry in
    let live : (line_of ls c.args.conn).live ≡ true =
    line_live ls c.args.conn (ap (λ (t : Table). is_some (connection_of t c.args.conn)) c.self.view_is ∙ c.requires.there) in
    let kept : servers_of c.self.inside.registry ≡ filter (λ v. not (is_servers c.args.conn v)) vs =
    without_no_code ls vs c.args.conn c.self.invariant.0 (sym c.code.ensures ∙ c.in_default.is) in (
      subst (λ (us : List Server). IsServing c.end.new.self.lines us) (sym kept) (subst (λ (l : List Line). IsServing l
          (filter (λ v. not (is_servers c.args.conn v)) vs)) (sym c.end.ensures.lines) (serving_ended ls vs c.args.conn live
          c.self.invariant.0)),
      c.self.invariant.1,
      subst (λ (n : ℕ). n < 4294967296) (sym (ap length c.end.ensures.lines ∙ length-set ls (c.args.conn - 1)
          (gone (line_of ls c.args.conn)))) c.self.invariant.2,
    )

pub returns-in_default : goal.returns-in_default
returns-in_default c =
    let t : Table = the_view c.self.inside in
    let ls : List Line = c.self.inside.lines.lines in
    let vs : List Server = servers_of c.self.inside.registry in
    let live : (line_of ls c.args.conn).live ≡ true =
    line_live ls c.args.conn (ap (λ (t : Table). is_some (connection_of t c.args.conn)) c.self.view_is ∙ c.requires.there) in
    let kept : servers_of c.self.inside.registry ≡ filter (λ v. not (is_servers c.args.conn v)) vs =
    without_no_code ls vs c.args.conn c.self.invariant.0 (sym c.code.ensures ∙ c.in_default.is) in
    ap₂ (λ (cs : List Connection) (n : ℕ). record t { connections = cs; openings = n; servers = vs })
    (ap connections_of c.end.ensures.lines ∙ ended ls c.args.conn live)
    (ap length c.end.ensures.lines ∙ length-set ls (c.args.conn - 1) (gone (line_of ls c.args.conn)))
    ∙ ap (λ (us : List Server). record t { connections = filter (λ x. not (is_on c.args.conn x)) t.connections; servers = us }) kept
    ∙ ap (without_connection c.args.conn) c.self.view_is

pub end-requires-2 : goal.end-requires-2
end-requires-2 c = record {
  live = line_live c.self.inside.lines.lines c.args.conn (ap (λ (t : Table). is_some (connection_of t c.args.conn)) c.self.view_is
      ∙ c.requires.there);
}

pub invariant_of-self-2 : goal.invariant_of-self-2
invariant_of-self-2 c =
    let ls : List Line = c.self.inside.lines.lines in
    let vs : List Server = servers_of c.self.inside.registry in
    let live : (line_of ls c.args.conn).live ≡ true =
    line_live ls c.args.conn (ap (λ (t : Table). is_some (connection_of t c.args.conn)) c.self.view_is ∙ c.requires.there) in
    let kept : servers_of c.leave.new.self ≡ filter (λ v. not (is_servers c.args.conn v)) vs =
    c.leave.ensures.servers ∙ without_its_code ls vs c.args.conn c.in-Some.code c.self.invariant.0 (sym c.code.ensures ∙ c.in-Some.is) in (
      subst (λ (us : List Server). IsServing c.end-2.new.self.lines us) (sym kept) (subst (λ (l : List Line). IsServing l
          (filter (λ v. not (is_servers c.args.conn v)) vs)) (sym c.end-2.ensures.lines) (serving_ended ls vs c.args.conn live
          c.self.invariant.0)),
      c.self.invariant.1,
      subst (λ (n : ℕ). n < 4294967296) (sym (ap length c.end-2.ensures.lines ∙ length-set ls (c.args.conn - 1)
          (gone (line_of ls c.args.conn)))) c.self.invariant.2,
    )

pub returns : goal.returns
returns c =
    let t : Table = the_view c.self.inside in
    let ls : List Line = c.self.inside.lines.lines in
    let vs : List Server = servers_of c.self.inside.registry in
    let live : (line_of ls c.args.conn).live ≡ true =
    line_live ls c.args.conn (ap (λ (t : Table). is_some (connection_of t c.args.conn)) c.self.view_is ∙ c.requires.there) in
    let kept : servers_of c.leave.new.self ≡ filter (λ v. not (is_servers c.args.conn v)) vs =
    c.leave.ensures.servers ∙ without_its_code ls vs c.args.conn c.in-Some.code c.self.invariant.0 (sym c.code.ensures ∙ c.in-Some.is) in
    ap₂ (λ (cs : List Connection) (n : ℕ). record t {
      connections = cs;
      openings = n;
      servers = servers_of c.leave.new.self;
      drawn = drawn_of c.leave.new.self;
    }) (ap connections_of c.end-2.ensures.lines ∙ ended ls c.args.conn live)
    (ap length c.end-2.ensures.lines ∙ length-set ls (c.args.conn - 1) (gone (line_of ls c.args.conn)))
    ∙ ap₂ (λ (us : List Server) (ds : List Drawn). record t {
      connections = filter (λ x. not (is_on c.args.conn x)) t.connections;
      servers = us;
      drawn = ds;
    }) kept c.leave.ensures.drawn ∙ ap (without_connection c.args.conn) c.self.view_is
