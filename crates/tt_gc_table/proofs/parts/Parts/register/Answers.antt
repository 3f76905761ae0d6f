use Rattle.std.proofs.Common.{◌≡◌, ℕ, ◌-◌, ◌<◌, ◌∷◌, [], ◌++◌, true, map, List, None, length, refl, sym, ap, ap₂, ◌∙◌}
use Rattle.std.proofs.Common.{subst}
use Rattle.std.specs.Prelude.{is_some, find}
use Rattle.std.specs.Str.{bytes_eq}
use Rattle.std.proofs.lemmas.List.{length-set}
use Rattle.tt_gc_table.specs.contracts.parts.Parts.{the_view}
use Rattle.tt_gc_table.specs.declared.lines.Line.{Line}
use Rattle.tt_gc_table.specs.Table.{Table, Connection, Server, Drawn, connection_of, server_on, server_by}
use Rattle.tt_gc_table.specs.Registry.{servers_of, drawn_of, server_at, drawn_at}
use Rattle.tt_gc_table.specs.Lines.{line_of, connections_of, coded, code_at}
use Rattle.tt_gc_table.specs.Parts.{IsServing, registered}
use Rattle.tt_gc_table.proofs.Serving.{is_registered}
use Rattle.tt_gc_table.proofs.PartsLaws.{line_live, registered as line_registered, serving_registered, none_of}
use Rattle.tt_gc_table.proofs.parts.Parts.register.Goals as goal

pub register-requires : goal.register-requires
register-requires c = record {
  live = line_live c.self.inside.lines.lines c.args.conn (ap (λ (t : Table). is_some (connection_of t c.args.conn)) c.self.view_is
      ∙ c.requires.there);
}

pub invariant_of-self-2 : goal.invariant_of-self-2
invariant_of-self-2 c =
    let ls : List Line = c.self.inside.lines.lines in
    let vs : List Server = servers_of c.self.inside.registry in
    let w : Server = record { conn = c.args.conn; code = c.args.code; kind = c.args.kind; port = c.args.port; info = None } in
    let live : (line_of ls c.args.conn).live ≡ true =
    line_live ls c.args.conn (ap (λ (t : Table). is_some (connection_of t c.args.conn)) c.self.view_is ∙ c.requires.there) in
    let fresh : code_at ls c.args.conn ≡ None = none_of (code_at ls c.args.conn) (is_registered ls vs c.args.conn c.self.invariant.0
    ∙ ap (λ (t : Table). is_some (server_on t c.args.conn)) c.self.view_is ∙ c.requires.unregistered) in
    let free : find (λ (v : Server). bytes_eq c.args.code v.code) vs ≡ None =
    none_of (find (λ (v : Server). bytes_eq c.args.code v.code) vs) (ap (λ (t : Table). is_some (server_by t c.args.code)) c.self.view_is
    ∙ c.requires.free) in
    let servers : servers_of c.register-2.new.self ≡ vs ++ w ∷ [] =
    c.register-2.ensures.servers ∙ ap (λ es. map server_at es ++ w ∷ []) c.in_ok-reserve.ensures.same.servers in (
      subst (λ (us : List Server). IsServing c.register.new.self.lines us) (sym servers) (subst (λ (l : List Line).
          IsServing l (vs ++ w ∷ [])) (sym c.register.ensures.lines) (serving_registered ls vs c.args.conn w live c.self.invariant.0 fresh
          free refl)),
      c.self.invariant.1,
      subst (λ (n : ℕ). n < 4294967296) (sym (ap length c.register.ensures.lines ∙ length-set ls (c.args.conn - 1)
          (coded c.args.code (line_of ls c.args.conn)))) c.self.invariant.2,
    )

pub returns-clause-ok : goal.returns-clause-ok
returns-clause-ok c =
    let t : Table = the_view c.self.inside in
    let ls : List Line = c.self.inside.lines.lines in
    let vs : List Server = servers_of c.self.inside.registry in
    let w : Server = record { conn = c.args.conn; code = c.args.code; kind = c.args.kind; port = c.args.port; info = None } in
    let live : (line_of ls c.args.conn).live ≡ true =
    line_live ls c.args.conn (ap (λ (t : Table). is_some (connection_of t c.args.conn)) c.self.view_is ∙ c.requires.there) in
    let servers : servers_of c.register-2.new.self ≡ vs ++ w ∷ [] =
    c.register-2.ensures.servers ∙ ap (λ es. map server_at es ++ w ∷ []) c.in_ok-reserve.ensures.same.servers in
    ap₂ (λ (cs : List Connection) (n : ℕ). record t {
      connections = cs;
      openings = n;
      servers = servers_of c.register-2.new.self;
      drawn = drawn_of c.register-2.new.self;
    }) (ap connections_of c.register.ensures.lines ∙ line_registered ls c.args.conn c.args.code live)
    (ap length c.register.ensures.lines ∙ length-set ls (c.args.conn - 1) (coded c.args.code (line_of ls c.args.conn)))
    ∙ ap₂ (λ (us : List Server) (ds : List Drawn). record t { servers = us; drawn = ds }) servers
    (c.register-2.ensures.drawn ∙ ap (map drawn_at) c.in_ok-reserve.ensures.same.drawn)
    ∙ ap (registered c.args.conn c.args.code c.args.kind c.args.port) c.self.view_is
