use Rattle.std.proofs.Common.{◌∷◌, [], ◌++◌, ℕ, cond, map, Bool, List, sym, ap, ◌∙◌, append_assoc}
use Rattle.std.specs.Prelude.{filter}
use Rattle.tt_gc_table.specs.Table.{Table, Server}
use Rattle.tt_gc_table.specs.Deed.{each}
use Rattle.tt_gc_table.specs.Told.{bytes_to}
use Rattle.tt_gc_table.specs.Tells.{told_to}
use Rattle.tt_gc_table.specs.Registry.{server_at}
use Rattle.tt_gc_table.specs.PacketRules.{tells_server, is_listed}
use Rattle.tt_gc_table.proofs.ListedLaws.{listed_more}
use Rattle.tt_gc_table.proofs.registry.Registry.tell_listed.Goals as goal

pub loop-code-preserved : goal.loop-code-preserved
loop-code-preserved c = λ x.
    let t : Table = c.args.parts.now in
    let p : Server → Bool = is_listed c.args.revision.now in
    let v : Server = server_at (c.in-Some.code.now, c.in-Some.served.now) in
    let rest : List Server = filter p (map server_at c.next.new.self) in
    let told : List Server → List ℕ = λ vs. bytes_to x (each vs (tells_server c.args.conn) t).told in
    ap (λ (xs : List ℕ). xs ++ told rest) (c.in_ok-tell_row.ensures.told x)
    ∙ append_assoc (told_to x c.loop-code.out) (told (cond (p v) (v ∷ []) [])) (told rest)
    ∙ ap (λ (xs : List ℕ). told_to x c.loop-code.out ++ xs) (sym (listed_more x c.args.conn (p v) v rest t))
    ∙ ap (λ es. told_to x c.loop-code.out ++ told (filter p (map server_at es))) (sym c.in-Some.ensures.steps)
    ∙ c.loop-code.invariant x
