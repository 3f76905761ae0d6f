use Rattle.std.proofs.Common.{◌≡◌, ◌++◌, ◌∙◌, ℕ, ap, subst, length, take, drop, arith}
use Rattle.std.proofs.lemmas.List.{length-drop}
use Rattle.tt_map.specs.Layout.{map_of}
use Rattle.tt_map.specs.Writing.{Writing, unwritten, size_given, given}
use Rattle.tt_map.proofs.writer.MapWriter.write.Goals as goal

pub returns-clause-bytes : goal.returns-clause-bytes
returns-clause-bytes c =
    let inside = c.self.inside in
    let room = length c.args.out.now in
    let writing : Writing = record { world = inside.world; written = inside.cursor.written } in
    let count : c.write_on.result ≡ size_given room writing =
    omega (arith, c.write_on.ensures.count, length-drop inside.cursor.written (map_of inside.world)) in
    subst (λ (x : Writing). c.write_on.new.out ≡ given room x ++ drop c.write_on.result c.args.out.now) c.self.view_is
    (c.write_on.ensures.bytes ∙ ap (λ (n : ℕ). take n (unwritten writing) ++ drop c.write_on.result c.args.out.now) count)
