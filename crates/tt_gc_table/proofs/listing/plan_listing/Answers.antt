use Rattle.std.proofs.Common.{◌∷◌, [], ◌++◌, ℕ, List, sym, ap, ◌∙◌, append_assoc}
use Rattle.std.specs.Prelude.{filter}
use Rattle.tt_coord.specs.declared.coord.CoordMsg.{CoordMsg}
use Rattle.tt_coord.specs.declared.coord.CoordMsg.TheVariants.{GcListing}
use Rattle.tt_gc_table.specs.Table.{Table, Server}
use Rattle.tt_gc_table.specs.Deed.{Step, each, tells}
use Rattle.tt_gc_table.specs.Told.{bytes_to}
use Rattle.tt_gc_table.specs.Tells.{told_to}
use Rattle.tt_gc_table.specs.PacketRules.{tells_server, is_listed}
use Rattle.tt_gc_table.proofs.ListedLaws.{all_table}
use Rattle.tt_gc_table.proofs.TellsLaws.{bytes_joined}
use Rattle.tt_gc_table.proofs.listing.plan_listing.Goals as goal

pub returns : goal.returns
returns c = record {
  told = λ x.
      let t : Table = c.args.parts.now in
      let vs : List Server = filter (is_listed c.args.revision.now) t.servers in
      let rows : List Step = (each vs (tells_server c.args.conn) t).told in
      let last : Table → List Step = λ u. (tells (c.args.conn ∷ []) (GcListing []) u).told in
      c.in_ok-tell.ensures.told x
      ∙ ap (λ (m : CoordMsg). told_to x c.tell_listed.new.out ++ bytes_to x (tells (c.args.conn ∷ []) m t).told)
      c.last_of_listing-message.ensures
      ∙ ap (λ (xs : List ℕ). xs ++ bytes_to x (last t)) (c.in_ok-tell_listed.ensures.told x)
      ∙ append_assoc (told_to x c.args.out.now) (bytes_to x rows) (bytes_to x (last t))
      ∙ ap (λ (xs : List ℕ). told_to x c.args.out.now ++ xs) (sym (bytes_joined x rows
      (last (each vs (tells_server c.args.conn) t).table)
      ∙ ap (λ (u : Table). bytes_to x rows ++ bytes_to x (last u)) (all_table c.args.conn vs t)));
}
