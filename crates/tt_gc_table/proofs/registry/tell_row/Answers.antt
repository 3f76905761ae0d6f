use Rattle.std.proofs.Common.{◌∷◌, [], ◌++◌, cond, Bool, List, Option, sym, ap, ◌∙◌}
use Rattle.std.proofs.lemmas.List.{append-nil}
use Rattle.tt_coord.specs.declared.info.Info.{Info}
use Rattle.tt_coord.specs.declared.coord.CoordMsg.{CoordMsg}
use Rattle.tt_coord.specs.declared.coord.CoordMsg.TheVariants.{GcListing}
use Rattle.tt_gc_table.specs.Table.{Table, Server}
use Rattle.tt_gc_table.specs.Deed.{Step, each, given, tells}
use Rattle.tt_gc_table.specs.Told.{bytes_to}
use Rattle.tt_gc_table.specs.Tells.{told_to}
use Rattle.tt_gc_table.specs.Registry.{server_at}
use Rattle.tt_gc_table.specs.PacketRules.{tells_server, listed_item}
use Rattle.tt_gc_table.proofs.registry.tell_row.Goals as goal

pub returns-then-not-is_listed : goal.returns-then-not-is_listed
returns-then-not-is_listed c = record {
  told = λ x.
      let t : Table = c.args.parts.now in
      let v : Server = server_at (c.args.code.now, c.args.served.now) in
      sym (append-nil (told_to x c.args.out.now))
      ∙ ap (λ (b : Bool). told_to x c.args.out.now ++ bytes_to x (each (cond b (v ∷ []) []) (tells_server c.args.conn) t).told)
      (sym (c.is_listed.ensures c.args.code.now ∙ c.if-not-is_listed.true));
}

pub returns : goal.returns
returns c = record {
  told = λ x.
      let t : Table = c.args.parts.now in
      let v : Server = server_at (c.args.code.now, c.args.served.now) in
      let said : Option Info → List Step =
      λ o. (given o (λ info. tells (c.args.conn ∷ []) (GcListing (listed_item v.code info ∷ []))) t).told in
      c.in_ok-tell.ensures.told x
      ∙ ap (λ (m : CoordMsg). told_to x c.args.out.now ++ bytes_to x (tells (c.args.conn ∷ []) m t).told) c.in_ok-message.ensures
      ∙ ap (λ (o : Option Info). told_to x c.args.out.now ++ bytes_to x (said o)) (sym c.in-Some.is)
      ∙ ap (λ (d : List Step). told_to x c.args.out.now ++ bytes_to x d) (sym (append-nil (said v.info)))
      ∙ ap (λ (b : Bool). told_to x c.args.out.now ++ bytes_to x (each (cond b (v ∷ []) []) (tells_server c.args.conn) t).told)
      (sym (c.is_listed.ensures c.args.code.now ∙ c.if-not-is_listed.false));
}
