use Rattle.std.proofs.Common.{◌≡◌, ℕ, ◌∷◌, [], ◌++◌, cond, List, sym, ap, ◌∙◌}
use Rattle.std.specs.Prelude.{eqb}
use Rattle.tt_gc_table.specs.Deed.{tells}
use Rattle.tt_gc_table.specs.Told.{spelled, bytes_to}
use Rattle.tt_gc_table.specs.Tells.{Tell, told_to}
use Rattle.tt_gc_table.proofs.TellsLaws.{told_push, tells_one}
use Rattle.tt_gc_table.proofs.tells.Tells.tell.Goals as goal

pub returns : goal.returns
returns c =
    let said : List ℕ = c.encode.new.out.items in
    let t : Tell = record { conn = c.args.conn; bytes = said } in
    let is : said ≡ spelled c.args.message.now =
    c.in_ok-encode.ensures.ok ∙ ap (λ (xs : List ℕ). xs ++ spelled c.args.message.now) c.new-bytes.ensures.items in
    record {
      told = λ x. ap (told_to x) c.in_ok-push.ensures.items ∙ told_push x c.self.inside.tells.items t
          ∙ ap (λ (xs : List ℕ). told_to x c.self.inside.tells.items ++ cond (eqb c.args.conn x) xs []) is
          ∙ ap (λ (xs : List ℕ). told_to x c.self.inside.tells.items ++ xs) (sym (tells_one x c.args.conn c.args.message.now
          c.args.parts.now (sym c.if-not-is_live.ensures)))
          ∙ ap (λ (ts : List Tell). told_to x ts ++ bytes_to x (tells (c.args.conn ∷ []) c.args.message.now c.args.parts.now).told)
          c.self.view_is;
    }
