use Rattle.std.proofs.Common.{◌∙◌, ◌++◌, ◌∷◌, [], ap, sym, arith, length}
use Rattle.std.proofs.lemmas.Bool.{eqb-false}
use Rattle.tt_game.specs.declared.message.GameMsg.{GameMsg}
use Rattle.tt_outgoing.proofs.PieceLists.{data_all, data_step}
use Rattle.tt_outgoing.proofs.pieces.data_messages.Goals as goal

pub loop-i-preserved : goal.loop-i-preserved
loop-i-preserved c =
    let l = c.loop-i in
    data_step c.args.bytes.now l.rest.now c.split_at.result.0.now c.split_at.result.1.now l.messages.items c.push.new.self.items l.i
    c.min-size.result l.invariant c.loop-i-test.true (eqb-false (length l.rest.now) 0 (sym c.is_empty.ensures ∙ c.if-is_empty.false))
    c.min-size.ensures c.split_at.ensures.front c.split_at.ensures.back
    (c.in_ok-push.ensures.items ∙ ap (λ (m : GameMsg). l.messages.items ++ m ∷ []) c.in_ok-piece_of.ensures.piece)

pub returns : goal.returns
returns c =
    let l = c.loop-i in record {
      pieces = data_all c.args.bytes.now l.rest.now l.messages.items l.i l.invariant (omega (arith, c.loop-i-test.false));
    }
