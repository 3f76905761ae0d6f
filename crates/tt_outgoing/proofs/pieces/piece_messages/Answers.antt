use Rattle.std.proofs.Common.{◌∙◌, ◌++◌, Bool, List, [], ◌∷◌, ap, sym}
use Rattle.std.specs.Prelude.{if◌then◌else◌}
use Rattle.std.proofs.lemmas.List.{append-nil}
use Rattle.tt_game.specs.declared.message.GameMsg.{GameMsg}
use Rattle.tt_game.specs.declared.message.GameMsg.TheVariants.{ServerMapDone}
use Rattle.tt_outgoing.proofs.PieceLists.{pieces_all}
use Rattle.tt_outgoing.proofs.pieces.piece_messages.Goals as goal

pub returns-then-more : goal.returns-then-more
returns-then-more c =
    let list : List GameMsg = c.in_ok-messages.messages.items in
    let same = ap (λ (b : Bool). list ++ (if b then [] else ServerMapDone ∷ [])) (sym c.if-more.true) in record {
      pieces = λ left next_is more_is.
          pieces_all c.args.next.now left c.args.more list list c.in_ok-messages.ensures.pieces next_is more_is (sym (append-nil list) ∙
          same);
    }

pub returns : goal.returns
returns c =
    let list : List GameMsg = c.in_ok-messages.messages.items in
    let same = ap (λ (b : Bool). list ++ (if b then [] else ServerMapDone ∷ [])) (sym c.if-more.false) in record {
      pieces = λ left next_is more_is.
          pieces_all c.args.next.now left c.args.more list c.push.new.self.items c.in_ok-messages.ensures.pieces next_is more_is
          (c.in_ok-push.ensures.items ∙ same);
    }
