use Rattle.std.specs.Prelude.{IsSome, IfSome}
use Rattle.std.proofs.Common.{◌≡◌, sym, ap, subst, ◌∙◌, ◌≤ℤ◌, ◌+ℤ◌, pos}
use Rattle.tt_world.specs.World.{company_of}
use Rattle.tt_world.specs.Sound.{most_money}
use Rattle.tt_world.specs.Commands.{poorer}
use Rattle.tt_world.proofs.CommandLaws.{gift_allowed, other_place}
use Rattle.tt_world.proofs.world.World.give.Goals as goal

pub pay_out-requires : goal.pay_out-requires
pay_out-requires c =
    let gift = gift_allowed c.args.from c.args.to c.args.number (company_of c.args.self.now c.args.to) (company_of c.args.self.now
    c.args.from) c.requires in
    record { live = gift.giver_live; own = gift.own }

pub pay_in-requires : goal.pay_in-requires
pay_in-requires c =
    let gift = gift_allowed c.args.from c.args.to c.args.number (company_of c.args.self.now c.args.to) (company_of c.args.self.now
    c.args.from) c.requires in
    let same : company_of c.pay_out.new.self c.args.to ≡ company_of c.args.self.now c.args.to
    = ap (λ w. company_of w c.args.to) c.pay_out.ensures ∙ other_place c.args.self.now c.args.from c.args.to (poorer c.args.number)
    gift.apart in
    record {
      live = subst (λ o. IsSome o) (sym same) gift.receiver_live;
      room = subst (λ o. IfSome o (λ d. (d.money +ℤ pos c.args.number) ≤ℤ pos most_money)) (sym same) gift.room;
    }
