use Rattle.std.proofs.Common.{ap, sym, ◌∙◌, ◌≡◌, true, refl, rules, subst}
use Rattle.tt_admin_desk.specs.declared.heard.Heard.{Heard}
use Rattle.tt_members.specs.Crew.{Crew}
use Rattle.tt_table.specs.Coming.{IsHeard, is_own}
use Rattle.tt_table.specs.Held.{table}
use Rattle.tt_table.proofs.Admins.{aside_room, own_change, say_change}
use Rattle.tt_table.proofs.Inputs.{some_admin}
use Rattle.tt_table.proofs.Oks.{ok_then}
use Rattle.tt_table.proofs.Playing.{seen}
use Rattle.tt_table.proofs.game.Game.plan_heard.Goals as goal

pub returns-in-Say-clause-change : goal.returns-in-Say-clause-change
returns-in-Say-clause-change c =
    let g = c.args.self.now in
    let a = some_admin _ c.requires.there in
    ok_then c.plan_input.result _ _ c.plan_input.ensures.planned (λ x plan e heard.
    say_change g.origin e (table g) c.args.conn c.in-Say.scope c.in-Say.to c.in-Say.text x a.0 a.1
    (subst (λ (h : Heard). IsHeard g.origin (table g) e c.args.conn h) c.in-Say.is heard) plan)

pub returns-in_default : goal.returns-in_default
returns-in_default c =
    let g = c.args.self.now in
    let s = (seen _ _ _ _ _ _ c.self.invariant.0 c.self.view_is) in
    let own : is_own c.args.heard ≡ true = search rules in
    let a = some_admin _ c.requires.there in
    let members = sym (c.all.ensures.all ∙ ap (λ (x : Crew). x.members) (s.game.held.alive c.requires.going).crew) in
    record {
      origin = refl;
      events = refl;
      change = ok_then c.plan_own.result _ _ c.plan_own.ensures.aside (λ x aside e heard.
          own_change g.origin e (table g) c.args.conn c.args.heard x a.0 a.1 own heard (aside (table g) members));
      room = ok_then c.plan_own.result _ _ c.plan_own.ensures.aside (λ x aside.
          aside_room g _ _ _ x (aside (table g) members) c.requires.spare c.requires.few);
    }
