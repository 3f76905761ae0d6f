use Rattle.std.proofs.Common.{◌≤◌, ◌++◌, ℕ, List, sym, ap, subst, arith, ◌∙◌}
use Rattle.tt_game.specs.declared.message.GameMsg.TheVariants as games
use Rattle.tt_admin.specs.declared.message.AdminMsg.TheVariants as admins
use Rattle.tt_log.specs.Deed.{game, admin, spelled}
use Rattle.tt_outgoing.specs.Staging.{MayBeTold}
use Rattle.tt_outgoing.specs.Waiting.{list_of, opened, told}
use Rattle.tt_hub.proofs.Deliveries.{ended-told, may-end}
use Rattle.tt_hub.proofs.delivering.deliver.Goals as goal

pub share-requires-clause-opened : goal.share-requires-clause-opened
share-requires-clause-opened c =
    let may = (may-end (opened c.args.outs.now) c.args.staged.now c.args.ends.now c.requires.each).members in
    (subst (λ (n : ℕ). MayBeTold n c.members.result.now) (sym c.deliver.ensures.opened)
    (subst (λ (l : List ℕ). MayBeTold (opened c.args.outs.now) l) (sym c.members.ensures.members) may)).opened

pub share-requires-clause-distinct : goal.share-requires-clause-distinct
share-requires-clause-distinct c =
    let may = (may-end (opened c.args.outs.now) c.args.staged.now c.args.ends.now c.requires.each).members in
    (subst (λ (l : List ℕ). MayBeTold (opened c.args.outs.now) l) (sym c.members.ensures.members) may).distinct

pub share-requires-2-clause-opened : goal.share-requires-2-clause-opened
share-requires-2-clause-opened c =
    let may = (may-end (opened c.args.outs.now) c.args.staged.now c.args.ends.now c.requires.each).admins in
    (subst (λ (n : ℕ). MayBeTold n c.admins.result.now) (sym (c.share.ensures.opened ∙ c.deliver.ensures.opened))
    (subst (λ (l : List ℕ). MayBeTold (opened c.args.outs.now) l) (sym c.admins.ensures.admins) may)).opened

pub share-requires-2-clause-distinct : goal.share-requires-2-clause-distinct
share-requires-2-clause-distinct c =
    let may = (may-end (opened c.args.outs.now) c.args.staged.now c.args.ends.now c.requires.each).admins in
    (subst (λ (l : List ℕ). MayBeTold (opened c.args.outs.now) l) (sym c.admins.ensures.admins) may).distinct

pub returns-clause-told : goal.returns-clause-told
returns-clause-told c conn low high =
    let ends = c.args.ends.now in
    let packets = c.args.staged.now in
    let may = may-end (opened c.args.outs.now) packets ends c.requires.each in
    let opened-1 = c.deliver.ensures.opened in
    let opened-2 = c.share.ensures.opened in
    let in-1 : conn ≤ opened c.deliver.new.outs = omega (arith, high, opened-1) in
    let in-2 : conn ≤ opened c.share.new.self = omega (arith, high, opened-1, opened-2) in
    ended-told conn (list_of c.args.outs.now conn) (list_of c.deliver.new.outs conn) (list_of c.share.new.self conn)
    (list_of c.share-2.new.self conn) packets ends may.members.distinct may.admins.distinct
    (c.deliver.ensures.told conn low high)
    (c.share.ensures.told conn low in-1 ∙ ap (λ (l : List ℕ). list_of c.deliver.new.outs conn
    ++ told l conn (spelled (game games.ServerShutdown))) c.members.ensures.members)
    (c.share-2.ensures.told conn low in-2 ∙ ap (λ (l : List ℕ). list_of c.share.new.self conn
    ++ told l conn (spelled (admin admins.ServerShutdown))) c.admins.ensures.admins)
