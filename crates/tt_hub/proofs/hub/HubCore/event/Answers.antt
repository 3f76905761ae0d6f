use Rattle.std.proofs.Common.{◌≡◌, ◌≤◌, Bool, true, false, List, [], ◌∷◌, ◌++◌, length, refl, sym, ap, ap₂, subst, ◌∙◌, arith}
use Rattle.std.specs.Prelude.{Result, Ok, Err, IfErr}
use Rattle.std.specs.Result.{IsErrAnd}
use Rattle.tt_edge.specs.declared.machine.CoreErr.{CoreErr}
use Rattle.tt_edge.specs.declared.machine.CoreErr.TheVariants.{Memory}
use Rattle.tt_edge.specs.Core.{IsRefusal}
use Rattle.tt_edge.specs.declared.event.Event.{Event}
use Rattle.tt_edge.specs.Event.{conn_of, opens}
use Rattle.tt_log.specs.Events.{takes}
use Rattle.tt_log.specs.History.{table_of}
use Rattle.tt_log.specs.Origin.{Origin}
use Rattle.tt_outgoing.specs.Waiting.{opened}
use Rattle.tt_table.specs.Ending.{ended_admins, ended_members}
use Rattle.tt_table.specs.Held.{table}
use Rattle.tt_hub.specs.Hub as words
use Rattle.tt_hub.specs.Hub.{HubState, is_over, made_of}
use Rattle.tt_hub.proofs.About.{about-next, fresh-above, may-take, packets-may}
use Rattle.tt_hub.proofs.Few.{few-admins-told, few-members-told}
use Rattle.tt_hub.proofs.Running.{count-fresh, running-event, running-seated}
use Rattle.tt_hub.proofs.Seats.{taken-same}
use Rattle.tt_hub.proofs.hub.HubCore.event.Goals as goal

-- memory ran out
refused : {A : Type 0} (r : Result A CoreErr) (over takes : Bool) (P : Type 0) → IsErrAnd r (λ error. error ≡ Memory) → P → over ≡ false
    → takes ≡ true → IfErr r (λ error. P × IsRefusal over takes error)
refused (Ok x) over takes P is stays going names = tt
refused (Err error) over takes P is stays going names =
    subst (λ (bad : CoreErr). P × IsRefusal over takes bad) (sym is) (stays, (going, names))

pub returns-then-over-clause-err : goal.returns-then-over-clause-err
returns-then-over-clause-err c =
    (refl, ap (λ (h : HubState). is_over (made_of h) h.events) (sym c.self.view_is) ∙ sym c.over.ensures.over ∙ c.if-over.true)

pub returns-then-not-takes-clause-err : goal.returns-then-not-takes-clause-err
returns-then-not-takes-clause-err c = (
  refl,
  (
    ap (λ (h : HubState). is_over (made_of h) h.events) (sym c.self.view_is) ∙ sym c.over.ensures.over ∙ c.if-over.false,
    ap (λ (h : HubState). words.takes (made_of h) h.events c.args.event) (sym c.self.view_is) ∙ sym c.takes.ensures.names
        ∙ c.if-not-takes.true,
  ),
)

pub make_room-requires-clause-next : goal.make_room-requires-clause-next
make_room-requires-clause-next c =
    let hub = c.self.inside in
    let o = hub.game.origin in
    let es = hub.game.events in
    let e = c.args.event in
    let is : takes (table_of o es) e ≡ true = may-take (table_of o es) e (sym c.over.ensures.over ∙ c.if-over.false)
    (sym c.takes.ensures.names ∙ c.if-not-takes.false) in
    let next = about-next o es e is in
    let low = c.self.invariant.enough in
    let about = c.about-about.ensures.conn in omega (arith, next, low, about)

pub invariant_of-self-in_err-most : goal.invariant_of-self-in_err-most
invariant_of-self-in_err-most c =
    let hub = c.self.inside in
    running-seated hub.game c.planned.new.game hub.outs c.make_room.new.outs hub.counts.items c.make_room.new.counts.items hub.most
    c.planned.ensures.origin c.planned.ensures.events c.self.invariant c.make_room.ensures.seats

pub returns-in_err-most-clause-taken : goal.returns-in_err-most-clause-taken
returns-in_err-most-clause-taken c = λ conn.
    let hub = c.self.inside in
    taken-same hub.outs c.make_room.new.outs hub.counts.items c.make_room.new.counts.items c.self.invariant.counts_are
    c.make_room.ensures.seats conn ∙ ap (λ (h : HubState). words.taken h conn) c.self.view_is

pub returns-in_err-most-clause-err : goal.returns-in_err-most-clause-err
returns-in_err-most-clause-err c =
    let events = c.planned.ensures.events ∙ ap (λ (h : HubState). h.events) c.self.view_is in
    let going = ap (λ (h : HubState). is_over (made_of h) h.events) (sym c.self.view_is) ∙ sym c.over.ensures.over ∙ c.if-over.false in
    let names = ap (λ (h : HubState). words.takes (made_of h) h.events c.args.event) (sym c.self.view_is) ∙ sym c.takes.ensures.names
    ∙ c.if-not-takes.false in
    refused c.from_residual-in_err-most.result _ _ _ c.from_residual-in_err-most.ensures.1 events going names

pub invariant_of-self-in_err-put : goal.invariant_of-self-in_err-put
invariant_of-self-in_err-put c =
    let hub = c.self.inside in
    running-seated hub.game c.put.new.self hub.outs c.make_room.new.outs hub.counts.items c.make_room.new.counts.items hub.most
    (c.put.ensures.origin ∙ c.planned.ensures.origin) (c.in_err-put.ensures.err ∙ c.planned.ensures.events) c.self.invariant
    c.make_room.ensures.seats

pub returns-in_err-put-clause-taken : goal.returns-in_err-put-clause-taken
returns-in_err-put-clause-taken c = λ conn.
    let hub = c.self.inside in
    taken-same hub.outs c.make_room.new.outs hub.counts.items c.make_room.new.counts.items c.self.invariant.counts_are
    c.make_room.ensures.seats conn ∙ ap (λ (h : HubState). words.taken h conn) c.self.view_is

pub deliver-requires-clause-each : goal.deliver-requires-clause-each
deliver-requires-clause-each c =
    let hub = c.self.inside in
    let o = hub.game.origin in
    let es = hub.game.events in
    let e = c.args.event in
    let is : takes (table_of o es) e ≡ true = may-take (table_of o es) e (sym c.over.ensures.over ∙ c.if-over.false)
    (sym c.takes.ensures.names ∙ c.if-not-takes.false) in
    let same = c.planned.ensures.origin in
    let old = c.planned.ensures.events in
    let ms = c.in_ok-put.ensures.members_told
    ∙ ap₂ (λ (p : Origin) (l : List Event). ended_members p e (table_of p l)) same old in
    let gs = c.in_ok-put.ensures.admins_told
    ∙ ap₂ (λ (p : Origin) (l : List Event). ended_admins p e (table_of p l)) same old in
    let seats = c.make_room.ensures.seats in
    let about : conn_of es e ≤ opened c.make_room.new.outs =
    let l = c.in_ok-most.ensures.seat in let n = c.about-about.ensures.conn in omega (arith, l, n) in
    let low : (table_of o es).openings ≤ opened c.make_room.new.outs =
    let l = c.self.invariant.enough in let k = seats.grows in omega (arith, l, k) in
    packets-may o es e (opened c.make_room.new.outs) c.planned.new.staged c.put.new.ends is c.in_ok-change.ensures.staged ms gs low about

pub deliver-requires-clause-parts : goal.deliver-requires-clause-parts
deliver-requires-clause-parts c =
    let e = c.args.event in
    let game = c.planned.new.game in
    let ms = ap length c.in_ok-put.ensures.members_told in
    let gs = ap length c.in_ok-put.ensures.admins_told in
    let few = few-members-told game.origin e (table game) in
    let less = few-admins-told game.origin e (table game) in
    let most = c.most_ends-conns.ensures.members in
    let more = c.most_ends-conns.ensures.admins in
    let parts = c.in_ok-most.ensures.parts in
    omega (arith, ms, gs, few, less, most, more, parts)

pub invariant_of-self-2 : goal.invariant_of-self-2
invariant_of-self-2 c =
    let hub = c.self.inside in
    let o = hub.game.origin in
    let es = hub.game.events in
    let e = c.args.event in
    let is : takes (table_of o es) e ≡ true = may-take (table_of o es) e (sym c.over.ensures.over ∙ c.if-over.false)
    (sym c.takes.ensures.names ∙ c.if-not-takes.false) in
    let same = c.planned.ensures.origin in
    let old = c.planned.ensures.events in
    let ms = c.in_ok-put.ensures.members_told
    ∙ ap₂ (λ (p : Origin) (l : List Event). ended_members p e (table_of p l)) same old in
    let gs = c.in_ok-put.ensures.admins_told
    ∙ ap₂ (λ (p : Origin) (l : List Event). ended_admins p e (table_of p l)) same old in
    let seats = c.make_room.ensures.seats in
    let about : conn_of es e ≤ opened c.make_room.new.outs =
    let l = c.in_ok-most.ensures.seat in let n = c.about-about.ensures.conn in omega (arith, l, n) in
    let events = c.in_ok-put.ensures.ok ∙ ap (λ (l : List Event). l ++ e ∷ []) old in
    running-event hub.game c.put.new.self hub.outs c.make_room.new.outs c.deliver.new.outs hub.counts.items c.make_room.new.counts.items
    hub.most c.in_ok-most.most e c.planned.new.staged c.put.new.ends (c.put.ensures.origin ∙ same) events is c.self.invariant seats about
    c.in_ok-change.ensures.staged ms gs c.in_ok-most.ensures.most c.in_ok-most.ensures.fits c.deliver.ensures.opened c.deliver.ensures.told

pub returns-clause-taken : goal.returns-clause-taken
returns-clause-taken c = λ conn.
    let hub = c.self.inside in
    taken-same hub.outs c.make_room.new.outs hub.counts.items c.make_room.new.counts.items c.self.invariant.counts_are
    c.make_room.ensures.seats conn ∙ ap (λ (h : HubState). words.taken h conn) c.self.view_is

pub returns-clause-fresh : goal.returns-clause-fresh
returns-clause-fresh c = λ opens_one.
    let old = c.self.inside in
    let after = c.put.new.self.events in
    let events = c.in_ok-put.ensures.ok ∙ ap (λ (l : List Event). l ++ c.args.event ∷ []) c.planned.ensures.events in
    taken-same old.outs c.make_room.new.outs old.counts.items c.make_room.new.counts.items c.self.invariant.counts_are
    c.make_room.ensures.seats (opens after)
    ∙ count-fresh old.game old.outs old.counts.items old.most (opens after) c.self.invariant
    (fresh-above old.game.origin old.game.events after c.args.event events opens_one)
