use Rattle.std.proofs.Common.{◌∙◌, ◌++◌, ◌-◌, List, [], ◌∷◌, ℕ, ap, sym, arith, length}
use Rattle.std.proofs.lemmas.Bool.{eqb-false}
use Rattle.tt_log.specs.Deed.{admin, spelled}
use Rattle.tt_outgoing.specs.declared.staged.Cut.{Cut}
use Rattle.tt_outgoing.specs.Staging.{Packet}
use Rattle.tt_outgoing.proofs.CutUp.{put_last, put_whole}
use Rattle.tt_outgoing.proofs.Packets.{packet_somebody}
use Rattle.tt_outgoing.proofs.staged.Staged.tell_admins.Goals as goal

pub invariant_of-self-2 : goal.invariant_of-self-2
invariant_of-self-2 c =
    let s = c.self.inside in
    let to = c.args.to.now in
    let n : ℕ = c.len.result - c.len-start.result in
    put_whole s.cuts.items c.put.new.cuts.items s.conns.items s.bytes.items to (spelled (admin c.args.message.now))
    c.put.new.conns.items c.encode.new.out.items n c.self.invariant
    (c.put.ensures.cuts ∙ ap (λ (l : List Cut). l ++ record { conns = length to; bytes = n } ∷ []) c.in_ok-reserve.ensures.cuts)
    (c.put.ensures.conns ∙ ap (λ (l : List ℕ). l ++ to) c.in_ok-reserve.ensures.conns) c.in_ok-encode.ensures.ok
    (omega (arith, c.len.ensures ∙ c.encode.new.out.ok.0, c.len-start.ensures ∙ s.bytes.ok.0))

pub returns-clause-told : goal.returns-clause-told
returns-clause-told c =
    let s = c.self.inside in
    let to = c.args.to.now in
    let n : ℕ = c.len.result - c.len-start.result in
    let bytes : List ℕ = spelled (admin c.args.message.now) in
    put_last s.cuts.items c.put.new.cuts.items s.conns.items s.bytes.items to bytes
    c.put.new.conns.items c.encode.new.out.items n c.self.invariant
    (c.put.ensures.cuts ∙ ap (λ (l : List Cut). l ++ record { conns = length to; bytes = n } ∷ []) c.in_ok-reserve.ensures.cuts)
    (c.put.ensures.conns ∙ ap (λ (l : List ℕ). l ++ to) c.in_ok-reserve.ensures.conns) c.in_ok-encode.ensures.ok
    (omega (arith, c.len.ensures ∙ c.encode.new.out.ok.0, c.len-start.ensures ∙ s.bytes.ok.0))
    ∙ ap (λ (l : List Packet). l ++ record { to = to; bytes = bytes } ∷ []) c.self.view_is
    ∙ ap (λ (l : List Packet). c.args.self.now ++ l)
    (sym (packet_somebody to (admin c.args.message.now) (eqb-false (length to) 0 (sym c.is_empty.ensures ∙ c.if-is_empty.false))))
