use Rattle.std.proofs.Common.{rules, ◌<◌, sym, subst, length}
use Rattle.tt_edge.specs.MemLink.{IsFreshLink}
use Rattle.tt_edge.specs.declared.event.Peer.{Peer}
use Rattle.tt_edge.specs.declared.mem_link.MemLink.{MemLink}
use Rattle.tt_edge.proofs.mem_listener.MemListenerListener.accept.Goals as goal

pub returns-clause-fresh : goal.returns-clause-fresh
returns-clause-fresh c = let some : 0 < length c.args.self.now.coming.items = search rules
    in (subst (λ (pair : MemLink × Peer). IsFreshLink pair.0) (sym c.remove-link.ensures.value) (c.args.self.now.fresh 0
    c.remove-link.result some)).counts

pub returns-clause-unread : goal.returns-clause-unread
returns-clause-unread c = let some : 0 < length c.args.self.now.coming.items = search rules
    in (subst (λ (pair : MemLink × Peer). IsFreshLink pair.0) (sym c.remove-link.ensures.value) (c.args.self.now.fresh 0
    c.remove-link.result some)).read

pub returns-clause-unwritten : goal.returns-clause-unwritten
returns-clause-unwritten c = let some : 0 < length c.args.self.now.coming.items = search rules
    in (subst (λ (pair : MemLink × Peer). IsFreshLink pair.0) (sym c.remove-link.ensures.value) (c.args.self.now.fresh 0
    c.remove-link.result some)).held
