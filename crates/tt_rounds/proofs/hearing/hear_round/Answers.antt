use Rattle.std.proofs.Common.{◌≤◌, length, take, arith}
use Rattle.std.proofs.lemmas.List.{length-take}
use Rattle.tt_rounds.specs.Links.{LinkNow, link_now}
use Rattle.tt_rounds.proofs.Hearings.{hears_more, hears_lost}
use Rattle.tt_rounds.proofs.hearing.hear_round.Goals as goal

pub returns-in-Err : goal.returns-in-Err
returns-in-Err g c =
    let now : g.row.L.Denot → LinkNow = link_now g.L.Link.counts g.L.Link.left g.L.Link.was_read g.L.Link.held in
    let e = c.in-Bytes.ensures in
    hears_lost g.H.Hear.hears c.args.hearer.now c.hearing.hearer c.hear.new.self (now c.args.link.now) (now c.hearing.link)
    (now c.read.new.self) c.hearing._reads (take c.in-Bytes.n c.read.new.out) c.hearing.invariant c.in-Err.ensures.same e.added e.kept
    e.counts

pub hearing-preserved : goal.hearing-preserved
hearing-preserved g c =
    let now : g.row.L.Denot → LinkNow = link_now g.L.Link.counts g.L.Link.left g.L.Link.was_read g.L.Link.held in
    let e = c.in-Bytes.ensures in
    let bytes = take c.in-Bytes.n c.read.new.out in
    let some : 1 ≤ length bytes = omega (arith, length-take c.in-Bytes.n c.read.new.out, e.fits, c.read.auto.out) in
    hears_more g.H.Hear.hears c.args.hearer.now c.hearing.hearer c.hear.new.self (now c.args.link.now) (now c.hearing.link)
    (now c.read.new.self) c.hearing._reads bytes c.hearing.invariant c.in-Ok.ensures.heard e.added e.kept e.counts some
