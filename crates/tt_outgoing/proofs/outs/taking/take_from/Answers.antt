use Rattle.std.proofs.Common.{◌≡◌, ◌∙◌, ◌++◌, List, ℕ, ap, sym, refl, ◌+◌, ◌≤◌, arith, length, take, drop}
use Rattle.std.proofs.lemmas.List.{drop-drop, length-drop}
use Rattle.tt_outgoing.specs.Outgoing.{plain, waits_in, waits_before}
use Rattle.tt_outgoing.proofs.OutsTakes.{keeps_all, keeps_then, all_from, inside, more_bytes, joined_length}
use Rattle.tt_outgoing.proofs.outs.taking.take_from.Goals as goal

pub loop-filled-init : goal.loop-filled-init
loop-filled-init c =
    let t = plain c.args.log.now in
    let passed = ap (λ (n : ℕ). waits_before t c.args.conn n) c.saturating_sub-i.ensures ∙ c.requires.passed in
    record {
      keeps = keeps_all c.args.conn t c.requires.sound;
      vector = refl;
      room = refl;
      few = omega (arith, c.saturating_sub-i.ensures, c.requires.first);
      passed = passed;
      rest = all_from t c.args.conn c.saturating_sub-i.result passed;
      fits = omega arith;
      size = refl;
      bytes = refl;
    }

pub take_at-n-requires-clause-place : goal.take_at-n-requires-clause-place
take_at-n-requires-clause-place c =
    let l = c.loop-filled in
    let ws = waits_in (plain c.args.log.now) c.args.conn in
    inside (plain l.log) c.args.conn l.i (drop l.filled ws) l.invariant.rest
    (omega (arith, length-drop l.filled ws, c.requires.enough, c.loop-filled-test.true, l.invariant.size))

pub loop-filled-preserved : goal.loop-filled-preserved
loop-filled-preserved c =
    let l = c.loop-filled in
    let is = l.invariant in
    let now = c.take_at-n.ensures in
    let conn = c.args.conn in
    let n = c.take_at-n.result.0 in
    let ws = waits_in (plain c.args.log.now) conn in
    let room = c.args.out.now in
    let fits : l.filled + n ≤ length room = omega (arith, now.few.0, is.size) in
    let le : l.filled + n ≤ length ws = omega (arith, fits, c.requires.enough) in
    let put = now.bytes ∙ ap (λ (b : List ℕ). take l.filled l.out ++ take n b ++ drop (l.filled + n) l.out) is.rest in
    let bytes = more_bytes ws room l.out c.take_at-n.new.out l.filled n (omega (arith, le)) is.fits is.bytes put in
    record {
      keeps = keeps_then conn (plain c.args.log.now) (plain l.log) (plain c.take_at-n.new.log) is.keeps now.keeps;
      vector = now.tail ∙ is.vector;
      room = now.room ∙ is.room;
      few = now.place.1;
      passed = now.passed is.passed;
      rest = now.rest ∙ ap (λ (b : List ℕ). drop n b) is.rest ∙ drop-drop n l.filled ws;
      fits = fits;
      size = ap length bytes ∙ joined_length ws room (l.filled + n) le fits;
      bytes = bytes;
    }

pub returns-clause-rest : goal.returns-clause-rest
returns-clause-rest c =
    let l = c.loop-filled in
    let ws = waits_in (plain c.args.log.now) c.args.conn in
    let all : l.filled ≡ length c.args.out.now = omega (arith, c.loop-filled-test.false, l.invariant.fits, l.invariant.size) in
    sym (all_from (plain l.log) c.args.conn l.i l.invariant.passed) ∙ l.invariant.rest ∙ ap (λ (n : ℕ). drop n ws) all
