use Rattle.std.proofs.Common.{◌≡◌, ◌∙◌, ap, sym, ℕ, List, [], ◌+◌, ◌∷◌, drop, get_or}
use Rattle.std.proofs.lemmas.List.{at_drop_more, at_drop_all}
use Rattle.tt_log.specs.Admin.{Admin}
use Rattle.tt_join.specs.Joining.{bare}
use Rattle.tt_table.specs.Putting.{left_by}
use Rattle.tt_table.proofs.Seats.{left-none, left-one}
use Rattle.tt_table.proofs.putting.close_all.Goals as goal

pub loop-conn-preserved : goal.loop-conn-preserved
loop-conn-preserved c =
    let i : ℕ = c.loop-conn.conn-index in
    let conns : List ℕ = c.args.conns.now in
    let more : List ℕ = drop (i + 1) conns in
    let before : List Admin = c.loop-conn.desk in
    let first : left_by (drop i conns) before ≡ left_by (get_or conns i 0 ∷ more) before =
    at_drop_more (λ (xs : List ℕ). left_by xs before) conns i 0 c.loop-conn-test.true in
    ap (λ (xs : List Admin). left_by more xs) (c.close.ensures.closed (bare [])) ∙ sym (left-one (get_or conns i 0) more before) ∙ sym first
    ∙ c.loop-conn.invariant

pub returns : goal.returns
returns c = record {
  left = sym (left-none c.loop-conn.desk)
      ∙ sym (at_drop_all (λ (xs : List ℕ). left_by xs c.loop-conn.desk) c.args.conns.now c.loop-conn.conn-index c.loop-conn-test.false)
      ∙ c.loop-conn.invariant;
}
