use Rattle.std.proofs.Common.{◌≡◌, ℕ, List, ◌++◌, refl, ◌∙◌, sym, ap, subst, append_assoc}
use Rattle.tt_client.specs.declared.join.Join.{Join}
use Rattle.tt_client.specs.Held.{place_of}
use Rattle.tt_client.specs.Planned.{IsClear, bytes_said, map_bytes}
use Rattle.tt_client.proofs.Joining.{gone_on, not_done}
use Rattle.tt_client.proofs.join.Join.go_on.Goals as goal

pub answer-requires-clause-not_done : goal.answer-requires-clause-not_done
answer-requires-clause-not_done c =
    let old = c.args.self.now in not_done (place_of old.stage (c.args.come.now ++ old.more.items)) c.args.msg.now c.requires.goes

pub returns-clause-heard : goal.returns-clause-heard
returns-clause-heard c = λ at saying acked.
    let old = c.args.self.now in
    let come = c.args.come.now in
    let msg = c.args.msg.now in
    let bytes = come ++ old.more.items in
    let new : Join = record {
      stage = c.stage_behind-self.result;
      more = c.extend_from_slice.new.self;
      phase = old.phase;
      number = c.number_behind-self.result;
      company = c.company_behind-self.result;
      answers = c.put_said.new.bytes;
      runs = old.runs;
    } in
    let come_on : come ++ new.more.items ≡ bytes ++ map_bytes old.stage msg =
    ap (λ (xs : List ℕ). come ++ xs) (c.in_ok-extend_from_slice.ensures.items ∙ ap (λ (xs : List ℕ). old.more.items ++ xs)
    c.map_bytes.ensures.bytes)
    ∙ sym (append_assoc come old.more.items (map_bytes old.stage msg)) in
    gone_on c.args.login.now come (bytes_said c.answer.result) old new msg at saying acked c.requires.stands refl refl
    (c.number_behind-self.ensures.number old.company) c.company_behind-self.ensures.company
    (ap (λ (xs : List ℕ). place_of new.stage xs) come_on
    ∙ c.stage_behind-self.ensures.place bytes c.requires.stands.clear (not_done (place_of old.stage bytes) msg c.requires.goes)
    c.requires.stands.before)
    c.in_ok-put_said.ensures.put (c.answer.ensures.said bytes) c.requires.goes

pub returns-clause-stands : goal.returns-clause-stands
returns-clause-stands c =
    let old = c.args.self.now in
    let come = c.args.come.now in
    let msg = c.args.msg.now in
    let bytes = come ++ old.more.items in
    let come_on : come ++ c.extend_from_slice.new.self.items ≡ bytes ++ map_bytes old.stage msg =
    ap (λ (xs : List ℕ). come ++ xs) (c.in_ok-extend_from_slice.ensures.items ∙ ap (λ (xs : List ℕ). old.more.items ++ xs)
    c.map_bytes.ensures.bytes)
    ∙ sym (append_assoc come old.more.items (map_bytes old.stage msg)) in
    record {
      joins = c.requires.stands.joins;
      none = c.requires.stands.none;
      before = c.stage_behind-self.ensures.before c.requires.stands.before;
      clear = subst (λ (xs : List ℕ). IsClear c.stage_behind-self.result xs) (sym come_on) (c.stage_behind-self.ensures.clear bytes
          c.requires.stands.clear);
    }
