use Rattle.std.proofs.Common.{◌≡◌, ℕ, List, None, Some, sym, subst, ap, ◌∙◌}
use Rattle.std.specs.Prelude.{find}
use Rattle.std.specs.Str.{bytes_eq}
use Rattle.tt_gc_table.specs.Table.{Meeting, is_for}
use Rattle.tt_gc_table.specs.OpenAttempts.{meetings_of}
use Rattle.tt_gc_table.proofs.Numbers.{nowhere}
use Rattle.tt_gc_table.proofs.ByToken.{Looked, missing, found, other}
use Rattle.tt_gc_table.proofs.meetings.Meetings.find.Goals as goal

-- no number stands in the token
pub returns-in_default : goal.returns-in_default
returns-in_default c =
    subst (λ (es : List (ℕ × Meeting)). None ≡ find (is_for c.args.token.now) (meetings_of es)) c.self.view_is
    (sym (nowhere c.args.token.now c.in_default.ensures.none c.self.inside.by_number.entries c.self.invariant.0))

-- no open attempt has the number
pub returns-in_default-get : goal.returns-in_default-get
returns-in_default-get c =
    let l : Looked c.args.token.now c.in-Some.number c.self.inside.by_number.entries =
    record {
      small = c.in-Some.ensures.small;
      digits = c.in-Some.ensures.found;
      numbered = c.self.invariant.0;
      sorted = c.self.invariant.1;
    } in
    subst (λ (es : List (ℕ × Meeting)). None ≡ find (is_for c.args.token.now) (meetings_of es)) c.self.view_is
    (sym (missing c.args.token.now c.in-Some.number c.self.inside.by_number.entries l (sym c.in_default-get.ensures.value)))

-- the one that has it has the token
pub returns-then-eq : goal.returns-then-eq
returns-then-eq c =
    let l : Looked c.args.token.now c.in-Some.number c.self.inside.by_number.entries =
    record {
      small = c.in-Some.ensures.small;
      digits = c.in-Some.ensures.found;
      numbered = c.self.invariant.0;
      sorted = c.self.invariant.1;
    } in
    let own : c.in-Some-get.meeting.now.token ≡ c.bytes.result.now =
    ap (λ (m : Meeting). m.token) (sym c.meeting.view_is) ∙ sym c.bytes.ensures.same in
    subst (λ (es : List (ℕ × Meeting)). Some c.in-Some-get.meeting.now ≡ find (is_for c.args.token.now) (meetings_of es)) c.self.view_is
    (sym (found c.args.token.now c.in-Some.number c.self.inside.by_number.entries c.in-Some-get.meeting.now l
    (sym c.in-Some-get.ensures.value) (ap (bytes_eq c.args.token.now) own ∙ sym c.eq.ensures ∙ c.if-eq.true)))

-- it has another one
pub returns-else-eq : goal.returns-else-eq
returns-else-eq c =
    let l : Looked c.args.token.now c.in-Some.number c.self.inside.by_number.entries =
    record {
      small = c.in-Some.ensures.small;
      digits = c.in-Some.ensures.found;
      numbered = c.self.invariant.0;
      sorted = c.self.invariant.1;
    } in
    let own : c.in-Some-get.meeting.now.token ≡ c.bytes.result.now =
    ap (λ (m : Meeting). m.token) (sym c.meeting.view_is) ∙ sym c.bytes.ensures.same in
    subst (λ (es : List (ℕ × Meeting)). None ≡ find (is_for c.args.token.now) (meetings_of es)) c.self.view_is
    (sym (other c.args.token.now c.in-Some.number c.self.inside.by_number.entries c.in-Some-get.meeting.now l
    (sym c.in-Some-get.ensures.value) (ap (bytes_eq c.args.token.now) own ∙ sym c.eq.ensures ∙ c.if-eq.false)))
