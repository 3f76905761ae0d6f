use Rattle.std.proofs.Common.{◌≡◌, ℕ, map, cond, List, Option, Some, sym, subst, ap, ◌∙◌}
use Rattle.std.specs.Prelude.{find}
use Rattle.tt_attempts.specs.Attempts.{stepped, AttemptState}
use Rattle.tt_gc_table.specs.Table.{Meeting, is_for}
use Rattle.std.specs.Ordering.{nat_cmp, eq_by_cmp}
use Rattle.tt_gc_table.specs.ByConnection.{numbers_of}
use Rattle.tt_gc_table.proofs.ByConnectionLaws.{indexed_set}
use Rattle.tt_gc_table.specs.Parts.{IsBegun, is_of}
use Rattle.tt_gc_table.specs.OpenAttempts.{meetings_of, with_stage, IsNumbered}
use Rattle.tt_gc_table.proofs.Numbers.{nowhere}
use Rattle.tt_gc_table.proofs.ByToken.{Looked, Here, here, missing, nobody, changed_here, begun_set, numbered_set}
use Rattle.tt_gc_table.proofs.meetings.Meetings.hear.Goals as goal

pub returns-in_default-clause-meetings : goal.returns-in_default-clause-meetings
returns-in_default-clause-meetings c = λ m some.
    nobody (find (is_for c.args.token.now) (meetings_of c.args.self.now)) m (subst (λ (es : List (ℕ × Meeting)).
    find (is_for c.args.token.now) (meetings_of es) ≡ Option.None) c.self.view_is (nowhere c.args.token.now c.in_default.ensures.none
    c.self.inside.by_number.entries c.self.invariant.0)) some

pub returns-in_default-get_mut-clause-meetings : goal.returns-in_default-get_mut-clause-meetings
returns-in_default-get_mut-clause-meetings c = λ m some.
    let l : Looked c.args.token.now c.in-Some.number c.self.inside.by_number.entries =
    record {
      small = c.in-Some.ensures.small;
      digits = c.in-Some.ensures.found;
      numbered = c.self.invariant.0;
      sorted = c.self.invariant.1;
    } in
    nobody (find (is_for c.args.token.now) (meetings_of c.args.self.now)) m (subst (λ (es : List (ℕ × Meeting)).
    find (is_for c.args.token.now) (meetings_of es) ≡ Option.None) c.self.view_is (missing c.args.token.now c.in-Some.number
    c.self.inside.by_number.entries l (sym c.in_default-get_mut.ensures.value))) some

pub invariant_of-self-2 : goal.invariant_of-self-2
invariant_of-self-2 c =
    let v : Meeting = c.in-Some-get_mut.meeting.now in
    let w : Meeting = record {
      token = c.meeting.inside.token;
      server = c.meeting.inside.server;
      client = c.meeting.inside.client;
      port =
          c.meeting.inside.port;
      state = c.step-told.new.self;
    } in (
      subst IsNumbered (sym (c.get_mut.follows.holds w).0) (numbered_set c.in-Some.number c.self.inside.by_number.entries v w
          (sym c.in-Some-get_mut.ensures.value) (ap (λ (m : Meeting). m.token) c.meeting.view_is) c.self.invariant.0),
      (c.get_mut.follows.holds w).4,
      λ x. c.self.invariant.2 x
          ∙ sym (indexed_set x (eq_by_cmp nat_cmp c.in-Some.number) c.self.inside.by_number.entries v w
          (sym c.in-Some-get_mut.ensures.value) (ap (is_of x) c.meeting.view_is)) ∙ ap (numbers_of x) (sym (c.get_mut.follows.holds w).0),
    )

pub returns-clause-meetings : goal.returns-clause-meetings
returns-clause-meetings c =
    let l : Looked c.args.token.now c.in-Some.number c.self.inside.by_number.entries =
    record {
      small = c.in-Some.ensures.small;
      digits = c.in-Some.ensures.found;
      numbered = c.self.invariant.0;
      sorted = c.self.invariant.1;
    } in
    let v : Meeting = c.in-Some-get_mut.meeting.now in
    let w : Meeting = record {
      token = c.meeting.inside.token;
      server = c.meeting.inside.server;
      client = c.meeting.inside.client;
      port =
          c.meeting.inside.port;
      state = c.step-told.new.self;
    } in
    let inner : Meeting = record w { state = c.meeting.inside.attempt } in
    subst (λ (es : List (ℕ × Meeting)). (m : Meeting) → find (is_for c.args.token.now) (meetings_of es) ≡ Some m
    → meetings_of (c.get_mut.follows.lender w).entries ≡ map (λ x. cond (is_for c.args.token.now x)
    (with_stage (stepped m.state.ways m.state.stage c.args.heard).stage x) x) (meetings_of es)) c.self.view_is
    (λ m some.
    let h : Here c.args.token.now v m = here c.args.token.now c.in-Some.number c.self.inside.by_number.entries v m l
    (sym c.in-Some-get_mut.ensures.value) some in
    ap meetings_of (c.get_mut.follows.holds w).0
    ∙ changed_here c.args.token.now c.in-Some.number c.self.inside.by_number.entries v w m
    (with_stage (stepped m.state.ways m.state.stage c.args.heard).stage) l (sym c.in-Some-get_mut.ensures.value) some
    (ap (λ (s : AttemptState). record inner { state = s }) c.step-told.ensures.after
    ∙ ap (λ (x : Meeting). with_stage (stepped x.state.ways x.state.stage c.args.heard).stage x) c.meeting.view_is
    ∙ ap (λ (x : Meeting). with_stage (stepped x.state.ways x.state.stage c.args.heard).stage v) h.same))

pub returns-in_default-clause-begun : goal.returns-in_default-clause-begun
returns-in_default-clause-begun c = λ last begun. subst (IsBegun last) (sym c.self.view_is) begun

pub returns-in_default-get_mut-clause-begun : goal.returns-in_default-get_mut-clause-begun
returns-in_default-get_mut-clause-begun c = λ last begun.
    subst (λ m. IsBegun last m.entries) (sym c.get_mut.follows.holds-at-none) (subst (IsBegun last) (sym c.self.view_is) begun)

pub returns-clause-begun : goal.returns-clause-begun
returns-clause-begun c = λ last begun.
    let w : Meeting = record {
      token = c.meeting.inside.token;
      server = c.meeting.inside.server;
      client = c.meeting.inside.client;
      port =
          c.meeting.inside.port;
      state = c.step-told.new.self;
    } in
    subst (IsBegun last) (sym (c.get_mut.follows.holds w).0) (begun_set c.in-Some.number last c.self.inside.by_number.entries w
    (subst (IsBegun last) (sym c.self.view_is) begun))
