use Rattle.std.proofs.Common.{◌≡◌, ◌++◌, ◌∙◌, ℕ, List, ap, ap₂, refl, subst}
use Rattle.tt_world.specs.declared.command.Entry.{Entry}
use Rattle.tt_log.specs.Admin.{Admin}
use Rattle.tt_members.specs.declared.step.Step.{Step}
use Rattle.tt_table.specs.declared.change.Seating.TheVariants.{Leave}
use Rattle.tt_table.specs.Does.{begins_map}
use Rattle.tt_table.specs.Frames.{ran}
use Rattle.tt_table.specs.Ticking.{IsWorld, late_conns, limit_steps, new_day_steps, wants_world}
use Rattle.tt_table.proofs.ticking.ticked.Goals as goal

pub returns : goal.returns
returns c = record {
  tick = λ o.
      let admins : List Admin = c.args.desk.now in
      let before = c.args.world.now in
      let late : c.in_ok-late.late ≡ late_conns c.args.most c.args.frame admins =
      c.in_ok-late.ensures.late ∙ ap (late_conns c.args.most c.args.frame) c.all.ensures.all
      in
      let behind : IsWorld (ran o before c.args.due.items) c.in_ok-behind.behind =
      subst (λ (es : List Entry). IsWorld (ran o before es) c.in_ok-behind.behind) c.as_slice.ensures.value
      (c.in_ok-behind.ensures.world o)
      in
      record {
        plan = refl;
        seating = ap Leave late;
        first = c.new.ensures.none;
        last = c.in_ok-tell_new_day.ensures.told
            ∙ ap₂ (λ (xs ys : List Step). xs ++ ys) (c.in_ok-tell_late.ensures.told
            ∙ ap₂ (λ (xs : List Step) (conns : List ℕ). xs ++ limit_steps conns) c.new-last.ensures.none (c.numbers.ensures.numbers ∙ late))
            (ap (λ (day : ℕ). new_day_steps day c.in_ok-behind.behind admins) c.day.ensures.day);
        aside = refl;
        beats = refl;
        due = refl;
        stops = refl;
        behind = behind;
        wanted = c.in_ok-behind.ensures.wanted
            ∙ ap₂ (λ (steps : List Step) (seats : List Admin). wants_world before.part steps seats) c.steps.ensures.steps
            c.all-2.ensures.all;
        begins = c.in_ok-download.ensures.begins ∙ ap begins_map c.steps-2.ensures.steps;
        begun = c.in_ok-download.ensures.map (ran o before c.args.due.items) behind;
      };
}
