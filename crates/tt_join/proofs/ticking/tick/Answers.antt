use Rattle.std.proofs.Common.{◌+◌, ◌++◌, ℕ, List, ap, ◌∙◌}
use Rattle.tt_members.specs.declared.step.Step.{Step}
use Rattle.tt_members.specs.Crew.{Crew, founders_in}
use Rattle.tt_members.specs.Steps.{stamped_in}
use Rattle.tt_join.specs.Ticking.{clients_at, seen}
use Rattle.tt_join.proofs.Beating.{same_beat}
use Rattle.tt_join.proofs.Ran.{tick_ran}
use Rattle.tt_join.proofs.ticking.tick.Goals as goal

pub returns : goal.returns
returns c =
    let ms = c.args.view.members.now in
    let queue = c.args.view.queue.now.conns in
    let own = c.args.view.own.now in
    let words = c.args.view.words in
    let founders = c.args.view.founders.now in
    let frame : ℕ = c.args.time.now.frame + 1 in
    let crew : Crew = seen ms queue own words founders in
    record {
      ticks = tick_ran c.args.setup.now crew c.args.time.now c.as_slice.result.now c.beat.new.plan c.tell.new.self c.found.new.plan
          c.sync.new.plan
          c.tell_pieces.new.plan c.limit.new.plan
          (c.in_ok-beat.ensures.beats ∙ same_beat c.args.setup.now c.args.time.now ms queue own words founders)
          (c.as_slice.ensures.value ∙ c.in_ok-clients.ensures.clients
          ∙ ap (λ (ss : List Step). clients_at frame founders ++ clients_at frame (founders_in (stamped_in ss))) c.steps.ensures.steps)
          (record { plain = c.in_ok-tell.ensures.plain; edits = c.in_ok-tell.ensures.edits; steps = c.in_ok-tell.ensures.steps })
          (record { plain = c.in_ok-found.ensures.plain; edits = c.in_ok-found.ensures.edits; steps = c.in_ok-found.ensures.steps })
          (record { plain = c.in_ok-sync.ensures.plain; edits = c.in_ok-sync.ensures.edits; steps = c.in_ok-sync.ensures.steps })
          (record {
            plain = c.in_ok-tell_pieces.ensures.plain;
            edits = c.in_ok-tell_pieces.ensures.edits;
            steps =
                c.in_ok-tell_pieces.ensures.steps;
          })
          (record { plain = c.in_ok-limit.ensures.plain; edits = c.in_ok-limit.ensures.edits; steps = c.in_ok-limit.ensures.steps });
    }
