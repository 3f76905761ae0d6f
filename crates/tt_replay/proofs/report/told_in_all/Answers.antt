use Rattle.std.proofs.Common.{◌∙◌, ◌++◌, ap₂, ℕ, List}
use Rattle.std.proofs.lemmas.List.{take-append-drop}
use Rattle.tt_hub.specs.Hub.{origin, taken}
use Rattle.tt_log.specs.Told.{sent}
use Rattle.tt_replay.proofs.report.told_in_all.Goals as goal

pub returns-clause-whole : goal.returns-clause-whole
returns-clause-whole c =
    let hub = c.args.hub.now in
    c.in_ok-extend_from_slice.ensures.items
    ∙ ap₂ (λ (xs ys : List ℕ). xs ++ ys) (c.in_ok-whole.ensures.items ∙ c.requires.told) (c.deref.ensures.value ∙ c.in_ok-left.ensures.rest)
    ∙ take-append-drop (taken hub c.args.conn) (sent (origin hub) hub.events c.args.conn)
