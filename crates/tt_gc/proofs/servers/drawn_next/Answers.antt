use Rattle.std.proofs.Common.{ap, ◌∙◌}
use Rattle.tt_attempts.specs.Codes.{words_behind, drawn_characters}
use Rattle.tt_gc.proofs.servers.drawn_next.Goals as goal

pub returns-clause-secret : goal.returns-clause-secret
returns-clause-secret c =
    c.draw-secret.ensures.drawn ∙ ap (drawn_characters 32) (c.draw-first.ensures.words ∙ ap (words_behind 6) c.random-random.ensures)

pub returns-clause-words : goal.returns-clause-words
returns-clause-words c =
    c.draw-secret.ensures.words ∙ ap (words_behind 32) (c.draw-first.ensures.words ∙ ap (words_behind 6) c.random-random.ensures)
