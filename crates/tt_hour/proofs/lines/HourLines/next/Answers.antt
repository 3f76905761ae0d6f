use Rattle.std.proofs.Common.{sym, ◌∙◌, ◌≡◌, []}
use Rattle.tt_hour.specs.Left.{left}
use Rattle.tt_hour.proofs.PartLaws.{line_given, part_begun, nothing_left}
use Rattle.tt_hour.proofs.lines.HourLines.next.Goals as goal

pub returns-in-Some : goal.returns-in-Some
returns-in-Some c =
    sym c.self.view_is ∙ line_given c.self.inside.part c.self.inside.at c.self.inside.random c.in-Some.line (sym c.in-Some.ensures.line)

pub returns-in-Some-line : goal.returns-in-Some-line
returns-in-Some-line c =
    let part = c.following-self-inside.result in
    let words = c.following-self-inside.new.random in
    sym c.self.view_is
    ∙ part_begun c.self.inside.part part c.self.inside.at c.self.inside.random words (sym c.in-None.ensures.line)
    c.following-self-inside.ensures
    ∙ line_given part 0 words c.in-Some-line.line (sym c.in-Some-line.ensures.line)

pub returns-in-None-line : goal.returns-in-None-line
returns-in-None-line c =
    let part = c.following-self-inside.result in
    let words = c.following-self-inside.new.random in
    let none : left part 0 words ≡ [] = nothing_left part words (sym c.in-None-line.ensures.line) in (
      sym c.self.view_is
          ∙ part_begun c.self.inside.part part c.self.inside.at c.self.inside.random words (sym c.in-None.ensures.line)
          c.following-self-inside.ensures
          ∙ none,
      none,
    )
