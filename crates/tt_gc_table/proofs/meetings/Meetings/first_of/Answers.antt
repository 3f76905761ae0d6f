use Rattle.std.proofs.Common.{◌∙◌}
use Rattle.std.proofs.lemmas.Bool.{false≢true}
use Rattle.tt_gc_table.proofs.ByConnectionLaws.{no_end, first_got, none_got}
use Rattle.tt_gc_table.proofs.meetings.Meetings.first_of.Goals as goal

pub returns-in_default-clause-none : goal.returns-in_default-clause-none
returns-in_default-clause-none c = no_end c.args.conn c.args.self.now c.in_default.ensures.none

pub returns-in-Some-first-clause-some : goal.returns-in-Some-first-clause-some
returns-in-Some-first-clause-some c =
    first_got c.args.conn c.in-Some-first.number.now c.in-Some.numbers.now.keys c.args.self.now c.in-Some.ensures.apart
    c.in-Some.ensures.some c.in-Some-first.ensures.first

pub returns-in-None-clause-none : goal.returns-in-None-clause-none
returns-in-None-clause-none c =
    no_end c.args.conn c.args.self.now (c.in-Some.ensures.some
    ∙ none_got c.in-Some.numbers.now.keys (λ more. false≢true (c.in-None.ensures.variant.1 more)))
