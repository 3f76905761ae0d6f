use Rattle.tt_replay.proofs.replay.answer_of.Goals as goal

pub returns-in-Run-clause-bad : goal.returns-in-Run-clause-bad
returns-in-Run-clause-bad c line is = rw c.in-Run.is (c.run.ensures.bad line is)

pub returns-in-Show-clause-bad : goal.returns-in-Show-clause-bad
returns-in-Show-clause-bad c line is = rw c.in-Show.is (c.show_list.ensures.bad line is)

pub returns-in-Check-clause-bad : goal.returns-in-Check-clause-bad
returns-in-Check-clause-bad c line is = rw c.in-Check.is (c.check_script.ensures.bad line is)

pub returns-in-Check-clause-differs : goal.returns-in-Check-clause-differs
returns-in-Check-clause-differs c place is = (c.in-Check.is, c.check_script.ensures.differs place is)

pub returns-in-Run-clause-differs : goal.returns-in-Run-clause-differs
returns-in-Run-clause-differs c place is = absurd (c.run.ensures.never place is)

pub returns-in-Show-clause-differs : goal.returns-in-Show-clause-differs
returns-in-Show-clause-differs c place is = absurd (c.show_list.ensures.never place is)
