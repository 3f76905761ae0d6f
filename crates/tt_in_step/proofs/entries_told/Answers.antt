use Rattle.tt_in_step.proofs.Promises.{told-none, told-all, frame-has}
use Rattle.tt_in_step.proofs.entries_told.Goals as goal

pub returns-clause-none : goal.returns-clause-none
returns-clause-none c o es conn m h are is idle = told-none c.one_map.ensures.there o h es are conn m is idle

pub returns-clause-all : goal.returns-clause-all
returns-clause-all c o es conn m h are is plays = told-all c.one_map.ensures.there o h es are conn m is plays

pub returns-clause-frames : goal.returns-clause-frames
returns-clause-frames c o es conn front later v f max g h are e is l k = frame-has c.one_map.ensures.there o h
    es are conn front later v f max g e is l k
