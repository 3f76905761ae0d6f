use Rattle.tt_admin_desk.proofs.heard.refusal.Goals as goal

pub returns-in-AdminJoin : goal.returns-in-AdminJoin
returns-in-AdminJoin c = record { refusal = λ start. rw c.in-AdminJoin.is (c.join_refusal.ensures.refusal start) }
