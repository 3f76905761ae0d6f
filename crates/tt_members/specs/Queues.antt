-- The order of downloads: what those are told that stand behind a place that is free.
use Rattle.std.specs.Prelude.{ℕ, zero, suc, ◌+◌, min, List, [], ◌∷◌, drop, Option, Some, None}
use Rattle.tt_game.specs.declared.message.GameMsg.TheVariants.{ServerWait}
use Rattle.tt_log.specs.declared.deed.What.{What}
use Rattle.tt_rules.specs.declared.status.Status.TheVariants.{MapWait}
use Rattle.tt_log.specs.declared.deed.What.TheVariants.{Msg, MapBegin}
use Rattle.tt_log.specs.Member.{is_in}
use Rattle.tt_log.specs.Table.{Table}
use Rattle.tt_log.specs.Downloads.{IsMember}
use Rattle.tt_members.specs.declared.edit.Edit.{Edit}
use Rattle.tt_members.specs.declared.edit.Edit.TheVariants.{Begin, Unask}
use Rattle.tt_members.specs.declared.step.Audience.TheVariants.{One}
use Rattle.tt_members.specs.declared.step.Step.{Step}
use Rattle.tt_members.specs.Steps.{says}

-- what one is told that has come to a place
abbrev pub news_at : ℕ → What
news_at zero = MapBegin
news_at (suc before) = Msg (ServerWait (min (suc before) 255))

-- those that stand from a place on are told what they have become
abbrev pub moving : ℕ → List ℕ → List Step
moving place [] = []
moving place (c ∷ cs) = says (One c) (news_at place) ∷ moving (place + 1) cs

-- the one that has come to place 0 downloads
abbrev pub beginning : ℕ → ℕ → List ℕ → List Edit
beginning frame place [] = []
beginning frame zero (c ∷ cs) = Begin c frame ∷ []
beginning frame (suc before) (c ∷ cs) = []

-- one leaves the queue, if it stands there
abbrev pub unasking : Option ℕ → List ℕ → List Step
unasking None queue = []
unasking (Some place) queue = moving place (drop (place + 1) queue)

abbrev pub unasked : ℕ → ℕ → Option ℕ → List ℕ → List Edit
unasked conn frame None queue = []
unasked conn frame (Some place) queue = Unask conn ∷ beginning frame place (drop (place + 1) queue)

-- ---- where a download may begin

-- the one that comes to place 0 waits
abbrev pub IsReady : ℕ → List ℕ → Table → Type 0
IsReady zero [] t = Unit {0}
IsReady zero (c ∷ cs) t = IsMember (is_in MapWait) t c
IsReady (suc before) cs t = Unit {0}

-- so it is behind the place that is free, if one is
abbrev pub NextIsReady : Option ℕ → List ℕ → Table → Type 0
NextIsReady None queue t = Unit {0}
NextIsReady (Some place) queue t = IsReady place (drop (place + 1) queue) t
