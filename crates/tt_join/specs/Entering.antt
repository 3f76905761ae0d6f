-- From the welcome into the game, openings and ends: what each changes and tells.
use Rattle.std.specs.Prelude.{ℕ, ◌+◌, ◌==◌, Bool, true, false, ◌&&◌, nat_le, List, [], ◌∷◌, ◌++◌, map, filter, length, Option, Some, None}
use Rattle.tt_world.specs.Random.{next_random}
use Rattle.tt_world.specs.declared.command.Command.{Command}
use Rattle.tt_game.specs.declared.message.GameMsg.TheVariants.{ServerFrame, ServerFull, ServerJoin}
use Rattle.tt_admin.specs.declared.message.AdminMsg.TheVariants.{ServerClientJoin}
use Rattle.tt_rules.specs.declared.status.Status.TheVariants.{MapWait, PreActive, Active}
use Rattle.tt_log.specs.declared.deed.What.TheVariants.{Entries, End}
use Rattle.tt_log.specs.Admin.{client_updates}
use Rattle.tt_log.specs.Ending.{Farewell}
use Rattle.tt_log.specs.Frames.{fresh_token}
use Rattle.tt_log.specs.Judged.{founder}
use Rattle.tt_log.specs.Member.{Member, is_in, is_welcomed, new_member}
use Rattle.tt_log.specs.PacketRules.{client_info, new_company}
use Rattle.tt_members.specs.declared.edit.Edit.TheVariants.{Mark}
use Rattle.tt_members.specs.declared.marks.Marks.{Marks}
use Rattle.tt_members.specs.declared.step.Audience.TheVariants.{One}
use Rattle.tt_members.specs.declared.step.Step.{Step}
use Rattle.tt_members.specs.Edits.{marks_of, place_of}
use Rattle.tt_members.specs.Leaving.{ending, leaving, left, others}
use Rattle.tt_members.specs.Planned.{Planned, nothing}
use Rattle.tt_members.specs.Queues.{beginning, moving, unasked, unasking}
use Rattle.tt_members.specs.Steps.{says, says_one, says_several, shows}

-- ---- GETMAP: it waits, and stands last in the queue

abbrev pub waiting_marks : ℕ → Member → Marks
waiting_marks frame m = record (marks_of m) { status = MapWait; since = frame }

abbrev pub asking : List ℕ → ℕ → Member → Planned
asking queue frame m = record nothing {
  edits = Mark m.conn (waiting_marks frame m) ∷ beginning frame (length queue) (m.conn ∷ []);
  asks = Some m.conn;
  steps = moving (length queue) (m.conn ∷ []);
}

-- ---- MAP_OK: it catches up

abbrev pub entered_marks : ℕ → ℕ → ℕ × ℕ → Member → Marks
entered_marks frame top words m = record (marks_of m) {
  status = PreActive;
  since = frame;
  acked = m.map_frame;
  told = top;
  token = fresh_token words;
  token_frame = frame;
}

-- one connection is told of each welcomed member
abbrev pub infos : ℕ → List Member → List Step
infos conn ms = map (λ n. says_one conn (client_info n)) (filter is_welcomed ms)

-- it is told all that are welcomed, the commands behind its map, and how far it may run
abbrev pub entering : ℕ → ℕ → ℕ × ℕ → List Member → Member → List Step
entering frame top words ms m =
    infos m.conn ms ++ says (One m.conn) (Entries m.map_frame) ∷ says_one m.conn (ServerFrame frame top (fresh_token words)) ∷ []

abbrev pub entered : ℕ → ℕ → ℕ × ℕ → List Member → List ℕ → Member → Planned
entered frame top words ms queue m = record nothing {
  edits = Mark m.conn (entered_marks frame top words m) ∷ unasked m.conn frame (place_of m.conn queue) queue;
  words = Some (next_random words);
  steps = entering frame top words ms m ++ unasking (place_of m.conn queue) queue;
}

-- ---- ACK

-- the frame is kept, and the open token is closed where another one than 0 comes
abbrev pub acked_marks : Bool → ℕ → Member → Marks
acked_marks true acked m = record (marks_of m) { acked = acked }
acked_marks false acked m = record (marks_of m) { acked = acked; token = 0; token_frame = 0 }

-- whether it plays from then on
abbrev pub catches_up : ℕ → ℕ → Member → Bool
catches_up frame acked m = is_in PreActive m && nat_le frame (acked + 74)

abbrev pub ordered_if : Bool → Member → Option Command
ordered_if true m = Some (new_company m)
ordered_if false m = None

abbrev pub acknowledging_by : Bool → ℕ → Marks → List Member → Member → Planned
acknowledging_by true frame marks ms m = record nothing {
  edits = Mark m.conn (record marks { status = Active; since = frame }) ∷ [];
  orders = ordered_if (m.asked == founder) m;
  steps = says_several (others m.conn ms) (ServerJoin m.client) ∷ shows client_updates (ServerClientJoin m.client) ∷ [];
}
acknowledging_by false frame marks ms m = record nothing { edits = Mark m.conn marks ∷ [] }

abbrev pub acknowledging : ℕ → ℕ → ℕ → List Member → Member → Planned
acknowledging frame acked token ms m = acknowledging_by (catches_up frame acked m) frame (acked_marks (token == 0) acked m) ms m

-- ---- ends, untold and told

abbrev pub leaving_plan : Farewell → ℕ → List Member → List ℕ → Member → Planned
leaving_plan farewell frame ms queue m = record nothing {
  edits = left m.conn frame queue;
  steps = leaving m farewell (others m.conn ms) queue;
}

abbrev pub ending_plan : ℕ → ℕ → List Member → List ℕ → Member → Planned
ending_plan code frame ms queue m = record nothing {
  edits = left m.conn frame queue;
  steps = ending m code (others m.conn ms) queue;
}

-- ---- an opening, where all places are taken and where not

abbrev pub opening : Bool → ℕ → ℕ → ℕ → Planned
opening true conn client frame = record nothing { counts = true; steps = says_one conn ServerFull ∷ says (One conn) End ∷ [] }
opening false conn client frame = record nothing { counts = true; arrives = Some (new_member conn client frame) }
