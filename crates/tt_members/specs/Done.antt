-- What a plan does to a table, and that it is what a rule does.
use Rattle.std.specs.Prelude.{◌≡◌, ℕ, ◌+◌, Bool, true, false, List, [], ◌∷◌, ◌++◌, filter, nat_lt, not, ◌==◌, Option, Some, None}
use Rattle.std.specs.Prelude.{option_map}
use Rattle.tt_world.specs.declared.setup.Setup.{Setup}
use Rattle.tt_world.specs.declared.command.Command.{Command}
use Rattle.tt_log.specs.Origin.{Origin}
use Rattle.tt_log.specs.Member.{Member}
use Rattle.tt_log.specs.Table.{Table, option_list}
use Rattle.tt_log.specs.Deed.{Deed}
use Rattle.tt_members.specs.declared.edit.Beat.{Beat}
use Rattle.tt_members.specs.declared.edit.Offer.{Offer}
use Rattle.tt_members.specs.Planned.{Planned}
use Rattle.tt_members.specs.Crew.{Crew, Rest, origin_at, table_at, founders_in}
use Rattle.tt_members.specs.Edits.{on, members_after, queue_after}
use Rattle.tt_members.specs.Steps.{steps_in, stamped_in}

-- ---- one field each

-- a list with one more behind it, or not
abbrev pub behind : {A : Type 0} → Option A → List A → List A
behind None xs = xs
behind (Some x) xs = xs ++ x ∷ []

-- a value in the place of another one, or not
abbrev pub in_place : {A : Type 0} → Option A → A → A
in_place None x = x
in_place (Some y) x = y

abbrev pub counted : Bool → ℕ → ℕ
counted true n = n + 1
counted false n = n

abbrev pub renamed : Option (ℕ × List ℕ) → List Member → List Member
renamed None ms = ms
renamed (Some n) ms = on n.0 (λ m. record m { name = n.1 }) ms

abbrev pub offered : Option Offer → List Member → List Member
offered None ms = ms
offered (Some w) ms = on w.conn (λ m. record m { waiting = m.waiting ++ (w.company, w.command) ∷ [] }) ms

-- the members behind a plan
abbrev pub members_behind : Planned → List Member → List Member
members_behind p ms = behind p.arrives (members_after p.edits (offered p.offers (renamed p.names ms)))

abbrev pub digests_behind : Option (ℕ × Option (List ℕ)) → List (ℕ × List ℕ) → List (ℕ × List ℕ)
digests_behind None digests = digests
digests_behind (Some l) digests = filter (λ (d : ℕ × List ℕ). not (d.0 == l.0)) digests
    ++ option_list (option_map (λ (d : List ℕ). (l.0, d)) l.1)

-- a tick stamps the server's own list whole
abbrev pub own_behind : Option Beat → Option Command → List Command → List Command
own_behind None orders own = behind orders own
own_behind (Some beat) orders own = behind orders []

abbrev pub frame_behind : Option Beat → ℕ → ℕ
frame_behind None frame = frame
frame_behind (Some beat) frame = beat.frame

abbrev pub top_behind : Option Beat → ℕ → ℕ
top_behind None top = top
top_behind (Some beat) top = beat.top

-- whose company is founded at a frame is a founder no longer
abbrev pub founders_behind : Option Beat → List (ℕ × ℕ) → List (ℕ × ℕ)
founders_behind None founders = founders
founders_behind (Some beat) founders = filter (λ (f : ℕ × ℕ). nat_lt beat.frame f.0) founders

-- ---- the table, and the members' part of it

abbrev pub done : Planned → Table → Table
done p t = record t {
  members = members_behind p t.members;
  queue = behind p.asks (queue_after p.edits t.queue);
  digests = digests_behind p.locks t.digests;
  own = own_behind p.beat p.orders t.own;
  tokens = in_place p.words t.tokens;
  journal = t.journal ++ stamped_in p.steps;
  frame = frame_behind p.beat t.frame;
  top = top_behind p.beat t.top;
  openings = counted p.counts t.openings;
  clients = counted p.counts t.clients;
}

abbrev pub committed : Planned → Crew → Crew
committed p crew = record {
  members = members_behind p crew.members;
  queue = behind p.asks (queue_after p.edits crew.queue);
  digests = digests_behind p.locks crew.digests;
  own = own_behind p.beat p.orders crew.own;
  tokens = in_place p.words crew.tokens;
  clients = counted p.counts crew.clients;
  founders = founders_behind p.beat (crew.founders ++ founders_in (stamped_in p.steps));
}

-- a plan tells what a rule tells, and does what it does, to the table of these members
pub record Does (setup : Setup) (crew : Crew) (frame top : ℕ) (r : Rest) (rule : Origin → Table → Deed) (p : Planned) : Type 0 where
  pub told : steps_in r.admins p.steps ≡ (rule (origin_at setup r) (table_at crew frame top r)).told
  pub table : done p (table_at crew frame top r) ≡ (rule (origin_at setup r) (table_at crew frame top r)).table
