-- A report is its parts, one behind the other.
use Rattle.std.proofs.Common.{◌≡◌, ◌≢◌, ℕ, zero, suc, ◌+◌, ◌<◌, true, List, []}
use Rattle.std.proofs.Common.{◌++◌, take, refl, sym, ap, ap₂, ◌∙◌, append_assoc, arith, Option}
use Rattle.tt_client.specs.Held.{Held}
use Rattle.tt_edge.specs.declared.event.Event.{Event}
use Rattle.tt_edge.specs.Event.{opens}
use Rattle.tt_hub.specs.Hub.{HubState, origin, taken}
use Rattle.tt_world.specs.declared.command.Entry.{Entry}
use Rattle.tt_world.specs.World.{WorldState}
use Rattle.tt_log.specs.Doors.{door_of}
use Rattle.tt_log.specs.History.{journal_of, world_behind}
use Rattle.tt_log.specs.Origin.{Origin}
use Rattle.tt_log.specs.Told.{sent}
use Rattle.tt_playing.specs.Attached.{client_in, given_in}
use Rattle.tt_playing.specs.Played.{Played}
use Rattle.tt_playing.specs.Playing.{IsAt, client_at}
use Rattle.tt_playing.specs.declared.play.Play.{Play}
use Rattle.tt_playing.specs.declared.play.Connection.{Connection}
use Rattle.tt_playing.proofs.Lines.{client_is}
use Rattle.tt_report.specs.Entries.{entry_lines}
use Rattle.tt_report.specs.Summary.{refused_if_any}
use Rattle.tt_report.specs.Worlds.{holding_lines}
use Rattle.tt_replay.specs.Report.{conn_line, conn_lines, clients_upto, lines_on, report_of, standing_line}
use Rattle.tt_replay.specs.Reporting.{AreToBeTold, IsToBeTold}

-- the same clients have the same lines
clients_same : (one other : ℕ → Option Held) (n : ℕ) → ((conn : ℕ) → one conn ≡ other conn) → clients_upto one n ≡ clients_upto other n
clients_same one other zero same = refl
clients_same one other (suc n) same =
    ap₂ (λ (xs ys : List ℕ). xs ++ ys) (clients_same one other n same) (ap (lines_on (suc n)) (same (suc n)))

-- whatever the hub is, the clients are those of the connections
client_stays : (play : Play) (hub : HubState) (conn : ℕ) → client_at (record play { hub = hub }) conn ≡ client_at play conn
client_stays play hub zero = refl
client_stays play hub (suc place) = refl

-- the clients of a play are those of its lines
pub clients_are : (o : Origin) (play : Play) (p : Played) (hub : HubState) (n : ℕ) → IsAt o play p
    → clients_upto (client_at (record play { hub = hub })) n ≡ clients_upto (λ conn. client_in (p.clients conn)) n
clients_are o play p hub n at = clients_same (client_at (record play { hub = hub })) (λ conn. client_in (p.clients conn)) n
    (λ conn. client_stays play hub conn ∙ client_is o play p conn at)

-- the lines of the connections, of the journal, of the clients, of the server, of its world and of what was refused are written
-- behind nothing
pub report-joined : (o first then : Origin) (p : Played) (events later : List Event) (connections : ℕ) (entries : List Entry)
    (of_clients : List ℕ) (world : WorldState) (refused : ℕ) (none conns journal clients server holdings whole : List ℕ)
    → none ≡ [] → conns ≡ none ++ conn_lines first events connections → journal ≡ conns ++ entry_lines entries
    → clients ≡ journal ++ of_clients
    → server ≡ clients ++ standing_line then later
    → holdings ≡ server ++ holding_lines world → whole ≡ holdings ++ refused_if_any refused
    → first ≡ o → then ≡ first → events ≡ p.events → later ≡ events → connections ≡ opens p.events → entries ≡ journal_of then later
    → of_clients ≡ clients_upto (λ conn. client_in (p.clients conn)) (opens p.events)
    → world ≡ world_behind then later → refused ≡ p.refused
    → whole ≡ report_of o p
report-joined o first then p events later connections entries of_clients world refused none conns journal clients server holdings
    whole begins
    told stamped attached stands holds counts same goes_on of_p kept count entries_are clients_are world_is as_many =
    let own : then ≡ o = goes_on ∙ same in
    let now : later ≡ p.events = kept ∙ of_p in
    let A : List ℕ = conn_lines o p.events (opens p.events) in
    let B : List ℕ = entry_lines (journal_of o p.events) in
    let K : List ℕ = clients_upto (λ conn. client_in (p.clients conn)) (opens p.events) in
    let C : List ℕ = standing_line o p.events in
    let a : conns ≡ A =
    told ∙ ap (λ (xs : List ℕ). xs ++ conn_lines first events connections) begins
    ∙ ap₂ (λ (g : Origin) (es : List Event). conn_lines g es connections) same of_p ∙ ap (conn_lines o p.events) count in
    let the_journal : entries ≡ journal_of o p.events = entries_are ∙ ap₂ journal_of own now in
    let b : journal ≡ A ++ B = stamped ∙ ap₂ (λ (xs : List ℕ) (es : List Entry). xs ++ entry_lines es) a the_journal in
    let k : clients ≡ A ++ B ++ K = attached ∙ ap₂ (λ (xs ys : List ℕ). xs ++ ys) b clients_are in
    let the_line : standing_line then later ≡ C = ap₂ standing_line own now in
    let c : server ≡ A ++ B ++ K ++ C = stands ∙ ap₂ (λ (xs ys : List ℕ). xs ++ ys) k the_line in
    let the_world : world ≡ world_behind o p.events = world_is ∙ ap₂ world_behind own now in
    let d : holdings ≡ A ++ B ++ K ++ C ++ holding_lines (world_behind o p.events) =
    holds ∙ ap₂ (λ (xs : List ℕ) (w : WorldState). xs ++ holding_lines w) c the_world in
    counts ∙ ap₂ (λ (xs : List ℕ) (m : ℕ). xs ++ refused_if_any m) d as_many

-- one connection's line more
pub next_line : (o g : Origin) (es fs : List Event) (n next : ℕ) (start text after : List ℕ) → text ≡ start ++ conn_lines o es n
    → after ≡ text ++ conn_line g fs next → g ≡ o → fs ≡ es → next ≡ n + 1 → after ≡ start ++ conn_lines o es next
next_line o g es fs n next start text after so_far more same kept count =
    let one : next ≡ suc n = omega (arith, count) in
    let line : conn_line g fs next ≡ conn_line o es (suc n) =
    ap₂ (λ (a : Origin) (xs : List Event). conn_line a xs next) same kept ∙ ap (conn_line o es) one in
    more ∙ ap₂ (λ (xs ys : List ℕ). xs ++ ys) so_far line ∙ append_assoc start (conn_lines o es n) (conn_line o es (suc n))
    ∙ ap (λ (m : ℕ). start ++ conn_lines o es m) (sym one)

-- one client's lines more
pub next_client : (client : ℕ → Option Held) (n next : ℕ) (start text after : List ℕ) → text ≡ start ++ clients_upto client n
    → after ≡ text ++ lines_on next (client next) → next ≡ n + 1 → after ≡ start ++ clients_upto client next
next_client client n next start text after so_far more count =
    let one : next ≡ suc n = omega (arith, count) in
    more ∙ ap₂ (λ (xs ys : List ℕ). xs ++ ys) so_far (ap (λ (m : ℕ). lines_on m (client m)) one)
    ∙ append_assoc start (clients_upto client n) (lines_on (suc n) (client (suc n)))
    ∙ ap (λ (m : ℕ). start ++ clients_upto client m) (sym one)

-- ---- what is to be told of connections

pub to_be_told : (o : Origin) (play : Play) (p : Played) → IsAt o play p → play.keeps ≡ true → AreToBeTold play.hub play.connections.items
to_be_told o play p at keeps place other within =
    let kept = at.each place other within in
    record {
      door = ap (λ (es : List Event). door_of es (place + 1)) at.events ∙ kept.door;
      told = kept.told keeps ∙ ap₂ (λ (n : ℕ) (xs : List ℕ). take n xs) (sym (at.given (place + 1)))
          (ap₂ (λ (g : Origin) (es : List Event). sent g es (place + 1)) (sym at.made) (sym at.events));
    }

-- one of which nothing was taken since
pub still_to_be_told : (first hub : HubState) (conn next : ℕ) (c : Connection) → IsToBeTold first conn c → next ≡ conn
    → origin hub ≡ origin first → hub.events ≡ first.events → taken hub next ≡ taken first next → IsToBeTold hub next c
still_to_be_told first hub conn next c is same own kept untaken = record {
  door = ap₂ (λ (es : List Event) (n : ℕ). door_of es n) kept same ∙ is.door;
  told = is.told ∙ ap (λ (n : ℕ). take (taken first n) (sent (origin first) first.events n)) (sym same)
      ∙ ap₂ (λ (n : ℕ) (xs : List ℕ). take n xs) (sym untaken) (ap₂ (λ (g : Origin) (es : List Event). sent g es next) (sym own)
      (sym kept));
}
