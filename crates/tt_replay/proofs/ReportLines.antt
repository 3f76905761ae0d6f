-- Where the lines of a client stand in a report.
use Rattle.std.proofs.Common.{◌≡◌, ◌≤◌, ℕ, zero, suc, List, [], ◌++◌, Option, Some, inl, inr, sym, ap, ◌∙◌, subst, append_assoc}
use Rattle.std.proofs.Common.{append-nil, arith}
use Rattle.std.proofs.lemmas.Bool.{cases_lt}
use Rattle.tt_edge.specs.Event.{opens}
use Rattle.tt_client.specs.Held.{Held}
use Rattle.tt_log.specs.Contents.{Contents}
use Rattle.tt_log.specs.History.{journal_of, world_behind}
use Rattle.tt_log.specs.Origin.{Origin}
use Rattle.tt_log.specs.Printing.{IsScript}
use Rattle.tt_report.specs.Clients.{lines_of_client}
use Rattle.tt_report.specs.Entries.{entry_lines}
use Rattle.tt_report.specs.Summary.{refused_if_any}
use Rattle.tt_report.specs.Worlds.{holding_lines}
use Rattle.tt_playing.specs.Attached.{Attached, client_in, client_of}
use Rattle.tt_playing.specs.Begun.{origin_in}
use Rattle.tt_playing.specs.InStep.{IsOnMain, LinesInStep, behind}
use Rattle.tt_playing.specs.Played.{Played}
use Rattle.tt_replay.specs.Report.{clients_upto, conn_lines, lines_on, standing_line}
use Rattle.tt_replay.specs.InStep.{StandsIn, TellsInStep}

-- those of a connection stand among those of all up to a later one
among : (client : ℕ → Option Held) (n conn : ℕ) → 1 ≤ conn → conn ≤ n → StandsIn (lines_on conn (client conn)) (clients_upto client n)
among client zero conn some within = absurd (omega (arith, some, within))
among client (suc n) conn some within = elim (cases_lt n conn) [
  | inl last ↦ (
      let same : suc n ≡ conn = omega (arith, last, within) in
      subst (λ (k : ℕ). StandsIn (lines_on k (client k)) (clients_upto client (suc n))) same
      (clients_upto client n, [], sym (append-nil (clients_upto client (suc n))))
      )
  | inr low ↦ (
      let there = among client n conn some low in
      let part = lines_on conn (client conn) in
      let last = lines_on (suc n) (client (suc n)) in (
        there.0,
        there.1 ++ last,
        ap (λ (text : List ℕ). text ++ last) there.2 ∙ append_assoc (there.0 ++ part) there.1 last,
      )
      )
]

parts : (a b c d e f : List ℕ) → a ++ b ++ c ++ d ++ e ++ f ≡ a ++ b ++ (c ++ d ++ e ++ f)
parts a b c d e f = simp append_assoc

more-parts : (a b before part after d e f : List ℕ)
    → a ++ b ++ (before ++ part ++ after) ++ d ++ e ++ f ≡ (a ++ b ++ before) ++ part ++ (after ++ d ++ e ++ f)
more-parts a b before part after d e f = simp append_assoc

pub tells : LinesInStep → (script : Contents) (conn : ℕ) (a : Attached) → IsScript script → (behind script).clients conn ≡ Some a
    → IsOnMain (behind script) conn → TellsInStep script (origin_in script) (behind script) conn a
tells law script conn a is there on =
    let o : Origin = origin_in script in
    let p : Played = behind script in
    let client : ℕ → Option Held = λ c. client_in (p.clients c) in
    let own = lines_of_client conn (client_of a) in
    let conns = conn_lines o p.events (opens p.events) in
    let journal = entry_lines (journal_of o p.events) in
    let clients = clients_upto client (opens p.events) in
    let server = standing_line o p.events in
    let world = holding_lines (world_behind o p.events) in
    let refused = refused_if_any p.refused in
    let among_all : StandsIn own clients = subst (λ (x : Option Attached). StandsIn (lines_on conn (client_in x)) clients) there
    (among client (opens p.events) conn on.some on.opened) in
    record {
      journal = (conns, clients ++ server ++ world ++ refused, parts conns journal clients server world refused);
      client = (
        conns ++ journal ++ among_all.0,
        among_all.1 ++ server ++ world ++ refused,
        ap (λ (text : List ℕ). conns ++ journal ++ text ++ server ++ world ++ refused) among_all.2
            ∙ more-parts conns journal among_all.0 own among_all.1 server world refused,
      );
      in_step = λ plain. law script conn a is there plain;
    }
