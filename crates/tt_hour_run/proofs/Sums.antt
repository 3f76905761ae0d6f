-- A summary is its parts, one behind the other.
use Rattle.std.proofs.Common.{◌≡◌, ℕ, zero, suc, ◌+◌, List, [], ◌++◌, length, refl, sym, ap, ap₂, ◌∙◌, append_assoc, arith, Option, cond}
use Rattle.tt_client.specs.Held.{Held}
use Rattle.tt_edge.specs.Event.{opens}
use Rattle.tt_edge.specs.declared.event.Event.{Event}
use Rattle.tt_hub.specs.Hub.{origin}
use Rattle.tt_log.specs.History.{table_of, journal_of, world_behind}
use Rattle.tt_log.specs.Origin.{Origin}
use Rattle.tt_log.specs.Told.{sent}
use Rattle.tt_playing.specs.Attached.{client_in}
use Rattle.tt_playing.specs.Played.{Played}
use Rattle.tt_playing.specs.Playing.{IsAt, client_at}
use Rattle.tt_playing.specs.declared.play.Play.{Play}
use Rattle.tt_playing.proofs.Lines.{client_is}
use Rattle.tt_report.specs.Summary.{connections_line, count_line, count_lines, entries_line, frame_line, refused_line, running_line}
use Rattle.tt_report.specs.Summary.{words_line}
use Rattle.tt_hour_run.specs.Summed.{runs_at, running_upto, game_summary, summary_of}

-- the same clients are as many
running_same : (frame : ℕ) (one other : ℕ → Option Held) (n : ℕ) → ((conn : ℕ) → one conn ≡ other conn)
    → running_upto frame one n ≡ running_upto frame other n
running_same frame one other zero same = refl
running_same frame one other (suc n) same =
    ap₂ ◌+◌ (running_same frame one other n same) (ap (λ (h : Option Held). cond (runs_at frame h) 1 0) (same (suc n)))

-- what was written of a play is the summary of its lines
pub summary_is : (o : Origin) (play : Play) (p : Played) (none game refused whole : List ℕ) (running : ℕ) → IsAt o play p → none ≡ []
    → game ≡ none ++ game_summary (origin play.hub) play.hub.events → refused ≡ game ++ refused_line play.refused
    → running ≡ running_upto (table_of (origin play.hub) play.hub.events).frame (client_at play) (opens play.hub.events)
    → whole ≡ refused ++ running_line running → whole ≡ summary_of o p
summary_is o play p none game refused whole running at is_none is_game is_refused is_running is_whole =
    let first : game ≡ game_summary o p.events =
    is_game ∙ ap₂ (λ (l m : List ℕ). l ++ m) is_none (ap₂ game_summary at.made at.events) in
    let second : refused ≡ game_summary o p.events ++ refused_line p.refused =
    is_refused ∙ ap₂ (λ (l : List ℕ) (k : ℕ). l ++ refused_line k) first at.refused in
    let counted : running ≡ running_upto (table_of o p.events).frame (λ conn. client_in (p.clients conn)) (opens p.events) =
    is_running ∙ ap₂ (λ (q : Origin) (es : List Event). running_upto (table_of q es).frame (client_at play) (opens es)) at.made at.events
    ∙ running_same (table_of o p.events).frame (client_at play) (λ conn. client_in (p.clients conn)) (opens p.events)
    (λ conn. client_is o play p conn at) in
    is_whole ∙ ap₂ (λ (l : List ℕ) (k : ℕ). l ++ running_line k) second counted

-- one connection's line more
pub next_count : (count : ℕ → ℕ) (n next told : ℕ) (start text after : List ℕ) → text ≡ start ++ count_lines count n
    → after ≡ text ++ count_line next told → told ≡ count next → next ≡ n + 1 → after ≡ start ++ count_lines count next
next_count count n next told start text after so_far more is one =
    let next_is : next ≡ suc n = omega (arith, one) in
    more ∙ ap₂ (λ (xs : List ℕ) (k : ℕ). xs ++ count_line next k) so_far is
    ∙ ap (λ (m : ℕ). start ++ count_lines count n ++ count_line m (count m)) next_is
    ∙ append_assoc start (count_lines count n) (count_line (suc n) (count (suc n)))
    ∙ ap (λ (m : ℕ). start ++ count_lines count m) (sym next_is)

-- one part behind others
behind : (start text more now then : List ℕ) → text ≡ start ++ then → more ≡ text ++ now → more ≡ start ++ (then ++ now)
behind start text more now then so_far is = is ∙ ap (λ (xs : List ℕ). xs ++ now) so_far ∙ append_assoc start then now

-- the parts of what a game comes to are written one behind the other
pub game_is : (o : Origin) (events : List Event) (conns last frame entries : ℕ) (words : ℕ × ℕ) (start a b c d e : List ℕ)
    → a ≡ start ++ connections_line conns → b ≡ a ++ frame_line frame → c ≡ b ++ entries_line entries → d ≡ c ++ words_line words
    → e ≡ d ++ count_lines (λ conn. length (sent o events conn)) last
    → conns ≡ opens events → frame ≡ (table_of o events).frame → entries ≡ length (journal_of o events)
    → words ≡ (world_behind o events).words → last ≡ opens events → e ≡ start ++ game_summary o events
game_is o events conns last frame entries words start a b c d e one two three four five is_conns is_frame is_entries is_words is_last =
    let first : a ≡ start ++ connections_line (opens events) = one ∙ ap (λ (n : ℕ). start ++ connections_line n) is_conns in
    let second = behind start a b (frame_line (table_of o events).frame) (connections_line (opens events)) first
    (two ∙ ap (λ (n : ℕ). a ++ frame_line n) is_frame) in
    let third = behind start b c (entries_line (length (journal_of o events))) _ second
    (three ∙ ap (λ (n : ℕ). b ++ entries_line n) is_entries) in
    let fourth = behind start c d (words_line (world_behind o events).words) _ third
    (four ∙ ap (λ (w : ℕ × ℕ). c ++ words_line w) is_words) in
    behind start d e (count_lines (λ conn. length (sent o events conn)) (opens events)) _ fourth
    (five ∙ ap (λ (n : ℕ). d ++ count_lines (λ conn. length (sent o events conn)) n) is_last)
