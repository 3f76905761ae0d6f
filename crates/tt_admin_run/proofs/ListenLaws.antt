-- What a round of reads comes to.
use Rattle.std.proofs.Common.{◌≡◌, ℕ, ◌≤◌, Bool, List, [], ◌∷◌, ◌++◌, length, drop, refl, sym, ap, subst}
use Rattle.std.proofs.Common.{◌∙◌, append_assoc}
use Rattle.std.proofs.Common.{Option, Some, None}
use Rattle.std.specs.Io.KnownBytes.{Appends}
use Rattle.std.proofs.KnownBytes.{Appends-nil}
use Rattle.std.proofs.lemmas.List.{append-nil}
use Rattle.tt_frame.specs.Packet.{IsBytes}
use Rattle.tt_edge.specs.Count.{Rose}
use Rattle.tt_edge.specs.Link.{LinkCounts}
use Rattle.tt_edge.specs.Sink.{AppendsPart}
use Rattle.tt_rounds.specs.Links.{LinkNow}
use Rattle.tt_rounds.specs.Chain.{Each, joined}
use Rattle.tt_rounds.specs.Hearing.{HearsRound, HeardCounts, IsLost}
use Rattle.tt_rounds.specs.declared.hearing.Heard.{Heard}
use Rattle.tt_rounds.specs.declared.hearing.Heard.TheVariants as heard
use Rattle.tt_admin_run.specs.declared.hearing.Notes.{Notes}
use Rattle.tt_admin_run.specs.declared.ended.Ended.{Ended}
use Rattle.tt_admin_run.specs.declared.ended.Ended.TheVariants as ended
use Rattle.tt_admin_run.specs.Hearing.{Passes}
use Rattle.tt_admin_run.specs.Listening.{IsEnding}
use Rattle.tt_admin_run.specs.Rounds.{HearsAll, ListensTo, ListenCounts, ListenSink, NoneLost, Listens, SinkNow}
use Rattle.tt_admin_run.proofs.HearingLaws.{bytes_none, bytes_then, Answer}

-- what a piece makes of an inbox
abbrev pub Fills : List ℕ → List ℕ → List ℕ → Type 0
Fills old piece new = IsBytes piece × (new ≡ old ++ piece)

-- all pieces stand behind what was there
pub filled : (b b' : List ℕ) (pieces : List (List ℕ)) → Each Fills b pieces b' → IsBytes (joined pieces)
    × (b' ≡ b ++ joined pieces)
filled b b' [] same = (bytes_none, same ∙ sym (append-nil b))
filled b b' (piece ∷ pieces) each =
    let rest = filled each.0 b' pieces each.2 in (
      bytes_then piece (joined pieces) each.1.0 rest.0,
      rest.1 ∙ ap (λ (bs : List ℕ). bs ++ joined pieces) each.1.1 ∙ append_assoc b piece (joined pieces),
    )

-- memory ran out, before or behind what was heard
pub listens_memory : (b b1 b' : List ℕ) (n n' : Notes) (l l' : LinkNow) (k k' : SinkNow) (h : Heard)
    → HearsRound Fills b b1 l l' h → k' ≡ k → Listens b b' n n' l l' k k' (Some ended.Memory)
listens_memory b b1 b' n n' l l' k k' h round same =
    let all = filled b b1 round.pieces round.heard in
    record {
      bytes = joined round.pieces;
      each = all.0;
      lost = round.lost;
      none_lost = tt;
      read = round.read;
      kept = round.held;
      text = [];
      told = subst (λ (x : SinkNow). Appends k.held x.held []) (sym same) (Appends-nil k.held);
      heard = refl;
      link = (h, round.counts);
      sink = ap (λ (x : SinkNow). x.faults) same;
    }

none_lost : (h : Heard) (lost : List ℕ) → IsLost h lost → (h ≡ heard.Memory → ⊥) → lost ≡ []
none_lost heard.Memory lost is not = absurd (not refl)
none_lost h lost is not = is

hears_all : (b b1 b' : List ℕ) (n n' : Notes) (pieces : List (List ℕ)) (text : List ℕ) (taken : ℕ) → Each Fills b pieces b1
    → Answer n n' b1 [] text taken → b' ≡ drop taken b1 → HearsAll n n' (b ++ joined pieces) b' text
hears_all b b1 b' n n' pieces text taken each answer is =
    let all = filled b b1 pieces each in
    subst (λ (rest : List ℕ). HearsAll n n' (b ++ joined pieces) rest text) (sym is)
    (subst (λ (t : List ℕ). HearsAll n n' (b ++ joined pieces) (drop taken b1) t) (sym answer.1) (
      subst (λ (bs : List ℕ). Passes n n' bs (drop taken b1) answer.0) all.1 answer.2.passes,
      answer.2.settled,
    ))

-- the sink failed
pub listens_sink : (b b1 b' : List ℕ) (n n' : Notes) (l l' : LinkNow) (k k' : SinkNow) (h : Heard) (text : List ℕ) (taken : ℕ)
    → HearsRound Fills b b1 l l' h → (h ≡ heard.Memory → ⊥) → Answer n n' b1 [] text taken
    → b' ≡ drop taken b1 → AppendsPart k.held k'.held text → k.faults ≤ k'.faults → Rose k.faults k'.faults
    → Listens b b' n n' l l' k k' (Some ended.SinkFault)
listens_sink b b1 b' n n' l l' k k' h text taken round not answer is part up rose =
    let all = filled b b1 round.pieces round.heard in
    record {
      bytes = joined round.pieces;
      each = all.0;
      lost = round.lost;
      none_lost = none_lost h round.lost round.none_lost not;
      read = round.read;
      kept = round.held;
      text = part.2.0;
      told = part.2.2;
      heard = (text, hears_all b b1 b' n n' round.pieces text taken round.heard answer is, (part.0, part.2.1));
      link = (h, round.counts);
      sink = (up, rose);
    }

-- why it ends, and what of the link's counts goes with it
ends_so : (r : Option Ended) (n n' : Notes) (h : Heard) (bytes rest text : List ℕ) (c c' : LinkCounts) (x : ℕ)
    → HearsAll n n' bytes rest text → (h ≡ heard.Memory → ⊥) → HeardCounts c c' x h → IsEnding n'.refused n'.shutdown h r
    → ListensTo r bytes rest n n' text × ListenCounts r c c' x
ends_so None n n' h bytes rest text c c' x all not counts is =
    ((all, (is.0, is.1)), subst (λ (y : Heard). HeardCounts c c' x y) is.2 counts)
ends_so (Some ended.LinkEnd) n n' h bytes rest text c c' x all not counts is =
    ((all, (is.0, is.1)), subst (λ (y : Heard). HeardCounts c c' x y) is.2 counts)
ends_so (Some ended.LinkFault) n n' h bytes rest text c c' x all not counts is =
    ((all, (is.0, is.1)), subst (λ (y : Heard). HeardCounts c c' x y) is.2 counts)
ends_so (Some ended.Refused) n n' h bytes rest text c c' x all not counts is = ((all, is), (h, counts))
ends_so (Some ended.Shutdown) n n' h bytes rest text c c' x all not counts is = ((all, is.0, is.1), (h, counts))
ends_so (Some ended.Memory) n n' h bytes rest text c c' x all not counts is = absurd (not is.2)
ends_so (Some ended.Quit) n n' h bytes rest text c c' x all not counts is = absurd is
ends_so (Some ended.SinkFault) n n' h bytes rest text c c' x all not counts is = absurd is
ends_so (Some ended.TickFault) n n' h bytes rest text c c' x all not counts is = absurd is
ends_so (Some ended.Stopped) n n' h bytes rest text c c' x all not counts is = absurd is

-- an end that is none of memory's or the sink's
abbrev IsPlain : Option Ended → Type 0
IsPlain (Some ended.Memory) = ⊥
IsPlain (Some ended.SinkFault) = ⊥
IsPlain other = Unit {0}

is_plain : (r : Option Ended) (a b : Bool) (h : Heard) → (h ≡ heard.Memory → ⊥) → IsEnding a b h r → IsPlain r
is_plain (Some ended.Memory) a b h not is = not is.2
is_plain (Some ended.SinkFault) a b h not is = is
is_plain r a b h not is = tt

plain_lost : (r : Option Ended) (lost : List ℕ) → IsPlain r → lost ≡ [] → NoneLost r lost
plain_lost (Some ended.Memory) lost plain is = absurd plain
plain_lost (Some ended.SinkFault) lost plain is = absurd plain
plain_lost r lost plain is = is

plain_sink : (r : Option Ended) (k k' : ℕ) → IsPlain r → k' ≡ k → ListenSink r k k'
plain_sink (Some ended.Memory) k k' plain is = absurd plain
plain_sink (Some ended.SinkFault) k k' plain is = absurd plain
plain_sink r k k' plain is = is

-- all was heard and told
pub listens_all : (b b1 b' : List ℕ) (n n' : Notes) (l l' : LinkNow) (k k' : SinkNow) (h : Heard) (text : List ℕ) (taken : ℕ)
    (r : Option Ended) → HearsRound Fills b b1 l l' h → (h ≡ heard.Memory → ⊥) → Answer n n' b1 [] text taken
    → b' ≡ drop taken b1 → Appends k.held k'.held text → k'.faults ≡ k.faults → IsEnding n'.refused n'.shutdown h r
    → Listens b b' n n' l l' k k' r
listens_all b b1 b' n n' l l' k k' h text taken r round not answer is told quiet ending =
    let all = filled b b1 round.pieces round.heard in
    let plain = is_plain r n'.refused n'.shutdown h not ending in
    let so = ends_so r n n' h (b ++ joined round.pieces) b' text l.counts l'.counts (length (joined round.pieces))
    (hears_all b b1 b' n n' round.pieces text taken round.heard answer is) not round.counts ending in
    record {
      bytes = joined round.pieces;
      each = all.0;
      lost = round.lost;
      none_lost = plain_lost r round.lost plain (none_lost h round.lost round.none_lost not);
      read = round.read;
      kept = round.held;
      text = text;
      told = told;
      heard = so.0;
      link = so.1;
      sink = plain_sink r k.faults k'.faults plain quiet;
    }
