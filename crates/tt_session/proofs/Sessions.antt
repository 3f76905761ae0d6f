-- Rounds, one after another.
use Rattle.std.proofs.Common.{◌≡◌, ℕ, ◌+◌, List, [], ◌∷◌, ◌++◌, length, take, map, refl, sym, ap, ◌∙◌, subst}
use Rattle.std.proofs.Common.{append_assoc, length-append}
use Rattle.std.specs.List.{AllByRecursion}
use Rattle.std.proofs.lemmas.List.{append-nil}
use Rattle.std.specs.Io.KnownBytes.{Appends}
use Rattle.std.proofs.KnownBytes.{Appends-nil, Appends-trans, Appends-kept}
use Rattle.tt_rounds.specs.Chain.{Each, joined}
use Rattle.tt_rounds.specs.Links.{LinkNow}
use Rattle.tt_rounds.specs.Hearing.{HearsRound}
use Rattle.tt_rounds.specs.Saying.{SaysRound}
use Rattle.tt_rounds.specs.declared.hearing.Heard.{Heard}
use Rattle.tt_rounds.specs.declared.outbox.Said.{Said}
use Rattle.tt_rounds.proofs.Chains.{each_append}
use Rattle.tt_client.specs.Calls.{Feed, Take}
use Rattle.tt_client.specs.Held.{Held, with_call}
use Rattle.tt_client.specs.Saying.{bytes_of}
use Rattle.tt_play_file.specs.declared.line.TimedLine.{TimedLine}
use Rattle.tt_session.specs.declared.acting.Acted.{Acted}
use Rattle.tt_session.specs.Acting.{Action, Feeds, Takes, Standing, begun, Acts, pieces, EndsNone}
use Rattle.tt_session.specs.Doing.{ActsRound}
use Rattle.tt_session.specs.Session.{SinkNow}
use Rattle.tt_session.proofs.Doings.{pieces_append}

-- what hearing and giving make of a client
abbrev pub hears : Held → List ℕ → Held → Type 0
hears old piece new = new ≡ with_call old (Feed piece)

abbrev pub due : Held → List ℕ
due h = bytes_of h.player.saying

abbrev pub says : Held → List ℕ → Held → Type 0
says old bytes new = (bytes ≡ take (length bytes) (bytes_of old.player.saying)) × (new ≡ with_call old (Take (length bytes)))

-- ---- chains

abbrev pub with_client : Standing → Held → Standing
with_client s h = record s { client = h }

abbrev pub with_said : Standing → Held → List ℕ → Standing
with_said s h bytes = record s { client = h; said = bytes }

feed_chain : (s : Standing) (h h' : Held) (ps : List (List ℕ)) → s.client ≡ h → Each hears h ps h'
    → Each Acts s (map (λ p. Feeds p) ps) (with_client s h')
feed_chain s h h' [] is same = ap (with_client s) (same ∙ sym is)
feed_chain s h h' (p ∷ ps) is chain = (
  with_client s chain.0,
  ap (with_client s) (chain.1 ∙ ap (λ (v : Held). with_call v (Feed p)) (sym is)),
  feed_chain (with_client s chain.0) chain.0 h' ps refl chain.2,
)

take_chain : (s : Standing) (h h' : Held) (ps : List (List ℕ)) → s.client ≡ h → Each says h ps h'
    → Each Acts s (map (λ p. Takes p) ps) (with_said s h' (s.said ++ joined ps))
take_chain s h h' [] is same = ap (λ (v : Held). with_said s v (s.said ++ [])) (same ∙ sym is)
    ∙ ap (λ (xs : List ℕ). with_said s s.client xs) (append-nil s.said)
take_chain s h h' (p ∷ ps) is chain =
    let next = with_said s chain.0 (s.said ++ p) in (
      next,
      (
        chain.1.0 ∙ ap (λ (v : Held). take (length p) (bytes_of v.player.saying)) (sym is),
        ap (λ (v : Held). with_said s v (s.said ++ p)) (chain.1.1 ∙ ap (λ (v : Held). with_call v (Take (length p))) (sym is)),
      ),
      subst (λ (xs : List ℕ). Each Acts next (map (λ p. Takes p) ps) (with_said s h' xs)) (append_assoc s.said p (joined ps))
          (take_chain next chain.0 h' ps refl chain.2),
    )

fed_joined : (ps : List (List ℕ)) → pieces (map (λ p. Feeds p) ps) ≡ joined ps
fed_joined [] = refl
fed_joined (p ∷ ps) = ap (λ (t : List ℕ). p ++ t) (fed_joined ps)

pub none_fed : (ps : List (List ℕ)) → pieces (map (λ p. Takes p) ps) ≡ []
none_fed [] = refl
none_fed (p ∷ ps) = none_fed ps

-- ---- a run so far

-- what was read, done, printed and written by these actions, from the start of a run on
pub record Core (client : Held) (lines : List TimedLine) (l l' : LinkNow) (k k' : SinkNow) (now : Held) (waits lost : List ℕ)
    (actions : List Action) (last : Standing) : Type 0 where
  pub acts : Each Acts (begun client lines) actions last
  pub client_is : last.client ≡ now
  pub read : Appends l.read l'.read (pieces actions ++ lost)
  pub out : List ℕ
  pub front : last.said ≡ out ++ waits
  pub written : Appends l.held l'.held out
  pub printed : Appends k.held k'.held last.printed
  pub faults : k'.faults ≡ k.faults

pub core_first : (client : Held) (lines : List TimedLine) (l : LinkNow) (k : SinkNow)
    → Core client lines l l k k client [] [] [] (begun client lines)
core_first client lines l k = record {
  acts = refl;
  client_is = refl;
  read = Appends-nil l.read;
  out = [];
  front = refl;
  written = Appends-nil l.held;
  printed = Appends-nil k.held;
  faults = refl;
}

-- the actions of a round of reads
abbrev pub fed_by : List (List ℕ) → List Action
fed_by ps = map (λ p. Feeds p) ps

abbrev pub taken_by : List (List ℕ) → List Action
taken_by ps = map (λ p. Takes p) ps

-- they end no run
pub feeding_ends : (ps : List (List ℕ)) → AllByRecursion EndsNone (fed_by ps)
feeding_ends [] = tt
feeding_ends (p ∷ ps) = (tt, feeding_ends ps)

pub taking_ends : (ps : List (List ℕ)) → AllByRecursion EndsNone (taken_by ps)
taking_ends [] = tt
taking_ends (p ∷ ps) = (tt, taking_ends ps)

pub core_heard : (client : Held) (lines : List TimedLine) (l l1 l2 : LinkNow) (k k' : SinkNow) (now now' : Held) (waits : List ℕ)
    (r : Heard)
    (actions : List Action) (last : Standing) → Core client lines l l1 k k' now waits [] actions last
    → (round : HearsRound hears now now' l1 l2 r)
    → Core client lines l l2 k k' now' waits round.lost (actions ++ fed_by round.pieces) (with_client last now')
core_heard client lines l l1 l2 k k' now now' waits r actions last c round =
    let fed = fed_by round.pieces in
    record {
      acts = each_append Acts (begun client lines) last (with_client last now') actions fed c.acts (feed_chain last now now' round.pieces
          c.client_is round.heard);
      client_is = refl;
      read = subst (λ (xs : List ℕ). Appends l.read l2.read xs)
          (ap (λ (xs : List ℕ). xs ++ (joined round.pieces ++ round.lost)) (append-nil (pieces actions))
          ∙ sym (append_assoc (pieces actions) (joined round.pieces) round.lost)
          ∙ ap (λ (xs : List ℕ). xs ++ round.lost) (ap (λ (xs : List ℕ). pieces actions ++ xs) (sym (fed_joined round.pieces))
          ∙ sym (pieces_append actions fed)))
          (Appends-trans l.read l1.read l2.read (pieces actions ++ []) (joined round.pieces ++ round.lost) c.read round.read);
      out = c.out;
      front = c.front;
      written = Appends-kept l.held l1.held l2.held c.out c.written round.held;
      printed = c.printed;
      faults = c.faults;
    }

-- how many bytes were fed
pub heard_length : (actions : List Action) (ps : List (List ℕ)) → length (pieces (actions ++ fed_by ps)) ≡ length (pieces actions)
    + length (joined ps)
heard_length actions ps = ap (λ (xs : List ℕ). length xs) (pieces_append actions (fed_by ps) ∙ ap (λ (xs : List ℕ). pieces actions
    ++ xs) (fed_joined ps)) ∙ length-append (pieces actions) (joined ps)

-- actions that feed nothing
pub pieces_same : (actions more : List Action) → pieces more ≡ [] → pieces (actions ++ more) ≡ pieces actions
pieces_same actions more none = pieces_append actions more ∙ ap (λ (xs : List ℕ). pieces actions ++ xs) none ∙ append-nil (pieces actions)

pub core_acted : (client : Held) (lines left : List TimedLine) (l l' : LinkNow) (k k' k'' : SinkNow) (now now' : Held) (waits : List ℕ)
    (r : Acted) (actions : List Action) (last : Standing) → Core client lines l l' k k' now waits [] actions last
    → (a : ActsRound last left now' k' k'' r) → Appends k'.held k''.held a.text → k''.faults ≡ k'.faults
    → Core client lines l l' k k'' now' waits [] (actions ++ a.actions) a.last
core_acted client lines left l l' k k' k'' now now' waits r actions last c a written faults = record {
  acts = each_append Acts (begun client lines) last a.last actions a.actions c.acts a.acts;
  client_is = a.client_is;
  read = subst (λ (xs : List ℕ). Appends l.read l'.read (xs ++ [])) (sym (pieces_same actions a.actions a.fed)) c.read;
  out = c.out;
  front = a.said ∙ c.front;
  written = c.written;
  printed = subst (λ (xs : List ℕ). Appends k.held k''.held xs) (sym a.printed) (Appends-trans k.held k'.held k''.held last.printed a.text
      c.printed written);
  faults = faults ∙ c.faults;
}

pub core_said : (client : Held) (lines : List TimedLine) (l l1 l2 : LinkNow) (k k' : SinkNow) (now now' : Held) (waits waits' : List ℕ)
    (r : Said) (actions : List Action) (last : Standing) → Core client lines l l1 k k' now waits [] actions last
    → (round : SaysRound due says now now' waits waits' l1 l2 r)
    → Core client lines l l2 k k' now' waits' [] (actions ++ taken_by round.moves.given) (with_said last now' (last.said
    ++ joined round.moves.given))
core_said client lines l l1 l2 k k' now now' waits waits' r actions last c round =
    let m = round.moves in
    let taken = taken_by m.given in
    record {
      acts = each_append Acts (begun client lines) last (with_said last now' (last.said ++ joined m.given)) actions taken c.acts
          (take_chain last now now' m.given c.client_is m.said);
      client_is = refl;
      read = Appends-kept l.read l1.read l2.read (pieces (actions ++ taken) ++ []) (subst (λ (xs : List ℕ). Appends l.read l1.read
          (xs ++ [])) (sym (pieces_same actions taken (none_fed m.given))) c.read) m.read;
      out = c.out ++ m.out;
      front = ap (λ (xs : List ℕ). xs ++ joined m.given) c.front ∙ append_assoc c.out waits (joined m.given)
          ∙ ap (λ (xs : List ℕ). c.out ++ xs) m.balance ∙ sym (append_assoc c.out m.out waits');
      written = Appends-trans l.held l1.held l2.held c.out m.out c.written m.written;
      printed = c.printed;
      faults = c.faults;
    }
