-- What a stream shows of an end stands in it.
use Rattle.std.proofs.Common.{◌≡◌, inl, inr, ℕ, Bool, true, false, List, [], ◌∷◌, ◌++◌, Option, Some, None, refl, sym, ◌∙◌, subst}
use Rattle.std.proofs.Common.{append_assoc, append-nil}
use Rattle.std.specs.Prelude.{fold, if◌then◌else◌, nat_lt, nat_le, ◌==◌, length}
use Rattle.std.specs.Result.{result_ok}
use Rattle.tt_lockstep.specs.Told as told
use Rattle.tt_lockstep.specs.Told.{Told}
use Rattle.tt_lockstep.specs.Shown as lockstep
use Rattle.tt_lockstep.specs.Shown.{View}
use Rattle.tt_game.specs.declared.message.GameMsg.{GameMsg}
use Rattle.tt_game.specs.declared.message.GameMsg.TheVariants.{ServerFull, ServerBanned, ServerError, ServerShutdown, ServerCheckNewgrfs}
use Rattle.tt_game.specs.declared.message.GameMsg.TheVariants.{ServerNeedGamePassword, ServerNeedCompanyPassword, ServerMapSize}
use Rattle.tt_game.specs.declared.message.GameMsg.TheVariants.{ServerMapData, ServerMapDone, ServerCommand, ServerWelcome}
use Rattle.tt_game.specs.declared.message.GameMsg.TheVariants.{ServerClientInfo, ServerMove}
use Rattle.tt_world.specs.declared.command.Command.{Command}
use Rattle.tt_world.specs.declared.command.Entry.{Entry}
use Rattle.tt_world.specs.World.{WorldState}
use Rattle.tt_map.specs.Reading.{map_in}
use Rattle.tt_rules.specs.Commands.{command_of}
use Rattle.tt_log.specs.Origin.{Origin, game_of}
use Rattle.tt_log.specs.Shown.{Place, Asking, Greeted, Begun, Fetching, InPlay, Parted, told_at, other_if, map_told, whole_map, entry_told}
use Rattle.tt_log.specs.Shown.{Item, items_in, item_told, Shown, Phase, nothing_shown, goes_on, learns, end_by, phase_by, with_item, behind}
use Rattle.tt_log.specs.Shown.{unless_over, shown}
use Rattle.tt_log.specs.Shown as book
use Rattle.std.specs.List.{AllByRecursion}
use Rattle.tt_log.specs.Shown.{server_full}
use Rattle.tt_in_step.specs.Ends.{SomeItem, TellsCode, IsRightPhase, AnyCode, AnyEnd}
use Rattle.tt_in_step.proofs.Bans.{HasNoBan}

-- ---- which messages tell an end

not-other : (b : Bool) → other_if b ≡ told.End → ⊥
not-other true is = cc
not-other false is = cc

not-map : (frame : ℕ) (w : Option WorldState) → map_told frame w ≡ told.End → ⊥
not-map frame (Some w) is = cc
not-map frame None is = cc

not-whole : (b : Bool) (frame : ℕ) (come : List ℕ) → whole_map b frame come ≡ told.End → ⊥
not-whole true frame come is = not-map frame (result_ok (map_in come)) is
not-whole false frame come is = cc

not-entry : (command : Option Command) (company frame sender : ℕ) → entry_told command company frame sender ≡ told.End → ⊥
not-entry (Some command) company frame sender is = cc
not-entry None company frame sender is = cc

-- the item of a message
abbrev item_of : ℕ → Option GameMsg → Item
item_of at msg = record { at = at; msg = msg }

ends-by : (place : Place) (m : GameMsg) (at : ℕ) → told_at place m ≡ told.End → AnyEnd (end_by (Some m)) (item_of at (Some m) ∷ [])
ends-by place ServerFull at is = inl (inl (inr (refl, refl)))
ends-by place ServerBanned at is = inl (inr (refl, refl))
ends-by place (ServerError code) at is = inl (inl (inl refl))
ends-by place ServerShutdown at is = inl refl
ends-by Asking (ServerCheckNewgrfs items) at is = absurd (not-other (length items == 0) is)
ends-by Asking (ServerNeedGamePassword seed id) at is = absurd (not-other _ is)
ends-by Asking (ServerNeedCompanyPassword seed id) at is = absurd (not-other _ is)
ends-by Asking _ at is = absurd cc
ends-by Greeted _ at is = absurd cc
ends-by (Begun frame) (ServerMapSize size) at is = absurd (not-other _ is)
ends-by (Begun frame) _ at is = absurd cc
ends-by (Fetching frame size come) (ServerMapData rest) at is = absurd (not-other _ is)
ends-by (Fetching frame size come) ServerMapDone at is = absurd (not-whole (length come == size) frame come is)
ends-by (Fetching frame size come) _ at is = absurd cc
ends-by InPlay (ServerCommand company code number to text frame sender) at is =
    absurd (not-entry (command_of code number to text) company frame sender is)
ends-by InPlay _ at is = absurd cc
ends-by Parted _ at is = absurd cc

item-ends : (place : Place) (i : Item) → item_told place i.msg ≡ told.End → AnyEnd (end_by i.msg) (i ∷ [])
item-ends place i is = by i.msg is
  where
    by : (msg : Option GameMsg) → item_told place msg ≡ told.End → AnyEnd (end_by msg) (item_of i.at msg ∷ [])
    by None is = absurd cc
    by (Some m) is = ends-by place m i.at is

-- ---- what is seen ends by an end

abbrev going : lockstep.Shown WorldState Entry → Bool
going lockstep.Joining = true
going (lockstep.Running v) = true
going _ = false

abbrev ended : lockstep.Shown WorldState Entry → Bool
ended lockstep.EndedJoining = true
ended (lockstep.Ended v) = true
ended _ = false

not-ended : (b d : Bool) (v w : View WorldState Entry)
    → ended (if b then (if d then lockstep.Running w else lockstep.Wrong v) else lockstep.Wrong v) ≡ true → ⊥
not-ended true true v w is = cc
not-ended true false v w is = cc
not-ended false d v w is = cc

module _ (o : Origin) where
  end-told : (h : lockstep.Shown WorldState Entry) (t : Told WorldState Entry) → going h ≡ true
      → ended (lockstep.seen (game_of o) h t) ≡ true → t ≡ told.End
  end-told h told.End g is = refl
  end-told (lockstep.Running v) (told.Command e) g is = absurd (not-ended (nat_lt v.permitted e.frame) (nat_le v.last_entry e.frame) v _ is)
  end-told (lockstep.Running v) (told.Frame f max) g is = absurd (not-ended (nat_le f max) (nat_le v.permitted max) v _ is)
  end-told (lockstep.Running v) _ g is = absurd cc
  end-told lockstep.Joining _ g is = absurd cc
  end-told _ t g is = absurd cc

  -- the phase behind an item
  item-phase : (k : lockstep.Shown WorldState Entry) (place : Place) (i : Item) → (ended k ≡ true → item_told place i.msg ≡ told.End)
      → AnyEnd (phase_by k i) (i ∷ [])
  item-phase lockstep.Joining place i ends = tt
  item-phase (lockstep.Running v) place i ends = tt
  item-phase lockstep.EndedJoining place i ends = item-ends place i (ends refl)
  item-phase (lockstep.Ended v) place i ends = item-ends place i (ends refl)
  item-phase lockstep.WrongJoining place i ends = tt
  item-phase (lockstep.Wrong v) place i ends = tt

  end-stops : (msg : Option GameMsg) → goes_on (end_by msg) ≡ false
  end-stops (Some ServerFull) = refl
  end-stops (Some ServerBanned) = refl
  end-stops (Some (ServerError code)) = refl
  end-stops _ = refl

  phase-going : (k : lockstep.Shown WorldState Entry) (i : Item) → goes_on (phase_by k i) ≡ going k
  phase-going lockstep.Joining i = refl
  phase-going (lockstep.Running view) i = refl
  phase-going lockstep.EndedJoining i = end-stops i.msg
  phase-going (lockstep.Ended view) i = end-stops i.msg
  phase-going lockstep.WrongJoining i = refl
  phase-going (lockstep.Wrong view) i = refl

  -- ---- whole streams

  some-front : (P : Item → Type 0) (xs ys : List Item) → SomeItem P xs → SomeItem P (xs ++ ys)
  some-front P [] ys a = absurd a
  some-front P (x ∷ xs) ys (inl here) = inl here
  some-front P (x ∷ xs) ys (inr later) = inr (some-front P xs ys later)

  some-back : (P : Item → Type 0) (xs ys : List Item) → SomeItem P ys → SomeItem P (xs ++ ys)
  some-back P [] ys a = a
  some-back P (x ∷ xs) ys a = inr (some-back P xs ys a)

  has-front : (p : Phase) (xs ys : List Item) → AnyEnd p xs → AnyEnd p (xs ++ ys)
  has-front (book.EndedWith code) xs ys a = some-front _ xs ys a
  has-front book.ShutDown xs ys a = some-front _ xs ys a
  has-front _ xs ys a = tt

  has-back : (p : Phase) (xs ys : List Item) → AnyEnd p ys → AnyEnd p (xs ++ ys)
  has-back (book.EndedWith code) xs ys a = some-back _ xs ys a
  has-back book.ShutDown xs ys a = some-back _ xs ys a
  has-back _ xs ys a = tt

  record Stands (s : Shown) (items : List Item) : Type 0 where
    goes : goes_on s.phase ≡ true → going s.seen ≡ true
    has : AnyEnd s.phase items

  learnt : (msg : Option GameMsg) (s : Shown) (items : List Item) → Stands s items → Stands (learns msg s) items
  learnt (Some (ServerWelcome client seed id)) s items h = record { goes = h.goes; has = h.has }
  learnt (Some (ServerClientInfo client company name)) s items h = record { goes = h.goes; has = h.has }
  learnt (Some (ServerMove client company)) s items h = record { goes = h.goes; has = h.has }
  learnt _ s items h = h

  one-stands : (b : Bool) (s : Shown) (done : List Item) (i : Item) → goes_on s.phase ≡ b → Stands s done
      → Stands (if b then behind o s i else s) (done ++ i ∷ [])
  one-stands true s done i is h =
      let next : Shown = with_item o s i in
      let there : Stands next (done ++ i ∷ []) = record {
        goes = λ g. sym (phase-going next.seen i) ∙ g;
        has = has-back next.phase done (i ∷ []) (item-phase next.seen s.place i (λ e. end-told s.seen (item_told s.place i.msg)
            (h.goes is) e));
      } in
      by (goes_on next.phase) next there
    where
      by : (b : Bool) (next : Shown) → Stands next (done ++ i ∷ []) → Stands (if b then learns i.msg next else next) (done ++ i ∷ [])
      by true next h = learnt i.msg next (done ++ i ∷ []) h
      by false next h = h
  one-stands false s done i is h = record { goes = h.goes; has = has-front s.phase done (i ∷ []) h.has }

  all-stand : (items : List Item) (s : Shown) (done : List Item) → Stands s done → Stands (fold (unless_over o) s items) (done ++ items)
  all-stand [] s done h = subst (Stands s) (sym (append-nil done)) h
  all-stand (i ∷ items) s done h = subst (Stands (fold (unless_over o) (unless_over o s i) items)) (append_assoc done (i ∷ []) items)
      (all-stand items (unless_over o s i) (done ++ i ∷ []) (one-stands (goes_on s.phase) s done i refl h))

  -- what a stream shows of an end stands in it
  pub ends-stand : (bytes : List ℕ) → AnyEnd (shown o bytes).phase (items_in bytes)
  ends-stand bytes = (all-stand (items_in bytes) nothing_shown [] (record { goes = λ g. refl; has = tt })).has

-- ---- in what is sent no ban stands

one-code : (code : ℕ) (i : Item) → HasNoBan i → AnyCode code i → TellsCode code i
one-code code i none (inl told) = told
one-code code i none (inr ban) = absurd (none ban.0)

some-code : (code : ℕ) (items : List Item) → AllByRecursion HasNoBan items → SomeItem (AnyCode code) items
    → SomeItem (TellsCode code) items
some-code code [] none h = h
some-code code (i ∷ items) none (inl here) = inl (one-code code i none.0 here)
some-code code (i ∷ items) none (inr later) = inr (some-code code items none.1 later)

pub right-phase : (p : Phase) (items : List Item) → AllByRecursion HasNoBan items → AnyEnd p items
    → ((at : ℕ) → p ≡ book.WrongAt at → ⊥) → IsRightPhase p items
right-phase book.Joining items none h right = tt
right-phase book.Loaded items none h right = tt
right-phase (book.EndedWith code) items none h right = some-code code items none h
right-phase book.ShutDown items none h right = h
right-phase (book.WrongAt at) items none h right = right at refl
