-- Any calls of a framer, one after another.
use Rattle.std.proofs.Common.{◌≡◌, ℕ, ◌^◌, ◌<◌, ◌≤◌, ◌⊎◌, ◌↔◌, inl, inr, Bool, true, false, List, [], ◌∷◌, ◌++◌, length, take, refl, sym}
use Rattle.std.proofs.Common.{ap, ◌∙◌, subst, append_assoc, arith}
use Rattle.std.specs.Prelude.{IsTrue, IsFalse}
use Rattle.std.specs.List.{flat_map, AllByRecursion}
use Rattle.std.proofs.lemmas.List.{append-nil, length-append, get_or_append_left}
use Rattle.std.proofs.lemmas.List.Concat.{flat_map-append}
use Rattle.tt_frame.specs.Packet.{Packet, IsWithin, packet_bytes}
use Rattle.tt_frame.specs.Stream.{stream_of, told_size, Splits, IsBadSize, Cut, Broken, End, rest_of, bad_size, Reads}
use Rattle.tt_frame.specs.Holding.{Holding}
use Rattle.tt_frame.specs.Framing.{BeginsWith, Feeds, GivesPacket, GivesPartial, GivesBadSize, Gives}
use Rattle.tt_frame.specs.declared.framer.Next.{Next}
use Rattle.tt_frame.specs.declared.framer.Next.TheVariants as next
use Rattle.tt_frame.specs.Runs.{Call, fed, gave, partial, met, Does, Leads, empty_of, taken_by, given_by, Holds}
use Rattle.tt_frame.proofs.StreamLaws.{not_bad_size, not_both, first_packets, rest_in, splits_in, none_in, same_reading}

sound_or_broken : (b : Bool) → IsTrue b ⊎ IsFalse b
sound_or_broken true = inl refl
sound_or_broken false = inr refl

not_both_ways : (b : Bool) → IsTrue b → IsFalse b → ⊥
not_both_ways true t f = cc
not_both_ways false t f = cc

pub told_size-append : (xs ys : List ℕ) → 2 ≤ length xs → told_size (xs ++ ys) ≡ told_size xs
told_size-append xs ys two = omega (arith, get_or_append_left xs ys 0 0 (omega arith), get_or_append_left xs ys 0 1 (omega arith))

IsBadSize-append : (limit : ℕ) (rest more : List ℕ) (n : ℕ) → IsBadSize limit rest n → IsBadSize limit (rest ++ more) n
IsBadSize-append limit rest more n bad = record {
  there = omega (arith, bad.there, length-append rest more);
  told = told_size-append rest more bad.there ∙ bad.told;
  bad = bad.bad;
}

Splits-append : (limit : ℕ) (bytes more : List ℕ) (packets : List Packet) (rest : List ℕ) → Splits limit bytes packets rest
    → Splits limit (bytes ++ more) packets (rest ++ more)
Splits-append limit bytes more packets rest splits = record {
  whole = ap (λ (xs : List ℕ). xs ++ more) splits.whole ∙ append_assoc (flat_map packet_bytes packets) rest more;
  each = splits.each;
}

Broken-append : (limit : ℕ) (bytes more : List ℕ) (packets : List Packet) (n : ℕ) → Broken limit bytes packets n
    → Broken limit (bytes ++ more) packets n
Broken-append limit bytes more packets n broken = record {
  rest = broken.rest ++ more;
  splits = Splits-append limit bytes more packets broken.rest broken.splits;
  bad = IsBadSize-append limit broken.rest more n broken.bad;
}

each-push : (limit : ℕ) (packets : List Packet) (p : Packet) → AllByRecursion (IsWithin limit) packets → IsWithin limit p
    → AllByRecursion (IsWithin limit) (packets ++ p ∷ [])
each-push limit [] p each fits = (fits, tt)
each-push limit (q ∷ qs) p each fits = (each.0, each-push limit qs p each.1 fits)

stream_of-push : (packets : List Packet) (p : Packet) (rest : List ℕ) → stream_of (packets ++ p ∷ []) rest ≡ stream_of packets
    (packet_bytes p ++ rest)
stream_of-push packets p rest =
    ap (λ (xs : List ℕ). xs ++ rest) (flat_map-append packet_bytes packets (p ∷ []))
    ∙ append_assoc (flat_map packet_bytes packets) (flat_map packet_bytes (p ∷ [])) rest
    ∙ ap (λ (xs : List ℕ). flat_map packet_bytes packets ++ (xs ++ rest)) (append-nil (packet_bytes p))

Splits-push : (limit : ℕ) (bytes : List ℕ) (packets : List Packet) (p : Packet) (held rest : List ℕ) → Splits limit bytes packets held
    → BeginsWith limit held p rest → Splits limit bytes (packets ++ p ∷ []) rest
Splits-push limit bytes packets p held rest splits first = record {
  whole = splits.whole ∙ ap (λ (xs : List ℕ). stream_of packets xs) first.whole ∙ sym (stream_of-push packets p rest);
  each = each-push limit packets p splits.each first.fits;
}

-- ---- what each call keeps

pub Holds-empty : (limit : ℕ) → Holds [] [] (empty_of limit)
Holds-empty limit = record { sound = λ _. record { whole = refl; each = tt }; broken = λ is_broken. absurd cc }

pub Holds-fed : (taken : List ℕ) (given : List Packet) (old : Holding) (piece : List ℕ) (n : ℕ) (new : Holding) → Holds taken given old
    → Feeds old piece n new → Holds (taken ++ take n piece) given new
Holds-fed taken given old piece n new holds feeds =
    let P : Holding → Type 0 = λ f. Holds (taken ++ take n piece) given f in
    elim (sound_or_broken old.broken) [
      | inl is_broken ↦ subst P (sym (feeds.forgotten is_broken)) (record {
        sound = λ is_sound. absurd (not_both_ways old.broken is_broken is_sound);
        broken = λ _. (
          (holds.broken is_broken).0,
          Broken-append old.limit taken (take n piece) given (holds.broken is_broken).0 (holds.broken is_broken).1,
          (holds.broken is_broken).2,
        );
      })
      | inr is_sound ↦ subst P (sym (feeds.held is_sound)) (record {
        sound = λ _. Splits-append old.limit taken (take n piece) given old.held (holds.sound is_sound);
        broken = λ is_broken. absurd (not_both_ways old.broken is_broken is_sound);
      })
    ]

pub Holds-gave : (taken : List ℕ) (given : List Packet) (old new : Holding) (p : Packet) → old.limit < 2 ^ 16 → Holds taken given old
    → GivesPacket old new p → Holds taken (given ++ p ∷ []) new
Holds-gave taken given old new p small holds gives =
    let is_sound : IsFalse old.broken = elim (sound_or_broken old.broken) [
      | inl is_broken ↦ absurd (not_bad_size old.limit old.held p new.held (holds.broken is_broken).0 small gives.first
          (holds.broken is_broken).2)
      | inr is_sound ↦ is_sound
    ] in
    record {
      sound = λ _. subst (λ (limit : ℕ). Splits limit taken (given ++ p ∷ []) new.held) (sym gives.limit) (Splits-push old.limit taken
          given p old.held new.held (holds.sound is_sound) gives.first);
      broken = λ is_broken. absurd (not_both_ways old.broken (subst (λ (b : Bool). IsTrue b) gives.broken is_broken) is_sound);
    }

pub Holds-partial : (taken : List ℕ) (given : List Packet) (old new : Holding) → Holds taken given old → GivesPartial old new
    → Cut old.limit taken given old.held
Holds-partial taken given old new holds gives = elim (sound_or_broken old.broken) [
  | inl is_broken ↦ absurd (not_both old.limit old.held (holds.broken is_broken).0 gives.partial (holds.broken is_broken).2)
  | inr is_sound ↦ record { splits = holds.sound is_sound; partial = gives.partial }
]

pub Holds-bad_size : (taken : List ℕ) (given : List Packet) (old new : Holding) (n : ℕ) → Holds taken given old → GivesBadSize old new n
    → Broken old.limit taken given n
Holds-bad_size taken given old new n holds gives = elim (sound_or_broken old.broken) [
  | inl is_broken ↦ subst (λ (m : ℕ). Broken old.limit taken given m) (sym (holds.broken is_broken).2.told
      ∙ gives.bad.told) (holds.broken is_broken).1
  | inr is_sound ↦ record { rest = old.held; splits = holds.sound is_sound; bad = gives.bad }
]

pub Holds-met : (taken : List ℕ) (given : List Packet) (old new : Holding) (n : ℕ) → Holds taken given old → GivesBadSize old new n
    → Holds taken given new
Holds-met taken given old new n holds gives =
    let P : Holding → Type 0 = λ f. Holds taken given f in
    subst P (sym gives.broken) (record {
      sound = λ is_sound. absurd cc;
      broken = λ _. (
        n,
        Holds-bad_size taken given old new n holds gives,
        gives.bad,
      );
    })

-- a byte of a piece is taken wherever there is room, and behind a bad size
pub takes_some : (old now after : Holding) (piece : List ℕ) (n : ℕ) → GivesPartial old now → Feeds now piece n after → 0 < length piece
    → 0 < n
takes_some old now after piece n gives feeds some =
    let room : length now.held < now.limit = subst (λ (f : Holding). length f.held < f.limit) (sym gives.same) gives.room in
    elim (sound_or_broken now.broken) [
      | inl is_broken ↦ omega (arith, feeds.all is_broken)
      | inr is_sound ↦ omega (arith, feeds.count is_sound)
    ]

-- ---- any calls

Holds-same : (taken bytes : List ℕ) (given packets : List Packet) (f : Holding) → taken ≡ bytes → given ≡ packets → Holds taken given f
    → Holds bytes packets f
Holds-same taken bytes given packets f same_bytes same_packets holds =
    subst (λ (xs : List ℕ). Holds xs packets f) same_bytes (subst (λ (ps : List Packet). Holds taken ps f) same_packets holds)

pub limit_kept : (old : Holding) (piece : List ℕ) (n : ℕ) (new : Holding) → Feeds old piece n new → new.limit ≡ old.limit
limit_kept old piece n new feeds = elim (sound_or_broken old.broken) [
  | inl is_broken ↦ ap (λ (f : Holding). f.limit) (feeds.forgotten is_broken)
  | inr is_sound ↦ ap (λ (f : Holding). f.limit) (feeds.held is_sound)
]

Holds-call : (taken : List ℕ) (given : List Packet) (old : Holding) (call : Call) (new : Holding) → old.limit < 2 ^ 16
    → Holds taken given old → Does old call new → Holds (taken ++ taken_by (call ∷ [])) (given ++ given_by (call ∷ [])) new
    × (new.limit ≡ old.limit)
Holds-call taken given old (fed piece n) new small holds does =
    let after = Holds-fed taken given old piece n new holds does in (
      Holds-same _ _ _ _ new (ap (λ (xs : List ℕ). taken ++ xs) (sym (append-nil (take n piece)))) (sym (append-nil given)) after,
      limit_kept old piece n new does,
    )
Holds-call taken given old (gave p) new small holds does =
    (Holds-same _ _ _ _ new (sym (append-nil taken)) refl (Holds-gave taken given old new p small holds does), does.limit)
Holds-call taken given old partial new small holds does =
    let P : Holding → Type 0 = λ f. Holds taken given f in (
      Holds-same _ _ _ _ new (sym (append-nil taken)) (sym (append-nil given)) (subst P (sym does.same) holds),
      ap (λ (f : Holding). f.limit) does.same,
    )
Holds-call taken given old (met n) new small holds does = (
  Holds-same _ _ _ _ new (sym (append-nil taken)) (sym (append-nil given)) (Holds-met taken given old new n holds does),
  ap (λ (f : Holding). f.limit) does.broken,
)

taken_by-cons : (call : Call) (calls : List Call) → taken_by (call ∷ []) ++ taken_by calls ≡ taken_by (call ∷ calls)
taken_by-cons (fed piece n) calls = ap (λ (xs : List ℕ). xs ++ taken_by calls) (append-nil (take n piece))
taken_by-cons (gave p) calls = refl
taken_by-cons partial calls = refl
taken_by-cons (met n) calls = refl

given_by-cons : (call : Call) (calls : List Call) → given_by (call ∷ []) ++ given_by calls ≡ given_by (call ∷ calls)
given_by-cons (fed piece n) calls = refl
given_by-cons (gave p) calls = refl
given_by-cons partial calls = refl
given_by-cons (met n) calls = refl

Holds-calls : (taken : List ℕ) (given : List Packet) (old : Holding) (calls : List Call) (new : Holding) → old.limit < 2 ^ 16
    → Holds taken given old → Leads old calls new → Holds (taken ++ taken_by calls) (given ++ given_by calls) new × (new.limit ≡ old.limit)
Holds-calls taken given old [] new small holds leads =
    let P : Holding → Type 0 = λ f. Holds taken given f in (
      Holds-same _ _ _ _ new (sym (append-nil taken)) (sym (append-nil given)) (subst P (sym leads) holds),
      ap (λ (f : Holding). f.limit)
          leads,
    )
Holds-calls taken given old (call ∷ calls) new small holds leads =
    let step = Holds-call taken given old call leads.0 small holds leads.1 in
    let later = Holds-calls (taken ++ taken_by (call ∷ [])) (given ++ given_by (call ∷ [])) leads.0 calls new (omega arith) step.0 leads.2
    in (
      Holds-same _ _ _ _ new (append_assoc taken (taken_by (call ∷ [])) (taken_by calls) ∙ ap (λ (xs : List ℕ). taken
          ++ xs) (taken_by-cons call calls)) (append_assoc given (given_by (call ∷ [])) (given_by calls) ∙ ap (λ (ps : List Packet). given
          ++ ps) (given_by-cons call calls)) later.0,
      later.1 ∙ step.1,
    )

-- the packets of what was taken, whether or not a bad size was met
pub given_first : (taken : List ℕ) (given : List Packet) (f : Holding) (packets : List Packet) (end : End) → f.limit < 2 ^ 16
    → Holds taken given f → Reads f.limit taken packets end → (later : List Packet) × (packets ≡ given ++ later)
given_first taken given f packets end small holds reads =
    let rest = rest_in f.limit taken packets end reads in
    let none = none_in f.limit taken packets end reads small in
    let all = splits_in f.limit taken packets end reads in
    elim (sound_or_broken f.broken) [
      | inl is_broken ↦ first_packets f.limit taken given packets (holds.broken is_broken).1.rest rest small none
          (holds.broken is_broken).1.splits all
      | inr is_sound ↦ first_packets f.limit taken given packets f.held rest small none (holds.sound is_sound) all
    ]

pub after_calls : (limit : ℕ) (calls : List Call) (now : Holding) → limit < 2 ^ 16 → Leads (empty_of limit) calls now
    → Holds (taken_by calls) (given_by calls) now × (now.limit ≡ limit)
after_calls limit calls now small leads = Holds-calls [] [] (empty_of limit) calls now small (Holds-empty limit) leads

-- ---- what `next` answers, exactly

-- a packet more than all is none
not_one_more : (given later : List Packet) (p : Packet) → given ≡ (given ++ p ∷ []) ++ later → ⊥
not_one_more given later p same = omega (arith, ap length same, length-append (given ++ p ∷ []) later, length-append given (p ∷ []))

gave_more : (taken : List ℕ) (given : List Packet) (now after : Holding) (p : Packet) (end : End) → now.limit < 2 ^ 16
    → Holds taken given now → GivesPacket now after p → Reads now.limit taken given end → ⊥
gave_more taken given now after p end small holds gives reads =
    let one : Holds taken (given ++ p ∷ []) after = Holds-gave taken given now after p small holds gives in
    let same : Reads after.limit taken given end = subst (λ (limit : ℕ). Reads limit taken given end) (sym gives.limit) reads in
    let first = given_first taken (given ++ p ∷ []) after given end (omega (arith, gives.limit)) one same in
    not_one_more given first.0 p first.1

both_ends : (limit : ℕ) (taken : List ℕ) (given : List Packet) (rest : List ℕ) (n : ℕ) → limit < 2 ^ 16 → Cut limit taken given rest
    → Broken limit taken given n → ⊥
both_ends limit taken given rest n small cut broken =
    let same : rest_of rest ≡ bad_size n = (same_reading limit taken given given (rest_of rest) (bad_size n) small cut broken).1 in
    absurd cc

same_size : (limit : ℕ) (taken : List ℕ) (given : List Packet) (m n : ℕ) → limit < 2 ^ 16 → Broken limit taken given m
    → Broken limit taken given n → m ≡ n
same_size limit taken given m n small first second =
    let same : bad_size m ≡ bad_size n = (same_reading limit taken given given (bad_size m) (bad_size n) small first second).1 in
    cc

-- `Partial` comes exactly where the bytes taken are cut here
pub partial_is : (taken : List ℕ) (given : List Packet) (now : Holding) (answer : Next) (after : Holding) → now.limit < 2 ^ 16
    → Holds taken given now → Gives now answer after → (answer ≡ next.Partial) ↔ Cut now.limit taken given now.held
partial_is taken given now (next.Packet kind body) after small holds gives = (
  λ e. absurd cc,
  λ cut. absurd (gave_more taken given now after (record { kind = kind; body = body.now }) (rest_of now.held) small holds gives cut),
)
partial_is taken given now next.Partial after small holds gives = (λ e. Holds-partial taken given now after holds gives, λ cut. refl)
partial_is taken given now (next.BadSize m) after small holds gives = (
  λ e. absurd cc,
  λ cut. absurd (both_ends now.limit taken given now.held m small cut (Holds-bad_size taken given now after m holds gives)),
)

-- `BadSize` comes exactly where they are broken here, with that size
pub bad_size_is : (taken : List ℕ) (given : List Packet) (now : Holding) (answer : Next) (after : Holding) (n : ℕ) → now.limit < 2 ^ 16
    → Holds taken given now → Gives now answer after → (answer ≡ next.BadSize n) ↔ Broken now.limit taken given n
bad_size_is taken given now (next.Packet kind body) after n small holds gives = (
  λ e. absurd cc,
  λ broken. absurd (gave_more taken given now after (record { kind = kind; body = body.now }) (bad_size n) small holds gives broken),
)
bad_size_is taken given now next.Partial after n small holds gives = (
  λ e. absurd cc,
  λ broken. absurd (both_ends now.limit taken given now.held n small (Holds-partial taken given now after holds gives) broken),
)
bad_size_is taken given now (next.BadSize m) after n small holds gives =
    let here : Broken now.limit taken given m = Holds-bad_size taken given now after m holds gives in (
      λ e. let same : m ≡ n = cc in subst (λ (k : ℕ). Broken now.limit taken given k) same here,
      λ broken. ap (λ (k : ℕ). next.BadSize k) (same_size now.limit taken given m n small here broken),
    )

-- ---- a bad size stays

-- a framer that has met the bad size n
record HasMet (n : ℕ) (f : Holding) : Type 0 where
  broken : IsTrue f.broken
  bad : IsBadSize f.limit f.held n
  small : f.limit < 2 ^ 16

HasMet-call : (n : ℕ) (old : Holding) (call : Call) (new : Holding) → HasMet n old → Does old call new → HasMet n new
HasMet-call n old (fed piece k) new met_it does = subst (λ (f : Holding). HasMet n f) (sym (does.forgotten met_it.broken)) met_it
HasMet-call n old (gave p) new met_it does = absurd (not_bad_size old.limit old.held p new.held n met_it.small does.first met_it.bad)
HasMet-call n old partial new met_it does = absurd (not_both old.limit old.held n does.partial met_it.bad)
HasMet-call n old (met m) new met_it does =
    subst (λ (f : Holding). HasMet n f) (sym does.broken) (record { broken = refl; bad = met_it.bad; small = met_it.small })

HasMet-calls : (n : ℕ) (old : Holding) (calls : List Call) (new : Holding) → HasMet n old → Leads old calls new → HasMet n new
HasMet-calls n old [] new met_it leads = subst (λ (f : Holding). HasMet n f) (sym leads) met_it
HasMet-calls n old (call ∷ calls) new met_it leads =
    HasMet-calls n leads.0 calls new (HasMet-call n old call leads.0 met_it leads.1) leads.2

answers_bad_size : (n : ℕ) (f : Holding) (answer : Next) (after : Holding) → HasMet n f → Gives f answer after → answer ≡ next.BadSize n
answers_bad_size n f (next.Packet kind body) after met_it gives =
    absurd (not_bad_size f.limit f.held (record { kind = kind; body = body.now }) after.held n met_it.small gives.first met_it.bad)
answers_bad_size n f next.Partial after met_it gives = absurd (not_both f.limit f.held n gives.partial met_it.bad)
answers_bad_size n f (next.BadSize m) after met_it gives = ap (λ (k : ℕ). next.BadSize k) (sym gives.bad.told ∙ met_it.bad.told)

pub bad_size_stays : (old now : Holding) (n : ℕ) (calls : List Call) (later : Holding) (answer : Next) (after : Holding)
    → old.limit < 2 ^ 16 → GivesBadSize old now n → Leads now calls later → Gives later answer after → answer ≡ next.BadSize n
bad_size_stays old now n calls later answer after small gives leads then =
    let met_it : HasMet n now =
    subst (λ (f : Holding). HasMet n f) (sym gives.broken) (record { broken = refl; bad = gives.bad; small = small }) in
    answers_bad_size n later answer after (HasMet-calls n now calls later met_it leads) then
