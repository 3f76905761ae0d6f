-- What comes, packet by packet.
use Rattle.std.proofs.Common.{◌≡◌, ℕ, ◌+◌, ◌-◌, ◌≤◌, inl, inr, Bool, true, false, cond, List, [], ◌∷◌, ◌++◌, length}
use Rattle.std.proofs.Common.{drop, refl, sym}
use Rattle.std.proofs.Common.{ap, ap₂, subst, ◌∙◌, append_assoc, arith, length-append, Option, Some, None}
use Rattle.std.specs.Prelude.{◌||◌}
use Rattle.std.specs.List.{list_any}
use Rattle.std.proofs.lemmas.Bool.{cases_lt}
use Rattle.std.proofs.lemmas.List.{append-nil, drop-drop, length-drop, nil_from_length, get_or_append_left, get_or-append_right}
use Rattle.tt_frame.specs.Packet.{Packet, IsBytes, size_of, packet_bytes, largest_packet}
use Rattle.tt_frame.specs.Stream.{IsPartial, IsBadSize, End, rest_of, bad_size}
use Rattle.tt_frame.specs.StreamReading.{reading}
use Rattle.tt_frame.specs.Framing.{BeginsWith}
use Rattle.tt_frame.proofs.FieldLaws.{IsBytes-drop}
use Rattle.tt_frame.proofs.PacketLaws.{drop-packet, size_within}
use Rattle.tt_frame.proofs.FirstLaws.{read_packet, read_partial, read_bad_size}
use Rattle.tt_frame.proofs.RunLaws.{told_size-append}
use Rattle.tt_show.specs.declared.family.Family.TheVariants.{Admin}
use Rattle.tt_show.specs.Packets.{packet_text, Appends}
use Rattle.tt_show.specs.Streams.{bad_text, shown_before}
use Rattle.tt_admin_run.specs.declared.hearing.Notes.{Notes}
use Rattle.tt_admin_run.specs.Telling.{behind, packets_told, told_at, told, if_spelled, spelled, comes, is_welcome, is_refusal}
use Rattle.tt_admin_run.specs.Telling.{is_shutdown}
use Rattle.tt_admin_run.specs.Hearing.{told_behind, comes_behind, Passes, IsSettled, Hears, Heard}

-- ---- bytes

pub bytes_none : IsBytes []
bytes_none i = omega arith

pub bytes_then : (xs ys : List ℕ) → IsBytes xs → IsBytes ys → IsBytes (xs ++ ys)
bytes_then xs ys first second i = elim (cases_lt i (length xs)) [
  | inl lt ↦ rw (get_or_append_left xs ys 0 i lt) (first i)
  | inr le ↦ rw (get_or-append_right xs ys (length xs) i 0 refl le) (second (i - length xs))
]

-- ---- one reading

told_so : (place : ℕ) (bytes : List ℕ) (packets : List Packet) (end : End)
    → ((reading largest_packet bytes).0 ≡ packets) × ((reading largest_packet bytes).1 ≡ end)
    → told_at place bytes ≡ packets_told place packets end
told_so place bytes packets end read = ap₂ (λ (ps : List Packet) (e : End). packets_told place ps e) read.0 read.1

comes_so : (is : ℕ → Bool) (bytes : List ℕ) (packets : List Packet) → (reading largest_packet bytes).0 ≡ packets
    → comes is bytes ≡ list_any (λ p. is p.kind) (spelled packets)
comes_so is bytes packets read = ap (λ (ps : List Packet). list_any (λ p. is p.kind) (spelled ps)) read

-- a packet stands first, and spells a message
pub packet_told : (place : ℕ) (bytes rest line : List ℕ) (p : Packet) → IsBytes bytes → IsBytes rest
    → BeginsWith largest_packet bytes p rest → packet_text Admin p ≡ Some line → told_at place bytes ≡ line ++ told_at (behind place p) rest
packet_told place bytes rest line p fits also first is =
    let read = reading largest_packet rest in
    told_so place bytes (p ∷ read.0) read.1 (read_packet largest_packet bytes p rest (omega arith) (omega arith) fits also first)
    ∙ ap (λ (o : Option (List ℕ)). shown_before o place (told_at (behind place p) rest)) is

pub packet_comes : (is : ℕ → Bool) (bytes rest line : List ℕ) (p : Packet) → IsBytes bytes → IsBytes rest
    → BeginsWith largest_packet bytes p rest → packet_text Admin p ≡ Some line → comes is bytes ≡ (is p.kind || comes is rest)
packet_comes is bytes rest line p fits also first text =
    let read = reading largest_packet rest in
    comes_so is bytes (p ∷ read.0) (read_packet largest_packet bytes p rest (omega arith) (omega arith) fits also first).0
    ∙ ap (λ (o : Option (List ℕ)). list_any (λ q. is q.kind) (if_spelled o p (spelled read.0))) text

-- a packet stands first, and spells nothing
pub nothing_told : (place : ℕ) (bytes rest : List ℕ) (p : Packet) → IsBytes bytes → IsBytes rest
    → BeginsWith largest_packet bytes p rest → packet_text Admin p ≡ None → told_at place bytes ≡ bad_text place
nothing_told place bytes rest p fits also first is =
    let read = reading largest_packet rest in
    told_so place bytes (p ∷ read.0) read.1 (read_packet largest_packet bytes p rest (omega arith) (omega arith) fits also first)
    ∙ ap (λ (o : Option (List ℕ)). shown_before o place (told_at (behind place p) rest)) is

pub nothing_comes : (is : ℕ → Bool) (bytes rest : List ℕ) (p : Packet) → IsBytes bytes → IsBytes rest
    → BeginsWith largest_packet bytes p rest → packet_text Admin p ≡ None → comes is bytes ≡ false
nothing_comes is bytes rest p fits also first text =
    let read = reading largest_packet rest in
    comes_so is bytes (p ∷ read.0) (read_packet largest_packet bytes p rest (omega arith) (omega arith) fits also first).0
    ∙ ap (λ (o : Option (List ℕ)). list_any (λ q. is q.kind) (if_spelled o p (spelled read.0))) text

-- less than a packet
pub partial_told : (place : ℕ) (bytes : List ℕ) → IsBytes bytes → IsPartial largest_packet bytes → told_at place bytes ≡ []
partial_told place bytes fits partial =
    told_so place bytes [] (rest_of bytes) (read_partial largest_packet bytes (omega arith) (omega arith) fits partial)

pub partial_comes : (is : ℕ → Bool) (bytes : List ℕ) → IsBytes bytes → IsPartial largest_packet bytes → comes is bytes ≡ false
partial_comes is bytes fits partial =
    comes_so is bytes [] (read_partial largest_packet bytes (omega arith) (omega arith) fits partial).0

-- a bad size
pub bad_told : (place n : ℕ) (bytes : List ℕ) → IsBytes bytes → IsBadSize largest_packet bytes n → told_at place bytes ≡ bad_text place
bad_told place n bytes fits bad =
    told_so place bytes [] (bad_size n) (read_bad_size largest_packet bytes n (omega arith) (omega arith) fits bad)

pub bad_comes : (is : ℕ → Bool) (n : ℕ) (bytes : List ℕ) → IsBytes bytes → IsBadSize largest_packet bytes n → comes is bytes ≡ false
bad_comes is n bytes fits bad = comes_so is bytes [] (read_bad_size largest_packet bytes n (omega arith) (omega arith) fits bad).0

pub bad_more : (bytes more : List ℕ) (n : ℕ) → IsBadSize largest_packet bytes n → IsBadSize largest_packet (bytes ++ more) n
bad_more bytes more n bad = record {
  there = omega (arith, bad.there, length-append bytes more);
  told = told_size-append bytes more bad.there ∙ bad.told;
  bad = bad.bad;
}

pub begins_more : (bytes rest more : List ℕ) (p : Packet) → BeginsWith largest_packet bytes p rest
    → BeginsWith largest_packet (bytes ++ more) p (rest ++ more)
begins_more bytes rest more p first = record {
  fits = first.fits;
  whole = ap (λ (bs : List ℕ). bs ++ more) first.whole ∙ append_assoc (packet_bytes p) rest more;
}

-- nothing at all is less than a packet
pub none_partial : IsPartial largest_packet []
none_partial = record { least = λ two. omega (arith, two); most = λ two. omega (arith, two); short = λ two. omega (arith, two) }

-- ---- what is passed

or_none : (a : Bool) → (a || false) ≡ a
or_none true = refl
or_none false = refl

or_assoc : (a b c : Bool) → (a || (b || c)) ≡ ((a || b) || c)
or_assoc true b c = refl
or_assoc false b c = refl

told_sound : (n : Notes) (bytes : List ℕ) → n.broken ≡ false → told_behind n bytes ≡ told_at n.place bytes
told_sound n bytes sound = ap (λ (b : Bool). cond b [] (told_at n.place bytes)) sound

told_broken : (n : Notes) (bytes : List ℕ) → n.broken ≡ true → told_behind n bytes ≡ []
told_broken n bytes broken = ap (λ (b : Bool). cond b [] (told_at n.place bytes)) broken

comes_sound : (is : ℕ → Bool) (n : Notes) (bytes : List ℕ) → n.broken ≡ false → comes_behind is n bytes ≡ comes is bytes
comes_sound is n bytes sound = ap (λ (b : Bool). cond b false (comes is bytes)) sound

comes_broken : (is : ℕ → Bool) (n : Notes) (bytes : List ℕ) → n.broken ≡ true → comes_behind is n bytes ≡ false
comes_broken is n bytes broken = ap (λ (b : Bool). cond b false (comes is bytes)) broken

pub passes_none : (n : Notes) (bytes : List ℕ) → Passes n n bytes bytes []
passes_none n bytes = record {
  told = λ more fits. refl;
  welcome = λ more fits. refl;
  refused = λ more fits. refl;
  shutdown = λ more fits. refl;
}

pub passes_then : (n m k : Notes) (bytes rest last first second : List ℕ) → Passes n m bytes rest first → Passes m k rest last second
    → Passes n k bytes last (first ++ second)
passes_then n m k bytes rest last first second a b = record {
  told = λ more fits. a.told more fits ∙ ap (λ (t : List ℕ). first ++ t) (b.told more fits)
      ∙ sym (append_assoc first second (told_behind k (last ++ more)));
  welcome = λ more fits. a.welcome more fits ∙ b.welcome more fits;
  refused = λ more fits. a.refused more fits ∙ b.refused more fits;
  shutdown = λ more fits. a.shutdown more fits ∙ b.shutdown more fits;
}

-- what a packet more is noted as
pub record Notices (n m : Notes) (p : Packet) : Type 0 where
  pub place : m.place ≡ behind n.place p
  pub broken : m.broken ≡ n.broken
  pub welcome : m.welcome ≡ (n.welcome || is_welcome p.kind)
  pub refused : m.refused ≡ (n.refused || is_refusal p.kind)
  pub shutdown : m.shutdown ≡ (n.shutdown || is_shutdown p.kind)

-- a packet that comes counts from then on
flag_more : (is : ℕ → Bool) (n m : Notes) (bytes rest line more : List ℕ) (p : Packet) (a b : Bool) → IsBytes bytes → IsBytes rest
    → IsBytes more → BeginsWith largest_packet bytes p rest → packet_text Admin p ≡ Some line → n.broken ≡ false → m.broken ≡ false
    → b ≡ (a || is p.kind) → (a || comes_behind is n (bytes ++ more)) ≡ (b || comes_behind is m (rest ++ more))
flag_more is n m bytes rest line more p a b fits also later first text sound still noted =
    ap (λ (c : Bool). a || c) (comes_sound is n (bytes ++ more) sound
    ∙ packet_comes is (bytes ++ more) (rest ++ more) line p (bytes_then bytes more fits later) (bytes_then rest more also later)
    (begins_more bytes rest more p first) text) ∙ or_assoc a (is p.kind) (comes is (rest ++ more))
    ∙ ap₂ (λ (b c : Bool). b || c) (sym noted) (sym (comes_sound is m (rest ++ more) still))

-- one packet is passed
pub passes_packet : (n m : Notes) (bytes rest line : List ℕ) (p : Packet) → IsBytes bytes → IsBytes rest
    → BeginsWith largest_packet bytes p rest → packet_text Admin p ≡ Some line → n.broken ≡ false → Notices n m p
    → Passes n m bytes rest line
passes_packet n m bytes rest line p fits also first text sound notices =
    let still : m.broken ≡ false = notices.broken ∙ sound in
    record {
      told = λ more later. told_sound n (bytes ++ more) sound
          ∙ packet_told n.place (bytes ++ more) (rest ++ more) line p (bytes_then bytes more fits later) (bytes_then rest more also later)
          (begins_more bytes rest more p first) text
          ∙ ap (λ (t : List ℕ). line ++ t) (ap (λ (at : ℕ). told_at at (rest ++ more)) (sym notices.place)
          ∙ sym (told_sound m (rest ++ more) still));
      welcome = λ more later. flag_more is_welcome n m bytes rest line more p n.welcome m.welcome fits also later first text sound still
          notices.welcome;
      refused = λ more later. flag_more is_refusal n m bytes rest line more p n.refused m.refused fits also later first text sound still
          notices.refused;
      shutdown = λ more later. flag_more is_shutdown n m bytes rest line more p n.shutdown m.shutdown fits also later first text sound
          still notices.shutdown;
    }

-- behind what is bad nothing is told, and nothing comes
pub settled_broken : (n : Notes) (rest : List ℕ) → n.broken ≡ true → IsSettled n rest
settled_broken n rest broken = record { told = told_broken n rest broken; none = λ is. comes_broken is n rest broken }

-- less than a packet is left
pub settled_partial : (n : Notes) (rest : List ℕ) → n.broken ≡ false → IsBytes rest → IsPartial largest_packet rest → IsSettled n rest
settled_partial n rest sound fits partial = record {
  told = told_sound n rest sound ∙ partial_told n.place rest fits partial;
  none = λ is. comes_sound is n rest sound ∙ partial_comes is rest fits partial;
}

-- all is forgotten behind what is bad
pub passes_broken : (n : Notes) (bytes rest : List ℕ) → n.broken ≡ true → Passes n n bytes rest []
passes_broken n bytes rest broken = record {
  told = λ more fits. told_broken n (bytes ++ more) broken ∙ sym (told_broken n (rest ++ more) broken);
  welcome = λ more fits. ap (λ (c : Bool). n.welcome || c) (comes_broken is_welcome n (bytes ++ more) broken
      ∙ sym (comes_broken is_welcome n (rest ++ more) broken));
  refused = λ more fits. ap (λ (c : Bool). n.refused || c) (comes_broken is_refusal n (bytes ++ more) broken
      ∙ sym (comes_broken is_refusal n (rest ++ more) broken));
  shutdown = λ more fits. ap (λ (c : Bool). n.shutdown || c) (comes_broken is_shutdown n (bytes ++ more) broken
      ∙ sym (comes_broken is_shutdown n (rest ++ more) broken));
}

-- something bad stands first, whatever comes behind it
pub record IsBad (place : ℕ) (bytes : List ℕ) : Type 0 where
  pub told : (more : List ℕ) → IsBytes more → told_at place (bytes ++ more) ≡ bad_text place
  pub none : (is : ℕ → Bool) (more : List ℕ) → IsBytes more → comes is (bytes ++ more) ≡ false

pub bad_size_first : (place n : ℕ) (bytes : List ℕ) → IsBytes bytes → IsBadSize largest_packet bytes n → IsBad place bytes
bad_size_first place n bytes fits bad = record {
  told = λ more later. bad_told place n (bytes ++ more) (bytes_then bytes more fits later) (bad_more bytes more n bad);
  none = λ is more later. bad_comes is n (bytes ++ more) (bytes_then bytes more fits later) (bad_more bytes more n bad);
}

pub bad_packet_first : (place : ℕ) (bytes rest : List ℕ) (p : Packet) → IsBytes bytes → IsBytes rest
    → BeginsWith largest_packet bytes p rest → packet_text Admin p ≡ None → IsBad place bytes
bad_packet_first place bytes rest p fits also first text = record {
  told = λ more later. nothing_told place (bytes ++ more) (rest ++ more) p (bytes_then bytes more fits later)
      (bytes_then rest more also later) (begins_more bytes rest more p first) text;
  none = λ is more later. nothing_comes is (bytes ++ more) (rest ++ more) p (bytes_then bytes more fits later)
      (bytes_then rest more also later) (begins_more bytes rest more p first) text;
}

flag_bad : (is : ℕ → Bool) (n m : Notes) (bytes rest more : List ℕ) (a b : Bool) → n.broken ≡ false → m.broken ≡ true → b ≡ a
    → comes is (bytes ++ more) ≡ false → (a || comes_behind is n (bytes ++ more)) ≡ (b || comes_behind is m (rest ++ more))
flag_bad is n m bytes rest more a b sound broken same none =
    ap (λ (c : Bool). a || c) (comes_sound is n (bytes ++ more) sound ∙ none ∙ sym (comes_broken is m (rest ++ more) broken))
    ∙ ap (λ (b : Bool). b || comes_behind is m (rest ++ more)) (sym same)

-- something bad is told, and all is forgotten
pub passes_bad : (n m : Notes) (bytes rest : List ℕ) → n.broken ≡ false → m ≡ record n { broken = true } → IsBad n.place bytes
    → Passes n m bytes rest (bad_text n.place)
passes_bad n m bytes rest sound is bad =
    let broken : m.broken ≡ true = ap (λ (k : Notes). k.broken) is in
    record {
      told = λ more fits. told_sound n (bytes ++ more) sound ∙ bad.told more fits ∙ sym (append-nil (bad_text n.place))
          ∙ ap (λ (t : List ℕ). bad_text n.place ++ t) (sym (told_broken m (rest ++ more) broken));
      welcome = λ more fits. flag_bad is_welcome n m bytes rest more n.welcome m.welcome sound broken (ap (λ (k : Notes). k.welcome) is)
          (bad.none is_welcome more fits);
      refused = λ more fits. flag_bad is_refusal n m bytes rest more n.refused m.refused sound broken (ap (λ (k : Notes). k.refused) is)
          (bad.none is_refusal more fits);
      shutdown = λ more fits. flag_bad is_shutdown n m bytes rest more n.shutdown m.shutdown sound broken
          (ap (λ (k : Notes). k.shutdown) is) (bad.none is_shutdown more fits);
    }

-- ---- the loop over the packets

-- of all bytes those up to `at` were passed
pub record SoFar (n m : Notes) (bytes : List ℕ) (at : ℕ) (before text : List ℕ) : Type 0 where
  pub within : at ≤ length bytes
  pub sound : m.broken ≡ false
  pub told : List ℕ
  pub text_is : text ≡ before ++ told
  pub passes : Passes n m bytes (drop at bytes) told

pub so_far_none : (n : Notes) (bytes text : List ℕ) → n.broken ≡ false → SoFar n n bytes 0 text text
so_far_none n bytes text sound = record {
  within = omega arith;
  sound = sound;
  told = [];
  text_is = sym (append-nil text);
  passes = passes_none n bytes;
}

-- what is left behind a packet
left_behind : (bytes : List ℕ) (at : ℕ) (p : Packet) (rest : List ℕ) → BeginsWith largest_packet (drop at bytes) p rest
    → drop (at + size_of p) bytes ≡ rest
left_behind bytes at p rest first = sym (drop-drop (size_of p) at bytes) ∙ drop-packet largest_packet (drop at bytes) p rest first

line_of : (o : Option (List ℕ)) (before after : List ℕ) → Appends o before after
    → (line : List ℕ) × (o ≡ Some line) × (after ≡ before ++ line)
line_of None before after is = absurd is
line_of (Some line) before after is = (line, refl, is)

pub so_far_packet : (n m k : Notes) (bytes : List ℕ) (at next : ℕ) (before text new : List ℕ) (p : Packet) (rest : List ℕ)
    → IsBytes bytes → SoFar n m bytes at before text → BeginsWith largest_packet (drop at bytes) p rest
    → Appends (packet_text Admin p) text new → Notices m k p → next ≡ at + size_of p → SoFar n k bytes next before new
so_far_packet n m k bytes at next before text new p rest fits so_far first line notices is =
    let l = line_of (packet_text Admin p) text new line in
    let left : drop next bytes ≡ rest = ap (λ (i : ℕ). drop i bytes) is ∙ left_behind bytes at p rest first in
    let size = size_within largest_packet (drop at bytes) p rest first in
    let also : IsBytes rest = subst (λ (bs : List ℕ). IsBytes bs) left (IsBytes-drop next bytes fits) in
    record {
      within = omega (arith, size, length-drop at bytes, so_far.within, is);
      sound = notices.broken ∙ so_far.sound;
      told = so_far.told ++ l.0;
      text_is = l.2 ∙ ap (λ (t : List ℕ). t ++ l.0) so_far.text_is ∙ append_assoc before so_far.told l.0;
      passes = subst (λ (bs : List ℕ). Passes n k bytes bs (so_far.told ++ l.0)) (sym left)
          (passes_then n m k bytes (drop at bytes) rest so_far.told l.0 so_far.passes
          (passes_packet m k (drop at bytes) rest l.0 p (IsBytes-drop at bytes fits) also first l.1 so_far.sound notices));
    }

-- what `hear` answers: the text that it appended, and what it took
abbrev pub Answer : Notes → Notes → List ℕ → List ℕ → List ℕ → ℕ → Type 0
Answer n m bytes before text taken = (told : List ℕ) × (text ≡ before ++ told) × Hears n m bytes told taken

pub answer_partial : (n m : Notes) (bytes : List ℕ) (at : ℕ) (before text : List ℕ) → IsBytes bytes → SoFar n m bytes at before text
    → IsPartial largest_packet (drop at bytes) → Answer n m bytes before text at
answer_partial n m bytes at before text fits so_far partial = (
  so_far.told,
  so_far.text_is,
  record {
    within = so_far.within;
    passes = so_far.passes;
    settled = settled_partial m (drop at bytes) so_far.sound (IsBytes-drop at bytes fits) partial;
  },
)

pub answer_all : (n m : Notes) (bytes : List ℕ) (at : ℕ) (before text : List ℕ) → IsBytes bytes → SoFar n m bytes at before text
    → length bytes ≤ at → Answer n m bytes before text at
answer_all n m bytes at before text fits so_far all =
    let none : drop at bytes ≡ [] = nil_from_length (drop at bytes) (omega (arith, length-drop at bytes, all)) in
    answer_partial n m bytes at before text fits so_far (subst (λ (bs : List ℕ). IsPartial largest_packet bs) (sym none) none_partial)

pub answer_bad : (n m k : Notes) (bytes : List ℕ) (at : ℕ) (before text new : List ℕ) → SoFar n m bytes at before text
    → IsBad m.place (drop at bytes) → new ≡ text ++ bad_text m.place → k ≡ record m { broken = true }
    → Answer n k bytes before new (length bytes)
answer_bad n m k bytes at before text new so_far bad appended is =
    let last = drop (length bytes) bytes in (
      so_far.told ++ bad_text m.place,
      appended ∙ ap (λ (t : List ℕ). t ++ bad_text m.place) so_far.text_is ∙ append_assoc before so_far.told (bad_text m.place),
      record {
        within = omega arith;
        passes = passes_then n m k bytes (drop at bytes) last so_far.told (bad_text m.place) so_far.passes
            (passes_bad m k (drop at bytes) last so_far.sound is bad);
        settled = settled_broken k last (ap (λ (j : Notes). j.broken) is);
      },
    )

-- a packet that spells nothing
pub answer_nothing : (n m k : Notes) (bytes : List ℕ) (at : ℕ) (before text same new : List ℕ) (p : Packet) (rest : List ℕ) → IsBytes bytes
    → SoFar n m bytes at before text → BeginsWith largest_packet (drop at bytes) p rest → packet_text Admin p ≡ None → same ≡ text
    → new ≡ same ++ bad_text m.place → k ≡ record m { broken = true } → Answer n k bytes before new (length bytes)
answer_nothing n m k bytes at before text same new p rest fits so_far first none is appended broken =
    let also : IsBytes rest = subst (λ (bs : List ℕ). IsBytes bs) (left_behind bytes at p rest first)
    (IsBytes-drop (at + size_of p) bytes fits) in
    answer_bad n m k bytes at before text new so_far
    (bad_packet_first m.place (drop at bytes) rest p (IsBytes-drop at bytes fits) also first none)
    (appended ∙ ap (λ (t : List ℕ). t ++ bad_text m.place) is) broken

-- a bad size
pub answer_bad_size : (n m k : Notes) (bytes : List ℕ) (at size : ℕ) (before text new : List ℕ) → IsBytes bytes
    → SoFar n m bytes at before text → IsBadSize largest_packet (drop at bytes) size → new ≡ text ++ bad_text m.place
    → k ≡ record m { broken = true } → Answer n k bytes before new (length bytes)
answer_bad_size n m k bytes at size before text new fits so_far bad appended broken =
    answer_bad n m k bytes at before text new so_far (bad_size_first m.place size (drop at bytes) (IsBytes-drop at bytes fits) bad) appended
    broken

pub answer_broken : (n : Notes) (bytes text : List ℕ) → n.broken ≡ true → Answer n n bytes text text (length bytes)
answer_broken n bytes text broken = (
  [],
  sym (append-nil text),
  record {
    within = omega arith;
    passes = passes_broken n bytes (drop (length bytes) bytes) broken;
    settled = settled_broken n (drop (length bytes) bytes) broken;
  },
)

-- ---- all bytes of a link

pub heard_first : (n : Notes) → n ≡ record { place = 0; broken = false; welcome = false; refused = false; shutdown = false }
    → Heard [] [] n []
heard_first n is = subst (λ (m : Notes). Heard [] [] m []) (sym is) (record {
  told = λ more fits. refl;
  welcome = λ more fits. refl;
  refused = λ more fits. refl;
  shutdown = λ more fits. refl;
  settled = settled_partial (record { place = 0; broken = false; welcome = false; refused = false; shutdown = false }) [] refl bytes_none
      none_partial;
})

pub heard_more : (read text : List ℕ) (n m : Notes) (rest bytes last more : List ℕ) → IsBytes bytes → Heard read text n rest
    → Passes n m (rest ++ bytes) last more → IsSettled m last → Heard (read ++ bytes) (text ++ more) m last
heard_more read text n m rest bytes last told fits heard passes settled = record {
  told = λ more later. ap (λ (bs : List ℕ). told_at 0 bs) (append_assoc read bytes more)
      ∙ heard.told (bytes ++ more) (bytes_then bytes more fits later)
      ∙ ap (λ (bs : List ℕ). text ++ told_behind n bs) (sym (append_assoc rest bytes more))
      ∙ ap (λ (t : List ℕ). text ++ t) (passes.told more later) ∙ sym (append_assoc text told (told_behind m (last ++ more)));
  welcome = λ more later. ap (comes is_welcome) (append_assoc read bytes more)
      ∙ heard.welcome (bytes ++ more) (bytes_then bytes more fits later)
      ∙ ap (λ (bs : List ℕ). n.welcome || comes_behind is_welcome n bs) (sym (append_assoc rest bytes more)) ∙ passes.welcome more later;
  refused = λ more later. ap (comes is_refusal) (append_assoc read bytes more)
      ∙ heard.refused (bytes ++ more) (bytes_then bytes more fits later)
      ∙ ap (λ (bs : List ℕ). n.refused || comes_behind is_refusal n bs) (sym (append_assoc rest bytes more)) ∙ passes.refused more later;
  shutdown = λ more later. ap (comes is_shutdown) (append_assoc read bytes more)
      ∙ heard.shutdown (bytes ++ more) (bytes_then bytes more fits later)
      ∙ ap (λ (bs : List ℕ). n.shutdown || comes_behind is_shutdown n bs) (sym (append_assoc rest bytes more))
      ∙ passes.shutdown more later;
  settled = settled;
}

-- the text is that of all that came
pub heard_told : (read text : List ℕ) (n : Notes) (rest : List ℕ) → Heard read text n rest → told read ≡ text
heard_told read text n rest heard =
    ap (told_at 0) (sym (append-nil read)) ∙ heard.told [] bytes_none ∙ ap (λ (bs : List ℕ). text ++ told_behind n bs) (append-nil rest)
    ∙ ap (λ (t : List ℕ). text ++ t) heard.settled.told ∙ append-nil text

flag_is : (is : ℕ → Bool) (n : Notes) (read rest : List ℕ) (a : Bool) → comes is (read ++ []) ≡ (a || comes_behind is n (rest ++ []))
    → comes_behind is n rest ≡ false → comes is read ≡ a
flag_is is n read rest a heard none =
    ap (comes is) (sym (append-nil read)) ∙ heard ∙ ap (λ (bs : List ℕ). a || comes_behind is n bs) (append-nil rest)
    ∙ ap (λ (c : Bool). a || c) none ∙ or_none a

-- what came is what is noted
pub heard_welcome : (read text : List ℕ) (n : Notes) (rest : List ℕ) → Heard read text n rest → comes is_welcome read ≡ n.welcome
heard_welcome read text n rest heard = flag_is is_welcome n read rest n.welcome (heard.welcome [] bytes_none)
    (heard.settled.none is_welcome)

pub heard_refused : (read text : List ℕ) (n : Notes) (rest : List ℕ) → Heard read text n rest → comes is_refusal read ≡ n.refused
heard_refused read text n rest heard = flag_is is_refusal n read rest n.refused (heard.refused [] bytes_none)
    (heard.settled.none is_refusal)

pub heard_shutdown : (read text : List ℕ) (n : Notes) (rest : List ℕ) → Heard read text n rest → comes is_shutdown read ≡ n.shutdown
heard_shutdown read text n rest heard = flag_is is_shutdown n read rest n.shutdown (heard.shutdown [] bytes_none)
    (heard.settled.none is_shutdown)

-- WELCOME stays, whatever comes
pub welcome_stays : (read text : List ℕ) (n : Notes) (rest more : List ℕ) → Heard read text n rest → IsBytes more → n.welcome ≡ true
    → comes is_welcome (read ++ more) ≡ true
welcome_stays read text n rest more heard fits holds =
    heard.welcome more fits ∙ ap (λ (b : Bool). b || comes_behind is_welcome n (rest ++ more)) holds

-- what was told stands in front of what will be
pub told_stays : (read text : List ℕ) (n : Notes) (rest more : List ℕ) → Heard read text n rest → IsBytes more
    → text ++ told_behind n (rest ++ more) ≡ told (read ++ more)
told_stays read text n rest more heard fits = sym (heard.told more fits)
