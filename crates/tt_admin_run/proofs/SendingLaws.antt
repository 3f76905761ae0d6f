-- The agenda, message by message, and what of it is due.
use Rattle.std.proofs.Common.{◌≡◌, ℕ, ◌+◌, ◌≤◌, ◌<◌, Bool, true, false, cond, List, [], ◌∷◌, ◌++◌, length, take, drop}
use Rattle.std.proofs.Common.{get_or, suc, refl, sym, ap}
use Rattle.std.proofs.Common.{subst, ◌∙◌, append_assoc, arith, length-append, Option, Some, None}
use Rattle.std.specs.Prelude.{◌||◌, nat_le}
use Rattle.std.specs.List.{flat_map}
use Rattle.std.proofs.lemmas.List.{append-nil, take_at, drop_all}
use Rattle.std.proofs.lemmas.Grind.{flat_map-append}
use Rattle.std.proofs.lemmas.Bool.{le-leb, leb-true, lt-leb}
use Rattle.std.proofs.Math.Seq.{drop-cons}
use mathlib.Core.List.{IsPrefix}
use Rattle.tt_admin.specs.declared.message.AdminMsg.{AdminMsg}
use Rattle.tt_admin_file.specs.declared.command.Command.{Command}
use Rattle.tt_admin_run.specs.declared.sending.Mark.{Mark}
use Rattle.tt_admin_run.specs.declared.sending.Agenda.{Agenda}
use Rattle.tt_admin_run.specs.Sending.{Timed, message_bytes, said, wait_of, is_quit, before, timed, timed_bytes, due}
use Rattle.tt_admin_run.specs.Sending.{due_bytes, quits}
use Rattle.tt_admin_run.specs.Agendas.{AreMarks, IsAgenda, PutsMessage, Puts}

-- ---- one message more

marks_more : (at : ℕ) (ts : List Timed) (ms : List Mark) (t : Timed) (m : Mark) → AreMarks at ts ms → m.after ≡ t.after
    → m.end ≡ at + length (flat_map timed_bytes (ts ++ t ∷ [])) → AreMarks at (ts ++ t ∷ []) (ms ++ m ∷ [])
marks_more at [] [] t m are after end = (after, omega (arith, end, length-append (timed_bytes t) []), tt)
marks_more at [] (n ∷ ms) t m are after end = absurd are
marks_more at (u ∷ ts) [] t m are after end = absurd are
marks_more at (u ∷ ts) (n ∷ ms) t m are after end = (
  are.0,
  are.1,
  marks_more n.end ts ms t m are.2 after (omega (
    arith,
    end,
    are.1,
    length-append (timed_bytes u) (flat_map timed_bytes (ts ++ t ∷ [])),
  )),
)

-- the JOIN, and these messages behind it
pub record Built (first : AdminMsg) (a : Agenda) (done : List Timed) : Type 0 where
  pub bytes : a.bytes.items ≡ message_bytes first ++ flat_map timed_bytes done
  pub join : a.join ≡ length (message_bytes first)
  pub marks : AreMarks a.join done a.marks.items
  pub quits : a.quits ≡ false

built_one : (join : AdminMsg) (old new : Agenda) (done : List Timed) (after : ℕ) (m : AdminMsg) → Built join old done
    → PutsMessage old new after m → Built join new (done ++ record { after = after; message = m } ∷ [])
built_one join old new done after m built puts =
    let t : Timed = record { after = after; message = m } in
    let bytes : new.bytes.items ≡ message_bytes join ++ flat_map timed_bytes (done ++ t ∷ []) =
    puts.bytes ∙ ap (λ (bs : List ℕ). bs ++ message_bytes m) built.bytes
    ∙ append_assoc (message_bytes join) (flat_map timed_bytes done) (message_bytes m)
    ∙ ap (λ (bs : List ℕ). message_bytes join ++ (flat_map timed_bytes done ++ bs)) (sym (append-nil (message_bytes m)))
    ∙ ap (λ (bs : List ℕ). message_bytes join ++ bs) (sym (flat_map-append timed_bytes done (t ∷ []))) in
    let at : new.join ≡ length (message_bytes join) = puts.join ∙ built.join in
    let marks : AreMarks old.join (done ++ t ∷ []) new.marks.items = subst (λ (ms : List Mark). AreMarks old.join (done ++ t ∷ []) ms)
    (sym puts.marks)
    (marks_more old.join done old.marks.items t (record { after = after; end = length new.bytes.items }) built.marks refl
    (ap length bytes ∙ length-append (message_bytes join) (flat_map timed_bytes (done ++ t ∷ []))
    ∙ ap (λ (n : ℕ). n + length (flat_map timed_bytes (done ++ t ∷ []))) (sym built.join))) in
    record {
      bytes = bytes;
      join = at;
      marks = subst (λ (n : ℕ). AreMarks n (done ++ t ∷ []) new.marks.items) (sym puts.join) marks;
      quits = puts.quits ∙ built.quits;
    }

-- what a line says more
pub built_more : (join : AdminMsg) (old new : Agenda) (done : List Timed) (after : ℕ) (o : Option AdminMsg) → Built join old done
    → Puts old new after o → Built join new (done ++ before after o [])
built_more join old new done after None built same =
    subst (λ (ts : List Timed). Built join new ts) (sym (append-nil done)) (subst (λ (a : Agenda). Built join a done) (sym same) built)
built_more join old new done after (Some m) built puts = built_one join old new done after m built puts

before_is : (after : ℕ) (o : Option AdminMsg) (later : List Timed) → before after o later ≡ before after o [] ++ later
before_is after None later = refl
before_is after (Some m) later = refl

-- ---- line by line

-- the lines up to here were put, with this sum of waits, and none of them is a `quit`
pub record SoFar (join : AdminMsg) (lines rest : List Command) (sum : ℕ) (a : Agenda) : Type 0 where
  pub done : List Timed
  pub built : Built join a done
  pub timed_is : timed 0 lines ≡ done ++ timed sum rest
  pub quits_is : quits lines ≡ quits rest

pub agenda_first : (join : AdminMsg) (lines : List Command) (a : Agenda) → IsAgenda join [] a → SoFar join lines lines 0 a
agenda_first join lines a is = record {
  done = [];
  built = record { bytes = is.bytes; join = is.join; marks = is.marks; quits = is.quits };
  timed_is = refl;
  quits_is = refl;
}

-- the next line stands first of those that are left
next_line : {A : Type 0} (xs : List A) (i : ℕ) (x : A) → i < length xs → x ≡ get_or xs i x → drop i xs ≡ x ∷ drop (i + 1) xs
next_line xs i x lt is =
    drop-cons xs i x lt ∙ ap (λ y. y ∷ drop (suc i) xs) (sym is)
    ∙ ap (λ (j : ℕ). x ∷ drop j xs) (let same : suc i ≡ i + 1 = omega arith in same)

pub at_line : (join : AdminMsg) (lines : List Command) (i : ℕ) (line : Command) (sum : ℕ) (a : Agenda) → i < length lines
    → line ≡ get_or lines i line → SoFar join lines (drop i lines) sum a → SoFar join lines (line ∷ drop (i + 1) lines) sum a
at_line join lines i line sum a lt is so_far =
    subst (λ (rest : List Command). SoFar join lines rest sum a) (next_line lines i line lt is) so_far

-- what a line is no `quit` adds
timed_on : (sum : ℕ) (line : Command) (rest : List Command) (b : Bool) → is_quit line ≡ b → b ≡ false
    → timed sum (line ∷ rest) ≡ before sum (said line) (timed (sum + wait_of line) rest)
timed_on sum line rest b is fails =
    ap (λ (q : Bool). before sum (said line) (cond q [] (timed (sum + wait_of line) rest))) (is ∙ fails)

-- what a `quit` adds
timed_off : (sum : ℕ) (line : Command) (rest : List Command) → is_quit line ≡ true → timed sum (line ∷ rest) ≡ before sum (said line) []
timed_off sum line rest holds = ap (λ (q : Bool). before sum (said line) (cond q [] (timed (sum + wait_of line) rest))) holds

-- one line more
pub agenda_more : (join : AdminMsg) (lines rest : List Command) (line : Command) (sum next : ℕ) (old new : Agenda)
    → SoFar join lines (line ∷ rest) sum old → Puts old new sum (said line) → is_quit line ≡ false → next ≡ sum + wait_of line
    → SoFar join lines rest next new
agenda_more join lines rest line sum next old new so_far puts fails is =
    let one = before sum (said line) [] in
    let later : timed sum (line ∷ rest) ≡ one ++ timed next rest =
    timed_on sum line rest (is_quit line) refl fails ∙ before_is sum (said line) (timed (sum + wait_of line) rest)
    ∙ ap (λ (n : ℕ). one ++ timed n rest) (sym is) in
    record {
      done = so_far.done ++ one;
      built = built_more join old new so_far.done sum (said line) so_far.built puts;
      timed_is = so_far.timed_is ∙ ap (λ (ts : List Timed). so_far.done ++ ts) later ∙ sym (append_assoc so_far.done one (timed next rest));
      quits_is = so_far.quits_is ∙ ap (λ (b : Bool). b || quits rest) fails;
    }

-- all lines were put
pub agenda_all : (join : AdminMsg) (lines : List Command) (sum : ℕ) (a : Agenda) → SoFar join lines [] sum a → IsAgenda join lines a
agenda_all join lines sum a so_far =
    let all : so_far.done ≡ timed 0 lines = sym (append-nil so_far.done) ∙ sym so_far.timed_is in
    record {
      bytes = so_far.built.bytes ∙ ap (λ (ts : List Timed). message_bytes join ++ flat_map timed_bytes ts) all;
      join = so_far.built.join;
      marks = subst (λ (ts : List Timed). AreMarks a.join ts a.marks.items) all so_far.built.marks;
      quits = so_far.built.quits ∙ sym so_far.quits_is;
    }

-- a `quit` was put, and what stands behind it is never said
pub agenda_quit : (join : AdminMsg) (lines rest : List Command) (line : Command) (sum : ℕ) (old new last : Agenda)
    → SoFar join lines (line ∷ rest) sum old → Puts old new sum (said line) → is_quit line ≡ true → last ≡ record new { quits = true }
    → IsAgenda join lines last
agenda_quit join lines rest line sum old new last so_far puts holds is =
    let one = before sum (said line) [] in
    let built = built_more join old new so_far.done sum (said line) so_far.built puts in
    let all : so_far.done ++ one ≡ timed 0 lines = sym (so_far.timed_is ∙ ap (λ (ts : List Timed). so_far.done ++ ts)
    (timed_off sum line rest holds)) in
    let quit : quits lines ≡ true = so_far.quits_is ∙ ap (λ (b : Bool). b || quits rest) holds in
    subst (λ (a : Agenda). IsAgenda join lines a) (sym is) (record {
      bytes = built.bytes ∙ ap (λ (ts : List Timed). message_bytes join ++ flat_map timed_bytes ts) all;
      join = built.join;
      marks = subst (λ (ts : List Timed). AreMarks new.join ts new.marks.items) all built.marks;
      quits = sym quit;
    })

-- ---- what is due

-- where the marks that are due end
abbrev pub due_from : ℕ → ℕ → List Mark → ℕ
due_from ticks end [] = end
due_from ticks end (m ∷ ms) = cond (nat_le m.after ticks) (due_from ticks m.end ms) end

-- the first mark that is not due ends it
pub due_ends : (ticks end i : ℕ) (items ms : List Mark) (d : Mark) → items ≡ ms → i < length items → ticks < (get_or items i d).after
    → due_from ticks end (drop i ms) ≡ end
due_ends ticks end i items ms d same lt late =
    let m = get_or items i d in
    let rest = drop (suc i) items in
    ap (λ (xs : List Mark). due_from ticks end (drop i xs)) (sym same) ∙ ap (due_from ticks end) (drop-cons items i d lt)
    ∙ ap (λ (b : Bool). cond b (due_from ticks m.end rest) end) (lt-leb m.after ticks late)

-- and behind the last one all are due
pub due_all : (ticks end i : ℕ) (items ms : List Mark) → items ≡ ms → length items ≤ i → due_from ticks end (drop i ms) ≡ end
due_all ticks end i items ms same all =
    ap (λ (xs : List Mark). due_from ticks end (drop i xs)) (sym same) ∙ ap (due_from ticks end) (drop_all i items all)

due_by : (ticks at : ℕ) (t : Timed) (m : Mark) (ts : List Timed) (ms : List Mark) (b : Bool) → m.end ≡ at + length (timed_bytes t)
    → due_from ticks m.end ms ≡ m.end + length (flat_map timed_bytes (due ticks ts))
    → cond b (due_from ticks m.end ms) at ≡ at + length (flat_map timed_bytes (cond b (t ∷ due ticks ts) []))
due_by ticks at t m ts ms true end rec = omega (arith, end, rec, length-append (timed_bytes t) (flat_map timed_bytes (due ticks ts)))
due_by ticks at t m ts ms false end rec = omega arith

due_length : (ticks at : ℕ) (ts : List Timed) (ms : List Mark) → AreMarks at ts ms
    → due_from ticks at ms ≡ at + length (flat_map timed_bytes (due ticks ts))
due_length ticks at [] [] are = omega arith
due_length ticks at [] (m ∷ ms) are = absurd are
due_length ticks at (t ∷ ts) [] are = absurd are
due_length ticks at (t ∷ ts) (m ∷ ms) are =
    ap (λ (n : ℕ). cond (nat_le n ticks) (due_from ticks m.end ms) at) are.0
    ∙ due_by ticks at t m ts ms (nat_le t.after ticks) are.1 (due_length ticks m.end ts ms are.2)

due_front_by : (ticks : ℕ) (t : Timed) (ts : List Timed) (b : Bool) → (rest : List Timed) × (due ticks ts ++ rest ≡ ts)
    → (rest : List Timed) × (cond b (t ∷ due ticks ts) [] ++ rest ≡ t ∷ ts)
due_front_by ticks t ts true rec = (rec.0, ap (λ (us : List Timed). t ∷ us) rec.1)
due_front_by ticks t ts false rec = (t ∷ ts, refl)

-- what is due stands in front
due_front : (ticks : ℕ) (ts : List Timed) → (rest : List Timed) × (due ticks ts ++ rest ≡ ts)
due_front ticks [] = ([], refl)
due_front ticks (t ∷ ts) = due_front_by ticks t ts (nat_le t.after ticks) (due_front ticks ts)

-- once WELCOME came, so many bytes are due
pub due_is : (join : AdminMsg) (lines : List Command) (a : Agenda) (ticks : ℕ) → IsAgenda join lines a
    → (due_from ticks a.join a.marks.items ≤ length a.bytes.items)
    × (take (due_from ticks a.join a.marks.items) a.bytes.items ≡ due_bytes join lines true ticks)
due_is join lines a ticks is =
    let first = message_bytes join in
    let now = flat_map timed_bytes (due ticks (timed 0 lines)) in
    let rest = due_front ticks (timed 0 lines) in
    let all : a.bytes.items ≡ (first ++ now) ++ flat_map timed_bytes rest.0 =
    is.bytes ∙ ap (λ (ts : List Timed). first ++ flat_map timed_bytes ts) (sym rest.1)
    ∙ ap (λ (bs : List ℕ). first ++ bs) (flat_map-append timed_bytes (due ticks (timed 0 lines)) rest.0)
    ∙ sym (append_assoc first now (flat_map timed_bytes rest.0)) in
    let long : due_from ticks a.join a.marks.items ≡ length (first ++ now) =
    due_length ticks a.join (timed 0 lines) a.marks.items is.marks ∙ ap (λ (n : ℕ). n + length now) is.join
    ∙ sym (length-append first now) in (
      omega (arith, long, ap length all, length-append (first ++ now) (flat_map timed_bytes rest.0)),
      ap (take (due_from ticks a.join a.marks.items)) all
          ∙ take_at (first ++ now) (flat_map timed_bytes rest.0) (due_from ticks a.join a.marks.items) (sym long),
    )

-- once WELCOME came, what ends there is due
pub due_until : (join : AdminMsg) (lines : List Command) (a : Agenda) (ticks end : ℕ) → due_from ticks a.join a.marks.items ≡ end
    → IsAgenda join lines a → (end ≤ length a.bytes.items) × (take end a.bytes.items ≡ due_bytes join lines true ticks)
due_until join lines a ticks end is made =
    let P : ℕ → Type 0 = λ e. (e ≤ length a.bytes.items) × (take e a.bytes.items ≡ due_bytes join lines true ticks) in
    subst P is (due_is join lines a ticks made)

-- before WELCOME the JOIN is
pub join_due : (join : AdminMsg) (lines : List Command) (a : Agenda) (ticks : ℕ) → IsAgenda join lines a → (a.join ≤ length a.bytes.items)
    × (take a.join a.bytes.items ≡ due_bytes join lines false ticks)
join_due join lines a ticks is =
    let first = message_bytes join in
    let later = flat_map timed_bytes (timed 0 lines) in (
      omega (arith, is.join, ap length is.bytes, length-append first later),
      ap (take a.join) is.bytes ∙ take_at first later a.join (sym is.join) ∙ sym (append-nil first),
    )

-- ---- more is due later

le_both : (x a b : ℕ) → nat_le x a ≡ true → a ≤ b → nat_le x b ≡ true
le_both x a b holds le = le-leb x b (omega (arith, leb-true x a holds, le))

due_later_by : (a b : ℕ) (t : Timed) (ts : List Timed) (p : Bool) → nat_le t.after a ≡ p → a ≤ b → IsPrefix (due a ts) (due b ts)
    → IsPrefix (cond p (t ∷ due a ts) []) (cond (nat_le t.after b) (t ∷ due b ts) [])
due_later_by a b t ts true is le rec =
    rw (le_both t.after a b is le) (rec.0, ap (λ (us : List Timed). t ∷ us) rec.1)
due_later_by a b t ts false is le rec = (cond (nat_le t.after b) (t ∷ due b ts) [], refl)

due_later : (a b : ℕ) (ts : List Timed) → a ≤ b → IsPrefix (due a ts) (due b ts)
due_later a b [] le = ([], refl)
due_later a b (t ∷ ts) le = due_later_by a b t ts (nat_le t.after a) refl le (due_later a b ts le)

bytes_later : (first : List ℕ) (ts us : List Timed) → IsPrefix ts us → IsPrefix (first ++ flat_map timed_bytes ts) (first
    ++ flat_map timed_bytes us)
bytes_later first ts us more = (
  flat_map timed_bytes more.0,
  append_assoc first (flat_map timed_bytes ts) (flat_map timed_bytes more.0)
      ∙ ap (λ (bs : List ℕ). first ++ bs) (sym (flat_map-append timed_bytes ts more.0) ∙ ap (flat_map timed_bytes) more.1),
)

-- what is due stays so: with more packets and more ticks as much is due, and more
pub due_more : (join : AdminMsg) (lines : List Command) (w v : Bool) (a b : ℕ) → (w ≡ true → v ≡ true) → a ≤ b
    → IsPrefix (due_bytes join lines w a) (due_bytes join lines v b)
due_more join lines true v a b up le =
    let holds : v ≡ true = up refl in
    rw holds (bytes_later (message_bytes join) (due a (timed 0 lines)) (due b (timed 0 lines)) (due_later a b (timed 0 lines) le))
due_more join lines false true a b up le =
    bytes_later (message_bytes join) [] (due b (timed 0 lines)) (due b (timed 0 lines), refl)
due_more join lines false false a b up le = ([], append-nil (message_bytes join ++ []))
