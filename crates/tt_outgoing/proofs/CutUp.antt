-- Packets in two lists.
use Rattle.std.proofs.Common.{◌≡◌, ℕ, ◌+◌, ◌-◌, ◌≤◌, List, [], ◌∷◌, ◌++◌, length, take, drop, refl, sym, ap, subst, ◌∙◌, arith}
use Rattle.std.proofs.lemmas.List.{length-append, length-drop, length-take-le, take-append-le, drop-append-le, take_all}
use Rattle.tt_outgoing.specs.declared.staged.Cut.{Cut}
use Rattle.tt_outgoing.specs.Staging.{Packet, IsCutUp, bytes_cut, bytes_in, conns_cut, cut_up, parts_in}
use Rattle.tt_outgoing.proofs.OutsSeats.{none_of_length}

same_packets : (a b c d : List ℕ) (p q : List Packet) → a ≡ b → c ≡ d → p ≡ q
    → (let x : Packet = record { to = a; bytes = c } in x ∷ p) ≡ (let y : Packet = record { to = b; bytes = d } in y ∷ q)
same_packets a b c d p q e f g =
    ap (λ (l : List ℕ). let x : Packet = record { to = l; bytes = c } in x ∷ p) e
    ∙ ap (λ (l : List ℕ). let x : Packet = record { to = b; bytes = l } in x ∷ p) f
    ∙ ap (λ (l : List Packet). let x : Packet = record { to = b; bytes = d } in x ∷ l) g

-- without the first packet, the two lists are those of the others
pub rest_cut : (c : Cut) (cuts : List Cut) (conns bytes : List ℕ) → IsCutUp (c ∷ cuts) conns bytes
    → IsCutUp cuts (drop c.conns conns) (drop c.bytes bytes)
rest_cut c cuts conns bytes is = record {
  conns_are = omega (arith, is.conns_are, length-drop c.conns conns);
  bytes_are = omega (arith, is.bytes_are, length-drop c.bytes bytes);
}

-- one packet more
first_put : (conns to : List ℕ) → length conns ≡ 0 → take (length to) (conns ++ to) ≡ to
first_put conns to e = ap (λ (l : List ℕ). take (length to) (l ++ to)) (none_of_length conns e) ∙ take_all (length to) to (omega arith)

pub cut_put : (cuts : List Cut) (conns bytes to more : List ℕ) → IsCutUp cuts conns bytes
    → cut_up (cuts ++ record { conns = length to; bytes = length more } ∷ []) (conns ++ to) (bytes ++ more)
    ≡ cut_up cuts conns bytes ++ record { to = to; bytes = more } ∷ []
cut_put [] conns bytes to more is =
    same_packets (take (length to) (conns ++ to)) to (take (length more) (bytes ++ more)) more [] []
    (first_put conns to (sym is.conns_are)) (first_put bytes more (sym is.bytes_are)) refl
cut_put (c ∷ cuts) conns bytes to more is =
    let last : Cut = record { conns = length to; bytes = length more } in
    let fits : c.conns ≤ length conns = omega (arith, is.conns_are) in
    let fit : c.bytes ≤ length bytes = omega (arith, is.bytes_are) in
    same_packets (take c.conns (conns ++ to)) (take c.conns conns) (take c.bytes (bytes ++ more)) (take c.bytes bytes)
    (cut_up (cuts ++ last ∷ []) (drop c.conns (conns ++ to)) (drop c.bytes (bytes ++ more)))
    (cut_up cuts (drop c.conns conns) (drop c.bytes bytes) ++ record { to = to; bytes = more } ∷ [])
    (take-append-le c.conns conns to fits) (take-append-le c.bytes bytes more fit)
    (ap (λ (l : List ℕ). cut_up (cuts ++ last ∷ []) l (drop c.bytes (bytes ++ more))) (drop-append-le c.conns conns to fits)
    ∙ ap (λ (l : List ℕ). cut_up (cuts ++ last ∷ []) (drop c.conns conns ++ to) l) (drop-append-le c.bytes bytes more fit)
    ∙ cut_put cuts (drop c.conns conns) (drop c.bytes bytes) to more (rest_cut c cuts conns bytes is))

conns_put : (cuts : List Cut) (c : Cut) → conns_cut (cuts ++ c ∷ []) ≡ conns_cut cuts + c.conns
conns_put [] c = omega arith
conns_put (d ∷ cuts) c = omega (arith, conns_put cuts c)

bytes_put : (cuts : List Cut) (c : Cut) → bytes_cut (cuts ++ c ∷ []) ≡ bytes_cut cuts + c.bytes
bytes_put [] c = omega arith
bytes_put (d ∷ cuts) c = omega (arith, bytes_put cuts c)

pub is_cut_put : (cuts : List Cut) (conns bytes to more : List ℕ) → IsCutUp cuts conns bytes
    → IsCutUp (cuts ++ record { conns = length to; bytes = length more } ∷ []) (conns ++ to) (bytes ++ more)
is_cut_put cuts conns bytes to more is = record {
  conns_are = omega (arith, is.conns_are, conns_put cuts (record { conns = length to; bytes = length more }), length-append conns to);
  bytes_are = omega (arith, is.bytes_are, bytes_put cuts (record { conns = length to; bytes = length more }), length-append bytes more);
}

-- how many they are
pub bytes_are_in : (cuts : List Cut) (conns bytes : List ℕ) → IsCutUp cuts conns bytes → bytes_in (cut_up cuts conns bytes) ≡ length bytes
bytes_are_in [] conns bytes is = is.bytes_are
bytes_are_in (c ∷ cuts) conns bytes is =
    omega (
      arith,
      length-take-le c.bytes bytes (omega (arith, is.bytes_are)),
      length-drop c.bytes bytes,
      is.bytes_are,
      bytes_are_in cuts (drop c.conns conns) (drop c.bytes bytes) (rest_cut c cuts conns bytes is),
    )

pub parts_are_in : (cuts : List Cut) (conns bytes : List ℕ) → IsCutUp cuts conns bytes → parts_in (cut_up cuts conns bytes) ≡ length conns
parts_are_in [] conns bytes is = is.conns_are
parts_are_in (c ∷ cuts) conns bytes is =
    omega (
      arith,
      length-take-le c.conns conns (omega (arith, is.conns_are)),
      length-drop c.conns conns,
      is.conns_are,
      parts_are_in cuts (drop c.conns conns) (drop c.bytes bytes) (rest_cut c cuts conns bytes is),
    )

-- ---- a packet more, as the code puts it

last_is : (bytes more after : List ℕ) (n : ℕ) → after ≡ bytes ++ more → n ≡ length after - length bytes → n ≡ length more
last_is bytes more after n e is = omega (arith, is, ap length e, length-append bytes more)

cuts_are : (cuts after : List Cut) (to more : List ℕ) (n : ℕ) → n ≡ length more → after ≡ cuts ++ record { conns = length to; bytes = n } ∷
    []
    → after ≡ cuts ++ record { conns = length to; bytes = length more } ∷ []
cuts_are cuts after to more n e is =
    is ∙ ap (λ (k : ℕ). let c : Cut = record { conns = length to; bytes = k } in cuts ++ c ∷ []) e

pub put_whole : (cuts cuts_after : List Cut) (conns bytes to more conns_after bytes_after : List ℕ) (n : ℕ) → IsCutUp cuts conns bytes
    → cuts_after ≡ cuts ++ record { conns = length to; bytes = n } ∷ [] → conns_after ≡ conns ++ to → bytes_after ≡ bytes ++ more
    → n ≡ length bytes_after - length bytes → IsCutUp cuts_after conns_after bytes_after
put_whole cuts cuts_after conns bytes to more conns_after bytes_after n was cuts_is conns_is bytes_is n_is =
    let last = cuts_are cuts cuts_after to more n (last_is bytes more bytes_after n bytes_is n_is) cuts_is in
    let whole = is_cut_put cuts conns bytes to more was in
    record {
      conns_are = ap conns_cut last ∙ whole.conns_are ∙ ap length (sym conns_is);
      bytes_are = ap bytes_cut last ∙ whole.bytes_are ∙ ap length (sym bytes_is);
    }

pub put_last : (cuts cuts_after : List Cut) (conns bytes to more conns_after bytes_after : List ℕ) (n : ℕ) → IsCutUp cuts conns bytes
    → cuts_after ≡ cuts ++ record { conns = length to; bytes = n } ∷ [] → conns_after ≡ conns ++ to → bytes_after ≡ bytes ++ more
    → n ≡ length bytes_after - length bytes
    → cut_up cuts_after conns_after bytes_after ≡ cut_up cuts conns bytes ++ record { to = to; bytes = more } ∷ []
put_last cuts cuts_after conns bytes to more conns_after bytes_after n was cuts_is conns_is bytes_is n_is =
    let last = cuts_are cuts cuts_after to more n (last_is bytes more bytes_after n bytes_is n_is) cuts_is in
    ap (λ (l : List Cut). cut_up l conns_after bytes_after) last
    ∙ ap (λ (l : List ℕ). cut_up (cuts ++ record { conns = length to; bytes = length more } ∷ []) l bytes_after) conns_is
    ∙ ap (λ (l : List ℕ). cut_up (cuts ++ record { conns = length to; bytes = length more } ∷ []) (conns ++ to) l) bytes_is
    ∙ cut_put cuts conns bytes to more was

-- ---- the first packet is told, and the others are left

pub whole_step : (cuts more : List Cut) (c : Cut) (conns bytes others rest : List ℕ) → cuts ≡ c ∷ more → IsCutUp cuts conns bytes
    → others ≡ drop c.conns conns → rest ≡ drop c.bytes bytes → IsCutUp more others rest
whole_step cuts more c conns bytes others rest e was others_is rest_is =
    let P : List Cut → Type 0 = λ l. IsCutUp l conns bytes in
    let behind = rest_cut c more conns bytes (subst P e was) in
    record { conns_are = behind.conns_are ∙ ap length (sym others_is); bytes_are = behind.bytes_are ∙ ap length (sym rest_is) }
