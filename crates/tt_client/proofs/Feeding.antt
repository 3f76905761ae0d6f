-- A piece that is fed.
use Rattle.std.proofs.Common.{◌≡◌, ℕ, Bool, true, false, cond, List, [], ◌++◌, sym, ap, ◌∙◌, append-nil}
use Rattle.tt_client.specs.declared.login.Login.{Login}
use Rattle.tt_client.specs.Cutting.{Cut, cut_at}
use Rattle.tt_client.specs.Held.{Held, fed_on}
use Rattle.tt_client.specs.Player.{heard_all, is_on}
use Rattle.tt_client.specs.Runs.{running}
use Rattle.tt_client.proofs.Seated.{P}

abbrev pub held_by : Login → P → List ℕ → ℕ → Held
held_by login player rest at = record { login = login; player = player; rest = rest; at = at }

abbrev cut_held : Login → P → Cut → Held
cut_held login player cut = held_by login (heard_all running login cut.items player) cut.rest cut.at

-- a piece of a client that goes on
fed_on_is : (login : Login) (player : P) (rest piece : List ℕ) (at : ℕ) → is_on running login player ≡ true
    → fed_on piece (held_by login player rest at) ≡ cut_held login player (cut_at at (rest ++ piece))
fed_on_is login player rest piece at on = ap (λ (b : Bool). cond b (cut_held login player (cut_at at (rest ++ piece))) (held_by login
    player rest at)) on

pub fed_off : (h : Held) (piece : List ℕ) → is_on running h.login h.player ≡ false → h ≡ fed_on piece h
fed_off h piece off = sym (ap (λ (b : Bool). cond b (cut_held h.login h.player (cut_at h.at (h.rest ++ piece))) h) off)

-- what was cut and heard is the piece
pub fed_so : (login : Login) (player new : P) (rest : List ℕ) (at : ℕ) (cut : Cut) → is_on running login player ≡ true
    → cut ≡ cut_at at rest → new ≡ heard_all running login cut.items player
    → held_by login new cut.rest cut.at ≡ fed_on [] (held_by login player rest at)
fed_so login player new rest at cut on is heard =
    ap (λ (p : P). held_by login p cut.rest cut.at) heard
    ∙ ap (λ (c : Cut). cut_held login player c) (is ∙ ap (λ (xs : List ℕ). cut_at at xs) (sym (append-nil rest)))
    ∙ sym (fed_on_is login player rest [] at on)

-- a piece that was put behind the unread bytes
pub fed_joined : (login : Login) (player : P) (rest piece : List ℕ) (at : ℕ) → is_on running login player ≡ true
    → fed_on [] (held_by login player (rest ++ piece) at) ≡ fed_on piece (held_by login player rest at)
fed_joined login player rest piece at on =
    fed_on_is login player (rest ++ piece) [] at on
    ∙ ap (λ (xs : List ℕ). cut_held login player (cut_at at xs)) (append-nil (rest ++ piece))
    ∙ sym (fed_on_is login player rest piece at on)
