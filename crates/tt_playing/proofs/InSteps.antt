-- The clients of a script are in step, and so are the lines that tell them.
use Rattle.std.proofs.Common.{◌≡◌, ℕ, false, List, Option, Some, inl, inr, refl, ap, ◌∙◌, subst}
use Rattle.tt_lockstep.specs.Runner.{Runner}
use Rattle.tt_edge.specs.declared.event.Event.{Event}
use Rattle.tt_world.specs.declared.command.Entry.{Entry}
use Rattle.tt_world.specs.World.{WorldState}
use Rattle.tt_log.specs.Contents.{Contents}
use Rattle.tt_log.specs.History.{AreEvents, journal_of}
use Rattle.tt_log.specs.Origin.{Origin, world_at}
use Rattle.tt_log.specs.Printing.{IsScript}
use Rattle.tt_log.specs.Shown.{Item, items_in}
use Rattle.tt_client.specs.Calls.{fed}
use Rattle.tt_client.specs.Held.{frame_of, world_of}
use Rattle.tt_client.specs.InStep.{IsInStep, IsRight, IsSent}
use Rattle.tt_client.specs.Player.{Player}
use Rattle.tt_client.specs.State.{state_of}
use Rattle.tt_client.specs.declared.state.State.{State}
use Rattle.tt_client.specs.declared.state.State.TheVariants as state
use Rattle.tt_client.proofs.Lockstep.{InStep}
use Rattle.tt_report.specs.Clients.{client_lines, lines_of_client, running_lines}
use Rattle.tt_playing.specs.Attached.{Attached, client_of}
use Rattle.tt_playing.specs.Begun.{origin_in}
use Rattle.tt_playing.specs.InStep.{AreInStep, AttachedInStep, HeardTheServer, IsOnMain, behind, handed_of}
use Rattle.tt_playing.specs.Played.{Played}
use Rattle.tt_playing.proofs.Agreeing.{HasWorld, has-world}
use Rattle.tt_playing.proofs.Handing.{is-sent}
use Rattle.tt_playing.proofs.Scripts.{IsGood, all-good, script-origin}

good : (script : Contents) → IsScript script → IsGood (origin_in script) (behind script)
good script is = all-good (origin_in script) script.lines (script-origin script is) is.lines

pub events-are : (script : Contents) → IsScript script → AreEvents (behind script).events
events-are script is = (good script is).events

pub on-main : (script : Contents) (conn : ℕ) (a : Attached) → IsScript script → (behind script).clients conn ≡ Some a
    → IsOnMain (behind script) conn
on-main script conn a is there =
    let known = (good script is).clients conn a there in record { some = known.some; opened = known.opened; door = known.door }

pub in-step : InStep → (script : Contents) (conn : ℕ) (a : Attached) → IsScript script → (behind script).clients conn ≡ Some a
    → a.forged ≡ false → HeardTheServer (origin_in script) (behind script) conn a
in-step law script conn a is there plain =
    let o : Origin = origin_in script in
    let p : Played = behind script in
    let known = (good script is).clients conn a there in
    let fed_is : fed a.calls ≡ handed_of o p conn a = known.fed_is plain in
    let heard = is-sent o p.events conn a (script-origin script is) (good script is).events known plain in
    record {
      fed_is = fed_is;
      sent = subst (IsSent o p.events conn) fed_is heard;
      in_step = subst (λ (bytes : List ℕ). IsInStep o p.events (items_in bytes) (client_of a).player) fed_is
          (law o p.events conn a.login a.calls heard);
    }

-- ---- its lines

abbrev P : Type 0
P = Player (Runner WorldState Entry)

-- those of one that runs
runs-so : (o : Origin) (events : List Event) (items : List Item) (conn : ℕ) (p : P) → IsInStep o events items p → (has : HasWorld p)
    → client_lines conn state.Running (frame_of p) (world_of p) ≡ running_lines conn has.0 (world_at o (journal_of o events) has.0)
runs-so o events items conn p is has =
    ap (λ (f : Option ℕ). client_lines conn state.Running f (world_of p)) has.2
    ∙ ap (λ (w : Option WorldState). client_lines conn state.Running (Some has.0) w) has.3
    ∙ ap (λ (w : WorldState). running_lines conn has.0 w) (is.world has.1 has.0 has.3 has.2)

lines-by : (s : State) (o : Origin) (events : List Event) (items : List Item) (conn : ℕ) (p : P) → IsInStep o events items p
    → IsRight s items → (s ≡ state.Running → HasWorld p)
    → AreInStep o (journal_of o events) items conn (client_lines conn s (frame_of p) (world_of p))
lines-by state.Joining o events items conn p is right has = inl refl
lines-by state.Running o events items conn p is right has =
    let there = has refl in inr (inl (there.0, runs-so o events items conn p is there))
lines-by (state.Ended code) o events items conn p is right has = inr (inr (inl (code, refl, right)))
lines-by state.Shutdown o events items conn p is right has = inr (inr (inr (refl, right)))
lines-by (state.Desync frame mine theirs) o events items conn p is right has = absurd right
lines-by (state.Wrong place) o events items conn p is right has = absurd right

pub lines-in-step : AttachedInStep → (script : Contents) (conn : ℕ) (a : Attached) → IsScript script
    → (behind script).clients conn ≡ Some a → a.forged ≡ false
    → (let o : Origin = origin_in script in let p : Played = behind script in
    AreInStep o (journal_of o p.events) (items_in (handed_of o p conn a)) conn (lines_of_client conn (client_of a)))
lines-in-step law script conn a is there plain =
    let p : Played = behind script in
    let heard = law script conn a is there plain in
    lines-by (state_of (client_of a).player) (origin_in script) p.events (items_in (handed_of (origin_in script) p conn a)) conn
    (client_of a).player heard.in_step heard.in_step.right (has-world a.login a.calls)
