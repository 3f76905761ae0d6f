use Rattle.std.proofs.Common.{◌∙◌, ◌∷◌, [], ◌++◌, List, ℕ, ap, ap₂, refl, arith}
use Rattle.tt_attempts.specs.Attempts.{from_direct}
use Rattle.tt_coord.specs.declared.coord.CoordMsg.TheVariants.{GcConnecting}
use Rattle.tt_gc_table.specs.Deed.{tells}
use Rattle.tt_gc_table.specs.Told.{bytes_to}
use Rattle.tt_gc_table.specs.Tells.{told_to}
use Rattle.tt_gc_table.specs.declared.setup.GcSetup.{GcSetup}
use Rattle.tt_gc_table.specs.Table.{Table, Connection, Server, Meeting}
use Rattle.tt_gc_table.specs.Codes.{new_token}
use Rattle.tt_gc_table.specs.Meetings.{new_meeting}
use Rattle.tt_gc_table.specs.Registry.{server_at}
use Rattle.tt_gc.proofs.ChangesLaws.{begun_planned}
use Rattle.tt_gc.proofs.clients.plan_begin.Goals as goal

pub returns : goal.returns
returns c =
    let s : GcSetup = c.args.rules.now in
    let t : Table = c.args.parts.now in
    let v : Server = server_at (c.args.code.now, c.args.served.now) in
    let m : Meeting = new_meeting s (new_token t) c.args.server.now v c.args.client.now in
    begun_planned s c.args.code.now c.in_ok-token.token c.copy-2.result c.client.inside.conn c.first_word-word.result.1 m
    c.first_word-word.result.0 t c.args.out.now c.tell_connecting.new.out c.tell_word.new.out c.in_ok-token.random
    (c.first_word-word.ensures.meeting c.args.code.now
    ∙ ap₂ (λ (st : GcSetup) (k : List ℕ). new_meeting st k c.args.server.now v c.args.client.now) c.setup.ensures
    c.in_ok-token.ensures.token)
    (c.first_word-word.ensures.told ∙ ap (λ (st : GcSetup). (from_direct st.ways).told) c.setup.ensures)
    c.in_ok-token.ensures.token c.copy-2.ensures (ap (λ (k : Connection). k.conn) c.client.view_is)
    (omega (arith, c.begun.ensures)) c.in_ok-token.ensures.words
    (λ x. c.in_ok-tell_connecting.ensures.told x
    ∙ ap (λ (k : List ℕ). told_to x c.args.out.now ++ bytes_to x (tells (c.client.inside.conn ∷ []) (GcConnecting k c.copy-2.result)
    t).told)
    c.copy.ensures) (λ x. c.in_ok-tell_word.ensures.told s c.turn_host.ensures x) c.begin.result c.begin.ensures refl
