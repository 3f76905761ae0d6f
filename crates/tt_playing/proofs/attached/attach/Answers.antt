use Rattle.std.proofs.Common.{◌≡◌, ◌≢◌, ◌≤◌, ◌+◌, length, ℕ, arith, refl, ap, sym, ◌∙◌, Some, Option, subst, List}
use Rattle.tt_edge.specs.Event.{opens}
use Rattle.tt_edge.specs.declared.event.Door.TheVariants.{Main}
use Rattle.tt_frame.proofs.TextLaws.{length_of_text}
use Rattle.tt_client.specs.Held.{Held, held_first}
use Rattle.tt_client.specs.declared.login.Login.{Login}
use Rattle.tt_playing.specs.Attached.{Attached, client_in, fresh, given_in, login_of, with_client}
use Rattle.tt_playing.specs.Played.{joined, opened}
use Rattle.tt_playing.specs.declared.play.Play.{Play}
use Rattle.tt_playing.specs.declared.play.Connection.{Connection}
use Rattle.tt_playing.proofs.Histories.{opened_one}
use Rattle.tt_playing.proofs.Lines.{login_is, with_elsewhere, with_new}
use Rattle.tt_playing.proofs.Plays.{at_opening}
use Rattle.tt_playing.proofs.attached.attach.Goals as goal

pub new-requires : goal.new-requires
new-requires c =
    let words = c.requires.line.0 in
    record {
      name = subst (λ (xs : List ℕ). length xs ≤ 24) (sym c.copy-2.ensures) (length_of_text 24 c.args.name.now words.1.0.text);
      password = subst (λ (xs : List ℕ). length xs ≤ 32) (sym c.copy-3.ensures) (length_of_text 32 c.args.password.now words.1.1.1.0.text);
      company_password = subst (λ (xs : List ℕ). length xs ≤ 32) (sym c.copy-4.ensures) (length_of_text 32 c.args.own.now
          words.1.1.1.1.0.text);
    }

pub returns-clause-at : goal.returns-clause-at
returns-clause-at c o p at =
    let play = c.args.play.now in
    let number = opens p.events + 1 in
    let login : Login = login_of o.setup c.args.name.now c.args.company c.args.password.now c.args.own.now in
    let q = joined login p in
    let new : Connection = record { door = Main; rest = c.new-2.result; client = Some c.in_ok-client.client; told = c.new-3.result } in
    let next : Play = record play { hub = c.put_opening.new.hub; connections = c.push.new.self } in
    let same = opened_one p.events Main in
    let here : q.clients number ≡ Some (fresh login) = with_new (opens (opened Main p).events) number (Some (fresh login)) p.clients
    (sym same) in
    let first : Some c.in_ok-client.client ≡ client_in (Some (fresh login)) = ap Some (c.in_ok-client.ensures.first
    ∙ ap held_first (login_is c.args.company _ o.setup.revision _ c.args.name.now _ c.args.password.now _ c.args.own.now
    (c.copy.ensures ∙ at.revision) c.copy-2.ensures c.copy-3.ensures c.copy-4.ensures)) in
    at_opening o play next p Main new q.clients at c.in_ok-put_opening.ensures.origin c.in_ok-put_opening.ensures.events
    c.in_ok-put_opening.ensures.taken refl refl refl c.in_ok-push.ensures.items refl c.new-2.ensures.items c.new-3.ensures.items
    (λ conn apart. with_elsewhere (opens (opened Main p).events) conn (Some (fresh login)) p.clients (λ e. apart (e ∙ same)))
    (first ∙ ap client_in (sym here)) (ap given_in here)
