use Rattle.std.proofs.Common.{Bool, Option, ap, ◌∙◌}
use Rattle.std.specs.Prelude.{◌==◌}
use Rattle.tt_attempts.specs.declared.attempt.Heard.TheVariants.{Failed, StunResult, Connected}
use Rattle.tt_gc_table.specs.Table.{Meeting}
use Rattle.tt_gc_table.specs.Deed.{where_, given}
use Rattle.tt_gc_table.specs.Meetings.{is_heard}
use Rattle.tt_gc_table.specs.PacketRules.{may_fail, is_side}
use Rattle.tt_gc_table.proofs.laws.strangers_change_nothing.Goals as goal

pub returns-clause-failed : goal.returns-clause-failed
returns-clause-failed c = λ s t m conn token tracking is not_its.
    ap (λ (o : Option Meeting). given o (λ (m : Meeting). where_ (may_fail conn tracking m) (is_heard s (Failed tracking) token)) t) is
    ∙ ap (λ (b : Bool). where_ b (is_heard s (Failed tracking) token) t) not_its

pub returns-clause-result : goal.returns-clause-result
returns-clause-result c = λ s t m conn token side ok is not_its.
    ap (λ (o : Option Meeting). given o (λ (m : Meeting). where_ (is_side conn side m) (is_heard s (StunResult side ok) token)) t) is
    ∙ ap (λ (b : Bool). where_ b (is_heard s (StunResult side ok) token) t) not_its

pub returns-clause-connected : goal.returns-clause-connected
returns-clause-connected c = λ s t m conn token is not_its.
    ap (λ (o : Option Meeting). given o (λ (m : Meeting). where_ (m.client.conn == conn) (is_heard s Connected token)) t) is
    ∙ ap (λ (b : Bool). where_ b (is_heard s Connected token) t) not_its

pub returns-clause-unknown : goal.returns-clause-unknown
returns-clause-unknown c = λ s t conn token tracking is.
    ap (λ (o : Option Meeting). given o (λ (m : Meeting). where_ (may_fail conn tracking m) (is_heard s (Failed tracking) token)) t) is

pub returns-clause-unknown_result : goal.returns-clause-unknown_result
returns-clause-unknown_result c = λ s t conn token side ok is.
    ap (λ (o : Option Meeting). given o (λ (m : Meeting). where_ (is_side conn side m) (is_heard s (StunResult side ok) token)) t) is

pub returns-clause-unknown_connected : goal.returns-clause-unknown_connected
returns-clause-unknown_connected c = λ s t conn token is.
    ap (λ (o : Option Meeting). given o (λ (m : Meeting). where_ (m.client.conn == conn) (is_heard s Connected token)) t) is
