use Rattle.std.proofs.Common.{◌∙◌, sym}
use Rattle.tt_words.specs.Addresses.{IsAddress}
use Rattle.tt_words.proofs.AddressLaws.{address_cut}
use Rattle.tt_words.proofs.FoundLaws.{none_found}
use Rattle.tt_words.proofs.address.address_of.Goals as goal

pub returns-in_err-first : goal.returns-in_err-first
returns-in_err-first c = none_found (IsAddress c.args.word.now) _ c.from_residual.ensures (λ peer is.
    let cut = address_cut c.args.word.now peer is in
    c.in_err-first.ensures.none cut.a _ cut.small_a (c.bytes.ensures.same ∙ cut.text))

pub returns-in_err-second : goal.returns-in_err-second
returns-in_err-second c = none_found (IsAddress c.args.word.now) _ c.from_residual-in_err-second.ensures (λ peer is.
    let cut = address_cut c.args.word.now peer is in
    let one = c.in_ok-first.ensures.only cut.a _ cut.small_a (c.bytes.ensures.same ∙ cut.text) in
    c.in_err-second.ensures.none cut.b _ cut.small_b (sym one))

pub returns-in_err-third : goal.returns-in_err-third
returns-in_err-third c = none_found (IsAddress c.args.word.now) _ c.from_residual-in_err-third.ensures (λ peer is.
    let cut = address_cut c.args.word.now peer is in
    let one = c.in_ok-first.ensures.only cut.a _ cut.small_a (c.bytes.ensures.same ∙ cut.text) in
    let two = c.in_ok-second.ensures.only cut.b _ cut.small_b (sym one) in
    c.in_err-third.ensures.none cut.c _ cut.small_c (sym two))

pub returns-in_err-fourth : goal.returns-in_err-fourth
returns-in_err-fourth c = none_found (IsAddress c.args.word.now) _ c.from_residual-in_err-fourth.ensures (λ peer is.
    let cut = address_cut c.args.word.now peer is in
    let one = c.in_ok-first.ensures.only cut.a _ cut.small_a (c.bytes.ensures.same ∙ cut.text) in
    let two = c.in_ok-second.ensures.only cut.b _ cut.small_b (sym one) in
    let three = c.in_ok-third.ensures.only cut.c _ cut.small_c (sym two) in
    c.in_err-fourth.ensures.none cut.d _ cut.small_d (sym three))

pub returns-in_err-port : goal.returns-in_err-port
returns-in_err-port c = none_found (IsAddress c.args.word.now) _ c.from_residual-in_err-port.ensures (λ peer is.
    let cut = address_cut c.args.word.now peer is in
    let one = c.in_ok-first.ensures.only cut.a _ cut.small_a (c.bytes.ensures.same ∙ cut.text) in
    let two = c.in_ok-second.ensures.only cut.b _ cut.small_b (sym one) in
    let three = c.in_ok-third.ensures.only cut.c _ cut.small_c (sym two) in
    let four = c.in_ok-fourth.ensures.only cut.d _ cut.small_d (sym three) in
    c.in_err-port.ensures.none peer.port cut.small_port (sym four))
