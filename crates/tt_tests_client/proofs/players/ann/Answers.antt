use Rattle.std.proofs.Common.{ℕ, List, ◌≤◌, length, sym, subst, lit≤}
use Rattle.tt_tests_client.proofs.players.ann.Goals as goal

pub new-requires-clause-name : goal.new-requires-clause-name
new-requires-clause-name c = subst (λ (bytes : List ℕ). length bytes ≤ 24) (sym c.login.ensures.name) (lit≤ tt)

pub new-requires-clause-password : goal.new-requires-clause-password
new-requires-clause-password c = subst (λ (bytes : List ℕ). length bytes ≤ 32) (sym c.login.ensures.password) (lit≤ tt)

pub new-requires-clause-company_password : goal.new-requires-clause-company_password
new-requires-clause-company_password c = subst (λ (bytes : List ℕ). length bytes ≤ 32) (sym c.login.ensures.company_password) (lit≤ tt)
