use Rattle.tt_rows.proofs.TokensComputed.{computed}
use Rattle.tt_rows.proofs.tokens.tokens_come_to.Goals as goal

pub returns-clause-given_back : goal.returns-clause-given_back
returns-clause-given_back c = computed.0

pub returns-clause-another_token : goal.returns-clause-another_token
returns-clause-another_token c = computed.1

pub returns-clause-twice_given_back : goal.returns-clause-twice_given_back
returns-clause-twice_given_back c = computed.2

pub returns-clause-none_given_back : goal.returns-clause-none_given_back
returns-clause-none_given_back c = computed.3

pub returns-clause-late_given_back : goal.returns-clause-late_given_back
returns-clause-late_given_back c = computed.4

pub returns-clause-wrong_frame_first : goal.returns-clause-wrong_frame_first
returns-clause-wrong_frame_first c = computed.5

pub returns-clause-open_for_long : goal.returns-clause-open_for_long
returns-clause-open_for_long c = computed.6

pub returns-clause-open_for_the_lag : goal.returns-clause-open_for_the_lag
returns-clause-open_for_the_lag c = computed.7
