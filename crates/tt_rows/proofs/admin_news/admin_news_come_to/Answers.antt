use Rattle.tt_rows.proofs.AdminNewsComputed.{computed}
use Rattle.tt_rows.proofs.admin_news.admin_news_come_to.Goals as goal

pub returns-clause-news_of_a_welcome : goal.returns-clause-news_of_a_welcome
returns-clause-news_of_a_welcome c = computed.0

pub returns-clause-news_of_an_entry : goal.returns-clause-news_of_an_entry
returns-clause-news_of_an_entry c = computed.1

pub returns-clause-news_of_a_name : goal.returns-clause-news_of_a_name
returns-clause-news_of_a_name c = computed.2

pub returns-clause-news_of_moves : goal.returns-clause-news_of_moves
returns-clause-news_of_moves c = computed.3

pub returns-clause-news_of_a_founder : goal.returns-clause-news_of_a_founder
returns-clause-news_of_a_founder c = computed.4

pub returns-clause-news_of_a_quit : goal.returns-clause-news_of_a_quit
returns-clause-news_of_a_quit c = computed.5

pub returns-clause-news_of_ends : goal.returns-clause-news_of_ends
returns-clause-news_of_ends c = computed.6

pub returns-clause-news_of_no_end : goal.returns-clause-news_of_no_end
returns-clause-news_of_no_end c = computed.7

pub returns-clause-news_of_names : goal.returns-clause-news_of_names
returns-clause-news_of_names c = computed.8

pub returns-clause-news_of_a_locked_company : goal.returns-clause-news_of_a_locked_company
returns-clause-news_of_a_locked_company c = computed.9

pub returns-clause-news_of_a_lost_founder : goal.returns-clause-news_of_a_lost_founder
returns-clause-news_of_a_lost_founder c = computed.10

pub returns-clause-news_of_a_password : goal.returns-clause-news_of_a_password
returns-clause-news_of_a_password c = computed.11

pub returns-clause-news_of_one_founding : goal.returns-clause-news_of_one_founding
returns-clause-news_of_one_founding c = computed.12
