use Rattle.tt_rows.proofs.AdminTalksComputed.{computed}
use Rattle.tt_rows.proofs.admin_talks.admin_talks_come_to.Goals as goal

pub returns-clause-news_of_chats : goal.returns-clause-news_of_chats
returns-clause-news_of_chats c = computed.0

pub returns-clause-news_of_own_chats : goal.returns-clause-news_of_own_chats
returns-clause-news_of_own_chats c = computed.1

pub returns-clause-admins_chat : goal.returns-clause-admins_chat
returns-clause-admins_chat c = computed.2

pub returns-clause-news_of_lines : goal.returns-clause-news_of_lines
returns-clause-news_of_lines c = computed.3

pub returns-clause-news_of_commands : goal.returns-clause-news_of_commands
returns-clause-news_of_commands c = computed.4

pub returns-clause-no_news : goal.returns-clause-no_news
returns-clause-no_news c = computed.5

pub returns-clause-scripts_and_other_chats : goal.returns-clause-scripts_and_other_chats
returns-clause-scripts_and_other_chats c = computed.6
