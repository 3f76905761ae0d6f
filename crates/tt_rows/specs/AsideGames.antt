-- Two lists of events side by side: what a player is told with an admin present, and without.
use Rattle.std.specs.Prelude.{[], codes, false, true, ◌++◌, ◌∷◌}
use Rattle.tt_edge.specs.declared.event.Event.TheVariants.{Tick}
use Rattle.tt_world.specs.Setup.{plain}
use Rattle.tt_world.specs.declared.command.Code.TheVariants.{NewCompany}
use Rattle.tt_log.specs.Origin.{Origin}
use Rattle.tt_rows.specs.Words.{ann, bob, chats_to, cid, entry, founds, hex, made_from, opens, quits, spectates, wants_name}
use Rattle.tt_rows.specs.AdminWords.{admin_game, admin_joins, admin_quits, ann_came, comes_aside, enters, gives_line, greeted}
use Rattle.tt_rows.specs.AdminWords.{opens_aside, pings, polls_all, wants_updates}
use Rattle.tt_rows.specs.Games.{Game}

-- a game that is over at a small cost
abbrev pub cheap_game : Origin
cheap_game = made_from (record plain { admin_password = codes "pw"; cost = 337 })

-- A founder, alone.
abbrev pub without_admins : Game
without_admins = record {
  origin = admin_game;
  events = (opens ∷ founds 1 ann ∷ []) ++ enters 1 1 ++ Tick ∷ chats_to 1 0 0 (codes "a") ∷ Tick ∷ [];
  conns = (
    ann_came ++ hex (codes "140019ff080002000000000002000000010000000c001502000000020000000008002002000000000a001b0200000000")
        ++ hex (codes "61000c0015030000000300000000"),
    true,
  ) ∷ [];
  journal = entry 2 1 255 NewCompany 2 0 [] ∷ [];
  frames = (3, 3);
}

-- The same, and admins that ask for all there is.
abbrev pub with_admins : Game
with_admins = record {
  origin = admin_game;
  events = (opens ∷ []) ++ comes_aside 2 ++ (wants_updates 2 0 63 ∷ wants_updates 2 1 65 ∷ wants_updates 2 2 65 ∷
      wants_updates 2 3 61 ∷ wants_updates 2 4 61 ∷ wants_updates 2 5 64 ∷ wants_updates 2 6 64 ∷ wants_updates 2 7 1 ∷
      wants_updates 2 8 64 ∷ wants_updates 2 9 64 ∷ founds 1 ann ∷ []) ++ enters 1 1 ++ (polls_all 2 1 ∷ Tick ∷
      gives_line 2 (codes "clients") ∷ chats_to 1 0 0 (codes "a") ∷ pings 2 1 ∷ []) ++ comes_aside 3 ++
      wants_updates 3 10 1 ∷ Tick ∷ admin_quits 2 ∷ [];
  conns = (
    ann_came ++ hex (codes "140019ff080002000000000002000000010000000c001502000000020000000008002002000000000a001b0200000000")
        ++ hex (codes "61000c0015030000000300000000"),
    true,
  )
      ∷ (
        greeted ++ hex (codes "0c006d02000000416e6e00ff07006c020000000c006d02000000416e6e00ff0e007f01000000ff080002000000040071")
            ++ hex (codes "0019007200436f6d70616e79203100507265736964656e7400000c006e02000000416e6e000011007961646d696e0063")
            ++ hex (codes "6c69656e7473000d0078000032203020416e6e000b007d636c69656e7473000a00770002000000610007007e01000000"),
        false,
      )
      ∷ (greeted ++ hex (codes "04006604"), false)
      ∷ [];
  journal = entry 2 1 255 NewCompany 2 0 [] ∷ [];
  frames = (3, 3);
}

-- A spectator and an admin: `quit` ends both, each told in its own family.
abbrev pub console_ends_it : Game
console_ends_it = record {
  origin = admin_game;
  events = (opens ∷ []) ++ comes_aside 2 ++ (spectates 1 ann ∷ []) ++ enters 1 1 ++ gives_line 2 (codes "quit") ∷ Tick ∷ [];
  conns =
      (ann_came ++ hex (codes "030025"), false)
      ∷ (greeted ++ hex (codes "08007800006f6b0008007d717569740003006a"), false)
      ∷ [];
  journal = [];
  frames = (1, 1);
}

-- A welcome, a chat, a name and an end, told at both doors: each connection is told them in the order of the events.
abbrev pub told_at_both_doors : Game
told_at_both_doors = record {
  origin = admin_game;
  events = (opens ∷ opens ∷ spectates 1 ann ∷ []) ++ enters 1 1 ++ comes_aside 3 ++ wants_updates 3 1 64 ∷
      wants_updates 3 5 64 ∷ spectates 2 bob ∷ chats_to 1 0 0 (codes "a") ∷ wants_name 1 cid ∷ quits 2 ∷ [];
  conns =
      (ann_came ++ hex (codes "0c001d03000000ff426f62000a001b020000000061000c001d02000000ff4369640007002403000000"), true)
      ∷ (hex (codes "0e000c0300000000000000747400"), false)
      ∷ (greeted ++ hex (codes "0c006d03000000426f6200ff0a0077000200000061000c006e0200000043696400ff07006f03000000"), true)
      ∷ [];
  journal = [];
  frames = (1, 1);
}

-- A game that comes to its cost by an admin's packet tells both doors.
abbrev pub by_its_cost : Game
by_its_cost = record {
  origin = cheap_game;
  events = opens ∷ opens_aside ∷ admin_joins 2 ∷ pings 2 1 ∷ pings 2 2 ∷ [];
  conns = (hex (codes "030025"), false) ∷ (greeted ++ hex (codes "07007e0100000007007e0200000003006a"), false) ∷ [];
  journal = [];
  frames = (0, 0);
}
