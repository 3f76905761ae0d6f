-- What a server sends to a player is bytes.
use Rattle.std.proofs.Common.{◌≡◌, ℕ, zero, suc, ◌*◌, Bool, true, false, List, [], ◌∷◌, ◌++◌, Option, Some, None, inr}
use Rattle.std.specs.Prelude.{cond, drop, flat_map, length, map, nat_le, nat_lt}
use Rattle.std.specs.List.{AllByRecursion}
use Rattle.tt_edge.specs.declared.event.Event.{Event}
use Rattle.tt_edge.specs.declared.event.Door.TheVariants.{Side}
use Rattle.tt_game.specs.declared.message.GameMsg.{GameMsg}
use Rattle.tt_game.specs.declared.message.GameMsg.TheVariants.{ServerCheckNewgrfs, ServerMapData, ServerMapDone}
use Rattle.tt_admin.specs.declared.message.AdminMsg.{AdminMsg}
use Rattle.tt_world.specs.declared.command.Entry.{Entry}
use Rattle.tt_world.specs.World.{WorldState}
use Rattle.tt_map.specs.Layout.{map_of}
use Rattle.tt_log.specs.declared.deed.Step.{Step}
use Rattle.tt_log.specs.declared.deed.What.{What}
use Rattle.tt_log.specs.declared.deed.What.TheVariants.{Msg, ToAdmin, MapBegin, MapPieces, Sync, Entries, Stamp, End}
use Rattle.tt_log.specs.Origin.{Origin, IsOrigin, above, world_at}
use Rattle.tt_log.specs.Member.{Member}
use Rattle.tt_log.specs.Table.{Table, downloader, first}
use Rattle.tt_log.specs.Deed.{Said, admin, game, spelled}
use Rattle.tt_log.specs.Desk.{admin_arrives, counted_aside, most_admins}
use Rattle.tt_log.specs.Doors.{IsOfGame, door_of}
use Rattle.tt_log.specs.Events.{arrives, counted_in, deed, stepped}
use Rattle.tt_log.specs.Filling.{Filling}
use Rattle.tt_log.specs.History.{AreEvents}
use Rattle.tt_log.specs.PacketRules.{told_command}
use Rattle.tt_log.specs.Reports.{reported}
use Rattle.tt_log.specs.Spelled.{AreSpelled}
use Rattle.tt_log.specs.Tellings.{filling, said_by}
use Rattle.tt_log.specs.Tick.{left_by, pieces_of}
use Rattle.tt_log.specs.Told.{heard, heard_from, sent, told_by}
use Rattle.tt_log.proofs.Changes.{Change, wants_password, is_let_in, gets_token, gets_frame, answers, plays, commands, has_name, goes_to}
use Rattle.tt_log.proofs.Changes.{founds, gets_pieces, has_all, Move, queues, begins_map, loads, IsNews, IsTalk, steps_with}
use Rattle.tt_log.proofs.Families.{not-of-admins}
use Rattle.tt_log.proofs.Hearing.{Says, heard-all}
use Rattle.tt_log.proofs.Lists.{all-append, all-so}
use Rattle.tt_log.proofs.Ranges.{short-entries}
use Rattle.tt_log.proofs.Spelling.{Lasts, all-spelled, event-tells, first-lasts}
use Rattle.tt_log.proofs.Walk.{Base, Doors, Moves, Turns, Walk, ahead-of, behind-of, of-asks, of-deed, of-enters, of-leaves}
use Rattle.tt_log.proofs.Walk.{told_moved}
use Rattle.tt_log.proofs.Worlds.{world-good}
use Rattle.tt_playing.proofs.Bytes.{AreBytes, cut, join, left}
use Rattle.tt_playing.proofs.MapBytes.{map-bytes}
use Rattle.tt_playing.proofs.Spellings.{HasData, message-bytes}

-- ---- the bytes of a map are told by one step alone

abbrev IsPlainMsg : GameMsg → Type 0
IsPlainMsg (ServerMapData piece) = ⊥
IsPlainMsg (ServerCheckNewgrfs items) = ⊥
IsPlainMsg other = Unit {0}

abbrev IsPlainWhat : What → Type 0
IsPlainWhat (Msg m) = IsPlainMsg m
IsPlainWhat other = Unit {0}

abbrev IsPlain : Step → Type 0
IsPlain s = IsPlainWhat s.what

abbrev ArePlain : List Step → Type 0
ArePlain steps = AllByRecursion IsPlain steps

abbrev Plain : Table → List Step → Table → Type 0
Plain t steps u = ArePlain steps

talk-plain : (o : Origin) (e : Event) (t : Table) (m : GameMsg) → IsTalk o e t m → IsPlainMsg m
talk-plain o e t (ServerMapData piece) talk = absurd talk
talk-plain o e t (ServerCheckNewgrfs items) talk = absurd talk
talk-plain o e t other talk = tt

with-plain : (k : Change) (o : Origin) (t : Table) (m : Member) → ArePlain (steps_with k o t m)
with-plain (wants_password true name asked) o t m = (tt, tt)
with-plain (wants_password false name asked) o t m = (tt, tt)
with-plain (is_let_in name asked) o t m = (tt, tt)
with-plain gets_token o t m = (tt, tt)
with-plain gets_frame o t m = (tt, tt)
with-plain (gets_pieces left) o t m = (tt, tt)
with-plain (answers frame token) o t m = tt
with-plain plays o t m = tt
with-plain (commands company code number to text command) o t m = tt
with-plain (has_name name) o t m = tt
with-plain (goes_to company digest) o t m = tt
with-plain (founds company) o t m = tt
with-plain has_all o t m = tt

news-plain : (o : Origin) (e : Event) (t : Table) (w : What) → IsNews o e t w → IsPlainWhat w
news-plain o e t (Msg m) news = talk-plain o e t m news
news-plain o e t Sync news = tt
news-plain o e t other news = tt

moved-plain : (v : Move) (m : Member) → ArePlain (told_moved v m)
moved-plain queues m = tt
moved-plain begins_map m = (tt, tt)
moved-plain loads m = tt

turns : (o : Origin) (e : Event) → Turns o e Plain
turns o e k t m on may by = with-plain k o t m

base : (o : Origin) (e : Event) → Base o e Plain
base o e = record {
  still = λ t. tt;
  joins = λ t u v xs ys a b. all-append IsPlain xs ys a b;
  turns = ahead-of o e Plain (turns o e);
  tells_one = λ t m msg on talk. (talk-plain o e t msg talk, tt);
  tells_some = λ t to w there news. (news-plain o e t w news, tt);
  tells_admins = λ t to r may is. (tt, tt);
}

moves : (o : Origin) (e : Event) → Moves o e Plain
moves o e = record {
  moving = λ v t m on may. moved-plain v m;
  recalls = λ t m on at. (tt, tt);
  waits_on = λ t conn n there. (tt, tt);
  stands = λ t m on. tt;
  cuts = λ t place. tt;
  ends_one = λ t m on. (tt, tt);
  parts = λ t m on. tt;
  greets = λ t m on at. (tt, tt);
}

walk : (o : Origin) (e : Event) → Walk o e Plain
walk o e = record {
  base = base o e;
  locks = λ t m digest on allowed. tt;
  orders = λ t k is still. tt;
  asks_map = λ t m on at. of-asks o e Plain (base o e) (moves o e) t m on at;
  enters_game = λ t m on at. of-enters o e Plain (base o e) (moves o e) t m on at;
  goes = λ t m farewell on is. of-leaves o e Plain (base o e) (moves o e) t m farewell on is;
  settles = λ t a b on is. tt;
  goes_aside = λ t a on. (tt, tt);
}

come-plain : (full : Bool) (t : Table) → ArePlain (arrives full t).told
come-plain true t = (tt, (tt, tt))
come-plain false t = tt

aside-plain : (full : Bool) (t : Table) → ArePlain (admin_arrives full t).told
aside-plain true t = (tt, (tt, tt))
aside-plain false t = tt

doors : (o : Origin) (e : Event) → Doors o e Plain
doors o e = record {
  comes = λ t. come-plain (nat_le o.setup.max_clients (length t.members)) (counted_in t);
  comes_aside = λ t. aside-plain (nat_le most_admins (length t.admins)) (counted_aside t);
}

deed-plain : (o : Origin) (e : Event) (t : Table) → ArePlain (deed o e t).told
deed-plain o e t = of-deed o e Plain (walk o e)
    (record { stamping = λ u. tt; running = λ u b is. tt; behind = behind-of o e Plain (turns o e) }) (doors o e)
    (record { charges = λ u. tt; closes = λ u. (tt, (tt, (tt, tt))) }) t

-- ---- what each step says

abbrev TellsBytes : Said → Type 0
TellsBytes (game m) = HasData m
TellsBytes (admin m) = Unit {0}

abbrev TellBytes : List Said → Type 0
TellBytes said = AllByRecursion TellsBytes said

data-of : (m : GameMsg) → IsPlainMsg m → HasData m
data-of (ServerMapData piece) plain = absurd plain
data-of (ServerCheckNewgrfs items) plain = absurd plain
data-of other plain = tt

of-admins : (ms : List AdminMsg) → TellBytes (map admin ms)
of-admins [] = tt
of-admins (m ∷ ms) = (tt, of-admins ms)

of-entries : (es : List Entry) → TellBytes (map (λ e. game (told_command e)) es)
of-entries [] = tt
of-entries (e ∷ es) = (tt, of-entries es)

of-pieces : (n : ℕ) (rest : List ℕ) (more : List GameMsg) → AreBytes rest → TellBytes (map game more)
    → TellBytes (map game (map ServerMapData (pieces_of n rest) ++ more))
of-pieces n [] more a m = m
of-pieces zero (b ∷ bs) more a m = m
of-pieces (suc n) (b ∷ bs) more a m = (cut 1400 (b ∷ bs) a, of-pieces n (drop 1400 (b ∷ bs)) more (left 1400 (b ∷ bs) a) m)

of-done : (b : Bool) → TellBytes (map game (cond b [] (ServerMapDone ∷ [])))
of-done true = tt
of-done false = (tt, tt)

what-says : (o : Origin) (f : Filling) (w : What) → AreBytes f.left → IsPlainWhat w → TellBytes (said_by o f w)
what-says o f (Msg m) a plain = (data-of m plain, tt)
what-says o f (ToAdmin r) a plain = of-admins (reported o f r)
what-says o f MapBegin a plain = (tt, (tt, tt))
what-says o f MapPieces a plain = of-pieces 4 f.left _ a (of-done (nat_lt (4 * 1400) (length f.left)))
what-says o f Sync a plain = (tt, tt)
what-says o f (Entries frame) a plain = of-entries (above o frame f.journal)
what-says o f (Stamp e) a plain = (tt, tt)
what-says o f End a plain = tt

-- ---- what is left of a map

left-bytes : (x : Option Member) (o : Origin) (t : Table) → IsOrigin o → Lasts o t → AreBytes (left_by x o t)
left-bytes None o t ok lasts = tt
left-bytes (Some m) o t ok lasts =
    let w : WorldState = world_at o t.journal m.map_frame in
    let good = world-good o t.journal m.map_frame ok (short-entries t.journal lasts.fits.journal) in
    left (1400 * m.pieces) (map_of w) (map-bytes w good.sound)

told-bytes : (o : Origin) (t : Table) (e : Event) (c : ℕ) → IsOrigin o → Lasts o t → TellBytes (told_by o t e c)
told-bytes o t e c ok lasts =
    let steps : List Step = (deed o e t).told in
    let f : Filling = filling o t (stepped o t e) in
    let rest : AreBytes f.left = left-bytes (downloader t) o t ok lasts in
    heard-all TellsBytes c o f steps (all-so IsPlain (Says TellsBytes c o f) steps
    (λ (s : Step) plain. inr (what-says o f s.what rest plain)) (deed-plain o e t))

heard-bytes : (o : Origin) (t : Table) (es : List Event) (c : ℕ) → IsOrigin o → AreEvents es → Lasts o t → TellBytes (heard_from o t es c)
heard-bytes o t [] c ok are lasts = tt
heard-bytes o t (e ∷ es) c ok are lasts =
    all-append TellsBytes (told_by o t e c) (heard_from o (stepped o t e) es c) (told-bytes o t e c ok lasts)
    (heard-bytes o (stepped o t e) es c ok are.1 (event-tells o e t ok are.0 lasts).lasts)

-- ---- the bytes

spelled-bytes : (said : List Said) → AllByRecursion IsOfGame said → AreSpelled said → TellBytes said → AreBytes (flat_map spelled said)
spelled-bytes [] games are told = tt
spelled-bytes (game m ∷ said) games are told =
    join (spelled (game m)) (flat_map spelled said) (message-bytes m told.0 are.0) (spelled-bytes said games.1 are.1 told.1)
spelled-bytes (admin m ∷ said) games are told = absurd games.0

pub sent-bytes : (o : Origin) (es : List Event) (c : ℕ) → IsOrigin o → AreEvents es → (door_of es c ≡ Some Side → ⊥)
    → AreBytes (sent o es c)
sent-bytes o es c ok are player =
    spelled-bytes (heard o es c) (not-of-admins o es c player) (all-spelled o es c ok are)
    (heard-bytes o (first o) es c ok are (first-lasts o ok))
