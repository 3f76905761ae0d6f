-- FRAME: how far a member may run, with a token that it gives back, so that the server learns that its stream is read.
use Rattle.std.specs.Prelude.{ℕ, ◌+◌, ◌==◌, Bool, true, false, List, [], ◌∷◌}
use Rattle.tt_game.specs.declared.message.GameMsg.TheVariants.{ServerFrame}
use Rattle.tt_world.specs.Random.{next_random, below}
use Rattle.tt_log.specs.Member.{Member, is_playing}
use Rattle.tt_log.specs.Table.{Table, member_of, with_member}
use Rattle.tt_log.specs.Deed.{Deed, ◌▹◌, becomes, where_, where_some, tells}

-- a fresh token: 1 to 255, by the words behind the next draw
abbrev pub fresh_token : ℕ × ℕ → ℕ
fresh_token words = 1 + below (next_random words) 255

-- a token is open from now on, and the member may run to the greatest permitted frame
abbrev pub opened_token : ℕ → Table → Member → Member
opened_token token t m = record m { told = t.top; token = token; token_frame = t.frame }

-- FRAME with a fresh token, which is open from now on
abbrev pub tells_fresh : Member → Table → Deed
tells_fresh m t = let token = fresh_token t.tokens in
    tells (m.conn ∷ []) (ServerFrame t.frame t.top token) (with_member (opened_token token t m)
    (record t { tokens = next_random t.tokens }))

-- FRAME with the token 0, which is none
abbrev pub tells_again : Member → Table → Deed
tells_again m t = tells (m.conn ∷ []) (ServerFrame t.frame t.top 0) (with_member (record m { told = t.top }) t)

-- FRAME: with a fresh token where none is open
abbrev pub tells_frame_by : Bool → Member → Table → Deed
tells_frame_by true m t = tells_fresh m t
tells_frame_by false m t = tells_again m t

-- a member that plays is told the frame
abbrev pub tells_frame : Member → Table → Deed
tells_frame m t = where_ (is_playing m) (tells_frame_by (m.token == 0) m) t

-- in order of arrival, each as it is by then
abbrev pub frames_told : List Member → Table → Deed
frames_told [] t = becomes t
frames_told (m ∷ ms) t = where_some (member_of t m.conn) tells_frame t ▹ frames_told ms
