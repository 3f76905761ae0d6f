-- Addresses as words.
use Rattle.std.specs.Prelude.{◌≡◌, ◌<◌, ◌^◌, ◌++◌, ◌⊎◌, ℕ, List, [], ◌∷◌, All, length}
use Rattle.std.specs.Fmt.{decimal}
use Rattle.tt_edge.specs.declared.event.Peer.{Peer}

-- numbers with a dot between each two
abbrev pub dotted : List ℕ → List ℕ
dotted [] = []
dotted (n ∷ []) = decimal n
dotted (n ∷ ns) = decimal n ++ 46 ∷ dotted ns

-- `HOST:PORT`, the numbers of the host with dots between them
abbrev pub address_text : Peer → List ℕ
address_text peer = dotted peer.host ++ 58 ∷ decimal peer.port

-- four bytes, and a port
pub record IsPeer (peer : Peer) : Type 0 where
  pub four : length peer.host ≡ 4
  pub bytes : All (λ n. n < 2 ^ 8) peer.host
  pub port : peer.port < 2 ^ 16

-- the word spells the address of a peer
pub record IsAddress (word : List ℕ) (peer : Peer) : Type 0 where
  pub fits : IsPeer peer
  pub text : word ≡ address_text peer

-- the byte is no decimal digit
abbrev pub IsNoDigit : ℕ → Type 0
IsNoDigit byte = (byte < 48) ⊎ (57 < byte)
