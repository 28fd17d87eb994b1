-- So few octets that the last of them alone tells something, or one that ends receiving: what is said in between doesn't
-- depend on the pieces in which they come.
use Rattle.std.specs.Prelude.{◌≡◌, ◌≤◌, ◌⊎◌, ℕ, true, false, List, [], ◌∷◌, ◌++◌, length}
use Rattle.vf_session.specs.declared.units.TokenSide.{TokenSide}
use Rattle.vf_stack.specs.Association.{Association, is_ended}
use Rattle.vf_stack.specs.Receiving.{nothing_fed, octets_received, piece_received}
use Rattle.vf_stack.specs.Represents.{Kept, Represents, side_of}
use Rattle.vf_tpkt.specs.Wanting.{lacking}

-- only the stream grew
abbrev pub lengthened : Association → List ℕ → Association
lengthened a octets = record a { stream = a.stream ++ octets }

-- An octet tells nothing, and nothing answers it; then those after it are received as if it had stood before.
pub record IsStill (own : TokenSide) (a : Association) (octet : ℕ) (later : List ℕ) : Type 0 where
  pub goes : is_ended a.exchange.ending ≡ false
  pub nothing : piece_received own a (octet ∷ []) ≡ nothing_fed (lengthened a (octet ∷ []))
  pub others : octets_received own a (octet ∷ later) ≡ octets_received own (lengthened a (octet ∷ [])) later

-- The octets tell what this first one of them tells alone: no other comes after it, or receiving has ended with it.
pub record IsLast (own : TokenSide) (a : Association) (octet : ℕ) (later : List ℕ) : Type 0 where
  pub last : (later ≡ []) ⊎ (is_ended (piece_received own a (octet ∷ [])).association.exchange.ending ≡ true)
  pub whole : octets_received own a (octet ∷ later) ≡ piece_received own a (octet ∷ [])

-- Silent octets, and one at most that tells.
abbrev pub TellsLast : TokenSide → Association → List ℕ → Type 0
TellsLast own a [] = Unit {0}
TellsLast own a (octet ∷ later) = (IsStill own a octet later × TellsLast own (lengthened a (octet ∷ [])) later) ⊎ IsLast own a octet later

-- At most as many octets as the packet lacks that a stack has received a part of.
abbrev pub FewTellLast : Kept → Association → List ℕ → Type 0
FewTellLast kept a octets = Represents kept a → length octets ≤ lacking kept.transport.packet → TellsLast (side_of kept) a octets
