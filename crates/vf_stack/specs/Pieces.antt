-- A stream that comes in pieces, between two things that are sent.
use Rattle.std.specs.Prelude.{◌≡◌, ◌⊎◌, ℕ, List, [], ◌∷◌, ◌++◌}
use Rattle.vf_session.specs.declared.units.TokenSide.{TokenSide}
use Rattle.vf_stack.specs.Association.{Association}
use Rattle.vf_stack.specs.Receiving.{Fed, octets_received, piece_received}

-- Two pieces tell what they tell together. (An exchange that is ended takes no octet, so that the streams may differ there.)
pub record IsInPieces (whole first second : Fed) : Type 0 where
  pub indications : whole.indications ≡ first.indications ++ second.indications
  pub exchange : whole.association.exchange ≡ second.association.exchange

abbrev pub TellsInPieces : TokenSide → Association → List ℕ → List ℕ → Type 0
TellsInPieces own a first second =
    let f = piece_received own a first in IsInPieces (piece_received own a (first ++ second)) f (piece_received own f.association second)

-- A piece tells what its octets tell one by one.
pub record IsToldSo (t f : Fed) : Type 0 where
  pub indications : t.indications ≡ f.indications
  pub exchange : t.association.exchange ≡ f.association.exchange

abbrev pub TellsByOctets : TokenSide → Association → ℕ → List ℕ → Type 0
TellsByOctets own a octet octets = IsToldSo (octets_received own a (octet ∷ octets)) (piece_received own a (octet ∷ octets))

-- Octets one by one, cut anywhere, are the same as a whole.
abbrev pub AreCut : TokenSide → Association → List ℕ → List ℕ → Type 0
AreCut own a first second =
    let f = octets_received own a first in
    let s = octets_received own f.association second in
    octets_received own a (first ++ second) ≡ record { indications = f.indications ++ s.indications; answers = f.answers ++ s.answers; association = s.association }

-- Nothing is told.
pub record IsSilent (f : Fed) : Type 0 where
  pub indications : f.indications ≡ []
  pub answers : f.answers ≡ []

-- Of octets that are cut anywhere, either those before the cut tell nothing or those after it do.
abbrev pub TellOnce : TokenSide → Association → List ℕ → List ℕ → Type 0
TellOnce own a first second =
    let f = octets_received own a first in IsSilent f ⊎ IsSilent (octets_received own f.association second)
