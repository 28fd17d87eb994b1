-- The identity that is asked of a party.
use Rattle.std.proofs.Common.{◌≡◌, ℕ, List, Option, Some, None}
use Rattle.std.specs.Prelude.{option_map}
use Rattle.vf_filestore.specs.History.{Association}
use Rattle.vf_filestore.specs.State.{identity_in}

-- the identity of an association, where one stands
abbrev pub identity : Option Association → Option (List ℕ)
identity found = option_map (λ (association : Association). association.identity) found

pub identity-by : (found : Option Association) (own : List ℕ) → Some own ≡ identity found → identity_in found ≡ own
identity-by None own e = cc
identity-by (Some association) own e = cc
