-- What a command prints, with its status, and what its call owes of it (profile).
use Rattle.std.specs.Prelude.{◌≡◌, ℕ, ◌⊎◌, List, [], ◌∷◌, ◌++◌, Option, None, Some, codes, decimal}
use Rattle.vf_base.specs.Faults.{HasRisen}

pub record Printed : Type 0 where
  pub octets : List ℕ
  pub status : ℕ

-- a status by which the outside kept a command from its end
abbrev pub IsOneOf : List ℕ → ℕ → Type 0
IsOneOf [] status = ⊥
IsOneOf (fault ∷ faults) status = (status ≡ fault) ⊎ IsOneOf faults status

-- where the sink tells what it takes, the octets were appended
abbrev pub Wrote : List ℕ → Option (List ℕ) → Option (List ℕ) → Type 0
Wrote octets (Some old) new = new ≡ Some (old ++ octets)
Wrote octets None new = Unit {0}

-- a prefix of the octets was appended
abbrev pub WrotePrefix : List ℕ → Option (List ℕ) → Option (List ℕ) → Type 0
WrotePrefix octets old new = (prefix rest : List ℕ) × (octets ≡ prefix ++ rest) × Wrote prefix old new

-- all was written, with the status that goes with it, or a prefix of it before one of these faults
abbrev pub Prints : List ℕ → Printed → ℕ → Option (List ℕ) → Option (List ℕ) → Type 0
Prints faults printed status old new =
    ((status ≡ printed.status) × Wrote printed.octets old new) ⊎ (IsOneOf faults status × WrotePrefix printed.octets old new)

-- a fault of the input or the output is answered only where its count rose
pub record HasCauses (status : ℕ) (input_old input_new out_old out_new : ℕ) : Type 0 where
  pub input : status ≡ 3 → HasRisen input_old input_new
  pub output : status ≡ 4 → HasRisen out_old out_new

-- LINES. Each ends with a line feed.
abbrev pub line_feed : ℕ
line_feed = 10

-- the line of this number, from 1, is the first one that is bad
abbrev pub bad_line : ℕ → List ℕ
bad_line number = codes "bad line " ++ decimal number ++ line_feed ∷ []
