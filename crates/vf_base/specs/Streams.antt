-- What a source has left and what a sink has taken (profile). An object in memory tells it, and one over the
-- real world tells nothing, so that clauses on content are empty there.
use Rattle.std.specs.Prelude.{◌≡◌, ℕ, List, [], ◌++◌, take, Option, None, Some, Result, Ok, Err}
use Rattle.vf_base.specs.declared.errors.Failed.{Failed}

-- A read gave the next octets, none of them only at the end. One that failed gave none.
abbrev pub Reads : Option (List ℕ) → Option (List ℕ) → List ℕ → Result ℕ Failed → Type 0
Reads None new into result = new ≡ None
Reads (Some old) new into (Ok count) =
    (rest : List ℕ) × (new ≡ Some rest) × (old ≡ take count into ++ rest) × (count ≡ 0 → old ≡ [])
Reads (Some old) new into (Err failed) = new ≡ Some old

-- The octets were appended, or a prefix of them where the write failed.
abbrev pub Writes : Option (List ℕ) → Option (List ℕ) → List ℕ → Result (Unit {0}) Failed → Type 0
Writes None new octets result = new ≡ None
Writes (Some old) new octets (Ok done) = new ≡ Some (old ++ octets)
Writes (Some old) new octets (Err failed) =
    (prefix rest : List ℕ) × (octets ≡ prefix ++ rest) × (new ≡ Some (old ++ prefix))

-- these octets were read, by any number of calls
abbrev pub HasRead : Option (List ℕ) → Option (List ℕ) → List ℕ → Type 0
HasRead None new octets = new ≡ None
HasRead (Some old) new octets = (rest : List ℕ) × (old ≡ octets ++ rest) × (new ≡ Some rest)

-- nothing is left, where the source tells it
abbrev pub IsAtEnd : Option (List ℕ) → Type 0
IsAtEnd None = Unit {0}
IsAtEnd (Some octets) = octets ≡ []
