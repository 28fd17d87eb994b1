-- How much of an input is read as a script (profile).
use Rattle.std.specs.Prelude.{◌≡◌, ◌<◌, ◌⊎◌, ℕ, List, ◌++◌, length}
use Rattle.vf_cli_script.specs.declared.input.TheConstants.{INPUT_LIMIT}

-- all octets, or the first ones, which are more than a script may have
abbrev pub IsFront : List ℕ → List ℕ → Type 0
IsFront octets all = (octets ≡ all) ⊎ ((rest : List ℕ) × (octets ++ rest ≡ all) × (INPUT_LIMIT < length octets))
