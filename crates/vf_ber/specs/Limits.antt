-- How deep and how long a value may be (profile).
use Rattle.std.specs.Prelude.{ℕ, ◌<◌, ◌&&◌, nat_le, ◌⊎◌, length, Option, Some, None, if◌then◌else◌}
use Rattle.vf_base.specs.declared.limits.TheConstants.{MOST_VALUE_OCTETS}
use Rattle.vf_ber.specs.declared.limits.TheConstants.{MOST_DEPTH}
use Rattle.vf_ber.specs.Tree.{Tree, Trees, depth, depth_in}
use Rattle.vf_ber.specs.Spelling.{spell, spells}

-- its canonical spelling passes a limit
abbrev pub IsTooLarge : Tree → Type 0
IsTooLarge tree = (MOST_DEPTH < depth tree) ⊎ (MOST_VALUE_OCTETS < length (spell tree))

-- a length within limits
abbrev pub within : ℕ → ℕ → ℕ → ℕ → Option ℕ
within most room deep long = if nat_le deep most && nat_le long room then Some long else None

abbrev pub measured : ℕ → ℕ → Tree → Option ℕ
measured most room tree = within most room (depth tree) (length (spell tree))

abbrev pub measured_in : ℕ → ℕ → Trees → Option ℕ
measured_in most room trees = within most room (depth_in trees) (length (spells trees))
