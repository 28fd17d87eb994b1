-- What is shown of the units from a place on: the unit there, and what is shown of the units after it.
use Rattle.std.proofs.Common.{◌≡◌, ℕ, ◌+◌, ◌<◌, true, List, ◌∷◌, ◌++◌, length, get_or, drop, refl, add-one, drop-cons}
use Rattle.vf_tree.specs.Contexts.{descriptor, described}
use Rattle.vf_tree.specs.FileTree.{DataUnit, strings}

pub strings-drop : (units : List DataUnit) (i : ℕ) (d : DataUnit) → i < length units → strings (drop i units) ≡ get_or units i d ++ strings (drop (i + 1) units)
strings-drop units i d within = rw (add-one, drop-cons units i d) refl

pub described-drop : (units : List DataUnit) (i : ℕ) (d : DataUnit) → i < length units → described (drop i units) ≡ descriptor true ∷ (get_or units i d ++ described (drop (i + 1) units))
described-drop units i d within = rw (add-one, drop-cons units i d) refl

pub ruleset lists = (strings-drop, described-drop)
