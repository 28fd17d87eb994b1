-- What is kept of the names of entries, by which their places are found (profile).
use Rattle.std.specs.Prelude.{◌≡◌, ℕ, true, List}
use Rattle.vf_named.specs.declared.names.Names.{Names}

-- where names are kept they are these, in their order
abbrev pub AreNames : Names → List (List ℕ) → Type 0
AreNames names all = names.are_kept ≡ true → names.by_name.keys ≡ all
