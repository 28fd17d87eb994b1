-- Octets that are spoken in parts (profile): in each some octets and a string after them, and the last octets after all parts.
use Rattle.std.specs.Prelude.{ℕ, List, [], ◌∷◌, ◌++◌}
use Rattle.vf_responder.specs.declared.spoken.Part.{Part}

abbrev pub joined : List Part → (last : List ℕ) → List ℕ
joined [] last = last
joined (part ∷ parts) last = part.before.items ++ (part.string ++ joined parts last)
