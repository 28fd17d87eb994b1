-- Object identifiers (ISO 8824) within this profile's limits: 2 to 16 arcs, the first at most 2, the
-- second at most 39 after a first below 2, and no arc above 268,435,455, which four octets can spell.
use Rattle.std.specs.Prelude.{ℕ, Bool, false, ◌&&◌, ◌||◌, nat_le, nat_eq, List, [], ◌∷◌, length, IsTrue}
use Rattle.std.specs.List.{list_all}

-- the first two arcs, which share an octet in a spelling
abbrev pub is_root : List ℕ → Bool
is_root [] = false
is_root (first ∷ []) = false
is_root (first ∷ second ∷ arcs) = nat_le first 2 && (nat_eq first 2 || nat_le second 39)

abbrev pub is_arc : ℕ → Bool
is_arc arc = nat_le arc 268435455

abbrev pub is_oid : List ℕ → Bool
is_oid arcs = nat_le (length arcs) 16 && is_root arcs && list_all is_arc arcs

abbrev pub IsOid : List ℕ → Type 0
IsOid arcs = IsTrue (is_oid arcs)
