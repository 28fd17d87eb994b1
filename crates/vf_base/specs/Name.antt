-- Names of files, users and units (profile): 1 to 255 octets, each a printable character of ASCII.
use Rattle.std.specs.Prelude.{ℕ, Bool, ◌&&◌, nat_le, List, length, IsTrue}
use Rattle.std.specs.List.{list_all}

-- from the space to the tilde
abbrev pub is_printable : ℕ → Bool
is_printable octet = nat_le 32 octet && nat_le octet 126

abbrev pub is_name : List ℕ → Bool
is_name octets = nat_le 1 (length octets) && nat_le (length octets) 255 && list_all is_printable octets

abbrev pub IsName : List ℕ → Type 0
IsName octets = IsTrue (is_name octets)
