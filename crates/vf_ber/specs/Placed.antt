-- Octets among others.
use Rattle.std.specs.Prelude.{ℕ, ◌-◌, List, ◌++◌, length, take, drop}

-- all octets, but these before the place
abbrev pub ending_at : ℕ → List ℕ → List ℕ → List ℕ
ending_at place octets all = take (place - length octets) all ++ octets ++ drop place all
