-- How long spellings are.
use Rattle.std.proofs.Common.{ℕ, ◌+◌, Option}
use Rattle.std.specs.Option.{option_map}

-- a length that was found before, and more
abbrev pub plus : ℕ → Option ℕ → Option ℕ
plus total o = option_map (λ n. total + n) o
