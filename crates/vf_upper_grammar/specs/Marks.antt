-- What is found in user data, in the order of its octets.
use Rattle.std.specs.Prelude.{ℕ, ℤ, List, Result}
use Rattle.vf_ber.specs.Tree.{Tree}
use Rattle.vf_upper_grammar.specs.declared.labels.NameLabel.{NameLabel}
use Rattle.vf_upper_grammar.specs.declared.labels.NumberLabel.{NumberLabel}

pub data Mark : Type 0 where
  number : NumberLabel → ℤ → Mark
  name : NameLabel → List ℕ → Mark
  -- a carried value
  value : Tree → Mark

-- All that is found, or the place of the first fault.
abbrev pub Found : Type 0
Found = Result (List Mark) ℕ
