-- What readings of values answer, in the words of texts.
use Rattle.std.specs.Prelude.{◌≡◌, ℕ, ◌+◌, ◌≤◌, List, drop, length, take, Result, Ok, Err}
use Rattle.vf_base.specs.declared.limits.TheConstants.{MOST_VALUE_OCTETS}
use Rattle.vf_ber.specs.declared.value.Value.{Value}
use Rattle.vf_ber.specs.Reader.{reading}
use Rattle.vf_ber.specs.Reading.{Reading, Read}
use Rattle.vf_ber.specs.Views.{tree_of}
use Rattle.vf_upper_grammar.specs.declared.values.Prefix.{Prefix}
use Rattle.vf_upper_grammar.specs.declared.marks.Stop.{Stop}
use Rattle.vf_upper_grammar.specs.declared.marks.Stop.TheVariants.{At, NoMemory}
use Rattle.vf_upper_grammar.specs.Marks.{Mark, Found}
use Rattle.vf_upper_grammar.specs.Texts as texts

abbrev pub prefix_of : List ℕ → Prefix → texts.Prefix
prefix_of octets prefix = record { octets = take prefix.len octets; whole = prefix.whole; fault = prefix.fault }

-- so many octets are no value, by a fault at this place
abbrev pub IsMisread : Reading → ℕ → ℕ → Type 0
IsMisread (Read tree n) len place = ⊥
IsMisread other len place = place ≡ texts.fault_in other len

abbrev pub IsSmall : ℕ → ℕ → Type 0
IsSmall n len = (n ≤ len) × (n ≤ MOST_VALUE_OCTETS)

-- a value and its length, or the fault
abbrev pub IsValueIn : List ℕ → Result (Value × ℕ) Stop → Type 0
IsValueIn octets (Ok x) = (reading octets ≡ Read (tree_of x.0) x.1) × IsSmall x.1 (length octets) × (1 ≤ x.1)
IsValueIn octets (Err (At place)) = IsMisread (reading octets) (length octets) place × IsSmall place (length octets)
IsValueIn octets (Err NoMemory) = Unit {0}

-- what is found after a first value, or the fault
abbrev pub IsNext : ℕ → List ℕ → List Mark → Result ℕ Stop → List Mark → Type 0
IsNext at octets old (Ok n) new = (others : ℕ → List ℕ → List Mark → Found) → texts.then_read at octets others old (reading octets) ≡ others (at + n) (drop n octets) new
IsNext at octets old (Err (At place)) new = (others : ℕ → List ℕ → List Mark → Found) → texts.then_read at octets others old (reading octets) ≡ Err place
IsNext at octets old (Err NoMemory) new = Unit {0}
