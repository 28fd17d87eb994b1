-- How often a dial lost its connection, counted up to the last value.
use Rattle.std.proofs.Common.{◌≡◌, ℕ, ◌+◌, ◌≤◌, inl, inr, Bool, true, false, min, refl, ◌∙◌, arith}
use Rattle.std.specs.Prelude.{nat_le}
use Rattle.std.proofs.lemmas.Bool.Decides.{nat_tests}
use Rattle.vf_base.specs.Faults.{HasRisenBy, counted, last_count}

-- so many more, of which there may be none
abbrev pub LostSo : (times old now : ℕ) → Type 0
LostSo times old now = (times ≡ 0 → now ≡ old) × (1 ≤ times → now ≡ min (old + times) last_count)

pub lost_none : (old : ℕ) → LostSo 0 old old
lost_none old = ((λ none. refl), λ some. absurd (omega (arith, some)))

once_by : (times old now : ℕ) (b : Bool) → nat_le times 0 ≡ b → LostSo times old now → counted now ≡ min (old + (times + 1)) last_count
once_by times old now true none lost = let zero-times : times ≡ 0 = grind (arith, nat_tests) in let same = lost.0 zero-times in omega (arith, same, zero-times)
once_by times old now false some lost = let more : 1 ≤ times = grind (arith, nat_tests) in let is = lost.1 more in omega (arith, is)

pub lost_once : (times old now now' : ℕ) → LostSo times old now → now' ≡ counted now → LostSo (times + 1) old now'
lost_once times old now now' lost is = ((λ none. absurd (omega (arith, none))), λ some. is ∙ once_by times old now (nat_le times 0) refl lost)

risen_by : (times old now : ℕ) (b : Bool) → nat_le (old + times) last_count ≡ b → now ≡ min (old + times) last_count → HasRisenBy times old now
risen_by times old now true within is = let less : old + times ≤ last_count = grind (arith, nat_tests) in inl (omega (arith, less, is))
risen_by times old now false over is = let more : last_count ≤ old + times = grind (arith, nat_tests) in inr (omega (arith, more, is))

pub risen : (times old now : ℕ) → 1 ≤ times → LostSo times old now → HasRisenBy times old now
risen times old now some lost = risen_by times old now (nat_le (old + times) last_count) refl (lost.1 some)
