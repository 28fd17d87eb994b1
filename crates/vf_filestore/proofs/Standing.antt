-- The open regimes that stand, as one ceases, one begins, or they change places.
use Rattle.std.proofs.Common.{◌≡◌, ℕ, ◌+◌, ◌≤◌, false, cond, ◌&&◌, List, ◌∷◌, ◌++◌, Option, None, Some, refl, arith}
use Rattle.std.specs.Prelude.{count_by}
use Rattle.std.specs.List.{AllByRecursion, sum_by}
use Rattle.std.specs.List.Sorted.{IsPermutation}
use Rattle.std.proofs.lemmas.List.Sorted.{sum_by-IsPermutation}
use Rattle.std.proofs.lemmas.List.Sums.{sum_by-append}
use Rattle.std.proofs.lemmas.Map.Keys.{IsDistinct-cons, IsDistinct-IsPermutation}
use Rattle.vf_filestore.specs.Limits.{most_dockets}
use Rattle.vf_filestore.specs.Sound.{AreNumbered, IsBefore, Standing, is_recoverable, is_same_activity, is_same_number, is_same_open}
use Rattle.vf_filestore.proofs.Filed.{names_flip}
use Rattle.vf_filestore.proofs.Lists.{all-permutation, all_right, all_weaker, distinct_less}
use Rattle.vf_filestore.proofs.Parties.{nat_eq_flips}

number_flips : (one other : Standing) → is_same_number one other ≡ is_same_number other one
number_flips one other = nat_eq_flips one.number other.number

activity_flips : (one other : Option ℕ) → is_same_activity one other ≡ is_same_activity other one
activity_flips None None = refl
activity_flips None (Some other) = refl
activity_flips (Some one) None = refl
activity_flips (Some one) (Some other) = nat_eq_flips one other

pub open_flips : (one other : Standing) → is_same_open one other ≡ is_same_open other one
open_flips one other = λ i. names_flip one.identity other.identity i && activity_flips one.activity other.activity i

abbrev counted : Standing → ℕ
counted one = cond (is_recoverable one) 1 0

count_is_sum : (regimes : List Standing) → count_by is_recoverable regimes ≡ sum_by counted regimes
count_is_sum regimes = refl

pub numbered_permutation : (next : ℕ) (regimes others : List Standing) → IsPermutation regimes others → AreNumbered next regimes → AreNumbered next others
numbered_permutation next regimes others moved numbered = record {
  before = all-permutation (IsBefore next) regimes others moved numbered.before;
  apart = IsDistinct-IsPermutation is_same_number number_flips regimes others moved numbered.apart;
  differing = IsDistinct-IsPermutation is_same_open open_flips regimes others moved numbered.differing;
  few =
      let same : count_by is_recoverable others ≡ count_by is_recoverable regimes = sum_by-IsPermutation counted regimes others moved in
      omega (arith, numbered.few);
}

pub numbered_more : (next later : ℕ) (regimes : List Standing) → next ≤ later → AreNumbered next regimes → AreNumbered later regimes
numbered_more next later regimes more numbered = record {
  before = all_weaker (IsBefore next) (IsBefore later) regimes (λ one below. omega (arith, below, more)) numbered.before;
  apart = numbered.apart;
  differing = numbered.differing;
  few = numbered.few;
}

count_less : (gone regimes : List Standing) → count_by is_recoverable regimes ≤ count_by is_recoverable (gone ++ regimes)
count_less gone regimes =
    let sum : count_by is_recoverable (gone ++ regimes) ≡ count_by is_recoverable gone + count_by is_recoverable regimes = sum_by-append counted gone regimes in
    omega arith

pub numbered_less : (next : ℕ) (gone regimes : List Standing) → AreNumbered next (gone ++ regimes) → AreNumbered next regimes
numbered_less next gone regimes numbered = record {
  before = all_right (IsBefore next) gone regimes numbered.before;
  apart = distinct_less is_same_number gone regimes numbered.apart;
  differing = distinct_less is_same_open gone regimes numbered.differing;
  few = omega (arith, numbered.few, count_less gone regimes);
}

-- a regime that begins has the next number
abbrev pub IsOtherOpen : Standing → Standing → Type 0
IsOtherOpen one other = is_same_open one other ≡ false

pub numbered_begun : (next : ℕ) (one : Standing) (regimes : List Standing) → one.number ≡ next → AllByRecursion (IsOtherOpen one) regimes
    → count_by is_recoverable (one ∷ regimes) ≤ most_dockets → AreNumbered next regimes → AreNumbered (next + 1) (one ∷ regimes)
numbered_begun next one regimes is others few numbered = record {
  before = (omega (arith, is), all_weaker (IsBefore next) (IsBefore (next + 1)) regimes (λ other below. omega (arith, below)) numbered.before);
  apart = IsDistinct-cons is_same_number one regimes (all_weaker (IsBefore next) (λ other. is_same_number one other ≡ false) regimes differs numbered.before) numbered.apart;
  differing = IsDistinct-cons is_same_open one regimes others numbered.differing;
  few = few;
}
  where
    differs : (other : Standing) → IsBefore next other → is_same_number one other ≡ false
    differs other below = grind (arith, is, below)
