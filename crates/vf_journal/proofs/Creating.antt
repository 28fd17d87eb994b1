-- What an empty disk holds while a journal is made on it.
use Rattle.std.proofs.Common.{◌≡◌, ◌≢◌, ◌==◌, inl, inr, ℕ, ◌≤◌, false, List, [], ◌∷◌, ◌++◌, length, take, drop, Option, None, Some, IsSome, refl, sym, ap, subst, arith}
use Rattle.std.proofs.lemmas.Bool.{cases_eq, le-leb}
use Rattle.std.proofs.lemmas.Bool.Decides.{nat_tests}
use Rattle.vf_disk.specs.Disk.{LeavesOnly, LeavesShown, Torn}
use Rattle.vf_disk.proofs.Runs.{joined, leaves_octets, weaker}
use Rattle.vf_journal.specs.Layout.{first_start, header, new_journal, place_named, place_octets}
use Rattle.vf_journal.specs.Image.{Holds, IsNoneOrNew, Refusal, difference, misplaced, or_else, refusal}
use Rattle.vf_journal.specs.Writes.{MadeBy, Shows, create_steps, written_steps}

or_else_second : (first second : Option Refusal) → IsSome second → IsSome (or_else first second)
or_else_second (Some found) second some = refl
or_else_second None second some = some

or_else_first : (first second : Option Refusal) → IsSome first → IsSome (or_else first second)
or_else_first (Some found) second some = refl
or_else_first None second some = cc

misplaced_short : (image : List ℕ) → length image ≤ first_start → IsSome (misplaced image)
misplaced_short image short = rw (le-leb (length image) first_start short) refl

-- too few octets
pub short_refused : (image : List ℕ) → length image ≤ first_start → IsSome (refusal image)
unfolding refusal
short_refused image short = or_else_second (difference 0 header image) (misplaced image) (misplaced_short image short)

differs : (octet : ℕ) (rest : List ℕ) → octet ≢ 70 → IsSome (difference 0 header (octet ∷ rest))
differs octet rest other = let test : (octet == 70) ≡ false = grind (arith, nat_tests) in rw test refl

-- another octet at first
pub first_refused : (octet : ℕ) (rest : List ℕ) → octet ≢ 70 → IsSome (refusal (octet ∷ rest))
unfolding refusal
first_refused octet rest other = or_else_first (difference 0 header (octet ∷ rest)) (misplaced (octet ∷ rest)) (differs octet rest other)

-- what stands after the first octet of a new journal
abbrev pub rest_of_new : List ℕ
rest_of_new = 84 ∷ 65 ∷ 77 ∷ 74 ∷ 78 ∷ 76 ∷ 49 ∷ 0 ∷ 0 ∷ 0 ∷ 2 ∷ 0 ∷ 0 ∷ 0 ∷ 0 ∷ 0 ∷ 0 ∷ 0 ∷ 0 ∷ 0 ∷ 0 ∷ 0 ∷ 0 ∷ 33 ∷ 0 ∷ 0 ∷ 0 ∷ 0 ∷ 0 ∷ 0 ∷ 0 ∷ 33 ∷ 0 ∷ []

pub new_is : new_journal ≡ 70 ∷ rest_of_new
unfolding place_octets
new_is = refl

pub create_is : create_steps ≡ written_steps 0 (0 ∷ []) ++ written_steps 1 rest_of_new ++ written_steps 0 (70 ∷ [])
unfolding place_octets
create_is = refl

pub new_holds : Holds (70 ∷ rest_of_new) []
unfolding place_named
new_holds = record { head = refl; start = omega arith; area = ([], refl) }

starts_zero : (image : List ℕ) → take 1 image ≡ 0 ∷ [] → IsSome (refusal image)
starts_zero [] same = absurd (cc same)
starts_zero (octet ∷ rest) same = let zero : octet ≡ 0 = cc in first_refused octet rest (omega arith)

-- after the first write
pub first_left : (image : List ℕ) → Torn 0 1 [] image → IsNoneOrNew image
first_left image torn = inl (short_refused image (omega (arith, torn.no_longer)))

-- after the second
pub second_left : (image : List ℕ) → Torn 1 (length rest_of_new) (0 ∷ []) image → IsNoneOrNew image
second_left image torn = inl (starts_zero image torn.before)

first_octet : (image : List ℕ) → 1 ≤ length image → drop 1 image ≡ rest_of_new → (octet : ℕ) × (image ≡ octet ∷ rest_of_new)
first_octet [] long after = absurd (omega arith)
first_octet (octet ∷ rest) long after = (octet, ap (λ (l : List ℕ). octet ∷ l) after)

-- after the last
pub third_left : (image : List ℕ) → Torn 0 1 (0 ∷ rest_of_new) image → IsNoneOrNew image
third_left image torn =
    let found = first_octet image (omega (arith, torn.no_shorter)) torn.past in
    subst IsNoneOrNew (sym found.1) (elim (cases_eq found.0 70) [
      | inl same ↦ inr (subst (λ (n : ℕ). Holds (n ∷ rest_of_new) []) (sym same) new_holds)
      | inr other ↦ inl (first_refused found.0 rest_of_new other)
    ])

-- what a read gives meanwhile
pub create_seen : (new : Option (List ℕ)) (image octets : List ℕ) (at : ℕ) → ((left : List ℕ) → Torn at (length octets) image left → IsNoneOrNew left) → Shows new (Torn at (length octets) image) → Shows new IsNoneOrNew
create_seen new image octets at allows seen = (seen.0, seen.1, allows seen.0 seen.2)

module _ {D : Type 0} (shown : D → Option (List ℕ)) (may_leave : D → List ℕ → Type 0) (moment : D → ℕ) (left_since : D → ℕ → List ℕ → Type 0)
    (old : D) (empty : shown old ≡ Some []) (synced : LeavesShown (shown old) (may_leave old)) where
  -- one write and sync more
  more : (mid new : D) (image octets : List ℕ) (at : ℕ) → shown mid ≡ Some image → LeavesShown (shown mid) (may_leave mid) → ((left : List ℕ) → Torn at (length octets) image left → IsNoneOrNew left)
      → LeavesOnly moment left_since old mid IsNoneOrNew → LeavesOnly moment left_since mid new (MadeBy (Torn at (length octets)) (may_leave mid)) → LeavesOnly moment left_since old new IsNoneOrNew
  more mid new image octets at shows synced_mid allows so_far run = joined moment left_since old mid new IsNoneOrNew (MadeBy (Torn at (length octets)) (may_leave mid)) IsNoneOrNew so_far run (λ left allowed. allowed) (λ left after.
      let same : after.0 ≡ image = leaves_octets (shown mid) (may_leave mid) image after.0 synced_mid shows after.1 in
      allows left (subst (λ (l : List ℕ). Torn at (length octets) l left) same after.2))

  pub create_first : (one : D) → LeavesOnly moment left_since old one (MadeBy (Torn 0 1) (may_leave old)) → LeavesOnly moment left_since old one IsNoneOrNew
  create_first one run = weaker moment left_since old one (MadeBy (Torn 0 1) (may_leave old)) IsNoneOrNew run (λ left after.
      let same : after.0 ≡ [] = leaves_octets (shown old) (may_leave old) [] after.0 synced empty after.1 in
      first_left left (subst (λ (l : List ℕ). Torn 0 1 l left) same after.2))

  pub create_second : (one two : D) → LeavesOnly moment left_since old one (MadeBy (Torn 0 1) (may_leave old)) → shown one ≡ Some (0 ∷ []) → LeavesShown (shown one) (may_leave one)
      → LeavesOnly moment left_since one two (MadeBy (Torn 1 (length rest_of_new)) (may_leave one)) → LeavesOnly moment left_since old two IsNoneOrNew
  create_second one two first shows synced_one run = more one two (0 ∷ []) rest_of_new 1 shows synced_one second_left (create_first one first) run

  pub create_third : (one two three : D) → LeavesOnly moment left_since old one (MadeBy (Torn 0 1) (may_leave old)) → shown one ≡ Some (0 ∷ []) → LeavesShown (shown one) (may_leave one)
      → LeavesOnly moment left_since one two (MadeBy (Torn 1 (length rest_of_new)) (may_leave one)) → shown two ≡ Some (0 ∷ rest_of_new) → LeavesShown (shown two) (may_leave two)
      → LeavesOnly moment left_since two three (MadeBy (Torn 0 1) (may_leave two)) → LeavesOnly moment left_since old three IsNoneOrNew
  create_third one two three first shows synced_one second shows_two synced_two run = more two three (0 ∷ rest_of_new) (70 ∷ []) 0 shows_two synced_two third_left (create_second one two first shows synced_one second) run
