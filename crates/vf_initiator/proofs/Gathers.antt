-- Elements that are within a file, and their pieces.
use Rattle.std.proofs.Common.{◌≡◌, ◌≤◌, ◌+◌, ℕ, suc, Bool, true, ◌&&◌, nat_le, List, [], ◌∷◌, ◌++◌, length, take, drop, refl, sym, ap, subst, ◌∙◌, length-append, take-append-drop, arith}
use Rattle.std.specs.List.{list_all}
use Rattle.std.proofs.lemmas.Bool.Decides.{nat_tests}
use Rattle.std.proofs.lemmas.List.Folds.{list_all-append}
use Rattle.std.proofs.lemmas.List.Sums.{sum_by-append, sum_by-cons, sum_by_push}
use Rattle.vf_base.specs.declared.element.Element.{Element}
use Rattle.vf_base.specs.declared.limits.TheConstants.{MOST_STRING_OCTETS}
use Rattle.vf_initiator.specs.Keepable.{are_pieces, is_element, is_within_file}
use Rattle.vf_tables.specs.Fitting.{is_sayable}
use Rattle.vf_tables.specs.Sums.{elements_staged, octets_staged}
use Rattle.vf_transfer.specs.Transfer.{joined}
use Rattle.vf_tree.specs.FileTree.{octets_of, octets_of_unit}
use Rattle.vf_tree.specs.declared.limits.TheConstants.{MOST_FILE_OCTETS, MOST_FILE_PARTS}
use Rattle.vf_transfer.proofs.Cuts.{joined_append}
use Rattle.vf_initiator.proofs.TaskEntries.{both, first_of, second_of}

-- ---- sums

pub octets_append : (xs ys : List Element) → octets_of_unit (xs ++ ys) ≡ octets_of_unit xs + octets_of_unit ys
octets_append xs ys = sum_by-append octets_of xs ys

pub octets_more : (xs : List Element) (e : Element) → octets_of_unit (xs ++ e ∷ []) ≡ octets_of_unit xs + octets_of e
octets_more xs e = sum_by_push octets_of xs e

octets_joined : (pieces : List (List Element)) → octets_staged pieces ≡ octets_of_unit (joined pieces)
octets_joined [] = refl
octets_joined (piece ∷ pieces) =
    sum_by-cons octets_of_unit piece pieces ∙ (ap (λ (n : ℕ). octets_of_unit piece + n) (octets_joined pieces) ∙ sym (octets_append piece (joined pieces)))

parts_joined : (pieces : List (List Element)) → elements_staged pieces ≡ length (joined pieces)
parts_joined [] = refl
parts_joined (piece ∷ pieces) =
    sum_by-cons (λ (p : List Element). length p) piece pieces ∙ (ap (λ (n : ℕ). length piece + n) (parts_joined pieces) ∙ sym (length-append piece (joined pieces)))

-- ---- within a file

pub record IsWithin (elements : List Element) : Type 0 where
  pub each : list_all is_element elements ≡ true
  pub octets : octets_of_unit elements ≤ MOST_FILE_OCTETS
  pub parts : length elements ≤ MOST_FILE_PARTS

at_most : (n most : ℕ) → nat_le n most ≡ true → n ≤ most
at_most n most is = grind (arith, nat_tests)

is_at_most : (n most : ℕ) → n ≤ most → nat_le n most ≡ true
is_at_most n most few = grind (arith, nat_tests)

pub within_by : (elements : List Element) → is_within_file elements ≡ true → IsWithin elements
within_by elements is =
    let each = list_all is_element elements in
    let octets = nat_le (octets_of_unit elements) MOST_FILE_OCTETS in
    let parts = nat_le (length elements) MOST_FILE_PARTS in
    let two = first_of (each && octets) parts is in
    record {
      each = first_of each octets two;
      octets = at_most (octets_of_unit elements) MOST_FILE_OCTETS (second_of each octets two);
      parts = at_most (length elements) MOST_FILE_PARTS (second_of (each && octets) parts is);
    }

pub is_within : (elements : List Element) → IsWithin elements → is_within_file elements ≡ true
is_within elements w =
    let each = list_all is_element elements in
    let octets = nat_le (octets_of_unit elements) MOST_FILE_OCTETS in
    both (each && octets) (nat_le (length elements) MOST_FILE_PARTS) (both each octets w.each (is_at_most (octets_of_unit elements) MOST_FILE_OCTETS w.octets))
    (is_at_most (length elements) MOST_FILE_PARTS w.parts)

pub nothing_within : IsWithin []
nothing_within = record { each = refl; octets = omega arith; parts = omega arith }

-- what stands before others
pub within_front : (xs ys : List Element) → IsWithin (xs ++ ys) → IsWithin xs
within_front xs ys w =
    let all = sym (list_all-append is_element xs ys) ∙ w.each in
    record {
      each = first_of (list_all is_element xs) (list_all is_element ys) all;
      octets = omega (arith, octets_append xs ys, w.octets);
      parts = omega (arith, length-append xs ys, w.parts);
    }

-- one element more
pub within_more : (xs : List Element) (e : Element) → IsWithin xs → is_element e ≡ true → octets_of_unit xs + octets_of e ≤ MOST_FILE_OCTETS → suc (length xs) ≤ MOST_FILE_PARTS → IsWithin (xs ++ e ∷ [])
within_more xs e w good octets parts =
    record {
      each = list_all-append is_element xs (e ∷ []) ∙ both (list_all is_element xs) (list_all is_element (e ∷ [])) w.each (both (is_element e) true good refl);
      octets = omega (arith, octets_more xs e, octets);
      parts = omega (arith, length-append xs (e ∷ []), parts);
    }

-- so many pieces of it
pub within_taken : (n : ℕ) (pieces : List (List Element)) (fresh : List Element) → IsWithin (joined pieces ++ fresh) → IsWithin (joined (take n pieces))
within_taken n pieces fresh w =
    let parts : joined pieces ≡ joined (take n pieces) ++ joined (drop n pieces) = ap joined (sym (take-append-drop n pieces)) ∙ joined_append (take n pieces) (drop n pieces) in
    within_front (joined (take n pieces)) (joined (drop n pieces)) (subst IsWithin parts (within_front (joined pieces) fresh w))

-- ---- pieces that a store may keep

pub record AreKept (pieces : List (List Element)) : Type 0 where
  pub sayable : are_pieces pieces ≡ true
  pub short : list_all (λ (piece : List Element). list_all (λ (element : Element). nat_le (octets_of element) MOST_STRING_OCTETS) piece) pieces ≡ true
  pub octets : nat_le (octets_staged pieces) MOST_FILE_OCTETS ≡ true
  pub parts : nat_le (elements_staged pieces) MOST_FILE_PARTS ≡ true

weaken : {A : Type 0} (p q : A → Bool) → ((x : A) → p x ≡ true → q x ≡ true) → (xs : List A) → list_all p xs ≡ true → list_all q xs ≡ true
weaken p q gives [] all = refl
weaken p q gives (x ∷ xs) all = both (q x) (list_all q xs) (gives x (first_of (p x) (list_all p xs) all)) (weaken p q gives xs (second_of (p x) (list_all p xs) all))

each_piece : (p : Element → Bool) (pieces : List (List Element)) → list_all p (joined pieces) ≡ true → list_all (λ (piece : List Element). list_all p piece) pieces ≡ true
each_piece p [] all = refl
each_piece p (piece ∷ pieces) all =
    let parts = sym (list_all-append p piece (joined pieces)) ∙ all in
    both (list_all p piece) (list_all (λ (piece : List Element). list_all p piece) pieces) (first_of (list_all p piece) (list_all p (joined pieces)) parts)
    (each_piece p pieces (second_of (list_all p piece) (list_all p (joined pieces)) parts))

pub pieces_kept_of : (pieces : List (List Element)) → IsWithin (joined pieces) → AreKept pieces
pieces_kept_of pieces w =
    let good = each_piece is_element pieces w.each in
    record {
      sayable = weaken (λ (piece : List Element). list_all is_element piece) (λ (piece : List Element). list_all is_sayable piece)
          (λ piece. weaken is_element is_sayable (λ e is. first_of (is_sayable e) (nat_le (octets_of e) MOST_STRING_OCTETS) is) piece) pieces good;
      short = weaken (λ (piece : List Element). list_all is_element piece) (λ (piece : List Element). list_all (λ (element : Element). nat_le (octets_of element) MOST_STRING_OCTETS) piece)
          (λ piece. weaken is_element (λ (element : Element). nat_le (octets_of element) MOST_STRING_OCTETS) (λ e is. second_of (is_sayable e) (nat_le (octets_of e) MOST_STRING_OCTETS) is) piece) pieces good;
      octets = is_at_most (octets_staged pieces) MOST_FILE_OCTETS (subst (λ (n : ℕ). n ≤ MOST_FILE_OCTETS) (sym (octets_joined pieces)) w.octets);
      parts = is_at_most (elements_staged pieces) MOST_FILE_PARTS (subst (λ (n : ℕ). n ≤ MOST_FILE_PARTS) (sym (parts_joined pieces)) w.parts);
    }

all_joined : (p : Element → Bool) (pieces : List (List Element)) → list_all (λ (piece : List Element). list_all p piece) pieces ≡ true → list_all p (joined pieces) ≡ true
all_joined p [] all = refl
all_joined p (piece ∷ pieces) all =
    list_all-append p piece (joined pieces)
    ∙ both (list_all p piece) (list_all p (joined pieces)) (first_of (list_all p piece) _ all) (all_joined p pieces (second_of (list_all p piece) _ all))

all_two : (p q : Element → Bool) (xs : List Element) → list_all p xs ≡ true → list_all q xs ≡ true → list_all (λ (x : Element). p x && q x) xs ≡ true
all_two p q [] first second = refl
all_two p q (x ∷ xs) first second =
    both (p x && q x) (list_all (λ (x : Element). p x && q x) xs) (both (p x) (q x) (first_of (p x) (list_all p xs) first) (first_of (q x) (list_all q xs) second))
    (all_two p q xs (second_of (p x) (list_all p xs) first) (second_of (q x) (list_all q xs) second))

pub within_kept : (pieces : List (List Element)) → AreKept pieces → IsWithin (joined pieces)
within_kept pieces k =
    record {
      each = all_two is_sayable (λ (element : Element). nat_le (octets_of element) MOST_STRING_OCTETS) (joined pieces) (all_joined is_sayable pieces k.sayable)
          (all_joined (λ (element : Element). nat_le (octets_of element) MOST_STRING_OCTETS) pieces k.short);
      octets = subst (λ (n : ℕ). n ≤ MOST_FILE_OCTETS) (octets_joined pieces) (at_most (octets_staged pieces) MOST_FILE_OCTETS k.octets);
      parts = subst (λ (n : ℕ). n ≤ MOST_FILE_PARTS) (parts_joined pieces) (at_most (elements_staged pieces) MOST_FILE_PARTS k.parts);
    }
