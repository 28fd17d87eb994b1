-- Reading values one after the other, as a loop does.
use Rattle.std.proofs.Common.{◌≡◌, ℕ, suc, ◌-◌, ◌+◌, ◌≤◌, ◌<◌, List, [], ◌∷◌, ◌++◌, Option, Some, None, refl, sym, ap, ◌∙◌, append_assoc, arith}
use Rattle.std.proofs.lemmas.List.{append-nil}
use Rattle.vf_store_record.specs.declared.error.ReadError.{ReadError}
use Rattle.vf_store_record.specs.declared.error.ReadError.TheVariants as errors
use Rattle.vf_store_record.specs.Formats.{Format, ◌>>=◌, repeated_read}
use Rattle.vf_store_record.specs.Reading.{IsCause}

-- what was read before, and what is still read
abbrev pub after_these : {A : Type 0} → List A → Option (List A × List ℕ) → Option (List A × List ℕ)
after_these values read = read >>= λ found. Some (values ++ found.0, found.1)

regroup : {A : Type 0} (values : List A) (one : A) (read : Option (List A × List ℕ)) → after_these values (read >>= λ found. Some (one ∷ found.0, found.1)) ≡ after_these (values ++ one ∷ []) read
regroup values one (Some found) = ap (λ (all : List _). Some (all, found.1)) (sym (append_assoc values (one ∷ []) found.0))
regroup values one None = refl

module _ {A : Type 0} (format : Format A) where
  pub goes_on : (values : List A) (count i : ℕ) (octets : List ℕ) (one : A) (after : List ℕ) (total : Option (List A × List ℕ)) → i < count → format.read octets ≡ Some (one, after)
      → after_these values (repeated_read format (count - i) octets) ≡ total → after_these (values ++ one ∷ []) (repeated_read format (count - (i + 1)) after) ≡ total
  goes_on values count i octets one after total lt h so_far =
      let k : count - i ≡ suc (count - (i + 1)) = omega arith in
      let step : after_these values (repeated_read format (count - i) octets) ≡ after_these (values ++ one ∷ []) (repeated_read format (count - (i + 1)) after) =
      rw (k, h) (regroup values one (repeated_read format (count - (i + 1)) after)) in
      sym step ∙ so_far

  pub ends : (error : ReadError) (values : List A) (count i : ℕ) (octets : List ℕ) (total : Option (List A × List ℕ)) → i < count → IsCause error (format.read octets)
      → after_these values (repeated_read format (count - i) octets) ≡ total → IsCause error total
  ends errors.NoMemory values count i octets total lt h so_far = tt
  ends errors.Foreign values count i octets total lt h so_far =
      let k : count - i ≡ suc (count - (i + 1)) = omega arith in
      let step : after_these values (repeated_read format (count - i) octets) ≡ None = rw (k, h) refl in
      sym so_far ∙ step

  pub is_done : (values : List A) (count i : ℕ) (octets : List ℕ) (total : Option (List A × List ℕ)) → count ≤ i → after_these values (repeated_read format (count - i) octets) ≡ total → total ≡ Some (values, octets)
  is_done values count i octets total le so_far =
      let k : count - i ≡ 0 = omega arith in
      let step : after_these values (repeated_read format (count - i) octets) ≡ Some (values, octets) = rw k (ap (λ (all : List A). Some (all, octets)) (append-nil values)) in
      sym so_far ∙ step
