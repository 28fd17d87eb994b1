-- Numbers, and octets after their number.
use Rattle.std.proofs.Common.{◌≡◌, ℕ, ◌+◌, ◌^◌, ◌<◌, ◌≤◌, Bool, true, false, cond, ltb, List, ◌++◌, length, take, drop, Some, None, refl, sym, ap, subst, ◌∙◌, append_assoc, arith, inl, inr}
use Rattle.std.specs.Int.{Width, w16, w32, w64, byte_len, from_be_bytes, to_be_bytes}
use Rattle.std.specs.List.{flat_map, AllByRecursion}
use Rattle.std.proofs.lemmas.Bool.{cases_lt, ltb-false, le-ltb}
use Rattle.std.proofs.lemmas.List.{take_at, drop_at, take-append-drop, length-append, length-take, get_or-drop, get_or-take, get_or_past}
use Rattle.std.proofs.lemmas.Nat.{be_bytes_2, be_bytes_4, be_bytes_8, from_be_bytes-to_be_bytes_2, from_be_bytes-to_be_bytes_4, from_be_bytes-to_be_bytes_8}
use Rattle.vf_store_record.specs.Formats.{Format, number, counted, these, listed, repeated_read}
use Rattle.vf_store_record.proofs.Exact.{IsBytes, IsExact, Takes, bind_some, takes_then, repeated_again, repeated_takes}

bytes-drop : (n : ℕ) (bytes : List ℕ) → IsBytes bytes → IsBytes (drop n bytes)
bytes-drop n bytes h i = rw get_or-drop (h (n + i))

bytes-take : (n : ℕ) (bytes : List ℕ) → IsBytes bytes → IsBytes (take n bytes)
bytes-take n bytes h i =
    elim (cases_lt i n) [
      | inl lt ↦ rw (get_or-take n bytes i 0 lt) (h i)
      | inr le ↦ rw (get_or_past (take n bytes) i 0 (omega (arith, length-take n bytes))) (omega arith)
    ]

-- a test that was passed
guarded : {A : Type 0} (test : Bool) (one other : A) → cond test None (Some one) ≡ Some other → (test ≡ false) × (one ≡ other)
guarded true one other e = absurd cc
guarded false one other e = (refl, cc)

pub record IsWide (w : Width) (limit : ℕ) : Type 0 where
  pub len : (n : ℕ) → length (to_be_bytes w n) ≡ byte_len w
  pub back : (bytes : List ℕ) → length bytes ≡ byte_len w → IsBytes bytes → to_be_bytes w (from_be_bytes w bytes) ≡ bytes
  pub again : (n : ℕ) → n < limit → from_be_bytes w (to_be_bytes w n) ≡ n
  pub below : (bytes : List ℕ) → IsBytes bytes → from_be_bytes w bytes < limit

pub wide16 : IsWide w16 (2 ^ 16)
wide16 = record {
  len = λ n. refl;
  back = λ bytes len fits. be_bytes_2 bytes _ len fits refl;
  again = λ n lt. from_be_bytes-to_be_bytes_2 n lt;
  below = λ bytes fits. omega (arith, fits 0, fits 1);
}

pub wide32 : IsWide w32 (2 ^ 32)
wide32 = record {
  len = λ n. refl;
  back = λ bytes len fits. be_bytes_4 bytes _ len fits refl;
  again = λ n lt. from_be_bytes-to_be_bytes_4 n lt;
  below = λ bytes fits. omega (arith, fits 0, fits 1, fits 2, fits 3);
}

pub wide64 : IsWide w64 (2 ^ 64)
wide64 = record {
  len = λ n. refl;
  back = λ bytes len fits. be_bytes_8 bytes _ len fits refl;
  again = λ n lt. from_be_bytes-to_be_bytes_8 n lt;
  below = λ bytes fits. omega (arith, fits 0, fits 1, fits 2, fits 3, fits 4, fits 5, fits 6, fits 7);
}

module _ (w : Width) (limit : ℕ) (wide : IsWide w limit) where
  number_takes : (octets : List ℕ) (n : ℕ) (rest : List ℕ) → IsBytes octets → (number w).read octets ≡ Some (n, rest) → Takes octets (to_be_bytes w n) rest × (n < limit)
  number_takes octets n rest bytes e =
      let g = guarded (ltb (length octets) (byte_len w)) (from_be_bytes w (take (byte_len w) octets), drop (byte_len w) octets) (n, rest) e in
      let long : byte_len w ≤ length octets = ltb-false _ _ g.0 in
      let n-is : from_be_bytes w (take (byte_len w) octets) ≡ n = ap (λ (p : ℕ × List ℕ). p.0) g.1 in
      let rest-is : drop (byte_len w) octets ≡ rest = ap (λ (p : ℕ × List ℕ). p.1) g.1 in
      let first : to_be_bytes w n ≡ take (byte_len w) octets = rw (← n-is) (wide.back (take (byte_len w) octets) (omega (arith, length-take (byte_len w) octets)) (bytes-take (byte_len w) octets bytes)) in
      (record { parts = rw (first, ← rest-is) (sym (take-append-drop (byte_len w) octets)); others = rw (← rest-is) (bytes-drop (byte_len w) octets bytes) }, rw (← n-is) (wide.below (take (byte_len w) octets) (bytes-take (byte_len w) octets bytes)))

  number_again : (n : ℕ) (rest : List ℕ) → n < limit → (number w).read (to_be_bytes w n ++ rest) ≡ Some (n, rest)
  number_again n rest lt =
      let len = wide.len n in
      let long : ltb (length (to_be_bytes w n ++ rest)) (byte_len w) ≡ false = le-ltb _ _ (omega (arith, length-append (to_be_bytes w n) rest)) in
      rw (long, take_at (to_be_bytes w n) rest (byte_len w) len, drop_at (to_be_bytes w n) rest (byte_len w) len, wide.again n lt) refl

  pub number_exact : IsExact (λ n. n < limit) (number w)
  number_exact = record { again = number_again; takes = number_takes }

  counted_takes : (octets text rest : List ℕ) → IsBytes octets → (counted w).read octets ≡ Some (text, rest) → Takes octets (to_be_bytes w (length text) ++ text) rest × (length text < limit)
  counted_takes octets text rest bytes e =
      let b = bind_some ((number w).read octets) (λ (count : ℕ × List ℕ). these count.0 count.1) (text, rest) e in
      let n = b.0 in
      let t = number_takes octets n.0 n.1 bytes b.1 in
      let g = guarded (ltb (length n.1) n.0) (take n.0 n.1, drop n.0 n.1) (text, rest) b.2 in
      let long : n.0 ≤ length n.1 = ltb-false _ _ g.0 in
      let len : length (take n.0 n.1) ≡ n.0 = omega (arith, length-take n.0 n.1) in
      let second : Takes n.1 (take n.0 n.1) (drop n.0 n.1) = record { parts = sym (take-append-drop n.0 n.1); others = bytes-drop n.0 n.1 t.0.others } in
      let together = takes_then octets (to_be_bytes w n.0) n.1 (take n.0 n.1) (drop n.0 n.1) t.0 second in
      let whole : Takes octets (to_be_bytes w (length (take n.0 n.1)) ++ take n.0 n.1) (drop n.0 n.1) = subst (λ (k : ℕ). Takes octets (to_be_bytes w k ++ take n.0 n.1) (drop n.0 n.1)) (sym len) together in
      subst (λ (p : List ℕ × List ℕ). Takes octets (to_be_bytes w (length p.0) ++ p.0) p.1 × (length p.0 < limit)) g.1 (whole, omega (arith, t.1, len))

  counted_again : (text rest : List ℕ) → length text < limit → (counted w).read ((counted w).spell text ++ rest) ≡ Some (text, rest)
  counted_again text rest lt =
      let long : ltb (length (text ++ rest)) (length text) ≡ false = le-ltb _ _ (omega (arith, length-append text rest)) in
      ap (λ (o : List ℕ). (counted w).read o) (append_assoc (to_be_bytes w (length text)) text rest)
      ∙ rw (number_again (length text) (text ++ rest) lt, long, take_at text rest (length text) refl, drop_at text rest (length text) refl) refl

  pub counted_exact : IsExact (λ (text : List ℕ). length text < limit) (counted w)
  counted_exact = record { again = counted_again; takes = counted_takes }

module _ {A : Type 0} (IsA : A → Type 0) (format : Format A) (inner : IsExact IsA format) where
  abbrev pub IsListed : List A → Type 0
  IsListed values = (length values < 2 ^ 32) × AllByRecursion IsA values

  listed_again : (values : List A) (rest : List ℕ) → IsListed values → (listed format).read ((listed format).spell values ++ rest) ≡ Some (values, rest)
  listed_again values rest is =
      ap (λ (o : List ℕ). (listed format).read o) (append_assoc (to_be_bytes w32 (length values)) (flat_map format.spell values) rest)
      ∙ rw ((number_exact w32 (2 ^ 32) wide32).again (length values) (flat_map format.spell values ++ rest) is.0) (repeated_again IsA format inner values rest is.1)

  listed_takes : (octets : List ℕ) (values : List A) (rest : List ℕ) → IsBytes octets → (listed format).read octets ≡ Some (values, rest) → Takes octets ((listed format).spell values) rest × IsListed values
  listed_takes octets values rest bytes e =
      let b = bind_some ((number w32).read octets) (λ (count : ℕ × List ℕ). repeated_read format count.0 count.1) (values, rest) e in
      let n = b.0 in
      let t = (number_exact w32 (2 ^ 32) wide32).takes octets n.0 n.1 bytes b.1 in
      let second = repeated_takes IsA format inner n.0 n.1 values rest t.0.others b.2 in
      let together = takes_then octets (to_be_bytes w32 n.0) n.1 (flat_map format.spell values) rest t.0 second.0 in
      (subst (λ (k : ℕ). Takes octets (to_be_bytes w32 k ++ flat_map format.spell values) rest) (sym second.1) together, (omega (arith, t.1, second.1), second.2))

  pub listed_exact : IsExact IsListed (listed format)
  listed_exact = record { again = listed_again; takes = listed_takes }
