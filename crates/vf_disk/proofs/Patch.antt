-- A list with the octets of another from a place up to a place.
use Rattle.std.proofs.Common.{◌≡◌, ℕ, ◌+◌, ◌-◌, ◌<◌, ◌≤◌, max, List, ◌++◌, length, get_or, take, drop, sym, ◌∙◌, ap, arith, length-append, length-drop}
use Rattle.std.proofs.lemmas.List.{length-take-le, get_or-take, get_or-drop, get_or_append_left, get_or-append_right, ext_get_or}

abbrev pub patched : ℕ → ℕ → List ℕ → List ℕ → List ℕ
patched a m base c = take a c ++ (drop a (take m base) ++ drop (max a m) c)

pub same_prefix : (n : ℕ) (xs ys : List ℕ) → n ≤ length xs → n ≤ length ys → ((i : ℕ) → i < n → get_or xs i 0 ≡ get_or ys i 0) → take n xs ≡ take n ys
same_prefix n xs ys long_xs long_ys same =
    let long = length-take-le n xs long_xs in
    ext_get_or 0 (take n xs) (take n ys) (long ∙ sym (length-take-le n ys long_ys)) (λ i lt.
    let less : i < n = omega arith in
    get_or-take n xs i 0 less ∙ same i less ∙ sym (get_or-take n ys i 0 less))

pub same_back : (n : ℕ) (xs ys : List ℕ) → length xs ≡ length ys → ((i : ℕ) → n ≤ i → get_or xs i 0 ≡ get_or ys i 0) → drop n xs ≡ drop n ys
same_back n xs ys long same =
    ext_get_or 0 (drop n xs) (drop n ys) (length-drop n xs ∙ ap (λ (k : ℕ). k - n) long ∙ sym (length-drop n ys)) (λ i lt.
    get_or-drop n xs i 0 ∙ same (n + i) (omega arith) ∙ sym (get_or-drop n ys i 0))

module _ (a m : ℕ) (base c : List ℕ) (in_base : m ≤ length base) (in_c : a ≤ length c) where
  prefix : length (take a c) ≡ a
  prefix = length-take-le a c in_c

  middle : length (drop a (take m base)) ≡ m - a
  middle = length-drop a (take m base) ∙ ap (λ (k : ℕ). k - a) (length-take-le m base in_base)

  pub length-patched : length (patched a m base c) ≡ max (length c) m
  length-patched = omega (arith, length-append (take a c) (drop a (take m base) ++ drop (max a m) c), length-append (drop a (take m base)) (drop (max a m) c), prefix, middle, length-drop (max a m) c)

  pub patched_before : (i : ℕ) → i < a → get_or (patched a m base c) i 0 ≡ get_or c i 0
  patched_before i lt = get_or_append_left (take a c) (drop a (take m base) ++ drop (max a m) c) 0 i (omega (arith, prefix)) ∙ get_or-take a c i 0 lt

  pub patched_in : (i : ℕ) → a ≤ i → i < m → get_or (patched a m base c) i 0 ≡ get_or base i 0
  patched_in i le lt =
      let place : a + (i - a) ≡ i = omega arith in
      get_or-append_right (take a c) (drop a (take m base) ++ drop (max a m) c) a i 0 prefix le
      ∙ get_or_append_left (drop a (take m base)) (drop (max a m) c) 0 (i - a) (omega (arith, middle))
      ∙ get_or-drop a (take m base) (i - a) 0
      ∙ ap (λ (k : ℕ). get_or (take m base) k 0) place
      ∙ get_or-take m base i 0 lt

  pub patched_after : (i : ℕ) → a ≤ i → m ≤ i → get_or (patched a m base c) i 0 ≡ get_or c i 0
  patched_after i le over =
      let place : max a m + ((i - a) - (m - a)) ≡ i = omega arith in
      get_or-append_right (take a c) (drop a (take m base) ++ drop (max a m) c) a i 0 prefix le
      ∙ get_or-append_right (drop a (take m base)) (drop (max a m) c) (m - a) (i - a) 0 middle (omega arith)
      ∙ get_or-drop (max a m) c ((i - a) - (m - a)) 0
      ∙ ap (λ (k : ℕ). get_or c k 0) place
