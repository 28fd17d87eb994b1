-- Where contents of an indefinite length end: as many turns as there are octets are enough.
use Rattle.std.proofs.Common.{◌≡◌, ℕ, zero, suc, ◌-◌, ◌<◌, ◌≤◌, Bool, true, false, List, [], ◌∷◌, length, drop, refl, ap, sym, ◌∙◌, arith}
use Rattle.std.specs.Prelude.{Option, None, Some, nat_eq, nat_le, nat_lt, if◌then◌else◌}
use Rattle.std.specs.Option.{option_and_then}
use Rattle.std.proofs.lemmas.Bool.Decides.{nat_tests}
use Rattle.std.proofs.lemmas.List.{length-drop}
use Rattle.vf_upper_grammar.specs.Parts.{after_contents, after_end, after_end_in, after_identifier, after_length, after_number, after_one, after_value, Header, header_at, long_form, number_of}

abbrev pub Within : ℕ → Option (List ℕ) → Type 0
Within n None = Unit {0}
Within n (Some rest) = length rest < n

abbrev pub HeaderWithin : ℕ → Option Header → Type 0
HeaderWithin n None = Unit {0}
HeaderWithin n (Some header) = length header.rest < n

one-within : (octets : List ℕ) → Within (length octets) (after_one octets)
one-within [] = tt
one-within (octet ∷ octets) = omega arith

within-more : (n m : ℕ) (o : Option (List ℕ)) → n ≤ m → Within n o → Within m o
within-more n m None le w = tt
within-more n m (Some rest) le w = omega arith

within-if : (n : ℕ) (b : Bool) (x y : Option (List ℕ)) → Within n x → Within n y → Within n (if b then x else y)
within-if n true x y p q = p
within-if n false x y p q = q

number-within : (octets : List ℕ) → Within (length octets) (after_number octets)
number-within [] = tt
number-within (octet ∷ octets) =
    within-if (suc (length octets)) (nat_lt octet 128) (Some octets) (after_one octets) (omega arith)
    (within-more (length octets) (suc (length octets)) (after_one octets) (omega arith) (one-within octets))

identifier-within : (octets : List ℕ) → Within (length octets) (after_identifier octets)
identifier-within [] = tt
identifier-within (first ∷ octets) =
    within-if (suc (length octets)) (nat_lt (number_of first) 31) (Some octets) (after_number octets) (omega arith)
    (within-more (length octets) (suc (length octets)) (after_number octets) (omega arith) (number-within octets))

header-if : (n : ℕ) (b : Bool) (x y : Option Header) → HeaderWithin n x → HeaderWithin n y → HeaderWithin n (if b then x else y)
header-if n true x y p q = p
header-if n false x y p q = q

long-within : (digits : ℕ) (octets : List ℕ) → HeaderWithin (suc (length octets)) (long_form digits octets)
long-within digits octets =
    header-if (suc (length octets)) (nat_le digits (length octets)) _ None (omega (arith, length-drop digits octets)) tt

length-within : (octets : List ℕ) → HeaderWithin (length octets) (after_length octets)
length-within [] = tt
length-within (first ∷ octets) =
    header-if (suc (length octets)) (nat_lt first 128) _ _ (omega arith)
    (header-if (suc (length octets)) (nat_eq first 128) _ _ (omega arith)
    (header-if (suc (length octets)) (nat_le first 136) (long_form (first - 128) octets) None (long-within (first - 128) octets) tt))

pub header-more : (n m : ℕ) (h : Option Header) → n ≤ m → HeaderWithin n h → HeaderWithin m h
header-more n m None le w = tt
header-more n m (Some header) le w = omega arith

header_by : (n : ℕ) (o : Option (List ℕ)) → Within n o → HeaderWithin n (option_and_then after_length o)
header_by n None w = tt
header_by n (Some rest) w = header-more (length rest) n (after_length rest) (omega arith) (length-within rest)

pub header-within : (octets : List ℕ) → HeaderWithin (length octets) (header_at octets)
header-within octets = header_by (length octets) (after_identifier octets) (identifier-within octets)

-- ---- values and what is after them

abbrev pub Shortens : (List ℕ → Option (List ℕ)) → Type 0
Shortens f = (octets : List ℕ) → Within (length octets) (f octets)

then-within : (f : List ℕ → Option (List ℕ)) (n : ℕ) (o : Option (List ℕ)) → Shortens f → Within n o → Within n (option_and_then f o)
then-within f n None s w = tt
then-within f n (Some rest) s w = within-more (length rest) n (f rest) (omega arith) (s rest)

contents-within : (f : List ℕ → Option (List ℕ)) (n : ℕ) (count : Option ℕ) (rest : List ℕ) → Shortens f → length rest < n → Within n (after_contents f count rest)
contents-within f n None rest s lt = within-more (length rest) n (f rest) (omega arith) (s rest)
contents-within f n (Some m) rest s lt = within-if n (nat_le m (length rest)) (Some (drop m rest)) None (omega (arith, length-drop m rest)) tt

value_by : (f : List ℕ → Option (List ℕ)) (n : ℕ) (h : Option Header) → Shortens f → HeaderWithin n h → Within n (option_and_then (λ header. after_contents f header.count header.rest) h)
value_by f n None s w = tt
value_by f n (Some header) s w = contents-within f n header.count header.rest s w

pub value-within : (f : List ℕ → Option (List ℕ)) → Shortens f → Shortens (after_value f)
value-within f s octets = value_by f (length octets) (header_at octets) s (header-within octets)

pub end-within : (turns : ℕ) → Shortens (after_end_in turns)
unfolding after_end_in
end-within zero octets = tt
end-within (suc turns) [] = tt
end-within (suc turns) (first ∷ octets) =
    let inner = end-within turns in
    within-if (suc (length octets)) (nat_eq first 0) (after_one octets) _
    (within-more (length octets) (suc (length octets)) (after_one octets) (omega arith) (one-within octets))
    (then-within (after_end_in turns) (suc (length octets)) _ inner (value-within (after_end_in turns) inner (first ∷ octets)))

-- ---- turns

-- equal on octets up to a length
abbrev pub Agree : ℕ → (List ℕ → Option (List ℕ)) → (List ℕ → Option (List ℕ)) → Type 0
Agree n f g = (octets : List ℕ) → length octets ≤ n → f octets ≡ g octets

then-same : (n : ℕ) (f g : List ℕ → Option (List ℕ)) (o : Option (List ℕ)) → Agree n f g → Within (suc n) o → option_and_then f o ≡ option_and_then g o
then-same n f g None agree w = refl
then-same n f g (Some rest) agree w = agree rest (omega arith)

contents-same : (n : ℕ) (f g : List ℕ → Option (List ℕ)) (h : Option Header) → Agree n f g → HeaderWithin (suc n) h
    → option_and_then (λ header. after_contents f header.count header.rest) h ≡ option_and_then (λ header. after_contents g header.count header.rest) h
contents-same n f g None agree w = refl
contents-same n f g (Some header) agree w = by header.count
  where
    by : (count : Option ℕ) → after_contents f count header.rest ≡ after_contents g count header.rest
    by None = agree header.rest (omega arith)
    by (Some m) = refl

value-same : (n : ℕ) (f g : List ℕ → Option (List ℕ)) (octets : List ℕ) → Agree n f g → length octets ≤ suc n → after_value f octets ≡ after_value g octets
value-same n f g octets agree le = contents-same n f g (header_at octets) agree (header-more (length octets) (suc n) (header_at octets) le (header-within octets))

turns-same : (t u : ℕ) (octets : List ℕ) → length octets ≤ t → length octets ≤ u → after_end_in t octets ≡ after_end_in u octets
unfolding after_end_in
turns-same zero zero octets a b = refl
turns-same zero (suc u) [] a b = refl
turns-same zero (suc u) (first ∷ octets) a b = absurd (omega arith)
turns-same (suc t) zero [] a b = refl
turns-same (suc t) zero (first ∷ octets) a b = absurd (omega arith)
turns-same (suc t) (suc u) [] a b = refl
turns-same (suc t) (suc u) (first ∷ octets) a b =
    let all = first ∷ octets in
    let n = length octets in
    let agree : Agree n (after_end_in t) (after_end_in u) = λ o le. turns-same t u o (omega arith) (omega arith) in
    let values : after_value (after_end_in t) all ≡ after_value (after_end_in u) all = value-same n (after_end_in t) (after_end_in u) all agree (omega arith) in
    let after : Within (suc n) (after_value (after_end_in t) all) = value-within (after_end_in t) (end-within t) all in
    ap (λ o. if nat_eq first 0 then after_one octets else o)
    (then-same n (after_end_in t) (after_end_in u) (after_value (after_end_in t) all) agree after ∙ ap (option_and_then (after_end_in u)) values)

pub end-shortens : Shortens after_end
unfolding after_end
end-shortens octets = end-within (length octets) octets

pub end-step : (first : ℕ) (octets : List ℕ) → after_end (first ∷ octets) ≡ (if nat_eq first 0 then after_one octets else option_and_then after_end (after_value after_end (first ∷ octets)))
unfolding after_end after_end_in
end-step first octets =
    let all = first ∷ octets in
    let n = length octets in
    let agree : Agree n (after_end_in n) after_end = λ o le. turns-same n (length o) o le (omega arith) in
    let values : after_value (after_end_in n) all ≡ after_value after_end all = value-same n (after_end_in n) after_end all agree (omega arith) in
    let after : Within (suc n) (after_value (after_end_in n) all) = value-within (after_end_in n) (end-within n) all in
    ap (λ o. if nat_eq first 0 then after_one octets else o)
    (then-same n (after_end_in n) after_end (after_value (after_end_in n) all) agree after ∙ ap (option_and_then after_end) values)

pub end-none : after_end [] ≡ None
unfolding after_end after_end_in
end-none = refl

pub ruleset ends = (end-step, end-none)

-- ---- the loop over values

pub record GoesOn (all rest later : List ℕ) : Type 0 where
  pub same : after_end later ≡ after_end all
  pub within : length later ≤ length all
  pub shorter : length later < length rest

pub shorter_by : (f : List ℕ → Option (List ℕ)) (o : Option (List ℕ)) (n : ℕ) (later : List ℕ) → Some later ≡ o → Within n o → length later < n
shorter_by f None n later e w = absurd cc
shorter_by f (Some rest) n later e w = let same : later ≡ rest = cc in omega (arith, ap length same)

pub goes_on : (first : ℕ) (after all rest later : List ℕ) → rest ≡ first ∷ after → (first ≡ 0 → ⊥) → Some later ≡ after_value after_end rest
    → after_end rest ≡ after_end all → length rest ≤ length all → GoesOn all rest later
goes_on first after all rest later parts some first_part same within =
    let other : nat_eq first 0 ≡ false = grind (arith, nat_tests) in
    let shorter : length later < length rest = shorter_by after_end (after_value after_end rest) (length rest) later first_part (value-within after_end end-shortens rest) in
    let step : after_end rest ≡ option_and_then after_end (after_value after_end rest) =
    ap after_end parts ∙ end-step first after ∙ ap (λ b. if b then after_one after else option_and_then after_end (after_value after_end (first ∷ after))) other
    ∙ ap (λ o. option_and_then after_end (after_value after_end o)) (sym parts) in
    let next : after_end rest ≡ after_end later = step ∙ ap (option_and_then after_end) (sym first_part) in
    record { same = sym next ∙ same; within = omega arith; shorter = shorter }
