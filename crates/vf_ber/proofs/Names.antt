-- Identifiers and lengths are known by their octets, whatever follows.
use Rattle.std.proofs.Common.{◌≡◌, ℕ, ◌+◌, ◌-◌, ◌*◌, ◌/◌, ◌%◌, ◌<◌, ◌≤◌, Bool, true, false, List, [], ◌∷◌, ◌++◌, length, take, refl, ap, sym, ◌∙◌, arith, nat_eq, nat_lt, inl, inr, eq-eqb}
use Rattle.std.specs.Prelude.{Option, Some, None, if◌then◌else◌}
use Rattle.std.proofs.lemmas.Bool.{cases_lt, cond-true, cond-false, lt-ltb, le-ltb, ne_eqb}
use Rattle.std.proofs.lemmas.Bool.Decides.{nat_tests}
use Rattle.std.proofs.lemmas.List.{take_at, append_cancel_left}
use Rattle.vf_ber.specs.Tree.{Tag}
use Rattle.vf_ber.specs.Tags.{IsTag}
use Rattle.vf_ber.specs.Spelling.{first_octet, identifier}
use Rattle.vf_ber.specs.Spellings.{number_in}
use Rattle.vf_ber.specs.Steps.{Name, IsSize, named}

pub same_prefix : {X : Type 0} (a b r s : List X) → length a ≡ length b → a ++ r ≡ b ++ s → a ≡ b
same_prefix a b r s n e = sym (take_at a r (length b) n) ∙ ap (take (length b)) e ∙ take_at b s (length b) refl

-- ---- identifiers

abbrev pub tag : ℕ → ℕ → Tag
tag class number = record { class = class; number = number }

abbrev longer_at : List ℕ → ℕ
longer_at [] = 0
longer_at (a ∷ []) = a
longer_at (a ∷ b ∷ octets) = if nat_lt a 128 then a else 128 * (a - 128) + b

abbrev number_at : ℕ → List ℕ → ℕ
number_at low octets = if nat_lt low 31 then low else longer_at octets

abbrev pub name_at : List ℕ → Name
name_at [] = named false (tag 0 0)
name_at (first ∷ octets) = named (nat_eq (first / 32 % 2) 1) (tag (first / 64) (number_at (first % 32) octets))

pub class-first : (constructed : Bool) (class low : ℕ) → low < 32 → first_octet constructed class low / 64 ≡ class
class-first true class low lt = omega arith
class-first false class low lt = omega arith

pub low-first : (constructed : Bool) (class low : ℕ) → low < 32 → first_octet constructed class low % 32 ≡ low
low-first true class low lt = omega arith
low-first false class low lt = omega arith

pub bit-first : (constructed : Bool) (class low : ℕ) → low < 32 → nat_eq (first_octet constructed class low / 32 % 2) 1 ≡ constructed
bit-first true class low lt = eq-eqb _ 1 (omega arith)
bit-first false class low lt = ne_eqb _ 1 (λ e. omega arith)

pub identifier-short : (constructed : Bool) (class n : ℕ) → n < 31 → identifier constructed (tag class n) ≡ first_octet constructed class n ∷ []
identifier-short constructed class n lt = grind (arith, nat_tests)

pub identifier-longer : (constructed : Bool) (class n : ℕ) → 31 ≤ n → n < 128 → identifier constructed (tag class n) ≡ first_octet constructed class 31 ∷ n ∷ []
identifier-longer constructed class n le lt = grind (arith, nat_tests)

pub identifier-longest : (constructed : Bool) (class n : ℕ) → 128 ≤ n → identifier constructed (tag class n) ≡ first_octet constructed class 31 ∷ (128 + n / 128) ∷ n % 128 ∷ []
identifier-longest constructed class n le = grind (arith, nat_tests)

at_first : (constructed : Bool) (class low number : ℕ) (octets : List ℕ) → low < 32 → number_at low octets ≡ number
    → name_at (first_octet constructed class low ∷ octets) ≡ named constructed (tag class number)
at_first constructed class low number octets lt is =
    let first = first_octet constructed class low in
    ap (λ b. named b (tag (first / 64) (number_at (first % 32) octets))) (bit-first constructed class low lt)
    ∙ ap (λ k. named constructed (tag k (number_at (first % 32) octets))) (class-first constructed class low lt)
    ∙ ap (λ k. named constructed (tag class (number_at k octets))) (low-first constructed class low lt)
    ∙ ap (λ k. named constructed (tag class k)) is

pub name_of : (constructed : Bool) (t : Tag) (rest : List ℕ) → name_at (identifier constructed t ++ rest) ≡ named constructed t
name_of constructed t rest =
    let spelled = λ (i : List ℕ) (e : identifier constructed t ≡ i). ap (λ o. name_at (o ++ rest)) e in
    elim (cases_lt t.number 31) [
      | inl lt ↦ spelled _ (identifier-short constructed t.class t.number lt)
          ∙ at_first constructed t.class t.number t.number rest (omega arith) (cond-true (nat_lt t.number 31) _ _ (lt-ltb t.number 31 lt))
      | inr le ↦ elim (cases_lt t.number 128) [
        | inl lt ↦ spelled _ (identifier-longer constructed t.class t.number le lt) ∙ at_first constructed t.class 31 t.number (t.number ∷ rest) (omega arith) (short t.number rest lt)
        | inr far ↦
            let value : 128 * (128 + t.number / 128 - 128) + t.number % 128 ≡ t.number = omega arith in
            spelled _ (identifier-longest constructed t.class t.number far)
            ∙ at_first constructed t.class 31 t.number ((128 + t.number / 128) ∷ t.number % 128 ∷ rest) (omega arith)
            (cond-false (nat_lt (128 + t.number / 128) 128) _ _ (le-ltb (128 + t.number / 128) 128 (omega arith)) ∙ value)
      ]
    ]
  where
    short : (n : ℕ) (rest : List ℕ) → n < 128 → longer_at (n ∷ rest) ≡ n
    short n [] lt = refl
    short n (b ∷ rest) lt = cond-true (nat_lt n 128) _ _ (lt-ltb n 128 lt)

pub names_same : (a b : Name) (r s : List ℕ) → identifier a.constructed a.tag ++ r ≡ identifier b.constructed b.tag ++ s → (a ≡ b) × (r ≡ s)
names_same a b r s e =
    let same : a ≡ b = sym (name_of a.constructed a.tag r) ∙ ap name_at e ∙ name_of b.constructed b.tag s in
    let spelled : identifier b.constructed b.tag ++ r ≡ identifier b.constructed b.tag ++ s =
    ap (λ (n : Name). identifier n.constructed n.tag ++ r) (sym same) ∙ e in
    (same, append_cancel_left (identifier b.constructed b.tag) r s spelled)

-- no identifier begins with 0
pub begins : (constructed : Bool) (t : Tag) (rest : List ℕ) → IsTag t → (first : ℕ) × (others : List ℕ) × (0 < first) × (identifier constructed t ++ rest ≡ first ∷ others)
begins constructed t rest fits =
    elim (cases_lt t.number 31) [
      | inl lt ↦ (first_octet constructed t.class t.number, rest, some constructed t.class t.number fits.some_value, ap (λ i. i ++ rest) (identifier-short constructed t.class t.number lt))
      | inr le ↦ elim (cases_lt t.number 128) [
        | inl lt ↦ (first_octet constructed t.class 31, _, some constructed t.class 31 (omega arith), ap (λ i. i ++ rest) (identifier-longer constructed t.class t.number le lt))
        | inr far ↦ (first_octet constructed t.class 31, _, some constructed t.class 31 (omega arith), ap (λ i. i ++ rest) (identifier-longest constructed t.class t.number far))
      ]
    ]
  where
    some : (constructed : Bool) (class low : ℕ) → 0 < class + low → 0 < first_octet constructed class low
    some true class low lt = omega arith
    some false class low lt = omega arith

pub identifier_some : (constructed : Bool) (t : Tag) → 1 ≤ length (identifier constructed t)
identifier_some constructed t = grind (arith, nat_tests)

-- ---- lengths

abbrev size_at : List ℕ → Option ℕ
size_at [] = None
size_at (first ∷ octets) = if nat_lt first 128 then Some first else (if nat_eq first 128 then None else Some (number_in 0 (take (first - 128) octets)))

abbrev taken : List ℕ → ℕ
taken [] = 0
taken (first ∷ octets) = if nat_lt first 129 then 1 else (1 + (first - 128))

long_size : (digits rest : List ℕ) → 1 ≤ length digits → size_at (((128 + length digits) ∷ digits) ++ rest) ≡ Some (number_in 0 digits)
long_size digits rest some =
    let first = 128 + length digits in
    let n : length digits ≡ first - 128 = omega arith in
    cond-false (nat_lt first 128) _ _ (le-ltb first 128 (omega arith))
    ∙ cond-false (nat_eq first 128) _ _ (ne_eqb first 128 (λ e. omega arith))
    ∙ ap (λ o. Some (number_in 0 o)) (take_at digits rest (first - 128) n)

size_of : (octets rest : List ℕ) (size : Option ℕ) → IsSize octets size → size_at (octets ++ rest) ≡ size
size_of octets rest (Some n) (inl (is, lt)) = ap (λ o. size_at (o ++ rest)) is ∙ cond-true (nat_lt n 128) _ _ (lt-ltb n 128 lt)
size_of octets rest (Some n) (inr long) = ap (λ o. size_at (o ++ rest)) long.spelled ∙ long_size long.digits rest long.some ∙ ap (λ k. Some k) long.number
size_of octets rest None is = ap (λ o. size_at (o ++ rest)) is

taken_of : (octets rest : List ℕ) (size : Option ℕ) → IsSize octets size → taken (octets ++ rest) ≡ length octets
taken_of octets rest (Some n) (inl (is, lt)) = ap (λ o. taken (o ++ rest)) is ∙ cond-true (nat_lt n 129) _ _ (lt-ltb n 129 (omega arith)) ∙ sym (ap length is)
taken_of octets rest (Some n) (inr long) =
    let first = 128 + length long.digits in
    let some = long.some in
    let n : 1 + (first - 128) ≡ length (first ∷ long.digits) = omega arith in
    ap (λ o. taken (o ++ rest)) long.spelled ∙ cond-false (nat_lt first 129) _ _ (le-ltb first 129 (omega arith)) ∙ n ∙ sym (ap length long.spelled)
taken_of octets rest None is = ap (λ o. taken (o ++ rest)) is ∙ sym (ap length is)

pub sizes_same : (a b r s : List ℕ) (x y : Option ℕ) → IsSize a x → IsSize b y → a ++ r ≡ b ++ s → (a ≡ b) × (x ≡ y)
sizes_same a b r s x y at_a at_b e =
    let size : x ≡ y = sym (size_of a r x at_a) ∙ ap size_at e ∙ size_of b s y at_b in
    let n : length a ≡ length b = sym (taken_of a r x at_a) ∙ ap taken e ∙ taken_of b s y at_b in
    (same_prefix a b r s n e, size)

pub size_some : (octets : List ℕ) (size : Option ℕ) → IsSize octets size → 1 ≤ length octets
size_some octets (Some n) (inl (is, lt)) = omega (arith, ap length is)
size_some octets (Some n) (inr long) = omega (arith, ap length long.spelled)
size_some octets None is = omega (arith, ap length is)
