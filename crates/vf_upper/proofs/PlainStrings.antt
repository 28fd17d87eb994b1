-- Data of one string are spelled as its octets behind those that are put at once, and the string is found in these.
use Rattle.std.proofs.Common.{◌≡◌, ℕ, ◌+◌, ◌≤◌, ◌<◌, Bool, true, false, List, [], ◌∷◌, ◌++◌, length, All, refl, ap, sym, subst, ◌∙◌, append-nil, length-append, arith, inl, inr}
use Rattle.std.specs.Prelude.{ℤ, ◌*◌, ◌/◌, ◌%◌, ◌||◌, nat_eq, nat_lt, if◌then◌else◌}
use Rattle.std.specs.Cmp.Lexicographic.{pointwise}
use Rattle.std.specs.Int.{w64, to_be_bytes, cast_unsigned}
use Rattle.std.proofs.lemmas.Slice.Eq.{bytes_eq-Decides}
use Rattle.std.proofs.lemmas.Bool.Decides.{nat_tests}
use Rattle.std.proofs.lemmas.List.Elements.{All-cons, All-nil}
use Rattle.vf_ber.specs.Contents.{integer_octets, shortened}
use Rattle.vf_ber.specs.Limits.{IsTooLarge}
use Rattle.vf_ber.specs.Spelling.{header, identifier, length_octets, spell, spells}
use Rattle.vf_ber.specs.Tags.{IsTag}
use Rattle.vf_ber.specs.Tree.{Tag, Tree, Trees, built, more, none, plain}
use Rattle.vf_ber.proofs.Names.{identifier-short}
use Rattle.vf_upper.specs.CarriedCode.{Carried}
use Rattle.vf_upper.specs.Laws.{IsCarried, IsIdentifier, in_context}
use Rattle.vf_upper.specs.PlainData.{IsAlone, IsPlain, front, long, string_data}
use Rattle.vf_upper.specs.Written as written
use Rattle.vf_upper.proofs.Grammar.{data_found}

-- ---- an integer in one octet

last-alone : (last : ℕ) → last < 128 → shortened (0 ∷ 0 ∷ 0 ∷ 0 ∷ 0 ∷ 0 ∷ 0 ∷ last ∷ []) ≡ last ∷ []
last-alone last low =
    let test : nat_lt last 128 ≡ true = grind (arith, nat_tests) in
    ap (λ (b : Bool). if b || false then last ∷ [] else 0 ∷ last ∷ []) test

eight-octets : (n : ℕ) → n < 128 → to_be_bytes w64 n ≡ 0 ∷ 0 ∷ 0 ∷ 0 ∷ 0 ∷ 0 ∷ 0 ∷ n ∷ []
eight-octets n low =
    let a : n / 72057594037927936 % 256 ≡ 0 = omega arith in
    let b : n / 281474976710656 % 256 ≡ 0 = omega arith in
    let c : n / 1099511627776 % 256 ≡ 0 = omega arith in
    let d : n / 4294967296 % 256 ≡ 0 = omega arith in
    let e : n / 16777216 % 256 ≡ 0 = omega arith in
    let f : n / 65536 % 256 ≡ 0 = omega arith in
    let g : n / 256 % 256 ≡ 0 = omega arith in
    let last : n % 256 ≡ n = omega arith in
    λ i. a i ∷ b i ∷ c i ∷ d i ∷ e i ∷ f i ∷ g i ∷ last i ∷ []

pub small_octets : (n : ℤ) → cast_unsigned w64 n < 128 → integer_octets n ≡ cast_unsigned w64 n ∷ []
small_octets n low = ap shortened (eight-octets (cast_unsigned w64 n) low) ∙ last-alone (cast_unsigned w64 n) low

-- octets that are compared and found the same
pub octets_same : (xs ys : List ℕ) → pointwise nat_eq xs ys ≡ true → xs ≡ ys
octets_same xs ys e = (bytes_eq-Decides xs ys).0 e

-- ---- the parts, from the string outwards

two-octets : (n : ℕ) → 256 ≤ n → n ≤ 65535 → length_octets n ≡ 130 ∷ n / 256 ∷ n % 256 ∷ []
two-octets n low high = grind (arith, nat_tests)

-- a value of which these are the contents, so many
held : (tag : Tag) (first n : ℕ) (parts : Trees) (contents : List ℕ) → identifier true tag ≡ first ∷ [] → spells parts ≡ contents → length contents ≡ n → 256 ≤ n → n ≤ 65535
    → spell (built tag parts) ≡ first ∷ long n contents
held tag first n parts contents name inside count low high =
    ap (λ (inside : List ℕ). header true tag (length inside) ++ inside) inside
    ∙ ap (λ (name : List ℕ). (name ++ length_octets (length contents)) ++ contents) name
    ∙ ap (λ (k : ℕ). ((first ∷ []) ++ length_octets k) ++ contents) count
    ∙ ap (λ (counted : List ℕ). ((first ∷ []) ++ counted) ++ contents) (two-octets n low high)

zero-more : (n : ℕ) → 64 * 0 + n ≡ n
zero-more n = omega arith

string-spelled : (class n : ℕ) (octets : List ℕ) → class < 31 → length octets ≡ n → 256 ≤ n → n ≤ 65535 → spell (plain (written.universal class) octets) ≡ class ∷ long n octets
string-spelled class n octets low count many few =
    ap (λ (name : List ℕ). (name ++ length_octets (length octets)) ++ octets) (identifier-short false 0 class low ∙ ap (λ (k : ℕ). k ∷ []) (zero-more class))
    ∙ ap (λ (k : ℕ). ((class ∷ []) ++ length_octets k) ++ octets) count
    ∙ ap (λ (counted : List ℕ). ((class ∷ []) ++ counted) ++ octets) (two-octets n many few)

pub data_spelled : (context : ℤ) (id class : ℕ) (octets : List ℕ) → IsPlain context id class (length octets)
    → spell (string_data context class octets) ≡ front id class (length octets) ++ octets
data_spelled context id class octets is =
    let n = length octets in
    let string = plain (written.universal class) octets in
    let value = built (written.context 0) (more string none) in
    let list = built (written.universal 16) (more (written.integer context) (more value none)) in
    let first : List ℕ = class ∷ long n octets in
    let second : List ℕ = 160 ∷ long (n + 4) first in
    let third : List ℕ = 48 ∷ long (n + 11) (2 ∷ 1 ∷ id ∷ second) in
    let many = is.many in
    let few = is.few in
    let string-is : spell string ≡ first = string-spelled class n octets is.low refl many (omega (arith, few)) in
    let value-is : spell value ≡ second =
    held (written.context 0) 160 (n + 4) (more string none) first refl (append-nil (spell string) ∙ string-is) (omega arith) (omega (arith, many)) (omega (arith, few)) in
    let number-is : spell (written.integer context) ≡ 2 ∷ 1 ∷ id ∷ [] = ap (λ (o : List ℕ). header false (written.universal 2) (length o) ++ o) is.id_is in
    let inside : spells (more (written.integer context) (more value none)) ≡ 2 ∷ 1 ∷ id ∷ second =
    ap (λ (o : List ℕ). o ++ (spell value ++ [])) number-is ∙ ap (λ (o : List ℕ). 2 ∷ 1 ∷ id ∷ o) (append-nil (spell value) ∙ value-is) in
    let list-is : spell list ≡ third =
    held (written.universal 16) 48 (n + 11) (more (written.integer context) (more value none)) (2 ∷ 1 ∷ id ∷ second) refl inside (omega arith) (omega (arith, many)) (omega (arith, few)) in
    held (written.application 1) 97 (n + 15) (more list none) third refl (append-nil (spell list) ∙ list-is) (omega arith) (omega (arith, many)) (omega (arith, few))

-- ---- what is found

longest : (context : ℤ) (id class : ℕ) (octets : List ℕ) → IsPlain context id class (length octets) → length (spell (string_data context class octets)) ≤ 1048576
longest context id class octets is =
    let few = is.few in
    let before : length (front id class (length octets)) ≡ 19 = refl in
    subst (λ (o : List ℕ). length o ≤ 1048576) (sym (data_spelled context id class octets is)) (omega (arith, length-append (front id class (length octets)) octets, before, few))

not-large : (context : ℤ) (id class : ℕ) (octets : List ℕ) → IsPlain context id class (length octets) → IsTooLarge (string_data context class octets) → ⊥
not-large context id class octets is (inl deep) = let deeper : 32 < 4 = deep in omega (arith, deeper)
not-large context id class octets is (inr long) = let short = longest context id class octets is in omega (arith, short, long)

alone-is : (carried : Carried) → IsCarried carried → All IsCarried (carried ∷ [])
alone-is carried is = All-cons IsCarried carried [] is (All-nil IsCarried)

pub found_alone : (context : ℤ) (id class : ℕ) (octets : List ℕ) → IsIdentifier context → IsPlain context id class (length octets)
    → IsAlone (front id class (length octets) ++ octets) (in_context context (plain (written.universal class) octets))
found_alone context id class octets fits is =
    let string = plain (written.universal class) octets in
    let carried = in_context context string in
    let some = is.some in
    let low = is.low in
    let tag : IsTag (written.universal class) = record { class_within = omega arith; number_within = omega (arith, low); some_value = omega (arith, some) } in
    subst (λ (o : List ℕ). IsAlone o carried) (data_spelled context id class octets is)
    (data_found (carried ∷ []) [] (alone-is carried (fits, tag)) (not-large context id class octets is))

-- the same where the octets stand in two parts
pub found_behind : (octets first string part : List ℕ) (context : ℤ) (id class : ℕ) → IsIdentifier context → IsPlain context id class (length string)
    → first ≡ front id class (length string) → octets ≡ first ++ string → part ≡ string → IsAlone octets (in_context context (plain (written.universal class) part))
found_behind octets first string part context id class fits is front-is whole same =
    let P : List ℕ → Type 0 = λ o. IsAlone o (in_context context (plain (written.universal class) string)) in
    let Q : List ℕ → Type 0 = λ o. IsAlone octets (in_context context (plain (written.universal class) o)) in
    subst Q (sym same) (subst P (sym (whole ∙ ap (λ (o : List ℕ). o ++ string) front-is)) (found_alone context id class string fits is))
