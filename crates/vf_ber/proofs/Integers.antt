-- The shortest two's complement, and the same in eight octets.
use Rattle.std.proofs.Common.{◌≡◌, ℕ, zero, suc, ◌-◌, ◌<◌, ◌≤◌, ◌^◌, List, [], ◌∷◌, ◌++◌, length, get_or, refl, ap, sym, ◌∙◌, arith, lt-ltb, nat_lt, nat_le, true, false, cond, subst, inl, inr}
use Rattle.std.proofs.Common.{length-append}
use Rattle.std.specs.Prelude.{Some, None, Bool, ◌&&◌, not, ℤ, replicate, ◌⊎◌}
use Rattle.std.specs.Int.{w64, to_be_bytes, from_be_bytes, cast_signed, cast_unsigned}
use Rattle.std.specs.Int.RustNames.{FitsSigned}
use Rattle.std.proofs.Math.Facts.{Fits-of_z, Fits-lt-pow}
use Rattle.std.proofs.lemmas.Int.{to_z-of_z, of_z-to_z}
use Rattle.std.proofs.lemmas.Nat.{be_bytes_8, from_be_bytes-to_be_bytes_8}
use Rattle.std.proofs.lemmas.List.{length-replicate}
use Rattle.std.proofs.lemmas.Bool.{cases_lt, le-leb, ltb-true, leb-true}
use Rattle.std.proofs.lemmas.Bool.Decides.{nat_tests}
use Rattle.std.proofs.lemmas.List.{get_or_past}
use Rattle.std.proofs.lemmas.List.Elements.{All-get_or, All-append, All-replicate}
use Rattle.vf_ber.specs.Contents.{is_redundant, shortened, integer_octets}
use Rattle.vf_ber.specs.ContentsLaws.{AllOctets}
use Rattle.vf_ber.specs.Primitive.{sign_octet, extended, is_integer, integer_at}

-- what a first octet that adds nothing is
redundant-sign : (a b : ℕ) (octets : List ℕ) → is_redundant (a ∷ b ∷ octets) ≡ true → a ≡ sign_octet (b ∷ octets)
redundant-sign a b octets e = grind (arith, nat_tests)

sign-redundant : (b : ℕ) (octets : List ℕ) → is_redundant (sign_octet (b ∷ octets) ∷ b ∷ octets) ≡ true
sign-redundant b octets = grind (arith, nat_tests)

-- it has the same sign as the octet after it
sign-same : (a b : ℕ) (octets : List ℕ) → is_redundant (a ∷ b ∷ octets) ≡ true → sign_octet (a ∷ b ∷ octets) ≡ sign_octet (b ∷ octets)
sign-same a b octets e = grind (arith, nat_tests)

test_of : (b : Bool) → (b ≡ true) ⊎ (b ≡ false)
test_of true = inl refl
test_of false = inr refl

shortened-true : (a : ℕ) (octets : List ℕ) → is_redundant (a ∷ octets) ≡ true → shortened (a ∷ octets) ≡ shortened octets
shortened-true a octets e = ap (λ b. cond b (shortened octets) (a ∷ octets)) e

shortened-false : (a : ℕ) (octets : List ℕ) → is_redundant (a ∷ octets) ≡ false → shortened (a ∷ octets) ≡ a ∷ octets
shortened-false a octets e = ap (λ b. cond b (shortened octets) (a ∷ octets)) e

-- What shortening leaves: nothing can be left out of it, it isn't empty, and the octets are it after octets of its sign.
pub record Shortest (octets short : List ℕ) : Type 0 where
  pub needed : is_redundant short ≡ false
  pub some : 0 < length short
  pub fewer : length short ≤ length octets
  pub sign : sign_octet short ≡ sign_octet octets
  pub padded : replicate (length octets - length short) (sign_octet short) ++ short ≡ octets

itself : (octets : List ℕ) → is_redundant octets ≡ false → 0 < length octets → Shortest octets octets
itself octets e some =
    let none : length octets - length octets ≡ 0 = omega arith in
    record { needed = e; some = some; fewer = omega arith; sign = refl; padded = ap (λ n. replicate n (sign_octet octets) ++ octets) none }

one_more : (a b : ℕ) (octets short : List ℕ) → is_redundant (a ∷ b ∷ octets) ≡ true → Shortest (b ∷ octets) short → Shortest (a ∷ b ∷ octets) short
one_more a b octets short e s =
    let count : length (a ∷ b ∷ octets) - length short ≡ suc (length (b ∷ octets) - length short) = omega (arith, s.fewer) in
    let first : sign_octet short ≡ a = s.sign ∙ sym (redundant-sign a b octets e) in
    record {
      needed = s.needed;
      some = s.some;
      fewer = omega (arith, s.fewer);
      sign = s.sign ∙ sym (sign-same a b octets e);
      padded = ap (λ n. replicate n (sign_octet short) ++ short) count ∙ ap (λ x. x ∷ (replicate (length (b ∷ octets) - length short) (sign_octet short) ++ short)) first ∙ ap (λ xs. a ∷ xs) s.padded;
    }

pub shortest : (octets : List ℕ) → 0 < length octets → Shortest octets (shortened octets)
shortest [] some = absurd (omega arith)
shortest (a ∷ []) some = itself (a ∷ []) refl some
shortest (a ∷ b ∷ octets) some =
    elim (test_of (is_redundant (a ∷ b ∷ octets))) [
      | inl e ↦ subst (Shortest (a ∷ b ∷ octets)) (sym (shortened-true a (b ∷ octets) e)) (one_more a b octets (shortened (b ∷ octets)) e (shortest (b ∷ octets) (omega arith)))
      | inr e ↦ subst (Shortest (a ∷ b ∷ octets)) (sym (shortened-false a (b ∷ octets) e)) (itself (a ∷ b ∷ octets) e some)
    ]

-- first octets of the sign are left out
pub shortened-padded : (n : ℕ) (octets : List ℕ) → 0 < length octets → is_redundant octets ≡ false → shortened (replicate n (sign_octet octets) ++ octets) ≡ octets
shortened-padded n [] some e = absurd (omega arith)
shortened-padded zero (a ∷ octets) some e = shortened-false a octets e
shortened-padded (suc zero) (a ∷ octets) some e =
    shortened-true (sign_octet (a ∷ octets)) (a ∷ octets) (sign-redundant a octets) ∙ shortened-false a octets e
shortened-padded (suc (suc n)) (a ∷ octets) some e =
    let sign = sign_octet (a ∷ octets) in
    let rest = replicate n sign ++ (a ∷ octets) in
    let twice : is_redundant (sign ∷ sign ∷ rest) ≡ true = grind (arith, nat_tests) in
    shortened-true sign (sign ∷ rest) twice ∙ shortened-padded (suc n) (a ∷ octets) some e

some_integer : (octets : List ℕ) (n : ℤ) → is_integer octets ≡ true → cast_signed w64 (from_be_bytes w64 (extended octets)) ≡ n → integer_at octets ≡ Some n
some_integer octets n e v = ap (λ b. cond b (Some (cast_signed w64 (from_be_bytes w64 (extended octets)))) None) e ∙ ap (λ z. Some z) v

-- the shortest form of eight octets is read as what they are
read_back : (octets short : List ℕ) (n : ℤ) → length octets ≡ 8 → Shortest octets short → cast_signed w64 (from_be_bytes w64 octets) ≡ n → integer_at short ≡ Some n
read_back octets short n eight s v =
    let is : is_integer short ≡ true = rw (lt-ltb 0 (length short) s.some, s.needed, le-leb (length short) 8 (omega (arith, s.fewer))) refl in
    let count : 8 - length short ≡ length octets - length short = omega arith in
    let whole : extended short ≡ octets = ap (λ k. replicate k (sign_octet short) ++ short) count ∙ s.padded in
    some_integer short n is (ap (λ o. cast_signed w64 (from_be_bytes w64 o)) whole ∙ v)

pub integer-read : (n : ℤ) → FitsSigned w64 n → integer_at (integer_octets n) ≡ Some n
integer-read n fits =
    let octets = to_be_bytes w64 (cast_unsigned w64 n) in
    let value : cast_signed w64 (from_be_bytes w64 octets) ≡ n = ap (cast_signed w64) (from_be_bytes-to_be_bytes_8 (cast_unsigned w64 n) (Fits-lt-pow (Fits-of_z fits))) ∙ to_z-of_z w64 n fits in
    read_back octets (shortened octets) n refl (shortest octets (omega arith)) value

guarded : {A : Type 0} (t : Bool) (x y : A) → cond t (Some x) None ≡ Some y → (t ≡ true) × (x ≡ y)
guarded true x y e = (refl, cc)
guarded false x y e = absurd cc

is_some : (octets : List ℕ) (n : ℤ) → integer_at octets ≡ Some n → (is_integer octets ≡ true) × (cast_signed w64 (from_be_bytes w64 (extended octets)) ≡ n)
is_some octets n e = guarded (is_integer octets) (cast_signed w64 (from_be_bytes w64 (extended octets))) n e

octet-at : (octets : List ℕ) → AllOctets octets → (i : ℕ) → get_or octets i 0 < 256
octet-at octets are i = elim (cases_lt i (length octets)) [ inl lt ↦ All-get_or (λ octet. octet < 256) octets i 0 lt are | inr le ↦ omega (arith, get_or_past octets i 0 le) ]

eight-lt : (octets : List ℕ) → ((i : ℕ) → get_or octets i 0 < 256) → from_be_bytes w64 octets < 2 ^ 64
eight-lt octets h = omega (arith, h 0, h 1, h 2, h 3, h 4, h 5, h 6, h 7)

sign_small : (octets : List ℕ) → sign_octet octets < 256
sign_small [] = omega arith
sign_small (octet ∷ octets) = grind (arith, nat_tests)

all_tests : (a b c : Bool) → (a && b && not c) ≡ true → (a ≡ true) × (b ≡ true) × (c ≡ false)
all_tests true true false e = (refl, refl, refl)
all_tests true true true e = absurd cc
all_tests true false c e = absurd cc
all_tests false b c e = absurd cc

-- octets that are the shortest form of what they are read as
spelled_by : (octets eight : List ℕ) (v : ℕ) (n : ℤ) → to_be_bytes w64 v ≡ eight → cast_unsigned w64 n ≡ v → shortened eight ≡ octets → octets ≡ integer_octets n
spelled_by octets eight v n bytes bits short =
    sym short ∙ ap shortened (sym bytes) ∙ ap (λ m. shortened (to_be_bytes w64 m)) (sym bits)

pub integer-spelled : (octets : List ℕ) (n : ℤ) → AllOctets octets → integer_at octets ≡ Some n → octets ≡ integer_octets n
integer-spelled octets n are e =
    let is = is_some octets n e in
    let tests = all_tests (nat_lt 0 (length octets)) (nat_le (length octets) 8) (is_redundant octets) is.0 in
    let some : 0 < length octets = ltb-true 0 (length octets) tests.0 in
    let few : length octets ≤ 8 = leb-true (length octets) 8 tests.1 in
    let eight = extended octets in
    let v = from_be_bytes w64 eight in
    let sign = replicate (8 - length octets) (sign_octet octets) in
    let all : AllOctets eight = All-append (λ octet. octet < 256) sign octets (All-replicate (λ octet. octet < 256) (8 - length octets) (sign_octet octets) (sign_small octets)) are in
    let count : length eight ≡ 8 = omega (arith, length-append sign octets, length-replicate (8 - length octets) (sign_octet octets)) in
    let at = octet-at eight all in
    let bytes : to_be_bytes w64 v ≡ eight = be_bytes_8 eight v count at refl in
    let bits : cast_unsigned w64 n ≡ v = ap (cast_unsigned w64) (sym is.1) ∙ of_z-to_z w64 v (eight-lt eight at) in
    spelled_by octets eight v n bytes bits (shortened-padded (8 - length octets) octets some tests.2)
