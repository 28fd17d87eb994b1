-- Numbers in octets: what the first octets say of the number.
use Rattle.std.proofs.Common.{◌≡◌, ◌≢◌, ℕ, zero, suc, ◌+◌, ◌-◌, ◌*◌, ◌/◌, ◌%◌, ◌<◌, ◌≤◌, ◌^◌, List, [], ◌∷◌, length, refl, ap, sym, ◌∙◌, arith, add-one, inl, inr, ◌⊎◌}
use Rattle.vf_ber.specs.Spellings.{AreOctets, number_in}
use Rattle.vf_ber.specs.Steps.{grown, shifted}

pub grown_step : (others n : ℕ) → 0 < others → grown others n ≡ grown (others - 1) (256 * n)
grown_step zero n some = absurd (omega arith)
grown_step (suc others) n some = let e : others ≡ suc others - 1 = omega arith in ap (λ k. grown k (256 * n)) e

pub grown_le : (others n : ℕ) → n ≤ grown others n
grown_le zero n = omega arith
grown_le (suc others) n = omega (arith, grown_le others (256 * n))

pub grown_more : (others m n : ℕ) → m ≤ n → grown others m ≤ grown others n
grown_more zero m n le = le
grown_more (suc others) m n le = grown_more others (256 * m) (256 * n) (omega arith)

pub grown_less : (others n : ℕ) → grown others n < grown others (n + 1)
grown_less zero n = omega arith
grown_less (suc others) n = omega (arith, grown_less others (256 * n), grown_more others (256 * n + 1) (256 * (n + 1)) (omega arith))

pub shifted_step : (others n : ℕ) → shifted (others + 1) n ≡ shifted others n / 256
shifted_step others n = ap (λ k. shifted k n) (add-one others)

pub shifted_grown : (others n : ℕ) → shifted others (grown others n) ≡ n
shifted_grown zero n = refl
shifted_grown (suc others) n = omega (arith, shifted_grown others (256 * n))

-- the least number that begins with these octets
pub grown_least : (others n : ℕ) → grown others (shifted others n) ≤ n
grown_least zero n = omega arith
grown_least (suc others) n = omega (arith, grown_least others n, grown_more others (256 * (shifted others n / 256)) (shifted others n) (omega arith))

pub grown_zero : (others : ℕ) → grown others 0 ≡ 0
grown_zero zero = refl
grown_zero (suc others) = grown_zero others

pub grown_whole : (others n : ℕ) → 0 < others → grown others n ≢ 1
grown_whole zero n some e = omega arith
grown_whole (suc zero) n some e = omega arith
grown_whole (suc (suc others)) n some e =
    elim (zero_or n) [
      | inl z ↦ let none : grown (suc (suc others)) 0 ≡ 1 = ap (grown (suc (suc others))) (sym z) ∙ e in omega (arith, grown_zero (suc (suc others)))
      | inr more ↦ omega (arith, grown_le others (256 * (256 * n)))
    ]
  where
    zero_or : (n : ℕ) → (n ≡ 0) ⊎ (0 < n)
    zero_or zero = inl refl
    zero_or (suc n) = inr (omega arith)

-- the last octets of a number
unfoldable pub digits : ℕ → ℕ → List ℕ
digits zero n = []
digits (suc others) n = shifted others n % 256 ∷ digits others n

pub length-digits : (others n : ℕ) → length (digits others n) ≡ others
unfolding digits
length-digits zero n = refl
length-digits (suc others) n = omega (arith, length-digits others n)

pub octets-digits : (others n : ℕ) → AreOctets (digits others n)
unfolding digits
octets-digits zero n = tt
octets-digits (suc others) n = (omega arith, octets-digits others n)

pub number-digits : (others n : ℕ) → number_in (shifted others n) (digits others n) ≡ n
unfolding digits
number-digits zero n = refl
number-digits (suc others) n =
    let e : 256 * (shifted others n / 256) + shifted others n % 256 ≡ shifted others n = omega arith in
    ap (λ high. number_in high (digits others n)) e ∙ number-digits others n

pub shifted_number : (octets : List ℕ) (high : ℕ) → AreOctets octets → shifted (length octets) (number_in high octets) ≡ high
shifted_number [] high each = refl
shifted_number (octet ∷ octets) high each =
    let small : octet < 256 = each.0 in
    omega (arith, shifted_number octets (256 * high + octet) each.1)

grown_longer : (few many n : ℕ) → few ≤ many → grown few n ≤ grown many n
grown_longer zero many n le = grown_le many n
grown_longer (suc few) zero n le = absurd (omega arith)
grown_longer (suc few) (suc many) n le = grown_longer few many (256 * n) (omega arith)

-- eight octets have no more than 64 bits
pub grown_few : (others : ℕ) → others ≤ 8 → grown others 1 ≤ 2 ^ 64
grown_few others few = let most : grown 8 1 ≡ 2 ^ 64 = refl in omega (arith, grown_longer others 8 1 few, most)
