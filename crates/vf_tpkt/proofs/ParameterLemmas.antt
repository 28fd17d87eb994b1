-- Reading parameters doesn't depend on the number of turns.
use Rattle.std.proofs.Common.{◌≡◌, ℕ, zero, suc, ◌-◌, ◌≤◌, List, [], ◌∷◌, ◌<◌, length, take, drop, get_or, refl, ap, arith, length-drop, Option, Some, None, sym, subst, ◌≢◌, ◌||◌, nat_lt, unwrap_or}
use Rattle.std.specs.Option.{option_map}
use Rattle.vf_tpkt.specs.declared.parameters.Proposed.{Proposed}
use Rattle.std.proofs.lemmas.Bool.Decides.{nat_tests}
use Rattle.std.proofs.lemmas.List.{take_all}
use Rattle.vf_tpkt.specs.Parameters.{sizes_in, sizes, both, proposed, with_first, summary}

pub sizes_in-enough : (n m : ℕ) (octets : List ℕ) → length octets ≤ n → length octets ≤ m → sizes_in n octets ≡ sizes_in m octets
unfolding sizes_in
sizes_in-enough zero zero octets p q = refl
sizes_in-enough zero (suc m) [] p q = refl
sizes_in-enough zero (suc m) (x ∷ octets) p q = absurd (omega arith)
sizes_in-enough (suc n) zero [] p q = refl
sizes_in-enough (suc n) zero (x ∷ octets) p q = absurd (omega arith)
sizes_in-enough (suc n) (suc m) [] p q = refl
sizes_in-enough (suc n) (suc m) (code ∷ []) p q = refl
sizes_in-enough (suc n) (suc m) (code ∷ size ∷ more) p q =
    ap (λ (rest : _). both (proposed code size more) rest)
    (sizes_in-enough n m (drop size more) (omega (arith, length-drop size more)) (omega (arith, length-drop size more)))

pub sizes_none : (octets : List ℕ) → length octets < 1 → sizes octets ≡ Some []
unfolding sizes_in
sizes_none [] h = refl
sizes_none (x ∷ octets) h = absurd (omega arith)

pub sizes_one : (octets : List ℕ) → 1 ≤ length octets → length octets < 2 → sizes octets ≡ None
unfolding sizes_in
sizes_one [] p q = absurd (omega arith)
sizes_one (code ∷ []) p q = refl
sizes_one (code ∷ size ∷ more) p q = absurd (omega arith)

-- the parameters after the first, as a slice pattern gives them
pub sizes_two : (octets : List ℕ) → 2 ≤ length octets → (let more = take (length octets - 2) (drop 2 octets) in
    sizes octets ≡ both (proposed (get_or octets 0 0) (get_or octets 1 0) more) (sizes (drop (get_or octets 1 0) more)))
unfolding sizes_in
sizes_two [] h = absurd (omega arith)
sizes_two (code ∷ []) h = absurd (omega arith)
sizes_two (code ∷ size ∷ more) h =
    let whole : take (length (code ∷ size ∷ more) - 2) more ≡ more = take_all (length (code ∷ size ∷ more) - 2) more (omega arith) in
    let P : List ℕ → Type 0 = λ rest. sizes (code ∷ size ∷ more) ≡ both (proposed code size rest) (sizes (drop size rest)) in
    subst P (sym whole)
    (ap (λ (rest : _). both (proposed code size more) rest)
    (sizes_in-enough (suc (length more)) (length (drop size more)) (drop size more) (omega (arith, length-drop size more)) (omega arith)))

-- what is after the code and the length of the first parameter
abbrev pub after : List ℕ → List ℕ
after octets = take (length octets - 2) (drop 2 octets)

pub proposed-long : (code size : ℕ) (more : List ℕ) (others : Option (List ℕ)) → length more < size → both (proposed code size more) others ≡ None
proposed-long code size more others h = grind (arith, nat_tests)

pub proposed-wrong : (code size : ℕ) (more : List ℕ) (others : Option (List ℕ)) → code ≡ 192 → size ≢ 1 → both (proposed code size more) others ≡ None
proposed-wrong code size more others p q = grind (arith, nat_tests)

pub proposed-skipped : (code size : ℕ) (more : List ℕ) (others : Option (List ℕ)) → size ≤ length more → code ≢ 192 → both (proposed code size more) others ≡ with_first [] others
proposed-skipped code size more others p q = grind (arith, nat_tests)

pub proposed-size : (code size : ℕ) (more : List ℕ) (others : Option (List ℕ)) → size ≤ length more → code ≡ 192 → size ≡ 1 → both (proposed code size more) others ≡ with_first (take 1 more) others
proposed-size code size more others p q r = grind (arith, nat_tests)

pub summary-none : (first others : Option (List ℕ)) → option_map summary others ≡ None → option_map summary (both first others) ≡ None
summary-none None others h = refl
summary-none (Some first) None h = refl
summary-none (Some first) (Some sizes) h = cc

pub summary-skipped : (others : Option (List ℕ)) → option_map summary (with_first [] others) ≡ option_map summary others
summary-skipped None = refl
summary-skipped (Some sizes) = refl

pub summary-size : (more : List ℕ) (others : Option (List ℕ)) (p : Proposed) → 0 < length more → option_map summary others ≡ Some p →
    option_map summary (with_first (take 1 more) others) ≡ Some (record { last = Some (unwrap_or p.last (get_or more 0 0)); small = nat_lt (get_or more 0 0) 7 || p.small })
summary-size [] others p q e = absurd (omega arith)
summary-size (x ∷ more) None p q e = cc
summary-size (x ∷ more) (Some sizes) p q e = let h : summary sizes ≡ p = cc in ap (λ (p : Proposed). Some (record { last = Some (unwrap_or p.last x); small = nat_lt x 7 || p.small })) h

pub first-octet : (size : ℕ) (more value : List ℕ) → size ≡ 1 → value ≡ take size more → get_or more 0 0 ≡ get_or value 0 0
first-octet size [] value p e = rw (e, p) refl
first-octet size (x ∷ more) value p e = rw (e, p) refl
