-- What a stream of octets is received as, one message after another, whatever follows.
use Rattle.std.proofs.Common.{◌≡◌, ℕ, zero, suc, ◌<◌, ◌≤◌, List, [], ◌∷◌, ◌++◌, length, drop, refl, ap, sym, subst, ◌∙◌, arith, length-drop}
use Rattle.std.proofs.lemmas.List.{drop-append-le}
use Rattle.vf_ber.specs.Reader.{reading}
use Rattle.vf_ber.specs.Tree.{Tree}
use Rattle.vf_ber.specs.Reading.{Reading, Short, Bad, Deep, Long, Read}
use Rattle.vf_elements.specs.Messages.{message_in}
use Rattle.vf_cli_dialogue.specs.Dialogue.{received, received_first, received_within, heard}
use Rattle.vf_cli_dialogue.proofs.ReadingLemmas.{IsSettled, Takes, reading-append, reading-takes, reading_none}

received_none : (n : ℕ) → received_within n [] ≡ []
unfolding received_within
received_none zero = refl
received_none (suc n) = ap (received_first (received_within n) []) reading_none

-- any two bounds that are enough give the same
pub received_enough : (m n : ℕ) (octets : List ℕ) → length octets ≤ m → length octets ≤ n → received_within m octets ≡ received_within n octets
unfolding received_within
received_enough zero zero octets p q = refl
received_enough zero (suc n) [] p q = sym (received_none (suc n))
received_enough zero (suc n) (octet ∷ octets) p q = absurd (omega arith)
received_enough (suc m) zero [] p q = received_none (suc m)
received_enough (suc m) zero (octet ∷ octets) p q = absurd (omega arith)
received_enough (suc m) (suc n) octets p q =
    by (reading octets) (reading-takes octets) (λ k fits. received_enough m n (drop k octets) (omega (arith, length-drop k octets)) (omega (arith, length-drop k octets)))
  where
    by : (r : Reading) → Takes octets r → ((k : ℕ) → 1 < k → received_within m (drop k octets) ≡ received_within n (drop k octets))
        → received_first (received_within m) octets r ≡ received_first (received_within n) octets r
    by Short takes rest = refl
    by (Bad at) takes rest = refl
    by (Deep at) takes rest = refl
    by (Long at) takes rest = refl
    by (Read tree k) takes rest = ap (λ l. heard (message_in tree) ∷ l) (rest k takes.0)

-- what is received begins with what stands first
pub received_prefix : (octets : List ℕ) → received octets ≡ received_first received octets (reading octets)
unfolding received_within
received_prefix [] = sym (ap (received_first received []) reading_none)
received_prefix (octet ∷ octets) =
    by (reading (octet ∷ octets)) (reading-takes (octet ∷ octets))
  where
    by : (r : Reading) → Takes (octet ∷ octets) r → received_first (received_within (length octets)) (octet ∷ octets) r ≡ received_first received (octet ∷ octets) r
    by Short takes = refl
    by (Bad at) takes = refl
    by (Deep at) takes = refl
    by (Long at) takes = refl
    by (Read tree k) takes =
        let rest = drop k (octet ∷ octets) in
        let shorter : length rest ≤ length octets = omega (arith, length-drop k (octet ∷ octets)) in
        ap (λ l. heard (message_in tree) ∷ l) (received_enough (length octets) (length rest) rest shorter (omega arith))

-- a prefix that is settled is received as it is, and then what is after it
pub received-settled : (octets more : List ℕ) (r : Reading) → reading octets ≡ r → IsSettled r → received (octets ++ more) ≡ received_first received (octets ++ more) r
received-settled octets more r is settled =
    received_prefix (octets ++ more)
    ∙ ap (received_first received (octets ++ more)) (reading-append octets more (subst IsSettled (sym is) settled) ∙ is)

pub received-read : (octets more : List ℕ) (tree : Tree) (n : ℕ) → reading octets ≡ Read tree n
    → received (octets ++ more) ≡ heard (message_in tree) ∷ received (drop n octets ++ more)
received-read octets more tree n read =
    let takes = subst (Takes octets) read (reading-takes octets) in
    received-settled octets more (Read tree n) read tt
    ∙ ap (λ l. heard (message_in tree) ∷ received l) (drop-append-le n octets more takes.1)
