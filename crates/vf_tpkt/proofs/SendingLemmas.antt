-- What is sent of a TSDU doesn't depend on the number of turns.
use Rattle.std.proofs.Common.{◌≡◌, ℕ, zero, suc, ◌≤◌, ◌<◌, Bool, true, false, cond, nat_le, List, [], ◌∷◌, ◌++◌, length, take, drop, ◌+◌, refl, ap, sym, ◌∙◌, arith, drop_at, drop-drop, length-append, length-drop, take-add, take_at, append_assoc}
use Rattle.std.proofs.lemmas.List.{drop-append-le, take-append-le}
use Rattle.std.proofs.lemmas.Bool.Decides.{nat_tests}
use Rattle.vf_tpkt.specs.Sending.{sent, sent_in, last_dt, other_dt}
use Rattle.vf_tpkt.specs.Tpdu.{packet}

chosen : (b : Bool) (x y z : List ℕ) → (b ≡ false → y ≡ z) → cond b x y ≡ cond b x z
chosen true x y z h = refl
chosen false x y z h = h refl

pub sent_in-enough : (n m most : ℕ) (tsdu : List ℕ) → 1 ≤ most → length tsdu ≤ n → length tsdu ≤ m → sent_in n most tsdu ≡ sent_in m most tsdu
unfolding sent_in
sent_in-enough zero zero most tsdu s a b = refl
sent_in-enough zero (suc m) most tsdu s a b = let short : nat_le (length tsdu) most ≡ true = grind (arith, nat_tests) in rw short refl
sent_in-enough (suc n) zero most tsdu s a b = let short : nat_le (length tsdu) most ≡ true = grind (arith, nat_tests) in rw short refl
sent_in-enough (suc n) (suc m) most tsdu s a b =
    chosen (nat_le (length tsdu) most) (packet (last_dt tsdu)) (packet (other_dt (take most tsdu)) ++ sent_in n most (drop most tsdu)) (packet (other_dt (take most tsdu)) ++ sent_in m most (drop most tsdu))
    (λ e. ap (λ (rest : List ℕ). packet (other_dt (take most tsdu)) ++ rest) (let long : most < length tsdu = grind (arith, nat_tests) in
    sent_in-enough n m most (drop most tsdu) s (omega (arith, length-drop most tsdu)) (omega (arith, length-drop most tsdu))))

pub sent-last : (most : ℕ) (tsdu : List ℕ) → length tsdu ≤ most → sent most tsdu ≡ packet (last_dt tsdu)
unfolding sent_in
sent-last most [] h = refl
sent-last most (x ∷ tsdu) h = let short : nat_le (length (x ∷ tsdu)) most ≡ true = grind (arith, nat_tests) in rw short refl

pub sent-more : (most : ℕ) (tsdu : List ℕ) → 1 ≤ most → most < length tsdu → sent most tsdu ≡ packet (other_dt (take most tsdu)) ++ sent most (drop most tsdu)
unfolding sent_in
sent-more most [] s h = absurd (omega arith)
sent-more most (x ∷ tsdu) s h =
    let long : nat_le (length (x ∷ tsdu)) most ≡ false = grind (arith, nat_tests) in
    rw long (ap (λ (rest : List ℕ). packet (other_dt (take most (x ∷ tsdu))) ++ rest)
    (sent_in-enough (length tsdu) (length (drop most (x ∷ tsdu))) most (drop most (x ∷ tsdu)) s (omega (arith, length-drop most (x ∷ tsdu))) (omega arith)))

pub goes-on : (most : ℕ) (all out out' rest : List ℕ) → 1 ≤ most → most < length rest → all ≡ out ++ sent most rest → out' ≡ out ++ packet (other_dt (take most rest)) → all ≡ out' ++ sent most (drop most rest)
goes-on most all out out' rest s long e f =
    e ∙ ap (λ (sent : List ℕ). out ++ sent) (sent-more most rest s long) ∙ sym (append_assoc out (packet (other_dt (take most rest))) (sent most (drop most rest))) ∙ ap (λ (first_packet : List ℕ). first_packet ++ sent most (drop most rest)) (sym f)

pub ends : (most : ℕ) (all out rest : List ℕ) → length rest ≤ most → all ≡ out ++ sent most rest → out ++ packet (last_dt rest) ≡ all
ends most all out rest short e = sym (e ∙ ap (λ (sent : List ℕ). out ++ sent) (sent-last most rest short))

-- ---- a TSDU in two parts

pub joined-goes-on : (most : ℕ) (all out out' rest tail : List ℕ) → 1 ≤ most → most < length rest → all ≡ out ++ sent most (rest ++ tail)
    → out' ≡ out ++ packet (other_dt (take most rest)) → all ≡ out' ++ sent most (drop most rest ++ tail)
joined-goes-on most all out out' rest tail s long e f =
    let front : take most (rest ++ tail) ≡ take most rest = take-append-le most rest tail (omega (arith, long)) in
    let back : drop most (rest ++ tail) ≡ drop most rest ++ tail = drop-append-le most rest tail (omega (arith, long)) in
    goes-on most all out out' (rest ++ tail) s (omega (arith, long, length-append rest tail)) e (f ∙ ap (λ (o : List ℕ). out ++ packet (other_dt o)) (sym front))
    ∙ ap (λ (o : List ℕ). out' ++ sent most o) back

joined-front : (most room : ℕ) (head tail : List ℕ) → length head + room ≡ most → take most (head ++ tail) ≡ head ++ take room tail
joined-front most room head tail e =
    ap (λ (n : ℕ). take n (head ++ tail)) (sym e) ∙ take-add (length head) room (head ++ tail) ∙ ap (λ (o : List ℕ). o ++ take room (drop (length head) (head ++ tail))) (take_at head tail (length head) refl)
    ∙ ap (λ (o : List ℕ). head ++ take room o) (drop_at head tail (length head) refl)

joined-back : (most room : ℕ) (head tail : List ℕ) → length head + room ≡ most → drop most (head ++ tail) ≡ drop room tail
joined-back most room head tail e =
    ap (λ (n : ℕ). drop n (head ++ tail)) (sym e) ∙ sym (drop-drop room (length head) (head ++ tail)) ∙ ap (drop room) (drop_at head tail (length head) refl)

pub joined-ends : (most : ℕ) (out head tail : List ℕ) → length head + length tail ≤ most → out ++ packet (last_dt (head ++ tail)) ≡ out ++ sent most (head ++ tail)
joined-ends most out head tail short = ends most (out ++ sent most (head ++ tail)) out (head ++ tail) (omega (arith, short, length-append head tail)) refl

pub joined-more : (most room : ℕ) (out out' head tail first others : List ℕ) → 1 ≤ most → length head + room ≡ most → room < length tail → first ≡ take room tail → others ≡ drop room tail
    → out' ≡ out ++ packet (other_dt (head ++ first)) → out' ++ sent most others ≡ out ++ sent most (head ++ tail)
joined-more most room out out' head tail first others s e long is left put =
    let front : head ++ first ≡ take most (head ++ tail) = ap (λ (o : List ℕ). head ++ o) is ∙ sym (joined-front most room head tail e) in
    let back : drop most (head ++ tail) ≡ others = joined-back most room head tail e ∙ sym left in
    sym (goes-on most (out ++ sent most (head ++ tail)) out out' (head ++ tail) s (omega (arith, e, long, length-append head tail)) refl (put ∙ ap (λ (o : List ℕ). out ++ packet (other_dt o)) front)
    ∙ ap (λ (o : List ℕ). out' ++ sent most o) back)
