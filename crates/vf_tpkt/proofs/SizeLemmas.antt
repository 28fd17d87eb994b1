-- A size that is answered has room for data.
use Rattle.std.proofs.Common.{◌≡◌, ℕ, ◌^◌, ◌≤◌, true, false, List, [], ◌∷◌, Option, None, Some, IsTrue, unwrap_or, min, refl, arith, drop}
use Rattle.std.proofs.Math.Pow.{pow_mono}
use Rattle.std.proofs.lemmas.Bool.Decides.{nat_tests}
use Rattle.std.specs.List.{list_any}
use Rattle.vf_tpkt.specs.declared.kind.Kind.TheVariants.{Cr}
use Rattle.vf_tpkt.specs.declared.phase.Phase.TheVariants.{Open}
use Rattle.vf_tpkt.specs.Parameters.{sizes, last, is_small}
use Rattle.vf_tpkt.specs.Steps.{has_room}
use Rattle.vf_tpkt.specs.Tpdu.{proposes_no_small, last_of, data_size, has_fixed}

pub last-large : (x : ℕ) (xs : List ℕ) → list_any is_small (x ∷ xs) ≡ false → 7 ≤ unwrap_or (last xs) x
last-large x [] h = grind (arith, nat_tests)
last-large x (y ∷ ys) h = last-large y ys (grind (arith, nat_tests))

pub room-at : (exponent : ℕ) → 7 ≤ exponent → IsTrue (has_room (Open (data_size (Some exponent))))
room-at exponent h =
    let low : 2 ^ 7 ≤ 2 ^ (min exponent 11) = pow_mono {i = 7} {j = min exponent 11} (omega arith) in
    let high : 2 ^ (min exponent 11) ≤ 2 ^ 11 = pow_mono {i = min exponent 11} {j = 11} (omega arith) in
    grind (arith, nat_tests)

pub room-of : (sizes : Option (List ℕ)) → proposes_no_small sizes ≡ true → IsTrue (has_room (Open (data_size (last_of sizes))))
room-of None h = refl
room-of (Some []) h = refl
room-of (Some (x ∷ xs)) h = room-at (unwrap_or (last xs) x) (last-large x xs (grind (arith, nat_tests)))

pub room : (tpdu octets : List ℕ) → octets ≡ drop 7 tpdu → IsTrue (has_fixed Cr tpdu) → IsTrue (has_room (Open (data_size (last_of (sizes octets)))))
room tpdu octets e h = rw e (room-of (sizes (drop 7 tpdu)) (grind (arith, nat_tests)))
