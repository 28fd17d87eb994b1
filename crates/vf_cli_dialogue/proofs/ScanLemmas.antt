-- Where a scan stands after octets that were read as no whole value.
use Rattle.std.proofs.Common.{◌≡◌, true, false, ◌++◌, ℕ, List, [], ◌∷◌, subst, sym, append-nil, append_assoc}
use Rattle.std.proofs.lemmas.List.{take-append-drop}
use Rattle.std.specs.Prelude.{Option, Some, None, OnSome, is_some, take, drop}
use Rattle.vf_ber.proofs.Plain.{reading_found}
use Rattle.vf_ber.proofs.Readings.{one_reading}
use Rattle.vf_ber.specs.Reader.{reading}
use Rattle.vf_ber.specs.Reading.{IsReading, IsSpelling, Short, bounded}
use Rattle.vf_ber_scan.specs.Scanned.{HasTaken, IsFed}
use Rattle.vf_ber_scan.specs.declared.scan.Scan.{Scan}

-- where octets are wanting after some, they are after the first ones
prefix_short : (octets more : List ℕ) → reading (octets ++ more) ≡ Short → reading octets ≡ Short
prefix_short octets [] e = subst (λ (l : List ℕ). reading l ≡ Short) (append-nil octets) e
prefix_short octets (next ∷ more) e =
    let whole : IsReading (octets ++ next ∷ more) Short =
    subst (λ v. IsReading (octets ++ next ∷ more) v) e (reading_found (octets ++ next ∷ more)) in
    let prefix : IsReading octets Short =
    (next, more ++ whole.0 ∷ whole.1, whole.2, subst (λ (l : List ℕ). IsSpelling bounded l whole.2) (append_assoc octets (next ∷ more) (whole.0 ∷ whole.1)) whole.3) in
    one_reading octets (reading octets) Short (reading_found octets) prefix

pub scanned : (rest : List ℕ) (result : Option ℕ) (scan : Scan) → reading rest ≡ Short → IsFed [] rest result scan → HasTaken scan rest
scanned rest None scan short fed = fed
scanned rest (Some n) scan short fed =
    absurd (fed.ended (prefix_short (take n rest) (drop n rest) (subst (λ (l : List ℕ). reading l ≡ Short) (sym (take-append-drop n rest)) short)))

pub still_wanting : (octets piece : List ℕ) (result : Option ℕ) (scan : Scan) → is_some result ≡ false → IsFed octets piece result scan → HasTaken scan (octets ++ piece)
still_wanting octets piece None scan some fed = fed
still_wanting octets piece (Some n) scan some fed = absurd cc

pub on_some : (result : Option ℕ) (holds : Type 0) → is_some result ≡ true → OnSome result holds → holds
on_some None holds some h = absurd cc
on_some (Some n) holds some h = h
