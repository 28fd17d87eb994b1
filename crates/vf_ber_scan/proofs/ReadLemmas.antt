-- The progress where one reading follows another.
use Rattle.std.proofs.Common.{◌≡◌, ℕ, Bool, true, false, cond, List, length, refl}
use Rattle.std.specs.Prelude.{Ok, Err}
use Rattle.vf_ber.specs.declared.fault.Fault.TheVariants as faults
use Rattle.vf_ber.specs.Reader.{Reads, then_read, checked, as_reading}
use Rattle.vf_ber.specs.Tree.{Tree}
use Rattle.vf_ber.specs.Reading.{Limits, bounded, free, shallow}
use Rattle.vf_ber_scan.specs.Continuation.{then_progress}
use Rattle.vf_ber_scan.specs.Progress.{Progress, Whole, Faulty, progress_of}

-- how many octets are left after what is read
abbrev pub Leaves : {X : Type 0} → (ℕ → Type 0) → Reads X → Type 0
Leaves P (Ok x) = P (length x.1)
Leaves P (Err fault) = Unit {0}

pub progress_same : {X : Type 0} (P : ℕ → Type 0) (r : Reads X) (f g : X → List ℕ → Progress) → Leaves P r
    → ((x : X) (rest : List ℕ) → P (length rest) → f x rest ≡ g x rest) → then_progress r f ≡ then_progress r g
progress_same P (Ok x) f g leaves same = same x.0 x.1 leaves
progress_same P (Err faults.Short) f g leaves same = refl
progress_same P (Err (faults.Bad left)) f g leaves same = refl
progress_same P (Err (faults.Deep left)) f g leaves same = refl
progress_same P (Err (faults.Long left)) f g leaves same = refl
progress_same P (Err faults.NoMemory) f g leaves same = refl

pub progress_then : {X Y : Type 0} (r : Reads X) (next : X → List ℕ → Reads Y) (f : Y → List ℕ → Progress)
    → then_progress (then_read r next) f ≡ then_progress r (λ x rest. then_progress (next x rest) f)
progress_then (Ok x) next f = refl
progress_then (Err faults.Short) next f = refl
progress_then (Err (faults.Bad left)) next f = refl
progress_then (Err (faults.Deep left)) next f = refl
progress_then (Err (faults.Long left)) next f = refl
progress_then (Err faults.NoMemory) next f = refl

pub progress_checked : {X : Type 0} (test : Limits → Bool) (octets : List ℕ) (next : Reads X) (f : X → List ℕ → Progress)
    → then_progress (checked test octets next) f ≡ cond (test bounded) (then_progress next f) Faulty
progress_checked {X} test octets next f = by (test bounded) (test free) (test shallow)
  where
    by : (b c d : Bool) → then_progress (cond b next (Err (cond c (cond d (faults.Long (length octets)) (faults.Deep (length octets))) (faults.Bad (length octets))))) f ≡ cond b (then_progress next f) Faulty
    by true c d = refl
    by false true true = refl
    by false true false = refl
    by false false d = refl

pub progress_reading : (octets : List ℕ) (r : Reads Tree) → progress_of (as_reading octets r) ≡ then_progress r (λ tree rest. Whole)
progress_reading octets (Ok x) = refl
progress_reading octets (Err faults.Short) = refl
progress_reading octets (Err (faults.Bad left)) = refl
progress_reading octets (Err (faults.Deep left)) = refl
progress_reading octets (Err (faults.Long left)) = refl
progress_reading octets (Err faults.NoMemory) = refl

pub read_same : {X Y : Type 0} (P : ℕ → Type 0) (r : Reads X) (f g : X → List ℕ → Reads Y) → Leaves P r
    → ((x : X) (rest : List ℕ) → P (length rest) → f x rest ≡ g x rest) → then_read r f ≡ then_read r g
read_same P (Ok x) f g leaves same = same x.0 x.1 leaves
read_same P (Err fault) f g leaves same = refl

pub read_leaves : {X Y : Type 0} (P Q : ℕ → Type 0) (r : Reads X) (next : X → List ℕ → Reads Y) → Leaves P r
    → ((x : X) (rest : List ℕ) → P (length rest) → Leaves Q (next x rest)) → Leaves Q (then_read r next)
read_leaves P Q (Ok x) next leaves then = then x.0 x.1 leaves
read_leaves P Q (Err fault) next leaves then = tt

pub leaves_cond : {X : Type 0} (P : ℕ → Type 0) (b : Bool) (r s : Reads X) → Leaves P r → Leaves P s → Leaves P (cond b r s)
leaves_cond P true r s p q = p
leaves_cond P false r s p q = q

pub leaves_checked : {X : Type 0} (P : ℕ → Type 0) (test : Limits → Bool) (octets : List ℕ) (next : Reads X) → Leaves P next → Leaves P (checked test octets next)
leaves_checked P test octets next leaves = leaves_cond P (test bounded) next _ leaves tt
