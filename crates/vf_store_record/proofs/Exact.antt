-- Formats of which what is written is read again, and what is read was written so.
use Rattle.std.proofs.Common.{◌≡◌, ℕ, zero, suc, ◌<◌, List, [], ◌∷◌, ◌++◌, length, get_or, Option, Some, None, refl, sym, ap, subst, ◌∙◌, append_assoc}
use Rattle.std.specs.List.{flat_map, AllByRecursion}
use Rattle.std.specs.Prelude.{MatchOption}
use Rattle.std.proofs.lemmas.List.Concat.{flat_map-cons}
use Rattle.vf_store_record.specs.Formats.{Format, ◌>>=◌, octet, both, made, optional, optional_read, optional_spelled, repeated_read}

abbrev pub IsBytes : List ℕ → Type 0
IsBytes octets = (i : ℕ) → get_or octets i 0 < 256

-- these stand first, and octets follow
pub record Takes (octets spelled rest : List ℕ) : Type 0 where
  pub parts : octets ≡ spelled ++ rest
  pub others : IsBytes rest

pub record IsExact {A : Type 0} (IsIn : A → Type 0) (format : Format A) : Type 0 where
  pub again : (value : A) (rest : List ℕ) → IsIn value → format.read (format.spell value ++ rest) ≡ Some (value, rest)
  pub takes : (octets : List ℕ) (value : A) (rest : List ℕ) → IsBytes octets → format.read octets ≡ Some (value, rest) → Takes octets (format.spell value) rest × IsIn value

-- the value of a step that was made
pub bind_some : {A B : Type 0} (found : Option A) (next : A → Option B) (end : B) → (found >>= next) ≡ Some end → (value : A) × (found ≡ Some value) × (next value ≡ Some end)
bind_some (Some value) next end e = (value, refl, e)
bind_some None next end e = absurd cc

abbrev some_of : {A : Type 0} → A → Option A
some_of value = Some value

pub some_is : {A : Type 0} (one other : A) → some_of one ≡ some_of other → one ≡ other
some_is one other e = cc

pub takes_then : (a x b y c : List ℕ) → Takes a x b → Takes b y c → Takes a (x ++ y) c
takes_then a x b y c p q = record { parts = p.parts ∙ ap (λ (t : List ℕ). x ++ t) q.parts ∙ sym (append_assoc x y c); others = q.others }

-- one octet
octet_takes : (octets : List ℕ) (value : ℕ) (rest : List ℕ) → IsBytes octets → octet.read octets ≡ Some (value, rest) → Takes octets (octet.spell value) rest × (value < 256)
octet_takes [] value rest bytes e = absurd cc
octet_takes (head ∷ tail) value rest bytes e =
    subst (λ (y : ℕ × List ℕ). Takes (head ∷ tail) (y.0 ∷ []) y.1 × (y.0 < 256)) (some_is (head, tail) (value, rest) e)
    (record { parts = refl; others = λ i. bytes (suc i) }, bytes 0)

pub octet_exact : IsExact (λ value. value < 256) octet
octet_exact = record {
  again = λ value rest small. refl;
  takes = octet_takes;
}

-- one value after another
module _ {A B : Type 0} (IsA : A → Type 0) (IsB : B → Type 0) (one : Format A) (other : Format B) (first : IsExact IsA one) (second : IsExact IsB other) where
  both_again : (pair : A × B) (rest : List ℕ) → IsA pair.0 × IsB pair.1 → (both one other).read ((both one other).spell pair ++ rest) ≡ Some (pair, rest)
  both_again pair rest is =
      ap (λ (o : List ℕ). (both one other).read o) (append_assoc (one.spell pair.0) (other.spell pair.1) rest)
      ∙ rw (first.again pair.0 (other.spell pair.1 ++ rest) is.0, second.again pair.1 rest is.1) refl

  both_takes : (octets : List ℕ) (pair : A × B) (rest : List ℕ) → IsBytes octets → (both one other).read octets ≡ Some (pair, rest)
      → Takes octets ((both one other).spell pair) rest × (IsA pair.0 × IsB pair.1)
  both_takes octets pair rest bytes e =
      let a = bind_some (one.read octets) (λ (a : A × List ℕ). other.read a.1 >>= λ (b : B × List ℕ). Some ((a.0, b.0), b.1)) (pair, rest) e in
      let b = bind_some (other.read a.0.1) (λ (b : B × List ℕ). Some ((a.0.0, b.0), b.1)) (pair, rest) a.2 in
      let t0 = first.takes octets a.0.0 a.0.1 bytes a.1 in
      let t1 = second.takes a.0.1 b.0.0 b.0.1 t0.0.others b.1 in
      let found : (A × B) × List ℕ = ((a.0.0, b.0.0), b.0.1) in
      subst (λ (y : (A × B) × List ℕ). Takes octets (one.spell y.0.0 ++ other.spell y.0.1) y.1 × (IsA y.0.0 × IsB y.0.1)) (some_is found (pair, rest) b.2)
      (takes_then octets (one.spell a.0.0) a.0.1 (other.spell b.0.0) b.0.1 t0.0 t1.0, (t0.1, t1.1))

  pub both_exact : IsExact (λ (pair : A × B). IsA pair.0 × IsB pair.1) (both one other)
  both_exact = record { again = both_again; takes = both_takes }

-- values that are made of others
module _ {A B : Type 0} (IsA : A → Type 0) (IsB : B → Type 0) (make : A → Option B) (parts : B → A) (format : Format A) (inner : IsExact IsA format)
    (back : (value : B) → IsB value → IsA (parts value) × (make (parts value) ≡ Some value))
    (there : (from : A) (value : B) → IsA from → make from ≡ Some value → (parts value ≡ from) × IsB value) where
  made_again : (value : B) (rest : List ℕ) → IsB value → (made make parts format).read ((made make parts format).spell value ++ rest) ≡ Some (value, rest)
  made_again value rest is =
      let known = back value is in
      rw (inner.again (parts value) rest known.0, known.1) refl

  made_takes : (octets : List ℕ) (value : B) (rest : List ℕ) → IsBytes octets → (made make parts format).read octets ≡ Some (value, rest)
      → Takes octets ((made make parts format).spell value) rest × IsB value
  made_takes octets value rest bytes e =
      let a = bind_some (format.read octets) (λ (a : A × List ℕ). make a.0 >>= λ (v : B). Some (v, a.1)) (value, rest) e in
      let b = bind_some (make a.0.0) (λ (v : B). Some (v, a.0.1)) (value, rest) a.2 in
      let t = inner.takes octets a.0.0 a.0.1 bytes a.1 in
      let found : B × List ℕ = (b.0, a.0.1) in
      let known = there a.0.0 b.0 t.1 b.1 in
      subst (λ (y : B × List ℕ). Takes octets (format.spell (parts y.0)) y.1 × IsB y.0) (some_is found (value, rest) b.2)
      (rw known.0 t.0, known.1)

  pub made_exact : IsExact IsB (made make parts format)
  made_exact = record { again = made_again; takes = made_takes }

-- a value or none
module _ {A : Type 0} (IsA : A → Type 0) (format : Format A) (inner : IsExact IsA format) where
  abbrev pub IsOption : Option A → Type 0
  IsOption option = MatchOption option (Unit {0}) IsA

  optional_again : (option : Option A) (rest : List ℕ) → IsOption option → optional_read format (optional_spelled format option ++ rest) ≡ Some (option, rest)
  optional_again None rest is = refl
  optional_again (Some value) rest is = rw (inner.again value rest is) refl

  optional_takes : (octets : List ℕ) (option : Option A) (rest : List ℕ) → IsBytes octets → optional_read format octets ≡ Some (option, rest)
      → Takes octets (optional_spelled format option) rest × IsOption option
  optional_takes [] option rest bytes e = absurd cc
  optional_takes (zero ∷ tail) option rest bytes e =
      subst (λ (y : Option A × List ℕ). Takes (0 ∷ tail) (optional_spelled format y.0) y.1 × IsOption y.0) (some_is (None, tail) (option, rest) e)
      (record { parts = refl; others = λ i. bytes (suc i) }, tt)
  optional_takes (suc zero ∷ tail) option rest bytes e =
      let b = bind_some (format.read tail) (λ (found : A × List ℕ). Some (Some found.0, found.1)) (option, rest) e in
      let t = inner.takes tail b.0.0 b.0.1 (λ i. bytes (suc i)) b.1 in
      subst (λ (y : Option A × List ℕ). Takes (1 ∷ tail) (optional_spelled format y.0) y.1 × IsOption y.0) (some_is (Some b.0.0, b.0.1) (option, rest) b.2)
      (record { parts = ap (λ (w : List ℕ). 1 ∷ w) t.0.parts; others = t.0.others }, t.1)
  optional_takes (suc (suc _) ∷ tail) option rest bytes e = absurd cc

  pub optional_exact : IsExact IsOption (optional format)
  optional_exact = record { again = optional_again; takes = optional_takes }

-- so many values
module _ {A : Type 0} (IsA : A → Type 0) (format : Format A) (inner : IsExact IsA format) where
  pub repeated_again : (values : List A) (rest : List ℕ) → AllByRecursion IsA values → repeated_read format (length values) (flat_map format.spell values ++ rest) ≡ Some (values, rest)
  repeated_again [] rest is = refl
  repeated_again (value ∷ values) rest is =
      let regrouped : flat_map format.spell (value ∷ values) ++ rest ≡ format.spell value ++ (flat_map format.spell values ++ rest) =
      ap (λ (o : List ℕ). o ++ rest) (flat_map-cons format.spell value values) ∙ append_assoc (format.spell value) (flat_map format.spell values) rest in
      ap (λ (o : List ℕ). repeated_read format (suc (length values)) o) regrouped
      ∙ rw (inner.again value (flat_map format.spell values ++ rest) is.0, repeated_again values rest is.1) refl

  pub repeated_takes : (count : ℕ) (octets : List ℕ) (values : List A) (rest : List ℕ) → IsBytes octets → repeated_read format count octets ≡ Some (values, rest)
      → Takes octets (flat_map format.spell values) rest × (length values ≡ count) × AllByRecursion IsA values
  repeated_takes zero octets values rest bytes e =
      subst (λ (y : List A × List ℕ). Takes octets (flat_map format.spell y.0) y.1 × (length y.0 ≡ 0) × AllByRecursion IsA y.0) (some_is ([], octets) (values, rest) e)
      (record { parts = refl; others = bytes }, refl, tt)
  repeated_takes (suc count) octets values rest bytes e =
      let a = bind_some (format.read octets) (λ (one : A × List ℕ). repeated_read format count one.1 >>= λ (others : List A × List ℕ). Some (one.0 ∷ others.0, others.1)) (values, rest) e in
      let b = bind_some (repeated_read format count a.0.1) (λ (others : List A × List ℕ). Some (a.0.0 ∷ others.0, others.1)) (values, rest) a.2 in
      let first = inner.takes octets a.0.0 a.0.1 bytes a.1 in
      let second = repeated_takes count a.0.1 b.0.0 b.0.1 first.0.others b.1 in
      let together = takes_then octets (format.spell a.0.0) a.0.1 (flat_map format.spell b.0.0) b.0.1 first.0 second.0 in
      let found : List A × List ℕ = (a.0.0 ∷ b.0.0, b.0.1) in
      subst (λ (y : List A × List ℕ). Takes octets (flat_map format.spell y.0) y.1 × (length y.0 ≡ suc count) × AllByRecursion IsA y.0) (some_is found (values, rest) b.2)
      (rw flat_map-cons together, ap suc second.1, (first.1, second.2))
