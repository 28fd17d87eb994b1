-- Formats: how values of a type are spelled in octets, and how they are read from the first octets of a list, of which
-- what follows is left.
use Rattle.std.specs.Prelude.{ℕ, zero, suc, List, [], ◌∷◌, ◌++◌, length, take, drop, nat_lt, Option, Some, None, if◌then◌else◌}
use Rattle.std.specs.Int.{Width, w32, byte_len, from_be_bytes, to_be_bytes}
use Rattle.std.specs.List.{flat_map}

pub record Format (A : Type 0) : Type 0 where
  pub spell : A → List ℕ
  pub read : List ℕ → Option (A × List ℕ)

infixl 10 ◌>>=◌
abbrev pub ◌>>=◌ : {A B : Type 0} → Option A → (A → Option B) → Option B
(Some x) >>= next = next x
None >>= next = None

-- a number in so many octets, the highest one first
abbrev pub number : Width → Format ℕ
number width = record {
  spell = to_be_bytes width;
  read = λ octets. if nat_lt (length octets) (byte_len width) then None else Some (from_be_bytes width (take (byte_len width) octets), drop (byte_len width) octets);
}

-- one octet
abbrev pub first : List ℕ → Option (ℕ × List ℕ)
first [] = None
first (head ∷ rest) = Some (head, rest)

abbrev pub octet : Format ℕ
octet = record { spell = λ value. value ∷ []; read = first }

-- so many octets
abbrev pub these : ℕ → List ℕ → Option (List ℕ × List ℕ)
these count octets = if nat_lt (length octets) count then None else Some (take count octets, drop count octets)

-- octets after their number
abbrev pub counted : Width → Format (List ℕ)
counted width = record {
  spell = λ octets. to_be_bytes width (length octets) ++ octets;
  read = λ octets. (number width).read octets >>= λ count. these count.0 count.1;
}

-- one value after another
abbrev pub both : {A B : Type 0} → Format A → Format B → Format (A × B)
both one other = record {
  spell = λ pair. one.spell pair.0 ++ other.spell pair.1;
  read = λ octets. one.read octets >>= λ a. other.read a.1 >>= λ b. Some ((a.0, b.0), b.1);
}

-- values that are made of others, and the others again
abbrev pub made : {A B : Type 0} → (A → Option B) → (B → A) → Format A → Format B
made make parts format = record {
  spell = λ value. format.spell (parts value);
  read = λ octets. format.read octets >>= λ a. make a.0 >>= λ value. Some (value, a.1);
}

abbrev pub shaped : {A B : Type 0} → (A → B) → (B → A) → Format A → Format B
shaped make parts format = made (λ a. Some (make a)) parts format

-- 0, or 1 and the value
abbrev pub optional_read : {A : Type 0} → Format A → List ℕ → Option (Option A × List ℕ)
optional_read format [] = None
optional_read format (zero ∷ rest) = Some (None, rest)
optional_read format (suc zero ∷ rest) = format.read rest >>= λ found. Some (Some found.0, found.1)
optional_read format (suc (suc _) ∷ rest) = None

abbrev pub optional_spelled : {A : Type 0} → Format A → Option A → List ℕ
optional_spelled format None = 0 ∷ []
optional_spelled format (Some value) = 1 ∷ format.spell value

abbrev pub optional : {A : Type 0} → Format A → Format (Option A)
optional format = record { spell = optional_spelled format; read = optional_read format }

-- so many values
abbrev pub repeated_read : {A : Type 0} → Format A → ℕ → List ℕ → Option (List A × List ℕ)
repeated_read format zero octets = Some ([], octets)
repeated_read format (suc count) octets = format.read octets >>= λ one. repeated_read format count one.1 >>= λ others. Some (one.0 ∷ others.0, others.1)

abbrev pub repeated : {A : Type 0} → ℕ → Format A → Format (List A)
repeated count format = record { spell = flat_map format.spell; read = repeated_read format count }

-- values after their number
abbrev pub listed : {A : Type 0} → Format A → Format (List A)
listed format = record {
  spell = λ items. to_be_bytes w32 (length items) ++ flat_map format.spell items;
  read = λ octets. (number w32).read octets >>= λ count. repeated_read format count.0 count.1;
}
