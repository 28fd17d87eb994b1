-- Areas: what of the octets they depend on, and an area with one record more.
use Rattle.std.proofs.Common.{◌≡◌, ◌≢◌, ℕ, ◌+◌, ◌≤◌, List, [], ◌∷◌, ◌++◌, length, take, drop, refl, sym, ◌∙◌, ap, subst, arith, append_assoc, length-append, length-drop, take-append-drop}
use Rattle.std.proofs.lemmas.List.{append-nil, take-take, take_at, drop_at, drop-drop, drop-take}
use Rattle.vf_journal.specs.Layout.{length_octets}
use Rattle.vf_journal.specs.Records.{HoldsArea, entry_of, longest, octets_of, sized}
use Rattle.vf_journal.proofs.Numbers.{length-length_octets}

pub length-sized : (item : List ℕ) → length (sized item) ≡ length item + 4
length-sized item = omega (arith, length-append (length_octets (length item)) item, length-length_octets (length item))

-- the octets of a record from its gate up to the next one
abbrev pub gated : ℕ → List ℕ → List ℕ
gated gate item = gate ∷ sized item

pub length-gated : (gate : ℕ) (item : List ℕ) → length (gated gate item) ≡ length item + 5
length-gated gate item = omega (arith, length-sized item)

-- octets that agree with a list and what follows it, up to a place after the list
pub split_alike : (prefix rest other : List ℕ) (count : ℕ) → take (length prefix + count) other ≡ take (length prefix + count) (prefix ++ rest)
    → (other ≡ prefix ++ drop (length prefix) other) × (take count (drop (length prefix) other) ≡ take count rest)
split_alike prefix rest other count same =
    let le : length prefix ≤ length prefix + count = omega arith in
    let head : take (length prefix) other ≡ prefix =
    sym (take-take (length prefix) (length prefix + count) other le) ∙ ap (λ (l : List ℕ). take (length prefix) l) same
    ∙ take-take (length prefix) (length prefix + count) (prefix ++ rest) le ∙ take_at prefix rest (length prefix) refl in (
      sym (take-append-drop (length prefix) other) ∙ ap (λ (l : List ℕ). l ++ drop (length prefix) other) head,
      sym (drop-take (length prefix) count other) ∙ ap (λ (l : List ℕ). drop (length prefix) l) same
          ∙ drop-take (length prefix) count (prefix ++ rest) ∙ ap (λ (l : List ℕ). take count l) (drop_at prefix rest (length prefix) refl),
    )

-- Octets that begin as an area does, up to its closed gate, and go on there with another area, are an area of both.
pub area_joined : (records more : List (List ℕ)) (octets other : List ℕ) → HoldsArea octets records → take (octets_of records) other ≡ take (octets_of records) octets
    → HoldsArea (drop (octets_of records) other) more → HoldsArea other (records ++ more)
area_joined [] more octets other holds same after = after
area_joined (item ∷ records) more octets other (gate, rest, open_gate, short, is, holds) same after =
    let count : octets_of (item ∷ records) ≡ length (gated gate item) + octets_of records = omega (arith, length-gated gate item) in
    let alike : take (length (gated gate item) + octets_of records) other ≡ take (length (gated gate item) + octets_of records) (gated gate item ++ rest) =
    ap (λ (n : ℕ). take n other) (sym count) ∙ same ∙ ap (λ (n : ℕ). take n octets) count ∙ ap (λ (l : List ℕ). take (length (gated gate item) + octets_of records) l) is in
    let parts = split_alike (gated gate item) rest other (octets_of records) alike in
    let back : drop (octets_of (item ∷ records)) other ≡ drop (octets_of records) (drop (length (gated gate item)) other) =
    ap (λ (n : ℕ). drop n other) count ∙ sym (drop-drop (octets_of records) (length (gated gate item)) other) in (
      gate,
      drop (length (gated gate item)) other,
      open_gate,
      short,
      parts.0,
      area_joined records more rest (drop (length (gated gate item)) other) holds parts.1 (subst (λ (l : List ℕ). HoldsArea l more) back after),
    )

-- where the closed gate of an area stands
pub area_closed : (records : List (List ℕ)) (octets : List ℕ) → HoldsArea octets records → (rest : List ℕ) × (drop (octets_of records) octets ≡ 0 ∷ rest)
area_closed [] octets holds = holds
area_closed (item ∷ records) octets (gate, rest, open_gate, short, is, holds) =
    let closed = area_closed records rest holds in
    let count : octets_of (item ∷ records) ≡ length (gated gate item) + octets_of records = omega (arith, length-gated gate item) in (
      closed.0,
      ap (λ (n : ℕ). drop n octets) count ∙ sym (drop-drop (octets_of records) (length (gated gate item)) octets)
          ∙ ap (λ (l : List ℕ). drop (octets_of records) l) (ap (λ (l : List ℕ). drop (length (gated gate item)) l) is ∙ drop_at (gated gate item) rest (length (gated gate item)) refl)
          ∙ closed.1,
    )

pub area_length : (records : List (List ℕ)) (octets : List ℕ) → HoldsArea octets records → octets_of records + 1 ≤ length octets
area_length records octets holds = let closed = area_closed records octets holds in omega (arith, ap length closed.1, length-drop (octets_of records) octets)

starts_closed : (rest other : List ℕ) → take 1 other ≡ take 1 (0 ∷ rest) → (after : List ℕ) × (other ≡ 0 ∷ after)
starts_closed rest [] same = absurd (cc same)
starts_closed rest (x ∷ xs) same = let closed : x ≡ 0 = cc in (xs, ap (λ (gate : ℕ). gate ∷ xs) closed)

-- an area depends on its own octets alone, up to and with its closed gate
pub area_kept : (records : List (List ℕ)) (octets other : List ℕ) → HoldsArea octets records
    → take (octets_of records + 1) other ≡ take (octets_of records + 1) octets → HoldsArea other records
area_kept records octets other holds same =
    let n = octets_of records in
    let closed = area_closed records octets holds in
    let le : n ≤ n + 1 = omega arith in
    let prefix : take n other ≡ take n octets = sym (take-take n (n + 1) other le) ∙ ap (λ (l : List ℕ). take n l) same ∙ take-take n (n + 1) octets le in
    let gate : take 1 (drop n other) ≡ take 1 (0 ∷ closed.0) =
    sym (drop-take n 1 other) ∙ ap (λ (l : List ℕ). drop n l) same ∙ drop-take n 1 octets ∙ ap (λ (l : List ℕ). take 1 l) closed.1 in
    subst (λ (rs : List (List ℕ)). HoldsArea other rs) (append-nil records) (area_joined records [] octets other holds prefix (starts_closed closed.0 (drop n other) gate))

-- an area of one record
pub area_alone : (gate : ℕ) (item rest : List ℕ) → gate ≢ 0 → length item ≤ longest → HoldsArea (gate ∷ (entry_of item ++ rest)) (item ∷ [])
area_alone gate item rest open_gate short =
    (gate, 0 ∷ rest, open_gate, short, ap (λ (l : List ℕ). gate ∷ l) (append_assoc (sized item) (0 ∷ []) rest), (rest, refl))
