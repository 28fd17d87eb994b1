-- An area's numbers, with records more.
use Rattle.std.proofs.Common.{◌≡◌, ◌==◌, ℕ, ◌+◌, ◌≤◌, Bool, true, false, List, [], ◌∷◌, ◌++◌, length, sym, ◌∙◌, ap, arith, if◌then◌else◌}
use Rattle.std.proofs.lemmas.Bool.Decides.{nat_tests}
use Rattle.vf_journal.specs.declared.area.Area.{Area}
use Rattle.vf_journal.specs.Records.{octets_of}
use Rattle.vf_disk.specs.Disk.{greatest_length}
use Rattle.vf_journal.specs.JournalState.{IsPlaced, area_of, with_record}

pub octets_push : (records : List (List ℕ)) (item : List ℕ) → octets_of (records ++ item ∷ []) ≡ octets_of records + length item + 5
octets_push [] item = omega arith
octets_push (first ∷ records) item = omega (arith, octets_push records item)

made : ℕ → ℕ → ℕ → ℕ → Area
made start end first later = record { start = start; end = end; first = first; later = later }

same_area : (start e f l e' f' l' : ℕ) → e ≡ e' → f ≡ f' → l ≡ l' → made start e f l ≡ made start e' f' l'
same_area start e f l e' f' l' p q r = ap (λ (x : ℕ). made start x f l) p ∙ ap (λ (x : ℕ). made start e' x l) q ∙ ap (λ (x : ℕ). made start e' f' x) r

-- an area with one record more
pub counts_push : (start : ℕ) (records : List (List ℕ)) (item : List ℕ) → with_record (area_of start records) (length item) ≡ area_of start (records ++ item ∷ [])
unfolding made
counts_push start [] item =
    let n = length item in
    let empty : (start + 1 + 0 == start + 1) ≡ true = grind (arith, nat_tests) in
    same_area start (start + 1 + 0 + n + 5) (if start + 1 + 0 == start + 1 then n else 0) (if start + 1 + 0 == start + 1 then 0 else 0 + n + 5) (start + 1 + (n + 5 + 0)) n 0
    (omega arith) (ap (λ (b : Bool). if b then n else 0) empty) (ap (λ (b : Bool). if b then 0 else 0 + n + 5) empty)
counts_push start (first ∷ records) item =
    let n = length item in
    let before = length first + 5 + octets_of records in
    let some : (start + 1 + before == start + 1) ≡ false = grind (arith, nat_tests) in
    same_area start (start + 1 + before + n + 5) (if start + 1 + before == start + 1 then n else length first) (if start + 1 + before == start + 1 then octets_of records else octets_of records + n + 5)
    (start + 1 + (length first + 5 + octets_of (records ++ item ∷ []))) (length first) (octets_of (records ++ item ∷ []))
    (omega (arith, octets_push records item)) (ap (λ (b : Bool). if b then n else length first) some)
    (ap (λ (b : Bool). if b then octets_of records else octets_of records + n + 5) some ∙ sym (octets_push records item))

-- what holds of an area stays with a record more that ends within the greatest length
pub placed_more : (area : Area) (count : ℕ) → IsPlaced area → area.end + count + 5 ≤ greatest_length → IsPlaced (with_record area count)
placed_more area count placed bound = record {
  start = placed.start;
  order = omega (arith, placed.order);
  end = bound;
  later = later_within (area.end == area.start + 1) area.later area.end count placed.later;
}
  where
    later_within : (empty : Bool) (later end count : ℕ) → later ≤ end → (if empty then later else later + count + 5) ≤ end + count + 5
    later_within true later end count le = omega arith
    later_within false later end count le = omega arith
