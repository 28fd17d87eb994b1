-- What stands once a transfer went on after a restart, and the last check that is acknowledged.
use Rattle.std.proofs.Common.{◌≡◌, ℕ, ◌+◌, ◌-◌, ◌≤◌, List, [], ◌∷◌, ◌++◌, length, take, refl, sym, ap, ◌∙◌, arith, length-append}
use Rattle.std.proofs.lemmas.List.{append_assoc, append-nil, length-take-le}
use Rattle.std.proofs.Math.Seq.{take-append-add}
use Rattle.vf_base.specs.declared.element.Element.{Element}
use Rattle.vf_transfer.specs.Laws.{PointStands, Recovers}
use Rattle.vf_transfer.specs.Transfer.{Entry, Value, Check, Acknowledgement, Restart, IsKnown, NamesKnownChecks, joined, standing}
use Rattle.vf_transfer.proofs.Cuts.{joined_append}

-- so many checks stand before one that stands
cut_length : (start check : ℕ) (entries : List Entry) → IsKnown start entries check → length (take (check - start) (standing start entries).closed) ≡ check - start
cut_length start check entries known = length-take-le (check - start) (standing start entries).closed (omega (arith, known.0, known.1))

pub point_stands : PointStands
point_stands start [] known = (omega arith, omega arith)
point_stands start (Value element ∷ earlier) known = point_stands start earlier known
point_stands start (Check ∷ earlier) known =
    let stands = point_stands start earlier known in
    let left = standing start earlier in
    (stands.0, omega (arith, stands.1, length-append left.closed (left.after ∷ [])))
point_stands start (Acknowledgement check ∷ earlier) known =
    let stands = point_stands start earlier known.1 in
    (omega (arith, stands.0, known.0.0), omega (arith, stands.1, known.0.1))
point_stands start (Restart check ∷ earlier) known =
    let stands = point_stands start earlier known.1 in
    (omega (arith, stands.0, known.0.0), omega (arith, cut_length start check earlier known.0, known.0.0))

abbrev kept : ℕ → ℕ → List Entry → List (List Element)
kept start check earlier = take (check - start) (standing start earlier).closed

-- what stands after the restart and the later entries, in terms of what stands of these alone
record GoesOn (start check : ℕ) (earlier later : List Entry) : Type 0 where
  closed : (standing start (later ++ (Restart check ∷ earlier))).closed ≡ kept start check earlier ++ (standing check later).closed
  after : (standing start (later ++ (Restart check ∷ earlier))).after ≡ (standing check later).after

cut_again : (start check other : ℕ) (all first later : List (List Element)) → length first ≡ check - start → start ≤ check → check ≤ other
    → all ≡ first ++ later → take (other - start) all ≡ first ++ take (other - check) later
cut_again start check other all first later long from to is =
    let count : other - start ≡ length first + (other - check) = omega arith in
    ap (λ n. take n all) count ∙ ap (λ values. take (length first + (other - check)) values) is ∙ take-append-add first later (other - check)

goes_on : (start check : ℕ) (earlier later : List Entry) → IsKnown start earlier check → NamesKnownChecks check later → GoesOn start check earlier later
goes_on start check earlier [] known names = record { closed = sym (append-nil (kept start check earlier)); after = refl }
goes_on start check earlier (Value element ∷ later) known names =
    let rest = goes_on start check earlier later known names in
    record { closed = rest.closed; after = ap (λ values. values ++ element ∷ []) rest.after }
goes_on start check earlier (Check ∷ later) known names =
    let rest = goes_on start check earlier later known names in
    let left = standing check later in
    record {
      closed = (λ i. rest.closed i ++ rest.after i ∷ []) ∙ append_assoc (kept start check earlier) left.closed (left.after ∷ []);
      after = refl;
    }
goes_on start check earlier (Acknowledgement other ∷ later) known names =
    let rest = goes_on start check earlier later known names.1 in
    record { closed = rest.closed; after = rest.after }
goes_on start check earlier (Restart other ∷ later) known names =
    let rest = goes_on start check earlier later known names.1 in
    record {
      closed = cut_again start check other _ (kept start check earlier) (standing check later).closed (cut_length start check earlier known) known.0 names.0.0 rest.closed;
      after = refl;
    }

pub recovers : Recovers
recovers start check earlier later known names =
    let rest = goes_on start check earlier later known names in
    let first = kept start check earlier in
    let left = standing check later in
    let counted : start + length (first ++ left.closed) ≡ check + length left.closed
    = omega (arith, length-append first left.closed, cut_length start check earlier known, known.0) in (
      (λ i. joined (rest.closed i) ++ rest.after i)
          ∙ ap (λ values. values ++ left.after) (joined_append first left.closed)
          ∙ append_assoc (joined first) (joined left.closed) left.after,
      ap (λ closed. start + length closed) rest.closed ∙ counted,
    )
