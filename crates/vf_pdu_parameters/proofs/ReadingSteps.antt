-- Reading the fields of a row one after another: a field that fails lets the row fail, and what is found of each is
-- found of the row.
use Rattle.std.proofs.Common.{◌≡◌, ℕ, List, [], ◌∷◌, refl, ap, ◌∙◌}
use Rattle.std.specs.Prelude.{Result, Ok, IsErrAnd}
use Rattle.std.proofs.lemmas.Result.{err_from_is_err_and}
use Rattle.vf_ber.specs.Tree.{Trees}
use Rattle.vf_pdu_fields.specs.Content.{Slot}
use Rattle.vf_pdu_fields.specs.Fault.{Fault}
use Rattle.vf_pdu_fields.specs.Reading.{part_here, parts_after, ◌>>=◌, field_at, next_place, absence, end_at, found, completed, reading}
use Rattle.vf_pdu_fields.specs.Results.{Fails, Gives}
use Rattle.vf_pdu_fields.specs.Rows.{Need, Form, Row, end, field}
use Rattle.vf_pdu_fields.specs.declared.errors.PduError.{PduError}
use Rattle.vf_pdu_fields.specs.declared.errors.PduError.TheVariants as errors

-- finding the fields of the row fails with this error
pub record Stops (error : PduError) (row : Row) (place : ℕ) (parts : Trees) : Type 0 where
  pub told : Fails error (found row place parts)

-- these are its slots
pub record Finds (row : Row) (place : ℕ) (parts : Trees) (all : List Slot) : Type 0 where
  pub is : found row place parts ≡ Ok all

-- a result that goes on fails where its start does
pub fails_in : {X Y : Type 0} (error : PduError) (m : Result X Fault) (f : X → Result Y Fault) → Fails error m → Fails error (m >>= f)
fails_in (errors.Unknown tag) m f h = ap (λ r. r >>= f) h
fails_in (errors.Field place) m f h = ap (λ r. r >>= f) h
fails_in (errors.Range number) m f h = ap (λ r. r >>= f) h
fails_in (errors.Missing number) m f h = ap (λ r. r >>= f) h
fails_in errors.NoMemory m f h = tt

pub stops_here : (error : PduError) (number : ℕ) (form : Form) (need : Need) (row : Row) (place : ℕ) (parts : Trees) → Fails error (field_at place number form (absence need) (part_here number parts))
    → Stops error (field number form need row) place parts
stops_here error number form need row place parts h = record { told = fails_in error _ _ h }

pub stops_later : (error : PduError) (number : ℕ) (form : Form) (need : Need) (row : Row) (place next : ℕ) (parts others : Trees) (slot : Slot)
    → field_at place number form (absence need) (part_here number parts) ≡ Ok slot → next ≡ next_place place (part_here number parts) → others ≡ parts_after number parts
    → Stops error row next others → Stops error (field number form need row) place parts
stops_later error number form need row place next parts others slot v p o h =
    let later : Fails error (found row (next_place place (part_here number parts)) (parts_after number parts)) = rw (p, o) at h.told in
    record { told = rw v (fails_in error _ _ later) }

pub stops_at_end : (error : PduError) (place : ℕ) (parts : Trees) → Fails error (end_at place parts) → Stops error end place parts
stops_at_end error place parts h = record { told = h }

pub found_next : (number : ℕ) (form : Form) (need : Need) (row : Row) (place next : ℕ) (parts others : Trees) (slot : Slot) (all : List Slot)
    → field_at place number form (absence need) (part_here number parts) ≡ Ok slot → next ≡ next_place place (part_here number parts) → others ≡ parts_after number parts
    → Finds row next others all → Finds (field number form need row) place parts (slot ∷ all)
found_next number form need row place next parts others slot all v p o h =
    let later : found row (next_place place (part_here number parts)) (parts_after number parts) ≡ Ok all = rw (p, o) at h.is in
    record { is = rw v (rw later refl) }

pub found_end : (place : ℕ) (parts : Trees) → ◌≡◌ {A = Result (List Slot) Fault} (end_at place parts) (Ok []) → Finds end place parts []
found_end place parts h = record { is = h }

-- nothing is read where finding the fields fails
pub gives_stops : {X : Type 0} (view : X → List Slot) (error : PduError) (row : Row) (parts : Trees) (r : Result X PduError) → IsErrAnd r (λ e. e ≡ error) → Stops error row 0 parts
    → Gives view r (reading row parts)
gives_stops view error row parts r e h =
    let is = err_from_is_err_and r e in
    rw (is.1, is.2) (fails_in error (found row 0 parts) (completed row) h.told)

-- what is found is completed
pub read_is : (row : Row) (parts : Trees) (all : List Slot) (whole : Result (List Slot) Fault) → Finds row 0 parts all → completed row all ≡ whole → reading row parts ≡ whole
read_is row parts all whole h done = ap (λ r. r >>= completed row) h.is ∙ done
