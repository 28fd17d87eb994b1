-- Reading the fields of a PDU: what finding them fails with is told of the PDU.
use Rattle.std.proofs.Common.{◌≡◌, ℕ}
use Rattle.std.specs.Prelude.{Result, IsErrAnd}
use Rattle.std.proofs.lemmas.Result.{err_from_is_err_and}
use Rattle.vf_ber.specs.Tree.{Trees}
use Rattle.vf_pdu_fields.specs.Reading.{found, completed}
use Rattle.vf_pdu_fields.specs.Rows.{Row}
use Rattle.vf_pdu_fields.specs.declared.errors.PduError.{PduError}
use Rattle.vf_pdu_parameters.proofs.ReadingSteps.{Stops, fails_in}
use Rattle.vf_pdu.specs.PduResults.{Reads}
use Rattle.vf_pdu.specs.declared.pdu.Pdu.{Pdu}

-- a PDU isn't read where finding its fields fails
pub read_stops : (error : PduError) (number : ℕ) (row : Row) (parts : Trees) (r : Result Pdu PduError) → IsErrAnd r (λ e. e ≡ error) → Stops error row 0 parts → Reads number row parts r
read_stops error number row parts r e h =
    let is = err_from_is_err_and r e in
    rw (is.1, is.2) (fails_in error (found row 0 parts) (completed row) h.told)
