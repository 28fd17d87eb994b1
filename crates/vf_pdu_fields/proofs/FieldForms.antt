-- The form of a field of a table is one of tables.
use Rattle.std.proofs.Common.{◌≡◌, ℕ, ◌+◌, Bool, true, false, cond, subst}
use Rattle.std.specs.Prelude.{Option, Some, nat_eq}
use Rattle.vf_pdu_fields.specs.Faults.{form_of}
use Rattle.vf_pdu_fields.specs.Rows.{Form, Row, end, field}
use Rattle.vf_pdu_fields.proofs.Complete.{tests}
use Rattle.vf_pdu_fields.proofs.Plain.{some_is}
use Rattle.vf_pdu_fields.proofs.Tables.{is_form, is_table}

form_by : (form other : Form) (o : Option Form) (b : Bool) → cond b (Some other) o ≡ Some form → is_form other ≡ true → (o ≡ Some form → is_form form ≡ true) → is_form form ≡ true
form_by form other o true e first later = let P : Form → Type 0 = λ x. is_form x ≡ true in subst P (some_is other form e) first
form_by form other o false e first later = later e

pub form_in : (row : Row) (least tag : ℕ) (form : Form) → is_table least row ≡ true → form_of row tag ≡ Some form → is_form form ≡ true
form_in end least tag form t e = absurd cc
form_in (field number other need row) least tag form t e =
    let q = tests least number other need row t in
    form_by form other (form_of row tag) (nat_eq number tag) e q.inside (form_in row (number + 1) tag form q.rest)
