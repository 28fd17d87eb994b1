-- What each number of a PDU stands for: the row of its fields, and the PDU that such fields make.
use Rattle.std.specs.Prelude.{ℕ, List, [], ◌∷◌, Option}
use Rattle.std.specs.Option.{option_map}
use Rattle.vf_base.specs.declared.diagnostic.Diagnostic.{Diagnostic}
use Rattle.vf_pdu_fields.specs.Contained.{number_in, octets_in, slot_in, there}
use Rattle.vf_pdu_fields.specs.Content.{Slot}
use Rattle.vf_pdu_fields.specs.Rows.{optional, Row, end, row, a}
use Rattle.vf_pdu_parameters.specs.ContainedParameters.{diagnostic_in}
use Rattle.vf_pdu_parameters.specs.Parameters.{diagnostic}
use Rattle.vf_pdu.specs.declared.pdu.Pdu.{Pdu}

pub record Entry : Type 0 where
  pub its_row : Row
  pub made : List Slot → Pdu

abbrev pub entry : Row → (List Slot → Pdu) → Entry
entry row made = record { its_row = row; made = made }

-- a PDU without fields
abbrev pub bare : Row
bare = end

-- the response that has a diagnostic alone
abbrev pub answer : Row
answer = row (a 0 diagnostic optional ∷ [])

abbrev pub number_at : ℕ → List Slot → ℕ
number_at place all = number_in (there (slot_in place all))

abbrev pub octets_at : ℕ → List Slot → Option (List ℕ)
octets_at place all = option_map octets_in (slot_in place all)

abbrev pub answered : List Slot → Option Diagnostic
answered all = option_map diagnostic_in (slot_in 0 all)
