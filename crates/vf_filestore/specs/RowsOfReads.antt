-- Reads: what is due, a check after each eighth element that isn't the last, and the window.
use Rattle.std.specs.Prelude.{◌≡◌, ℕ, true, false, List, [], ◌∷◌, ◌++◌, replicate, drop, None}
use Rattle.vf_elements.specs.declared.message.Message.{Message}
use Rattle.vf_elements.specs.declared.message.Message.TheVariants as messages
use Rattle.vf_elements.specs.declared.message.Said.{Said}
use Rattle.vf_elements.specs.declared.message.Said.TheVariants as answers
use Rattle.vf_pdu.specs.declared.pdu.Pdu.TheVariants.{InitializeRequest, DataEnd, TransferEndRequest, TransferEndResponse, CancelRequest, RestartResponse}
use Rattle.vf_filestore.specs.Aborts.{Setting}
use Rattle.vf_filestore.specs.Runs.{Event, Takes, beginning}
use Rattle.vf_filestore.specs.Samples.{a, binary_file, diagnostic, heard_on, initialize, left_by, octet, on, open_for, read_whole, select, then_on, was_read}
use Rattle.vf_filestore.specs.State.{State}

-- a file of twenty strings
abbrev pub twenty : State
twenty = beginning [] (binary_file a 1 (replicate 20 (octet 7)) ∷ [])

-- what is said after the answers to initialize, select and open
abbrev pub answered_with : (units window mode : ℕ) → List Event → List Said
answered_with units window mode later = drop 3 (heard_on 1
    (on 1 (messages.Pdu (InitializeRequest units None None window) ∷ select a 5 ∷ open_for mode ∷ []) ++ later) twenty)

abbrev pub answered : List Message → List Said
answered later = answered_with 255 1 1 (then_on 1 later)

-- so many elements
abbrev pub elements : ℕ → List Said
elements number = replicate number (answers.Element (octet 7))

abbrev pub last : List Said
last = elements 4 ++ answers.Pdu (DataEnd None) ∷ []

abbrev pub without_token : (serial : ℕ) → Setting
without_token serial = record { moment = 0; serial = serial; token = false; sync = true }

abbrev pub spent : Setting
spent = record { moment = 0; serial = 1000000; token = true; sync = true }

abbrev pub cancel : Message
cancel = messages.Pdu (CancelRequest None)

pub record RowsOfReads : Type 0 where
  pub waits_at_window : answered (read_whole ∷ []) ≡ elements 8 ++ answers.Check 1 ∷ []
  pub goes_on : answered (read_whole ∷ messages.Acknowledge 1 ∷ messages.Acknowledge 2 ∷ []) ≡
      elements 8 ++ answers.Check 1 ∷ (elements 8 ++ answers.Check 2 ∷ last)
  pub wide_window : answered_with 255 2 1 (then_on 1 (read_whole ∷ [])) ≡ elements 8 ++ answers.Check 1 ∷ (elements 8 ++ answers.Check 2 ∷ [])
  pub without_checks : answered_with 15 1 1 (then_on 1 (read_whole ∷ messages.Pdu TransferEndRequest ∷ [])) ≡
      elements 20 ++ answers.Pdu (DataEnd None) ∷ answers.Pdu (TransferEndResponse None) ∷ []
  pub acknowledged_again : answered (read_whole ∷ messages.Acknowledge 0 ∷ []) ≡ elements 8 ++ answers.Check 1 ∷ []
  pub not_offered : answered (read_whole ∷ messages.Acknowledge 2 ∷ []) ≡ elements 8 ++ answers.Check 1 ∷ answers.Abort 102 0 ∷ []
  pub restart_at_begin : answered (read_whole ∷ messages.Restart 0 ∷ []) ≡
      elements 8 ++ answers.Check 1 ∷ answers.Pdu (RestartResponse 0) ∷ (elements 8 ++ answers.Check 1 ∷ [])
  pub restart_at_open_check : answered (read_whole ∷ messages.Restart 1 ∷ messages.Acknowledge 1 ∷ []) ≡
      elements 8 ++ answers.Check 1 ∷ answers.Pdu (RestartResponse 1) ∷ (elements 8 ++ answers.Check 2 ∷ [])
  pub without_token_aborts : answered_with 255 1 1 (Takes 1 (without_token 1) read_whole ∷ []) ≡ answers.Abort 102 0 ∷ []
  pub numbers_spent : answered_with 255 1 1 (Takes 1 spent read_whole ∷ []) ≡ elements 8 ++ answers.Abort 105 0 ∷ []
  pub cancel_with_spent_numbers : answered_with 255 1 1 (then_on 1 (read_whole ∷ []) ++ Takes 1 spent cancel ∷ []) ≡
      elements 8 ++ answers.Check 1 ∷ answers.Abort 105 0 ∷ []
  pub refused : answered_with 255 1 4 (then_on 1 (read_whole ∷ messages.Pdu TransferEndRequest ∷ [])) ≡
      answers.Pdu (DataEnd (diagnostic 13)) ∷ answers.Pdu (TransferEndResponse (diagnostic 13)) ∷ []
  pub cancel_sets_stamp : left_by (on 1 (initialize 255 ∷ select a 1 ∷ open_for 1 ∷ read_whole ∷ cancel ∷ [])) twenty ≡
      was_read (binary_file a 1 (replicate 20 (octet 7))) ∷ []
