-- Recovery after a break and a stop, and what a store keeps meanwhile.
use Rattle.std.specs.Prelude.{◌≡◌, ℕ, pos, List, [], ◌∷◌, ◌++◌, drop, Bool, true, false, None, Some}
use Rattle.vf_base.specs.declared.access.FaduId.TheVariants.{Begin}
use Rattle.vf_base.specs.declared.action.Control.TheVariants.{NotRequired, Shared}
use Rattle.vf_elements.specs.declared.message.Message.{Message}
use Rattle.vf_elements.specs.declared.message.Message.TheVariants as messages
use Rattle.vf_elements.specs.declared.message.Said.{Said}
use Rattle.vf_elements.specs.declared.message.Said.TheVariants as answers
use Rattle.vf_pdu.specs.declared.pdu.Pdu.TheVariants.{InitializeResponse, RecoverResponse, DataEnd, TransferEndRequest, TransferEndResponse, CloseRequest, CloseResponse}
use Rattle.vf_pdu_fields.specs.declared.operation.WriteOperation.TheVariants.{Replace}
use Rattle.vf_tables.specs.declared.docket.Docket.{Docket}
use Rattle.vf_filestore.specs.Dockets.{broken, stopped}
use Rattle.vf_filestore.specs.History.{guest}
use Rattle.vf_filestore.specs.Runs.{Event, Stops, beginning, run}
use Rattle.vf_filestore.specs.Samples.{a, ann, binary_file, diagnostic, heard_on, in_write, initialize, initialize_as, left_by, modified, octet, on, open_for, open_kept, read_whole, recover, recoverable, replace, select, set, then_on, value}
use Rattle.vf_filestore.specs.State.{State}
use Rattle.vf_filestore.specs.Tables.{tables_of}

abbrev pub with_a : State
with_a = beginning [] (binary_file a 1 [] ∷ [])

-- a recoverable write with an acknowledged check, and a value more
abbrev pub writing : List Event
writing = on 1 (initialize 255 ∷ select a 4 ∷ recoverable 4 7 ∷ replace ∷ value 1 ∷ messages.Check ∷ value 2 ∷ [])

abbrev pub ending : List Message
ending = messages.Pdu (DataEnd None) ∷ messages.Pdu TransferEndRequest ∷ []

abbrev pub breaks : List Event
breaks = then_on 1 (messages.Break ∷ [])

-- what a second link hears after its association's answer
abbrev pub then_hears : List Event → List Message → List Said
then_hears before later = drop 1 (heard_on 2 (before ++ on 2 (initialize 255 ∷ later)) with_a)

abbrev pub answer : (number point : ℕ) → Bool → (last : ℕ) → Said
answer number point moving last = answers.Pdu (RecoverResponse None (Some number) point moving last)

abbrev pub refused : ℕ → Said
refused number = answers.Pdu (RecoverResponse (diagnostic number) None 0 false 0)

-- a recoverable read, whose file another party changes after a break
abbrev pub outdated : List Event
outdated =
    on 1 (initialize 255 ∷ select a 1 ∷ recoverable 1 7 ∷ read_whole ∷ messages.Break ∷ [])
    ++ on 3 (initialize 255 ∷ select a 4 ∷ open_for 4 ∷ replace ∷ value 5 ∷ ending)

-- what a store keeps of the write
abbrev pub kept_write : List Docket
kept_write =
    in_write Begin Replace 0 1 ((octet 1 ∷ []) ∷ [])
    (open_kept guest 7 a (set 4) (NotRequired ∷ NotRequired ∷ Shared ∷ NotRequired ∷ NotRequired ∷ NotRequired ∷ NotRequired ∷ NotRequired ∷ []) (set 4) None 0 1 0) ∷ []

abbrev pub written_state : State
written_state = (run writing with_a).state

pub record RowsOfRecovery : Type 0 where
  pub goes_on : then_hears (writing ++ breaks) (recover 7 1 1 ∷ value 3 ∷ ending) ≡
      answer 1 1 true 0 ∷ answers.Pdu (TransferEndResponse None) ∷ []
  pub is_performed_once : left_by (writing ++ breaks ++ on 2 (initialize 255 ∷ recover 7 1 1 ∷ value 3 ∷ ending)) with_a ≡
      modified (binary_file a 2 (octet 1 ∷ octet 3 ∷ [])) ∷ []
  pub smaller_point : then_hears (writing ++ breaks) (recover 7 1 0 ∷ []) ≡ answer 1 0 true 0 ∷ []
  pub greater_point : then_hears (writing ++ breaks) (recover 7 1 9 ∷ []) ≡ answer 1 1 true 0 ∷ []
  pub was_concluded : then_hears (writing ++ then_on 1 ending ++ breaks) (recover 7 1 1 ∷ messages.Pdu CloseRequest ∷ []) ≡
      answer 2 0 false 0 ∷ answers.Pdu (CloseResponse None) ∷ []
  pub unknown_activity : then_hears (writing ++ breaks) (recover 8 1 0 ∷ []) ≡ refused 27 ∷ []
  pub wrong_number : then_hears (writing ++ breaks) (recover 7 3 0 ∷ []) ≡ refused 29 ∷ []
  pub stands_after_refusal : then_hears (writing ++ breaks) (recover 7 3 0 ∷ recover 7 1 1 ∷ []) ≡ refused 29 ∷ answer 1 1 true 0 ∷ []
  pub of_another_identity : heard_on 2 (writing ++ breaks ++ on 2 (initialize_as ann 255 ∷ recover 7 1 1 ∷ [])) with_a ≡
      answers.Pdu (InitializeResponse None 255 1) ∷ refused 27 ∷ []
  pub file_changed : then_hears outdated (recover 7 1 0 ∷ []) ≡
      answers.Pdu (RecoverResponse (Some (record { number = 34; first = pos 1; second = pos 2 })) None 0 false 0) ∷ []
  pub superseded : drop 4 (heard_on 1 (writing ++ on 2 (initialize 255 ∷ recover 7 3 1 ∷ [])) with_a) ≡ answers.Abort 106 0 ∷ []
  pub refused_after_superseding : then_hears writing (recover 7 3 1 ∷ []) ≡ refused 29 ∷ []
  pub after_a_stop : then_hears (writing ++ Stops ∷ []) (recover 7 1 1 ∷ []) ≡ answer 1 1 true 0 ∷ []
  pub tables_stand : (tables_of written_state).dockets ≡ kept_write
  pub tables_after_break : (tables_of (broken 1 written_state)).dockets ≡ kept_write
  pub tables_after_stop : (tables_of (stopped written_state)).dockets ≡ kept_write
