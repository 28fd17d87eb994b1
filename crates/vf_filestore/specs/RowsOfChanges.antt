-- Which changes messages make, by their kinds in a record (profile). Made in what was kept before, they leave what is kept
-- after.
use Rattle.std.specs.Prelude.{◌≡◌, ℕ, true, List, [], ◌∷◌, ◌++◌, map, None, Some}
use Rattle.vf_elements.specs.declared.message.Message.TheVariants as messages
use Rattle.vf_pdu.specs.declared.pdu.Pdu.TheVariants.{DeleteRequest, ChangeAttribRequest, CloseRequest, DataEnd, RestartRequest, TransferEndRequest}
use Rattle.vf_tables.specs.Changes.{after_all}
use Rattle.vf_tables.specs.Fitting.{all_fit}
use Rattle.vf_tables.specs.declared.change.Change.{Change}
use Rattle.vf_tables.specs.declared.change.Change.TheVariants.{PutUser, PutFile, PutAttributes, DropFile, PutDocket, Stage, CutStage, DropDocket, PutTask, StageTask, CutTask, DropTask}
use Rattle.vf_tables.specs.declared.tables.Tables.{Tables}
use Rattle.vf_filestore.specs.Changes.{delta}
use Rattle.vf_filestore.specs.Runs.{Event, Stops, beginning, run}
use Rattle.vf_filestore.specs.Samples.{a, b, binary_file, create, ftam_3, initialize, on, recoverable, replace, select, takes, then_on, value}
use Rattle.vf_filestore.specs.State.{State}
use Rattle.vf_filestore.specs.Tables.{tables_of}

abbrev pub kind : Change → ℕ
kind (PutUser user) = 1
kind (PutFile file) = 2
kind (PutAttributes old name attributes) = 3
kind (DropFile name) = 4
kind (PutDocket regime) = 5
kind (Stage identity activity first last elements) = 6
kind (CutStage identity activity point) = 7
kind (DropDocket identity activity) = 8
kind (PutTask plan) = 9
kind (StageTask activity point elements) = 10
kind (CutTask activity point) = 11
kind (DropTask activity) = 12

abbrev pub with_a : State
with_a = beginning [] (binary_file a 1 [] ∷ [])

abbrev pub kept_by : List Event → Tables
kept_by events = tables_of (run events with_a).state

-- the changes of an event after others
abbrev pub changes_of : List Event → Event → List Change
changes_of before event = delta (kept_by before) (kept_by (before ++ event ∷ []))

-- an event makes changes of these kinds, which fit what was kept before, and lead on
pub record Makes (before : List Event) (event : Event) (kinds : List ℕ) : Type 0 where
  pub kinds_are : map kind (changes_of before event) ≡ kinds
  pub fits : all_fit (kept_by before) (changes_of before event) ≡ true
  pub leads : after_all (kept_by before) (changes_of before event) ≡ kept_by (before ++ event ∷ [])

abbrev pub selects : List Event
selects = on 1 (initialize 255 ∷ select a 192 ∷ [])

abbrev pub opens : List Event
opens = on 1 (initialize 255 ∷ select a 5 ∷ recoverable 5 7 ∷ [])

abbrev pub writes : List Event
writes = on 1 (initialize 255 ∷ select a 5 ∷ recoverable 5 7 ∷ replace ∷ value 1 ∷ [])

abbrev pub checked : List Event
checked = writes ++ then_on 1 (messages.Check ∷ [])

pub record RowsOfChanges : Type 0 where
  pub a_create : Makes (on 1 (initialize 15 ∷ [])) (takes 1 (messages.Pdu (create b ftam_3 5))) (2 ∷ [])
  pub a_selection : Makes (on 1 (initialize 15 ∷ [])) (takes 1 (select a 5)) []
  pub a_rename : Makes selects (takes 1 (messages.Pdu (ChangeAttribRequest (Some b) None None 0))) (3 ∷ [])
  pub a_delete : Makes selects (takes 1 (messages.Pdu DeleteRequest)) (4 ∷ [])
  pub an_open : Makes (on 1 (initialize 255 ∷ select a 5 ∷ [])) (takes 1 (recoverable 5 7)) (5 ∷ [])
  pub a_write : Makes opens (takes 1 replace) (5 ∷ [])
  pub a_value : Makes (opens ++ then_on 1 (replace ∷ [])) (takes 1 (value 1)) []
  pub a_check : Makes writes (takes 1 messages.Check) (5 ∷ 6 ∷ [])
  pub a_restart : Makes checked (takes 1 (messages.Pdu (RestartRequest 0))) (5 ∷ 7 ∷ [])
  pub a_stop : Makes checked Stops []
  pub an_end : Makes (checked ++ then_on 1 (messages.Pdu (DataEnd None) ∷ [])) (takes 1 (messages.Pdu TransferEndRequest)) (2 ∷ 5 ∷ 7 ∷ [])
  pub a_close : Makes opens (takes 1 (messages.Pdu CloseRequest)) (8 ∷ [])
