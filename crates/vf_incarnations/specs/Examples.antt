-- Examples of incarnations, from a filestore without users and files on.
use Rattle.std.specs.Prelude.{◌≡◌, ℕ, true, false, List, [], ◌∷◌, ◌++◌, length, map, None, Some}
use Rattle.vf_base.specs.declared.element.Element.TheVariants.{Binary}
use Rattle.vf_base.specs.declared.events.ScriptEvent.{ScriptEvent}
use Rattle.vf_base.specs.declared.events.ScriptEvent.TheVariants.{Arrived, Octets}
use Rattle.vf_attr.specs.declared.file.File.{File}
use Rattle.vf_disk.specs.declared.crash_form.CrashForm.{CrashForm}
use Rattle.vf_disk.specs.declared.crash_form.CrashForm.TheVariants.{Keep, Lose, Fill}
use Rattle.vf_filestore.specs.Runs.{beginning}
use Rattle.vf_filestore.specs.Samples.{a, binary_file, modified}
use Rattle.vf_filestore.specs.State.{State}
use Rattle.vf_filestore.specs.Tables.{tables_of}
use Rattle.vf_journal.specs.JournalState.{JournalState}
use Rattle.vf_store.specs.Commit.{written_steps}
use Rattle.vf_tables.specs.declared.docket.Docket.{Docket}
use Rattle.vf_responder.specs.Answers.{at_end, spoken_in}
use Rattle.vf_responder.specs.Examples.{answer, association, request, says}
use Rattle.vf_responder.specs.Run.{run, trail}
use Rattle.vf_responder.specs.Serving.{unheard}
use Rattle.vf_responder.specs.declared.event.Reply.{Reply}
use Rattle.vf_incarnations.specs.Calls.{Plan, Progress, Goes, Stops, making}
use Rattle.vf_incarnations.specs.Incarnations.{Incarnation, Episode, Incarnates, Drops, after_all, left_by, sent_by}

abbrev pub nothing : State
nothing = beginning [] []

-- link 1 arrives, and these pieces come on it
abbrev pub heard : List (List ℕ) → List ScriptEvent
heard pieces = Arrived 1 ∷ map (Octets 1 0) pieces

abbrev pub through : List (List ℕ) → Incarnation
through pieces = record { events = heard pieces; stop = None }

-- it stops within one piece more, after so many of the answers: one to each octet, and that to the message
abbrev pub stopped_within : List (List ℕ) → List ℕ → (answers : ℕ) → Incarnation
stopped_within pieces last answers = record { events = heard pieces; stop = Some (record { event = Octets 1 0 last; answers = answers }) }

-- TWO MESSAGES: an association, and a file that is created
abbrev pub creation : List ℕ
creation =
    3 ∷ 0 ∷ 0 ∷ 34 ∷ 2 ∷ 240 ∷ 128 ∷ 1 ∷ 0 ∷ 1 ∷ 0 ∷ 97 ∷ 21 ∷ 48 ∷ 19 ∷ 2 ∷ 1 ∷ 3 ∷ 160 ∷ 14 ∷ 170 ∷ 12 ∷ 129 ∷ 1 ∷
    97 ∷ 162 ∷ 7 ∷ 128 ∷ 5 ∷ 40 ∷ 194 ∷ 123 ∷ 5 ∷ 3 ∷ []

-- the response to the association request
abbrev pub accepted : List ℕ
accepted =
    3 ∷ 0 ∷ 0 ∷ 98 ∷ 2 ∷ 240 ∷ 128 ∷ 14 ∷ 89 ∷ 5 ∷ 6 ∷ 19 ∷ 1 ∷ 0 ∷ 22 ∷ 1 ∷ 2 ∷ 20 ∷ 2 ∷ 0 ∷ 2 ∷ 193 ∷ 75 ∷ 49 ∷
    73 ∷ 160 ∷ 3 ∷ 128 ∷ 1 ∷ 1 ∷ 162 ∷ 66 ∷ 165 ∷ 18 ∷ 48 ∷ 7 ∷ 128 ∷ 1 ∷ 0 ∷ 129 ∷ 2 ∷ 81 ∷ 1 ∷ 48 ∷ 7 ∷ 128 ∷ 1 ∷
    0 ∷ 129 ∷ 2 ∷ 81 ∷ 1 ∷ 97 ∷ 44 ∷ 48 ∷ 42 ∷ 2 ∷ 1 ∷ 1 ∷ 160 ∷ 37 ∷ 97 ∷ 35 ∷ 161 ∷ 7 ∷ 6 ∷ 5 ∷ 40 ∷ 194 ∷ 123 ∷
    1 ∷ 1 ∷ 162 ∷ 3 ∷ 2 ∷ 1 ∷ 0 ∷ 163 ∷ 5 ∷ 161 ∷ 3 ∷ 2 ∷ 1 ∷ 0 ∷ 190 ∷ 12 ∷ 40 ∷ 10 ∷ 2 ∷ 1 ∷ 3 ∷ 160 ∷ 5 ∷ 161 ∷
    3 ∷ 129 ∷ 1 ∷ 15 ∷ []

abbrev pub creating : (answers : ℕ) → Incarnation
creating answers = stopped_within (request ∷ association ∷ []) creation answers

-- A RECOVERABLE WRITE. An association with sync, for read, write, access, restart and recovery
abbrev pub sync_association : List ℕ
sync_association =
    3 ∷ 0 ∷ 0 ∷ 131 ∷ 2 ∷ 240 ∷ 128 ∷ 13 ∷ 122 ∷ 5 ∷ 12 ∷ 19 ∷ 1 ∷ 0 ∷ 22 ∷ 1 ∷ 2 ∷ 23 ∷ 1 ∷ 49 ∷ 26 ∷ 1 ∷ 0 ∷ 20 ∷
    2 ∷ 0 ∷ 42 ∷ 193 ∷ 102 ∷ 49 ∷ 100 ∷ 160 ∷ 3 ∷ 128 ∷ 1 ∷ 1 ∷ 162 ∷ 93 ∷ 164 ∷ 53 ∷ 48 ∷ 15 ∷ 2 ∷ 1 ∷ 1 ∷ 6 ∷ 4 ∷
    82 ∷ 1 ∷ 0 ∷ 1 ∷ 48 ∷ 4 ∷ 6 ∷ 2 ∷ 81 ∷ 1 ∷ 48 ∷ 16 ∷ 2 ∷ 1 ∷ 3 ∷ 6 ∷ 5 ∷ 40 ∷ 194 ∷ 123 ∷ 2 ∷ 1 ∷ 48 ∷ 4 ∷ 6 ∷
    2 ∷ 81 ∷ 1 ∷ 48 ∷ 16 ∷ 2 ∷ 1 ∷ 9 ∷ 6 ∷ 5 ∷ 40 ∷ 194 ∷ 123 ∷ 2 ∷ 4 ∷ 48 ∷ 4 ∷ 6 ∷ 2 ∷ 81 ∷ 1 ∷ 97 ∷ 36 ∷ 48 ∷ 34 ∷
    2 ∷ 1 ∷ 1 ∷ 160 ∷ 29 ∷ 96 ∷ 27 ∷ 161 ∷ 7 ∷ 6 ∷ 5 ∷ 40 ∷ 194 ∷ 123 ∷ 1 ∷ 1 ∷ 190 ∷ 16 ∷ 40 ∷ 14 ∷ 2 ∷ 1 ∷ 3 ∷
    160 ∷ 9 ∷ 160 ∷ 7 ∷ 128 ∷ 2 ∷ 0 ∷ 207 ∷ 131 ∷ 1 ∷ 4 ∷ []

-- the file for which it is created and opened, with activity 7; a write, a value, a check, one value more and its ends
abbrev pub creation_to_write : List ℕ
creation_to_write =
    3 ∷ 0 ∷ 0 ∷ 37 ∷ 2 ∷ 240 ∷ 128 ∷ 1 ∷ 0 ∷ 1 ∷ 0 ∷ 97 ∷ 24 ∷ 48 ∷ 22 ∷ 2 ∷ 1 ∷ 3 ∷ 160 ∷ 17 ∷ 170 ∷ 15 ∷ 129 ∷ 1 ∷
    97 ∷ 162 ∷ 7 ∷ 128 ∷ 5 ∷ 40 ∷ 194 ∷ 123 ∷ 5 ∷ 3 ∷ 133 ∷ 1 ∷ 5 ∷ []

abbrev pub opening : List ℕ
opening =
    3 ∷ 0 ∷ 0 ∷ 28 ∷ 2 ∷ 240 ∷ 128 ∷ 1 ∷ 0 ∷ 1 ∷ 0 ∷ 97 ∷ 15 ∷ 48 ∷ 13 ∷ 2 ∷ 1 ∷ 3 ∷ 160 ∷ 8 ∷ 178 ∷ 6 ∷ 128 ∷ 1 ∷
    5 ∷ 131 ∷ 1 ∷ 7 ∷ []

abbrev pub writing : List ℕ
writing =
    3 ∷ 0 ∷ 0 ∷ 26 ∷ 2 ∷ 240 ∷ 128 ∷ 1 ∷ 0 ∷ 1 ∷ 0 ∷ 97 ∷ 13 ∷ 48 ∷ 11 ∷ 2 ∷ 1 ∷ 3 ∷ 160 ∷ 6 ∷ 191 ∷ 33 ∷ 3 ∷ 128 ∷
    1 ∷ 2 ∷ []

abbrev pub first_value : List ℕ
first_value =
    3 ∷ 0 ∷ 0 ∷ 24 ∷ 2 ∷ 240 ∷ 128 ∷ 1 ∷ 0 ∷ 1 ∷ 0 ∷ 97 ∷ 11 ∷ 48 ∷ 9 ∷ 2 ∷ 1 ∷ 9 ∷ 160 ∷ 4 ∷ 4 ∷ 2 ∷ 104 ∷ 105 ∷ []

abbrev pub check : List ℕ
check = 3 ∷ 0 ∷ 0 ∷ 14 ∷ 2 ∷ 240 ∷ 128 ∷ 1 ∷ 0 ∷ 49 ∷ 3 ∷ 42 ∷ 1 ∷ 49 ∷ []

abbrev pub second_value : List ℕ
second_value =
    3 ∷ 0 ∷ 0 ∷ 24 ∷ 2 ∷ 240 ∷ 128 ∷ 1 ∷ 0 ∷ 1 ∷ 0 ∷ 97 ∷ 11 ∷ 48 ∷ 9 ∷ 2 ∷ 1 ∷ 9 ∷ 160 ∷ 4 ∷ 4 ∷ 2 ∷ 106 ∷ 107 ∷ []

abbrev pub data_end : List ℕ
data_end =
    3 ∷ 0 ∷ 0 ∷ 23 ∷ 2 ∷ 240 ∷ 128 ∷ 1 ∷ 0 ∷ 1 ∷ 0 ∷ 97 ∷ 10 ∷ 48 ∷ 8 ∷ 2 ∷ 1 ∷ 3 ∷ 160 ∷ 3 ∷ 191 ∷ 34 ∷ 0 ∷ []

abbrev pub transfer_end : List ℕ
transfer_end =
    3 ∷ 0 ∷ 0 ∷ 23 ∷ 2 ∷ 240 ∷ 128 ∷ 1 ∷ 0 ∷ 1 ∷ 0 ∷ 97 ∷ 10 ∷ 48 ∷ 8 ∷ 2 ∷ 1 ∷ 3 ∷ 160 ∷ 3 ∷ 191 ∷ 35 ∷ 0 ∷ []

-- a recovery of transfer 1 at check 1, and a close
abbrev pub recovery : List ℕ
recovery =
    3 ∷ 0 ∷ 0 ∷ 31 ∷ 2 ∷ 240 ∷ 128 ∷ 1 ∷ 0 ∷ 1 ∷ 0 ∷ 97 ∷ 18 ∷ 48 ∷ 16 ∷ 2 ∷ 1 ∷ 3 ∷ 160 ∷ 11 ∷ 186 ∷ 9 ∷ 128 ∷ 1 ∷
    7 ∷ 129 ∷ 1 ∷ 1 ∷ 130 ∷ 1 ∷ 1 ∷ []

abbrev pub closing : List ℕ
closing =
    3 ∷ 0 ∷ 0 ∷ 22 ∷ 2 ∷ 240 ∷ 128 ∷ 1 ∷ 0 ∷ 1 ∷ 0 ∷ 97 ∷ 9 ∷ 48 ∷ 7 ∷ 2 ∷ 1 ∷ 3 ∷ 160 ∷ 2 ∷ 180 ∷ 0 ∷ []

-- what is answered to a recovery where the transfer goes on, and where it was concluded: transfer 1, point 1, moving; transfer 2
abbrev pub goes_on : List ℕ
goes_on =
    3 ∷ 0 ∷ 0 ∷ 31 ∷ 2 ∷ 240 ∷ 128 ∷ 1 ∷ 0 ∷ 1 ∷ 0 ∷ 97 ∷ 18 ∷ 48 ∷ 16 ∷ 2 ∷ 1 ∷ 3 ∷ 160 ∷ 11 ∷ 187 ∷ 9 ∷ 129 ∷ 1 ∷
    1 ∷ 130 ∷ 1 ∷ 1 ∷ 131 ∷ 1 ∷ 255 ∷ []

abbrev pub was_concluded : List ℕ
was_concluded =
    3 ∷ 0 ∷ 0 ∷ 25 ∷ 2 ∷ 240 ∷ 128 ∷ 1 ∷ 0 ∷ 1 ∷ 0 ∷ 97 ∷ 12 ∷ 48 ∷ 10 ∷ 2 ∷ 1 ∷ 3 ∷ 160 ∷ 5 ∷ 187 ∷ 3 ∷ 129 ∷ 1 ∷
    2 ∷ []

-- it stops within the transfer's end: the answer to its message is the 24th of those to its 23 octets
abbrev pub writes : (answers : ℕ) → Incarnation
writes answers =
    stopped_within (request ∷ sync_association ∷ creation_to_write ∷ opening ∷ writing ∷ first_value ∷ check ∷ second_value ∷ data_end ∷ []) transfer_end answers

-- the next incarnation, once the same association is there again
abbrev pub again : List (List ℕ) → Incarnation
again pieces = through (request ∷ sync_association ∷ pieces)

-- what is said to the recovery in it
abbrev pub recovered : Incarnation → List Reply
recovered earlier =
    let now = unheard (left_by earlier nothing) in
    spoken_in (trail (Octets 1 0 recovery) (at_end now (run (heard (request ∷ sync_association ∷ [])) now)))

abbrev pub files_after : List Episode → List File
files_after episodes = (after_all episodes nothing).files

abbrev pub dockets_left : Incarnation → List Docket
dockets_left incarnation = (tables_of (left_by incarnation nothing)).dockets

abbrev pub file_written : File
file_written = modified (binary_file a 2 (Binary (104 ∷ 105 ∷ []) ∷ Binary (106 ∷ 107 ∷ []) ∷ []))

pub record IncarnationExamples : Type 0 where
  -- all of the file that is created is there or nothing, and no reply to it was sent
  pub not_created : files_after (Incarnates (creating 34) ∷ []) ≡ []
  pub created : files_after (Incarnates (creating 35) ∷ []) ≡ binary_file a 1 [] ∷ []
  pub not_said : sent_by (creating 34) nothing ≡ says answer ++ says accepted
  pub not_said_either : sent_by (creating 35) nothing ≡ says answer ++ says accepted

-- A STOP AT A CALL. A commit makes four calls, and nine where it moves to another area.
abbrev pub until : (call : ℕ) → CrashForm → Plan
until call form = record { left = Some call; form = form }

-- where the stop is at this call of a commit of four
abbrev pub stopped_at : (call : ℕ) → CrashForm → JournalState → Progress
stopped_at call form journal = making 4 (until call form) (Some call) journal

pub record CallExamples : Type 0 where
  pub four : (journal : JournalState) (entry : List ℕ) → length (written_steps journal None entry) ≡ 4
  pub nine : (journal : JournalState) (area entry : List ℕ) → length (written_steps journal (Some area) entry) ≡ 9
  pub second : (journal : JournalState) → stopped_at 2 Keep journal ≡ Stops false
  pub third : (journal : JournalState) → stopped_at 3 Keep journal ≡ Stops true
  pub third_lost : (journal : JournalState) → stopped_at 3 Lose journal ≡ Stops false
  pub third_filled : (journal : JournalState) → stopped_at 3 (Fill 1) journal ≡ Stops true
  pub third_closed : (journal : JournalState) → stopped_at 3 (Fill 0) journal ≡ Stops false
  pub fourth : (journal : JournalState) → stopped_at 4 Keep journal ≡ Stops true
  pub fifth : (journal : JournalState) → stopped_at 5 Keep journal ≡ Goes (until 1 Keep) journal

pub record RecoveryExamples : Type 0 where
  -- without the commit of its end the transfer goes on, and the value after the check is said again; with it it was concluded
  pub goes_on_without : recovered (writes 23) ≡ says goes_on
  pub concluded_with : recovered (writes 24) ≡ says was_concluded
  -- the file is the same in the end
  pub written_without : files_after (Incarnates (writes 23) ∷ Incarnates (again (recovery ∷ second_value ∷ data_end ∷ transfer_end ∷ closing ∷ [])) ∷ []) ≡ file_written ∷ []
  pub written_with : files_after (Incarnates (writes 24) ∷ Incarnates (again (recovery ∷ closing ∷ [])) ∷ []) ≡ file_written ∷ []
  -- a docket that is dropped leaves what was concluded
  pub dropped_without : files_after (Incarnates (writes 23) ∷ Drops (103 ∷ 117 ∷ 101 ∷ 115 ∷ 116 ∷ []) 7 ∷ []) ≡ binary_file a 1 [] ∷ []
