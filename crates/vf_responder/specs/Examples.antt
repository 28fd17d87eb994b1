-- Examples of what is spoken to events, from a filestore without users and files on.
use Rattle.std.specs.Prelude.{◌≡◌, ℕ, ◌+◌, zero, suc, true, false, Bool, List, [], ◌∷◌, ◌++◌, length, map}
use Rattle.vf_base.specs.declared.events.ScriptEvent.{ScriptEvent}
use Rattle.vf_base.specs.declared.events.ScriptEvent.TheVariants.{Arrived, Octets, Ended}
use Rattle.vf_filestore.specs.Runs.{beginning}
use Rattle.vf_responder.specs.Answers.{at_end, spoken_in}
use Rattle.vf_responder.specs.Run.{run, trail}
use Rattle.vf_responder.specs.Serving.{Serving, unheard}
use Rattle.vf_responder.specs.declared.event.Reply.{Reply}

abbrev pub empty : Serving
empty = unheard (beginning [] [])

abbrev pub spoken_to : List ScriptEvent → List Reply
spoken_to events = spoken_in (run events empty)

abbrev pub standing_after : List ScriptEvent → ℕ
standing_after events = length (at_end empty (run events empty)).filestore.parties

-- so many links arrive
abbrev pub arriving : ℕ → List ScriptEvent
arriving zero = []
arriving (suc count) = arriving count ++ Arrived (count + 1) ∷ []

-- octets that come on link 1 once it has arrived
abbrev pub coming : List ℕ → List ScriptEvent
coming octets = Arrived 1 ∷ Octets 1 0 octets ∷ []

abbrev pub says : List ℕ → List Reply
says octets = record { link = 1; octets = octets; shut = false } ∷ []

abbrev pub shuts : (link : ℕ) → List Reply
shuts link = record { link = link; octets = []; shut = true } ∷ []

-- a connection request of class 0 and its answer
abbrev pub request : List ℕ
request = 3 ∷ 0 ∷ 0 ∷ 11 ∷ 6 ∷ 224 ∷ 0 ∷ 0 ∷ 0 ∷ 1 ∷ 0 ∷ []

abbrev pub answer : List ℕ
answer = 3 ∷ 0 ∷ 0 ∷ 11 ∷ 6 ∷ 208 ∷ 0 ∷ 1 ∷ 0 ∷ 1 ∷ 0 ∷ []

-- one of another class
abbrev pub other_class : List ℕ
other_class = 3 ∷ 0 ∷ 0 ∷ 11 ∷ 6 ∷ 224 ∷ 0 ∷ 0 ∷ 0 ∷ 1 ∷ 64 ∷ []

-- a TSDU without octets, and the abort without a PDU that answers it
abbrev pub no_data : List ℕ
no_data = 3 ∷ 0 ∷ 0 ∷ 7 ∷ 2 ∷ 240 ∷ 128 ∷ []

abbrev pub abort : List ℕ
abort = 3 ∷ 0 ∷ 0 ∷ 12 ∷ 2 ∷ 240 ∷ 128 ∷ 25 ∷ 3 ∷ 17 ∷ 1 ∷ 5 ∷ []

abbrev pub aborts : List Reply
aborts = record { link = 1; octets = abort; shut = true } ∷ []

-- the end of the connection
abbrev pub disconnection : List ℕ
disconnection = 3 ∷ 0 ∷ 0 ∷ 11 ∷ 6 ∷ 128 ∷ 0 ∷ 1 ∷ 0 ∷ 1 ∷ 0 ∷ []

-- an association request without sync, for read, write, access and limited management, whose FTAM context is 3
abbrev pub association : List ℕ
association =
    3 ∷ 0 ∷ 0 ∷ 95 ∷ 2 ∷ 240 ∷ 128 ∷ 13 ∷ 86 ∷ 20 ∷ 2 ∷ 0 ∷ 2 ∷ 193 ∷ 80 ∷ 49 ∷ 78 ∷ 160 ∷ 3 ∷ 128 ∷ 1 ∷ 1 ∷ 162 ∷ 71 ∷ 164
    ∷ 35 ∷ 48 ∷ 15 ∷ 2 ∷ 1 ∷ 1 ∷ 6 ∷ 4 ∷ 82 ∷ 1 ∷ 0 ∷ 1 ∷ 48 ∷ 4 ∷ 6 ∷ 2 ∷ 81 ∷ 1 ∷ 48 ∷ 16 ∷ 2 ∷ 1 ∷ 3 ∷ 6 ∷ 5 ∷ 40 ∷ 194 ∷
    123 ∷ 2 ∷ 1 ∷ 48 ∷ 4 ∷ 6 ∷ 2 ∷ 81 ∷ 1 ∷ 97 ∷ 32 ∷ 48 ∷ 30 ∷ 2 ∷ 1 ∷ 1 ∷ 160 ∷ 25 ∷ 96 ∷ 23 ∷ 161 ∷ 7 ∷ 6 ∷ 5 ∷ 40 ∷ 194
    ∷ 123 ∷ 1 ∷ 1 ∷ 190 ∷ 12 ∷ 40 ∷ 10 ∷ 2 ∷ 1 ∷ 3 ∷ 160 ∷ 5 ∷ 160 ∷ 3 ∷ 128 ∷ 1 ∷ 15 ∷ []

-- the selection of a file that isn't there, and its response with diagnostic 11
abbrev pub selection : List ℕ
selection =
    3 ∷ 0 ∷ 0 ∷ 25 ∷ 2 ∷ 240 ∷ 128 ∷ 1 ∷ 0 ∷ 1 ∷ 0 ∷ 97 ∷ 12 ∷ 48 ∷ 10 ∷ 2 ∷ 1 ∷ 3 ∷ 160 ∷ 5 ∷ 166 ∷ 3 ∷ 128 ∷ 1 ∷ 97 ∷ []

abbrev pub no_file : List ℕ
no_file =
    3 ∷ 0 ∷ 0 ∷ 27 ∷ 2 ∷ 240 ∷ 128 ∷ 1 ∷ 0 ∷ 1 ∷ 0 ∷ 97 ∷ 14 ∷ 48 ∷ 12 ∷ 2 ∷ 1 ∷ 3 ∷ 160 ∷ 7 ∷ 167 ∷ 5 ∷ 160 ∷ 3 ∷ 128 ∷ 1 ∷
    11 ∷ []

-- a close where nothing is open, and the abort 102 with which it is answered
abbrev pub closing : List ℕ
closing =
    3 ∷ 0 ∷ 0 ∷ 22 ∷ 2 ∷ 240 ∷ 128 ∷ 1 ∷ 0 ∷ 1 ∷ 0 ∷ 97 ∷ 9 ∷ 48 ∷ 7 ∷ 2 ∷ 1 ∷ 3 ∷ 160 ∷ 2 ∷ 180 ∷ 0 ∷ []

-- what is spoken to the last of these pieces on link 1
abbrev pub spoken_last : List ℕ → List ℕ → List Reply
spoken_last earlier octets = spoken_in (trail (Octets 1 0 octets) (at_end empty (run (coming earlier) empty)))

abbrev pub are_shut : List Reply → List Bool
are_shut said = map (λ (reply : Reply). reply.shut) said

pub record RunExamples : Type 0 where
  pub connection : spoken_to (coming request) ≡ says answer
  pub nowhere : spoken_to (Octets 1 0 request ∷ []) ≡ []
  pub other_class_is_shut : spoken_to (coming other_class) ≡ shuts 1
  pub length_is_shut : spoken_to (coming (3 ∷ 0 ∷ 0 ∷ 3 ∷ [])) ≡ shuts 1
  pub version_is_shut : spoken_to (coming (4 ∷ 0 ∷ [])) ≡ shuts 1
  pub data_first_is_shut : spoken_to (coming no_data) ≡ shuts 1
  pub no_data_is_aborted : spoken_to (coming (request ++ no_data)) ≡ says answer ++ aborts
  pub disconnected_is_shut : spoken_to (coming (request ++ disconnection ++ request)) ≡ says answer ++ shuts 1
  pub ended_hears_nothing : spoken_to (Arrived 1 ∷ Ended 1 ∷ Octets 1 0 request ∷ []) ≡ []
  pub all_stand : standing_after (arriving 64) ≡ 64
  pub one_too_many : spoken_to (arriving 65) ≡ shuts 65
  pub room_again : spoken_to (arriving 65 ++ Ended 7 ∷ Arrived 66 ∷ []) ≡ shuts 65
  pub unknown_file : spoken_last (request ++ association) selection ≡ says no_file
  pub closing_is_aborted : are_shut (spoken_last (request ++ association) closing) ≡ true ∷ []
