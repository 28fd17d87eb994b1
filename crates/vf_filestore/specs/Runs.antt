-- Runs of the filestore: messages of several links one after another, breaks and stops among them (profile).
use Rattle.std.specs.Prelude.{ℕ, List, [], ◌∷◌, ◌++◌}
use Rattle.vf_attr.specs.declared.file.File.{File}
use Rattle.vf_elements.specs.declared.message.Message.{Message}
use Rattle.vf_tables.specs.declared.user.User.{User}
use Rattle.vf_filestore.specs.Aborts.{Setting}
use Rattle.vf_filestore.specs.Dockets.{stopped}
use Rattle.vf_filestore.specs.State.{State, arrived}
use Rattle.vf_filestore.specs.Transition.{Sent, Turn, fault, transition}

pub data Event : Type 0 where
  Arrives : (link : ℕ) → Event
  -- a message; the end of a link is the message of a break
  Takes : (link : ℕ) → Setting → Message → Event
  -- octets that are no message
  Faults : (link : ℕ) → (number place : ℕ) → Event
  Stops : Event

abbrev pub arrives : (link : ℕ) → State → State
arrives link state = record state { parties = state.parties ++ arrived link ∷ [] }

abbrev pub after_event : State → Event → Turn
after_event state (Arrives link) = record { sent = []; state = arrives link state }
after_event state (Takes link setting message) = transition state link setting message
after_event state (Faults link number place) = fault state link number place
after_event state Stops = record { sent = []; state = stopped state }

-- what is sent before what comes later
abbrev pub before : List Sent → Turn → Turn
before sent later = record later { sent = sent ++ later.sent }

abbrev pub run : List Event → State → Turn
run [] state = record { sent = []; state = state }
run (event ∷ events) state = let turn = after_event state event in before turn.sent (run events turn.state)

abbrev pub beginning : List User → List File → State
beginning users files =
    record { users = users; files = files; parties = []; dockets = []; tasks = []; concluded = 0 }
