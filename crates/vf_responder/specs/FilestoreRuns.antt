-- A run of the responder over its links is one of the filestore over messages (profile): it comes to the same files, dockets
-- and parties, and its answers carry what that sends.
use Rattle.std.specs.Prelude.{◌≡◌, ◌⊎◌, ℕ, List, [], ◌∷◌, ◌++◌}
use Rattle.vf_base.specs.declared.events.ScriptEvent.{ScriptEvent}
use Rattle.vf_filestore.specs.Conclusion.{Answered}
use Rattle.vf_filestore.specs.Runs.{Event}
use Rattle.vf_filestore.specs.Runs as filestore
use Rattle.vf_filestore.specs.Sound.{IsSound}
use Rattle.vf_filestore.specs.Transition.{Sent, on_link}
use Rattle.vf_stack.specs.declared.indication.Indication.{Indication}
use Rattle.vf_responder.specs.Answers.{Answer, at_end, says}
use Rattle.vf_responder.specs.Run.{run}
use Rattle.vf_responder.specs.Serving.{Serving}

-- an answer is what a party says on its link
pub record IsSaying (serving : Serving) (answer : Answer) (sent : List Sent) : Type 0 where
  pub link : ℕ
  pub indication : Indication
  pub given : Answered
  pub said : answer ≡ says link indication serving given
  pub sends : sent ≡ on_link link given.said

-- Each answer carries what a party says, in order, or nothing that the filestore sends.
abbrev pub Carries : Serving → List Answer → List Sent → Type 0
Carries serving [] sent = sent ≡ []
Carries serving (answer ∷ answers) sent =
    (first : List Sent) × (later : List Sent) × (sent ≡ first ++ later) × ((first ≡ []) ⊎ IsSaying serving answer first) × Carries answer.state answers later

pub record IsFilestoreRun (serving : Serving) (answers : List Answer) : Type 0 where
  pub messages : List Event
  pub state : (at_end serving answers).filestore ≡ (filestore.run messages serving.filestore).state
  pub carries : Carries serving answers (filestore.run messages serving.filestore).sent

abbrev pub RunsAreFilestoreRuns : Type 0
RunsAreFilestoreRuns = (events : List ScriptEvent) (serving : Serving) → IsSound serving.filestore → IsFilestoreRun serving (run events serving)
