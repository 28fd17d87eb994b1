-- Replies that were collected apart and then appended.
use Rattle.std.proofs.Common.{◌≡◌, List, [], ◌++◌, ap, ◌∙◌}
use Rattle.vf_responder.specs.Answers.{Answer, spoken_in}
use Rattle.vf_responder.specs.Represents.{Does, Kept}
use Rattle.vf_responder.specs.Serving.{Serving}
use Rattle.vf_responder.specs.declared.event.Reply.{Reply}

-- What was said alone is said after the others.
pub appended : {D : Type 0} (answers : Serving → List Answer) (kept kept' : Kept D) (none own old new : List Reply) → none ≡ []
    → Does answers kept none kept' own → new ≡ old ++ own → Does answers kept old kept' new
appended answers kept kept' none own old new empty does joined = λ serving represents.
    let alone = does serving represents in
    record {
      spoken = joined ∙ ap (λ (said : List Reply). old ++ said) (alone.spoken ∙ ap (λ (said : List Reply). said ++ spoken_in (answers serving)) empty);
      represents = alone.represents;
    }
