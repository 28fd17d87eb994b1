use Rattle.std.proofs.Common.{List, ◌++◌, ap, ◌∙◌, append_assoc}
use Rattle.vf_responder.proofs.ChainLemmas.{at_end-join}
use Rattle.vf_responder.proofs.TellLemmas.{heard-cut}
use Rattle.vf_responder.specs.Answers.{Answer, at_end, octets_heard}
use Rattle.vf_responder.specs.Run.{run}
use Rattle.vf_responder.specs.Serving.{Serving}
use Rattle.vf_responder.proofs.laws.octets_may_be_cut.Goals as goal

pub returns : goal.returns
returns c = λ link moment front more later serving.
    let first = octets_heard moment link serving front in
    let now = at_end serving first in
    let second = octets_heard moment link now more in
    ap (λ (answers : List Answer). answers ++ run later (at_end serving answers)) (heard-cut moment link front more serving)
    ∙ ap (λ (state : Serving). (first ++ second) ++ run later state) (at_end-join serving first second)
    ∙ append_assoc first second (run later (at_end now second))
