use Rattle.std.proofs.Common.{List, ℕ, subst}
use Rattle.vf_upper.specs.Conclusions.{Answers}
use Rattle.vf_upper.specs.Primitives.{reading}
use Rattle.vf_upper.proofs.reading.read.Goals as goal

pub returns-in-Ok : goal.returns-in-Ok
returns-in-Ok c =
    let P : List ℕ → Type 0 = λ octets. Answers c.read_shared.result (reading c.args.carrier c.args.contexts.now octets) in
    subst P c.in-Ok.ensures c.read_shared.ensures
