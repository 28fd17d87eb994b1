use Rattle.std.proofs.Common.{◌≤◌, ℕ, List, ◌++◌, length, subst}
use Rattle.vf_stack.specs.Association.{Association}
use Rattle.vf_stack.specs.Pieces.{TellOnce}
use Rattle.vf_stack.specs.Represents.{Kept, Represents, side_of}
use Rattle.vf_stack.proofs.OnwardLemmas.{wanted-once}
use Rattle.vf_stack.proofs.stack.Stack.wanted.Goals as goal

pub returns-clause-once : goal.returns-clause-once
returns-clause-once c =
    let most = c.wanted.result in
    let K : Kept → Type 0 = λ k. (a : Association) (first second : List ℕ) → Represents k a → length (first ++ second) ≤ most → TellOnce (side_of k) a first second in
    subst K c.self.view_is (wanted-once (record { transport = c.self.inside.transport; exchange = c.self.inside.exchange }) most c.wanted.ensures.once)
