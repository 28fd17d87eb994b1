-- What is answered where a part stops.
use Rattle.std.proofs.Common.{◌≡◌, List, subst, sym}
use Rattle.std.specs.Prelude.{Result, Ok, Err, IsErrAnd}
use Rattle.vf_upper_grammar.specs.declared.marks.Stop.{Stop}
use Rattle.vf_upper_grammar.specs.MarkViews.{Gives, Stops}
use Rattle.vf_upper_grammar.specs.Marks.{Mark, Found}

-- the exit of a `?`
pub stops : {X : Type 0} (r : Result X Stop) (stop : Stop) (marks : List Mark) (found : Found) → IsErrAnd r (λ s. s ≡ stop) → Stops stop found → Gives r marks found
stops (Ok x) stop marks found is s = absurd is
stops (Err other) stop marks found is s = let P : Stop → Type 0 = λ x. Stops x found in subst P (sym is) s
