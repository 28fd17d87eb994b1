-- What sending octets in blocks owes, row by row (profile). A block has those that wait to be sent.
use Rattle.std.specs.Prelude.{◌≡◌, ℕ, List, ◌++◌, Option, Result, Ok, Err}
use Rattle.vf_base.specs.Links.{Traffic, Sends}
use Rattle.vf_base.specs.declared.errors.Failed.{Failed}

-- Of those that waited and the row after them the first are sent, and the last wait. Where a send fails, a front of all is taken.
abbrev pub SendsFirst : Option Traffic → Option Traffic → (link : ℕ) → (waiting row waiting' : List ℕ) → Result (Unit {0}) Failed → Type 0
SendsFirst old new link waiting row waiting' (Ok done) = (first : List ℕ) × (waiting ++ row ≡ first ++ waiting') × Sends old new link first (Ok done)
SendsFirst old new link waiting row waiting' (Err failed) = Sends old new link (waiting ++ row) (Err failed)
