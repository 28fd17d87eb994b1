use Rattle.vf_journal.proofs.Held.{not_refused, read_as_held}
use Rattle.vf_journal.proofs.laws.held_is_read.Goals as goal

pub returns : goal.returns
returns c = λ image records holds. (not_refused image records holds, read_as_held image records holds)
