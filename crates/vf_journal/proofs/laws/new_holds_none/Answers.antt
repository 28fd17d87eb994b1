use Rattle.std.proofs.Common.{List, ℕ, [], sym, subst}
use Rattle.vf_journal.specs.Image.{Holds}
use Rattle.vf_journal.proofs.Creating.{new_holds, new_is}
use Rattle.vf_journal.proofs.laws.new_holds_none.Goals as goal

pub returns : goal.returns
returns c = subst (λ (l : List ℕ). Holds l []) (sym new_is) new_holds
