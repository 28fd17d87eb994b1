use Rattle.std.proofs.Common.{length}
use Rattle.vf_party.proofs.trying.+try_items.Given as goal

abbrev pub decreases-try_items : goal.decreases-try_items
decreases-try_items l = length l.items.now
