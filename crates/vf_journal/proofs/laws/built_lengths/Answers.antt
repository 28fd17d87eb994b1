use Rattle.vf_journal.proofs.Lengths.{length-area_with, length-entry_of}
use Rattle.vf_journal.proofs.laws.built_lengths.Goals as goal

pub returns : goal.returns
returns c = λ item. (length-entry_of item, length-area_with item)
