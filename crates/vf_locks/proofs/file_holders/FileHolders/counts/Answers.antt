use Rattle.std.proofs.Common.{◌∙◌, ap}
use Rattle.vf_locks.specs.Counts.{numbers_of}
use Rattle.vf_locks.proofs.file_holders.FileHolders.counts.Goals as goal

pub returns : goal.returns
returns c = c.self.invariant.1 ∙ ap numbers_of c.self.view_is
