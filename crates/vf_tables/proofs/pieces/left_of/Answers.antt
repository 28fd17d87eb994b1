use Rattle.std.proofs.Common.{arith}
use Rattle.vf_tables.proofs.pieces.left_of.Goals as goal

pub returns : goal.returns
returns c = λ all less rest sums goes whole. omega (arith, sums, goes, whole)
