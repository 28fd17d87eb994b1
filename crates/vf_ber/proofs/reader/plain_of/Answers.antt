use Rattle.std.proofs.Common.{arith}
use Rattle.vf_ber.specs.Views.{tag_of}
use Rattle.vf_ber.proofs.ReaderSteps.{plain_short}
use Rattle.vf_ber.proofs.reader.plain_of.Goals as goal

pub returns-then-octets-n-clause-failed : goal.returns-then-octets-n-clause-failed
returns-then-octets-n-clause-failed c = plain_short (tag_of c.args.tag) c.args.n c.args.octets.now (omega arith)
