use Rattle.std.proofs.Common.{arith}
use Rattle.vf_attr.proofs.Sets.{kept_is_none_missing}
use Rattle.vf_attr.proofs.access.includes.Goals as goal

pub returns : goal.returns
returns c = kept_is_none_missing c.args.actions c.args.set (omega arith)
