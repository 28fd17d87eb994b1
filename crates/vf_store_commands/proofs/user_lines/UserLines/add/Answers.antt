use Rattle.std.proofs.Common.{arith}
use Rattle.vf_store_commands.proofs.BadLines.{goes_too_far}
use Rattle.vf_store_commands.proofs.user_lines.UserLines.add.Goals as goal

pub returns-then-len-eq-MOST_LINE_OCTETS-clause-takes : goal.returns-then-len-eq-MOST_LINE_OCTETS-clause-takes
returns-then-len-eq-MOST_LINE_OCTETS-clause-takes c =
    rw (← c.self.view_is) (λ rest. goes_too_far c.self.inside.users c.self.inside.line.items c.args.octet rest c.self.invariant.line c.requires (omega arith))
