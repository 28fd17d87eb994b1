-- Why a value means no PDU.
use Rattle.std.specs.Prelude.{ℕ}
use Rattle.vf_ber.specs.Tree.{Tag}

-- the tag of a value that is no PDU's; the place of a part, from 0 on; the tag of a field
pub data Fault : Type 0 where
  Unknown : Tag → Fault
  Field : ℕ → Fault
  Range : ℕ → Fault
  Missing : ℕ → Fault
