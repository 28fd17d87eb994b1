use Rattle.std.proofs.Common.{take}
use Rattle.vf_store_record.specs.Records.{change}
use Rattle.vf_store_record.specs.Writing.{IsChange}
use Rattle.vf_store_record.proofs.Again.{WritesEach}
use Rattle.vf_store_record.proofs.writing.changes.put_changes.Given as goal

-- those so far are written
abbrev pub invariant-loop-change : goal.invariant-loop-change
invariant-loop-change l = WritesEach change IsChange (take l.change-index l.changes) l.initial.out.items l.out.items
