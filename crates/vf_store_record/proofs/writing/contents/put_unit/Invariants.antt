use Rattle.std.proofs.Common.{take}
use Rattle.vf_store_record.specs.Entries.{string_in}
use Rattle.vf_store_record.specs.Writing.{IsString}
use Rattle.vf_store_record.proofs.Again.{WritesEach}
use Rattle.vf_store_record.proofs.writing.contents.put_unit.Given as goal

-- those so far are written
abbrev pub invariant-loop-element : goal.invariant-loop-element
invariant-loop-element l = WritesEach (string_in l.contents) (IsString l.contents) (take l.element-index l.unit) l.initial.out.items l.out.items
