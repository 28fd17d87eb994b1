use Rattle.std.proofs.Common.{take}
use Rattle.vf_store_record.specs.Entries.{unit_in}
use Rattle.vf_store_record.specs.Writing.{AreStrings}
use Rattle.vf_store_record.proofs.Again.{WritesEach}
use Rattle.vf_store_record.proofs.writing.contents.put_units.Given as goal

-- those so far are written
abbrev pub invariant-loop-unit : goal.invariant-loop-unit
invariant-loop-unit l = WritesEach (unit_in l.contents) (AreStrings l.contents) (take l.unit-index l.units) l.initial.out.items l.out.items
