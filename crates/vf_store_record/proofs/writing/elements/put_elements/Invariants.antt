use Rattle.std.proofs.Common.{take}
use Rattle.vf_store_record.specs.Entries.{element}
use Rattle.vf_store_record.specs.Writing.{IsElement}
use Rattle.vf_store_record.proofs.Again.{WritesEach}
use Rattle.vf_store_record.proofs.writing.elements.put_elements.Given as goal

-- those so far are written
abbrev pub invariant-loop-element : goal.invariant-loop-element
invariant-loop-element l = WritesEach element IsElement (take l.element-index l.elements) l.initial.out.items l.out.items
