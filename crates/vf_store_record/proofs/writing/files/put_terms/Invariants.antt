use Rattle.std.proofs.Common.{take}
use Rattle.vf_store_record.specs.Fields.{term}
use Rattle.vf_store_record.specs.Writing.{IsTerm}
use Rattle.vf_store_record.proofs.Again.{WritesEach}
use Rattle.vf_store_record.proofs.writing.files.put_terms.Given as goal

-- those so far are written
abbrev pub invariant-loop-term : goal.invariant-loop-term
invariant-loop-term l = WritesEach term IsTerm (take l.term-index l.terms) l.initial.out.items l.out.items
