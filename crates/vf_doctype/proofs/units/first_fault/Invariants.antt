use Rattle.std.proofs.Common.{◌≡◌, drop}
use Rattle.vf_doctype.specs.Units.{first_fault}
use Rattle.vf_doctype.proofs.units.first_fault.Given as goal

-- the first fault is one of what is left
abbrev pub invariant-loop-element : goal.invariant-loop-element
invariant-loop-element l = first_fault l.doc l.is_open (drop l.element-index l.elements) ≡ first_fault l.doc l.initial.is_open l.elements
