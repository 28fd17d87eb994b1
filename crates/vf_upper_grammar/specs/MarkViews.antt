-- What the code finds, as marks.
use Rattle.std.specs.Prelude.{◌≡◌, List, map, Result, Ok, Err}
use Rattle.vf_ber.specs.Views.{tree_of}
use Rattle.vf_upper_grammar.specs.declared.marks.Mark.{Mark}
use Rattle.vf_upper_grammar.specs.declared.marks.Mark.TheVariants.{Number, Name, Value}
use Rattle.vf_upper_grammar.specs.declared.marks.Marks.{Marks}
use Rattle.vf_upper_grammar.specs.declared.marks.Stop.{Stop}
use Rattle.vf_upper_grammar.specs.declared.marks.Stop.TheVariants.{At, NoMemory}
use Rattle.vf_upper_grammar.specs.Marks as marks

abbrev pub mark_of : Mark → marks.Mark
mark_of (Number label n) = marks.number label n
mark_of (Name label oid) = marks.name label oid
mark_of (Value value) = marks.value (tree_of value)

abbrev pub marks_of : Marks → List marks.Mark
marks_of found = map mark_of found.items.items

-- this is what reading stops with, where memory is there
abbrev pub Stops : Stop → marks.Found → Type 0
Stops (At place) found = found ≡ Err place
Stops NoMemory found = Unit {0}

-- what was found in the end, or the first fault, where memory is there
abbrev pub Gives : {X : Type 0} → Result X Stop → List marks.Mark → marks.Found → Type 0
Gives (Ok x) marks found = found ≡ Ok marks
Gives (Err stop) marks found = Stops stop found
