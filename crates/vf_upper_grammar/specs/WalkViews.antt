-- What the walk answers, in the words of forms.
use Rattle.std.specs.Prelude.{◌≡◌, ℕ, ◌+◌, max, Bool, List, [], ◌∷◌, map, Result}
use Rattle.std.specs.List.{list_any}
use Rattle.vf_base.specs.declared.spdu_kind.SpduKind.{SpduKind}
use Rattle.vf_upper_grammar.specs.declared.form.Field.{Field}
use Rattle.vf_upper_grammar.specs.declared.marks.Stop.{Stop}
use Rattle.vf_upper_grammar.specs.Forms as forms
use Rattle.vf_upper_grammar.specs.Marks.{Mark}
use Rattle.vf_upper_grammar.specs.MarkViews.{Gives, Stops}
use Rattle.vf_upper_grammar.specs.Parts.{closing, Part, Text}
use Rattle.vf_upper_grammar.specs.Rows.{field_of, rank}

abbrev pub due_of : SpduKind → Field → List Field → forms.Due
due_of carrier field left = record { field = field_of carrier field; left = map (field_of carrier) left }

-- above the ranks of all fields
abbrev pub most : List Field → ℕ
most [] = 0
most (field ∷ fields) = max (rank field.form + 1) (most fields)

abbrev pub fields_of : SpduKind → List Field → List forms.Field
fields_of carrier fields = map (field_of carrier) fields

abbrev pub IsLacking : SpduKind → List Field → Text → Result Unit Stop → Type 0
IsLacking carrier fields text result =
    (found : List Mark) → Gives result found (forms.lacking (list_any (λ field. field.is_required) (fields_of carrier fields)) (closing text) found)

-- what is found after a part, by the fields that may still come
abbrev pub StepsTo : SpduKind → Bool → List Field → List Field → Part → List Mark → List Field → List Mark → Type 0
StepsTo carrier skips fields left part old next new =
    (others : forms.Walk) → forms.step skips (fields_of carrier fields) part others (fields_of carrier left) old (forms.due part.first (fields_of carrier left)) ≡ others (fields_of carrier next) new

-- the part is a fault, or holds one
abbrev pub StepStops : SpduKind → Bool → List Field → List Field → Part → List Mark → Stop → Type 0
StepStops carrier skips fields left part old stop =
    (others : forms.Walk) → Stops stop (forms.step skips (fields_of carrier fields) part others (fields_of carrier left) old (forms.due part.first (fields_of carrier left)))
