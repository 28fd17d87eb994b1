-- What is answered, by what is found.
use Rattle.std.specs.Prelude.{◌≡◌, Bool, true, false, List, map, None, Some, Result, Ok, Err}
use Rattle.vf_base.specs.declared.spdu_kind.SpduKind.{SpduKind}
use Rattle.vf_base.specs.declared.spdu_kind.SpduKind.TheVariants.{CN, AC, RF, FN, DN, AB}
use Rattle.vf_upper.specs.declared.conclusion.Negotiated as code
use Rattle.vf_upper.specs.declared.conclusion.Negotiated.TheVariants.{Offered, Answered, Accepted}
use Rattle.vf_upper.specs.declared.errors.UpperError.{UpperError}
use Rattle.vf_upper.specs.declared.errors.UpperError.TheVariants.{Context, Grammar, Application, NoMemory}
use Rattle.vf_upper.specs.declared.primitive.Primitive.{Primitive}
use Rattle.vf_upper.specs.declared.primitive.Primitive.TheVariants as primitives
use Rattle.vf_upper.specs.CarriedCode.{Carried}
use Rattle.vf_upper_grammar.specs.Marks.{Mark}
use Rattle.vf_upper.specs.Primitives.{answered, offered, refusal, Negotiated, with_result, values_of}

-- this is answered, where memory is there
abbrev pub Answers : Result Primitive UpperError → Result Primitive UpperError → Type 0
Answers (Ok primitive) reading = reading ≡ Ok primitive
Answers (Err (Context id)) reading = reading ≡ Err (Context id)
Answers (Err (Grammar at)) reading = reading ≡ Err (Grammar at)
Answers (Err Application) reading = reading ≡ Err Application
Answers (Err NoMemory) reading = Unit {0}

abbrev pub negotiated_of : code.Negotiated → List Negotiated
negotiated_of (Offered offers) = map offered offers.now
negotiated_of (Answered contexts results) = answered contexts.now results.now
negotiated_of (Accepted contexts) = map (with_result true) contexts.now

-- the values that are admitted, or why none are, where memory is there
abbrev pub IsAdmitted : List Negotiated → List Mark → Result (List Carried) UpperError → Type 0
IsAdmitted negotiated marks (Ok values) = (refusal negotiated marks ≡ None) × (values ≡ values_of marks)
IsAdmitted negotiated marks (Err (Context id)) = refusal negotiated marks ≡ Some (Context id)
IsAdmitted negotiated marks (Err (Grammar at)) = refusal negotiated marks ≡ Some (Grammar at)
IsAdmitted negotiated marks (Err Application) = refusal negotiated marks ≡ Some Application
IsAdmitted negotiated marks (Err NoMemory) = Unit {0}

-- its contexts are proposed ones
abbrev pub is_associated : SpduKind → Bool
is_associated CN = true
is_associated AC = true
is_associated RF = true
is_associated kind = false

-- the primitive of another SPDU with these values
abbrev pub having : SpduKind → List Carried → Primitive
having FN values = primitives.Release values
having DN values = primitives.Released values
having AB values = primitives.Abort values
having kind values = primitives.Data values
