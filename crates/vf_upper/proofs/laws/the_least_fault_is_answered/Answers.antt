use Rattle.std.proofs.Common.{◌≡◌, Bool, true, false, List, [], ◌∷◌, ap, sym, subst}
use Rattle.std.specs.Prelude.{Option, None, Some, Result, Ok, Err, if◌then◌else◌}
use Rattle.vf_base.specs.declared.spdu_kind.SpduKind.{SpduKind}
use Rattle.vf_upper.specs.declared.contexts.ContextEntry.{ContextEntry}
use Rattle.vf_upper.specs.declared.errors.UpperError.{UpperError}
use Rattle.vf_upper.specs.declared.errors.UpperError.TheVariants.{Grammar}
use Rattle.vf_upper.specs.declared.primitive.Primitive.{Primitive}
use Rattle.vf_upper.specs.Laws.{LeastIsAnswered, TellsLeast}
use Rattle.vf_upper.specs.Primitives.{admitted, concluded, first_of, is_application, is_context, is_suited, Negotiated, negotiated_in, primitive_of, refusal, refused, syntax_of}
use Rattle.vf_upper_grammar.specs.FaultPlaces.{fault_places, Tells}
use Rattle.vf_upper_grammar.specs.Faults.{Places}
use Rattle.vf_upper_grammar.specs.Forms.{are_arcs}
use Rattle.vf_upper_grammar.specs.Marks.{Found, Mark, name, number, value}
use Rattle.vf_upper_grammar.specs.Syntaxes.{ftam}
use Rattle.vf_upper_grammar.specs.Types.{found_in, user_data_of}
use Rattle.vf_upper_grammar.proofs.LeastTypes.{least_is_told}
use Rattle.vf_upper.proofs.laws.the_least_fault_is_answered.Goals as goal

-- ---- what is found is refused by a context or an application

abbrev IsOfForm : Option UpperError → Type 0
IsOfForm None = Unit {0}
IsOfForm (Some (Grammar at)) = ⊥
IsOfForm (Some error) = Unit {0}

by-two : (b c : Bool) (x y : Option UpperError) → IsOfForm x → IsOfForm y → IsOfForm (if b then (if c then None else x) else y)
by-two true true x y p q = tt
by-two true false x y p q = p
by-two false c x y p q = q

mark-refused : (negotiated : List Negotiated) (mark : Mark) → IsOfForm (refused negotiated mark)
mark-refused negotiated (number label n) = by-two (is_context label) (is_suited label (syntax_of n negotiated)) _ None tt tt
mark-refused negotiated (name label arcs) = by-two (is_application label) (are_arcs arcs ftam) _ None tt tt
mark-refused negotiated (value tree) = tt

first-refused : (x y : Option UpperError) → IsOfForm x → IsOfForm y → IsOfForm (first_of x y)
first-refused None y p q = q
first-refused (Some error) y p q = p

marks-refused : (negotiated : List Negotiated) (marks : List Mark) → IsOfForm (refusal negotiated marks)
marks-refused negotiated [] = tt
marks-refused negotiated (mark ∷ marks) = first-refused (refused negotiated mark) (refusal negotiated marks) (mark-refused negotiated mark) (marks-refused negotiated marks)

-- ---- answers

tells-admitted : (kind : SpduKind) (marks : List Mark) (o : Option UpperError) (places : Places) → IsOfForm o → places ≡ [] → TellsLeast (admitted kind marks o) places
tells-admitted kind marks None places form e = e
tells-admitted kind marks (Some (Grammar at)) places form e = absurd form
tells-admitted kind marks (Some error) places form e = e

tells-concluded : (kind : SpduKind) (contexts : List ContextEntry) (x : Found) (places : Places) → Tells x places → TellsLeast (concluded kind contexts x) places
tells-concluded kind contexts (Ok marks) places told =
    tells-admitted kind marks (refusal (negotiated_in kind contexts marks) marks) places (marks-refused (negotiated_in kind contexts marks) marks) told
tells-concluded kind contexts (Err at) places told = told

abbrev result_if : Bool → Result Primitive UpperError → Result Primitive UpperError → Result Primitive UpperError
result_if b x y = if b then x else y

answered : LeastIsAnswered
answered kind contexts octets some =
    let P : Result Primitive UpperError → Type 0 = λ answer. TellsLeast answer (fault_places kind octets) in
    subst P (sym (ap (λ b. result_if b (Ok (primitive_of kind [])) (concluded kind contexts (found_in (user_data_of kind) octets))) some))
    (tells-concluded kind contexts (found_in (user_data_of kind) octets) (fault_places kind octets) (least_is_told kind octets))

pub returns : goal.returns
returns c = answered
