use Rattle.std.proofs.Common.{◌≡◌, Bool, List, [], ap, sym, subst, ◌∙◌}
use Rattle.std.specs.Prelude.{MatchOption, Option, None, Some, Result, Ok, Err, if◌then◌else◌}
use Rattle.vf_base.specs.declared.spdu_kind.SpduKind.{SpduKind}
use Rattle.vf_upper.specs.declared.contexts.ContextEntry.{ContextEntry}
use Rattle.vf_upper.specs.declared.errors.UpperError.{UpperError}
use Rattle.vf_upper.specs.declared.primitive.Primitive.{Primitive}
use Rattle.vf_upper.specs.Laws.{IsAnswered, IsGrammar}
use Rattle.vf_upper.specs.Primitives.{admitted, concluded, negotiated_in, primitive_of, reading, refusal}
use Rattle.vf_upper_grammar.specs.Marks.{Found, Mark}
use Rattle.vf_upper_grammar.specs.Meant.{Agrees}
use Rattle.vf_upper_grammar.specs.Modules.{meaning_of, meant}
use Rattle.vf_upper_grammar.specs.Types.{found_in, user_data_of}
use Rattle.vf_upper_grammar.proofs.TypesMeant.{found_is_meant}
use Rattle.vf_upper.proofs.laws.what_is_read_is_meant.Goals as goal

abbrev result_if : Bool → Result Primitive UpperError → Result Primitive UpperError → Result Primitive UpperError
result_if b x y = if b then x else y

grammar-along : (x y : Result Primitive UpperError) → x ≡ y → IsGrammar y → IsGrammar x
grammar-along x y e g = subst IsGrammar (sym e) g

by : (kind : SpduKind) (contexts : List ContextEntry) (answer : Result Primitive UpperError) (x : Found) (o : Option (List Mark)) → answer ≡ concluded kind contexts x → Agrees x [] o
    → MatchOption o (IsGrammar answer) (λ marks. answer ≡ admitted kind marks (refusal (negotiated_in kind contexts marks) marks))
by kind contexts answer x (Some marks) e agrees = e ∙ ap (concluded kind contexts) agrees
by kind contexts answer (Err place) None e agrees = grammar-along answer _ e tt
by kind contexts answer (Ok marks) None e agrees = absurd agrees

answered : IsAnswered
answered kind contexts octets some =
    by kind contexts (reading kind contexts octets) (found_in (user_data_of kind) octets) (meant (meaning_of kind) octets)
    (ap (λ b. result_if b (Ok (primitive_of kind [])) (concluded kind contexts (found_in (user_data_of kind) octets))) some)
    (found_is_meant kind octets)

pub returns : goal.returns
returns c = answered
