-- What is found in the user data that are written for a primitive.
use Rattle.std.specs.Prelude.{ℤ, pos, Bool, true, false, List, [], ◌∷◌, ◌++◌}
use Rattle.std.specs.List.{flat_map}
use Rattle.vf_upper_grammar.specs.declared.labels.NameLabel.TheVariants.{Stated, Abstract, Transfer, Application}
use Rattle.vf_upper_grammar.specs.declared.labels.NumberLabel.{NumberLabel}
use Rattle.vf_upper_grammar.specs.declared.labels.NumberLabel.TheVariants.{Fixed, Proposal, Outcome, AcseContext, PciContext, AnyContext}
use Rattle.vf_upper_grammar.specs.Marks.{Mark, number, name, value}
use Rattle.vf_upper_grammar.specs.Syntaxes as syntaxes
use Rattle.vf_upper.specs.declared.contexts.ContextEntry.{ContextEntry}
use Rattle.vf_upper.specs.declared.contexts.Offer.{Offer}
use Rattle.vf_upper.specs.declared.primitive.Primitive.{Primitive}
use Rattle.vf_upper.specs.declared.primitive.Primitive.TheVariants.{Associate, Accepted, Refused, Release, Released, Data, Abort}
use Rattle.vf_upper.specs.CarriedCode.{Carried}
use Rattle.vf_upper.specs.Written.{acse_id}

-- a value after its context
abbrev pub carried_marks : NumberLabel → Carried → List Mark
carried_marks label carried = number label carried.context ∷ value carried.tree ∷ []

abbrev pub values_marks : NumberLabel → List Carried → List Mark
values_marks label values = flat_map (carried_marks label) values

abbrev pub offer_marks : Offer → List Mark
offer_marks offer = number Proposal offer.id ∷ name Abstract offer.syntax ∷ name Transfer syntaxes.ber ∷ []

abbrev pub outcome_marks : Bool → List Mark
outcome_marks true = number Outcome (pos 0) ∷ name Stated syntaxes.ber ∷ []
outcome_marks false = number Outcome (pos 2) ∷ []

abbrev pub aarq_marks : List Carried → List Mark
aarq_marks values = name Application syntaxes.ftam ∷ values_marks PciContext values

abbrev pub aare_marks : ℤ → List Carried → List Mark
aare_marks result values = name Application syntaxes.ftam ∷ number Fixed result ∷ number Fixed (pos 0) ∷ values_marks PciContext values

-- of an ACSE value, what is found in it
abbrev pub acse_marks : List ContextEntry → List Mark → List Mark
acse_marks contexts marks = number AcseContext (acse_id contexts) ∷ marks

abbrev pub marks_of : Primitive → List ContextEntry → List Mark
marks_of (Associate offers values) contexts = number Fixed (pos 1) ∷ (flat_map offer_marks offers ++ acse_marks contexts (aarq_marks values))
marks_of (Accepted results values) contexts = number Fixed (pos 1) ∷ (flat_map outcome_marks results ++ acse_marks contexts (aare_marks (pos 0) values))
marks_of (Refused results values) contexts = flat_map outcome_marks results ++ acse_marks contexts (aare_marks (pos 1) values)
marks_of (Release values) contexts = acse_marks contexts (values_marks AnyContext values)
marks_of (Released values) contexts = acse_marks contexts (values_marks AnyContext values)
marks_of (Data values) contexts = values_marks AnyContext values
marks_of (Abort values) contexts = acse_marks contexts (number Fixed (pos 0) ∷ values_marks AnyContext values)
