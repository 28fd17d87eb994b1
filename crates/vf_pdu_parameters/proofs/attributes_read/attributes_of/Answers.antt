use Rattle.std.proofs.Common.{◌≡◌, refl, subst, sym}
use Rattle.vf_ber.specs.Tree.{Trees}
use Rattle.vf_ber.specs.Views.{tag_of, tree_of, trees_in}
use Rattle.vf_pdu_fields.specs.Fault.{Unknown, Field, Range, Missing}
use Rattle.vf_pdu_fields.specs.Reading.{reading}
use Rattle.vf_pdu_fields.specs.Results.{Fails}
use Rattle.vf_pdu_parameters.specs.Parameters.{attribute_fields as attribute_row}
use Rattle.vf_pdu_parameters.specs.ParameterSlots.{attribute_slots}
use Rattle.vf_pdu_fields.specs.declared.errors.PduError.{PduError}
use Rattle.vf_pdu_fields.specs.declared.errors.PduError.TheVariants as errors
use Rattle.vf_pdu_fields.proofs.Nested.{nested_read, nested_unread}
use Rattle.vf_pdu_parameters.proofs.attributes_read.attributes_of.Goals as goal

pub returns-in-Ok : goal.returns-in-Ok
returns-in-Ok c =
    nested_read c.args.place c.args.field attribute_row (tree_of c.args.part.now) c.in-Some.fields.now (trees_in c.as_slice-parts.result.now) (attribute_slots c.in-Ok.made) refl
    (sym c.in-Some.ensures) c.as_slice-parts.ensures.values c.in-Ok.ensures

-- an error that is known
known : (error is : PduError) (start : Trees) → error ≡ is → Fails error (reading attribute_row start) → Fails is (reading attribute_row start)
known error is start e h = let F : PduError → Type 0 = λ x. Fails x (reading attribute_row start) in subst F e h

pub returns-in-Err-Unknown : goal.returns-in-Err-Unknown
returns-in-Err-Unknown c =
    let start = trees_in c.as_slice-parts.result.now in
    let tag = c.in-Err-Unknown.field-0-0 in
    nested_unread c.args.place c.args.field attribute_row (tree_of c.args.part.now) c.in-Some.fields.now start (Unknown (tag_of tag)) c.unread.result
    (sym c.in-Some.ensures) c.as_slice-parts.ensures.values (known c.in-Err-Unknown.field-0 (errors.Unknown tag) start c.in-Err-Unknown.field-0-is c.in-Err-Unknown.ensures) c.unread.ensures

pub returns-in-Err-Field : goal.returns-in-Err-Field
returns-in-Err-Field c =
    let start = trees_in c.as_slice-parts.result.now in
    let place = c.in-Err-Field.field-0-0 in
    nested_unread c.args.place c.args.field attribute_row (tree_of c.args.part.now) c.in-Some.fields.now start (Field place) c.unread-in-Err-Field.result
    (sym c.in-Some.ensures) c.as_slice-parts.ensures.values (known c.in-Err-Field.field-0 (errors.Field place) start c.in-Err-Field.field-0-is c.in-Err-Field.ensures) c.unread-in-Err-Field.ensures

pub returns-in-Err-Range : goal.returns-in-Err-Range
returns-in-Err-Range c =
    let start = trees_in c.as_slice-parts.result.now in
    let field = c.in-Err-Range.field-0-0 in
    nested_unread c.args.place c.args.field attribute_row (tree_of c.args.part.now) c.in-Some.fields.now start (Range field) c.unread-in-Err-Range.result
    (sym c.in-Some.ensures) c.as_slice-parts.ensures.values (known c.in-Err-Range.field-0 (errors.Range field) start c.in-Err-Range.field-0-is c.in-Err-Range.ensures) c.unread-in-Err-Range.ensures

pub returns-in-Err-Missing : goal.returns-in-Err-Missing
returns-in-Err-Missing c =
    let start = trees_in c.as_slice-parts.result.now in
    let field = c.in-Err-Missing.field-0-0 in
    nested_unread c.args.place c.args.field attribute_row (tree_of c.args.part.now) c.in-Some.fields.now start (Missing field) c.unread-in-Err-Missing.result
    (sym c.in-Some.ensures) c.as_slice-parts.ensures.values (known c.in-Err-Missing.field-0 (errors.Missing field) start c.in-Err-Missing.field-0-is c.in-Err-Missing.ensures) c.unread-in-Err-Missing.ensures
