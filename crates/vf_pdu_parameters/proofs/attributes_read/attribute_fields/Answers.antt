use Rattle.std.proofs.Common.{refl}
use Rattle.vf_ber.specs.Views.{trees_in}
use Rattle.vf_pdu_parameters.specs.Parameters.{attribute_fields}
use Rattle.vf_pdu_parameters.specs.ParameterSlots.{attribute_slots}
use Rattle.vf_pdu_parameters.proofs.ReadingSteps.{found_end, found_next, gives_stops, read_is, stops_at_end, stops_here, stops_later}
use Rattle.vf_pdu_parameters.proofs.attributes_read.attribute_fields.Goals as goal

pub returns-in_err-name : goal.returns-in_err-name
returns-in_err-name c =
    let error = c.in_err-name.field-0.0 in
    gives_stops attribute_slots error attribute_fields (trees_in c.args.parts.now) c.from_residual.result c.from_residual.ensures.1
    (stops_here error _ _ _ _ _ _ c.in_err-name.ensures.value)

pub returns-in_err-permitted : goal.returns-in_err-permitted
returns-in_err-permitted c =
    let error = c.in_err-permitted.field-0.0 in
    gives_stops attribute_slots error attribute_fields (trees_in c.args.parts.now) c.from_residual-in_err-permitted.result c.from_residual-in_err-permitted.ensures.1
    (stops_later error _ _ _ _ _ _ _ _ _ c.in_ok-name.ensures.value c.in_ok-name.ensures.place c.in_ok-name.ensures.others
    (stops_here error _ _ _ _ _ _ c.in_err-permitted.ensures.value))

pub returns-in_err-contents : goal.returns-in_err-contents
returns-in_err-contents c =
    let error = c.in_err-contents.field-0.0 in
    gives_stops attribute_slots error attribute_fields (trees_in c.args.parts.now) c.from_residual-in_err-contents.result c.from_residual-in_err-contents.ensures.1
    (stops_later error _ _ _ _ _ _ _ _ _ c.in_ok-name.ensures.value c.in_ok-name.ensures.place c.in_ok-name.ensures.others
    (stops_later error _ _ _ _ _ _ _ _ _ c.in_ok-permitted.ensures.value c.in_ok-permitted.ensures.place c.in_ok-permitted.ensures.others
    (stops_here error _ _ _ _ _ _ c.in_err-contents.ensures.value)))

pub returns-in_err-terms : goal.returns-in_err-terms
returns-in_err-terms c =
    let error = c.in_err-terms.field-0.0 in
    gives_stops attribute_slots error attribute_fields (trees_in c.args.parts.now) c.from_residual-in_err-terms.result c.from_residual-in_err-terms.ensures.1
    (stops_later error _ _ _ _ _ _ _ _ _ c.in_ok-name.ensures.value c.in_ok-name.ensures.place c.in_ok-name.ensures.others
    (stops_later error _ _ _ _ _ _ _ _ _ c.in_ok-permitted.ensures.value c.in_ok-permitted.ensures.place c.in_ok-permitted.ensures.others
    (stops_later error _ _ _ _ _ _ _ _ _ c.in_ok-contents.ensures.value c.in_ok-contents.ensures.place c.in_ok-contents.ensures.others
    (stops_here error _ _ _ _ _ _ c.in_err-terms.ensures.value))))

pub returns-in_err-created : goal.returns-in_err-created
returns-in_err-created c =
    let error = c.in_err-created.field-0.0 in
    gives_stops attribute_slots error attribute_fields (trees_in c.args.parts.now) c.from_residual-in_err-created.result c.from_residual-in_err-created.ensures.1
    (stops_later error _ _ _ _ _ _ _ _ _ c.in_ok-name.ensures.value c.in_ok-name.ensures.place c.in_ok-name.ensures.others
    (stops_later error _ _ _ _ _ _ _ _ _ c.in_ok-permitted.ensures.value c.in_ok-permitted.ensures.place c.in_ok-permitted.ensures.others
    (stops_later error _ _ _ _ _ _ _ _ _ c.in_ok-contents.ensures.value c.in_ok-contents.ensures.place c.in_ok-contents.ensures.others
    (stops_later error _ _ _ _ _ _ _ _ _ c.in_ok-terms.ensures.value c.in_ok-terms.ensures.place c.in_ok-terms.ensures.others
    (stops_here error _ _ _ _ _ _ c.in_err-created.ensures.value)))))

pub returns-in_err-modified : goal.returns-in_err-modified
returns-in_err-modified c =
    let error = c.in_err-modified.field-0.0 in
    gives_stops attribute_slots error attribute_fields (trees_in c.args.parts.now) c.from_residual-in_err-modified.result c.from_residual-in_err-modified.ensures.1
    (stops_later error _ _ _ _ _ _ _ _ _ c.in_ok-name.ensures.value c.in_ok-name.ensures.place c.in_ok-name.ensures.others
    (stops_later error _ _ _ _ _ _ _ _ _ c.in_ok-permitted.ensures.value c.in_ok-permitted.ensures.place c.in_ok-permitted.ensures.others
    (stops_later error _ _ _ _ _ _ _ _ _ c.in_ok-contents.ensures.value c.in_ok-contents.ensures.place c.in_ok-contents.ensures.others
    (stops_later error _ _ _ _ _ _ _ _ _ c.in_ok-terms.ensures.value c.in_ok-terms.ensures.place c.in_ok-terms.ensures.others
    (stops_later error _ _ _ _ _ _ _ _ _ c.in_ok-created.ensures.value c.in_ok-created.ensures.place c.in_ok-created.ensures.others
    (stops_here error _ _ _ _ _ _ c.in_err-modified.ensures.value))))))

pub returns-in_err-read : goal.returns-in_err-read
returns-in_err-read c =
    let error = c.in_err-read.field-0.0 in
    gives_stops attribute_slots error attribute_fields (trees_in c.args.parts.now) c.from_residual-in_err-read.result c.from_residual-in_err-read.ensures.1
    (stops_later error _ _ _ _ _ _ _ _ _ c.in_ok-name.ensures.value c.in_ok-name.ensures.place c.in_ok-name.ensures.others
    (stops_later error _ _ _ _ _ _ _ _ _ c.in_ok-permitted.ensures.value c.in_ok-permitted.ensures.place c.in_ok-permitted.ensures.others
    (stops_later error _ _ _ _ _ _ _ _ _ c.in_ok-contents.ensures.value c.in_ok-contents.ensures.place c.in_ok-contents.ensures.others
    (stops_later error _ _ _ _ _ _ _ _ _ c.in_ok-terms.ensures.value c.in_ok-terms.ensures.place c.in_ok-terms.ensures.others
    (stops_later error _ _ _ _ _ _ _ _ _ c.in_ok-created.ensures.value c.in_ok-created.ensures.place c.in_ok-created.ensures.others
    (stops_later error _ _ _ _ _ _ _ _ _ c.in_ok-modified.ensures.value c.in_ok-modified.ensures.place c.in_ok-modified.ensures.others
    (stops_here error _ _ _ _ _ _ c.in_err-read.ensures.value)))))))

pub returns-in_err-changed : goal.returns-in_err-changed
returns-in_err-changed c =
    let error = c.in_err-changed.field-0.0 in
    gives_stops attribute_slots error attribute_fields (trees_in c.args.parts.now) c.from_residual-in_err-changed.result c.from_residual-in_err-changed.ensures.1
    (stops_later error _ _ _ _ _ _ _ _ _ c.in_ok-name.ensures.value c.in_ok-name.ensures.place c.in_ok-name.ensures.others
    (stops_later error _ _ _ _ _ _ _ _ _ c.in_ok-permitted.ensures.value c.in_ok-permitted.ensures.place c.in_ok-permitted.ensures.others
    (stops_later error _ _ _ _ _ _ _ _ _ c.in_ok-contents.ensures.value c.in_ok-contents.ensures.place c.in_ok-contents.ensures.others
    (stops_later error _ _ _ _ _ _ _ _ _ c.in_ok-terms.ensures.value c.in_ok-terms.ensures.place c.in_ok-terms.ensures.others
    (stops_later error _ _ _ _ _ _ _ _ _ c.in_ok-created.ensures.value c.in_ok-created.ensures.place c.in_ok-created.ensures.others
    (stops_later error _ _ _ _ _ _ _ _ _ c.in_ok-modified.ensures.value c.in_ok-modified.ensures.place c.in_ok-modified.ensures.others
    (stops_later error _ _ _ _ _ _ _ _ _ c.in_ok-read.ensures.value c.in_ok-read.ensures.place c.in_ok-read.ensures.others
    (stops_here error _ _ _ _ _ _ c.in_err-changed.ensures.value))))))))

pub returns-in_err-size : goal.returns-in_err-size
returns-in_err-size c =
    let error = c.in_err-size.field-0.0 in
    gives_stops attribute_slots error attribute_fields (trees_in c.args.parts.now) c.from_residual-in_err-size.result c.from_residual-in_err-size.ensures.1
    (stops_later error _ _ _ _ _ _ _ _ _ c.in_ok-name.ensures.value c.in_ok-name.ensures.place c.in_ok-name.ensures.others
    (stops_later error _ _ _ _ _ _ _ _ _ c.in_ok-permitted.ensures.value c.in_ok-permitted.ensures.place c.in_ok-permitted.ensures.others
    (stops_later error _ _ _ _ _ _ _ _ _ c.in_ok-contents.ensures.value c.in_ok-contents.ensures.place c.in_ok-contents.ensures.others
    (stops_later error _ _ _ _ _ _ _ _ _ c.in_ok-terms.ensures.value c.in_ok-terms.ensures.place c.in_ok-terms.ensures.others
    (stops_later error _ _ _ _ _ _ _ _ _ c.in_ok-created.ensures.value c.in_ok-created.ensures.place c.in_ok-created.ensures.others
    (stops_later error _ _ _ _ _ _ _ _ _ c.in_ok-modified.ensures.value c.in_ok-modified.ensures.place c.in_ok-modified.ensures.others
    (stops_later error _ _ _ _ _ _ _ _ _ c.in_ok-read.ensures.value c.in_ok-read.ensures.place c.in_ok-read.ensures.others
    (stops_later error _ _ _ _ _ _ _ _ _ c.in_ok-changed.ensures.value c.in_ok-changed.ensures.place c.in_ok-changed.ensures.others
    (stops_here error _ _ _ _ _ _ c.in_err-size.ensures.value)))))))))

pub returns-in_err-end : goal.returns-in_err-end
returns-in_err-end c =
    let error = c.in_err-end.field-0.0 in
    gives_stops attribute_slots error attribute_fields (trees_in c.args.parts.now) c.from_residual-in_err-end.result c.from_residual-in_err-end.ensures.1
    (stops_later error _ _ _ _ _ _ _ _ _ c.in_ok-name.ensures.value c.in_ok-name.ensures.place c.in_ok-name.ensures.others
    (stops_later error _ _ _ _ _ _ _ _ _ c.in_ok-permitted.ensures.value c.in_ok-permitted.ensures.place c.in_ok-permitted.ensures.others
    (stops_later error _ _ _ _ _ _ _ _ _ c.in_ok-contents.ensures.value c.in_ok-contents.ensures.place c.in_ok-contents.ensures.others
    (stops_later error _ _ _ _ _ _ _ _ _ c.in_ok-terms.ensures.value c.in_ok-terms.ensures.place c.in_ok-terms.ensures.others
    (stops_later error _ _ _ _ _ _ _ _ _ c.in_ok-created.ensures.value c.in_ok-created.ensures.place c.in_ok-created.ensures.others
    (stops_later error _ _ _ _ _ _ _ _ _ c.in_ok-modified.ensures.value c.in_ok-modified.ensures.place c.in_ok-modified.ensures.others
    (stops_later error _ _ _ _ _ _ _ _ _ c.in_ok-read.ensures.value c.in_ok-read.ensures.place c.in_ok-read.ensures.others
    (stops_later error _ _ _ _ _ _ _ _ _ c.in_ok-changed.ensures.value c.in_ok-changed.ensures.place c.in_ok-changed.ensures.others
    (stops_later error _ _ _ _ _ _ _ _ _ c.in_ok-size.ensures.value c.in_ok-size.ensures.place c.in_ok-size.ensures.others
    (stops_at_end error _ _ c.in_err-end.ensures))))))))))

pub returns : goal.returns
returns c =
    read_is attribute_fields (trees_in c.args.parts.now) _ _
    (found_next _ _ _ _ _ _ _ _ _ _ c.in_ok-name.ensures.value c.in_ok-name.ensures.place c.in_ok-name.ensures.others
    (found_next _ _ _ _ _ _ _ _ _ _ c.in_ok-permitted.ensures.value c.in_ok-permitted.ensures.place c.in_ok-permitted.ensures.others
    (found_next _ _ _ _ _ _ _ _ _ _ c.in_ok-contents.ensures.value c.in_ok-contents.ensures.place c.in_ok-contents.ensures.others
    (found_next _ _ _ _ _ _ _ _ _ _ c.in_ok-terms.ensures.value c.in_ok-terms.ensures.place c.in_ok-terms.ensures.others
    (found_next _ _ _ _ _ _ _ _ _ _ c.in_ok-created.ensures.value c.in_ok-created.ensures.place c.in_ok-created.ensures.others
    (found_next _ _ _ _ _ _ _ _ _ _ c.in_ok-modified.ensures.value c.in_ok-modified.ensures.place c.in_ok-modified.ensures.others
    (found_next _ _ _ _ _ _ _ _ _ _ c.in_ok-read.ensures.value c.in_ok-read.ensures.place c.in_ok-read.ensures.others
    (found_next _ _ _ _ _ _ _ _ _ _ c.in_ok-changed.ensures.value c.in_ok-changed.ensures.place c.in_ok-changed.ensures.others
    (found_next _ _ _ _ _ _ _ _ _ _ c.in_ok-size.ensures.value c.in_ok-size.ensures.place c.in_ok-size.ensures.others
    (found_end _ _ c.in_ok-end.ensures)))))))))) refl
