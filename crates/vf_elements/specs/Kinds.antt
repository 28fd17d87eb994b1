-- The kinds of the code as those of the definitions.
use Rattle.vf_elements.specs.declared.kind.Kind.{Kind as CodeKind}
use Rattle.vf_elements.specs.declared.kind.Kind.TheVariants as kinds
use Rattle.vf_elements.specs.Stages.{Kind, pdu, element, check, acknowledgement}

abbrev pub kind_of : CodeKind → Kind
kind_of (kinds.Pdu number) = pdu number
kind_of kinds.Element = element
kind_of kinds.Check = check
kind_of kinds.Acknowledgement = acknowledgement
