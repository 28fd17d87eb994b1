use Rattle.std.proofs.Common.{◌≡◌, Some}
use Rattle.vf_doctype.proofs.Groups.{first-named, unless-refuses}
use Rattle.vf_doctype.specs.DocumentTypes.{constraint_of}
use Rattle.vf_doctype.specs.Units.{first_fault, starts_open, units_of}
use Rattle.vf_doctype.proofs.doc_type.DocType.units.Goals as goal

pub returns-in-Some-clause-errors : goal.returns-in-Some-clause-errors
returns-in-Some-clause-errors c =
    let found : first_fault c.args.self.now (starts_open (constraint_of c.args.self.now.kind)) c.args.elements.now ≡ Some c.in-Some.error = cc in
    unless-refuses (first_fault c.args.self.now (starts_open (constraint_of c.args.self.now.kind)) c.args.elements.now) (units_of (constraint_of c.args.self.now.kind) c.args.elements.now) c.in-Some.error (first-named c.args.self.now (starts_open (constraint_of c.args.self.now.kind)) c.args.elements.now) found
