-- What is told of files stays in its ranges with every message that was read, whoever sends it and when.
use Rattle.std.proofs.Common.{ℕ, unwrap_or, List, [], ◌∷◌, Option, None, Some, Result, Ok, Err, refl}
use Rattle.std.specs.Prelude.{IfSome}
use Rattle.std.specs.List.{AllByRecursion}
use Rattle.vf_attr.specs.declared.changes.AttributeChange.{AttributeChange}
use Rattle.vf_attr.specs.declared.file.File.{File}
use Rattle.vf_attr.specs.declared.stamp.Stamp.{Stamp}
use Rattle.vf_base.specs.Name.{IsName}
use Rattle.vf_base.specs.declared.access.FaduId.{FaduId}
use Rattle.vf_base.specs.declared.action.Actions.{Actions}
use Rattle.vf_base.specs.declared.element.Element.{Element}
use Rattle.vf_base.specs.declared.term.Term.{Term}
use Rattle.vf_doctype.specs.DocumentTypes.{doc_type}
use Rattle.vf_doctype.specs.Units.{units}
use Rattle.vf_doctype.specs.declared.doc_type.DocType.{DocType}
use Rattle.vf_elements.specs.declared.message.Message.{Message}
use Rattle.vf_elements.specs.declared.message.Message.TheVariants as messages
use Rattle.vf_elements.specs.declared.message.Said.{Said}
use Rattle.vf_elements.specs.declared.message.Said.TheVariants as answers
use Rattle.vf_pdu.specs.PduMeaning.{IsInRange}
use Rattle.vf_pdu.specs.declared.pdu.Pdu.{Pdu}
use Rattle.vf_pdu.specs.declared.pdu.Pdu.TheVariants.{InitializeRequest, InitializeResponse, CreateRequest, ChangeAttribRequest}
use Rattle.vf_pdu_fields.specs.declared.operation.WriteOperation.{WriteOperation}
use Rattle.vf_tree.specs.Actions.{Outcome}
use Rattle.vf_tree.specs.Acts.{Erases, does}
use Rattle.vf_tree.specs.TreeRefusal.{TreeRefusal}
use Rattle.vf_filestore.specs.Ending.{file_after, units_or_none, written_in}
use Rattle.vf_filestore.specs.History.{Association, History, agreeing, associating, association, guest}
use Rattle.vf_filestore.specs.Keeping.{EachAfter}
use Rattle.vf_filestore.specs.Opening.{act_of}
use Rattle.vf_filestore.specs.Ranges.{IsRead, IsReadEntry}
use Rattle.vf_filestore.specs.Sayable.{AreActions, IsReadWhole, IsToldFile, IsToldStamp, IsToldTerm}
use Rattle.vf_filestore.specs.State.{StandingParty, identity_in, identity_of}
use Rattle.vf_filestore.specs.declared.creation.NewFile.{NewFile}
use Rattle.vf_filestore.proofs.FilesLater.{Brings, EndsIn, Survives, performed_goes}
use Rattle.vf_filestore.proofs.ReadMessages.{AreTerms, change_read, create_read, initialize_read}

-- ---- one file

pub record IsToldChange (change : AttributeChange) : Type 0 where
  pub name : IfSome change.name IsName
  pub permitted : IfSome change.permitted (λ (set : Actions). AreActions set.value)
  pub terms : IfSome change.terms (AllByRecursion IsToldTerm)

pub record IsToldNew (new : NewFile) : Type 0 where
  pub name : IsName new.name
  pub permitted : AreActions new.permitted.value
  pub terms : AllByRecursion IsToldTerm new.terms

read_told : (stamp : Stamp) (file : File) → IsToldStamp stamp → IsToldFile file → IsToldFile (record file { read = Some stamp })
read_told stamp file stamped is =
    record { name = is.name; permitted = is.permitted; terms = is.terms; created = is.created; modified = is.modified; read = stamped; changed = is.changed }

acted_told : (stamp : Stamp) (file : File) (answer : Result Outcome TreeRefusal) → IsToldStamp stamp → IsToldFile file → IsToldFile (file_after stamp file answer)
acted_told stamp file (Err refusal) stamped is = is
acted_told stamp file (Ok outcome) stamped is =
    record { name = is.name; permitted = is.permitted; terms = is.terms; created = is.created; modified = stamped; read = is.read; changed = is.changed }

instead : {A : Type 0} (P : A → Type 0) (own : A) (other : Option A) → IfSome other P → P own → P (unwrap_or other own)
instead P own None there here = here
instead P own (Some other) there here = there

written_told : (files : List File) (stamp : Stamp) (file : File) (at : ℕ) (operation : WriteOperation) (fadu : FaduId) (values : List Element) (doc : Option DocType) → IsToldStamp stamp
    → EndsIn IsToldFile (Some file) (written_in files stamp file at operation fadu values doc)
written_told files stamp file at operation fadu values None stamped = tt
written_told files stamp file at operation fadu values (Some doc) stamped =
    let answer = does file.tree at (act_of operation fadu (units_or_none (units doc values))) in
    performed_goes IsToldFile (Some file) _ (file_after stamp file answer) answer (λ is. acted_told stamp file answer stamped is)

pub told_survives : Survives IsToldStamp IsToldChange IsToldNew IsToldFile
told_survives = record {
  reads = read_told;
  writes = λ files stamp file at operation fadu values stamped. written_told files stamp file at operation fadu values (doc_type file.contents) stamped;
  erases = λ stamp file at fadu stamped is. acted_told stamp file (does file.tree at (Erases fadu)) stamped is;
  changes = λ stamp file change stamped are is. record {
    name = instead IsName file.name change.name are.name is.name;
    permitted = instead (λ (set : Actions). AreActions set.value) file.permitted change.permitted are.permitted is.permitted;
    terms = instead (AllByRecursion IsToldTerm) file.terms change.terms are.terms is.terms;
    created = is.created;
    modified = is.modified;
    read = is.read;
    changed = stamped;
  };
  creates = λ new stamp doc stamped are. record {
    name = are.name;
    permitted = are.permitted;
    terms = are.terms;
    created = stamped;
    modified = tt;
    read = tt;
    changed = tt;
  };
}

-- ---- messages that were read

told_terms : (terms : Option (List Term)) → IfSome terms AreTerms → IfSome terms (AllByRecursion IsToldTerm)
told_terms None are = tt
told_terms (Some terms) are = are.told

request_brings : (request : Pdu) → IsInRange request → Brings IsToldChange IsToldNew (messages.Pdu request)
request_brings (CreateRequest over name contents permitted terms requested controls password) is =
    let read = create_read over name contents permitted terms requested controls password is in
    record { name = read.named; permitted = read.permits; terms = read.terms_are.told }
request_brings (ChangeAttribRequest name permitted terms others) is =
    let read = change_read name permitted terms others is in
    record { name = read.named; permitted = read.permits; terms = told_terms terms read.terms_are }
request_brings request is = tt

pub read_brings : (message : Message) → IsReadWhole message → Brings IsToldChange IsToldNew message
read_brings (messages.Pdu request) is = request_brings request is
read_brings message is = tt

-- ---- who sends them

abbrev IsNamed : Association → Type 0
IsNamed one = IsName one.identity

name_or_guest : (identity : Option (List ℕ)) → IfSome identity IsName → IsName (unwrap_or identity guest)
name_or_guest None is = refl
name_or_guest (Some identity) is = is

agreed_named : (identity : Option (List ℕ)) (said : List Said) (before : Option Association) → IfSome identity IsName → IfSome before IsNamed → IfSome (agreeing identity said before) IsNamed
agreed_named identity (answers.Pdu (InitializeResponse diagnostic units window) ∷ later) before is was = name_or_guest identity is
agreed_named identity _ before is was = was

named_request : (request : Pdu) (said : List Said) (before : Option Association) → IsInRange request → IfSome before IsNamed → IfSome (associating (messages.Pdu request) said before) IsNamed
named_request (InitializeRequest units identity password window) said before is was = agreed_named identity said before (initialize_read units identity password window is).named was
named_request request said before is was = was

named_message : (message : Message) (said : List Said) (before : Option Association) → IsRead message → IfSome before IsNamed → IfSome (associating message said before) IsNamed
named_message (messages.Pdu request) said before is was = named_request request said before is was
named_message message said before is was = was

all_named : (history : History) → EachAfter IsReadEntry history → IfSome (association history) IsNamed
all_named [] each = tt
all_named (entry ∷ earlier) each = named_message entry.message entry.said (association earlier) each.0.read (all_named earlier each.1)

pub identity_named : (party : StandingParty) → EachAfter IsReadEntry party.history → IsName (identity_of party)
identity_named party each = by (association party.history) (all_named party.history each)
  where
    by : (one : Option Association) → IfSome one IsNamed → IsName (identity_in one)
    by None is = refl
    by (Some one) is = is
