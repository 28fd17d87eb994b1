-- What a concluded message does to the files (ISO 8571-2, actions on files). Each effect is total: where the selected
-- file isn't there, which can't be, nothing changes.
use Rattle.std.specs.Prelude.{ℕ, not, List, [], ◌∷◌, filter, Option, None, Some, if◌then◌else◌}
use Rattle.std.specs.Str.{bytes_eq}
use Rattle.vf_attr.specs.Change.{after_change}
use Rattle.vf_attr.specs.declared.changes.AttributeChange.{AttributeChange}
use Rattle.vf_attr.specs.declared.file.File.{File}
use Rattle.vf_attr.specs.declared.stamp.Stamp.{Stamp}
use Rattle.vf_base.specs.declared.access.FaduId.{FaduId}
use Rattle.vf_doctype.specs.DocumentTypes.{doc_type}
use Rattle.vf_doctype.specs.declared.doc_type.DocType.{DocType}
use Rattle.vf_elements.specs.declared.message.Message.{Message}
use Rattle.vf_elements.specs.declared.message.Message.TheVariants as messages
use Rattle.vf_pdu.specs.declared.pdu.Pdu.{Pdu}
use Rattle.vf_pdu.specs.declared.pdu.Pdu.TheVariants.{CreateRequest, DeleteRequest, ChangeAttribRequest, EraseRequest, TransferEndRequest, CancelRequest}
use Rattle.vf_tree.specs.Acts.{Erases, does}
use Rattle.vf_filestore.specs.Ending.{cancel_ending, file_after, stamp_of, transfer_ending}
use Rattle.vf_filestore.specs.Files.{with_file, made}
use Rattle.vf_filestore.specs.History.{Given, Made, position}
use Rattle.vf_filestore.specs.State.{State, StandingParty, name_in, selected_file}
use Rattle.vf_filestore.specs.declared.creation.NewFile.{NewFile}

-- the file in the place of the one of this name, also under another name
abbrev pub in_place : (name : List ℕ) → File → List File → List File
in_place name file [] = []
in_place name file (other ∷ files) = if bytes_eq other.name name then file ∷ files else other ∷ in_place name file files

abbrev pub without_file : (name : List ℕ) → List File → List File
without_file name files = filter (λ (file : File). not (bytes_eq file.name name)) files

abbrev pub put_where : (name : List ℕ) → Option File → List File → List File
put_where name None files = files
put_where name (Some file) files = in_place name file files

-- a new file stands after the others
abbrev pub created : Option DocType → NewFile → Stamp → List File → List File
created None new stamp files = files
created (Some doc) new stamp files = with_file (made new stamp doc) files

abbrev pub created_where : Given → NewFile → Stamp → List File → List File
created_where Made new stamp files = created (doc_type new.contents) new stamp files
created_where _ new stamp files = files

abbrev pub changed : Option File → Stamp → AttributeChange → Option File
changed None stamp change = None
changed (Some file) stamp change = Some (after_change file stamp change)

abbrev pub erased : Option File → Stamp → (position : ℕ) → FaduId → Option File
erased None stamp position fadu = None
erased (Some file) stamp position fadu = Some (file_after stamp file (does file.tree position (Erases fadu)))

-- the selected file, as a request leaves it
abbrev pub after_request : State → StandingParty → (moment : ℕ) → Pdu → Option File
after_request state party moment (ChangeAttribRequest name permitted terms others) =
    changed (selected_file state party.history) (stamp_of party moment)
    (record { name = name; permitted = permitted; terms = terms; others = others })
after_request state party moment (EraseRequest fadu) =
    erased (selected_file state party.history) (stamp_of party moment) (position party.history) fadu
after_request state party moment TransferEndRequest = (transfer_ending state party moment).file
after_request state party moment (CancelRequest diagnostic) = (cancel_ending state party moment).file
after_request state party moment _ = None

abbrev pub files_by : State → StandingParty → (moment : ℕ) → Given → Pdu → List File
files_by state party moment given (CreateRequest over name contents permitted terms requested controls password) =
    created_where given (record { name = name; contents = contents; permitted = permitted; terms = terms }) (stamp_of party moment) state.files
files_by state party moment given DeleteRequest = without_file (name_in party.history) state.files
files_by state party moment given request =
    put_where (name_in party.history) (after_request state party moment request) state.files

-- the files after a message of this party that was given this
abbrev pub files_after : State → StandingParty → (moment : ℕ) → Given → Message → List File
files_after state party moment given (messages.Pdu request) = files_by state party moment given request
files_after state party moment given _ = state.files
