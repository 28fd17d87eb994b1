-- What is said on a link, in its order (ISO 8571-3): an association, a file that is made and opened, all of its contents written,
-- and the way back.
use Rattle.std.specs.Prelude.{ℕ, false, List, [], ◌∷◌, ◌++◌, None, map}
use Rattle.vf_base.specs.declared.element.Element.TheVariants.{Binary}
use Rattle.vf_base.specs.declared.access.FaduId.TheVariants.{Begin}
use Rattle.vf_cli_generate.specs.Drawing.{strings_of}
use Rattle.vf_pdu.specs.declared.pdu.Pdu.{Pdu}
use Rattle.vf_pdu.specs.declared.pdu.Pdu.TheVariants.{InitializeRequest, CreateRequest, OpenRequest, WriteRequest, DataEnd, TransferEndRequest, CloseRequest, DeselectRequest, TerminateRequest}
use Rattle.vf_pdu_fields.specs.declared.operation.WriteOperation.TheVariants.{Replace}
use Rattle.vf_stack.specs.declared.indication.Item.TheVariants as items
use Rattle.vf_stack.specs.declared.request.Request.{Request}
use Rattle.vf_stack.specs.declared.request.Request.TheVariants.{Associate, Item, Release}

abbrev pub of_pdu : Pdu → Request
of_pdu pdu = Item (items.Pdu pdu)

-- F-INITIALIZE in the name of nobody, for read, write, file access and limited management, without sync
abbrev pub initialize : Request
initialize = Associate false (InitializeRequest 15 None None 1)

-- F-CREATE of a file of FTAM-3, or its selection where it is there, to be replaced
abbrev pub create : (name : List ℕ) → Request
create name =
    of_pdu (CreateRequest 1 name (record { kind = 1 ∷ 0 ∷ 8571 ∷ 5 ∷ 3 ∷ []; class = 25; longest = 0; significance = 0 }) (record { value = 255 }) []
    (record { value = 4 }) None None)

-- F-OPEN to replace, and F-WRITE of all of the file
abbrev pub open_file : Request
open_file = of_pdu (OpenRequest 4 None None None)

abbrev pub write : Request
write = of_pdu (WriteRequest Replace Begin)

abbrev pub value : (octets : List ℕ) → Request
value octets = Item (items.Element (Binary octets))

-- F-DATA-END, F-TRANSFER-END, F-CLOSE, F-DESELECT and F-TERMINATE
abbrev pub way_back : List Request
way_back =
    of_pdu (DataEnd None) ∷ of_pdu TransferEndRequest ∷ of_pdu CloseRequest ∷ of_pdu DeselectRequest ∷ Release TerminateRequest ∷ []

abbrev pub requests_for : (name contents : List ℕ) → List Request
requests_for name contents = initialize ∷ create name ∷ open_file ∷ write ∷ (map value (strings_of contents) ++ way_back)
