-- Messages, settings and runs that the examples are made of.
use Rattle.std.specs.Prelude.{ℕ, true, false, List, [], ◌∷◌, map, filter_map, Option, None, Some, if◌then◌else◌, nat_eq}
use Rattle.vf_attr.specs.declared.file.File.{File}
use Rattle.vf_attr.specs.declared.stamp.Stamp.{Stamp}
use Rattle.vf_base.specs.declared.access.Constraint.TheVariants.{Unstructured, SequentialFlat}
use Rattle.vf_base.specs.declared.access.Context.{Context}
use Rattle.vf_base.specs.declared.access.Context.TheVariants.{UA}
use Rattle.vf_base.specs.declared.access.FaduId.{FaduId}
use Rattle.vf_base.specs.declared.access.FaduId.TheVariants.{Begin}
use Rattle.vf_base.specs.declared.action.Actions.{Actions}
use Rattle.vf_base.specs.declared.action.Control.{Control}
use Rattle.vf_base.specs.declared.contents.Contents.{Contents}
use Rattle.vf_base.specs.declared.diagnostic.Diagnostic.{Diagnostic}
use Rattle.vf_base.specs.declared.element.Element.{Element}
use Rattle.vf_base.specs.declared.element.Element.TheVariants.{Binary}
use Rattle.vf_elements.specs.declared.message.Message.{Message}
use Rattle.vf_elements.specs.declared.message.Message.TheVariants as messages
use Rattle.vf_elements.specs.declared.message.Said.{Said}
use Rattle.vf_elements.specs.declared.message.Said.TheVariants as answers
use Rattle.vf_pdu.specs.declared.pdu.Pdu.{Pdu}
use Rattle.vf_pdu.specs.declared.pdu.Pdu.TheVariants.{InitializeRequest, SelectRequest, CreateRequest, OpenRequest, ReadRequest, WriteRequest, RecoverRequest}
use Rattle.vf_pdu_fields.specs.declared.operation.WriteOperation.{WriteOperation}
use Rattle.vf_pdu_fields.specs.declared.operation.WriteOperation.TheVariants.{Replace}
use Rattle.vf_tables.specs.declared.docket.Direction.TheVariants.{Idle, Read, Write}
use Rattle.vf_tables.specs.declared.docket.Docket.{Docket}
use Rattle.vf_tables.specs.declared.docket.Regime as tables
use Rattle.vf_tree.specs.FileTree.{DataUnit}
use Rattle.vf_filestore.specs.Aborts.{Setting}
use Rattle.vf_filestore.specs.Diagnostics.{plain}
use Rattle.vf_filestore.specs.History.{History, guest}
use Rattle.vf_filestore.specs.Runs.{Event, Takes, Arrives, run}
use Rattle.vf_filestore.specs.State.{State, StandingParty, party_of}
use Rattle.vf_filestore.specs.Tables.{operation_of}
use Rattle.vf_filestore.specs.Transition.{Sent}

-- names
abbrev pub a : List ℕ
a = 97 ∷ []

abbrev pub b : List ℕ
b = 98 ∷ []

abbrev pub ann : List ℕ
ann = 97 ∷ 110 ∷ 110 ∷ []

abbrev pub bob : List ℕ
bob = 98 ∷ 111 ∷ 98 ∷ []

abbrev pub set : ℕ → Actions
set value = record { value = value }

abbrev pub contents_type : (entry : ℕ) → Contents
contents_type entry =
    record { kind = 1 ∷ 0 ∷ 8571 ∷ 5 ∷ entry ∷ []; class = 25; longest = 0; significance = 0 }

abbrev pub ftam_3 : Contents
ftam_3 = contents_type 3

abbrev pub ftam_2 : Contents
ftam_2 = contents_type 2

abbrev pub stamp : Stamp
stamp = record { moment = 0; identity = guest }

-- an FTAM-3 file of these strings
abbrev pub binary_file : (name : List ℕ) → (version : ℕ) → DataUnit → File
binary_file name version unit = record {
  name = name;
  permitted = set 255;
  contents = ftam_3;
  terms = [];
  created = stamp;
  modified = None;
  read = None;
  changed = None;
  version = version;
  tree = record { constraint = Unstructured; units = unit ∷ [] };
}

-- an FTAM-2 file of these records
abbrev pub text_file : (name : List ℕ) → List DataUnit → File
text_file name units =
    let file = binary_file name 1 [] in
    record file { contents = ftam_2; tree = record { constraint = SequentialFlat; units = units } }

-- a file after its attributes, its contents were changed, and after a read
abbrev pub changed : File → File
changed file = record file { changed = Some stamp }

abbrev pub modified : File → File
modified file = record file { modified = Some stamp }

abbrev pub was_read : File → File
was_read file = record file { read = Some stamp }

abbrev pub with_version : ℕ → File → File
with_version version file = record file { version = version }

abbrev pub octet : ℕ → Element
octet value = Binary (value ∷ [])

abbrev pub value : ℕ → Message
value number = messages.Element (octet number)

-- requests with their defaults
abbrev pub initialize : (units : ℕ) → Message
initialize units = messages.Pdu (InitializeRequest units None None 1)

abbrev pub initialize_as : List ℕ → (units : ℕ) → Message
initialize_as identity units = messages.Pdu (InitializeRequest units (Some identity) None 1)

abbrev pub select : List ℕ → (requested : ℕ) → Message
select name requested = messages.Pdu (SelectRequest name (set requested) None None)

abbrev pub create : List ℕ → Contents → (requested : ℕ) → Pdu
create name contents requested = CreateRequest 0 name contents (set 255) [] (set requested) None None

abbrev pub open_for : (mode : ℕ) → Message
open_for mode = messages.Pdu (OpenRequest mode None None None)

abbrev pub recoverable : (mode activity : ℕ) → Message
recoverable mode activity = messages.Pdu (OpenRequest mode None None (Some activity))

abbrev pub replace : Message
replace = messages.Pdu (WriteRequest Replace Begin)

abbrev pub read_whole : Message
read_whole = messages.Pdu (ReadRequest Begin UA)

abbrev pub recover : (activity number point : ℕ) → Message
recover activity number point = messages.Pdu (RecoverRequest activity number point)

-- at moment 0, with this next number in the session, which synchronizes
abbrev pub numbered : (serial : ℕ) → Setting
numbered serial = record { moment = 0; serial = serial; token = true; sync = true }

abbrev pub takes : (link : ℕ) → Message → Event
takes link message = Takes link (numbered 1) message

-- a link that arrives, and what comes on it
abbrev pub on : (link : ℕ) → List Message → List Event
on link messages = Arrives link ∷ map (takes link) messages

-- what comes on a link that stands
abbrev pub then_on : (link : ℕ) → List Message → List Event
then_on link messages = map (takes link) messages

abbrev pub said_to : (link : ℕ) → Sent → Option Said
said_to link sent = if nat_eq sent.link link then Some sent.said else None

-- what a run sends on a link
abbrev pub heard_on : (link : ℕ) → List Event → State → List Said
heard_on link events state = filter_map (said_to link) (run events state).sent

-- the files that a run leaves
abbrev pub left_by : List Event → State → List File
left_by events state = (run events state).state.files

abbrev pub history_in : Option StandingParty → History
history_in None = []
history_in (Some party) = party.history

-- the history of a link's party after a run
abbrev pub history_on : (link : ℕ) → List Event → State → History
history_on link events state = history_in (party_of link (run events state).state.parties)

abbrev pub replies : List Pdu → List Said
replies pdus = map answers.Pdu pdus

abbrev pub diagnostic : ℕ → Option Diagnostic
diagnostic number = Some (plain number)

-- What a store keeps of a recoverable open: its fields where no transfer is under way, and the same with a read and with
-- a write.
abbrev pub open_kept : (identity : List ℕ) (activity : ℕ) (file : List ℕ) (requested : Actions) → List Control → (mode : Actions) → Option (List ℕ) → (position number last : ℕ) → tables.Regime
open_kept identity activity file requested controls mode password position number last = record {
  identity = identity;
  activity = activity;
  file = file;
  requested = requested;
  controls = record { each = controls };
  mode = mode;
  password = password;
  position = position;
  number = number;
  last = last;
  window = 0;
  direction = Idle;
  fadu = Begin;
  refused = 0;
  point = 0;
  ended = false;
  version = 0;
}

abbrev pub at_rest : tables.Regime → Docket
at_rest regime = record { regime = regime; staged = [] }

abbrev pub in_read : FaduId → Context → (refused point version : ℕ) → tables.Regime → Docket
in_read fadu context refused point version regime = record {
  regime = record regime { direction = Read context; fadu = fadu; refused = refused; point = point; version = version };
  staged = [];
}

abbrev pub in_write : FaduId → WriteOperation → (refused point : ℕ) → List (List Element) → tables.Regime → Docket
in_write fadu operation refused point pieces regime = record {
  regime = record regime { direction = Write (operation_of operation); fadu = fadu; refused = refused; point = point };
  staged = pieces;
}
