-- What a recoverable open regime leaves where its association ends without a close (ISO 8571-3, docket; what it retains
-- is profile), and how parties and all of them go.
use Rattle.std.specs.Prelude.{ℕ, Bool, true, false, List, [], ◌∷◌, ◌++◌, flat_map, Option, None, Some, is_some, if◌then◌else◌}
use Rattle.vf_elements.specs.declared.message.Message.{Message}
use Rattle.vf_elements.specs.declared.message.Message.TheVariants as messages
use Rattle.vf_pdu.specs.declared.pdu.Pdu.TheVariants.{SelectRequest, CreateRequest, RecoverRequest, ReadRequest, WriteRequest, RestartRequest}
use Rattle.vf_filestore.specs.History.{History}
use Rattle.vf_filestore.specs.State.{Docket, State, StandingParty, activity_of, identity_of, party_of, without_docket, without_party}
use Rattle.vf_filestore.specs.Transfers.{under_way}

-- The messages by which the values before them are secured: the request of a transfer, its checks, each of which is
-- acknowledged at once, its acknowledgements, restarts and recoveries.
abbrev pub secures : Message → Bool
secures (messages.Pdu (ReadRequest fadu context)) = true
secures (messages.Pdu (WriteRequest operation fadu)) = true
secures (messages.Pdu (RestartRequest point)) = true
secures (messages.Pdu (RecoverRequest activity number point)) = true
secures messages.Check = true
secures (messages.Acknowledge point) = true
secures (messages.Restart point) = true
secures _ = false

-- without what came after the last such message
abbrev pub secured : History → History
secured [] = []
secured (entry ∷ earlier) = if secures entry.message then entry ∷ earlier else secured earlier

abbrev pub selects : Message → Bool
selects (messages.Pdu (SelectRequest name requested controls password)) = true
selects (messages.Pdu (CreateRequest over name contents permitted terms requested controls password)) = true
selects _ = false

-- from the last selection on
abbrev pub since_selection : History → History
since_selection [] = []
since_selection (entry ∷ earlier) = if selects entry.message then entry ∷ [] else entry ∷ since_selection earlier

-- What is retained of a history in which a recoverable open stands.
abbrev pub retained : History → History
retained history = since_selection (if is_some (under_way history) then secured history else history)

abbrev pub docket_by : Option ℕ → StandingParty → List Docket
docket_by None party = []
docket_by (Some activity) party =
    record { identity = identity_of party; activity = activity; history = retained party.history } ∷ []

-- the docket that a party leaves, where its open is recoverable
abbrev pub docket_left_by : StandingParty → List Docket
docket_left_by party = docket_by (activity_of party) party

abbrev pub dockets_left : Option StandingParty → List Docket
dockets_left None = []
dockets_left (Some party) = docket_left_by party

-- The association of a link is gone: by an abort, sent or received, or as the connection broke.
abbrev pub broken : (link : ℕ) → State → State
broken link state = record state {
  parties = without_party link state.parties;
  dockets = state.dockets ++ dockets_left (party_of link state.parties);
}

-- A docket is dropped, by whoever keeps the store.
abbrev pub dropped : (identity : List ℕ) (activity : ℕ) → State → State
dropped identity activity state = record state { dockets = without_docket identity activity state.dockets }

-- The responder stops: every association is gone.
abbrev pub stopped : State → State
stopped state = record state { parties = []; dockets = state.dockets ++ flat_map docket_left_by state.parties }
