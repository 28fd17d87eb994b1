-- Messages by what they do to the regimes of a history, and where a stage takes a message.
use Rattle.std.proofs.Common.{◌≡◌, ℕ, Bool, true, false, List, ◌∷◌, Option, None, Some, inl, inr, refl}
use Rattle.std.specs.Prelude.{◌⊎◌}
use Rattle.vf_base.specs.declared.access.Context.{Context}
use Rattle.vf_base.specs.declared.access.FaduId.{FaduId}
use Rattle.vf_base.specs.declared.action.Actions.{Actions}
use Rattle.vf_base.specs.declared.contents.Contents.{Contents}
use Rattle.vf_base.specs.declared.diagnostic.Diagnostic.{Diagnostic}
use Rattle.vf_base.specs.declared.term.Term.{Term}
use Rattle.vf_elements.specs.Stages.{takes}
use Rattle.vf_elements.specs.declared.message.Message.{Message}
use Rattle.vf_elements.specs.declared.message.Message.TheVariants as messages
use Rattle.vf_elements.specs.declared.message.Said.{Said}
use Rattle.vf_elements.specs.declared.stage.Stage.TheVariants as stages
use Rattle.vf_pdu.specs.declared.pdu.Pdu.{Pdu}
use Rattle.vf_pdu.specs.declared.pdu.Pdu.TheVariants.{InitializeRequest, SelectRequest, CreateRequest, DeselectRequest, DeleteRequest, ChangeAttribRequest, OpenRequest, CloseRequest, RecoverRequest, ReadRequest, WriteRequest, TransferEndRequest, CancelRequest, RestartRequest}
use Rattle.vf_pdu_fields.specs.declared.controls.AttributeControls.{AttributeControls}
use Rattle.vf_pdu_fields.specs.declared.controls.ContentControls.{ContentControls}
use Rattle.vf_pdu_fields.specs.declared.operation.WriteOperation.{WriteOperation}
use Rattle.vf_transfer.specs.Transfer as transfer
use Rattle.vf_filestore.specs.Dockets.{selects as is_selection}
use Rattle.vf_filestore.specs.History.{Association, Given, Nothing, Made, Refused, Showed, Placed, Resumed, Regime, Selection, associating, opening, selecting}
use Rattle.vf_filestore.specs.Sound.{someone}
use Rattle.vf_filestore.specs.Stage.{stage_by}
use Rattle.vf_filestore.specs.Transfers.{Movement, Reads, Writes, Transfer, transferring, with_heard}

-- ---- views

-- a transfer that goes on with a message has one thing more, or as many
abbrev pub Grows : Message → Given → Type 0
Grows message given =
    (earlier : List transfer.Entry) → (with_heard message given earlier ≡ earlier) ⊎ ((one : transfer.Entry) × (with_heard message given earlier ≡ one ∷ earlier))

-- a message that leaves association, selection, regime and transfer as they are
pub record Other (message : Message) : Type 0 where
  pub associates : (said : List Said) (before : Option Association) → associating message said before ≡ before
  pub selects : (before : Option Selection) → selecting message before ≡ before
  pub opens : (ordinal : ℕ) (before : Option Regime) → opening ordinal message before ≡ before
  pub moves : (given : Given) (before : Option Transfer) → transferring message given before ≡ before
  pub grows : (given : Given) → Grows message given
  pub selects_nothing : is_selection message ≡ false

pub data View : Message → Type 0 where
  initializes : (units : ℕ) (identity password : Option (List ℕ)) (window : ℕ) → View (messages.Pdu (InitializeRequest units identity password window))
  selects : (name : List ℕ) (requested : Actions) (controls : Option AttributeControls) (password : Option (List ℕ)) → View (messages.Pdu (SelectRequest name requested controls password))
  creates : (over : ℕ) (name : List ℕ) (contents : Contents) (permitted : Actions) (terms : List Term) (requested : Actions) (controls : Option AttributeControls) (password : Option (List ℕ)) → View (messages.Pdu (CreateRequest over name contents permitted terms requested controls password))
  changes : (name : Option (List ℕ)) (permitted : Option Actions) (terms : Option (List Term)) (others : ℕ) → View (messages.Pdu (ChangeAttribRequest name permitted terms others))
  deselects : View (messages.Pdu DeselectRequest)
  deletes : View (messages.Pdu DeleteRequest)
  opens : (mode : ℕ) (contents : Option Contents) (controls : Option ContentControls) (activity : Option ℕ) → View (messages.Pdu (OpenRequest mode contents controls activity))
  closes : View (messages.Pdu CloseRequest)
  reads : (fadu : FaduId) (context : Context) → View (messages.Pdu (ReadRequest fadu context))
  writes : (operation : WriteOperation) (fadu : FaduId) → View (messages.Pdu (WriteRequest operation fadu))
  ends : View (messages.Pdu TransferEndRequest)
  cancels : (diagnostic : Option Diagnostic) → View (messages.Pdu (CancelRequest diagnostic))
  others : (message : Message) → Other message → View message

recovers_grow : (activity number point : ℕ) (given : Given) → Grows (messages.Pdu (RecoverRequest activity number point)) given
recovers_grow activity number point Nothing earlier = inl refl
recovers_grow activity number point Made earlier = inl refl
recovers_grow activity number point (Refused version diagnostic) earlier = inl refl
recovers_grow activity number point (Showed version elements position) earlier = inl refl
recovers_grow activity number point (Placed position) earlier = inl refl
recovers_grow activity number point (Resumed true at) earlier = inr (transfer.Restart at, refl)
recovers_grow activity number point (Resumed false at) earlier = inl refl

view_request : (request : Pdu) → View (messages.Pdu request)
view_request (InitializeRequest units identity password window) = initializes units identity password window
view_request (SelectRequest name requested controls password) = selects name requested controls password
view_request (CreateRequest over name contents permitted terms requested controls password) = creates over name contents permitted terms requested controls password
view_request (ChangeAttribRequest name permitted terms number) = changes name permitted terms number
view_request DeselectRequest = deselects
view_request DeleteRequest = deletes
view_request (OpenRequest mode contents controls activity) = opens mode contents controls activity
view_request CloseRequest = closes
view_request (ReadRequest fadu context) = reads fadu context
view_request (WriteRequest operation fadu) = writes operation fadu
view_request TransferEndRequest = ends
view_request (CancelRequest diagnostic) = cancels diagnostic
view_request (RecoverRequest activity number point) = others (messages.Pdu (RecoverRequest activity number point)) (record {
  associates = λ said before. refl;
  selects = λ before. refl;
  opens = λ ordinal before. refl;
  moves = λ given before. refl;
  grows = recovers_grow activity number point;
  selects_nothing = refl;
})
view_request (RestartRequest point) = others (messages.Pdu (RestartRequest point)) (record {
  associates = λ said before. refl;
  selects = λ before. refl;
  opens = λ ordinal before. refl;
  moves = λ given before. refl;
  grows = λ given earlier. inr (transfer.Restart point, refl);
  selects_nothing = refl;
})
view_request request = others (messages.Pdu request) (record {
  associates = λ said before. refl;
  selects = λ before. refl;
  opens = λ ordinal before. refl;
  moves = λ given before. refl;
  grows = λ given earlier. inl refl;
  selects_nothing = refl;
})

pub view : (message : Message) → View message
view (messages.Pdu request) = view_request request
view (messages.Element element) = others (messages.Element element) (record {
  associates = λ said before. refl;
  selects = λ before. refl;
  opens = λ ordinal before. refl;
  moves = λ given before. refl;
  grows = λ given earlier. inr (transfer.Value element, refl);
  selects_nothing = refl;
})
view messages.Check = others messages.Check (record {
  associates = λ said before. refl;
  selects = λ before. refl;
  opens = λ ordinal before. refl;
  moves = λ given before. refl;
  grows = λ given earlier. inr (transfer.Check, refl);
  selects_nothing = refl;
})
view (messages.Acknowledge point) = others (messages.Acknowledge point) (record {
  associates = λ said before. refl;
  selects = λ before. refl;
  opens = λ ordinal before. refl;
  moves = λ given before. refl;
  grows = λ given earlier. inr (transfer.Acknowledgement point, refl);
  selects_nothing = refl;
})
view (messages.Restart point) = others (messages.Restart point) (record {
  associates = λ said before. refl;
  selects = λ before. refl;
  opens = λ ordinal before. refl;
  moves = λ given before. refl;
  grows = λ given earlier. inr (transfer.Restart point, refl);
  selects_nothing = refl;
})
view messages.Break = others messages.Break (record {
  associates = λ said before. refl;
  selects = λ before. refl;
  opens = λ ordinal before. refl;
  moves = λ given before. refl;
  grows = λ given earlier. inl refl;
  selects_nothing = refl;
})

-- ---- places

-- where a stage within an association takes a message: what stands there
pub data Place (message : Message) : Option Selection → Option Regime → Option Transfer → Type 0 where
  in_association : takes stages.Associated message ≡ true → Place message None None None
  in_selection : (selection : Selection) → takes stages.Selected message ≡ true → Place message (Some selection) None None
  in_regime : (selection : Option Selection) (regime : Regime) → takes stages.Opened message ≡ true → Place message selection (Some regime) None
  in_reading : (selection : Option Selection) (regime : Option Regime) (fadu : FaduId) (context : Context) (given : Given) → takes stages.Reading message ≡ true → Place message selection regime (Some (record { movement = Reads fadu context; given = given }))
  in_shown : (selection : Option Selection) (regime : Option Regime) (fadu : FaduId) (context : Context) (given : Given) → takes stages.Shown message ≡ true → Place message selection regime (Some (record { movement = Reads fadu context; given = given }))
  in_writing : (selection : Option Selection) (regime : Option Regime) (operation : WriteOperation) (fadu : FaduId) (given : Given) → takes stages.Writing message ≡ true → Place message selection regime (Some (record { movement = Writes operation fadu; given = given }))
  in_written : (selection : Option Selection) (regime : Option Regime) (operation : WriteOperation) (fadu : FaduId) (given : Given) → takes stages.Written message ≡ true → Place message selection regime (Some (record { movement = Writes operation fadu; given = given }))

moving_place : (message : Message) (selection : Option Selection) (regime : Option Regime) (movement : Movement) (given : Given) (ended shown : Bool)
    → takes (stage_by (Some someone) selection regime (Some (record { movement = movement; given = given })) ended shown) message ≡ true
    → Place message selection regime (Some (record { movement = movement; given = given }))
moving_place message selection regime (Reads fadu context) given ended true taken = in_shown selection regime fadu context given taken
moving_place message selection regime (Reads fadu context) given ended false taken = in_reading selection regime fadu context given taken
moving_place message selection regime (Writes operation fadu) given true shown taken = in_written selection regime operation fadu given taken
moving_place message selection regime (Writes operation fadu) given false shown taken = in_writing selection regime operation fadu given taken

pub place : (message : Message) (selection : Option Selection) (regime : Option Regime) (transfer : Option Transfer) (ended shown : Bool)
    → takes (stage_by (Some someone) selection regime transfer ended shown) message ≡ true → Place message selection regime transfer
place message selection regime (Some transfer) ended shown taken =
    moving_place message selection regime transfer.movement transfer.given ended shown taken
place message selection (Some regime) None ended shown taken = in_regime selection regime taken
place message (Some selection) None None ended shown taken = in_selection selection taken
place message None None None ended shown taken = in_association taken

-- ---- messages that one stage takes

pub record AtAssociation (selection : Option Selection) (regime : Option Regime) (transfer : Option Transfer) : Type 0 where
  pub no_selection : selection ≡ None
  pub no_regime : regime ≡ None
  pub no_transfer : transfer ≡ None

pub record AtSelection (selection : Option Selection) (regime : Option Regime) (transfer : Option Transfer) : Type 0 where
  pub selected : Selection
  pub is : selection ≡ Some selected
  pub no_regime : regime ≡ None
  pub no_transfer : transfer ≡ None

pub record AtRegime (regime : Option Regime) (transfer : Option Transfer) : Type 0 where
  pub opened : Regime
  pub is : regime ≡ Some opened
  pub no_transfer : transfer ≡ None

-- no stage of a transfer takes the message
pub record NotMoving (message : Message) : Type 0 where
  pub reading : takes stages.Reading message ≡ false
  pub shown : takes stages.Shown message ≡ false
  pub writing : takes stages.Writing message ≡ false
  pub written : takes stages.Written message ≡ false

pub in_association_only : (message : Message) → NotMoving message → takes stages.Selected message ≡ false → takes stages.Opened message ≡ false
    → {selection : Option Selection} {regime : Option Regime} {transfer : Option Transfer} → Place message selection regime transfer
    → AtAssociation selection regime transfer
in_association_only message still s o (in_association taken) = record { no_selection = refl; no_regime = refl; no_transfer = refl }
in_association_only message still s o (in_selection selection taken) = absurd cc
in_association_only message still s o (in_regime selection regime taken) = absurd cc
in_association_only message still s o (in_reading selection regime fadu context given taken) = let never = still.reading in absurd cc
in_association_only message still s o (in_shown selection regime fadu context given taken) = let never = still.shown in absurd cc
in_association_only message still s o (in_writing selection regime operation fadu given taken) = let never = still.writing in absurd cc
in_association_only message still s o (in_written selection regime operation fadu given taken) = let never = still.written in absurd cc

pub in_selection_only : (message : Message) → NotMoving message → takes stages.Associated message ≡ false → takes stages.Opened message ≡ false
    → {selection : Option Selection} {regime : Option Regime} {transfer : Option Transfer} → Place message selection regime transfer
    → AtSelection selection regime transfer
in_selection_only message still a o (in_association taken) = absurd cc
in_selection_only message still a o (in_selection selection taken) = record { selected = selection; is = refl; no_regime = refl; no_transfer = refl }
in_selection_only message still a o (in_regime selection regime taken) = absurd cc
in_selection_only message still a o (in_reading selection regime fadu context given taken) = let never = still.reading in absurd cc
in_selection_only message still a o (in_shown selection regime fadu context given taken) = let never = still.shown in absurd cc
in_selection_only message still a o (in_writing selection regime operation fadu given taken) = let never = still.writing in absurd cc
in_selection_only message still a o (in_written selection regime operation fadu given taken) = let never = still.written in absurd cc

pub in_regime_only : (message : Message) → NotMoving message → takes stages.Associated message ≡ false → takes stages.Selected message ≡ false
    → {selection : Option Selection} {regime : Option Regime} {transfer : Option Transfer} → Place message selection regime transfer
    → AtRegime regime transfer
in_regime_only message still a s (in_association taken) = absurd cc
in_regime_only message still a s (in_selection selection taken) = absurd cc
in_regime_only message still a s (in_regime selection regime taken) = record { opened = regime; is = refl; no_transfer = refl }
in_regime_only message still a s (in_reading selection regime fadu context given taken) = let never = still.reading in absurd cc
in_regime_only message still a s (in_shown selection regime fadu context given taken) = let never = still.shown in absurd cc
in_regime_only message still a s (in_writing selection regime operation fadu given taken) = let never = still.writing in absurd cc
in_regime_only message still a s (in_written selection regime operation fadu given taken) = let never = still.written in absurd cc
