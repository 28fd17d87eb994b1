-- Who changes the contents does so by a mode that lets it.
use Rattle.std.proofs.Common.{◌≡◌, ℕ, Bool, true, false, not, ◌||◌, List, [], ◌∷◌, is_some, Option, None, Some, refl, ap, sym, subst, ◌∙◌}
use Rattle.std.specs.Prelude.{IfSome, IsSome, flat_map}
use Rattle.std.specs.List.{AllByRecursion}
use Rattle.std.proofs.lemmas.Bool.{not-false}
use Rattle.vf_attr.specs.Access.{has}
use Rattle.vf_attr.specs.declared.file.File.{File}
use Rattle.vf_base.specs.declared.access.FaduId.{FaduId}
use Rattle.vf_base.specs.declared.action.Action.TheVariants as actions
use Rattle.vf_base.specs.declared.action.Actions.{Actions}
use Rattle.vf_base.specs.declared.diagnostic.Diagnostic.{Diagnostic}
use Rattle.vf_base.specs.declared.element.Element.{Element}
use Rattle.vf_doctype.specs.declared.doc_type.DocType.{DocType}
use Rattle.vf_elements.specs.declared.message.Message.TheVariants as messages
use Rattle.vf_pdu.specs.declared.pdu.Pdu.{Pdu}
use Rattle.vf_pdu.specs.declared.pdu.Pdu.TheVariants.{LocateRequest, EraseRequest, ReadRequest, TransferEndRequest, CancelRequest}
use Rattle.vf_pdu_fields.specs.declared.operation.WriteOperation.{WriteOperation}
use Rattle.vf_pdu_fields.specs.declared.operation.WriteOperation.TheVariants.{Insert, Replace, Extend}
use Rattle.vf_tree.specs.Acts.{does, Erases}
use Rattle.vf_filestore.specs.Aborts.{Setting}
use Rattle.vf_filestore.specs.Decision.{Grants, erase_decision, request_decision}
use Rattle.vf_filestore.specs.Diagnostics.{not_permitted}
use Rattle.vf_filestore.specs.Ending.{Ending, cancel_ending, cancel_in, ending_in, ending_unless, stamp_of, transfer_ending}
use Rattle.vf_filestore.specs.History.{Given, Nothing, Made, Refused, Showed, Placed, Resumed, Selection, position, regime, selection}
use Rattle.vf_filestore.specs.Keeping.{AreHistoriesKept, AreKept, EachAfter, IsEarned, IsKeptEntry}
use Rattle.vf_filestore.specs.Opening.{act_row, action_of, action_row, placed, version_row}
use Rattle.vf_filestore.specs.Performed as performances
use Rattle.vf_filestore.specs.Performed.{operation, where_placed, read_by, wrote, wrote_by}
use Rattle.vf_filestore.specs.Sound.{IsInMode, IsSound, IsSoundParty, IsUsable, holding_by, holding_of_docket, holding_of_party}
use Rattle.vf_filestore.specs.State.{State, StandingParty, is_of_link, mode_in, party_of, selected_file, units_of}
use Rattle.vf_filestore.specs.Transfers.{Movement, Reads, Writes, Transfer, front, refusal_of, survivors, under_way}
use Rattle.vf_filestore.specs.Units.{file_access, unit_row}
use Rattle.vf_filestore.proofs.Decided.{first_passed, later_passed, row_passed, rows_passed}
use Rattle.vf_filestore.proofs.Decisions.{party_sound}
use Rattle.vf_filestore.proofs.KeptMoves.{IsKeptMove, moving_kept}
use Rattle.vf_filestore.proofs.Lists.{all-from_flat_map, all_right}
use Rattle.vf_filestore.proofs.Nested.{Nests, nests}
use Rattle.vf_filestore.proofs.Owned.{found_all}
use Rattle.vf_serial.specs.FileModel.{is_reading}
use Rattle.vf_serial.specs.Isolating.{may_change}
use Rattle.vf_serial.specs.Moves.{operation_in}

-- an operation that changes the contents is of the mode
abbrev pub IsOfIts : Actions → performances.Operation → Type 0
IsOfIts mode (performances.Located fadu) = Unit {0}
IsOfIts mode (performances.Read fadu context shown) = Unit {0}
IsOfIts mode (performances.Wrote written fadu values) = may_change mode ≡ true
IsOfIts mode (performances.Erased fadu) = may_change mode ≡ true

pub its_mode : (mode : Actions) (doc : Option DocType) (one : performances.Operation) → IsOfIts mode one → is_reading (operation_in doc one).act ≡ false → may_change mode ≡ true
its_mode mode doc (performances.Located fadu) is reads = absurd cc
its_mode mode doc (performances.Read fadu context shown) is reads = absurd cc
its_mode mode doc (performances.Wrote written fadu values) is reads = is
its_mode mode doc (performances.Erased fadu) is reads = is

abbrev pub AllOfIts : Actions → Option performances.Operation → Type 0
AllOfIts mode one = IfSome one (IsOfIts mode)

-- ---- modes

or_second : (a b : Bool) → b ≡ true → (a || b) ≡ true
or_second true b is = refl
or_second false b is = is

or_first : (a b : Bool) → a ≡ true → (a || b) ≡ true
or_first true b is = refl
or_first false b is = absurd cc

writes_change : (mode : Actions) (written : WriteOperation) → has mode (action_of written) ≡ true → may_change mode ≡ true
writes_change mode Insert is =
    or_first (has mode actions.Insert || has mode actions.Replace || has mode actions.Extend) (has mode actions.Erase)
    (or_first (has mode actions.Insert || has mode actions.Replace) (has mode actions.Extend) (or_first (has mode actions.Insert) (has mode actions.Replace) is))
writes_change mode Replace is =
    or_first (has mode actions.Insert || has mode actions.Replace || has mode actions.Extend) (has mode actions.Erase)
    (or_first (has mode actions.Insert || has mode actions.Replace) (has mode actions.Extend) (or_second (has mode actions.Insert) (has mode actions.Replace) is))
writes_change mode Extend is =
    or_first (has mode actions.Insert || has mode actions.Replace || has mode actions.Extend) (has mode actions.Erase)
    (or_second (has mode actions.Insert || has mode actions.Replace) (has mode actions.Extend) is)

-- ---- erasure

erase_mode : (party : StandingParty) (fadu : FaduId) (given : Given) (found : Option File) → erase_decision party fadu found ≡ Grants given → may_change (mode_in (regime party.history)) ≡ true
erase_mode party fadu given None is = absurd cc
erase_mode party fadu given (Some file) is =
    let mode = mode_in (regime party.history) in
    let unit = unit_row (units_of party) file_access in
    let first = action_row mode actions.Erase in
    let later = act_row (does file.tree (position party.history) (Erases fadu)) ∷ version_row file ∷ [] in
    let passed = rows_passed (unit ∷ first ∷ later) (placed (does file.tree (position party.history) (Erases fadu))) given is in
    let may = not-false (has mode actions.Erase) (row_passed (not (has mode actions.Erase)) not_permitted (first_passed first later (later_passed unit (first ∷ later) passed.passed))) in
    or_second (has mode actions.Insert || has mode actions.Replace || has mode actions.Extend) (has mode actions.Erase) may

-- ---- transfers

-- a write that isn't refused is of the mode
abbrev IsEarnedIn : Actions → Transfer → Type 0
IsEarnedIn mode transfer = IsEarned transfer.movement transfer.given × IsInMode mode transfer.movement transfer.given

earned_in : (state : State) (link : ℕ) (party : StandingParty) → IsSound state → AreHistoriesKept state → party_of link state.parties ≡ Some party → IfSome (under_way party.history) (IsEarnedIn (mode_in (regime party.history)))
earned_in state link party sound kept found =
    by (under_way party.history) refl (moving_kept party.history own.sound.nested each) (nested.transfers)
  where
    own : IsSoundParty state.files party
    own = party_sound state link party sound found

    each : AreKept party.history
    each = found_all (λ (one : StandingParty). EachAfter IsKeptEntry one.history) (is_of_link link) state.parties party found kept.parties

    nested : Nests (selection party.history) (regime party.history) (under_way party.history)
    nested = nests party.history own.sound.nested

    usable : AllByRecursion IsUsable (holding_of_party party)
    usable =
        found_all (λ (one : StandingParty). AllByRecursion IsUsable (holding_of_party one)) (is_of_link link) state.parties party found
        (all-from_flat_map holding_of_party IsUsable state.parties (all_right IsUsable (flat_map holding_of_docket state.dockets) (flat_map holding_of_party state.parties) sound.usable))

    by : (moving : Option Transfer) → under_way party.history ≡ moving → IfSome moving (IsKeptMove party.history) → (IsSome (under_way party.history) → IsSome (regime party.history)) → IfSome moving (IsEarnedIn (mode_in (regime party.history)))
    by None is kept_move within = tt
    by (Some transfer) is kept_move within = (kept_move.earned, of (selection party.history) (nested.regimes (within (ap is_some is))) (subst (λ moving. AllByRecursion IsUsable (holding_by (regime party.history) moving (selection party.history))) is usable))
      where
        of : (one : Option Selection) → IsSome one → AllByRecursion IsUsable (holding_by (regime party.history) (Some transfer) one) → IsInMode (mode_in (regime party.history)) transfer.movement transfer.given
        of None some all = absurd cc
        of (Some one) some all = all.0.moving

none_wrote : (mode : Actions) (given : Given) → AllOfIts mode (where_placed given None)
none_wrote mode Nothing = tt
none_wrote mode Made = tt
none_wrote mode (Refused version number) = tt
none_wrote mode (Showed version elements position) = tt
none_wrote mode (Placed position) = tt
none_wrote mode (Resumed goes_on check) = tt

some_wrote : (mode : Actions) (given : Given) (one : performances.Operation) → IsOfIts mode one → AllOfIts mode (where_placed given (Some one))
some_wrote mode Nothing one is = tt
some_wrote mode Made one is = tt
some_wrote mode (Refused version number) one is = tt
some_wrote mode (Showed version elements position) one is = tt
some_wrote mode (Placed position) one is = is
some_wrote mode (Resumed goes_on check) one is = tt

-- what its end gives, by whether the request was refused
wrote_of : (mode : Actions) (values : List Element) (given : Given) (movement : Movement) (was : Given) → IsEarned movement was × IsInMode mode movement was → (IsSome (refusal_of was) → given ≡ Nothing)
    → AllOfIts mode (where_placed given (wrote_by movement values))
wrote_of mode values given (Reads fadu context) was earned refused = none_wrote mode given
wrote_of mode values given (Writes written fadu) Nothing earned refused = some_wrote mode given (performances.Wrote written fadu values) (writes_change mode written earned.1)
wrote_of mode values given (Writes written fadu) (Refused version number) earned refused =
    subst (λ given. AllOfIts mode (where_placed given (Some (performances.Wrote written fadu values)))) (sym (refused refl)) tt
wrote_of mode values given (Writes written fadu) Made earned refused = absurd earned.0
wrote_of mode values given (Writes written fadu) (Showed version elements position) earned refused = absurd earned.0
wrote_of mode values given (Writes written fadu) (Placed position) earned refused = absurd earned.0
wrote_of mode values given (Writes written fadu) (Resumed goes_on check) earned refused = absurd earned.0

refused_gives : (one : Option Diagnostic) (ending : Ending) → IsSome one → (ending_unless one ending).given ≡ Nothing
refused_gives None ending some = absurd cc
refused_gives (Some diagnostic) ending some = refl

pub granted_is : (one given : Given) → Grants one ≡ Grants given → given ≡ one
granted_is one given is = cc

-- ---- what a request performs

pub performs_its : (state : State) (link : ℕ) (party : StandingParty) (setting : Setting) (request : Pdu) (given : Given) → IsSound state → AreHistoriesKept state → party_of link state.parties ≡ Some party
    → request_decision state party setting request ≡ Grants given → AllOfIts (mode_in (regime party.history)) (operation party.history (messages.Pdu request) given)
performs_its state link party setting (LocateRequest fadu) given sound kept found is = some_wrote (mode_in (regime party.history)) given (performances.Located fadu) tt
performs_its state link party setting (EraseRequest fadu) given sound kept found is =
    some_wrote (mode_in (regime party.history)) given (performances.Erased fadu) (erase_mode party fadu given (selected_file state party.history) is)
performs_its state link party setting (ReadRequest fadu context) given sound kept found is = by given
  where
    by : (given : Given) → AllOfIts (mode_in (regime party.history)) (read_by given fadu context)
    by Nothing = tt
    by Made = tt
    by (Refused version number) = tt
    by (Showed version elements at) = tt
    by (Placed at) = tt
    by (Resumed goes_on check) = tt
performs_its state link party setting TransferEndRequest given sound kept found is =
    by (under_way party.history) (earned_in state link party sound kept found) (granted_is (transfer_ending state party setting.moment).given given is)
  where
    by : (moving : Option Transfer) → IfSome moving (IsEarnedIn (mode_in (regime party.history))) → given ≡ (ending_in state party (stamp_of party setting.moment) moving).given
        → AllOfIts (mode_in (regime party.history)) (where_placed given (wrote moving (survivors party.history)))
    by None earned gives = none_wrote (mode_in (regime party.history)) given
    by (Some transfer) earned gives =
        wrote_of (mode_in (regime party.history)) (survivors party.history) given transfer.movement transfer.given earned (λ some. gives ∙ refused_gives (refusal_of transfer.given) _ some)
performs_its state link party setting (CancelRequest diagnostic) given sound kept found is =
    by (under_way party.history) (earned_in state link party sound kept found) (granted_is (cancel_ending state party setting.moment).given given is)
  where
    by : (moving : Option Transfer) → IfSome moving (IsEarnedIn (mode_in (regime party.history))) → given ≡ (cancel_in state party (stamp_of party setting.moment) moving).given
        → AllOfIts (mode_in (regime party.history)) (where_placed given (wrote moving (front party.history)))
    by None earned gives = none_wrote (mode_in (regime party.history)) given
    by (Some transfer) earned gives =
        wrote_of (mode_in (regime party.history)) (front party.history) given transfer.movement transfer.given earned (λ some. gives ∙ refused_gives (refusal_of transfer.given) _ some)
performs_its state link party setting request given sound kept found is = tt
