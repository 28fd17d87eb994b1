-- What is kept of the entries of a history, and what it makes of a transfer under way: what it was given, where it stands,
-- and that what stands of a write is within its limits.
use Rattle.std.proofs.Common.{◌≡◌, ℕ, zero, suc, ◌+◌, ◌≤◌, false, List, [], ◌∷◌, ◌++◌, length, take, Option, None, Some, refl, ap, sym, subst, ◌∙◌, arith, append_assoc, length-append}
use Rattle.std.specs.Prelude.{IfSome, IsSome, nat_le, nat_lt, ◌-◌}
use Rattle.std.specs.List.{sum_by}
use Rattle.std.proofs.lemmas.Bool.{or_parts, leb-false, ltb-false}
use Rattle.std.proofs.lemmas.List.{append-nil}
use Rattle.std.proofs.lemmas.List.Sums.{sum_by-append, sum_by-cons}
use Rattle.vf_base.specs.declared.element.Element.{Element}
use Rattle.vf_elements.specs.declared.message.Message.{Message}
use Rattle.vf_elements.specs.declared.message.Message.TheVariants as messages
use Rattle.vf_pdu.specs.declared.pdu.Pdu.{Pdu}
use Rattle.vf_pdu.specs.declared.pdu.Pdu.TheVariants.{OpenRequest, LocateRequest, EraseRequest, ReadRequest, WriteRequest, TransferEndRequest, CancelRequest}
use Rattle.vf_tables.specs.Validity.{elements_staged, octets_staged}
use Rattle.vf_tables.specs.declared.limits.TheConstants.{MOST_SURVIVING_ELEMENTS, MOST_SURVIVING_OCTETS}
use Rattle.vf_transfer.specs.Transfer as transfer
use Rattle.vf_transfer.specs.Transfer.{joined, standing}
use Rattle.vf_tree.specs.FileTree.{octets_of, octets_of_unit}
use Rattle.vf_filestore.specs.Aborts.{passes_survivors}
use Rattle.vf_filestore.specs.History.{Entry, Given, Nothing, Made, Refused, Showed, Placed, Resumed, History, Regime, Selection, placed_by, placing, position, regime, selection}
use Rattle.vf_filestore.specs.Keeping.{AreKept, IsEarned, IsGiven, IsGivenTo, IsKeptEntry, IsSilentIn, IsTakenIn, IsUnplaced}
use Rattle.vf_filestore.specs.Limits.{most_survivor_octets, most_survivors}
use Rattle.vf_filestore.specs.Sound.{IsNested, IsPlaced}
use Rattle.vf_filestore.specs.Tables.{staged_of}
use Rattle.vf_filestore.specs.Transfers.{Movement, Reads, Writes, Transfer, happened, point, survivors, transferring, under_way}
use Rattle.vf_filestore.proofs.Alike.{AreAlike}
use Rattle.vf_filestore.proofs.Lasting.{Lasts, each_weaker}
use Rattle.vf_filestore.proofs.Nested.{placed}
use Rattle.vf_filestore.proofs.Soundness.{moving_happens}
use Rattle.vf_filestore.proofs.Views.{Place, in_association, in_selection, in_regime, in_reading, in_shown, in_writing, in_written, in_regime_only, in_selection_only}
use Rattle.vf_filestore.proofs.Written.{Goes, IsHeard, IsOfWrite, IsWrittenBy, IsWrittenEntry, all_written}

-- ---- a transfer under way

-- a read stands where it came to
abbrev pub IsAt : Given → (position : ℕ) → Type 0
IsAt (Showed version elements position) at = at ≡ position
IsAt given at = Unit {0}

-- what it was given, where it stands, and that what stands of a write is within its limits
pub record IsKeptMove (history : History) (transfer : Transfer) : Type 0 where
  pub earned : IsEarned transfer.movement transfer.given
  pub at : IsAt transfer.given (position history)
  pub few_octets : octets_staged (staged_of history (Some transfer)) ≤ MOST_SURVIVING_OCTETS
  pub few_elements : elements_staged (staged_of history (Some transfer)) ≤ MOST_SURVIVING_ELEMENTS

-- ---- an entry after histories that are alike

-- an element comes in a transfer
element_moves : (element : Element) (selection : Option Selection) (regime : Option Regime) (moving : Option Transfer) → Place (messages.Element element) selection regime moving → IsSome moving
element_moves element selection regime moving (in_association taken) = absurd cc
element_moves element selection regime moving (in_selection one taken) = absurd cc
element_moves element selection regime moving (in_regime one opened taken) = absurd cc
element_moves element selection regime moving (in_reading one opened fadu context given taken) = refl
element_moves element selection regime moving (in_shown one opened fadu context given taken) = refl
element_moves element selection regime moving (in_writing one opened operation fadu given taken) = refl
element_moves element selection regime moving (in_written one opened operation fadu given taken) = refl

taken_alike : (earlier other : History) (message : Message) → AreAlike earlier other → IsPlaced earlier message → IsTakenIn earlier message → IsTakenIn other message
taken_alike earlier other (messages.Element element) alike at taken =
    let moves = element_moves element (selection earlier) (regime earlier) (under_way earlier) (placed (messages.Element element) earlier at) in
    ap (λ entries. passes_survivors (transfer.survivors 0 entries) element) (moving_happens earlier other alike moves) ∙ taken
taken_alike earlier other message alike at taken = tt

pub kept_lasts : Lasts IsKeptEntry
kept_lasts earlier other entry alike counted at kept = record {
  given = kept.given;
  taken = taken_alike earlier other entry.message alike at kept.taken;
  silent = subst (λ (moving : Option Transfer). IfSome (transferring entry.message entry.given moving) (λ (transfer : Transfer). IsSilentIn transfer.movement entry.said)) (sym alike.moves) kept.silent;
}

-- ---- what a transfer was given

abbrev HasEarned : Transfer → Type 0
HasEarned transfer = IsEarned transfer.movement transfer.given

earned_request : (request : Pdu) (given : Given) (before : Option Transfer) → IsGivenTo request given → IfSome before HasEarned → IfSome (transferring (messages.Pdu request) given before) HasEarned
earned_request (ReadRequest fadu context) given before is earned = is
earned_request (WriteRequest operation fadu) given before is earned = is
earned_request TransferEndRequest given before is earned = tt
earned_request (CancelRequest diagnostic) given before is earned = tt
earned_request request given before is earned = earned

earned_message : (message : Message) (given : Given) (before : Option Transfer) → IsGiven message given → IfSome before HasEarned → IfSome (transferring message given before) HasEarned
earned_message (messages.Pdu request) given before is earned = earned_request request given before is earned
earned_message message given before is earned = earned

all_earned : (history : History) → AreKept history → IfSome (under_way history) HasEarned
all_earned [] kept = tt
all_earned (entry ∷ earlier) kept = earned_message entry.message entry.given (under_way earlier) kept.0.given (all_earned earlier kept.1)

-- ---- where a transfer stands

abbrev StandsAt : ℕ → Transfer → Type 0
StandsAt at transfer = IsAt transfer.given at

stays_there : (given : Given) (at : ℕ) → IsUnplaced given → placed_by given at ≡ at
stays_there Nothing at is = refl
stays_there Made at is = refl
stays_there (Refused version number) at is = refl
stays_there (Showed version elements position) at is = absurd is
stays_there (Placed position) at is = absurd is
stays_there (Resumed goes_on check) at is = refl

own_place : (given : Given) (at : ℕ) → IsAt given (placed_by given at)
own_place Nothing at = tt
own_place Made at = tt
own_place (Refused version number) at = tt
own_place (Showed version elements position) at = refl
own_place (Placed position) at = tt
own_place (Resumed goes_on check) at = tt

kept_place : (given : Given) (at : ℕ) (before : Option Transfer) → IsUnplaced given → IfSome before (StandsAt at) → IfSome before (StandsAt (placed_by given at))
kept_place given at before is stands = subst (λ n. IfSome before (StandsAt n)) (sym (stays_there given at is)) stands

no_transfer : (at : ℕ) (before : Option Transfer) → before ≡ None → IfSome before (StandsAt at)
no_transfer at before none = subst (λ (one : Option Transfer). IfSome one (StandsAt at)) (sym none) tt

stands_request : (earlier : History) (request : Pdu) (given : Given) (at : ℕ) → IsPlaced earlier (messages.Pdu request) → IsGivenTo request given → IfSome (under_way earlier) (StandsAt at)
    → IfSome (transferring (messages.Pdu request) given (under_way earlier)) (StandsAt (placing (messages.Pdu request) given at))
stands_request earlier (ReadRequest fadu context) given at placed_at is stands = own_place given at
stands_request earlier (WriteRequest operation fadu) given at placed_at is stands = own_place given at
stands_request earlier TransferEndRequest given at placed_at is stands = tt
stands_request earlier (CancelRequest diagnostic) given at placed_at is stands = tt
stands_request earlier (OpenRequest mode contents controls activity) given at placed_at is stands =
    let request = OpenRequest mode contents controls activity in
    no_transfer 0 (under_way earlier) (in_selection_only (messages.Pdu request) (record { reading = refl; shown = refl; writing = refl; written = refl }) refl refl (placed (messages.Pdu request) earlier placed_at)).no_transfer
stands_request earlier (LocateRequest fadu) given at placed_at is stands =
    no_transfer (placed_by given at) (under_way earlier) (in_regime_only (messages.Pdu (LocateRequest fadu)) (record { reading = refl; shown = refl; writing = refl; written = refl }) refl refl (placed (messages.Pdu (LocateRequest fadu)) earlier placed_at)).no_transfer
stands_request earlier (EraseRequest fadu) given at placed_at is stands =
    no_transfer (placed_by given at) (under_way earlier) (in_regime_only (messages.Pdu (EraseRequest fadu)) (record { reading = refl; shown = refl; writing = refl; written = refl }) refl refl (placed (messages.Pdu (EraseRequest fadu)) earlier placed_at)).no_transfer
stands_request earlier request given at placed_at is stands = kept_place given at (under_way earlier) is stands

stands_message : (earlier : History) (message : Message) (given : Given) (at : ℕ) → IsPlaced earlier message → IsGiven message given → IfSome (under_way earlier) (StandsAt at)
    → IfSome (transferring message given (under_way earlier)) (StandsAt (placing message given at))
stands_message earlier (messages.Pdu request) given at placed_at is stands = stands_request earlier request given at placed_at is stands
stands_message earlier message given at placed_at is stands = kept_place given at (under_way earlier) is stands

pub all_stand_there : (history : History) → IsNested history → AreKept history → IfSome (under_way history) (StandsAt (position history))
all_stand_there [] nested kept = tt
all_stand_there (entry ∷ earlier) nested kept = stands_message earlier entry.message entry.given (position earlier) nested.0 kept.0.given (all_stand_there earlier nested.1 kept.1)

-- ---- what stands of a write is within its limits

-- a size of values that adds up
record IsSize (size : List Element → ℕ) : Type 0 where
  none : size [] ≡ 0
  adds : (xs ys : List Element) → size (xs ++ ys) ≡ size xs + size ys

octets_are : IsSize octets_of_unit
octets_are = record { none = refl; adds = λ xs ys. sum_by-append octets_of xs ys }

elements_are : IsSize (λ values. length values)
elements_are = record { none = refl; adds = λ xs ys. length-append xs ys }

module _ (size : List Element → ℕ) (is_size : IsSize size) where
  joined_size : (pieces : List (List Element)) → size (joined pieces) ≡ sum_by size pieces
  joined_size [] = is_size.none
  joined_size (piece ∷ pieces) =
      let rest = joined_size pieces in
      let more = sum_by-cons size piece pieces in
      is_size.adds piece (joined pieces) ∙ omega (arith, rest, more)

  taken_size : (n : ℕ) (pieces : List (List Element)) → sum_by size (take n pieces) ≤ sum_by size pieces
  taken_size zero pieces = omega arith
  taken_size (suc n) [] = omega arith
  taken_size (suc n) (piece ∷ pieces) =
      let rest = taken_size n pieces in
      let some = sum_by-cons size piece (take n pieces) in
      let all = sum_by-cons size piece pieces in
      omega (arith, rest, some, all)

  -- the pieces up to a check are within what stands
  staged_size : (n : ℕ) (entries : List transfer.Entry) → sum_by size (take n (standing 0 entries).closed) ≤ size (transfer.survivors 0 entries)
  staged_size n entries =
      let closed = (standing 0 entries).closed in
      let first = taken_size n closed in
      let second = joined_size closed in
      let third = is_size.adds (joined closed) (standing 0 entries).after in
      omega (arith, first, second, third)

  restart_size : (n : ℕ) (entries : List transfer.Entry) → size (joined (take n (standing 0 entries).closed) ++ []) ≤ size (transfer.survivors 0 entries)
  restart_size n entries =
      let within = staged_size n entries in
      let own = joined_size (take n (standing 0 entries).closed) in
      let all = ap size (append-nil (joined (take n (standing 0 entries).closed))) in
      omega (arith, within, own, all)

pub record IsRoomy (values : List Element) : Type 0 where
  pub octets : octets_of_unit values ≤ most_survivor_octets
  pub elements : length values ≤ most_survivors

abbrev IsRoomyIn : List transfer.Entry → Type 0
IsRoomyIn entries = IsRoomy (transfer.survivors 0 entries)

joined_append : (pieces : List (List Element)) (piece : List Element) → joined (pieces ++ piece ∷ []) ≡ joined pieces ++ piece
joined_append [] piece = append-nil piece
joined_append (first ∷ pieces) piece = ap (λ (rest : List Element). first ++ rest) (joined_append pieces piece) ∙ sym (append_assoc first (joined pieces) piece)

check_survives : (entries : List transfer.Entry) → transfer.survivors 0 (transfer.Check ∷ entries) ≡ transfer.survivors 0 entries
check_survives entries = append-nil (joined ((standing 0 entries).closed ++ (standing 0 entries).after ∷ [])) ∙ joined_append (standing 0 entries).closed (standing 0 entries).after

roomy_restart : (entries : List transfer.Entry) (check : ℕ) → IsRoomyIn entries → IsRoomyIn (transfer.Restart check ∷ entries)
roomy_restart entries check roomy = record {
  octets = omega (arith, restart_size octets_of_unit octets_are (check - 0) entries, roomy.octets);
  elements = omega (arith, restart_size (λ values. length values) elements_are (check - 0) entries, roomy.elements);
}

roomy_value : (entries : List transfer.Entry) (element : Element) → passes_survivors (transfer.survivors 0 entries) element ≡ false → IsRoomyIn (transfer.Value element ∷ entries)
roomy_value entries element room =
    let values = transfer.survivors 0 entries in
    let parts = or_parts (nat_lt most_survivor_octets (octets_of_unit values + octets_of element)) (nat_le most_survivors (length values)) room in
    let octets = ltb-false most_survivor_octets (octets_of_unit values + octets_of element) parts.0 in
    let elements = leb-false most_survivors (length values) parts.1 in
    let more : transfer.survivors 0 (transfer.Value element ∷ entries) ≡ values ++ element ∷ []
    = sym (append_assoc (joined (standing 0 entries).closed) (standing 0 entries).after (element ∷ [])) in
    let one : octets_of_unit (element ∷ []) ≡ octets_of element = sum_by-cons octets_of element [] ∙ omega arith in
    subst (λ (all : List Element). IsRoomy all) (sym more) (record {
      octets = omega (arith, octets, octets_are.adds values (element ∷ []), one);
      elements = omega (arith, elements, length-append values (element ∷ []));
    })

-- an element came where there was room for it
abbrev HasRoomFor : History → Element → Type 0
HasRoomFor earlier element = passes_survivors (survivors earlier) element ≡ false

roomy_goes : Goes HasRoomFor IsRoomyIn
roomy_goes = record {
  none = record { octets = omega arith; elements = omega arith };
  takes = λ earlier element room roomy. roomy_value (happened earlier) element room;
  checks = λ entries roomy. subst (λ (all : List Element). IsRoomy all) (sym (check_survives entries)) roomy;
  acknowledges = λ entries check roomy. roomy;
  restarts = roomy_restart;
}

written_entry : (earlier : History) (entry : Entry) → IsKeptEntry earlier entry → IsWrittenEntry HasRoomFor earlier entry
written_entry earlier entry kept = record { heard = by entry.message kept.taken; silent = kept.silent }
  where
    by : (message : Message) → IsTakenIn earlier message → IsHeard HasRoomFor earlier message
    by (messages.Element element) taken = taken
    by message taken = tt

all_roomy : (history : History) → AreKept history → IfSome (under_way history) (IsOfWrite IsRoomyIn (happened history))
all_roomy history kept = all_written HasRoomFor IsRoomyIn roomy_goes history (each_weaker IsKeptEntry (IsWrittenEntry HasRoomFor) history written_entry kept)

-- ---- a transfer under way

pub moving_kept : (history : History) → IsNested history → AreKept history → IfSome (under_way history) (IsKeptMove history)
moving_kept history nested kept = by (under_way history) (all_earned history kept) (all_stand_there history nested kept) (all_roomy history kept)
  where
    few : (movement : Movement) (given : Given) → IsWrittenBy IsRoomyIn (happened history) movement
        → (octets_staged (staged_of history (Some (record { movement = movement; given = given }))) ≤ MOST_SURVIVING_OCTETS) × (elements_staged (staged_of history (Some (record { movement = movement; given = given }))) ≤ MOST_SURVIVING_ELEMENTS)
    few (Reads fadu context) given roomy = (omega arith, omega arith)
    few (Writes operation fadu) given roomy = (
      omega (arith, staged_size octets_of_unit octets_are (point history) (happened history), roomy.octets),
      omega (arith, staged_size (λ values. length values) elements_are (point history) (happened history), roomy.elements),
    )

    by : (one : Option Transfer) → IfSome one HasEarned → IfSome one (StandsAt (position history)) → IfSome one (IsOfWrite IsRoomyIn (happened history)) → IfSome one (IsKeptMove history)
    by None earned stands roomy = tt
    by (Some one) earned stands roomy =
        let within = few one.movement one.given roomy in
        record { earned = earned; at = stands; few_octets = within.0; few_elements = within.1 }
