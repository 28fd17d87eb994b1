-- What is retained of a history, and what a recovery takes up, leaves an open regime at its position.
use Rattle.std.proofs.Common.{◌≡◌, ℕ, Bool, true, false, cond, [], ◌∷◌, ◌++◌, is_some, Option, None, refl, ap, sym, subst, ◌∙◌}
use Rattle.std.specs.Prelude.{IsSome}
use Rattle.vf_elements.specs.declared.message.Message.{Message}
use Rattle.vf_elements.specs.declared.message.Message.TheVariants as messages
use Rattle.vf_pdu.specs.declared.pdu.Pdu.{Pdu}
use Rattle.vf_pdu.specs.declared.pdu.Pdu.TheVariants.{OpenRequest, CloseRequest, LocateRequest, EraseRequest, ReadRequest, WriteRequest, TransferEndRequest, CancelRequest}
use Rattle.vf_filestore.specs.Dockets.{retained, secured, secures, since_selection}
use Rattle.vf_filestore.specs.Dockets.{selects as is_selection}
use Rattle.vf_filestore.specs.History.{Entry, Given, Nothing, Made, Refused, Showed, Placed, Resumed, History, Regime, opening, placed_by, placing, position, regime}
use Rattle.vf_filestore.specs.Keeping.{AreKept, IsGiven, IsGivenTo, IsUnplaced}
use Rattle.vf_filestore.specs.Sound.{IsNested, IsPlaced}
use Rattle.vf_filestore.specs.Transfers.{transferring, under_way}
use Rattle.vf_filestore.proofs.Nested.{none_some, placed}
use Rattle.vf_filestore.proofs.Retained.{secured_alike, selected_at}
use Rattle.vf_filestore.proofs.Views.{in_regime_only, in_selection_only, view}

-- ---- nothing is given a position

pub unplaced : (given : Given) (at : ℕ) → IsUnplaced given → placed_by given at ≡ at
unplaced Nothing at is = refl
unplaced Made at is = refl
unplaced (Refused version number) at is = refl
unplaced (Showed version elements position) at is = absurd is
unplaced (Placed position) at is = absurd is
unplaced (Resumed goes_on check) at is = refl

-- ---- where an open stands in the one, the other is at the same position

abbrev pub ArePlaced : (history other : History) → Type 0
ArePlaced history other = IsSome (regime history) → position other ≡ position history

placed_request : (ordinal : ℕ) (request : Pdu) (given : Given) (before : Option Regime) (n m : ℕ) → (IsSome before → m ≡ n) → IsSome (opening ordinal (messages.Pdu request) before)
    → placing (messages.Pdu request) given m ≡ placing (messages.Pdu request) given n
placed_request ordinal (OpenRequest mode contents controls activity) given before n m same some = refl
placed_request ordinal CloseRequest given before n m same some = absurd cc
placed_request ordinal request given before n m same some = ap (placed_by given) (same some)

placed_message : (ordinal : ℕ) (message : Message) (given : Given) (before : Option Regime) (n m : ℕ) → (IsSome before → m ≡ n) → IsSome (opening ordinal message before) → placing message given m ≡ placing message given n
placed_message ordinal (messages.Pdu request) given before n m same some = placed_request ordinal request given before n m same some
placed_message ordinal message given before n m same some = ap (placed_by given) (same some)

placed_after : (entry : Entry) (history other : History) → ArePlaced history other → ArePlaced (entry ∷ history) (entry ∷ other)
placed_after entry history other same some = placed_message entry.ordinal entry.message entry.given (regime history) (position history) (position other) same some

placed_none : (history other : History) → regime history ≡ None → ArePlaced history other
placed_none history other none some = none_some (position other ≡ position history) (regime history) none some

placed_since : (history : History) → IsNested history → ArePlaced history (since_selection history)
placed_since [] nested = λ some. absurd cc
placed_since (entry ∷ earlier) nested = by (placed_since earlier nested.1) (is_selection entry.message) refl
  where
    by : ArePlaced earlier (since_selection earlier) → (b : Bool) → is_selection entry.message ≡ b → ArePlaced (entry ∷ earlier) (cond b (entry ∷ []) (entry ∷ since_selection earlier))
    by rest true is = placed_after entry earlier [] (placed_none earlier [] (selected_at earlier entry.message (view entry.message) is nested.0).no_regime)
    by rest false is = placed_after entry earlier (since_selection earlier) rest

pub placed_resumed : (docket party : History) → ArePlaced docket (docket ++ party)
placed_resumed [] party = λ some. absurd cc
placed_resumed (entry ∷ docket) party = placed_after entry docket (docket ++ party) (placed_resumed docket party)

-- ---- what came last in a transfer, and secures nothing

record IsLate (earlier : History) (message : Message) (given : Given) : Type 0 where
  moves : IsSome (under_way earlier)
  same : placing message given (position earlier) ≡ position earlier

late_request : (earlier : History) (request : Pdu) (given : Given) → IsPlaced earlier (messages.Pdu request) → IsGivenTo request given → secures (messages.Pdu request) ≡ false
    → IsSome (transferring (messages.Pdu request) given (under_way earlier)) → IsLate earlier (messages.Pdu request) given
late_request earlier (ReadRequest fadu context) given at is late some = absurd cc
late_request earlier (WriteRequest operation fadu) given at is late some = absurd cc
late_request earlier TransferEndRequest given at is late some = absurd cc
late_request earlier (CancelRequest diagnostic) given at is late some = absurd cc
late_request earlier (OpenRequest mode contents controls activity) given at is late some =
    let message = messages.Pdu (OpenRequest mode contents controls activity) in
    none_some (IsLate earlier message given) (under_way earlier)
    (in_selection_only message (record { reading = refl; shown = refl; writing = refl; written = refl }) refl refl (placed message earlier at)).no_transfer some
late_request earlier (LocateRequest fadu) given at is late some =
    let message = messages.Pdu (LocateRequest fadu) in
    none_some (IsLate earlier message given) (under_way earlier)
    (in_regime_only message (record { reading = refl; shown = refl; writing = refl; written = refl }) refl refl (placed message earlier at)).no_transfer some
late_request earlier (EraseRequest fadu) given at is late some =
    let message = messages.Pdu (EraseRequest fadu) in
    none_some (IsLate earlier message given) (under_way earlier)
    (in_regime_only message (record { reading = refl; shown = refl; writing = refl; written = refl }) refl refl (placed message earlier at)).no_transfer some
late_request earlier request given at is late some = record { moves = some; same = unplaced given (position earlier) is }

late_message : (earlier : History) (message : Message) (given : Given) → IsPlaced earlier message → IsGiven message given → secures message ≡ false → IsSome (transferring message given (under_way earlier)) → IsLate earlier message given
late_message earlier (messages.Pdu request) given at is late some = late_request earlier request given at is late some
late_message earlier message given at is late some = record { moves = some; same = unplaced given (position earlier) is }

secured_place : (history : History) → IsNested history → AreKept history → IsSome (under_way history) → position (secured history) ≡ position history
secured_place [] nested kept some = refl
secured_place (entry ∷ earlier) nested kept some = by (secures entry.message) refl (secured_place earlier nested.1 kept.1)
  where
    by : (b : Bool) → secures entry.message ≡ b → (IsSome (under_way earlier) → position (secured earlier) ≡ position earlier) → position (cond b (entry ∷ earlier) (secured earlier)) ≡ position (entry ∷ earlier)
    by true is rest = refl
    by false is rest =
        let late = late_message earlier entry.message entry.given nested.0 kept.0.given is some in
        rest late.moves ∙ sym late.same

pub placed_retained : (history : History) → IsNested history → AreKept history → ArePlaced history (retained history)
placed_retained history nested kept opened = by (is_some (under_way history)) refl
  where
    by : (b : Bool) → is_some (under_way history) ≡ b → position (since_selection (cond b (secured history) history)) ≡ position history
    by true moves =
        let alike = secured_alike history nested moves in
        placed_since (secured history) alike.nested (subst (λ (one : Option Regime). IsSome one) (sym alike.opens) opened) ∙ secured_place history nested kept moves
    by false rests = placed_since history nested opened
