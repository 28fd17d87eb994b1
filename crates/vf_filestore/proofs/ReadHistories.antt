-- What histories of messages that were read make of what stands: its fields are in the ranges that they have in a record.
use Rattle.std.proofs.Common.{◌≡◌, ℕ, zero, suc, ◌+◌, ◌-◌, ◌<◌, ◌≤◌, true, false, List, [], ◌∷◌, take, option_map, Option, None, Some, refl, ap, ◌∙◌, arith}
use Rattle.std.specs.Prelude.{IfSome, IsSome, nat_le}
use Rattle.std.specs.List.{AllByRecursion}
use Rattle.std.proofs.lemmas.Bool.{leb-false}
use Rattle.vf_base.specs.declared.element.Element.{Element}
use Rattle.vf_elements.specs.Stages.{takes}
use Rattle.vf_elements.specs.declared.message.Message.{Message}
use Rattle.vf_elements.specs.declared.message.Message.TheVariants as messages
use Rattle.vf_elements.specs.declared.stage.Stage.TheVariants as stages
use Rattle.vf_pdu.specs.PduMeaning.{IsInRange}
use Rattle.vf_pdu.specs.declared.pdu.Pdu.{Pdu}
use Rattle.vf_pdu.specs.declared.pdu.Pdu.TheVariants.{SelectRequest, CreateRequest, ChangeAttribRequest, DeselectRequest, DeleteRequest, OpenRequest, CloseRequest, ReadRequest, WriteRequest, TransferEndRequest, CancelRequest}
use Rattle.vf_tables.specs.Fitting.{is_activity, is_numbered, is_sayable, is_short}
use Rattle.vf_transfer.specs.Transfer as transfer
use Rattle.vf_transfer.specs.Transfer.{standing}
use Rattle.vf_filestore.specs.History.{Entry, Given, History, Regime, Selection, counting, done, opening, regime, renamed, selecting, selection}
use Rattle.vf_filestore.specs.Keeping.{AreKept, EachAfter, IsKeptEntry}
use Rattle.vf_filestore.specs.Limits.{most_transfers}
use Rattle.vf_filestore.specs.Ranges.{IsRead, IsReadEntry, IsUnspentIn}
use Rattle.vf_filestore.specs.Sound.{IsNested, IsPlaced}
use Rattle.vf_filestore.specs.Tables.{fadu_by}
use Rattle.vf_filestore.specs.Transfers.{Transfer, happened, transferring, under_way}
use Rattle.vf_filestore.proofs.Counted.{AreCounted}
use Rattle.vf_filestore.proofs.Lasting.{Lasts, each_both}
use Rattle.vf_filestore.proofs.Leading.{all_joined, both}
use Rattle.vf_filestore.proofs.Lists.{all_append}
use Rattle.vf_filestore.proofs.Nested.{placed, some_some}
use Rattle.vf_filestore.proofs.Ranged.{AreSayable}
use Rattle.vf_filestore.proofs.ReadMessages.{create_read, element_sayable, open_read, reads_numbered, select_read, writes_numbered}
use Rattle.vf_filestore.proofs.Views.{Place, in_association, in_selection, in_regime, in_reading, in_shown, in_writing, in_written, in_regime_only}
use Rattle.vf_filestore.proofs.Written.{Goes, IsHeard, IsOfWrite, IsWrittenEntry, all_written}

-- ---- an entry after histories that are alike

-- a transfer begins in an open
unspent_request : (earlier other : History) (request : Pdu) → AreCounted earlier other → IsPlaced earlier (messages.Pdu request) → IsUnspentIn earlier (messages.Pdu request) → IsUnspentIn other (messages.Pdu request)
unspent_request earlier other (ReadRequest fadu context) counted at unspent =
    let message = messages.Pdu (ReadRequest fadu context) in
    let there = in_regime_only message (record { reading = refl; shown = refl; writing = refl; written = refl }) refl refl (placed message earlier at) in
    ap (nat_le most_transfers) (counted (some_some (regime earlier) there.opened there.is)) ∙ unspent
unspent_request earlier other (WriteRequest operation fadu) counted at unspent =
    let message = messages.Pdu (WriteRequest operation fadu) in
    let there = in_regime_only message (record { reading = refl; shown = refl; writing = refl; written = refl }) refl refl (placed message earlier at) in
    ap (nat_le most_transfers) (counted (some_some (regime earlier) there.opened there.is)) ∙ unspent
unspent_request earlier other request counted at unspent = tt

unspent_alike : (earlier other : History) (message : Message) → AreCounted earlier other → IsPlaced earlier message → IsUnspentIn earlier message → IsUnspentIn other message
unspent_alike earlier other (messages.Pdu request) counted at unspent = unspent_request earlier other request counted at unspent
unspent_alike earlier other message counted at unspent = tt

pub read_lasts : Lasts IsReadEntry
read_lasts earlier other entry alike counted at read = record { read = read.read; unspent = unspent_alike earlier other entry.message counted at read.unspent }

-- ---- passwords of selections

abbrev pub IsShortSelection : Selection → Type 0
IsShortSelection one = is_short one.password ≡ true

short_renamed : (name : Option (List ℕ)) (one : Option Selection) → IfSome one IsShortSelection → IfSome (option_map (renamed name) one) IsShortSelection
short_renamed name None short = tt
short_renamed name (Some one) short = short

short_request : (request : Pdu) (before : Option Selection) → IsInRange request → IfSome before IsShortSelection → IfSome (selecting (messages.Pdu request) before) IsShortSelection
short_request (SelectRequest name requested controls password) before is short = select_read name requested controls password is
short_request (CreateRequest over name contents permitted terms requested controls password) before is short = (create_read over name contents permitted terms requested controls password is).short
short_request (ChangeAttribRequest name permitted terms others) before is short = short_renamed name before short
short_request DeselectRequest before is short = tt
short_request DeleteRequest before is short = tt
short_request request before is short = short

short_message : (message : Message) (before : Option Selection) → IsRead message → IfSome before IsShortSelection → IfSome (selecting message before) IsShortSelection
short_message (messages.Pdu request) before is short = short_request request before is short
short_message message before is short = short

pub all_short : (history : History) → EachAfter IsReadEntry history → IfSome (selection history) IsShortSelection
all_short [] each = tt
all_short (entry ∷ earlier) each = short_message entry.message (selection earlier) each.0.read (all_short earlier each.1)

-- ---- activities of opens

abbrev pub IsActive : Regime → Type 0
IsActive one = IfSome one.activity (λ activity. is_activity activity ≡ true)

active_request : (ordinal : ℕ) (request : Pdu) (before : Option Regime) → IsInRange request → IfSome before IsActive → IfSome (opening ordinal (messages.Pdu request) before) IsActive
active_request ordinal (OpenRequest mode contents controls activity) before is active = open_read mode contents controls activity is
active_request ordinal CloseRequest before is active = tt
active_request ordinal request before is active = active

active_message : (ordinal : ℕ) (message : Message) (before : Option Regime) → IsRead message → IfSome before IsActive → IfSome (opening ordinal message before) IsActive
active_message ordinal (messages.Pdu request) before is active = active_request ordinal request before is active
active_message ordinal message before is active = active

pub all_active : (history : History) → EachAfter IsReadEntry history → IfSome (regime history) IsActive
all_active [] each = tt
all_active (entry ∷ earlier) each = active_message entry.ordinal entry.message (regime earlier) each.0.read (all_active earlier each.1)

-- ---- FADUs of transfers

abbrev pub IsOfFadu : Transfer → Type 0
IsOfFadu one = is_numbered (fadu_by one.movement) ≡ true

fadu_request : (request : Pdu) (given : Given) (before : Option Transfer) → IsInRange request → IfSome before IsOfFadu → IfSome (transferring (messages.Pdu request) given before) IsOfFadu
fadu_request (ReadRequest fadu context) given before is numbered = reads_numbered fadu context is
fadu_request (WriteRequest operation fadu) given before is numbered = writes_numbered operation fadu is
fadu_request TransferEndRequest given before is numbered = tt
fadu_request (CancelRequest diagnostic) given before is numbered = tt
fadu_request request given before is numbered = numbered

fadu_message : (message : Message) (given : Given) (before : Option Transfer) → IsRead message → IfSome before IsOfFadu → IfSome (transferring message given before) IsOfFadu
fadu_message (messages.Pdu request) given before is numbered = fadu_request request given before is numbered
fadu_message message given before is numbered = numbered

pub all_of_fadus : (history : History) → EachAfter IsReadEntry history → IfSome (under_way history) IsOfFadu
all_of_fadus [] each = tt
all_of_fadus (entry ∷ earlier) each = fadu_message entry.message entry.given (under_way earlier) each.0.read (all_of_fadus earlier each.1)

-- ---- how many transfers an open has had

-- no more than it may have, and fewer while one is under way
record HasFewDone (moving : Option Transfer) (count : ℕ) : Type 0 where
  few : count ≤ most_transfers
  fewer : IsSome moving → count < most_transfers

-- a message that no stage outside a transfer takes
moves : (message : Message) → takes stages.Associated message ≡ false → takes stages.Selected message ≡ false → takes stages.Opened message ≡ false
    → {selection : Option Selection} {regime : Option Regime} {moving : Option Transfer} → Place message selection regime moving → IsSome moving
moves message a s o (in_association taken) = absurd cc
moves message a s o (in_selection one taken) = absurd cc
moves message a s o (in_regime one opened taken) = absurd cc
moves message a s o (in_reading one opened fadu context given taken) = refl
moves message a s o (in_shown one opened fadu context given taken) = refl
moves message a s o (in_writing one opened operation fadu given taken) = refl
moves message a s o (in_written one opened operation fadu given taken) = refl

begins : (moving : Option Transfer) (n : ℕ) → nat_le most_transfers n ≡ false → HasFewDone moving n
begins moving n unspent =
    let less = leb-false most_transfers n unspent in
    record { few = omega (arith, less); fewer = λ some. omega (arith, less) }

ends : (before : Option Transfer) (n : ℕ) → IsSome before → HasFewDone before n → HasFewDone None (n + 1)
ends before n some few =
    let less = few.fewer some in
    record { few = omega (arith, less); fewer = λ some. absurd cc }

done_request : (earlier : History) (request : Pdu) (given : Given) → IsPlaced earlier (messages.Pdu request) → IsUnspentIn earlier (messages.Pdu request) → HasFewDone (under_way earlier) (done earlier)
    → HasFewDone (transferring (messages.Pdu request) given (under_way earlier)) (counting (messages.Pdu request) (done earlier))
done_request earlier (OpenRequest mode contents controls activity) given at unspent few = record { few = omega arith; fewer = λ some. omega arith }
done_request earlier (ReadRequest fadu context) given at unspent few = begins (transferring (messages.Pdu (ReadRequest fadu context)) given (under_way earlier)) (done earlier) unspent
done_request earlier (WriteRequest operation fadu) given at unspent few = begins (transferring (messages.Pdu (WriteRequest operation fadu)) given (under_way earlier)) (done earlier) unspent
done_request earlier TransferEndRequest given at unspent few =
    ends (under_way earlier) (done earlier) (moves (messages.Pdu TransferEndRequest) refl refl refl (placed (messages.Pdu TransferEndRequest) earlier at)) few
done_request earlier (CancelRequest diagnostic) given at unspent few =
    ends (under_way earlier) (done earlier) (moves (messages.Pdu (CancelRequest diagnostic)) refl refl refl (placed (messages.Pdu (CancelRequest diagnostic)) earlier at)) few
done_request earlier request given at unspent few = few

done_message : (earlier : History) (message : Message) (given : Given) → IsPlaced earlier message → IsUnspentIn earlier message → HasFewDone (under_way earlier) (done earlier)
    → HasFewDone (transferring message given (under_way earlier)) (counting message (done earlier))
done_message earlier (messages.Pdu request) given at unspent few = done_request earlier request given at unspent few
done_message earlier message given at unspent few = few

all_done : (history : History) → IsNested history → EachAfter IsReadEntry history → HasFewDone (under_way history) (done history)
all_done [] nested each = record { few = omega arith; fewer = λ some. omega arith }
all_done (entry ∷ earlier) nested each = done_message earlier entry.message entry.given nested.0 each.0.unspent (all_done earlier nested.1 each.1)

pub few_done : (history : History) → IsNested history → EachAfter IsReadEntry history → done history ≤ most_transfers
few_done history nested each = (all_done history nested each).few

-- ---- the values of a write

pub record ArePiecesSayable (entries : List transfer.Entry) : Type 0 where
  pub closed : AllByRecursion AreSayable (standing 0 entries).closed
  pub after : AreSayable (standing 0 entries).after

pub all_taken : {A : Type 0} (P : A → Type 0) (n : ℕ) (xs : List A) → AllByRecursion P xs → AllByRecursion P (take n xs)
all_taken P zero xs all = tt
all_taken P (suc n) [] all = tt
all_taken P (suc n) (x ∷ xs) all = (all.0, all_taken P n xs all.1)

abbrev IsSayableAfter : History → Element → Type 0
IsSayableAfter earlier element = is_sayable element ≡ true

sayable_goes : Goes IsSayableAfter ArePiecesSayable
sayable_goes = record {
  none = record { closed = tt; after = refl };
  takes = λ earlier element is said. record {
    closed = said.closed;
    after = all_joined is_sayable (standing 0 (happened earlier)).after (element ∷ []) said.after (both (is_sayable element) true is refl);
  };
  checks = λ entries said. record { closed = all_append AreSayable (standing 0 entries).closed ((standing 0 entries).after ∷ []) said.closed (said.after, tt); after = refl };
  acknowledges = λ entries check said. record { closed = said.closed; after = said.after };
  restarts = λ entries check said. record { closed = all_taken AreSayable (check - 0) (standing 0 entries).closed said.closed; after = refl };
}

written_entry : (earlier : History) (entry : Entry) → IsReadEntry earlier entry → IsKeptEntry earlier entry → IsWrittenEntry IsSayableAfter earlier entry
written_entry earlier entry read kept = record { heard = by entry.message read.read; silent = kept.silent }
  where
    by : (message : Message) → IsRead message → IsHeard IsSayableAfter earlier message
    by (messages.Element element) is = element_sayable element is
    by message is = tt

pub all_sayable : (history : History) → EachAfter IsReadEntry history → AreKept history → IfSome (under_way history) (IsOfWrite ArePiecesSayable (happened history))
all_sayable history read kept =
    all_written IsSayableAfter ArePiecesSayable sayable_goes history (each_both IsReadEntry IsKeptEntry (IsWrittenEntry IsSayableAfter) history written_entry read kept)
