-- Recovery of a transfer (ISO 8571-3; profile): it goes on as after a restart at its point, so that a sender who says its own list
-- from there has exactly that performed, once, however often it broke.
use Rattle.std.specs.Prelude.{◌≡◌, ℕ, zero, suc, List, [], ◌∷◌, ◌++◌, drop, slice_get, None, Some, true, IsSome, if◌then◌else◌}
use Rattle.std.specs.List.{AllByRecursion}
use Rattle.vf_base.specs.declared.access.FaduId.{FaduId}
use Rattle.vf_base.specs.declared.element.Element.{Element}
use Rattle.vf_elements.specs.declared.message.Message.TheVariants as messages
use Rattle.vf_pdu.specs.declared.pdu.Pdu.TheVariants.{RecoverRequest, TransferEndRequest}
use Rattle.vf_pdu_fields.specs.declared.operation.WriteOperation.{WriteOperation}
use Rattle.vf_transfer.specs.Transfer as transfer
use Rattle.vf_transfer.specs.Transfer.{Entry, NamesKnownChecks}
use Rattle.vf_filestore.specs.Dockets.{retained, secures}
use Rattle.vf_filestore.specs.History as history
use Rattle.vf_filestore.specs.History.{Given, Nothing, Placed, Resumed, History, regime, selection}
use Rattle.vf_filestore.specs.Performed.{Wrote, operation}
use Rattle.vf_filestore.specs.Sound.{IsNested}
use Rattle.vf_filestore.specs.Transfers.{Writes, happened, survivors, under_way}

-- A RECOVERY by which a transfer went on, and the restart at its point
pub record IsResumption (entry : history.Entry) (point : ℕ) : Type 0 where
  pub activity : ℕ
  pub number : ℕ
  pub asked : ℕ
  pub message : entry.message ≡ messages.Pdu (RecoverRequest activity number asked)
  pub given : entry.given ≡ Resumed true point

abbrev pub restarted : (point : ℕ) → history.Entry → history.Entry
restarted point entry = record entry { message = messages.Restart point; given = Nothing }

-- Whatever came before and comes later, what happened in the transfer is what happens with the restart; so are the values that
-- stand. The recovery performs nothing itself.
pub record IsAsRestart (earlier later : History) (entry : history.Entry) (point : ℕ) : Type 0 where
  pub happens : happened (later ++ entry ∷ earlier) ≡ happened (later ++ restarted point entry ∷ earlier)
  pub values : survivors (later ++ entry ∷ earlier) ≡ survivors (later ++ restarted point entry ∷ earlier)
  pub idle : operation earlier entry.message entry.given ≡ None

abbrev pub RecoveriesAreRestarts : Type 0
RecoveriesAreRestarts =
    (earlier later : History) (entry : history.Entry) (point : ℕ) → IsResumption entry point → IsAsRestart earlier later entry point

-- BROKEN AND RECOVERED. What came in a transfer after the last message that secured its values; a docket retains none of it.
abbrev pub unsecured : History → List history.Entry
unsecured [] = []
unsecured (entry ∷ earlier) = if secures entry.message then [] else entry ∷ unsecured earlier

abbrev pub IsUnanswered : history.Entry → Type 0
IsUnanswered entry = entry.said ≡ []

-- a history in which a transfer was under way when its association broke; nothing is answered to values and to their end
pub record IsBroken (broken : History) : Type 0 where
  pub nested : IsNested broken
  pub moving : IsSome (under_way broken)
  pub silent : AllByRecursion IsUnanswered (unsecured broken)

-- that of an association in which nothing is selected, where alone a recovery is taken
pub record IsBare (other : History) : Type 0 where
  pub no_selection : selection other ≡ None
  pub no_regime : regime other ≡ None
  pub no_transfer : under_way other ≡ None

-- In the other association the transfer goes on from what its docket retains: the values that stand are those of one that never
-- broke and was restarted there.
abbrev pub RecoveriesGoOn : Type 0
RecoveriesGoOn =
    (broken other later : History) (entry : history.Entry) (point : ℕ) → IsResumption entry point → IsBroken broken → IsBare other
    → survivors (later ++ entry ∷ (retained broken ++ other)) ≡ survivors (later ++ restarted point entry ∷ broken)

-- A SENDER'S OWN LIST: values, and checks between some of them
pub data Item : Type 0 where
  Value : Element → Item
  Check : Item

abbrev pub values_of : List Item → List Element
values_of [] = []
values_of (Value element ∷ own) = element ∷ values_of own
values_of (Check ∷ own) = values_of own

-- what follows a check of it, of which 0 is the start
abbrev pub from_check : ℕ → List Item → List Item
from_check zero own = own
from_check (suc check) [] = []
from_check (suc check) (Value element ∷ own) = from_check (suc check) own
from_check (suc check) (Check ∷ own) = from_check check own

-- What of it is left to say, in a transfer in which so much has happened: what it said since is gone, and a restart, which a
-- recovery is too, begins anew behind its check.
abbrev pub left_of : List Item → List Entry → List Item
left_of own [] = own
left_of own (transfer.Value element ∷ earlier) = drop 1 (left_of own earlier)
left_of own (transfer.Check ∷ earlier) = drop 1 (left_of own earlier)
left_of own (transfer.Acknowledgement check ∷ earlier) = left_of own earlier
left_of own (transfer.Restart check ∷ earlier) = from_check check own

-- Each value and each check that it says is the next one of its list.
abbrev pub Says : List Item → List Entry → Type 0
Says own [] = Unit {0}
Says own (transfer.Value element ∷ earlier) = (slice_get (left_of own earlier) 0 ≡ Some (Value element)) × Says own earlier
Says own (transfer.Check ∷ earlier) = (slice_get (left_of own earlier) 0 ≡ Some Check) × Says own earlier
Says own (transfer.Acknowledgement check ∷ earlier) = Says own earlier
Says own (transfer.Restart check ∷ earlier) = Says own earlier

-- Once nothing is left, exactly its list stands,
pub record SaysAll (own : List Item) (entries : List Entry) : Type 0 where
  pub known : NamesKnownChecks 0 entries
  pub says : Says own entries
  pub nothing_left : left_of own entries ≡ []

abbrev pub OwnListStands : Type 0
OwnListStands = (own : List Item) (entries : List Entry) → SaysAll own entries → transfer.survivors 0 entries ≡ values_of own

-- and a good end of its write performs that.
abbrev pub GoodEndsPerformIt : Type 0
GoodEndsPerformIt =
    (own : List Item) (earlier : History) (performs : WriteOperation) (fadu : FaduId) (given : Given) (position : ℕ) → SaysAll own (happened earlier)
    → under_way earlier ≡ Some (record { movement = Writes performs fadu; given = given })
    → operation earlier (messages.Pdu TransferEndRequest) (Placed position) ≡ Some (Wrote performs fadu (values_of own))
