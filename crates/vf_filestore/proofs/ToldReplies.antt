-- What is said to a message has a value, where it is decided in a state in which all that is said has one.
use Rattle.std.proofs.Common.{◌≡◌, ℕ, zero, suc, ◌+◌, ◌<◌, ◌≤◌, ℤ, pos, Bool, true, false, cond, not, ◌&&◌, ◌==◌, List, [], ◌∷◌, ◌++◌, length, map, drop, Option, None, Some, refl, ap, arith}
use Rattle.std.specs.Prelude.{IfSome, bit_and, nat_eq, nat_le}
use Rattle.std.specs.List.{AllByRecursion}
use Rattle.std.specs.Option.{option_map}
use Rattle.std.specs.Str.{bytes_eq}
use Rattle.std.proofs.lemmas.Bool.{and_parts, le-leb, leb-true}
use Rattle.std.proofs.lemmas.Bool.Decides.{nat_tests}
use Rattle.std.proofs.lemmas.Nat.{and_le_r}
use Rattle.std.proofs.lemmas.Slice.Eq.{bytes_eq-Decides}
use Rattle.vf_attr.specs.declared.file.File.{File}
use Rattle.vf_attr.specs.declared.stamp.Stamp.{Stamp}
use Rattle.vf_base.specs.Name.{IsName}
use Rattle.vf_base.specs.Oid.{is_oid}
use Rattle.vf_base.specs.declared.contents.Contents.{Contents}
use Rattle.vf_base.specs.declared.diagnostic.Diagnostic.{Diagnostic}
use Rattle.vf_base.specs.declared.element.Element.{Element}
use Rattle.vf_base.specs.declared.limits.TheConstants.{MOST_STRING_OCTETS}
use Rattle.vf_base.specs.declared.term.Term.{Term}
use Rattle.vf_doctype.specs.DocumentTypes.{entry, is_class, is_fixed, kind_of}
use Rattle.vf_doctype.specs.declared.doc_type.DocType.{DocType}
use Rattle.vf_doctype.specs.declared.doc_type.Kind.{Kind}
use Rattle.vf_doctype.specs.declared.doc_type.Kind.TheVariants.{Ftam1, Ftam2, Ftam3}
use Rattle.vf_elements.specs.declared.message.Message.{Message}
use Rattle.vf_elements.specs.declared.message.Message.TheVariants as messages
use Rattle.vf_elements.specs.declared.message.Said.{Said}
use Rattle.vf_elements.specs.declared.message.Said.TheVariants as answers
use Rattle.vf_pdu.specs.PduMeaning.{IsInRange}
use Rattle.vf_pdu.specs.PduRows.{row_of}
use Rattle.vf_pdu.specs.declared.pdu.Pdu.{Pdu}
use Rattle.vf_pdu.specs.declared.pdu.Pdu.TheVariants.{InitializeRequest, InitializeResponse, TerminateResponse, ProviderAbort, SelectRequest, DeselectRequest, CreateRequest, DeleteRequest, ReadAttribRequest, ReadAttribResponse, ChangeAttribRequest, OpenRequest, OpenResponse, CloseRequest, RecoverRequest, RecoverResponse, LocateRequest, LocateResponse, EraseRequest, DataEnd, TransferEndRequest, TransferEndResponse, CancelRequest, RestartRequest, RestartResponse}
use Rattle.vf_pdu_fields.specs.Content.{Content, Number, Octets, Slot, Slots, nil, present, slot, items_of}
use Rattle.vf_pdu_fields.specs.Meaning.{all_fit, count, each_within, fits}
use Rattle.vf_pdu_fields.specs.Rows.{Any, Integer, Text, required, optional, Form, one, Row, end, field, natural, int}
use Rattle.vf_pdu_fields.specs.Slots.{maybe_integer, maybe_octets}
use Rattle.vf_pdu_fields.specs.declared.limits.TheConstants.{MOST_ITEMS, MOST_POINT}
use Rattle.vf_pdu_parameters.proofs.Dates.{moment_date}
use Rattle.vf_pdu_parameters.specs.Parameters.{attributes as attributes_form, contents as contents_form, diagnostic as diagnostic_form, grant, grants as grants_form, stamp as stamp_form}
use Rattle.vf_pdu_parameters.specs.ParameterSlots.{attributes_content, contents_content, diagnostic_content, grant_slots, grants_content, maybe_contents, maybe_grants, maybe_stamp, stamp_content}
use Rattle.vf_tables.specs.Sums.{octets_of_file}
use Rattle.vf_tables.specs.declared.limits.TheConstants.{MOST_TERMS}
use Rattle.vf_filestore.specs.Aborts.{Setting, passes_serials}
use Rattle.vf_filestore.specs.Conclusion.{concluding_entry, entry_of, history_of, taken_up}
use Rattle.vf_filestore.specs.Diagnostics.{numbers_spent, plain}
use Rattle.vf_filestore.specs.Due.{Progress, check_window, due, due_after, due_in, due_of, due_unless_full, goes_on, is_check_due, is_full, next_serial, offer, offered, progress_of, with_check, with_element}
use Rattle.vf_filestore.specs.Ending.{transfer_ending}
use Rattle.vf_filestore.specs.History.{Given, Nothing, Made, Refused, Showed, Placed, Resumed, History, answered_end, association, concluding, done, last, number_of}
use Rattle.vf_filestore.specs.Keeping.{EachAfter}
use Rattle.vf_filestore.specs.Limits.{most_transfers}
use Rattle.vf_filestore.specs.Replies.{agreed_window, asked_for, asked_option, attributes_of, contents_of, grant_of, located_at, recovery, recovery_of, refusal, refusal_of_request, replies, reply, request_replies, stamp_text}
use Rattle.vf_filestore.specs.Sayable.{AreSayable, IsReadWhole, IsSayable, IsToldEntry, IsToldGiven, IsToldStamp, IsToldTerm}
use Rattle.vf_filestore.specs.State.{Docket, State, StandingParty, docket_of, identity_of, is_docket_of, selected_file}
use Rattle.vf_filestore.specs.Transfers.{Movement, Reads, Writes, Transfer, under_way, was_shown}
use Rattle.vf_filestore.specs.Units.{agreed_units, offered_units}
use Rattle.vf_filestore.proofs.Leading.{both}
use Rattle.vf_filestore.proofs.Lists.{all_append}
use Rattle.vf_filestore.proofs.ReadHistories.{few_done}
use Rattle.vf_filestore.proofs.ReadMessages.{initialize_read, restart_read}
use Rattle.vf_filestore.proofs.ToldDecisions.{Gives, IsKnown, IsKnownDocket, IsKnownFile, IsToldTransfer, Tells, all_given, found_if, given_message, point_in, selected_known, transfer_told}
use Rattle.vf_filestore.proofs.ToldElements.{AreTold, HasDoc, has_doc, typed_as}
use Rattle.vf_filestore.proofs.ToldRows.{IsRow, IsToldBy, number_told, plain_told}

-- ---- numbers in ranges

between : (low high n : ℕ) → low ≤ n → n ≤ high → (nat_le low n && nat_le n high) ≡ true
between low high n least most = both (nat_le low n) (nat_le n high) (le-leb low n least) (le-leb n high most)

pub abort_told : (number : ℕ) → number ≤ 65535 → IsInRange (ProviderAbort number 0)
unfolding row_of
abort_told number few = both (nat_le 0 number && nat_le number 65535) true (between 0 65535 number (omega arith) few) refl

-- ---- responses with a diagnostic

with_row : (row : Option Diagnostic) → IsRow row → (P : Option Diagnostic → Type 0) → P None → ((diagnostic : Diagnostic) → IsToldBy diagnostic → P (Some diagnostic)) → P row
with_row None told P none some = none
with_row (Some diagnostic) told P none some = some diagnostic told

refused : (diagnostic : Diagnostic) (request : Pdu) → IsToldBy diagnostic → AreSayable (refusal_of_request diagnostic request)
unfolding row_of
refused diagnostic (InitializeRequest units identity password window) told = (both (fits diagnostic_form (diagnostic_content diagnostic)) true told refl, tt)
refused diagnostic (SelectRequest name requested controls password) told = (both (fits diagnostic_form (diagnostic_content diagnostic)) true told refl, tt)
refused diagnostic DeselectRequest told = (both (fits diagnostic_form (diagnostic_content diagnostic)) true told refl, tt)
refused diagnostic (CreateRequest over name contents permitted terms requested controls password) told = (both (fits diagnostic_form (diagnostic_content diagnostic)) true told refl, tt)
refused diagnostic DeleteRequest told = (both (fits diagnostic_form (diagnostic_content diagnostic)) true told refl, tt)
refused diagnostic (ReadAttribRequest names) told = (both (fits diagnostic_form (diagnostic_content diagnostic)) true told refl, tt)
refused diagnostic (ChangeAttribRequest name permitted terms others) told = (both (fits diagnostic_form (diagnostic_content diagnostic)) true told refl, tt)
refused diagnostic (OpenRequest mode contents controls activity) told = (both (fits diagnostic_form (diagnostic_content diagnostic)) true told refl, tt)
refused diagnostic CloseRequest told = (both (fits diagnostic_form (diagnostic_content diagnostic)) true told refl, tt)
refused diagnostic (RecoverRequest activity number point) told = (both (fits diagnostic_form (diagnostic_content diagnostic)) true told refl, tt)
refused diagnostic (LocateRequest fadu) told = (both (fits diagnostic_form (diagnostic_content diagnostic)) true told refl, tt)
refused diagnostic (EraseRequest fadu) told = (both (fits diagnostic_form (diagnostic_content diagnostic)) true told refl, tt)
refused diagnostic request told = tt

pub request_refused : (diagnostic : Diagnostic) (request : Pdu) → IsToldBy diagnostic → AreSayable (refusal_of_request diagnostic request)
request_refused = refused

pub message_refused : (diagnostic : Diagnostic) (message : Message) → IsToldBy diagnostic → AreSayable (refusal diagnostic message)
message_refused diagnostic (messages.Pdu request) told = refused diagnostic request told
message_refused diagnostic message told = tt

ended_told : (row : Option Diagnostic) → IsRow row → IsInRange (TransferEndResponse row)
unfolding row_of
ended_told None told = refl
ended_told (Some diagnostic) told = both (fits diagnostic_form (diagnostic_content diagnostic)) true told refl

shown_ended : (row : Option Diagnostic) → IsRow row → IsInRange (DataEnd row)
unfolding row_of
shown_ended None told = refl
shown_ended (Some diagnostic) told = both (fits diagnostic_form (diagnostic_content diagnostic)) true told refl

-- the number that a good end answers with
pub end_number : (row : Option Diagnostic) → IsInRange (TransferEndResponse row) → number_of row ≤ 65535
unfolding row_of
end_number None is = omega arith
end_number (Some diagnostic) is = (number_told diagnostic (and_parts (fits diagnostic_form (diagnostic_content diagnostic)) true is).0).most

-- ---- contents types

-- the object identifier of a document type is one
known_oid : (arcs : List ℕ) (kind : Kind) → kind_of arcs ≡ Some kind → is_oid arcs ≡ true
known_oid arcs kind e = by (bytes_eq arcs (entry 1)) refl (bytes_eq arcs (entry 2)) refl (bytes_eq arcs (entry 3)) refl e
  where
    same : (n : ℕ) → bytes_eq arcs (entry n) ≡ true → arcs ≡ entry n
    same n is = (bytes_eq-Decides arcs (entry n)).0 is

    by : (a : Bool) → bytes_eq arcs (entry 1) ≡ a → (b : Bool) → bytes_eq arcs (entry 2) ≡ b → (c : Bool) → bytes_eq arcs (entry 3) ≡ c
        → cond a (Some Ftam1) (cond b (Some Ftam2) (cond c (Some Ftam3) None)) ≡ Some kind → is_oid arcs ≡ true
    by true x b y c z e = ap is_oid (same 1 x)
    by false x true y c z e = ap is_oid (same 2 y)
    by false x false y true z e = ap is_oid (same 3 z)
    by false x false y false z e = absurd cc

small_class : (class : ℕ) → is_class class ≡ true → class ≤ 255
small_class class is = grind (arith, nat_tests)

contents_told : (contents : Contents) (doc : DocType) → HasDoc contents doc → fits contents_form (contents_content contents) ≡ true
contents_told contents doc has =
    let longest = contents.longest in
    let class = contents.class in
    let significance = contents.significance in
    let first = and_parts (is_class class && nat_le longest MOST_STRING_OCTETS && nat_le significance 2) (not (is_fixed contents && nat_eq longest 0)) has.parameters in
    let second = and_parts (is_class class && nat_le longest MOST_STRING_OCTETS) (nat_le significance 2) first.0 in
    let third = and_parts (is_class class) (nat_le longest MOST_STRING_OCTETS) second.0 in
    let long : longest ≤ MOST_STRING_OCTETS = leb-true longest MOST_STRING_OCTETS third.1 in
    let some : significance ≤ 2 = leb-true significance 2 second.1 in
    let of_kind = known_oid contents.kind doc.kind has.kind in
    let of_class = between 0 255 class (omega arith) (small_class class third.0) in
    let of_length = between 0 4294967295 longest (omega arith) (omega (arith, long)) in
    let of_significance = between 0 255 significance (omega arith) (omega (arith, some)) in
    λ i. of_kind i && (of_class i && (of_length i && (of_significance i && true)))

file_contents_told : (file : File) → IsKnownFile file → fits contents_form (contents_content file.contents) ≡ true
file_contents_told file known =
    let typed = typed_as file known.limited in
    contents_told file.contents typed.0 (has_doc file.contents typed.0 typed.1)

open_told : (found : Option File) → IfSome found IsKnownFile → IsInRange (OpenResponse None (option_map contents_of found))
unfolding row_of
open_told None known = refl
open_told (Some file) known = both (fits contents_form (contents_content file.contents)) true (file_contents_told file known) refl

-- ---- attributes

-- a field that may be absent
maybe : (number : ℕ) (form : Form) (row : Row) (first : Slot) (others : Slots) → IfSome first (λ (content : Content). fits form content ≡ true) → all_fit row others ≡ true → all_fit (field number form optional row) (slot first others) ≡ true
maybe number form row None others first rest = rest
maybe number form row (Some content) others first rest = both (fits form content) (all_fit row others) first rest

asked_told : {A : Type 0} (form : Form) (content : A → Content) (names number : ℕ) (value : A) → fits form (content value) ≡ true → IfSome (option_map content (asked_for names number value)) (λ (content : Content). fits form content ≡ true)
asked_told {A} form content names number value is = by (bit_and names number == number)
  where
    by : (b : Bool) → IfSome (option_map content (cond b (Some value) None)) (λ (content : Content). fits form content ≡ true)
    by true = is
    by false = tt

option_told : {A : Type 0} (form : Form) (content : A → Content) (names number : ℕ) (value : Option A) → IfSome value (λ (value : A). fits form (content value) ≡ true)
    → IfSome (option_map content (asked_option names number value)) (λ (content : Content). fits form content ≡ true)
option_told form content names number None is = tt
option_told form content names number (Some value) is = asked_told form content names number value is

integer_told : (n : ℕ) → n < 9223372036854775808 → fits (one (Integer Any)) (Number (pos n)) ≡ true
integer_told n few = grind (arith, nat_tests)

stamp_told : (stamp : Stamp) → IsToldStamp stamp → fits stamp_form (stamp_content (stamp_text stamp)) ≡ true
stamp_told stamp is =
    let date = moment_date stamp.moment is.moment in
    let name = is.identity in
    λ i. date i && (name i && true)

stamps_told : (stamp : Option Stamp) → IfSome stamp IsToldStamp → IfSome (option_map stamp_text stamp) (λ text. fits stamp_form (stamp_content text) ≡ true)
stamps_told None is = tt
stamps_told (Some stamp) is = stamp_told stamp is

-- an access control list as it is shown
grant_told : (term : Term) → IsToldTerm term → all_fit grant (grant_slots (grant_of term)) ≡ true
grant_told term is =
    let rest : Row = field 1 (int 0 255) required end in
    let actions : Slots = present (natural term.actions.value) nil in
    maybe 0 (one Text) rest (maybe_octets term.identity) actions (named term.identity is.identity)
    (both (nat_le 0 term.actions.value && nat_le term.actions.value 255) true (between 0 255 term.actions.value (omega arith) is.actions) refl)
  where
    named : (identity : Option (List ℕ)) → IfSome identity IsName → IfSome (maybe_octets identity) (λ (content : Content). fits (one Text) content ≡ true)
    named None is = tt
    named (Some identity) is = is

grants_counted : (terms : List Term) → count (items_of (map grant_slots (map grant_of terms))) ≡ length terms
grants_counted [] = refl
grants_counted (term ∷ terms) = let rest = grants_counted terms in omega (arith, rest)

each_grant : (terms : List Term) → AllByRecursion IsToldTerm terms → each_within (all_fit grant) (items_of (map grant_slots (map grant_of terms))) ≡ true
each_grant [] all = refl
each_grant (term ∷ terms) all =
    both (all_fit grant (grant_slots (grant_of term))) (each_within (all_fit grant) (items_of (map grant_slots (map grant_of terms)))) (grant_told term all.0) (each_grant terms all.1)

grants_told : (terms : List Term) → length terms ≤ MOST_TERMS → AllByRecursion IsToldTerm terms → fits grants_form (grants_content (map grant_of terms)) ≡ true
grants_told terms few all =
    let items = items_of (map grant_slots (map grant_of terms)) in
    both (nat_le (count items) MOST_ITEMS) (each_within (all_fit grant) items) (le-leb (count items) MOST_ITEMS (omega (arith, few, grants_counted terms))) (each_grant terms all)

file_told : (names : ℕ) (file : File) → IsKnownFile file → fits attributes_form (attributes_content (attributes_of names file)) ≡ true
file_told names file known =
    let x = attributes_of names file in
    let told = known.told in
    let row8 : Row = field 8 (one (Integer Any)) optional end in
    let row7 : Row = field 7 stamp_form optional row8 in
    let row6 : Row = field 6 stamp_form optional row7 in
    let row5 : Row = field 5 stamp_form optional row6 in
    let row4 : Row = field 4 stamp_form optional row5 in
    let row3 : Row = field 3 grants_form optional row4 in
    let row2 : Row = field 2 contents_form optional row3 in
    let row1 : Row = field 1 (one (Integer Any)) optional row2 in
    let slots8 : Slots = slot (maybe_integer x.size) nil in
    let slots7 : Slots = slot (maybe_stamp x.changed) slots8 in
    let slots6 : Slots = slot (maybe_stamp x.read) slots7 in
    let slots5 : Slots = slot (maybe_stamp x.modified) slots6 in
    let slots4 : Slots = slot (maybe_stamp x.created) slots5 in
    let slots3 : Slots = slot (maybe_grants x.terms) slots4 in
    let slots2 : Slots = slot (maybe_contents x.contents) slots3 in
    let slots1 : Slots = slot (maybe_integer x.permitted) slots2 in
    let integer : ℤ → Content = λ n. Number n in
    let size = asked_told (one (Integer Any)) integer names 256 (pos (octets_of_file file)) (integer_told (octets_of_file file) (omega (arith, known.limited.shaped.1.0))) in
    let at8 = maybe 8 (one (Integer Any)) end (maybe_integer x.size) nil size refl in
    let at7 = maybe 7 stamp_form row8 (maybe_stamp x.changed) slots8 (option_told stamp_form stamp_content names 128 (option_map stamp_text file.changed) (stamps_told file.changed told.changed)) at8 in
    let at6 = maybe 6 stamp_form row7 (maybe_stamp x.read) slots7 (option_told stamp_form stamp_content names 64 (option_map stamp_text file.read) (stamps_told file.read told.read)) at7 in
    let at5 = maybe 5 stamp_form row6 (maybe_stamp x.modified) slots6 (option_told stamp_form stamp_content names 32 (option_map stamp_text file.modified) (stamps_told file.modified told.modified)) at6 in
    let at4 = maybe 4 stamp_form row5 (maybe_stamp x.created) slots5 (asked_told stamp_form stamp_content names 16 (stamp_text file.created) (stamp_told file.created told.created)) at5 in
    let at3 = maybe 3 grants_form row4 (maybe_grants x.terms) slots4 (asked_told grants_form grants_content names 8 (map grant_of file.terms) (grants_told file.terms known.filled.terms told.terms)) at4 in
    let at2 = maybe 2 contents_form row3 (maybe_contents x.contents) slots3 (asked_told contents_form contents_content names 4 file.contents (file_contents_told file known)) at3 in
    let permitted = asked_told (one (Integer Any)) integer names 2 (pos file.permitted.value) (integer_told file.permitted.value (omega (arith, told.permitted))) in
    let at1 = maybe 1 (one (Integer Any)) row2 (maybe_integer x.permitted) slots2 permitted at2 in
    maybe 0 (one Text) row1 (maybe_octets x.name) slots1 (asked_told (one Text) (λ name. Octets name) names 1 file.name told.name) at1

attributes_told : (names : ℕ) (found : Option File) → IfSome found IsKnownFile → IsInRange (ReadAttribResponse None (option_map (attributes_of names) found))
unfolding row_of
attributes_told names None known = refl
attributes_told names (Some file) known = both (fits attributes_form (attributes_content (attributes_of names file))) true (file_told names file known) refl

-- ---- recoveries

answered_few : (said : List Said) → AreSayable said → answered_end said ≤ 65535
answered_few (answers.Pdu (TransferEndResponse diagnostic) ∷ later) told = end_number diagnostic told.0
answered_few _ told = omega arith

last_request : (request : Pdu) (said : List Said) (before : ℕ) → AreSayable said → before ≤ 65535 → concluding (messages.Pdu request) said before ≤ 65535
last_request (OpenRequest mode contents controls activity) said before told was = omega arith
last_request TransferEndRequest said before told was = answered_few said told
last_request (CancelRequest diagnostic) said before told was = omega arith
last_request request said before told was = was

last_message : (message : Message) (said : List Said) (before : ℕ) → AreSayable said → before ≤ 65535 → concluding message said before ≤ 65535
last_message (messages.Pdu request) said before told was = last_request request said before told was
last_message message said before told was = was

last_few : (history : History) → EachAfter IsToldEntry history → last history ≤ 65535
last_few [] each = omega arith
last_few (entry ∷ earlier) each = last_message entry.message entry.said (last earlier) each.0.said (last_few earlier each.1)

recovery_told : (history : History) (given : Given) → done history ≤ most_transfers → last history ≤ 65535 → point_in given ≤ MOST_POINT → IsInRange (recovery history given)
unfolding row_of
recovery_told history given few ended point = by given point
  where
    number : (nat_le 1 (done history + 1) && nat_le (done history + 1) (MOST_POINT + 1)) ≡ true
    number = between 1 (MOST_POINT + 1) (done history + 1) (omega arith) (omega (arith, few))

    goes : (check : ℕ) → check ≤ MOST_POINT → IsInRange (RecoverResponse None (Some (done history + 1)) check true 0)
    goes check point = let of_point = between 0 MOST_POINT check (omega arith) point in λ i. number i && (of_point i && true)

    begins : IsInRange (RecoverResponse None (Some (done history + 1)) 0 false (last history))
    begins = let of_last = between 0 65535 (last history) (omega arith) ended in λ i. number i && (true && (true && (of_last i && true)))

    by : (given : Given) → point_in given ≤ MOST_POINT → IsInRange (recovery history given)
    by (Resumed true check) point = goes check point
    by (Resumed false check) point = begins
    by Nothing point = begins
    by Made point = begins
    by (Refused version number) point = begins
    by (Showed version elements at) point = begins
    by (Placed at) point = begins

recovers_told : (docket : Option Docket) (given : Given) → IfSome docket IsKnownDocket → point_in given ≤ MOST_POINT → IsInRange (recovery_of docket given)
recovers_told None given known point = recovery_told [] given (omega arith) (omega arith) point
recovers_told (Some docket) given known point =
    recovery_told docket.history given (few_done docket.history known.known.nested known.known.read) (last_few docket.history known.known.told) point

-- ---- numbers in responses

initialize_told : (sync : Bool) (units window : ℕ) → 1 ≤ window → IsInRange (InitializeResponse None (agreed_units sync units) (agreed_window window))
unfolding row_of
initialize_told sync units window least =
    let agreed = agreed_units sync units in
    let open_checks = agreed_window window in
    let of_units = between 0 65535 agreed (omega arith) (omega (arith, and_le_r units (offered_units sync), offered sync)) in
    let of_window = between 1 65535 open_checks (omega (arith, least)) (omega arith) in
    λ i. of_units i && (of_window i && true)
  where
    offered : (sync : Bool) → offered_units sync ≤ 65535
    offered true = omega arith
    offered false = omega arith

locate_told : (position : ℕ) → position ≤ 4294967295 → IsInRange (LocateResponse None position)
unfolding row_of
locate_told position few = both (nat_le 0 position && nat_le position 4294967295) true (between 0 4294967295 position (omega arith) few) refl

restart_told : (check : ℕ) → check ≤ MOST_POINT → IsInRange (RestartResponse check)
unfolding row_of
restart_told check few = both (nat_le 0 check && nat_le check MOST_POINT) true (between 0 MOST_POINT check (omega arith) few) refl

pub terminate_told : AreSayable (reply TerminateResponse)
unfolding row_of
terminate_told = (refl, tt)

-- ---- replies

module _ (state : State) (party : StandingParty) (known : IsKnown state party) where
  request_replied : (setting : Setting) (given : Given) (request : Pdu) → IsInRange request → Gives request given → AreSayable (request_replies state party setting given request)
  unfolding row_of
  request_replied setting given (InitializeRequest units identity password window) is gives = (initialize_told setting.sync units window (initialize_read units identity password window is).windowed, tt)
  request_replied setting given (SelectRequest name requested controls password) is gives = (refl, tt)
  request_replied setting given DeselectRequest is gives = (refl, tt)
  request_replied setting given (CreateRequest over name contents permitted terms requested controls password) is gives = (refl, tt)
  request_replied setting given DeleteRequest is gives = (refl, tt)
  request_replied setting given (ReadAttribRequest names) is gives = (attributes_told names (selected_file state party.history) (selected_known state party.history known.files), tt)
  request_replied setting given (ChangeAttribRequest name permitted terms others) is gives = (refl, tt)
  request_replied setting given (OpenRequest mode contents controls activity) is gives = (open_told (selected_file state party.history) (selected_known state party.history known.files), tt)
  request_replied setting given CloseRequest is gives = (refl, tt)
  request_replied setting given (RecoverRequest activity number check) is gives =
      (recovers_told (docket_of (identity_of party) activity state.dockets) given (found_if IsKnownDocket (is_docket_of (identity_of party) activity) state.dockets known.dockets) gives.1, tt)
  request_replied setting given (LocateRequest fadu) is gives = (locate_told (located_at given) gives.1, tt)
  request_replied setting given (EraseRequest fadu) is gives = (refl, tt)
  request_replied setting given TransferEndRequest is gives = (ended_told (transfer_ending state party setting.moment).refused (transfer_told state party known setting.moment).0, tt)
  request_replied setting given (CancelRequest diagnostic) is gives = (refl, tt)
  request_replied setting given (RestartRequest check) is gives = (restart_told check (restart_read check is), tt)
  request_replied setting given request is gives = tt

  message_replied : (setting : Setting) (given : Given) (message : Message) → IsReadWhole message → Tells message given → AreSayable (replies state party setting given message)
  message_replied setting given (messages.Pdu request) is tells = request_replied setting given request is tells
  message_replied setting given (messages.Element element) is tells = tt
  message_replied setting given messages.Check is tells = (omega arith, tt)
  message_replied setting given (messages.Acknowledge check) is tells = tt
  message_replied setting given (messages.Restart check) is tells = (restart_told check is, tt)
  message_replied setting given messages.Break is tells = tt

-- ---- what is due

dropped_told : (n : ℕ) (elements : List Element) → AreTold elements → AreTold (drop n elements)
dropped_told zero elements told = told
dropped_told (suc n) [] told = tt
dropped_told (suc n) (element ∷ elements) told = dropped_told n elements told.1

offer_told : (progress : Progress) → AreSayable (offer progress)
offer_told progress = by (passes_serials progress.serial)
  where
    by : (b : Bool) → AreSayable (cond b (answers.Abort numbers_spent 0 ∷ []) (answers.Check (progress.check + 1) ∷ []))
    by true = (abort_told numbers_spent (omega arith), tt)
    by false = (omega arith, tt)

offered_told : (is_due : Bool) (progress : Progress) → AreSayable (offered is_due progress)
offered_told true progress = offer_told progress
offered_told false progress = tt

goes_on_told : (is_due : Bool) (window : Option ℕ) (progress : Progress) (later : List Said) → AreSayable later → AreSayable (goes_on is_due window progress later)
goes_on_told false window progress later told = told
goes_on_told true window progress later told = by (passes_serials progress.serial) (is_full window (with_check progress))
  where
    by : (a b : Bool) → AreSayable (cond a [] (cond b [] later))
    by true b = tt
    by false true = tt
    by false false = told

due_told : (window : Option ℕ) (diagnostic : Option Diagnostic) (progress : Progress) (elements : List Element) → IsRow diagnostic → AreTold elements → AreSayable (due window diagnostic progress elements)
due_told window diagnostic progress [] row told = (shown_ended diagnostic row, tt)
due_told window diagnostic progress (element ∷ later) row told =
    let now = with_element progress in
    let is_due = is_check_due window now.elements later in
    let next = cond is_due (with_check now) now in (
      told.0,
      all_append IsSayable (offered is_due now) (goes_on is_due window now (due window diagnostic next later)) (offered_told is_due now)
          (goes_on_told is_due window now (due window diagnostic next later) (due_told window diagnostic next later row told.1)),
    )

unless_full_told : (window : Option ℕ) (diagnostic : Option Diagnostic) (progress : Progress) (elements : List Element) → IsRow diagnostic → AreTold elements → AreSayable (due_unless_full window diagnostic progress elements)
unless_full_told window diagnostic progress elements row told = by (is_full window progress)
  where
    by : (b : Bool) → AreSayable (cond b [] (due window diagnostic progress (drop progress.elements elements)))
    by true = tt
    by false = due_told window diagnostic progress (drop progress.elements elements) row (dropped_told progress.elements elements told)

due_of_told : (given : Given) (window : Option ℕ) (progress : Progress) → IsToldGiven given → AreSayable (due_of given window progress)
due_of_told (Showed version elements at) window progress told = unless_full_told window None progress elements tt told.1
due_of_told (Refused version number) window progress told = unless_full_told window (Some (plain number)) progress [] (plain_told number (record { least = told.1; most = told.2 })) tt
due_of_told Nothing window progress told = tt
due_of_told Made window progress told = tt
due_of_told (Placed at) window progress told = tt
due_of_told (Resumed goes_on at) window progress told = tt

due_in_told : (history : History) (serial : ℕ) (movement : Movement) (given : Given) → IsToldGiven given → AreSayable (due_in history serial movement given)
due_in_told history serial (Writes operation fadu) given told = tt
due_in_told history serial (Reads fadu context) given told = by (was_shown history)
  where
    by : (b : Bool) → AreSayable (cond b [] (due_of given (check_window (association history)) (progress_of history serial)))
    by true = tt
    by false = due_of_told given (check_window (association history)) (progress_of history serial) told

due_after_told : (history : History) (serial : ℕ) (one : Option Transfer) → IfSome one IsToldTransfer → AreSayable (due_after history serial one)
due_after_told history serial None told = tt
due_after_told history serial (Some transfer) told = due_in_told history serial transfer.movement transfer.given told

-- ---- entries

each_append : (history earlier : History) → EachAfter IsToldEntry history → EachAfter IsToldEntry earlier → EachAfter IsToldEntry (history ++ earlier)
each_append [] earlier each before = before
each_append (entry ∷ history) earlier each before = (record { said = each.0.said; given = each.0.given }, each_append history earlier each.1 before)

history_told : (docket : Option Docket) → IfSome docket IsKnownDocket → EachAfter IsToldEntry (history_of docket)
history_told None known = tt
history_told (Some docket) known = known.known.told

taken_request : (state : State) (party : StandingParty) → IsKnown state party → (request : Pdu) → EachAfter IsToldEntry (taken_up state party (messages.Pdu request))
taken_request state party known (RecoverRequest activity number check) =
    each_append (history_of (docket_of (identity_of party) activity state.dockets)) party.history
    (history_told (docket_of (identity_of party) activity state.dockets) (found_if IsKnownDocket (is_docket_of (identity_of party) activity) state.dockets known.dockets)) known.own.told
taken_request state party known request = known.own.told

taken_told : (state : State) (party : StandingParty) → IsKnown state party → (message : Message) → EachAfter IsToldEntry (taken_up state party message)
taken_told state party known (messages.Pdu request) = taken_request state party known request
taken_told state party known message = known.own.told

told_given : (message : Message) (given : Given) → Tells message given → IsToldGiven given
told_given (messages.Pdu request) given tells = tells.0
told_given message given tells = tells

pub entry_told : (state : State) (party : StandingParty) → IsKnown state party → (setting : Setting) (message : Message) (given : Given) → IsReadWhole message → Tells message given
    → IsToldEntry (taken_up state party message) (concluding_entry state party setting message given)
entry_told state party known setting message given is tells =
    let earlier = taken_up state party message in
    let entry = entry_of state party setting message given in
    let told = told_given message given tells in
    let history = entry ∷ earlier in
    let serial = next_serial earlier setting.serial message in
    record {
      said =
          all_append IsSayable (replies state party setting given message) (due_after history serial (under_way history)) (message_replied state party known setting given message is tells)
          (due_after_told history serial (under_way history) (given_message message given (under_way earlier) told (all_given earlier (taken_told state party known message))));
      given = told;
    }
