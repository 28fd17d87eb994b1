-- What the ranges of a message's fields say of what a store keeps of them.
use Rattle.std.proofs.Common.{◌≡◌, ℕ, zero, suc, ◌≤◌, true, List, [], ◌∷◌, length, map, Option, None, Some, refl, arith}
use Rattle.std.specs.Prelude.{IfSome, IsSome, nat_le}
use Rattle.std.specs.List.{AllByRecursion}
use Rattle.std.specs.Option.{option_map}
use Rattle.std.proofs.lemmas.Bool.{and_parts, le-leb, leb-true}
use Rattle.vf_base.specs.Name.{IsName}
use Rattle.vf_base.specs.declared.access.Context.{Context}
use Rattle.vf_base.specs.declared.access.FaduId.{FaduId}
use Rattle.vf_base.specs.declared.access.FaduId.TheVariants as fadus
use Rattle.vf_base.specs.declared.action.Actions.{Actions}
use Rattle.vf_base.specs.declared.contents.Contents.{Contents}
use Rattle.vf_base.specs.declared.element.Element.{Element}
use Rattle.vf_base.specs.declared.element.Element.TheVariants.{Descriptor, Enter, Exit, Text, Binary}
use Rattle.vf_base.specs.declared.term.Term.{Term}
use Rattle.vf_elements.specs.ElementValue.{IsWritable}
use Rattle.vf_elements.specs.declared.message.Message.{Message}
use Rattle.vf_elements.specs.declared.message.Message.TheVariants as messages
use Rattle.vf_pdu_fields.specs.Content.{Content, Octets, Slot, Slots, nil, present, slot, items_of}
use Rattle.vf_pdu_fields.specs.Meaning.{all_fit, count, each_within, fits}
use Rattle.vf_pdu_fields.specs.Rows.{Text as TextForm, String, Controls, Need, required, optional, Form, one, Row, end, field, natural, int, or, activity as activity_form, point as point_form}
use Rattle.vf_pdu_fields.specs.Slots.{attribute_controls, content_controls, fadu_slot, maybe_actions, maybe_num, maybe_octets}
use Rattle.vf_pdu_fields.specs.declared.controls.AttributeControls.{AttributeControls}
use Rattle.vf_pdu_fields.specs.declared.controls.ContentControls.{ContentControls}
use Rattle.vf_pdu_fields.specs.declared.limits.TheConstants.{MOST_ITEMS, MOST_POINT}
use Rattle.vf_pdu_fields.specs.declared.operation.WriteOperation.{WriteOperation}
use Rattle.vf_pdu_parameters.specs.Parameters.{contents as contents_form, no_terms, term, terms as terms_form}
use Rattle.vf_pdu_parameters.specs.ParameterSlots.{contents_content, maybe_contents, maybe_terms, term_slots, terms_content}
use Rattle.vf_pdu.specs.PduMeaning.{IsInRange}
use Rattle.vf_pdu.specs.PduRows.{row_of}
use Rattle.vf_pdu.specs.declared.pdu.Pdu.{Pdu}
use Rattle.vf_pdu.specs.declared.pdu.Pdu.TheVariants.{InitializeRequest, SelectRequest, CreateRequest, ChangeAttribRequest, OpenRequest, RecoverRequest, ReadRequest, WriteRequest, RestartRequest}
use Rattle.vf_pdu.proofs.Ranges.{read_unit, write_unit}
use Rattle.vf_tables.specs.Fitting.{are_short, is_activity, is_numbered, is_sayable, is_short}
use Rattle.vf_tables.specs.declared.limits.TheConstants.{MOST_TERMS}
use Rattle.vf_filestore.specs.Keeping.{AreFew, HasFewTerms, HasTerms}
use Rattle.vf_filestore.specs.Ranges.{AreShort, IsRead}
use Rattle.vf_filestore.specs.Sayable.{AreActions, IsToldTerm}
use Rattle.vf_filestore.proofs.Leading.{both}

-- ---- fields of rows

-- what follows a field that is there, and one that may be absent
there : (number : ℕ) (form : Form) (need : Need) (row : Row) (content : Content) (others : Slots) → all_fit (field number form need row) (present content others) ≡ true
    → (fits form content ≡ true) × (all_fit row others ≡ true)
there number form need row content others is = and_parts (fits form content) (all_fit row others) is

past : (number : ℕ) (form : Form) (row : Row) (first : Slot) (others : Slots) → all_fit (field number form optional row) (slot first others) ≡ true → all_fit row others ≡ true
past number form row None others is = is
past number form row (Some content) others is = (there number form optional row content others is).1

-- a number
bounded : (low high n : ℕ) → fits (int low high) (natural n) ≡ true → (low ≤ n) × (n ≤ high)
bounded low high n is =
    let parts = and_parts (nat_le low n) (nat_le n high) is in
    (leb-true low n parts.0, leb-true n high parts.1)

-- a name that may be absent, and actions
name_in : (number : ℕ) (row : Row) (name : Option (List ℕ)) (others : Slots) → all_fit (field number (one TextForm) optional row) (slot (maybe_octets name) others) ≡ true → IfSome name IsName
name_in number row None others is = tt
name_in number row (Some name) others is = (there number (one TextForm) optional row (Octets name) others is).0

actions_in : (number : ℕ) (row : Row) (actions : Option Actions) (others : Slots) → all_fit (field number (int 0 255) optional row) (slot (maybe_actions actions) others) ≡ true
    → IfSome actions (λ (set : Actions). AreActions set.value)
actions_in number row None others is = tt
actions_in number row (Some set) others is = (bounded 0 255 set.value (there number (int 0 255) optional row (natural set.value) others is).0).1

-- a password
short_in : (number : ℕ) (row : Row) (password : Option (List ℕ)) (others : Slots) → all_fit (field number (one String) optional row) (slot (maybe_octets password) others) ≡ true → is_short password ≡ true
short_in number row None others is = refl
short_in number row (Some password) others is = (there number (one String) optional row (Octets password) others is).0

-- an access control list
pub record AreTerms (terms : List Term) : Type 0 where
  pub few : length terms ≤ MOST_TERMS
  pub short : are_short terms ≡ true
  pub told : AllByRecursion IsToldTerm terms

items_counted : (terms : List Term) → count (items_of (map term_slots terms)) ≡ length terms
items_counted [] = refl
items_counted (first ∷ terms) = let rest = items_counted terms in omega (arith, rest)

record IsReadTerm (one_term : Term) : Type 0 where
  short : is_short one_term.password ≡ true
  told : IsToldTerm one_term

term_read : (one_term : Term) → all_fit term (term_slots one_term) ≡ true → IsReadTerm one_term
term_read one_term is =
    let last : Row = field 2 (one String) optional end in
    let rest : Row = field 1 (int 0 255) required last in
    let password : Slots = slot (maybe_octets one_term.password) nil in
    let actions : Slots = present (natural one_term.actions.value) password in
    let after = there 1 (int 0 255) required last (natural one_term.actions.value) password (past 0 (one TextForm) rest (maybe_octets one_term.identity) actions is) in
    record {
      short = short_in 2 end one_term.password nil after.1;
      told = record { identity = name_in 0 rest one_term.identity actions is; actions = (bounded 0 255 one_term.actions.value after.0).1 };
    }

record AreReadTerms (terms : List Term) : Type 0 where
  short : are_short terms ≡ true
  told : AllByRecursion IsToldTerm terms

all_terms_read : (terms : List Term) → each_within (all_fit term) (items_of (map term_slots terms)) ≡ true → AreReadTerms terms
all_terms_read [] is = record { short = refl; told = tt }
all_terms_read (first ∷ terms) is =
    let parts = and_parts (all_fit term (term_slots first)) (each_within (all_fit term) (items_of (map term_slots terms))) is in
    let one_read = term_read first parts.0 in
    let rest = all_terms_read terms parts.1 in
    record { short = both (is_short first.password) (are_short terms) one_read.short rest.short; told = (one_read.told, rest.told) }

terms_read : (terms : List Term) → fits terms_form (terms_content terms) ≡ true → AreTerms terms
terms_read terms is =
    let items = items_of (map term_slots terms) in
    let parts = and_parts (nat_le (count items) MOST_ITEMS) (each_within (all_fit term) items) is in
    let each = all_terms_read terms parts.1 in
    record {
      few = omega (arith, leb-true (count items) MOST_ITEMS parts.0, items_counted terms);
      short = each.short;
      told = each.told;
    }

terms_in : (number : ℕ) (row : Row) (terms : Option (List Term)) (others : Slots) → all_fit (field number terms_form optional row) (slot (maybe_terms terms) others) ≡ true → IfSome terms AreTerms
terms_in number row None others is = tt
terms_in number row (Some terms) others is = terms_read terms (there number terms_form optional row (terms_content terms) others is).0

-- an activity
activity_in : (number : ℕ) (row : Row) (activity : Option ℕ) (others : Slots) → all_fit (field number activity_form optional row) (slot (maybe_num activity) others) ≡ true
    → IfSome activity (λ one. is_activity one ≡ true)
activity_in number row None others is = tt
activity_in number row (Some activity) others is = (there number activity_form optional row (natural activity) others is).0

-- a FADU has no number 0
fadu_numbered : (fadu : FaduId) → IsSome (fadu_slot fadu) → is_numbered fadu ≡ true
fadu_numbered fadus.Begin some = refl
fadu_numbered fadus.End some = refl
fadu_numbered fadus.First some = refl
fadu_numbered fadus.Last some = refl
fadu_numbered fadus.Current some = refl
fadu_numbered fadus.Next some = refl
fadu_numbered fadus.Previous some = refl
fadu_numbered (fadus.Number zero) some = absurd cc
fadu_numbered (fadus.Number (suc n)) some = le-leb 1 (suc n) (omega arith)

-- ---- PDUs

pub select_read : (name : List ℕ) (requested : Actions) (controls : Option AttributeControls) (password : Option (List ℕ)) → IsInRange (SelectRequest name requested controls password) → is_short password ≡ true
unfolding row_of
select_read name requested controls password is =
    let row3 : Row = field 3 (one String) optional end in
    let row2 : Row = field 2 (one (Controls 3)) optional row3 in
    let row1 : Row = field 1 (int 0 255) (or 0) row2 in
    let slots3 : Slots = slot (maybe_octets password) nil in
    let slots2 : Slots = slot (option_map attribute_controls controls) slots3 in
    let slots1 : Slots = present (natural requested.value) slots2 in
    let first = (there 0 (one TextForm) required row1 (Octets name) slots1 is).1 in
    let second = (there 1 (int 0 255) (or 0) row2 (natural requested.value) slots2 first).1 in
    short_in 3 end password nil (past 2 (one (Controls 3)) row3 (option_map attribute_controls controls) slots3 second)

pub record IsReadCreation (name : List ℕ) (permitted : Actions) (terms : List Term) (password : Option (List ℕ)) : Type 0 where
  pub named : IsName name
  pub permits : AreActions permitted.value
  pub terms_are : AreTerms terms
  pub short : is_short password ≡ true

pub create_read : (over : ℕ) (name : List ℕ) (contents : Contents) (permitted : Actions) (terms : List Term) (requested : Actions) (controls : Option AttributeControls) (password : Option (List ℕ))
    → IsInRange (CreateRequest over name contents permitted terms requested controls password) → IsReadCreation name permitted terms password
unfolding row_of
create_read over name contents permitted terms requested controls password is =
    let row7 : Row = field 7 (one String) optional end in
    let row6 : Row = field 6 (one (Controls 3)) optional row7 in
    let row5 : Row = field 5 (int 0 255) (or 0) row6 in
    let row4 : Row = field 4 terms_form no_terms row5 in
    let row3 : Row = field 3 (int 0 255) (or 255) row4 in
    let row2 : Row = field 2 contents_form required row3 in
    let row1 : Row = field 1 (one TextForm) required row2 in
    let slots7 : Slots = slot (maybe_octets password) nil in
    let slots6 : Slots = slot (option_map attribute_controls controls) slots7 in
    let slots5 : Slots = present (natural requested.value) slots6 in
    let slots4 : Slots = present (terms_content terms) slots5 in
    let slots3 : Slots = present (natural permitted.value) slots4 in
    let slots2 : Slots = present (contents_content contents) slots3 in
    let slots1 : Slots = present (Octets name) slots2 in
    let at1 = (there 0 (int 0 1) (or 0) row1 (natural over) slots1 is).1 in
    let at2 = there 1 (one TextForm) required row2 (Octets name) slots2 at1 in
    let at3 = (there 2 contents_form required row3 (contents_content contents) slots3 at2.1).1 in
    let at4 = there 3 (int 0 255) (or 255) row4 (natural permitted.value) slots4 at3 in
    let at5 = there 4 terms_form no_terms row5 (terms_content terms) slots5 at4.1 in
    let at6 = (there 5 (int 0 255) (or 0) row6 (natural requested.value) slots6 at5.1).1 in
    record {
      named = at2.0;
      permits = (bounded 0 255 permitted.value at4.0).1;
      terms_are = terms_read terms at5.0;
      short = short_in 7 end password nil (past 6 (one (Controls 3)) row7 (option_map attribute_controls controls) slots7 at6);
    }

pub record IsReadChange (name : Option (List ℕ)) (permitted : Option Actions) (terms : Option (List Term)) : Type 0 where
  pub named : IfSome name IsName
  pub permits : IfSome permitted (λ (set : Actions). AreActions set.value)
  pub terms_are : IfSome terms AreTerms

pub change_read : (name : Option (List ℕ)) (permitted : Option Actions) (terms : Option (List Term)) (others : ℕ) → IsInRange (ChangeAttribRequest name permitted terms others) → IsReadChange name permitted terms
unfolding row_of
change_read name permitted terms others is =
    let row3 : Row = field 3 (int 0 65535) (or 0) end in
    let row2 : Row = field 2 terms_form optional row3 in
    let row1 : Row = field 1 (int 0 255) optional row2 in
    let slots3 : Slots = present (natural others) nil in
    let slots2 : Slots = slot (maybe_terms terms) slots3 in
    let slots1 : Slots = slot (maybe_actions permitted) slots2 in
    let after = past 0 (one TextForm) row1 (maybe_octets name) slots1 is in
    record {
      named = name_in 0 row1 name slots1 is;
      permits = actions_in 1 row2 permitted slots2 after;
      terms_are = terms_in 2 row3 terms slots3 (past 1 (int 0 255) row2 (maybe_actions permitted) slots2 after);
    }

pub open_read : (mode : ℕ) (contents : Option Contents) (controls : Option ContentControls) (activity : Option ℕ) → IsInRange (OpenRequest mode contents controls activity) → IfSome activity (λ one. is_activity one ≡ true)
unfolding row_of
open_read mode contents controls activity is =
    let row3 : Row = field 3 activity_form optional end in
    let row2 : Row = field 2 (one (Controls 5)) optional row3 in
    let row1 : Row = field 1 contents_form optional row2 in
    let slots3 : Slots = slot (maybe_num activity) nil in
    let slots2 : Slots = slot (option_map content_controls controls) slots3 in
    let slots1 : Slots = slot (maybe_contents contents) slots2 in
    let first = (there 0 (int 0 31) required row1 (natural mode) slots1 is).1 in
    activity_in 3 end activity nil (past 2 (one (Controls 5)) row3 (option_map content_controls controls) slots3 (past 1 contents_form row2 (maybe_contents contents) slots2 first))

pub record IsReadInitialize (identity : Option (List ℕ)) (window : ℕ) : Type 0 where
  pub named : IfSome identity IsName
  pub windowed : 1 ≤ window

pub initialize_read : (units : ℕ) (identity password : Option (List ℕ)) (window : ℕ) → IsInRange (InitializeRequest units identity password window) → IsReadInitialize identity window
unfolding row_of
initialize_read units identity password window is =
    let row3 : Row = field 3 (int 1 65535) (or 1) end in
    let row2 : Row = field 2 (one String) optional row3 in
    let row1 : Row = field 1 (one TextForm) optional row2 in
    let slots3 : Slots = present (natural window) nil in
    let slots2 : Slots = slot (maybe_octets password) slots3 in
    let slots1 : Slots = slot (maybe_octets identity) slots2 in
    let at1 = (there 0 (int 0 65535) required row1 (natural units) slots1 is).1 in
    let at3 = past 2 (one String) row3 (maybe_octets password) slots3 (past 1 (one TextForm) row2 (maybe_octets identity) slots2 at1) in
    record { named = name_in 1 row2 identity slots2 at1; windowed = (bounded 1 65535 window (there 3 (int 1 65535) (or 1) end (natural window) nil at3).0).0 }

pub recover_read : (activity number point : ℕ) → IsInRange (RecoverRequest activity number point) → point ≤ MOST_POINT
unfolding row_of
recover_read activity number point is =
    let row2 : Row = field 2 point_form (or 0) end in
    let row1 : Row = field 1 (int 1 MOST_POINT) required row2 in
    let slots2 : Slots = present (natural point) nil in
    let slots1 : Slots = present (natural number) slots2 in
    let at1 = (there 0 activity_form required row1 (natural activity) slots1 is).1 in
    let at2 = (there 1 (int 1 MOST_POINT) required row2 (natural number) slots2 at1).1 in
    (bounded 0 MOST_POINT point (there 2 point_form (or 0) end (natural point) nil at2).0).1

pub restart_read : (point : ℕ) → IsInRange (RestartRequest point) → point ≤ MOST_POINT
unfolding row_of
restart_read point is = (bounded 0 MOST_POINT point (there 0 point_form (or 0) end (natural point) nil is).0).1

pub reads_numbered : (fadu : FaduId) (context : Context) → IsInRange (ReadRequest fadu context) → is_numbered fadu ≡ true
reads_numbered fadu context is = fadu_numbered fadu (read_unit fadu context is)

pub writes_numbered : (operation : WriteOperation) (fadu : FaduId) → IsInRange (WriteRequest operation fadu) → is_numbered fadu ≡ true
writes_numbered operation fadu is = fadu_numbered fadu (write_unit operation fadu is)

-- ---- messages

pub element_sayable : (element : Element) → IsWritable element → is_sayable element ≡ true
element_sayable (Text class octets) is = is
element_sayable (Binary octets) is = refl
element_sayable (Descriptor name filled) is = refl
element_sayable Enter is = refl
element_sayable Exit is = refl

-- the terms of a message that was read
terms_weaker : (P : List Term → Type 0) (terms : Option (List Term)) → ((terms : List Term) → AreTerms terms → P terms) → IfSome terms AreTerms → IfSome terms P
terms_weaker P None f are = tt
terms_weaker P (Some terms) f are = f terms are

read_request : (P : List Term → Type 0) → ((terms : List Term) → AreTerms terms → P terms) → (request : Pdu) → IsInRange request → HasTerms P (messages.Pdu request)
read_request P f (CreateRequest over name contents permitted terms requested controls password) is = f terms (create_read over name contents permitted terms requested controls password is).terms_are
read_request P f (ChangeAttribRequest name permitted terms others) is = terms_weaker P terms f (change_read name permitted terms others is).terms_are
read_request P f request is = tt

read_terms : (P : List Term → Type 0) → ((terms : List Term) → AreTerms terms → P terms) → (message : Message) → IsRead message → HasTerms P message
read_terms P f (messages.Pdu request) is = read_request P f request is
read_terms P f message is = tt

pub read_few : (message : Message) → IsRead message → HasFewTerms message
read_few message is = read_terms AreFew (λ terms are. are.few) message is

pub read_short : (message : Message) → IsRead message → HasTerms AreShort message
read_short message is = read_terms AreShort (λ terms are. are.short) message is
