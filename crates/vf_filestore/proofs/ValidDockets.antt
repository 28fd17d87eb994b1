-- The dockets of a sound state whose histories are such as a store keeps are valid.
use Rattle.std.proofs.Common.{◌≡◌, ℕ, zero, suc, ◌-◌, ◌*◌, ◌^◌, ◌<◌, ◌≤◌, Bool, true, false, cond, not, ◌&&◌, ◌||◌, nat_eq, List, [], ◌∷◌, ◌++◌, length, take, Option, None, Some, Result, Ok, Err, refl, ap, sym, subst, ◌∙◌, arith, bit_and}
use Rattle.std.specs.Prelude.{IfSome, IsSome, find, flat_map, nat_le, nat_lt, slice_get}
use Rattle.std.specs.Int.{bit_at}
use Rattle.std.specs.List.{AllByRecursion, list_all}
use Rattle.std.specs.Option.{option_map_or}
use Rattle.std.proofs.lemmas.Bool.{and_parts, eq-eqb, eqb-true, le-leb, ltb-false}
use Rattle.std.proofs.lemmas.List.{append-nil, length-take-le}
use Rattle.std.proofs.lemmas.Nat.{and_comm}
use Rattle.std.proofs.lemmas.Nat.Bits.{and_pow, bit_at-lt}
use Rattle.std.proofs.lemmas.Option.{slice_get_within}
use Rattle.vf_attr.specs.Access.{has, number_of}
use Rattle.vf_attr.specs.declared.file.File.{File}
use Rattle.vf_base.specs.declared.access.Constraint.{Constraint}
use Rattle.vf_base.specs.declared.access.Constraint.TheVariants.{Unstructured, SequentialFlat}
use Rattle.vf_base.specs.declared.access.Context.{Context}
use Rattle.vf_base.specs.declared.access.FaduId.{FaduId}
use Rattle.vf_base.specs.declared.access.FaduId.TheVariants.{Begin, End, First, Last, Current, Next, Previous, Number}
use Rattle.vf_base.specs.declared.action.Action.{Action}
use Rattle.vf_base.specs.declared.action.Action.TheVariants as actions
use Rattle.vf_base.specs.declared.action.Actions.{Actions}
use Rattle.vf_base.specs.declared.action.Control.{Control}
use Rattle.vf_base.specs.declared.element.Element.{Element}
use Rattle.vf_locks.specs.Clash.{is_use}
use Rattle.vf_pdu_fields.specs.declared.controls.AttributeControls.{AttributeControls}
use Rattle.vf_pdu_fields.specs.declared.controls.ContentControls.{ContentControls}
use Rattle.vf_pdu_fields.specs.declared.operation.WriteOperation.{WriteOperation}
use Rattle.vf_pdu_fields.specs.declared.operation.WriteOperation.TheVariants.{Insert, Replace, Extend}
use Rattle.vf_tables.specs.Entries.{is_file}
use Rattle.vf_tables.specs.Validity.{are_controlled, came_from, comes_to, includes, is_controlled, is_regime_on, is_shown, is_transfer, is_valid_docket, is_written, pieces_of}
use Rattle.vf_tables.specs.Validity as valid
use Rattle.vf_tables.specs.declared.limits.TheConstants.{MOST_SURVIVING_ELEMENTS, MOST_SURVIVING_OCTETS}
use Rattle.vf_transfer.specs.Transfer.{standing}
use Rattle.vf_transfer.proofs.Recovered.{point_stands}
use Rattle.vf_tree.specs.Contexts.{reading, reading_one, shown, takes, unit_there}
use Rattle.vf_tree.specs.FileTree.{DataUnit, FileTree}
use Rattle.vf_tree.specs.Identities.{meant}
use Rattle.vf_tree.specs.Identities as identities
use Rattle.vf_tree.specs.TreeRefusal.{TreeRefusal, BadContext}
use Rattle.vf_filestore.specs.Controls.{attributes_usable, contents_usable, is_usable, joined}
use Rattle.vf_filestore.specs.Dockets.{docket_left_by}
use Rattle.vf_filestore.specs.Files.{file_named}
use Rattle.vf_filestore.specs.History.{Given, Nothing, Made, Refused, Showed, Placed, Resumed, History, Regime, Selection, position, regime, selection}
use Rattle.vf_filestore.specs.Keeping.{AreHistoriesKept, AreKept, AreOpensKept, IsEarned, IsKeptEntry, IsOpenIn, IsOpenOn}
use Rattle.vf_filestore.specs.Opening.{action_of}
use Rattle.vf_filestore.specs.Sound.{Holding, IsFaithful, IsInMode, IsMoving, IsShownIn, IsSound, IsSoundDocket, IsThere, IsUsable, file_of, holding_by, holding_of_docket}
use Rattle.vf_filestore.specs.State.{Docket, State, activity_in}
use Rattle.vf_filestore.specs.Tables.{operation_of, regime_by, row_in, row_of, staged_of, tables_of}
use Rattle.vf_filestore.specs.Transfers.{Movement, Reads, Writes, Transfer, happened, point, under_way}
use Rattle.vf_filestore.proofs.Broken.{stopped_sound}
use Rattle.vf_filestore.proofs.Kept.{ordered}
use Rattle.vf_filestore.proofs.KeptMoves.{IsAt, IsKeptMove, kept_lasts, moving_kept}
use Rattle.vf_filestore.proofs.Lasting.{each_left_by_all}
use Rattle.vf_filestore.proofs.Leading.{all_joined, both}
use Rattle.vf_filestore.proofs.Lists.{all-from_flat_map, all_append, all_both}
use Rattle.vf_filestore.proofs.OpensKept.{all_left_open}
use Rattle.vf_filestore.proofs.OrderedRows.{all_ordered}

-- ---- sets of actions

bit_includes : (set k : ℕ) → nat_eq (bit_at set k) 1 ≡ true → includes set (2 ^ k) ≡ true
bit_includes set k is =
    let one : bit_at set k ≡ 1 = eqb-true (bit_at set k) 1 is in
    let sum : bit_and (2 ^ k) set ≡ bit_at set k * 2 ^ k = and_comm (2 ^ k) set ∙ and_pow set k in
    let same : bit_and (2 ^ k) set ≡ 2 ^ k = sum ∙ ap (λ b. b * 2 ^ k) one ∙ omega arith in
    eq-eqb (bit_and (2 ^ k) set) (2 ^ k) same

controlled_bit : (b : ℕ) → b < 2 → (used : Bool) → (not (nat_eq b 1) || used) ≡ true → (nat_eq b 0 || used) ≡ true
controlled_bit zero small used is = refl
controlled_bit (suc zero) small used is = is
controlled_bit (suc (suc b)) small used is = absurd (omega (arith, small))

controlled : (set : Actions) (action : Action) (control : Control) → is_usable set action control ≡ true → is_controlled set.value (number_of action, control) ≡ true
controlled set action control is = controlled_bit (bit_at set.value (number_of action)) (bit_at-lt set.value (number_of action)) (is_use control) is

all_controlled : (opened requested : Actions) (contents : ContentControls) (attributes : AttributeControls) → contents_usable opened contents ≡ true → attributes_usable requested attributes ≡ true
    → are_controlled opened.value requested.value (joined contents attributes).each ≡ true
all_controlled opened requested contents attributes first second =
    let a = and_parts (is_usable opened actions.Read contents.read) _ first in
    let b = and_parts (is_usable opened actions.Insert contents.insert) _ a.1 in
    let c = and_parts (is_usable opened actions.Replace contents.replace) _ b.1 in
    let d = and_parts (is_usable opened actions.Extend contents.extend) _ c.1 in
    let e = and_parts (is_usable opened actions.Erase contents.erase) true d.1 in
    let f = and_parts (is_usable requested actions.ReadAttribute attributes.read_attribute) _ second in
    let g = and_parts (is_usable requested actions.ChangeAttribute attributes.change_attribute) _ f.1 in
    let h = and_parts (is_usable requested actions.Delete attributes.delete) true g.1 in
    λ i. (controlled opened actions.Read contents.read a.0 i
    && (controlled opened actions.Insert contents.insert b.0 i
    && (controlled opened actions.Replace contents.replace c.0 i
    && (controlled opened actions.Extend contents.extend d.0 i
    && (controlled opened actions.Erase contents.erase e.0 i && true)))))
    && (controlled requested actions.ReadAttribute attributes.read_attribute f.0 i
    && (controlled requested actions.ChangeAttribute attributes.change_attribute g.0 i
    && (controlled requested actions.Delete attributes.delete h.0 i && true)))

-- ---- what was read is read from where it stands

come_same : (at : ℕ) (answer : Result (List Element × ℕ) TreeRefusal) (elements : List Element) → answer ≡ Ok (elements, at) → comes_to at answer ≡ true
come_same at answer elements is = ap (comes_to at) is ∙ eq-eqb at at refl

abbrev answered_at : Result (List Element × ℕ) TreeRefusal → ℕ
answered_at (Ok answer) = answer.1
answered_at (Err refusal) = 0

-- a unit that was read is there, at its position
one_there : (context : Context) (units : List DataUnit) (i : ℕ) (elements : List Element) (at : ℕ) → reading_one context i (unit_there units i) ≡ Ok (elements, at)
    → (at ≡ i) × (1 ≤ i) × (i ≤ length units)
one_there context units i elements at is = by (nat_eq i 0) refl is
  where
    found : (unit_found : Option DataUnit) → slice_get units (i - 1) ≡ unit_found → nat_eq i 0 ≡ false → reading_one context i unit_found ≡ Ok (elements, at) → (at ≡ i) × (1 ≤ i) × (i ≤ length units)
    found None none off is = absurd cc
    found (Some unit) some off is =
        let within = slice_get_within units (i - 1) unit some in
        let same : at ≡ i = sym (ap answered_at is) in
        let differs : i ≡ 0 → ⊥ = λ e. (let yes = eq-eqb i 0 e in absurd cc) in
        (same, omega (arith, differs), omega (arith, within, differs))

    by : (b : Bool) → nat_eq i 0 ≡ b → reading_one context i (cond b None (slice_get units (i - 1))) ≡ Ok (elements, at) → (at ≡ i) × (1 ≤ i) × (i ≤ length units)
    by true e is = absurd cc
    by false e is = found (slice_get units (i - 1)) refl e is

-- from where a read may have come its identity means the same
meant_again : (n from at : ℕ) (fadu : FaduId) → meant n (identities.standing n from) fadu ≡ at → 1 ≤ at → at ≤ n
    → meant n (identities.standing n (came_from fadu at)) fadu ≡ at
meant_again n from at Begin is least most = is
meant_again n from at End is least most = is
meant_again n from at First is least most = is
meant_again n from at Last is least most = is
meant_again n from at Current is least most = omega (arith, least, most)
meant_again n from at Next is least most = omega (arith, least, most)
meant_again n from at Previous is least most = omega (arith, least, most)
meant_again n from at (Number k) is least most = is

flat_again : (units : List DataUnit) (from : ℕ) (fadu : FaduId) (context : Context) (elements : List Element) (at : ℕ)
    → (let i = meant (length units) (identities.standing (length units) from) fadu in reading_one context i (unit_there units i)) ≡ Ok (elements, at)
    → (let i = meant (length units) (identities.standing (length units) (came_from fadu at)) fadu in reading_one context i (unit_there units i)) ≡ Ok (elements, at)
flat_again units from fadu context elements at is =
    let i = meant (length units) (identities.standing (length units) from) fadu in
    let there = one_there context units i elements at is in
    let least : 1 ≤ at = omega (arith, there.0, there.1) in
    let most : at ≤ length units = omega (arith, there.0, there.2) in
    let again = meant_again (length units) from at fadu (sym there.0) least most in
    ap (λ j. reading_one context j (unit_there units j)) (again ∙ there.0) ∙ is

reading_again : (constraint : Constraint) (units : List DataUnit) (from : ℕ) (fadu : FaduId) (context : Context) (elements : List Element) (at : ℕ) → reading constraint units from fadu context ≡ Ok (elements, at)
    → reading constraint units (came_from fadu at) fadu context ≡ Ok (elements, at)
reading_again Unstructured units from fadu context elements at is = is
reading_again SequentialFlat units from Begin context elements at is = is
reading_again SequentialFlat units from End context elements at is = flat_again units from End context elements at is
reading_again SequentialFlat units from First context elements at is = flat_again units from First context elements at is
reading_again SequentialFlat units from Last context elements at is = flat_again units from Last context elements at is
reading_again SequentialFlat units from Current context elements at is = flat_again units from Current context elements at is
reading_again SequentialFlat units from Next context elements at is = flat_again units from Next context elements at is
reading_again SequentialFlat units from Previous context elements at is = flat_again units from Previous context elements at is
reading_again SequentialFlat units from (Number k) context elements at is = flat_again units from (Number k) context elements at is

shown_again : (tree : FileTree) (from : ℕ) (fadu : FaduId) (context : Context) (elements : List Element) (at : ℕ) → shown tree from fadu context ≡ Ok (elements, at) → is_shown tree at fadu context ≡ true
shown_again tree from fadu context elements at is = by (takes tree.constraint context) is
  where
    by : (b : Bool) → cond b (reading tree.constraint tree.units from fadu context) (Err BadContext) ≡ Ok (elements, at)
        → comes_to at (cond b (reading tree.constraint tree.units (came_from fadu at) fadu context) (Err BadContext)) ≡ true
    by true is = come_same at _ elements (reading_again tree.constraint tree.units from fadu context elements at is)
    by false is = absurd cc

-- ---- transfers

not_refused : (n : ℕ) → (n ≡ 0 → ⊥) → not (nat_eq n 0) ≡ true
not_refused n differs = by (nat_eq n 0) refl
  where
    by : (b : Bool) → nat_eq n 0 ≡ b → not b ≡ true
    by true is = absurd (differs (eqb-true n 0 is))
    by false is = refl

or_left : (a b : Bool) → a ≡ true → (a || b) ≡ true
or_left true b is = refl
or_left false b is = absurd cc

write_includes : (mode : Actions) (operation : WriteOperation) → has mode (action_of operation) ≡ true → includes mode.value (valid.action_of (operation_of operation)) ≡ true
write_includes mode Insert is = bit_includes mode.value 1 is
write_includes mode Replace is = bit_includes mode.value 2 is
write_includes mode Extend is = bit_includes mode.value 3 is

pub read_valid : (file : File) (fadu : FaduId) (context : Context) (version : ℕ) (elements : List Element) (position at : ℕ) → IsShownIn (Some file) fadu context (Showed version elements position) → at ≡ position
    → (nat_lt version file.version || (nat_eq version file.version && is_shown file.tree at fadu context)) ≡ true
read_valid file fadu context version elements position at shows here = by (nat_lt version file.version) refl
  where
    by : (b : Bool) → nat_lt version file.version ≡ b → (b || (nat_eq version file.version && is_shown file.tree at fadu context)) ≡ true
    by true is = refl
    by false is =
        let same : file.version ≡ version = omega (arith, shows.rising, ltb-false version file.version is) in
        let read = shows.same same in
        both (nat_eq version file.version) (is_shown file.tree at fadu context) (eq-eqb version file.version (sym same))
        (ap (λ p. is_shown file.tree p fadu context) here ∙ shown_again file.tree read.0 fadu context elements position read.1)

-- ---- one row

-- what is known of an open regime that is kept, of its selection and its file
record IsKnownRow (history : History) (opened : Regime) (moving : Option Transfer) (one : Selection) (file : File) : Type 0 where
  usable : IsUsable (record { selection = one; opened = Some opened; moving = moving })
  open_on : IsOpenOn opened file
  kept : IfSome moving (IsKeptMove history)
  sound : IfSome moving (IsMoving (Some file) history)

transfer_valid : (docket : Docket) (opened : Regime) (moving : Option Transfer) (one : Selection) (file : File) → IsKnownRow docket.history opened moving one file
    → (let row = regime_by docket (Some opened) one moving in (not (nat_eq row.refused 0) || is_transfer file row row.direction) ≡ true)
transfer_valid docket opened None one file known = refl
transfer_valid docket opened (Some transfer) one file known = by transfer.movement transfer.given known.kept.earned known.kept.at known.sound.faithful known.usable.moving
  where
    by : (movement : Movement) (given : Given) → IsEarned movement given → IsAt given (position docket.history) → IsFaithful (Some file) movement given → IsInMode opened.mode movement given
        → (let row = regime_by docket (Some opened) one (Some (record { movement = movement; given = given })) in (not (nat_eq row.refused 0) || is_transfer file row row.direction) ≡ true)
    by (Reads fadu context) (Showed version elements at) earned here faithful mode =
        both (includes opened.mode.value 1) (nat_lt version file.version || (nat_eq version file.version && is_shown file.tree (position docket.history) fadu context))
        (bit_includes opened.mode.value 0 mode) (read_valid file fadu context version elements at (position docket.history) faithful here)
    by (Reads fadu context) (Refused version number) earned here faithful mode = or_left (not (nat_eq number 0)) _ (not_refused number earned)
    by (Reads fadu context) Nothing earned here faithful mode = absurd earned
    by (Reads fadu context) Made earned here faithful mode = absurd earned
    by (Reads fadu context) (Placed at) earned here faithful mode = absurd earned
    by (Reads fadu context) (Resumed goes_on at) earned here faithful mode = absurd earned
    by (Writes operation fadu) Nothing earned here faithful mode =
        both (includes opened.mode.value (valid.action_of (operation_of operation))) (is_written (operation_of operation) fadu) (write_includes opened.mode operation mode) earned
    by (Writes operation fadu) (Refused version number) earned here faithful mode = or_left (not (nat_eq number 0)) _ (not_refused number earned)
    by (Writes operation fadu) Made earned here faithful mode = absurd earned
    by (Writes operation fadu) (Showed version elements at) earned here faithful mode = absurd earned
    by (Writes operation fadu) (Placed at) earned here faithful mode = absurd earned
    by (Writes operation fadu) (Resumed goes_on at) earned here faithful mode = absurd earned

regime_valid : (docket : Docket) (opened : Regime) (moving : Option Transfer) (one : Selection) (file : File) → IsKnownRow docket.history opened moving one file
    → is_regime_on (regime_by docket (Some opened) one moving) file ≡ true
regime_valid docket opened moving one file known =
    let within = known.usable.opened.within in
    let controls = all_controlled opened.mode one.requested opened.controls one.controls known.usable.opened.usable known.usable.attributes in
    let moves = transfer_valid docket opened moving one file known in
    λ i. within i && known.open_on i && controls i && moves i

-- a write has as many pieces as its point says
pieces_counted : (docket : Docket) (opened : Regime) (moving : Option Transfer) (one : Selection) (file : File) → IsKnownRow docket.history opened moving one file
    → (let row = regime_by docket (Some opened) one moving in nat_eq (length (staged_of docket.history moving)) (pieces_of row row.direction) ≡ true)
pieces_counted docket opened None one file known = refl
pieces_counted docket opened (Some transfer) one file known = by transfer.movement
  where
    by : (movement : Movement)
        → (let row = regime_by docket (Some opened) one (Some (record { movement = movement; given = transfer.given })) in
        nat_eq (length (staged_of docket.history (Some (record { movement = movement; given = transfer.given })))) (pieces_of row row.direction) ≡ true)
    by (Reads fadu context) = refl
    by (Writes operation fadu) =
        let stands = point_stands 0 (happened docket.history) known.sound.named in
        eq-eqb (length (take (point docket.history) (standing 0 (happened docket.history)).closed)) (point docket.history)
        (length-take-le (point docket.history) (standing 0 (happened docket.history)).closed (omega (arith, stands.1)))

few_staged : (history : History) (moving : Option Transfer) → IfSome moving (IsKeptMove history)
    → (nat_le (valid.octets_staged (staged_of history moving)) MOST_SURVIVING_OCTETS ≡ true) × (nat_le (valid.elements_staged (staged_of history moving)) MOST_SURVIVING_ELEMENTS ≡ true)
few_staged history None kept = (refl, refl)
few_staged history (Some transfer) kept = (
  le-leb (valid.octets_staged (staged_of history (Some transfer))) MOST_SURVIVING_OCTETS kept.few_octets,
  le-leb (valid.elements_staged (staged_of history (Some transfer))) MOST_SURVIVING_ELEMENTS kept.few_elements,
)

-- a file is found by its name, whatever looks for it
found_same : (name : List ℕ) (files : List File) → find (is_file name) files ≡ file_named name files
found_same name [] = refl
found_same name (file ∷ files) = λ i. cond (is_file name file) (Some file) (found_same name files i)

row_valid : (files : List File) (docket : Docket) (opened : Regime) (moving : Option Transfer) (one : Selection) (file : File) → file_named one.file files ≡ Some file → IsKnownRow docket.history opened moving one file
    → is_valid_docket files (record { regime = regime_by docket (Some opened) one moving; staged = staged_of docket.history moving }) ≡ true
row_valid files docket opened moving one file found known =
    let row = regime_by docket (Some opened) one moving in
    let regime_is : option_map_or (is_regime_on row) (find (is_file one.file) files) false ≡ true
    = ap (λ (found : Option File). option_map_or (is_regime_on row) found false) (found_same one.file files ∙ found) ∙ regime_valid docket opened moving one file known in
    let few = few_staged docket.history moving known.kept in
    let pieces = pieces_counted docket opened moving one file known in
    λ i. regime_is i && pieces i && few.0 i && few.1 i

-- ---- all rows

-- the file of a selection that stands
docket_valid : (files : List File) (docket : Docket) → IsSoundDocket files docket → AllByRecursion IsUsable (holding_of_docket docket) → AreKept docket.history → IsOpenIn files docket.history → list_all (is_valid_docket files) (row_of docket) ≡ true
docket_valid files docket sound usable kept open_in =
    of (regime docket.history) (under_way docket.history) (selection docket.history) sound.opened sound.selected sound.sound.there usable open_in (moving_kept docket.history sound.sound.nested kept) sound.sound.moving
  where
    named : (opened : Regime) (moving : Option Transfer) (one : Selection) (found : Option File) → file_named one.file files ≡ found → IsSome found → AllByRecursion IsUsable (holding_by (Some opened) moving (Some one))
        → IfSome found (IsOpenOn opened) → IfSome moving (IsKeptMove docket.history) → IfSome moving (IsMoving found docket.history)
        → list_all (is_valid_docket files) (row_in docket (Some opened) moving (Some one)) ≡ true
    named opened moving one None is some usable open_on kept sound = absurd cc
    named opened moving one (Some file) is some usable open_on kept sound =
        both (is_valid_docket files (record { regime = regime_by docket (Some opened) one moving; staged = staged_of docket.history moving })) true
        (row_valid files docket opened moving one file is (record { usable = usable.0; open_on = open_on; kept = kept; sound = sound })) refl

    of : (opened : Option Regime) (moving : Option Transfer) (one : Option Selection) → activity_in opened ≡ Some docket.activity → IsSome one → IfSome one (IsThere files)
        → AllByRecursion IsUsable (holding_by opened moving one) → IfSome opened (λ regime. IfSome (file_of files one) (IsOpenOn regime)) → IfSome moving (IsKeptMove docket.history)
        → IfSome moving (IsMoving (file_of files one) docket.history) → list_all (is_valid_docket files) (row_in docket opened moving one) ≡ true
    of None moving one activity some there usable open_on kept sound = absurd cc
    of (Some opened) moving None activity some there usable open_on kept sound = absurd cc
    of (Some opened) moving (Some one) activity some there usable open_on kept sound = named opened moving one (file_named one.file files) refl there usable open_on kept sound

rows_valid : (files : List File) (dockets : List Docket) → AllByRecursion (λ (docket : Docket). list_all (is_valid_docket files) (row_of docket) ≡ true) dockets → list_all (is_valid_docket files) (flat_map row_of dockets) ≡ true
rows_valid files [] each = refl
rows_valid files (docket ∷ dockets) each = all_joined (is_valid_docket files) (row_of docket) (flat_map row_of dockets) each.0 (rows_valid files dockets each.1)

pub dockets_valid : (state : State) → IsSound state → AreHistoriesKept state → AreOpensKept state → list_all (is_valid_docket state.files) (tables_of state).dockets ≡ true
dockets_valid state sound kept opens =
    let after = stopped_sound state sound in
    let all = state.dockets ++ flat_map docket_left_by state.parties in
    let usable : AllByRecursion (λ (docket : Docket). AllByRecursion IsUsable (holding_of_docket docket)) all
    = all-from_flat_map holding_of_docket IsUsable all (subst (λ (holdings : List Holding). AllByRecursion IsUsable holdings) (append-nil (flat_map holding_of_docket all)) after.usable) in
    let histories = all_append (λ (docket : Docket). AreKept docket.history) state.dockets (flat_map docket_left_by state.parties) kept.dockets (each_left_by_all IsKeptEntry kept_lasts state.files state.parties sound.parties kept.parties) in
    let known = all_both (IsSoundDocket state.files) (λ (docket : Docket). AllByRecursion IsUsable (holding_of_docket docket))
    (λ (docket : Docket). IsSoundDocket state.files docket × AllByRecursion IsUsable (holding_of_docket docket)) all (λ docket sound usable. (sound, usable)) after.dockets usable in
    let open_in = all_append (λ (docket : Docket). IsOpenIn state.files docket.history) state.dockets (flat_map docket_left_by state.parties) opens.dockets (all_left_open state.files state.parties sound.parties opens.parties) in
    let more = all_both (λ (docket : Docket). AreKept docket.history) (λ (docket : Docket). IsOpenIn state.files docket.history)
    (λ (docket : Docket). AreKept docket.history × IsOpenIn state.files docket.history) all (λ docket kept opened. (kept, opened)) histories open_in in
    let each = all_both (λ (docket : Docket). IsSoundDocket state.files docket × AllByRecursion IsUsable (holding_of_docket docket)) (λ (docket : Docket). AreKept docket.history × IsOpenIn state.files docket.history)
    (λ (docket : Docket). list_all (is_valid_docket state.files) (row_of docket) ≡ true) all (λ docket one other. docket_valid state.files docket one.0 one.1 other.0 other.1) known more in
    rows_valid state.files (ordered [] all) (all_ordered (λ (docket : Docket). list_all (is_valid_docket state.files) (row_of docket) ≡ true) all each)
