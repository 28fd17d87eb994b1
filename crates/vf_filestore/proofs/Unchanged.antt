-- What is kept differs from itself by no change.
use Rattle.std.proofs.Common.{◌≡◌, ℕ, ◌+◌, Bool, true, false, cond, ◌&&◌, not, List, [], ◌∷◌, ◌++◌, drop, find, length, nat_eq, Some, refl, ◌∙◌, arith}
use Rattle.std.specs.Prelude.{nat_lt}
use Rattle.std.specs.List.{AllByRecursion, IsDistinct}
use Rattle.std.proofs.lemmas.Bool.{eq-eqb, le-ltb}
use Rattle.std.proofs.lemmas.List.{drop_all}
use Rattle.std.proofs.lemmas.Map.Keys.{IsDistinct-head, IsDistinct-tail}
use Rattle.vf_attr.specs.Attributes.{attributes_of}
use Rattle.vf_attr.specs.declared.file.File.{File}
use Rattle.vf_attr.proofs.EqualAttributes.{attributes_refl}
use Rattle.vf_base.specs.declared.access.Context.{Context}
use Rattle.vf_base.specs.declared.access.Context.TheVariants.{HA, FA, UA, US}
use Rattle.vf_base.specs.declared.access.FaduId.{FaduId}
use Rattle.vf_base.specs.declared.access.FaduId.TheVariants.{Begin, End, First, Last, Current, Next, Previous, Number}
use Rattle.vf_base.specs.declared.action.Control.{Control}
use Rattle.vf_base.specs.declared.action.Control.TheVariants.{NotRequired, Shared, Exclusive, NoAccess}
use Rattle.vf_base.specs.declared.element.Element.{Element}
use Rattle.vf_tree.specs.Same.{are_same_units, is_same_unit}
use Rattle.vf_tree.proofs.EqualUnits.{name_refl, pointwise_refl, units_refl}
use Rattle.vf_tables.specs.Changes.{staged_in}
use Rattle.vf_tables.specs.Snapshot.{stages_after}
use Rattle.vf_tables.specs.declared.change.Change.TheVariants.{CutStage, DropDocket, DropFile, PutDocket}
use Rattle.vf_tables.specs.declared.docket.Direction.{Direction}
use Rattle.vf_tables.specs.declared.docket.Direction.TheVariants.{Idle, Read, Write}
use Rattle.vf_tables.specs.declared.docket.Docket.{Docket}
use Rattle.vf_tables.specs.declared.docket.Operation.{Operation}
use Rattle.vf_tables.specs.declared.docket.Operation.TheVariants.{Insert, Replace, Extend}
use Rattle.vf_tables.specs.declared.docket.Regime.{Regime}
use Rattle.vf_filestore.specs.Changes.{all_piece_changes, change_of, common, docket_changes, file_changes, is_same_context, is_same_control, is_same_direction, is_same_fadu, is_same_file, is_same_open, is_same_operation, is_same_regime, is_same_setting, is_same_transfer, piece_changes}
use Rattle.vf_filestore.specs.Laws.{MakesNoChange}
use Rattle.vf_filestore.proofs.Filed.{name_itself, names_flip}
use Rattle.vf_filestore.proofs.Lists.{all_both}
use Rattle.vf_filestore.proofs.Parties.{nat_eq_flips}

pub number_refl : (n : ℕ) → nat_eq n n ≡ true
number_refl n = eq-eqb n n refl

-- ---- files

pub file_itself : (file : File) → is_same_file file file ≡ true
file_itself file = λ i. name_itself file.name i && units_refl file.tree.units i && attributes_refl (attributes_of file) i

pub files_themselves : (files : List File) → file_changes files files ≡ []
files_themselves [] = refl
files_themselves (file ∷ files) = by (is_same_file file file) (file_itself file) (files_themselves files)
  where
    by : (b : Bool) → b ≡ true → file_changes files files ≡ []
        → cond b (file_changes files files) (cond (nat_lt (length files) (length files)) (DropFile file.name ∷ file_changes files (file ∷ files)) (change_of file file ∷ file_changes files files)) ≡ []
    by true is rest = rest
    by false is rest = absurd cc

-- ---- dockets

fadu_itself : (fadu : FaduId) → is_same_fadu fadu fadu ≡ true
fadu_itself Begin = refl
fadu_itself End = refl
fadu_itself First = refl
fadu_itself Last = refl
fadu_itself Current = refl
fadu_itself Next = refl
fadu_itself Previous = refl
fadu_itself (Number number) = number_refl number

context_itself : (context : Context) → is_same_context context context ≡ true
context_itself HA = refl
context_itself FA = refl
context_itself UA = refl
context_itself US = refl

operation_itself : (operation : Operation) → is_same_operation operation operation ≡ true
operation_itself Insert = refl
operation_itself Replace = refl
operation_itself Extend = refl

direction_itself : (direction : Direction) → is_same_direction direction direction ≡ true
direction_itself Idle = refl
direction_itself (Read context) = context_itself context
direction_itself (Write operation) = operation_itself operation

control_itself : (control : Control) → is_same_control control control ≡ true
control_itself NotRequired = refl
control_itself Shared = refl
control_itself Exclusive = refl
control_itself NoAccess = refl

flag_itself : (flag : Bool) → cond flag flag (not flag) ≡ true
flag_itself true = refl
flag_itself false = refl

pub open_itself : (docket : Docket) → is_same_open docket docket ≡ true
open_itself docket = λ i. name_itself docket.regime.identity i && number_refl docket.regime.activity i

setting_itself : (regime : Regime) → is_same_setting regime regime ≡ true
setting_itself regime =
    λ i. name_itself regime.identity i && number_refl regime.activity i && name_itself regime.file i && number_refl regime.requested.value i
    && pointwise_refl is_same_control control_itself regime.controls.each i && number_refl regime.mode.value i
    && name_refl regime.password i && number_refl regime.window i

transfer_itself : (regime : Regime) → is_same_transfer regime regime ≡ true
transfer_itself regime =
    λ i. number_refl regime.position i && number_refl regime.number i && number_refl regime.last i && direction_itself regime.direction i
    && fadu_itself regime.fadu i && number_refl regime.refused i && number_refl regime.point i && flag_itself regime.ended i
    && number_refl regime.version i

pub regime_itself : (regime : Regime) → is_same_regime regime regime ≡ true
regime_itself regime = λ i. setting_itself regime i && transfer_itself regime i

pub dockets_themselves : (dockets : List Docket) → docket_changes dockets dockets ≡ []
dockets_themselves [] = refl
dockets_themselves (docket ∷ dockets) = by (is_same_regime docket.regime docket.regime) (regime_itself docket.regime) (is_same_open docket docket) (dockets_themselves dockets)
  where
    by : (b : Bool) → b ≡ true → (open_is : Bool) → docket_changes dockets dockets ≡ []
        → cond b (docket_changes dockets dockets) (cond open_is (PutDocket docket.regime ∷ docket_changes dockets dockets) (DropDocket docket.regime.identity docket.regime.activity ∷ docket_changes dockets (docket ∷ dockets))) ≡ []
    by true is open_is rest = rest
    by false is open_is rest = absurd cc

-- ---- pieces

unit_itself : (unit : List Element) → is_same_unit unit unit ≡ true
unfolding are_same_units
unit_itself unit = by (is_same_unit unit unit) (units_refl (unit ∷ []))
  where
    by : (b : Bool) → (b && true) ≡ true → b ≡ true
    by true is = refl
    by false is = is

common_itself : (pieces : List (List Element)) → common pieces pieces ≡ length pieces
common_itself [] = refl
common_itself (piece ∷ pieces) = by (is_same_unit piece piece) (unit_itself piece) (common_itself pieces)
  where
    by : (b : Bool) → b ≡ true → common pieces pieces ≡ length pieces → cond b (1 + common pieces pieces) 0 ≡ length (piece ∷ pieces)
    by true is rest = omega (arith, rest)
    by false is rest = absurd cc

pub no_piece : (regime : Regime) (pieces : List (List Element)) → piece_changes regime pieces pieces ≡ []
no_piece regime pieces =
    (λ i. cond (nat_lt (common_itself pieces i) (length pieces)) (CutStage regime.identity regime.activity (common_itself pieces i) ∷ []) [] ++ stages_after regime.identity regime.activity (common_itself pieces i) (drop (common_itself pieces i) pieces))
    ∙ (λ i. cond (le-ltb (length pieces) (length pieces) (omega arith) i) (CutStage regime.identity regime.activity (length pieces) ∷ []) [] ++ stages_after regime.identity regime.activity (length pieces) (drop_all (length pieces) pieces (omega arith) i))

-- each docket is found by its open
abbrev pub IsFoundIn : List Docket → Docket → Type 0
IsFoundIn dockets docket = find (is_same_open docket) dockets ≡ Some docket

pub open_flips : (one other : Docket) → is_same_open one other ≡ is_same_open other one
open_flips one other = λ i. names_flip one.regime.identity other.regime.identity i && nat_eq_flips one.regime.activity other.regime.activity i

pub all_found : (dockets : List Docket) → IsDistinct is_same_open dockets → AllByRecursion (IsFoundIn dockets) dockets
all_found [] distinct = tt
all_found (docket ∷ dockets) distinct = (
  λ i. cond (open_itself docket i) (Some docket) (find (is_same_open docket) dockets),
  all_both (λ other. is_same_open docket other ≡ false) (IsFoundIn dockets) (IsFoundIn (docket ∷ dockets)) dockets
      (λ other off found. (λ i. cond ((open_flips other docket ∙ off) i) (Some docket) (find (is_same_open other) dockets)) ∙ found)
      (IsDistinct-head is_same_open docket dockets distinct) (all_found dockets (IsDistinct-tail is_same_open docket dockets distinct)),
)

pub no_pieces : (dockets later : List Docket) → AllByRecursion (IsFoundIn dockets) later → all_piece_changes dockets later ≡ []
no_pieces dockets [] found = refl
no_pieces dockets (docket ∷ later) found =
    (λ i. piece_changes docket.regime (staged_in (found.0 i)) docket.staged ++ all_piece_changes dockets later)
    ∙ (λ i. no_piece docket.regime docket.staged i ++ all_piece_changes dockets later) ∙ no_pieces dockets later found.1

pub makes_no_change : MakesNoChange
makes_no_change tables distinct =
    λ i. files_themselves tables.files i ++ (dockets_themselves tables.dockets i ++ no_pieces tables.dockets tables.dockets (all_found tables.dockets distinct) i)
