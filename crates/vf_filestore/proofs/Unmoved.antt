-- Tables that differ by no change are the same.
use Rattle.std.proofs.Common.{◌≡◌, ℕ, Bool, true, false, cond, List, [], ◌∷◌, ◌++◌, length, take, drop, Option, Some, refl, ap, sym, ◌∙◌, arith}
use Rattle.std.specs.Prelude.{find, nat_lt}
use Rattle.std.specs.List.{AllByRecursion, IsDistinct}
use Rattle.std.proofs.lemmas.Bool.{ltb-false}
use Rattle.std.proofs.lemmas.List.{append-nil, take_all}
use Rattle.vf_attr.specs.declared.file.File.{File}
use Rattle.vf_base.specs.declared.element.Element.{Element}
use Rattle.vf_tables.specs.Changes.{staged_in}
use Rattle.vf_tables.specs.Entries.{is_docket}
use Rattle.vf_tables.specs.Snapshot.{stages_after}
use Rattle.vf_tables.specs.declared.change.Change.TheVariants.{CutStage, DropDocket, DropFile, PutDocket}
use Rattle.vf_tables.specs.declared.docket.Docket.{Docket}
use Rattle.vf_tables.specs.declared.docket.Regime.{Regime}
use Rattle.vf_tables.specs.declared.tables.Tables.{Tables}
use Rattle.vf_filestore.specs.Changes.{all_piece_changes, change_of, common, delta, docket_changes, file_changes, is_same_file, is_same_open, is_same_regime, piece_changes}
use Rattle.vf_filestore.specs.Sound.{IsLimited}
use Rattle.vf_filestore.proofs.DocketSteps.{common_joined, common_within}
use Rattle.vf_filestore.proofs.Equal.{contents_true, file_true, regime_true}
use Rattle.vf_filestore.proofs.FilesMoved.{same_constraint}
use Rattle.vf_filestore.proofs.Unchanged.{IsFoundIn, all_found}

pub first_empty : {A : Type 0} (xs ys : List A) → xs ++ ys ≡ [] → xs ≡ []
first_empty [] ys is = refl
first_empty (x ∷ xs) ys is = absurd cc

pub second_empty : {A : Type 0} (xs ys : List A) → xs ++ ys ≡ [] → ys ≡ []
second_empty [] ys is = is
second_empty (x ∷ xs) ys is = absurd cc

-- ---- files

files_same : (before after : List File) → AllByRecursion IsLimited before → AllByRecursion IsLimited after → file_changes before after ≡ [] → after ≡ before
files_same [] [] first second none = refl
files_same [] (file ∷ after) first second none = absurd cc
files_same (file ∷ before) [] first second none = absurd cc
files_same (one ∷ before) (other ∷ after) first second none = by (is_same_file one other) refl none (files_same before after first.1 second.1)
  where
    never : (b : Bool) → cond b (DropFile one.name ∷ file_changes before (other ∷ after)) (change_of one other ∷ file_changes before after) ≡ [] → ⊥
    never true is = cc
    never false is = cc

    by : (b : Bool) → is_same_file one other ≡ b
        → cond b (file_changes before after) (cond (nat_lt (length after) (length before)) (DropFile one.name ∷ file_changes before (other ∷ after)) (change_of one other ∷ file_changes before after)) ≡ []
        → (file_changes before after ≡ [] → after ≡ before) → other ∷ after ≡ one ∷ before
    by true is none later =
        let same = file_true one other (same_constraint one other first.0 second.0 (contents_true one other is)) is in
        let rest = later none in
        λ i. sym same i ∷ rest i
    by false is none later = absurd (never (nat_lt (length after) (length before)) none)

-- ---- dockets

abbrev AreSameRegimes : List Docket → List Docket → Type 0
AreSameRegimes [] [] = Unit {0}
AreSameRegimes [] (docket ∷ after) = ⊥
AreSameRegimes (docket ∷ before) [] = ⊥
AreSameRegimes (one ∷ before) (other ∷ after) = (other.regime ≡ one.regime) × AreSameRegimes before after

regimes_same : (before after : List Docket) → docket_changes before after ≡ [] → AreSameRegimes before after
regimes_same [] [] none = tt
regimes_same [] (docket ∷ after) none = absurd cc
regimes_same (docket ∷ before) [] none = absurd cc
regimes_same (one ∷ before) (other ∷ after) none = by (is_same_regime one.regime other.regime) refl none (regimes_same before after)
  where
    never : (b : Bool) → cond b (PutDocket other.regime ∷ docket_changes before after) (DropDocket one.regime.identity one.regime.activity ∷ docket_changes before (other ∷ after)) ≡ [] → ⊥
    never true is = cc
    never false is = cc

    by : (b : Bool) → is_same_regime one.regime other.regime ≡ b
        → cond b (docket_changes before after)
        (cond (is_same_open one other) (PutDocket other.regime ∷ docket_changes before after) (DropDocket one.regime.identity one.regime.activity ∷ docket_changes before (other ∷ after))) ≡ []
        → (docket_changes before after ≡ [] → AreSameRegimes before after) → (other.regime ≡ one.regime) × AreSameRegimes before after
    by true is none later = (sym (regime_true one.regime other.regime is), later none)
    by false is none later = absurd (never (is_same_open one other) none)

-- ---- pieces

no_stages : (identity : List ℕ) (activity n : ℕ) (pieces : List (List Element)) → stages_after identity activity n pieces ≡ [] → pieces ≡ []
no_stages identity activity n [] none = refl
no_stages identity activity n (piece ∷ pieces) none = absurd cc

no_cut : (regime : Regime) (n : ℕ) (b : Bool) → cond b (CutStage regime.identity regime.activity n ∷ []) [] ≡ [] → b ≡ false
no_cut regime n true none = absurd cc
no_cut regime n false none = refl

pieces_same : (regime : Regime) (pieces others : List (List Element)) → piece_changes regime pieces others ≡ [] → others ≡ pieces
pieces_same regime pieces others none =
    let n = common pieces others in
    let within = common_within pieces others in
    let cut = cond (nat_lt n (length pieces)) (CutStage regime.identity regime.activity n ∷ []) [] in
    let stages = stages_after regime.identity regime.activity n (drop n others) in
    let all = ltb-false n (length pieces) (no_cut regime n (nat_lt n (length pieces)) (first_empty cut stages none)) in
    let left : drop n others ≡ [] = no_stages regime.identity regime.activity n (drop n others) (second_empty cut stages none) in
    let kept : take n pieces ≡ pieces = take_all n pieces (omega (arith, all)) in
    sym (common_joined pieces others) ∙ (λ i. kept i ++ left i) ∙ append-nil pieces

dockets_same : (all before after : List Docket) → AllByRecursion (IsFoundIn all) before → AreSameRegimes before after → all_piece_changes all after ≡ [] → after ≡ before
dockets_same all [] [] found same none = refl
dockets_same all [] (docket ∷ after) found same none = absurd same
dockets_same all (docket ∷ before) [] found same none = absurd same
dockets_same all (one ∷ before) (other ∷ after) found same none =
    let own : find (is_same_open other) all ≡ Some one = ap (λ (regime : Regime). find (is_docket regime.identity regime.activity) all) same.0 ∙ found.0 in
    let first = first_empty (piece_changes other.regime (staged_in (find (is_same_open other) all)) other.staged) (all_piece_changes all after) none in
    let pieces : other.staged ≡ one.staged
    = pieces_same other.regime one.staged other.staged (sym (ap (λ (found : Option Docket). piece_changes other.regime (staged_in found) other.staged) own) ∙ first) in
    let rest = dockets_same all before after found.1 same.1 (second_empty (piece_changes other.regime (staged_in (find (is_same_open other) all)) other.staged) (all_piece_changes all after) none) in
    λ i. record { regime = same.0 i; staged = pieces i } ∷ rest i

-- ---- tables

pub tables_same : (before after : Tables) → AllByRecursion IsLimited before.files → AllByRecursion IsLimited after.files → IsDistinct is_same_open before.dockets
    → after.users ≡ before.users → after.tasks ≡ before.tasks → delta before after ≡ [] → after ≡ before
tables_same before after first second distinct users tasks none =
    let later = docket_changes before.dockets after.dockets ++ all_piece_changes before.dockets after.dockets in
    let rest = second_empty (file_changes before.files after.files) later none in
    let files = files_same before.files after.files first second (first_empty (file_changes before.files after.files) later none) in
    let regimes = regimes_same before.dockets after.dockets (first_empty (docket_changes before.dockets after.dockets) (all_piece_changes before.dockets after.dockets) rest) in
    let dockets = dockets_same before.dockets before.dockets after.dockets (all_found before.dockets distinct) regimes
    (second_empty (docket_changes before.dockets after.dockets) (all_piece_changes before.dockets after.dockets) rest) in
    λ i. record { users = users i; files = files i; dockets = dockets i; tasks = tasks i }
