-- No change leads from tables to others exactly where they are equal in files and dockets.
use Rattle.std.proofs.Common.{◌≡◌, ℕ, suc, ◌+◌, Bool, true, false, cond, ◌&&◌, not, List, [], ◌∷◌, ◌++◌, length, drop, find, nat_lt, refl, ap, ◌∙◌, arith}
use Rattle.std.specs.Cmp.Lexicographic.{pointwise}
use Rattle.std.specs.List.{list_all}
use Rattle.vf_attr.specs.declared.file.File.{File}
use Rattle.vf_base.specs.declared.element.Element.{Element}
use Rattle.vf_filestore.specs.Changes.{all_piece_changes, change_of, common, delta, docket_changes, file_changes, is_same_file, is_same_open, is_same_regime, piece_changes}
use Rattle.vf_filestore.specs.Records.{where_any}
use Rattle.vf_party_steps.specs.Sameness.{are_same_tables, is_same_docket, keeps_pieces, unless_same}
use Rattle.vf_tables.specs.Changes.{staged_in}
use Rattle.vf_tables.specs.Snapshot.{stages_after}
use Rattle.vf_tables.specs.declared.change.Change.{Change}
use Rattle.vf_tables.specs.declared.change.Change.TheVariants.{DropFile, PutDocket, CutStage, DropDocket}
use Rattle.vf_tables.specs.declared.docket.Docket.{Docket}
use Rattle.vf_tables.specs.declared.docket.Regime.{Regime}
use Rattle.vf_tables.specs.declared.tables.Tables.{Tables}
use Rattle.vf_tree.specs.Same.{is_same_unit}

abbrev is_empty : {A : Type 0} → List A → Bool
is_empty [] = true
is_empty (x ∷ xs) = false

empty_joined : (changes later : List Change) → is_empty (changes ++ later) ≡ (is_empty changes && is_empty later)
empty_joined [] later = refl
empty_joined (change ∷ changes) later = refl

-- ---- files

files_empty : (files others : List File) → is_empty (file_changes files others) ≡ pointwise is_same_file files others
files_empty [] [] = refl
files_empty [] (other ∷ others) = refl
files_empty (file ∷ files) [] = refl
files_empty (file ∷ files) (other ∷ others) = by (is_same_file file other) (nat_lt (length others) (length files)) (files_empty files others)
  where
    by : (same fewer : Bool) → is_empty (file_changes files others) ≡ pointwise is_same_file files others
        → is_empty (cond same (file_changes files others) (cond fewer (DropFile file.name ∷ file_changes files (other ∷ others)) (change_of file other ∷ file_changes files others)))
        ≡ (same && pointwise is_same_file files others)
    by true fewer rest = rest
    by false true rest = refl
    by false false rest = refl

-- ---- dockets

dockets_empty : (dockets others : List Docket) → is_empty (docket_changes dockets others) ≡ pointwise is_same_docket dockets others
dockets_empty [] [] = refl
dockets_empty [] (other ∷ others) = refl
dockets_empty (docket ∷ dockets) [] = refl
dockets_empty (docket ∷ dockets) (other ∷ others) = by (is_same_regime docket.regime other.regime) (is_same_open docket other) (dockets_empty dockets others)
  where
    by : (same open_is : Bool) → is_empty (docket_changes dockets others) ≡ pointwise is_same_docket dockets others
        → is_empty (cond same (docket_changes dockets others) (cond open_is (PutDocket other.regime ∷ docket_changes dockets others) (DropDocket docket.regime.identity docket.regime.activity ∷ docket_changes dockets (other ∷ others))))
        ≡ (same && pointwise is_same_docket dockets others)
    by true open_is rest = rest
    by false true rest = refl
    by false false rest = refl

-- ---- pieces

cut_empty : (cuts : Bool) (change : Change) (later : List Change) → is_empty (cond cuts (change ∷ []) [] ++ later) ≡ (not cuts && is_empty later)
cut_empty true change later = refl
cut_empty false change later = refl

stages_empty : (identity : List ℕ) (activity number : ℕ) (pieces : List (List Element)) → is_empty (stages_after identity activity number pieces) ≡ is_empty pieces
stages_empty identity activity number [] = refl
stages_empty identity activity number (piece ∷ pieces) = refl

one_more : (n : ℕ) → 1 + n ≡ suc n
one_more n = omega arith

lt_later : (a b : ℕ) → nat_lt (suc a) (suc b) ≡ nat_lt a b
lt_later a b = grind arith

lt_first : (n : ℕ) → nat_lt 0 (suc n) ≡ true
lt_first n = grind arith

common_ends : (pieces others : List (List Element)) → (not (nat_lt (common pieces others) (length pieces)) && is_empty (drop (common pieces others) others)) ≡ pointwise is_same_unit pieces others
common_ends [] [] = refl
common_ends [] (other ∷ others) = refl
common_ends (piece ∷ pieces) [] = λ i. not (lt_first (length pieces) i) && true
common_ends (piece ∷ pieces) (other ∷ others) = by (is_same_unit piece other) (common_ends pieces others)
  where
    by : (same : Bool) → (not (nat_lt (common pieces others) (length pieces)) && is_empty (drop (common pieces others) others)) ≡ pointwise is_same_unit pieces others
        → (not (nat_lt (cond same (1 + common pieces others) 0) (length (piece ∷ pieces))) && is_empty (drop (cond same (1 + common pieces others) 0) (other ∷ others))) ≡ (same && pointwise is_same_unit pieces others)
    by true rest =
        let so_far = common pieces others in
        (λ i. not (nat_lt (one_more so_far i) (suc (length pieces))) && is_empty (drop (one_more so_far i) (other ∷ others)))
        ∙ (λ i. not (lt_later so_far (length pieces) i) && is_empty (drop so_far others)) ∙ rest
    by false rest = λ i. not (lt_first (length pieces) i) && is_empty (other ∷ others)

pieces_empty : (regime : Regime) (pieces others : List (List Element)) → is_empty (piece_changes regime pieces others) ≡ pointwise is_same_unit pieces others
pieces_empty regime pieces others =
    let both = common pieces others in
    cut_empty (nat_lt both (length pieces)) (CutStage regime.identity regime.activity both) (stages_after regime.identity regime.activity both (drop both others))
    ∙ ap (λ b. not (nat_lt both (length pieces)) && b) (stages_empty regime.identity regime.activity both (drop both others))
    ∙ common_ends pieces others

all_empty : (dockets later : List Docket) → is_empty (all_piece_changes dockets later) ≡ list_all (keeps_pieces dockets) later
all_empty dockets [] = refl
all_empty dockets (docket ∷ later) =
    let standing = staged_in (find (is_same_open docket) dockets) in
    empty_joined (piece_changes docket.regime standing docket.staged) (all_piece_changes dockets later)
    ∙ (λ i. pieces_empty docket.regime standing docket.staged i && all_empty dockets later i)

-- ---- all

swapped : (a b c : Bool) → (a && (b && c)) ≡ (b && (a && c))
swapped true true c = refl
swapped true false c = refl
swapped false true c = refl
swapped false false c = refl

delta_empty : (before after : Tables) → is_empty (delta before after) ≡ are_same_tables before after
delta_empty before after =
    let files = file_changes before.files after.files in
    let dockets = docket_changes before.dockets after.dockets in
    let pieces = all_piece_changes before.dockets after.dockets in
    empty_joined files (dockets ++ pieces) ∙ ap (λ b. is_empty files && b) (empty_joined dockets pieces)
    ∙ (λ i. files_empty before.files after.files i && (dockets_empty before.dockets after.dockets i && all_empty before.dockets after.dockets i))
    ∙ swapped (pointwise is_same_file before.files after.files) (pointwise is_same_docket before.dockets after.dockets) (list_all (keeps_pieces before.dockets) after.dockets)

any_is : (any changes : List Change) → where_any any changes ≡ cond (is_empty any) [] changes
any_is [] changes = refl
any_is (change ∷ any) changes = refl

-- changes are made where any leads from the tables before to those after
pub any_unless_same : (before after : Tables) (changes : List Change) → where_any (delta before after) changes ≡ unless_same before after changes
any_unless_same before after changes = any_is (delta before after) changes ∙ (λ i. cond (delta_empty before after i) [] changes)
