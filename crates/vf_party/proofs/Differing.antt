-- Files that are known to differ.
use Rattle.std.proofs.Common.{◌≡◌, ℕ, zero, suc, Bool, true, false, not, ◌&&◌, IsTrue, List, [], ◌∷◌, length, Some, nat_eq, slice_get, refl, ap, ◌∙◌}
use Rattle.std.specs.Cmp.Lexicographic.{pointwise}
use Rattle.std.specs.List.{list_all}
use Rattle.std.specs.Str.{bytes_eq}
use Rattle.vf_attr.specs.Attributes.{are_same_attributes, attributes_of}
use Rattle.vf_attr.specs.declared.attributes.Attributes.{Attributes}
use Rattle.vf_attr.specs.declared.file.File.{File}
use Rattle.vf_filestore.specs.Changes.{is_same_file}
use Rattle.vf_party_steps.specs.Sameness.{are_same_tables, is_same_docket, keeps_pieces}
use Rattle.vf_tables.specs.declared.tables.Tables.{Tables}
use Rattle.vf_tree.specs.Same.{are_same_units}

none_false : (a : Bool) → (a && false) ≡ false
none_false true = refl
none_false false = refl

pub not_true : (a : Bool) → IsTrue (not a) → a ≡ false
not_true true is = absurd cc
not_true false is = refl

-- attributes of other versions differ, and so do their files
attributes_apart : (one other : Attributes) → nat_eq one.version other.version ≡ false → are_same_attributes one other ≡ false
unfolding are_same_attributes
attributes_apart one other differ = rw differ

file_apart : (one other : File) → nat_eq one.version other.version ≡ false → is_same_file one other ≡ false
file_apart one other differ =
    ap (λ (same : Bool). (bytes_eq one.name other.name && are_same_units one.tree.units other.tree.units) && same) (attributes_apart (attributes_of one) (attributes_of other) differ)
    ∙ none_false (bytes_eq one.name other.name && are_same_units one.tree.units other.tree.units)

-- and all files do, where those at one place do
pub pair_apart : (files others : List File) (place : ℕ) (one other : File) → slice_get files place ≡ Some one → slice_get others place ≡ Some other
    → nat_eq one.version other.version ≡ false → pointwise is_same_file files others ≡ false
pair_apart [] others place one other is is_other differ = absurd cc
pair_apart (file ∷ files) [] place one other is is_other differ = absurd cc
pair_apart (file ∷ files) (later ∷ others) zero one other is is_other differ =
    let first : file ≡ one = cc in
    let second : later ≡ other = cc in
    ap (λ (same : Bool). same && pointwise is_same_file files others) (file_apart file later ((λ i. nat_eq (first i).version (second i).version) ∙ differ))
pair_apart (file ∷ files) (later ∷ others) (suc place) one other is is_other differ =
    ap (λ (same : Bool). is_same_file file later && same) (pair_apart files others place one other is is_other differ) ∙ none_false (is_same_file file later)

-- or where there are more or fewer of them
pub lengths_apart : (files others : List File) → (length files ≡ length others → ⊥) → pointwise is_same_file files others ≡ false
lengths_apart [] [] differ = absurd (differ refl)
lengths_apart [] (later ∷ others) differ = refl
lengths_apart (file ∷ files) [] differ = refl
lengths_apart (file ∷ files) (later ∷ others) differ =
    ap (λ (same : Bool). is_same_file file later && same) (lengths_apart files others (λ same. differ (ap (λ (n : ℕ). suc n) same))) ∙ none_false (is_same_file file later)

-- tables with files that differ aren't the same
pub tables_apart : (before after : Tables) → pointwise is_same_file before.files after.files ≡ false → are_same_tables before after ≡ false
tables_apart before after apart =
    ap (λ (same : Bool). pointwise is_same_docket before.dockets after.dockets && (same && list_all (keeps_pieces before.dockets) after.dockets)) apart
    ∙ none_false (pointwise is_same_docket before.dockets after.dockets)
