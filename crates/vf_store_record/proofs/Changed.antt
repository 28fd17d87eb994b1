-- What a change takes its parts take.
use Rattle.std.proofs.Common.{◌≡◌, ℕ, ◌<◌, ◌^◌, true, List, [], ◌++◌, length, Some, sym, ap, ◌∙◌, length-append, arith}
use Rattle.std.proofs.lemmas.List.{append-nil}
use Rattle.std.specs.Int.{w32, to_be_bytes}
use Rattle.std.specs.List.{flat_map, list_all}
use Rattle.vf_attr.specs.declared.attributes.Attributes.{Attributes}
use Rattle.vf_attr.specs.declared.file.File.{File}
use Rattle.vf_base.specs.declared.element.Element.{Element}
use Rattle.vf_tables.specs.Fitting.{are_short, has_kind, is_activity, is_in_range, is_sayable}
use Rattle.vf_tables.specs.declared.change.Change.{Change}
use Rattle.vf_tables.specs.declared.change.Change.TheVariants.{PutFile, PutAttributes, Stage, StageTask}
use Rattle.vf_store_record.specs.declared.changes.Docketed.{Docketed}
use Rattle.vf_store_record.specs.Entries.{attributes, attributes_parts, contents, element, element_spelled, elements, settings, stamps}
use Rattle.vf_store_record.specs.Fields.{actions, name, number32, term, terms}
use Rattle.vf_store_record.specs.Records.{change, change_spelled, changes, changes_of, docketed, file, if_all, piece, record_of, renaming, staging, task_staging}
use Rattle.vf_store_record.specs.Writing.{AreChanges, AreElements, AreSettings, IsChange, IsWholeFile, Writes}
use Rattle.vf_store_record.proofs.Ranges.{both_true}

pub file_taken : (value : File) → IsChange (PutFile value) → IsWholeFile value
unfolding file
file_taken value is = record { in_range = is.in_range; short = omega (arith, is.short) }

pub stage_taken : (identity : List ℕ) (activity first last : ℕ) (values : List Element) → IsChange (Stage identity activity first last values) → AreElements values
unfolding staging piece elements element
stage_taken identity activity first last values is =
    let docket : Docketed = record { identity = identity; activity = activity } in
    let counted : List ℕ = to_be_bytes w32 (length values) ++ flat_map element_spelled values in
    let a = length-append (to_be_bytes w32 (length values)) (flat_map element_spelled values) in
    let b = length-append (number32.spell last) counted in
    let d = length-append (number32.spell first) (number32.spell last ++ counted) in
    let e = length-append (docketed.spell docket) (number32.spell first ++ (number32.spell last ++ counted)) in
    record { in_range = (both_true (is_activity activity) (list_all is_sayable values) is.in_range).1; short = omega (arith, is.short) }

pub task_stage_taken : (activity point : ℕ) (values : List Element) → IsChange (StageTask activity point values) → AreElements values
unfolding task_staging elements element
task_stage_taken activity point values is =
    let counted : List ℕ = to_be_bytes w32 (length values) ++ flat_map element_spelled values in
    let a = length-append (to_be_bytes w32 (length values)) (flat_map element_spelled values) in
    let b = length-append (number32.spell point) counted in
    let d = length-append (number32.spell activity) (number32.spell point ++ counted) in
    record { in_range = (both_true (is_activity activity) (list_all is_sayable values) is.in_range).1; short = omega (arith, is.short) }

-- the terms are a part of the attributes
pub terms_shorter : (value : Attributes) (n : ℕ) → length (attributes.spell value) < n → length (flat_map term.spell value.terms) < n
unfolding attributes settings terms
terms_shorter value n lt =
    let parts = attributes_parts value in
    let counted : List ℕ = to_be_bytes w32 (length value.terms) ++ flat_map term.spell value.terms in
    let a = length-append (to_be_bytes w32 (length value.terms)) (flat_map term.spell value.terms) in
    let b = length-append (contents.spell value.contents) counted in
    let d = length-append (actions.spell value.permitted) (contents.spell value.contents ++ counted) in
    let e = length-append (settings.spell parts.0) (stamps.spell parts.1.0 ++ number32.spell parts.1.1) in
    omega arith

pub attributes_taken : (old new : List ℕ) (value : Attributes) → IsChange (PutAttributes old new value) → AreSettings value.contents value.terms
unfolding renaming
attributes_taken old new value is =
    let h = both_true (are_short value.terms) (has_kind value.contents) is.in_range in
    let a = length-append (name.spell new) (attributes.spell value) in
    let b = length-append (name.spell old) (name.spell new ++ attributes.spell value) in
    record { kind = h.1; terms = record { in_range = h.0; short = terms_shorter value (2 ^ 32) (omega (arith, is.short)) } }

all_shorter : (items : List Change) → length (record_of items) < 2 ^ 32 → length (flat_map change_spelled items) < 2 ^ 32
unfolding changes change
all_shorter items short = let more = length-append (to_be_bytes w32 (length items)) (flat_map change_spelled items) in omega (arith, short)

-- the record of changes is read again
pub record_read : {a b : List ℕ} (items : List Change) → Writes changes items (AreChanges items) a b → list_all is_in_range items ≡ true → length (record_of items) < 2 ^ 32
    → changes_of (record_of items) ≡ Some items
record_read items w ranged short =
    let are : AreChanges items = record { in_range = ranged; short = all_shorter items short } in
    ap if_all (ap (λ (octets : List ℕ). changes.read octets) (sym (append-nil (record_of items))) ∙ w.again are [])
