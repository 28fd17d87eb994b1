-- What a request that is granted does to the contents of its file and to its position is what it performs.
use Rattle.std.proofs.Common.{◌≡◌, ℕ, Bool, true, false, List, [], ◌∷◌, option_map, Option, None, Some, Result, Ok, Err, inl, refl, ap, sym, subst, ◌∙◌}
use Rattle.std.specs.Str.{bytes_eq}
use Rattle.vf_attr.specs.declared.file.File.{File}
use Rattle.vf_attr.specs.declared.stamp.Stamp.{Stamp}
use Rattle.vf_base.specs.declared.access.Constraint.{Constraint}
use Rattle.vf_base.specs.declared.access.Constraint.TheVariants.{Unstructured, SequentialFlat}
use Rattle.vf_base.specs.declared.access.FaduId.{FaduId}
use Rattle.vf_base.specs.declared.access.FaduId.TheVariants.{Begin, End, First}
use Rattle.vf_base.specs.declared.element.Element.{Element}
use Rattle.vf_doctype.specs.DocumentTypes.{doc_type}
use Rattle.vf_doctype.specs.Units.{units}
use Rattle.vf_doctype.specs.declared.doc_type.DocType.{DocType}
use Rattle.vf_filestore.specs.Files.{file_named}
use Rattle.vf_pdu_fields.specs.declared.operation.WriteOperation.{WriteOperation}
use Rattle.vf_pdu_fields.specs.declared.operation.WriteOperation.TheVariants.{Insert, Replace, Extend}
use Rattle.vf_tree.specs.Actions.{Outcome, erasure, extension, insertion, replacement}
use Rattle.vf_tree.specs.Acts.{Locates, does, moves}
use Rattle.vf_tree.specs.FileTree.{DataUnit, FileTree}
use Rattle.vf_tree.specs.Identities.{locate}
use Rattle.vf_tree.specs.TreeRefusal.{TreeRefusal}
use Rattle.vf_filestore.specs.Effects.{in_place, put_where}
use Rattle.vf_filestore.specs.Ending.{Ending, after_act, element_row, file_after, performed_by, room_rows, units_or_none, write_of, written, written_in}
use Rattle.vf_filestore.specs.Diagnostics.{Row, first_row}
use Rattle.vf_filestore.specs.History.{placed_by}
use Rattle.vf_filestore.specs.Opening.{act_of, act_row}
use Rattle.vf_filestore.specs.Performed as performances
use Rattle.vf_filestore.specs.Performed.{where_placed}
use Rattle.vf_filestore.proofs.Filed.{found_here, found_name, found_other, same_name}
use Rattle.vf_serial.specs.FileModel.{is_reading}
use Rattle.vf_serial.specs.Moves.{doc_of, operation_in}
use Rattle.vf_serial.proofs.Acting.{AreAsBefore, OthersAre, tree_at}
use Rattle.vf_serial.proofs.FilesSerial.{Stays, reading_stays}

-- an operation that was performed, by what the file is before and after
pub record IsEffectOf (files after : List File) (name : List ℕ) (place next : ℕ) (doc : Option DocType) (one : performances.Operation) : Type 0 where
  pub tree : FileTree
  pub outcome : Outcome
  pub there : tree_at name files ≡ Some tree
  pub done : does tree place (operation_in doc one).act ≡ Ok outcome
  pub shown : outcome.shown ≡ (operation_in doc one).shown
  pub leaves : tree_at name after ≡ Some outcome.tree
  pub others : OthersAre name files after
  pub moves : next ≡ outcome.position

abbrev pub IsEffect : (files after : List File) → (name : List ℕ) → (place next : ℕ) → Option DocType → Option performances.Operation → Type 0
IsEffect files after name place next doc None = AreAsBefore files after × (next ≡ place)
IsEffect files after name place next doc (Some one) = IsEffectOf files after name place next doc one

-- where it doesn't change the contents, they are as before
pub effect_reads : (files after : List File) (name : List ℕ) (place next : ℕ) (doc : Option DocType) (one : performances.Operation) → IsEffectOf files after name place next doc one → is_reading (operation_in doc one).act ≡ true → AreAsBefore files after
effect_reads files after name place next doc one effect reads other = by (bytes_eq other name) refl
  where
    by : (t : Bool) → bytes_eq other name ≡ t → tree_at other after ≡ tree_at other files
    by true is =
        subst (λ one. tree_at one after ≡ tree_at one files) (sym (same_name other name is))
        (effect.leaves ∙ ap (λ one. Some one) (subst (Stays effect.tree) effect.done (reading_stays effect.tree place (operation_in doc one).act reads)) ∙ sym effect.there)
    by false is = effect.others other is

-- ---- what isn't a read shows nothing

abbrev pub IsSilent : Result Outcome TreeRefusal → Type 0
IsSilent (Ok outcome) = outcome.shown ≡ []
IsSilent (Err refusal) = Unit {0}

pub silent_locate : (tree : FileTree) (position : ℕ) (id : FaduId) → IsSilent (does tree position (Locates id))
silent_locate tree position id = by (locate tree position id)
  where
    by : (found : Result ℕ TreeRefusal) → IsSilent (moves tree found)
    by (Ok at) = refl
    by (Err refusal) = tt

silent_insert : (constraint : Constraint) (was : List DataUnit) (id : FaduId) (more : List DataUnit) → IsSilent (insertion constraint was id more)
silent_insert Unstructured was id more = tt
silent_insert SequentialFlat was End more = refl
silent_insert SequentialFlat was id more = tt

silent_replace : (constraint : Constraint) (was : List DataUnit) (id : FaduId) (unit : DataUnit) → IsSilent (replacement constraint was id unit)
silent_replace Unstructured was Begin unit = refl
silent_replace Unstructured was First unit = refl
silent_replace Unstructured was id unit = tt
silent_replace SequentialFlat was id unit = tt

silent_extend : (constraint : Constraint) (was : List DataUnit) (id : FaduId) (unit : DataUnit) → IsSilent (extension constraint was id unit)
silent_extend Unstructured was Begin unit = refl
silent_extend Unstructured was First unit = refl
silent_extend Unstructured was id unit = tt
silent_extend SequentialFlat was id unit = tt

pub silent_erase : (constraint : Constraint) (was : List DataUnit) (id : FaduId) → IsSilent (erasure constraint was id)
silent_erase Unstructured was Begin = refl
silent_erase Unstructured was First = refl
silent_erase Unstructured was id = tt
silent_erase SequentialFlat was Begin = refl
silent_erase SequentialFlat was id = tt

silent_write : (tree : FileTree) (position : ℕ) (operation : WriteOperation) (id : FaduId) (made : List DataUnit) → IsSilent (does tree position (act_of operation id made))
silent_write tree position Insert id made = silent_insert tree.constraint tree.units id made
silent_write tree position Replace id made = silent_replace tree.constraint tree.units id _
silent_write tree position Extend id made = silent_extend tree.constraint tree.units id _

-- ---- a file in its own place

tree_here : (name : List ℕ) (file after : File) (files : List File) → file_named name files ≡ Some file → after.name ≡ file.name → tree_at name (in_place name after files) ≡ Some after.tree
tree_here name file after files found same =
    let own : after.name ≡ name = same ∙ sym (found_name name files file found) in
    ap (λ one. tree_at one (in_place name after files)) (sym own) ∙ ap (option_map (λ (one : File). one.tree)) (found_here name file after files found (inl own))

trees_beside : (name : List ℕ) (file after : File) (files : List File) → file_named name files ≡ Some file → after.name ≡ file.name → OthersAre name files (in_place name after files)
trees_beside name file after files found same other off =
    ap (option_map (λ (one : File). one.tree)) (found_other other name after files off (ap (bytes_eq other) (same ∙ sym (found_name name files file found)) ∙ off))

-- where its contents are the same
pub trees_kept : (name : List ℕ) (file after : File) (files : List File) → file_named name files ≡ Some file → after.name ≡ file.name → after.tree ≡ file.tree → AreAsBefore files (in_place name after files)
trees_kept name file after files found same tree other = by (bytes_eq other name) refl
  where
    by : (t : Bool) → bytes_eq other name ≡ t → tree_at other (in_place name after files) ≡ tree_at other files
    by true is =
        subst (λ one. tree_at one (in_place name after files) ≡ tree_at one files) (sym (same_name other name is))
        (tree_here name file after files found same ∙ ap (λ one. Some one) tree ∙ sym (ap (option_map (λ (one : File). one.tree)) found))
    by false is = trees_beside name file after files found same other is

-- ---- readings

pub reading_effect : (files : List File) (name : List ℕ) (place : ℕ) (file : File) (doc : Option DocType) (one : performances.Operation) (outcome : Outcome) → file_named name files ≡ Some file
    → is_reading (operation_in doc one).act ≡ true → does file.tree place (operation_in doc one).act ≡ Ok outcome → outcome.shown ≡ (operation_in doc one).shown
    → IsEffectOf files files name place outcome.position doc one
reading_effect files name place file doc one outcome found reads done shown = record {
  tree = file.tree;
  outcome = outcome;
  there = ap (option_map (λ (one : File). one.tree)) found;
  done = done;
  shown = shown;
  leaves =
      ap (option_map (λ (one : File). one.tree)) found
      ∙ ap (λ one. Some one) (sym (subst (Stays file.tree) done (reading_stays file.tree place (operation_in doc one).act reads)));
  others = λ other off. refl;
  moves = refl;
}

-- ---- changes

pub change_effect : (files : List File) (name : List ℕ) (place : ℕ) (file after : File) (doc : Option DocType) (one : performances.Operation) (outcome : Outcome) → file_named name files ≡ Some file
    → does file.tree place (operation_in doc one).act ≡ Ok outcome → outcome.shown ≡ (operation_in doc one).shown → after.name ≡ file.name → after.tree ≡ outcome.tree
    → IsEffectOf files (in_place name after files) name place outcome.position doc one
change_effect files name place file after doc one outcome found done shown same tree = record {
  tree = file.tree;
  outcome = outcome;
  there = ap (option_map (λ (one : File). one.tree)) found;
  done = done;
  shown = shown;
  leaves = tree_here name file after files found same ∙ ap (λ one. Some one) tree;
  others = trees_beside name file after files found same;
  moves = refl;
}

-- ---- the end of a write

abbrev pub EffectBy : List File → (name : List ℕ) → (place : ℕ) → Option DocType → Option performances.Operation → Ending → Type 0
EffectBy files name place doc one ending =
    IsEffect files (put_where name ending.file files) name place (placed_by ending.given place) doc (where_placed ending.given one)

written_effect : (files : List File) (stamp : Stamp) (file : File) (name : List ℕ) (place : ℕ) (operation : WriteOperation) (fadu : FaduId) (values : List Element) (doc : DocType) → file_named name files ≡ Some file
    → EffectBy files name place (Some doc) (Some (performances.Wrote operation fadu values)) (written files stamp file place operation fadu (units doc values))
written_effect files stamp file name place operation fadu values doc found =
    by (does file.tree place (act_of operation fadu (units_or_none (units doc values)))) refl
  where
    rows_of : Result Outcome TreeRefusal → List Row
    rows_of answer = element_row (units doc values) ∷ act_row answer ∷ room_rows files file (file_after stamp file answer)

    by : (answer : Result Outcome TreeRefusal) → does file.tree place (act_of operation fadu (units_or_none (units doc values))) ≡ answer
        → EffectBy files name place (Some doc) (Some (performances.Wrote operation fadu values))
        (performed_by (first_row (element_row (units doc values) ∷ act_row answer ∷ room_rows files file (file_after stamp file answer))) (file_after stamp file answer) answer)
    by (Ok outcome) is = done (first_row (element_row (units doc values) ∷ act_row (Ok outcome) ∷ room_rows files file (after_act stamp file outcome.tree)))
      where
        done : (one : Row) → EffectBy files name place (Some doc) (Some (performances.Wrote operation fadu values)) (performed_by one (after_act stamp file outcome.tree) (Ok outcome))
        done (Some diagnostic) = (λ other. refl, refl)
        done None =
            change_effect files name place file (after_act stamp file outcome.tree) (Some doc) (performances.Wrote operation fadu values) outcome found is
            (subst IsSilent is (silent_write file.tree place operation fadu (units_or_none (units doc values)))) refl refl
    by (Err refusal) is = refused (element_row (units doc values))
      where
        refused : (one : Row) → EffectBy files name place (Some doc) (Some (performances.Wrote operation fadu values))
            (performed_by (first_row (one ∷ act_row (Err refusal) ∷ room_rows files file file)) file (Err refusal))
        refused (Some diagnostic) = (λ other. refl, refl)
        refused None = (λ other. refl, refl)

pub write_effect : (files : List File) (stamp : Stamp) (name : List ℕ) (place : ℕ) (operation : WriteOperation) (fadu : FaduId) (values : List Element) (one : Option File) → file_named name files ≡ one
    → EffectBy files name place (doc_of one) (Some (performances.Wrote operation fadu values)) (write_of files stamp one place operation fadu values)
write_effect files stamp name place operation fadu values None none = (λ other. refl, refl)
write_effect files stamp name place operation fadu values (Some file) found = by (doc_type file.contents)
  where
    by : (doc : Option DocType) → EffectBy files name place doc (Some (performances.Wrote operation fadu values)) (written_in files stamp file place operation fadu values doc)
    by None = (λ other. refl, refl)
    by (Some doc) = written_effect files stamp file name place operation fadu values doc found
