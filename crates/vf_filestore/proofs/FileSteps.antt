-- What the changes of files lead to, where one file is more, is gone, or is changed in its place.
use Rattle.std.proofs.Common.{◌≡◌, ℕ, Bool, true, false, cond, ◌&&◌, ◌||◌, List, [], ◌∷◌, ◌++◌, length, map, is_some, is_none, refl, ap, sym, subst, ◌∙◌, arith}
use Rattle.std.specs.Prelude.{find, nat_lt}
use Rattle.std.specs.List.{AllByRecursion, IsDistinct}
use Rattle.std.specs.Str.{bytes_eq}
use Rattle.std.proofs.lemmas.Bool.{le-ltb, lt-ltb}
use Rattle.std.proofs.lemmas.List.{append-nil}
use Rattle.vf_attr.specs.Attributes.{are_same_attributes, attributes_of}
use Rattle.vf_attr.specs.declared.file.File.{File}
use Rattle.vf_tables.specs.Changes.{renamed}
use Rattle.vf_tables.specs.Entries.{is_file}
use Rattle.vf_tables.specs.declared.change.Change.{Change}
use Rattle.vf_tables.specs.declared.change.Change.TheVariants.{DropFile, PutAttributes, PutFile}
use Rattle.vf_tables.specs.declared.tables.Tables.{Tables}
use Rattle.vf_tree.specs.FileTree.{FileTree}
use Rattle.vf_tree.specs.Same.{are_same_units}
use Rattle.vf_tree.proofs.EqualUnits.{units_refl, units_true}
use Rattle.vf_filestore.specs.Changes.{change_of, file_changes, is_same_file}
use Rattle.vf_filestore.specs.Sound.{name_of}
use Rattle.vf_filestore.specs.Laws.{Lead}
use Rattle.vf_filestore.proofs.Equal.{file_true}
use Rattle.vf_filestore.proofs.Filed.{name_itself, names_flip}
use Rattle.vf_filestore.proofs.Leading.{both, leads_nowhere, leads_once}
use Rattle.vf_filestore.proofs.Lists.{all_right, all_unmap}
use Rattle.vf_filestore.proofs.Meant.{changed_at, dropped_at, find_at, find_none, put_at, put_new}
use Rattle.vf_filestore.proofs.Unchanged.{file_itself, files_themselves}

abbrev pub IsOtherFile : List ℕ → File → Type 0
IsOtherFile name file = bytes_eq name file.name ≡ false

pub data FileStep (before after : List File) : Type 0 where
  same : after ≡ before → FileStep before after
  added : (file : File) → after ≡ before ++ file ∷ [] → AllByRecursion (IsOtherFile file.name) before → FileStep before after
  gone : (first later : List File) (file : File) → before ≡ first ++ file ∷ later → after ≡ first ++ later → FileStep before after
  changed : (first later : List File) (old new : File) → before ≡ first ++ old ∷ later → after ≡ first ++ new ∷ later
      → new.name ≡ old.name → new.tree.constraint ≡ old.tree.constraint → FileStep before after
  named : (first later : List File) (old new : File) → before ≡ first ++ old ∷ later → after ≡ first ++ new ∷ later
      → new.tree ≡ old.tree → AllByRecursion (IsOtherFile new.name) before → FileStep before after

-- ---- names differ

pub others : (first later : List File) (file : File) → IsDistinct bytes_eq (map name_of (first ++ file ∷ later)) → AllByRecursion (IsOtherFile file.name) first
unfolding IsDistinct
others [] later file distinct = tt
others (one ∷ first) later file distinct = (
  names_flip file.name one.name ∙ (all_right (λ (other : File). bytes_eq one.name other.name ≡ false) first (file ∷ later) (all_unmap name_of (λ name. bytes_eq one.name name ≡ false) (first ++ file ∷ later) distinct.0)).0,
  others first later file distinct.1,
)

pub later_others : (first later : List File) (file : File) → IsDistinct bytes_eq (map name_of (first ++ file ∷ later)) → AllByRecursion (IsOtherFile file.name) later
unfolding IsDistinct
later_others [] later file distinct = all_unmap name_of (λ name. bytes_eq file.name name ≡ false) later distinct.0
later_others (one ∷ first) later file distinct = later_others first later file distinct.1

-- ---- what the changes are

pub skip : (first files later : List File) → file_changes (first ++ files) (first ++ later) ≡ file_changes files later
skip [] files later = refl
skip (file ∷ first) files later =
    (λ i. cond (file_itself file i) (file_changes (first ++ files) (first ++ later))
    (cond (nat_lt (length (first ++ later)) (length (first ++ files))) (DropFile file.name ∷ file_changes (first ++ files) (file ∷ (first ++ later))) (change_of file file ∷ file_changes (first ++ files) (first ++ later))))
    ∙ skip first files later

pub changes_added : (files : List File) (file : File) → file_changes files (files ++ file ∷ []) ≡ PutFile file ∷ []
changes_added files file = ap (λ (all : List File). file_changes all (files ++ file ∷ [])) (sym (append-nil files)) ∙ skip files [] (file ∷ [])

pub changes_gone : (file : File) (later : List File) → AllByRecursion (IsOtherFile file.name) later → file_changes (file ∷ later) later ≡ DropFile file.name ∷ []
changes_gone file [] off = refl
changes_gone file (next ∷ later) off =
    let differs : is_same_file file next ≡ false = ap (λ b. b && are_same_units file.tree.units next.tree.units && are_same_attributes (attributes_of file) (attributes_of next)) off.0 in
    let shorter : nat_lt (length later) (length (next ∷ later)) ≡ true = lt-ltb (length later) (length (next ∷ later)) (omega arith) in
    (λ i. cond (differs i) (file_changes (next ∷ later) later) (cond (shorter i) (DropFile file.name ∷ file_changes (next ∷ later) (next ∷ later)) (change_of file next ∷ file_changes (next ∷ later) later)))
    ∙ ap (λ (changes : List Change). DropFile file.name ∷ changes) (files_themselves (next ∷ later))

abbrev pub change_unless : Bool → Change → List Change
change_unless is change = cond is [] (change ∷ [])

pub changes_changed : (old new : File) (later : List File) → file_changes (old ∷ later) (new ∷ later) ≡ change_unless (is_same_file old new) (change_of old new)
changes_changed old new later = by (is_same_file old new)
  where
    by : (b : Bool)
        → cond b (file_changes later later) (cond (nat_lt (length later) (length later)) (DropFile old.name ∷ file_changes later (new ∷ later)) (change_of old new ∷ file_changes later later)) ≡ change_unless b (change_of old new)
    by true = files_themselves later
    by false =
        (λ i. cond (le-ltb (length later) (length later) (omega arith) i) (DropFile old.name ∷ file_changes later (new ∷ later)) (change_of old new ∷ file_changes later later))
        ∙ ap (λ (changes : List Change). change_of old new ∷ changes) (files_themselves later)

-- ---- what they lead to

abbrev pub with_files : Tables → List File → Tables
with_files tables files = record tables { files = files }

pub renamed_to : (old new : File) → new.tree ≡ old.tree → renamed new.name (attributes_of new) old ≡ new
renamed_to old new tree = λ i. record new { tree = sym tree i }

or_true : (b : Bool) → (b || true) ≡ true
or_true true = refl
or_true false = refl

module _ (tables : Tables) where
  moved : (before after one other : List File) → before ≡ one → after ≡ other → Lead (with_files tables one) (file_changes one other) (with_files tables other)
      → Lead (with_files tables before) (file_changes before after) (with_files tables after)
  moved before after one other was is leads =
      subst (λ (files : List File). Lead (with_files tables files) (file_changes files after) (with_files tables after)) (sym was)
      (subst (λ (files : List File). Lead (with_files tables one) (file_changes one files) (with_files tables files)) (sym is) leads)

  lead_added : (files : List File) (file : File) → AllByRecursion (IsOtherFile file.name) files
      → Lead (with_files tables files) (file_changes files (files ++ file ∷ [])) (with_files tables (files ++ file ∷ []))
  lead_added files file off =
      subst (λ (changes : List Change). Lead (with_files tables files) changes (with_files tables (files ++ file ∷ []))) (sym (changes_added files file))
      (leads_once (with_files tables files) (with_files tables (files ++ file ∷ [])) (PutFile file) refl (ap (with_files tables) (put_new (is_file file.name) file files off)))

  lead_gone : (first later : List File) (file : File) → IsDistinct bytes_eq (map name_of (first ++ file ∷ later))
      → Lead (with_files tables (first ++ file ∷ later)) (file_changes (first ++ file ∷ later) (first ++ later)) (with_files tables (first ++ later))
  lead_gone first later file distinct =
      let off = others first later file distinct in
      subst (λ (changes : List Change). Lead (with_files tables (first ++ file ∷ later)) changes (with_files tables (first ++ later)))
      (sym (skip first (file ∷ later) later ∙ changes_gone file later (later_others first later file distinct)))
      (leads_once (with_files tables (first ++ file ∷ later)) (with_files tables (first ++ later)) (DropFile file.name)
      (ap is_some (find_at (is_file file.name) first file later off (name_itself file.name)))
      (ap (with_files tables) (dropped_at (is_file file.name) first file later off (name_itself file.name))))

  -- a file in the place of another: its attributes are put where its tree is the same, and else it is
  lead_attributes : (first later : List File) (old new : File) → AllByRecursion (IsOtherFile old.name) first → new.tree ≡ old.tree
      → (bytes_eq old.name new.name || is_none (find (is_file new.name) (first ++ old ∷ later))) ≡ true
      → Lead (with_files tables (first ++ old ∷ later)) (PutAttributes old.name new.name (attributes_of new) ∷ []) (with_files tables (first ++ new ∷ later))
  lead_attributes first later old new off tree free =
      leads_once (with_files tables (first ++ old ∷ later)) (with_files tables (first ++ new ∷ later)) (PutAttributes old.name new.name (attributes_of new))
      (both (is_some (find (is_file old.name) (first ++ old ∷ later))) (bytes_eq old.name new.name || is_none (find (is_file new.name) (first ++ old ∷ later)))
      (ap is_some (find_at (is_file old.name) first old later off (name_itself old.name))) free)
      (ap (with_files tables)
      (changed_at (is_file old.name) (renamed new.name (attributes_of new)) first old later off (name_itself old.name) ∙ ap (λ (file : File). first ++ file ∷ later) (renamed_to old new tree)))

  lead_whole : (first later : List File) (old new : File) → AllByRecursion (IsOtherFile old.name) first → new.name ≡ old.name
      → Lead (with_files tables (first ++ old ∷ later)) (PutFile new ∷ []) (with_files tables (first ++ new ∷ later))
  lead_whole first later old new off name =
      leads_once (with_files tables (first ++ old ∷ later)) (with_files tables (first ++ new ∷ later)) (PutFile new) refl
      (ap (with_files tables)
      (put_at (is_file new.name) new first old later (subst (λ name. AllByRecursion (IsOtherFile name) first) (sym name) off)
      (ap (bytes_eq new.name) (sym name) ∙ name_itself new.name)))

  lead_unless : (first later : List File) (old new : File) → (is_same_file old new ≡ true → old ≡ new)
      → Lead (with_files tables (first ++ old ∷ later)) (change_of old new ∷ []) (with_files tables (first ++ new ∷ later))
      → Lead (with_files tables (first ++ old ∷ later)) (file_changes (first ++ old ∷ later) (first ++ new ∷ later)) (with_files tables (first ++ new ∷ later))
  lead_unless first later old new equal leads =
      subst (λ (changes : List Change). Lead (with_files tables (first ++ old ∷ later)) changes (with_files tables (first ++ new ∷ later)))
      (sym (skip first (old ∷ later) (new ∷ later) ∙ changes_changed old new later)) (by (is_same_file old new) refl)
    where
      by : (b : Bool) → is_same_file old new ≡ b → Lead (with_files tables (first ++ old ∷ later)) (change_unless b (change_of old new)) (with_files tables (first ++ new ∷ later))
      by true is =
          subst (λ (file : File). Lead (with_files tables (first ++ old ∷ later)) [] (with_files tables (first ++ file ∷ later))) (equal is)
          (leads_nowhere (with_files tables (first ++ old ∷ later)))
      by false is = leads

  lead_changed : (first later : List File) (old new : File) → AllByRecursion (IsOtherFile old.name) first → new.name ≡ old.name → new.tree.constraint ≡ old.tree.constraint
      → Lead (with_files tables (first ++ old ∷ later)) (file_changes (first ++ old ∷ later) (first ++ new ∷ later)) (with_files tables (first ++ new ∷ later))
  lead_changed first later old new off name constraint =
      lead_unless first later old new (file_true old new constraint) (by (are_same_units old.tree.units new.tree.units) refl)
    where
      by : (b : Bool) → are_same_units old.tree.units new.tree.units ≡ b
          → Lead (with_files tables (first ++ old ∷ later)) (cond b (PutAttributes old.name new.name (attributes_of new)) (PutFile new) ∷ []) (with_files tables (first ++ new ∷ later))
      by true is =
          let units = units_true old.tree.units new.tree.units is in
          let tree : new.tree ≡ old.tree = λ i. record { constraint = constraint i; units = sym units i } in
          let here : bytes_eq old.name new.name ≡ true = ap (bytes_eq old.name) name ∙ name_itself old.name in
          lead_attributes first later old new off tree (ap (λ b. b || is_none (find (is_file new.name) (first ++ old ∷ later))) here)
      by false is = lead_whole first later old new off name

  lead_named : (first later : List File) (old new : File) → AllByRecursion (IsOtherFile old.name) first → new.tree ≡ old.tree → AllByRecursion (IsOtherFile new.name) (first ++ old ∷ later)
      → Lead (with_files tables (first ++ old ∷ later)) (file_changes (first ++ old ∷ later) (first ++ new ∷ later)) (with_files tables (first ++ new ∷ later))
  lead_named first later old new off tree free =
      let same : are_same_units old.tree.units new.tree.units ≡ true = ap (λ (tree : FileTree). are_same_units old.tree.units tree.units) tree ∙ units_refl old.tree.units in
      let none : is_none (find (is_file new.name) (first ++ old ∷ later)) ≡ true = ap is_none (find_none (is_file new.name) (first ++ old ∷ later) free) in
      lead_unless first later old new (file_true old new (ap (λ (tree : FileTree). tree.constraint) tree))
      (subst (λ (change : Change). Lead (with_files tables (first ++ old ∷ later)) (change ∷ []) (with_files tables (first ++ new ∷ later)))
      (λ i. cond (sym same i) (PutAttributes old.name new.name (attributes_of new)) (PutFile new))
      (lead_attributes first later old new off tree (ap (λ b. bytes_eq old.name new.name || b) none ∙ or_true (bytes_eq old.name new.name))))

  pub files_lead : (before after : List File) → IsDistinct bytes_eq (map name_of before) → FileStep before after
      → Lead (with_files tables before) (file_changes before after) (with_files tables after)
  files_lead before after distinct (same is) =
      subst (λ (files : List File). Lead (with_files tables before) (file_changes before files) (with_files tables files)) (sym is)
      (subst (λ (changes : List Change). Lead (with_files tables before) changes (with_files tables before)) (sym (files_themselves before)) (leads_nowhere (with_files tables before)))
  files_lead before after distinct (added file is off) =
      subst (λ (files : List File). Lead (with_files tables before) (file_changes before files) (with_files tables files)) (sym is) (lead_added before file off)
  files_lead before after distinct (gone first later file was is) =
      moved before after (first ++ file ∷ later) (first ++ later) was is (lead_gone first later file (subst (λ (files : List File). IsDistinct bytes_eq (map name_of files)) was distinct))
  files_lead before after distinct (changed first later old new was is name constraint) =
      let off = others first later old (subst (λ (files : List File). IsDistinct bytes_eq (map name_of files)) was distinct) in
      moved before after (first ++ old ∷ later) (first ++ new ∷ later) was is (lead_changed first later old new off name constraint)
  files_lead before after distinct (named first later old new was is tree free) =
      let off = others first later old (subst (λ (files : List File). IsDistinct bytes_eq (map name_of files)) was distinct) in
      moved before after (first ++ old ∷ later) (first ++ new ∷ later) was is
      (lead_named first later old new off tree (subst (λ (files : List File). AllByRecursion (IsOtherFile new.name) files) was free))
