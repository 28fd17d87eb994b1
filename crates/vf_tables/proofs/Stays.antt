-- Files that changes leave stay valid, so that those alone decide that the changes put.
use Rattle.std.proofs.Common.{◌≡◌, ℕ, Bool, true, false, ◌&&◌, ◌||◌, if◌then◌else◌, List, [], ◌∷◌, ◌++◌, Option, None, Some, nat_eq, refl, sym, ◌∙◌, ap, subst, append_assoc}
use Rattle.std.specs.Prelude.{IfSome, find}
use Rattle.std.specs.Cmp.Lexicographic.{pointwise}
use Rattle.std.specs.List.{list_all, list_any}
use Rattle.std.specs.Option.{option_map_or}
use Rattle.std.proofs.lemmas.Slice.Eq.{bytes_eq-Decides}
use Rattle.vf_attr.specs.declared.file.File.{File}
use Rattle.vf_tables.specs.declared.change.Change.{Change}
use Rattle.vf_tables.specs.declared.change.Change.TheVariants.{PutUser, PutFile, PutAttributes, DropFile, PutDocket, Stage, CutStage, DropDocket, PutTask, StageTask, CutTask, DropTask}
use Rattle.vf_tables.specs.declared.tables.Tables.{Tables}
use Rattle.vf_tables.specs.Changes.{after, after_all, renamed}
use Rattle.vf_tables.specs.declared.docket.Docket.{Docket}
use Rattle.vf_tables.specs.declared.task.Task.{Task}
use Rattle.vf_tables.specs.declared.user.User.{User}
use Rattle.vf_tables.specs.Entries.{is_docket, is_file, is_task, is_user}
use Rattle.vf_tables.specs.Staying.{AreValid, puts_valid, stay_valid}
use Rattle.vf_tables.specs.Validity.{all_differ, are_within, exclude, have_keys, is_valid, is_valid_docket, is_valid_file, is_valid_task}
use Rattle.vf_tables.proofs.Ranges.{all_changed, all_dropped, all_put, both, first_of, found, second_of, weaken}
use Rattle.vf_tables.proofs.Snapshots.{found_at, none_before, same_file}

or_first : (a b : Bool) → a ≡ true → (a || b) ≡ true
or_first true b is = refl
or_first false b is = absurd cc

or_second : (a b : Bool) → b ≡ true → (a || b) ≡ true
or_second true b is = refl
or_second false b is = is

-- FILES THAT ARE PUT
abbrev puts_name : List ℕ → Change → Bool
puts_name name (PutUser user) = false
puts_name name (PutFile file) = pointwise nat_eq file.name name
puts_name name (PutAttributes old other attributes) = pointwise nat_eq other name
puts_name name (DropFile other) = false
puts_name name (PutDocket regime) = false
puts_name name (Stage identity activity first last elements) = false
puts_name name (CutStage identity activity point) = false
puts_name name (DropDocket identity activity) = false
puts_name name (PutTask plan) = false
puts_name name (StageTask activity point elements) = false
puts_name name (CutTask activity point) = false
puts_name name (DropTask activity) = false

-- valid, or put by one of these changes
abbrev is_good : List Change → File → Bool
is_good all file = is_valid_file file || list_any (puts_name file.name) all

itself : (name : List ℕ) → pointwise nat_eq name name ≡ true
itself name = (bytes_eq-Decides name name).1 refl

good_step : (all : List Change) (change : Change) (tables : Tables) → ((name : List ℕ) → puts_name name change ≡ true → list_any (puts_name name) all ≡ true)
    → list_all (is_good all) tables.files ≡ true → list_all (is_good all) (after tables change).files ≡ true
good_step all (PutUser user) tables among good = good
good_step all (PutFile file) tables among good =
    all_put (is_good all) (is_file file.name) file tables.files (or_second (is_valid_file file) (list_any (puts_name file.name) all) (among file.name (itself file.name))) good
good_step all (PutAttributes old name attributes) tables among good =
    all_changed (is_good all) (is_file old) (renamed name attributes) (λ file is. or_second (is_valid_file (renamed name attributes file)) (list_any (puts_name name) all) (among name (itself name))) tables.files good
good_step all (DropFile name) tables among good = all_dropped (is_good all) (is_file name) tables.files good
good_step all (PutDocket regime) tables among good = good
good_step all (Stage identity activity first last elements) tables among good = good
good_step all (CutStage identity activity point) tables among good = good
good_step all (DropDocket identity activity) tables among good = good
good_step all (PutTask plan) tables among good = good
good_step all (StageTask activity point elements) tables among good = good
good_step all (CutTask activity point) tables among good = good
good_step all (DropTask activity) tables among good = good

good_after : (all changes : List Change) (tables : Tables) → ((name : List ℕ) → list_any (puts_name name) changes ≡ true → list_any (puts_name name) all ≡ true)
    → list_all (is_good all) tables.files ≡ true → list_all (is_good all) (after_all tables changes).files ≡ true
good_after all [] tables among good = good
good_after all (change ∷ changes) tables among good =
    good_after all changes (after tables change) (λ name is. among name (or_second (puts_name name change) (list_any (puts_name name) changes) is))
    (good_step all change tables (λ name is. among name (or_first (puts_name name change) (list_any (puts_name name) changes) is)) good)

-- THOSE THAT DECIDE
same_tests : (a b : Bool) → (a ≡ true → b ≡ true) → (b ≡ true → a ≡ true) → a ≡ b
same_tests true b there back = sym (there refl)
same_tests false true there back = back refl
same_tests false false there back = refl

module _ (files : List File) (differ : all_differ (λ (file : File). is_file file.name) files ≡ true) where
  -- a file is found by its name
  found_itself : (done : List File) (file : File) (rest : List File) → files ≡ done ++ file ∷ rest → find (is_file file.name) files ≡ Some file
  found_itself done file rest is =
      let apart = none_before (λ (f : File). is_file f.name) same_file done file rest (subst (λ (l : List File). all_differ (λ (f : File). is_file f.name) l ≡ true) is differ) in
      ap (find (is_file file.name)) is ∙ found_at (is_file file.name) done file rest apart (itself file.name)

  by_name : (name : List ℕ) (file : File) → find (is_file file.name) files ≡ Some file → pointwise nat_eq name file.name ≡ true
      → option_map_or is_valid_file (find (is_file name) files) true ≡ true → is_valid_file file ≡ true
  by_name name file at same valid =
      let is : name ≡ file.name = (bytes_eq-Decides name file.name).0 same in
      sym (ap (λ (n : List ℕ). option_map_or is_valid_file (find (is_file n) files) true) is ∙ ap (λ (o : Option File). option_map_or is_valid_file o true) at) ∙ valid

  valid_put : (change : Change) (file : File) → find (is_file file.name) files ≡ Some file → puts_name file.name change ≡ true → puts_valid files change ≡ true → is_valid_file file ≡ true
  valid_put (PutUser user) file at puts valid = absurd cc
  valid_put (PutFile other) file at puts valid = by_name other.name file at puts valid
  valid_put (PutAttributes old name attributes) file at puts valid = by_name name file at puts valid
  valid_put (DropFile name) file at puts valid = absurd cc
  valid_put (PutDocket regime) file at puts valid = absurd cc
  valid_put (Stage identity activity first last elements) file at puts valid = absurd cc
  valid_put (CutStage identity activity point) file at puts valid = absurd cc
  valid_put (DropDocket identity activity) file at puts valid = absurd cc
  valid_put (PutTask plan) file at puts valid = absurd cc
  valid_put (StageTask activity point elements) file at puts valid = absurd cc
  valid_put (CutTask activity point) file at puts valid = absurd cc
  valid_put (DropTask activity) file at puts valid = absurd cc

  put_case : (puts : Bool) (change : Change) (changes : List Change) (file : File) → find (is_file file.name) files ≡ Some file → puts_name file.name change ≡ puts → puts_valid files change ≡ true
      → (list_any (puts_name file.name) changes ≡ true → is_valid_file file ≡ true) → (puts || list_any (puts_name file.name) changes) ≡ true → is_valid_file file ≡ true
  put_case true change changes file at puts valid later some = valid_put change file at puts valid
  put_case false change changes file at puts valid later some = later some

  valid_any : (changes : List Change) (file : File) → find (is_file file.name) files ≡ Some file → list_all (puts_valid files) changes ≡ true → list_any (puts_name file.name) changes ≡ true → is_valid_file file ≡ true
  valid_any [] file at all some = absurd cc
  valid_any (change ∷ changes) file at all some =
      put_case (puts_name file.name change) change changes file at refl (first_of (puts_valid files change) (list_all (puts_valid files) changes) all)
      (valid_any changes file at (second_of (puts_valid files change) (list_all (puts_valid files) changes) all)) some

  good_case : (valid some : Bool) → (some ≡ true → valid ≡ true) → (valid || some) ≡ true → valid ≡ true
  good_case true some gives is = refl
  good_case false some gives is = gives is

  all_valid : (changes : List Change) (done rest : List File) → files ≡ done ++ rest → list_all (puts_valid files) changes ≡ true → list_all (is_good changes) rest ≡ true → list_all is_valid_file rest ≡ true
  all_valid changes done [] is all good = refl
  all_valid changes done (file ∷ rest) is all good =
      let at = found_itself done file rest is in
      both (is_valid_file file) (list_all is_valid_file rest)
      (good_case (is_valid_file file) (list_any (puts_name file.name) changes) (valid_any changes file at all) (first_of (is_good changes file) (list_all (is_good changes) rest) good))
      (all_valid changes (done ++ file ∷ []) rest (is ∙ sym (append_assoc done (file ∷ []) rest)) all (second_of (is_good changes file) (list_all (is_good changes) rest) good))

  put_found : (o : Option File) → IfSome o (λ file. is_valid_file file ≡ true) → option_map_or is_valid_file o true ≡ true
  put_found None valid = refl
  put_found (Some file) valid = valid

  put_valid : (change : Change) → list_all is_valid_file files ≡ true → puts_valid files change ≡ true
  put_valid (PutUser user) all = refl
  put_valid (PutFile file) all = put_found (find (is_file file.name) files) (found is_valid_file (is_file file.name) files all)
  put_valid (PutAttributes old name attributes) all = put_found (find (is_file name) files) (found is_valid_file (is_file name) files all)
  put_valid (DropFile name) all = refl
  put_valid (PutDocket regime) all = refl
  put_valid (Stage identity activity first last elements) all = refl
  put_valid (CutStage identity activity point) all = refl
  put_valid (DropDocket identity activity) all = refl
  put_valid (PutTask plan) all = refl
  put_valid (StageTask activity point elements) all = refl
  put_valid (CutTask activity point) all = refl
  put_valid (DropTask activity) all = refl

  all_put_valid : (changes : List Change) → list_all is_valid_file files ≡ true → list_all (puts_valid files) changes ≡ true
  all_put_valid [] all = refl
  all_put_valid (change ∷ changes) all = both (puts_valid files change) (list_all (puts_valid files) changes) (put_valid change all) (all_put_valid changes all)

  files_alike : (changes : List Change) → list_all (is_good changes) files ≡ true → list_all (puts_valid files) changes ≡ list_all is_valid_file files
  files_alike changes good =
      same_tests (list_all (puts_valid files) changes) (list_all is_valid_file files) (λ all. all_valid changes [] files refl all good) (all_put_valid changes)

files_differ : (tables : Tables) → have_keys tables ≡ true → all_differ (λ (file : File). is_file file.name) tables.files ≡ true
files_differ tables keys =
    let a = all_differ (λ (user : User). is_user user.identity) tables.users in
    let b = all_differ (λ (file : File). is_file file.name) tables.files in
    let c = all_differ (λ (docket : Docket). is_docket docket.regime.identity docket.regime.activity) tables.dockets in
    let d = all_differ (λ (task : Task). is_task task.plan.activity) tables.tasks in
    second_of a b (first_of (a && b) c (first_of (a && b && c) d keys))

files_valid : (tables : Tables) → is_valid tables ≡ true → list_all is_valid_file tables.files ≡ true
files_valid tables is =
    let a = have_keys tables in
    let b = are_within tables in
    let c = list_all is_valid_file tables.files in
    let d = list_all (is_valid_docket tables.files) tables.dockets in
    let e = all_differ exclude tables.dockets in
    let f = list_all is_valid_task tables.tasks in
    second_of (a && b) c (first_of (a && b && c) d (first_of (a && b && c && d) e (first_of (a && b && c && d && e) f is)))

kept_good : (before : Tables) (changes : List Change) → is_valid before ≡ true → list_all (is_good changes) (after_all before changes).files ≡ true
kept_good before changes valid =
    good_after changes changes before (λ name is. is) (weaken is_valid_file (is_good changes) (λ file is. or_first (is_valid_file file) (list_any (puts_name file.name) changes) is) before.files (files_valid before valid))

tests_alike : (keys within puts files dockets apart tasks : Bool) → (keys ≡ true → puts ≡ files) → (keys && within && puts && dockets && apart && tasks) ≡ (keys && within && files && dockets && apart && tasks)
tests_alike true within puts files dockets apart tasks alike = ap (λ (b : Bool). within && b && dockets && apart && tasks) (alike refl)
tests_alike false within puts files dockets apart tasks alike = refl

alike_at : (before now : Tables) (changes : List Change) → is_valid before ≡ true → now ≡ after_all before changes → have_keys now ≡ true → list_all (puts_valid now.files) changes ≡ list_all is_valid_file now.files
alike_at before now changes valid is keys =
    files_alike now.files (files_differ now keys) changes (subst (λ (t : Tables). list_all (is_good changes) t.files ≡ true) (sym is) (kept_good before changes valid))

pub stays : (before now : Tables) (changes : List Change) → AreValid before → now ≡ after_all before changes → stay_valid now changes ≡ is_valid now
unfolding AreValid
stays before now changes valid is =
    tests_alike (have_keys now) (are_within now) (list_all (puts_valid now.files) changes) (list_all is_valid_file now.files) (list_all (is_valid_docket now.files) now.dockets) (all_differ exclude now.dockets) (list_all is_valid_task now.tasks)
    (alike_at before now changes valid is)
