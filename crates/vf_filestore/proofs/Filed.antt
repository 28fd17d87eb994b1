-- Files found by name, where one is put, is taken away, or stands in the place of another.
use Rattle.std.proofs.Common.{◌≡◌, ℕ, ◌≤◌, Bool, true, false, cond, not, List, [], ◌∷◌, ◌++◌, map, Option, None, Some, inl, inr, refl, ap, sym, subst, ◌∙◌, arith}
use Rattle.std.specs.Prelude.{◌⊎◌, IfSome}
use Rattle.std.specs.List.{AllByRecursion, IsDistinct}
use Rattle.std.specs.Str.{bytes_eq}
use Rattle.std.proofs.lemmas.Bool.Decides.{same_from_decides}
use Rattle.std.proofs.lemmas.Slice.Eq.{bytes_eq-Decides}
use Rattle.vf_attr.specs.declared.file.File.{File}
use Rattle.vf_filestore.specs.Effects.{in_place, without_file}
use Rattle.vf_filestore.specs.Files.{file_named, with_file}
use Rattle.vf_filestore.specs.Sound.{name_of}
use Rattle.vf_filestore.proofs.Lists.{all_weaker, distinct_map-filter, distinct_push}

pub names_flip : (a b : List ℕ) → bytes_eq a b ≡ bytes_eq b a
names_flip a b =
    same_from_decides (bytes_eq a b) (bytes_eq b a) (bytes_eq-Decides a b)
    (λ e. sym ((bytes_eq-Decides b a).0 e), λ e. (bytes_eq-Decides b a).1 (sym e))

pub same_name : (a b : List ℕ) → bytes_eq a b ≡ true → a ≡ b
same_name a b e = (bytes_eq-Decides a b).0 e

pub name_itself : (a : List ℕ) → bytes_eq a a ≡ true
name_itself a = (bytes_eq-Decides a a).1 refl

-- a file is found by its own name
pub found_name : (name : List ℕ) (files : List File) (file : File) → file_named name files ≡ Some file → name ≡ file.name
found_name name [] file found = absurd cc
found_name name (other ∷ files) file found = by (bytes_eq name other.name) refl found (found_name name files file)
  where
    by : (b : Bool) → bytes_eq name other.name ≡ b → cond b (Some other) (file_named name files) ≡ Some file
        → (file_named name files ≡ Some file → name ≡ file.name) → name ≡ file.name
    by true is found rest =
        let same : other ≡ file = cc in
        same_name name other.name is ∙ ap (λ (f : File). f.name) same
    by false is found rest = rest found

pub found_itself : (name : List ℕ) (files : List File) (file : File) → file_named name files ≡ Some file → file_named file.name files ≡ Some file
found_itself name files file found = ap (λ name. file_named name files) (sym (found_name name files file found)) ∙ found

-- a name that no file has is put after the others
pub with_file-new : (file : File) (files : List File) → file_named file.name files ≡ None → with_file file files ≡ files ++ file ∷ []
with_file-new file [] none = refl
with_file-new file (other ∷ files) none = by (bytes_eq file.name other.name) none (with_file-new file files)
  where
    by : (b : Bool) → cond b (Some other) (file_named file.name files) ≡ None → (file_named file.name files ≡ None → with_file file files ≡ files ++ file ∷ [])
        → cond b (file ∷ files) (other ∷ with_file file files) ≡ other ∷ (files ++ file ∷ [])
    by true none rest = absurd cc
    by false none rest = ap (λ files. other ∷ files) (rest none)

-- ---- a file and what becomes of it

pub record IsNext (file later : File) : Type 0 where
  pub rises : file.version ≤ later.version
  pub same : later.version ≡ file.version → later.tree ≡ file.tree
  pub typed : later.contents ≡ file.contents

pub record IsFoundNext (file : File) (found : Option File) : Type 0 where
  pub later : File
  pub is : found ≡ Some later
  pub next : IsNext file later

-- the file of a name is there later, as it was or changed
abbrev pub Continues : (files later : List File) → (name : List ℕ) → Type 0
Continues files later name = IfSome (file_named name files) (λ file. IsFoundNext file (file_named name later))

pub continues_same : (files later : List File) (name : List ℕ) → file_named name later ≡ file_named name files → Continues files later name
continues_same files later name same = subst (λ (found : Option File). IfSome (file_named name files) (λ file. IsFoundNext file found)) (sym same) (by (file_named name files))
  where
    by : (found : Option File) → IfSome found (λ file. IsFoundNext file found)
    by None = tt
    by (Some file) = record { later = file; is = refl; next = record { rises = omega arith; same = λ e. refl; typed = refl } }

continues_none : (files later : List File) (name : List ℕ) → file_named name files ≡ None → Continues files later name
continues_none files later name none = subst (λ (found : Option File). IfSome found (λ file. IsFoundNext file (file_named name later))) (sym none) tt

continues_one : (files later : List File) (name : List ℕ) (file after : File) → file_named name files ≡ Some file → file_named name later ≡ Some after → IsNext file after → Continues files later name
continues_one files later name file after found is next =
    subst (λ (one : Option File). IfSome one (λ file. IsFoundNext file (file_named name later))) (sym found) (record { later = after; is = is; next = next })

-- ---- a file in the place of another

pub found_other : (name : List ℕ) (old : List ℕ) (file : File) (files : List File) → bytes_eq name old ≡ false → bytes_eq name file.name ≡ false
    → file_named name (in_place old file files) ≡ file_named name files
found_other name old file [] a b = refl
found_other name old file (other ∷ files) a b = by (found_other name old file files a b) (bytes_eq other.name old) refl
  where
    by : file_named name (in_place old file files) ≡ file_named name files → (t : Bool) → bytes_eq other.name old ≡ t
        → file_named name (cond t (file ∷ files) (other ∷ in_place old file files)) ≡ cond (bytes_eq name other.name) (Some other) (file_named name files)
    by rest true is =
        let off : bytes_eq name other.name ≡ false = ap (bytes_eq name) (same_name other.name old is) ∙ a in
        (λ i. cond (b i) (Some file) (file_named name files)) ∙ sym (λ i. cond (off i) (Some other) (file_named name files))
    by rest false is = λ i. cond (bytes_eq name other.name) (Some other) (rest i)

-- the new name is the old one, or no file has it
abbrev pub IsFree : (old name : List ℕ) → List File → Type 0
IsFree old name files = (name ≡ old) ⊎ (file_named name files ≡ None)

off_first : (name : List ℕ) (other : File) (files : List File) → file_named name (other ∷ files) ≡ None → bytes_eq name other.name ≡ false
off_first name other files none = by (bytes_eq name other.name) refl none
  where
    by : (t : Bool) → bytes_eq name other.name ≡ t → cond t (Some other) (file_named name files) ≡ None → bytes_eq name other.name ≡ false
    by true is never = absurd cc
    by false is never = is

none_later : (name : List ℕ) (other : File) (files : List File) → file_named name (other ∷ files) ≡ None → file_named name files ≡ None
none_later name other files none = sym (λ i. cond (off_first name other files none i) (Some other) (file_named name files)) ∙ none

pub found_here : (old : List ℕ) (before after : File) (files : List File) → file_named old files ≡ Some before → IsFree old after.name files
    → file_named after.name (in_place old after files) ≡ Some after
found_here old before after [] found free = absurd cc
found_here old before after (other ∷ files) found free = by (found_here old before after files) (bytes_eq other.name old) refl
  where
    off : bytes_eq other.name old ≡ false → IsFree old after.name (other ∷ files) → bytes_eq after.name other.name ≡ false
    off is (inl same) = ap (λ name. bytes_eq name other.name) same ∙ names_flip old other.name ∙ is
    off is (inr none) = off_first after.name other files none

    free_later : IsFree old after.name (other ∷ files) → IsFree old after.name files
    free_later (inl same) = inl same
    free_later (inr none) = inr (none_later after.name other files none)

    by : (file_named old files ≡ Some before → IsFree old after.name files → file_named after.name (in_place old after files) ≡ Some after) → (t : Bool) → bytes_eq other.name old ≡ t
        → file_named after.name (cond t (after ∷ files) (other ∷ in_place old after files)) ≡ Some after
    by rest true is = λ i. cond (name_itself after.name i) (Some after) (file_named after.name files)
    by rest false is =
        let later : file_named old files ≡ Some before = sym (λ i. cond ((names_flip old other.name ∙ is) i) (Some other) (file_named old files)) ∙ found in
        (λ i. cond (off is free i) (Some other) (file_named after.name (in_place old after files))) ∙ rest later (free_later free)

pub continues_in_place : (old : List ℕ) (before after : File) (files : List File) → file_named old files ≡ Some before → after.name ≡ old → IsNext before after
    → (name : List ℕ) → Continues files (in_place old after files) name
continues_in_place old before after files found same next name = by (bytes_eq name old) refl
  where
    by : (t : Bool) → bytes_eq name old ≡ t → Continues files (in_place old after files) name
    by true is =
        let here : name ≡ old = same_name name old is in
        let now : file_named name (in_place old after files) ≡ Some after = ap (λ name. file_named name (in_place old after files)) (here ∙ sym same) ∙ found_here old before after files found (inl same) in
        continues_one files (in_place old after files) name before after (ap (λ name. file_named name files) here ∙ found) now next
    by false is = continues_same files (in_place old after files) name (found_other name old after files is (ap (bytes_eq name) same ∙ is))

pub continues_renamed : (old : List ℕ) (after : File) (files : List File) → file_named after.name files ≡ None
    → (name : List ℕ) → bytes_eq name old ≡ false → Continues files (in_place old after files) name
continues_renamed old after files free name other = by (bytes_eq name after.name) refl
  where
    by : (t : Bool) → bytes_eq name after.name ≡ t → Continues files (in_place old after files) name
    by true is = continues_none files (in_place old after files) name (ap (λ name. file_named name files) (same_name name after.name is) ∙ free)
    by false is = continues_same files (in_place old after files) name (found_other name old after files other is)

-- ---- a file more, and one less

pub named_added : (file : File) (files : List File) → file_named file.name (with_file file files) ≡ Some file
named_added file [] = λ i. cond (name_itself file.name i) (Some file) None
named_added file (other ∷ files) = by (named_added file files) (bytes_eq file.name other.name) refl
  where
    by : file_named file.name (with_file file files) ≡ Some file → (t : Bool) → bytes_eq file.name other.name ≡ t → file_named file.name (cond t (file ∷ files) (other ∷ with_file file files)) ≡ Some file
    by rest true is = λ i. cond (name_itself file.name i) (Some file) (file_named file.name files)
    by rest false is = (λ i. cond (is i) (Some other) (file_named file.name (with_file file files))) ∙ rest

other_added : (name : List ℕ) (file : File) (files : List File) → bytes_eq name file.name ≡ false → file_named name (with_file file files) ≡ file_named name files
other_added name file [] other = λ i. cond (other i) (Some file) None
other_added name file (first ∷ files) other = by (other_added name file files other) (bytes_eq file.name first.name) refl
  where
    by : file_named name (with_file file files) ≡ file_named name files → (t : Bool) → bytes_eq file.name first.name ≡ t
        → file_named name (cond t (file ∷ files) (first ∷ with_file file files)) ≡ cond (bytes_eq name first.name) (Some first) (file_named name files)
    by rest true is =
        let off : bytes_eq name first.name ≡ false = ap (bytes_eq name) (sym (same_name file.name first.name is)) ∙ other in
        (λ i. cond (other i) (Some file) (file_named name files)) ∙ sym (λ i. cond (off i) (Some first) (file_named name files))
    by rest false is = λ i. cond (bytes_eq name first.name) (Some first) (rest i)

pub continues_added : (file : File) (files : List File) → file_named file.name files ≡ None → (name : List ℕ) → Continues files (with_file file files) name
continues_added file files free name = by (bytes_eq name file.name) refl
  where
    by : (t : Bool) → bytes_eq name file.name ≡ t → Continues files (with_file file files) name
    by true is = continues_none files (with_file file files) name (ap (λ name. file_named name files) (same_name name file.name is) ∙ free)
    by false is = continues_same files (with_file file files) name (other_added name file files is)

other_left : (name old : List ℕ) (files : List File) → bytes_eq name old ≡ false → file_named name (without_file old files) ≡ file_named name files
other_left name old [] other = refl
other_left name old (first ∷ files) other = by (other_left name old files other) (bytes_eq first.name old) refl
  where
    by : file_named name (without_file old files) ≡ file_named name files → (t : Bool) → bytes_eq first.name old ≡ t
        → file_named name (cond (not t) (first ∷ without_file old files) (without_file old files)) ≡ cond (bytes_eq name first.name) (Some first) (file_named name files)
    by rest true is =
        let off : bytes_eq name first.name ≡ false = ap (bytes_eq name) (same_name first.name old is) ∙ other in
        rest ∙ sym (λ i. cond (off i) (Some first) (file_named name files))
    by rest false is = λ i. cond (bytes_eq name first.name) (Some first) (rest i)

pub continues_left : (old : List ℕ) (files : List File) → (name : List ℕ) → bytes_eq name old ≡ false → Continues files (without_file old files) name
continues_left old files name other = continues_same files (without_file old files) name (other_left name old files other)

-- ---- names differ

abbrev IsOtherName : List ℕ → List ℕ → Type 0
IsOtherName name other = bytes_eq name other ≡ false

all_unnamed : (name : List ℕ) (files : List File) → file_named name files ≡ None → AllByRecursion (IsOtherName name) (map name_of files)
all_unnamed name [] none = tt
all_unnamed name (file ∷ files) none = (off_first name file files none, all_unnamed name files (none_later name file files none))

pub filed_added : (file : File) (files : List File) → file_named file.name files ≡ None → IsDistinct bytes_eq (map name_of files)
    → IsDistinct bytes_eq (map name_of (with_file file files))
filed_added file files free distinct = subst (λ (all : List File). IsDistinct bytes_eq (map name_of all)) (sym (with_file-new file files free)) (pushed files (all_unnamed file.name files free) distinct)
  where
    named : (files : List File) → map name_of (files ++ file ∷ []) ≡ map name_of files ++ file.name ∷ []
    named [] = refl
    named (first ∷ files) = ap (λ names. first.name ∷ names) (named files)

    pushed : (files : List File) → AllByRecursion (IsOtherName file.name) (map name_of files) → IsDistinct bytes_eq (map name_of files) → IsDistinct bytes_eq (map name_of (files ++ file ∷ []))
    pushed files off distinct =
        let flipped = all_weaker (IsOtherName file.name) (λ name. bytes_eq name file.name ≡ false) (map name_of files) (λ name e. names_flip name file.name ∙ e) off in
        subst (λ names. IsDistinct bytes_eq names) (sym (named files)) (distinct_push bytes_eq (map name_of files) file.name flipped distinct)

pub filed_left : (old : List ℕ) (files : List File) → IsDistinct bytes_eq (map name_of files) → IsDistinct bytes_eq (map name_of (without_file old files))
filed_left old files distinct = distinct_map-filter name_of bytes_eq (λ (file : File). not (bytes_eq file.name old)) files distinct

same_names : (old : List ℕ) (file : File) (files : List File) → file.name ≡ old → map name_of (in_place old file files) ≡ map name_of files
same_names old file [] same = refl
same_names old file (other ∷ files) same = by (same_names old file files same) (bytes_eq other.name old) refl
  where
    by : map name_of (in_place old file files) ≡ map name_of files → (t : Bool) → bytes_eq other.name old ≡ t → map name_of (cond t (file ∷ files) (other ∷ in_place old file files)) ≡ map name_of (other ∷ files)
    by rest true is = ap (λ name. name ∷ map name_of files) (same ∙ sym (same_name other.name old is))
    by rest false is = ap (λ names. other.name ∷ names) rest

off_in_place : (name old : List ℕ) (file : File) (files : List File) → bytes_eq name file.name ≡ false → AllByRecursion (IsOtherName name) (map name_of files)
    → AllByRecursion (IsOtherName name) (map name_of (in_place old file files))
off_in_place name old file [] other off = tt
off_in_place name old file (first ∷ files) other off = by (bytes_eq first.name old) (off_in_place name old file files other off.1)
  where
    by : (t : Bool) → AllByRecursion (IsOtherName name) (map name_of (in_place old file files))
        → AllByRecursion (IsOtherName name) (map name_of (cond t (file ∷ files) (first ∷ in_place old file files)))
    by true rest = (other, off.1)
    by false rest = (off.0, rest)

filed_new : (old : List ℕ) (file : File) (files : List File) → AllByRecursion (IsOtherName file.name) (map name_of files) → IsDistinct bytes_eq (map name_of files)
    → IsDistinct bytes_eq (map name_of (in_place old file files))
unfolding IsDistinct
filed_new old file [] off distinct = distinct
filed_new old file (first ∷ files) off distinct = by (bytes_eq first.name old) (filed_new old file files off.1 distinct.1)
  where
    by : (t : Bool) → IsDistinct bytes_eq (map name_of (in_place old file files)) → IsDistinct bytes_eq (map name_of (cond t (file ∷ files) (first ∷ in_place old file files)))
    by true rest = (off.1, distinct.1)
    by false rest = (off_in_place first.name old file files (names_flip first.name file.name ∙ off.0) distinct.0, rest)

pub filed_in_place : (old : List ℕ) (file : File) (files : List File) → IsFree old file.name files → IsDistinct bytes_eq (map name_of files)
    → IsDistinct bytes_eq (map name_of (in_place old file files))
filed_in_place old file files (inl same) distinct = subst (λ names. IsDistinct bytes_eq names) (sym (same_names old file files same)) distinct
filed_in_place old file files (inr none) distinct = filed_new old file files (all_unnamed file.name files none) distinct
