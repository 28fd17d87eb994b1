-- The changes of files where one is gone, stands after the others, or is changed in its place.
use Rattle.std.proofs.Common.{◌≡◌, ℕ, ◌++◌, List, [], ◌∷◌, map, Option, None, Some, refl, ap, sym, subst, ◌∙◌}
use Rattle.std.specs.Prelude.{IsSome}
use Rattle.std.specs.List.{AllByRecursion, IsDistinct}
use Rattle.std.specs.Str.{bytes_eq}
use Rattle.vf_attr.specs.declared.file.File.{File}
use Rattle.vf_filestore.specs.Files.{file_named}
use Rattle.vf_tables.specs.declared.change.Change.TheVariants.{DropFile}
use Rattle.vf_filestore.specs.Changes.{file_changes}
use Rattle.vf_filestore.specs.Effects.{in_place, without_file}
use Rattle.vf_filestore.specs.Sound.{name_of}
use Rattle.vf_filestore.proofs.FileSteps.{IsOtherFile, changes_changed, changes_gone, later_others, skip}
use Rattle.vf_filestore.proofs.Filed.{same_name}
use Rattle.vf_filestore.proofs.FilesMoved.{in_place_at, later_off, located, without_at}
use Rattle.vf_party_steps.specs.Files.{changes_of_file}

drops : (name : List ℕ) (files : List File) (file : File) → IsDistinct bytes_eq (map name_of files) → file_named name files ≡ Some file → file_changes files (without_file name files) ≡ DropFile name ∷ []
drops name files file distinct found =
    let at = located name files file found in
    let own : name ≡ file.name = same_name name file.name at.here in
    let apart : IsDistinct bytes_eq (map name_of (at.first ++ file ∷ at.later)) = subst (λ (all : List File). IsDistinct bytes_eq (map name_of all)) at.is distinct in
    let off = later_off at.first at.later file apart in
    (λ i. file_changes (at.is i) (without_file name (at.is i)))
    ∙ ap (file_changes (at.first ++ file ∷ at.later)) (without_at name file at.first at.later at.off at.here (subst (λ (n : List ℕ). AllByRecursion (IsOtherFile n) at.later) (sym own) off))
    ∙ skip at.first (file ∷ at.later) at.later ∙ changes_gone file at.later (later_others at.first at.later file apart) ∙ (λ i. DropFile (sym own i) ∷ [])

-- a file gone that is there
pub changes_dropped : (name : List ℕ) (files : List File) → IsDistinct bytes_eq (map name_of files) → IsSome (file_named name files) → file_changes files (without_file name files) ≡ DropFile name ∷ []
changes_dropped name files distinct there = by (file_named name files) refl there
  where
    by : (found : Option File) → file_named name files ≡ found → IsSome found → file_changes files (without_file name files) ≡ DropFile name ∷ []
    by None is there = absurd cc
    by (Some file) is there = drops name files file distinct is

-- another in the place of one that is there
pub changes_placed : (name : List ℕ) (files : List File) (old new : File) → file_named name files ≡ Some old → file_changes files (in_place name new files) ≡ changes_of_file old new
changes_placed name files old new found =
    let at = located name files old found in
    (λ i. file_changes (at.is i) (in_place name new (at.is i)))
    ∙ ap (file_changes (at.first ++ old ∷ at.later)) (in_place_at name new old at.first at.later at.off at.here)
    ∙ skip at.first (old ∷ at.later) (new ∷ at.later) ∙ changes_changed old new at.later
