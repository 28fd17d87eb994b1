-- A file is found by its name, whatever looks for it.
use Rattle.std.proofs.Common.{◌≡◌, ℕ, cond, List, [], ◌∷◌, Option, None, Some, Bor, refl, sym}
use Rattle.std.specs.Prelude.{IfSome, find, option_copied}
use Rattle.vf_attr.specs.declared.file.File.{File}
use Rattle.vf_filestore.specs.Files.{file_named}
use Rattle.vf_filestore.proofs.Filed.{found_itself}
use Rattle.vf_tables.specs.Entries.{is_file}

pub found_same : (name : List ℕ) (files : List File) → find (is_file name) files ≡ file_named name files
found_same name [] = refl
found_same name (file ∷ files) = λ i. cond (is_file name file) (Some file) (found_same name files i)

-- and what is found has its own name
pub named_itself : (found : Option (Bor File)) (name : List ℕ) (files : List File) → option_copied found ≡ file_named name files
    → IfSome found (λ file. file_named file.now.name files ≡ Some file.now)
named_itself None name files is = tt
named_itself (Some file) name files is = found_itself name files file.now (sym is)
