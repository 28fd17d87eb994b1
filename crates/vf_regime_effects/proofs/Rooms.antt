-- The octets of a filestore with a file in the place of another.
use Rattle.std.proofs.Common.{◌≡◌, ℕ, ◌+◌, ◌-◌, ◌≤◌, Bool, true, false, cond, List, [], ◌∷◌, nat_eq, Option, None, Some, arith}
use Rattle.std.specs.Prelude.{min, nat_le}
use Rattle.std.specs.Cmp.Lexicographic.{pointwise}
use Rattle.std.proofs.lemmas.Bool.{le-leb, leb-true}
use Rattle.std.proofs.lemmas.Bool.Decides.{same_from_decides}
use Rattle.std.proofs.lemmas.List.Sums.{sum_by-cons}
use Rattle.vf_attr.specs.declared.file.File.{File}
use Rattle.vf_filestore.specs.Files.{file_named, with_file}
use Rattle.vf_tables.specs.Sums.{octets_of_file, octets_of_files}
use Rattle.vf_tables.specs.declared.limits.TheConstants.{MOST_FILESTORE_OCTETS}
use Rattle.vf_tree.specs.declared.limits.TheConstants.{MOST_FILE_OCTETS}

abbrev pub octets_of_option : Option File → ℕ
octets_of_option None = 0
octets_of_option (Some file) = octets_of_file file

replaced_by : (same : Bool) (file other : File) (files : List File)
    → octets_of_files (with_file file files) + octets_of_option (file_named file.name files) ≡ octets_of_files files + octets_of_file file
    → octets_of_files (cond same (file ∷ files) (other ∷ with_file file files)) + octets_of_option (cond same (Some other) (file_named file.name files))
    ≡ octets_of_files (other ∷ files) + octets_of_file file
replaced_by true file other files rest =
    omega (arith, sum_by-cons octets_of_file file files, sum_by-cons octets_of_file other files)
replaced_by false file other files rest =
    omega (arith, sum_by-cons octets_of_file other (with_file file files), sum_by-cons octets_of_file other files, rest)

-- what the new file has, and what the old one had
replaced_octets : (file : File) (files : List File)
    → octets_of_files (with_file file files) + octets_of_option (file_named file.name files) ≡ octets_of_files files + octets_of_file file
replaced_octets file [] = omega (arith, sum_by-cons octets_of_file file [])
replaced_octets file (other ∷ files) =
    replaced_by (pointwise nat_eq file.name other.name) file other files (replaced_octets file files)

-- the test of room goes by the count of the table alone
pub room : (file : File) (files : List File) (octets old new : ℕ) → octets ≡ min (octets_of_files files) 18446744073709551615
    → old ≡ octets_of_option (file_named file.name files) → new ≡ octets_of_file file → old ≤ MOST_FILE_OCTETS → new ≤ MOST_FILE_OCTETS
    → nat_le octets (MOST_FILESTORE_OCTETS + old - new) ≡ nat_le (octets_of_files (with_file file files)) MOST_FILESTORE_OCTETS
room file files octets old new count is newer small few =
    let most = MOST_FILESTORE_OCTETS + old - new in
    let right = octets_of_files (with_file file files) in
    let sum = replaced_octets file files in
    let fits_right : octets ≤ most → right ≤ MOST_FILESTORE_OCTETS = λ fits. omega (arith, sum, count, is, newer, small, few, fits) in
    let fits_left : right ≤ MOST_FILESTORE_OCTETS → octets ≤ most = λ fits. omega (arith, sum, count, is, newer, small, few, fits) in
    same_from_decides (nat_le octets most) (nat_le right MOST_FILESTORE_OCTETS)
    (λ e. fits_right (leb-true octets most e), λ fits. le-leb octets most (fits_left fits))
    (λ e. leb-true right MOST_FILESTORE_OCTETS e, λ fits. le-leb right MOST_FILESTORE_OCTETS fits)
