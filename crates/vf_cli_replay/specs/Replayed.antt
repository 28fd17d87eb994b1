-- What `replay` prints of an input (profile).
use Rattle.std.specs.Prelude.{◌≡◌, ◌⊎◌, ℕ, List, [], ◌∷◌, ◌++◌, length, Option, Result, Ok, Err, codes, decimal}
use Rattle.vf_attr.specs.declared.file.File.{File}
use Rattle.vf_cli_printing.specs.Printed.{IsOneOf, Prints, Wrote, bad_line, line_feed}
use Rattle.vf_cli_script.specs.Scripts.{told_by}
use Rattle.vf_cli_script.specs.declared.script.Script.{Script}
use Rattle.vf_filestore.specs.Runs.{beginning}
use Rattle.vf_filestore.specs.State.{State}
use Rattle.vf_incarnations.specs.Incarnations.{after_all}
use Rattle.vf_incarnations.specs.Laws.{AreOneRun}
use Rattle.vf_store_commands.specs.Listing.{IsInOrder, file_lines}
use Rattle.vf_cli_replay.specs.Calls.{first_image}
use Rattle.vf_cli_replay.specs.Living.{LiveOn, Lived, episodes_of, lines_of}

-- how many files there are, and the line of each in the order of their names
abbrev pub files_lines : (files sorted : List File) → List ℕ
files_lines files sorted = codes "files " ++ (decimal (length files) ++ (line_feed ∷ file_lines sorted))

-- a filestore of the users of a script, and of nothing else
abbrev pub begun_by : Script → State
begun_by script = beginning script.users []

-- THE LINES OF A SCRIPT: those of its lives, one after another, each stopped at the call and in the form that it names, and in the end
-- those of the files. All lives are one run of the filestore, with a stop at the end of each.
pub record IsReplayed (script : Script) (printed : List ℕ) : Type 0 where
  pub all : List Lived
  pub live : LiveOn (first_image script.users) (begun_by script) script.lives all
  pub one_run : AreOneRun (episodes_of all) (begun_by script)
  pub sorted : List File
  pub order : IsInOrder (after_all (episodes_of all) (begun_by script)).files sorted
  pub lines : printed ≡ lines_of all ++ files_lines (after_all (episodes_of all) (begun_by script)).files sorted

-- WHAT IS PRINTED. Nothing is, where the input fails or memory is wanting; a script with a bad line isn't run.
abbrev pub PrintsScript : Script → (status : ℕ) → Option (List ℕ) → Option (List ℕ) → Type 0
PrintsScript script status old new = (printed : List ℕ) × (IsReplayed script printed × Prints (4 ∷ []) (record { octets = printed; status = 0 }) status old new)

abbrev pub PrintsTold : Result Script ℕ → (status : ℕ) → Option (List ℕ) → Option (List ℕ) → Type 0
PrintsTold (Ok script) status old new = PrintsScript script status old new
PrintsTold (Err number) status old new = Prints (4 ∷ []) (record { octets = bad_line number; status = 11 }) status old new

abbrev pub PrintsReplay : List ℕ → (status : ℕ) → Option (List ℕ) → Option (List ℕ) → Type 0
PrintsReplay octets status old new = (IsOneOf (3 ∷ 9 ∷ []) status × Wrote [] old new) ⊎ PrintsTold (told_by octets) status old new

-- the same, without what the input tells
abbrev pub OrNothing : (status : ℕ) → (old new : Option (List ℕ)) → Type 0 → Type 0
OrNothing status old new prints = ((status ≡ 9) × Wrote [] old new) ⊎ prints

abbrev pub EndsReplay : ℕ → Type 0
EndsReplay status = IsOneOf (0 ∷ 3 ∷ 4 ∷ 9 ∷ 11 ∷ []) status
