-- How the lines of `init` are read, in whatever blocks their octets come.
use Rattle.std.specs.Prelude.{◌≡◌, ◌≢◌, ℕ, ◌+◌, ◌*◌, ◌≤◌, Bool, true, false, All, List, [], ◌++◌, length, Result, Ok, Err}
use Rattle.vf_tables.specs.declared.limits.TheConstants.{MOST_USERS}
use Rattle.vf_tables.specs.declared.user.User.{User}
use Rattle.vf_cli_printing.specs.Printed.{line_feed}
use Rattle.vf_store_commands.specs.UserLines.{lines_of, told_after, users_told}
use Rattle.vf_store_commands.specs.declared.user_lines.Told.{Told}
use Rattle.vf_store_commands.specs.declared.user_lines.Told.TheVariants.{Users, Bad}
use Rattle.vf_store_commands.specs.declared.user_lines.TheConstants.{MOST_LINE_OCTETS}

-- the users of the lines that have ended, and the octets of the line that hasn't
pub record Taken : Type 0 where
  pub users : List User
  pub line : List ℕ

-- octets within a line
abbrev pub IsInLine : List ℕ → Type 0
IsInLine octets = All (λ octet. octet ≢ line_feed) octets

-- No user more than a filestore has, and no octet more than a line has.
pub record IsTaken (taken : Taken) : Type 0 where
  pub line : IsInLine taken.line
  pub short : length taken.line ≤ MOST_LINE_OCTETS
  pub few : length taken.users ≤ MOST_USERS

-- what is told by what was taken and by octets after it
abbrev pub told_with : Taken → List ℕ → Result (List User) ℕ
told_with taken rest = told_after taken.users (lines_of (taken.line ++ rest))

-- Octets were taken, whatever comes after them; or they end or go on a line that is bad.
abbrev pub Takes : Taken → List ℕ → Taken → Bool → Type 0
Takes old octets new true = (rest : List ℕ) → told_with old (octets ++ rest) ≡ told_with new rest
Takes old octets new false = (rest : List ℕ) → told_with old (octets ++ rest) ≡ Err (length new.users + 1)

-- a number that rises with each octet that is taken
abbrev pub progress : Taken → ℕ
progress taken = (MOST_LINE_OCTETS + 1) * length taken.users + length taken.line

abbrev pub most_progress : ℕ
most_progress = (MOST_LINE_OCTETS + 1) * MOST_USERS + MOST_LINE_OCTETS

-- what is told where the input ends after a line that has an octet at least: the user of the line too, or that it is bad
abbrev pub EndsWith : Taken → Taken → Bool → Type 0
EndsWith old new true = (told_with old [] ≡ Ok new.users) × (new.line ≡ [])
EndsWith old new false = told_with old [] ≡ Err (length new.users + 1)

-- what is told where the input ends
abbrev pub Ends : Taken → Told → Type 0
Ends taken (Users users) = told_with taken [] ≡ Ok users
Ends taken (Bad number) = told_with taken [] ≡ Err number

abbrev pub IsUsers : Told → Type 0
IsUsers (Users users) = Unit {0}
IsUsers (Bad number) = ⊥

-- of an input of these octets: its users, or the number of its first bad line
abbrev pub Tells : List ℕ → Told → Type 0
Tells octets (Users users) = users_told octets ≡ Ok users
Tells octets (Bad number) = users_told octets ≡ Err number
