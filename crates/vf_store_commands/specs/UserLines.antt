-- The lines of the input of `init` (profile): each tells a user, by its identity alone, or by its identity, a tab and its
-- password. The line feed of the last one may be missing.
use Rattle.std.specs.Prelude.{ℕ, ◌==◌, ◌+◌, Bool, true, ◌&&◌, not, nat_eq, nat_le, nat_lt, List, [], ◌∷◌, ◌++◌, length, take, drop, Option, Some, None, Result, Ok, Err, if◌then◌else◌}
use Rattle.std.specs.List.{list_any, position}
use Rattle.vf_base.specs.Name.{is_name}
use Rattle.vf_tables.specs.Entries.{is_user}
use Rattle.vf_tables.specs.declared.limits.TheConstants.{MOST_PASSWORD_OCTETS, MOST_USERS}
use Rattle.vf_tables.specs.declared.user.User.{User}
use Rattle.vf_cli_printing.specs.Printed.{line_feed}

-- an octet more at the begin of the first line
abbrev pub octet_before : ℕ → List (List ℕ) → List (List ℕ)
octet_before octet [] = (octet ∷ []) ∷ []
octet_before octet (line ∷ lines) = (octet ∷ line) ∷ lines

-- the lines of some octets, without their line feeds
abbrev pub lines_of : List ℕ → List (List ℕ)
lines_of [] = []
lines_of (octet ∷ octets) = if nat_eq octet line_feed then [] ∷ lines_of octets else octet_before octet (lines_of octets)

abbrev pub tab : ℕ
tab = 9

-- what stands before the first tab of a line, and what stands after it, where there is one
pub record Parted : Type 0 where
  pub before : List ℕ
  pub after : Option (List ℕ)

abbrev pub parted_at : List ℕ → Option ℕ → Parted
parted_at line None = record { before = line; after = None }
parted_at line (Some place) = record { before = take place line; after = Some (drop (place + 1) line) }

abbrev pub parted : List ℕ → Parted
parted line = parted_at line (position (λ octet. octet == tab) line)

-- a password that is given has 1 to 255 octets
abbrev pub is_password : Option (List ℕ) → Bool
is_password None = true
is_password (Some octets) = nat_le 1 (length octets) && nat_le (length octets) MOST_PASSWORD_OCTETS

-- the user that a line tells, if it tells one
abbrev pub user_told : List ℕ → Option User
user_told line =
    if is_name (parted line).before && is_password (parted line).after
    then Some (record { identity = (parted line).before; password = (parted line).after })
    else None

-- a user may stand after others where these are fewer than a filestore may have, and none of them has its identity
abbrev pub may_join : List User → User → Bool
may_join users user = nat_lt (length users) MOST_USERS && not (list_any (is_user user.identity) users)

-- what comes of a line: the users with one more, or a bad line of this number
abbrev pub joined : List User → Option User → Result (List User) ℕ
joined users None = Err (length users + 1)
joined users (Some user) = if may_join users user then Ok (users ++ user ∷ []) else Err (length users + 1)

-- what a list of users leads to, where no bad line came
abbrev pub and_then : Result (List User) ℕ → (List User → Result (List User) ℕ) → Result (List User) ℕ
and_then (Ok users) next = next users
and_then (Err number) next = Err number

-- what lines tell after these users: each tells one more. Where one is bad its number is told, counted from 1.
abbrev pub told_after : List User → List (List ℕ) → Result (List User) ℕ
told_after users [] = Ok users
told_after users (line ∷ lines) = and_then (joined users (user_told line)) (λ more. told_after more lines)

-- the users whom an input tells, or the number of its first bad line
abbrev pub users_told : List ℕ → Result (List User) ℕ
users_told octets = told_after [] (lines_of octets)
