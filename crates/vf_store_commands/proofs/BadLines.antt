-- Which lines tell no user, and what comes of a line.
use Rattle.std.specs.Prelude.{◌==◌, ◌&&◌, if◌then◌else◌}
use Rattle.std.proofs.Common.{◌≡◌, ℕ, ◌+◌, ◌<◌, ◌≤◌, Bool, true, false, List, [], ◌∷◌, ◌++◌, length, length-append, Option, Some, None, Result, Ok, Err, ap, ◌∙◌, refl, arith}
use Rattle.std.proofs.lemmas.Bool.Decides.{nat_tests}
use Rattle.std.proofs.lemmas.List.{append-nil, length-drop, length-take}
use Rattle.std.specs.List.{position}
use Rattle.vf_base.specs.Name.{is_name}
use Rattle.vf_tables.specs.declared.user.User.{User}
use Rattle.vf_cli_printing.specs.Printed.{line_feed}
use Rattle.vf_store_commands.specs.Reading.{IsInLine}
use Rattle.vf_store_commands.specs.UserLines.{Parted, and_then, is_password, joined, lines_of, may_join, parted, parted_at, tab, told_after, user_told}
use Rattle.vf_store_commands.proofs.Lines.{lines_begin, lines_end, lines_last}

size_after : Option (List ℕ) → ℕ
size_after None = 0
size_after (Some octets) = length octets + 1

size_of : Parted → ℕ
size_of parts = length parts.before + size_after parts.after

no_longer_at : (line : List ℕ) (place : Option ℕ) → length line ≤ size_of (parted_at line place)
unfolding size_of size_after
no_longer_at line None = omega arith
no_longer_at line (Some place) = omega (arith, length-take {A = ℕ}, length-drop {A = ℕ})

no_longer : (line : List ℕ) → length line ≤ size_of (parted line)
no_longer line = no_longer_at line (position (λ octet. octet == tab) line)

pub name_short : (octets : List ℕ) → is_name octets ≡ true → length octets ≤ 255
name_short octets is = grind (arith, nat_tests)

pub password_short : (octets : List ℕ) → is_password (Some octets) ≡ true → length octets ≤ 255
password_short octets is = grind (arith, nat_tests)

too_long : (before : List ℕ) (after : Option (List ℕ)) → 511 < length before + size_after after → is_name before ≡ true → is_password after ≡ true → ⊥
unfolding size_after
too_long before None long name password = let short = name_short before name in omega arith
too_long before (Some octets) long name password =
    let short = name_short before name in
    let few = password_short octets password in omega arith

not_both : (a b : Bool) → (a ≡ true → b ≡ true → ⊥) → (a && b) ≡ false
not_both true true never = absurd (never refl refl)
not_both true false never = refl
not_both false b never = refl

-- a line of more octets than a name, a tab and a password tells none
long_tells_none : (line : List ℕ) → 511 < length line → user_told line ≡ None
unfolding size_of
long_tells_none line long =
    let more = no_longer line in
    let bad : (is_name (parted line).before && is_password (parted line).after) ≡ false =
    not_both (is_name (parted line).before) (is_password (parted line).after) (too_long (parted line).before (parted line).after (omega arith)) in
    ap (λ (b : Bool). let told : Option User = if b then Some (record { identity = (parted line).before; password = (parted line).after }) else None in told) bad

module _ (users : List User) where
  bad_first : (line : List ℕ) (lines : List (List ℕ)) → user_told line ≡ None → told_after users (line ∷ lines) ≡ Err (length users + 1)
  bad_first line lines none = ap (λ (o : Option User). and_then (joined users o) (λ more. told_after more lines)) none

  -- a line that goes on past its limit is bad, whatever follows
  pub goes_too_far : (line : List ℕ) (octet : ℕ) (rest : List ℕ) → IsInLine line → (octet ≡ line_feed → ⊥) → 511 ≤ length line
      → told_after users (lines_of (line ++ octet ∷ rest)) ≡ Err (length users + 1)
  goes_too_far line octet rest in_line other long =
      let begins = lines_begin line octet rest in_line other in
      let first : List ℕ = (line ++ octet ∷ []) ++ begins.more in
      let count = length-append (line ++ octet ∷ []) begins.more in
      let few = length-append line (octet ∷ []) in
      ap (told_after users) begins.is ∙ bad_first first begins.later (long_tells_none first (omega arith))

  module _ (line : List ℕ) (in_line : IsInLine line) where
    ends_so : (rest : List ℕ) → told_after users (lines_of (line ++ line_feed ∷ rest)) ≡ and_then (joined users (user_told line)) (λ more. told_after more (lines_of rest))
    ends_so rest = ap (told_after users) (lines_end line rest in_line)

    last_so : (line ≡ [] → ⊥) → told_after users (lines_of (line ++ [])) ≡ joined users (user_told line)
    last_so some = ap (λ (l : List ℕ). told_after users (lines_of l)) (append-nil line) ∙ by line in_line some
      where
        only : (answer : Result (List User) ℕ) → and_then answer (λ more. told_after more []) ≡ answer
        only (Ok more) = refl
        only (Err number) = refl

        by : (line : List ℕ) → IsInLine line → (line ≡ [] → ⊥) → told_after users (lines_of line) ≡ joined users (user_told line)
        by [] in_line some = absurd (some refl)
        by (octet ∷ line) in_line some = ap (told_after users) (lines_last octet line in_line) ∙ only (joined users (user_told (octet ∷ line)))

    -- a line that tells no user is bad
    module _ (none : user_told line ≡ None) where
      pub none_ends : (rest : List ℕ) → told_after users (lines_of (line ++ line_feed ∷ rest)) ≡ Err (length users + 1)
      none_ends rest = ends_so rest ∙ ap (λ (o : Option User). and_then (joined users o) (λ more. told_after more (lines_of rest))) none

      pub none_last : (line ≡ [] → ⊥) → told_after users (lines_of (line ++ [])) ≡ Err (length users + 1)
      none_last some = last_so some ∙ ap (joined users) none

    module _ (user : User) (some : user_told line ≡ Some user) where
      joins : (may : Bool) → may_join users user ≡ may → joined users (user_told line) ≡ (let all : Result (List User) ℕ = if may then Ok (users ++ user ∷ []) else Err (length users + 1) in all)
      joins may is = ap (joined users) some ∙ ap (λ (b : Bool). let all : Result (List User) ℕ = if b then Ok (users ++ user ∷ []) else Err (length users + 1) in all) is

      -- so is one of a user that may not stand after the others
      pub refused_ends : may_join users user ≡ false → (rest : List ℕ) → told_after users (lines_of (line ++ line_feed ∷ rest)) ≡ Err (length users + 1)
      refused_ends refused rest = ends_so rest ∙ ap (λ (r : Result (List User) ℕ). and_then r (λ more. told_after more (lines_of rest))) (joins false refused)

      pub refused_last : may_join users user ≡ false → (line ≡ [] → ⊥) → told_after users (lines_of (line ++ [])) ≡ Err (length users + 1)
      refused_last refused filled = last_so filled ∙ joins false refused

      -- any other tells its user
      pub joined_ends : may_join users user ≡ true → (rest : List ℕ) → told_after users (lines_of (line ++ line_feed ∷ rest)) ≡ told_after (users ++ user ∷ []) (lines_of rest)
      joined_ends may rest = ends_so rest ∙ ap (λ (r : Result (List User) ℕ). and_then r (λ more. told_after more (lines_of rest))) (joins true may)

      pub joined_last : may_join users user ≡ true → (line ≡ [] → ⊥) → told_after users (lines_of (line ++ [])) ≡ Ok (users ++ user ∷ [])
      joined_last may filled = last_so filled ∙ joins true may
