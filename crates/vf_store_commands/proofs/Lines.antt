-- How octets fall into lines.
use Rattle.std.specs.Prelude.{if◌then◌else◌}
use Rattle.std.proofs.Common.{◌≡◌, ◌≢◌, ℕ, List, [], ◌∷◌, ◌++◌, ap, ◌∙◌, refl}
use Rattle.std.proofs.lemmas.Bool.{ne_eqb}
use Rattle.std.proofs.lemmas.List.Elements.{All-head, All-tail}
use Rattle.vf_cli_printing.specs.Printed.{line_feed}
use Rattle.vf_store_commands.specs.Reading.{IsInLine}
use Rattle.vf_store_commands.specs.UserLines.{lines_of, octet_before}

head_in_line : (octet : ℕ) (octets : List ℕ) → IsInLine (octet ∷ octets) → octet ≢ line_feed
head_in_line octet octets in_line = All-head (λ octet. octet ≢ line_feed) octet octets in_line

tail_in_line : (octet : ℕ) (octets : List ℕ) → IsInLine (octet ∷ octets) → IsInLine octets
tail_in_line octet octets in_line = All-tail (λ octet. octet ≢ line_feed) octet octets in_line

step : (octet : ℕ) (octets : List ℕ) → octet ≢ line_feed → lines_of (octet ∷ octets) ≡ octet_before octet (lines_of octets)
step octet octets other = ap (λ feed. if feed then [] ∷ lines_of octets else octet_before octet (lines_of octets)) (ne_eqb octet line_feed other)

-- a line feed ends a line
pub lines_end : (line rest : List ℕ) → IsInLine line → lines_of (line ++ line_feed ∷ rest) ≡ line ∷ lines_of rest
lines_end [] rest in_line = refl
lines_end (octet ∷ line) rest in_line =
    step octet (line ++ line_feed ∷ rest) (head_in_line octet line in_line) ∙ ap (octet_before octet) (lines_end line rest (tail_in_line octet line in_line))

-- the last line may have none
pub lines_last : (octet : ℕ) (line : List ℕ) → IsInLine (octet ∷ line) → lines_of (octet ∷ line) ≡ (octet ∷ line) ∷ []
lines_last octet [] in_line = step octet [] (head_in_line octet [] in_line)
lines_last octet (next ∷ line) in_line =
    step octet (next ∷ line) (head_in_line octet (next ∷ line) in_line)
    ∙ ap (octet_before octet) (lines_last next line (tail_in_line octet (next ∷ line) in_line))

-- the first line begins with all octets before the first line feed
pub record Begins (prefix : List ℕ) (lines : List (List ℕ)) : Type 0 where
  pub more : List ℕ
  pub later : List (List ℕ)
  pub is : lines ≡ (prefix ++ more) ∷ later

one_before : (octet : ℕ) (lines : List (List ℕ)) → Begins (octet ∷ []) (octet_before octet lines)
one_before octet [] = record { more = []; later = []; is = refl }
one_before octet (line ∷ lines) = record { more = line; later = lines; is = refl }

begins_step : (octet : ℕ) (line : List ℕ) (lines all : List (List ℕ)) → all ≡ octet_before octet lines → Begins line lines → Begins (octet ∷ line) all
begins_step octet line lines all is begins = record { more = begins.more; later = begins.later; is = is ∙ ap (octet_before octet) begins.is }

pub lines_begin : (line : List ℕ) (octet : ℕ) (rest : List ℕ) → IsInLine line → octet ≢ line_feed → Begins (line ++ octet ∷ []) (lines_of (line ++ octet ∷ rest))
lines_begin [] octet rest in_line other =
    let first = one_before octet (lines_of rest) in record { more = first.more; later = first.later; is = step octet rest other ∙ first.is }
lines_begin (head ∷ line) octet rest in_line other =
    begins_step head (line ++ octet ∷ []) (lines_of (line ++ octet ∷ rest)) (lines_of (head ∷ (line ++ octet ∷ rest)))
    (step head (line ++ octet ∷ rest) (head_in_line head line in_line)) (lines_begin line octet rest (tail_in_line head line in_line) other)
