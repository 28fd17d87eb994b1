-- What an input says, line by line.
use Rattle.std.proofs.Common.{◌≡◌, ◌≢◌, ℕ, suc, ◌+◌, ◌<◌, ◌≤◌, List, [], ◌∷◌, ◌++◌, length, refl, sym, ap, ◌∙◌, arith, subst, append_assoc, length-append, inl, inr}
use Rattle.std.specs.Prelude.{Bool, true, false, nat_le, ◌⊎◌, if◌then◌else◌, Some, None}
use Rattle.std.proofs.lemmas.Bool.{ne_eqb, lt-leb}
use Rattle.std.proofs.lemmas.List.Elements.{All-append, All-cons, All-head, All-nil, All-tail}
use Rattle.vf_cli_dialogue.specs.Hex.{octets_of}
use Rattle.vf_cli_dialogue.specs.Reader.{IsStray}
use Rattle.vf_cli_dialogue.proofs.HexLemmas.{octets_of-stray}
use Rattle.vf_cli_dialogue.specs.Lines.{line_feed, input_limit, Cut, octet_before, cut, IsInLine, bad_at, piece_before, piece_of, line_before, lines_say, says_from}

head_in_line : (octet : ℕ) (octets : List ℕ) → IsInLine (octet ∷ octets) → octet ≢ line_feed
head_in_line octet octets in_line = All-head (λ octet. octet ≢ line_feed) octet octets in_line

tail_in_line : (octet : ℕ) (octets : List ℕ) → IsInLine (octet ∷ octets) → IsInLine octets
tail_in_line octet octets in_line = All-tail (λ octet. octet ≢ line_feed) octet octets in_line

cut_step : (octet : ℕ) (octets : List ℕ) → octet ≢ line_feed →
    cut (octet ∷ octets) ≡ octet_before octet (cut octets).lines (cut octets).rest
cut_step octet octets other =
    ap (λ feed. if feed then record { lines = [] ∷ (cut octets).lines; rest = (cut octets).rest }
    else octet_before octet (cut octets).lines (cut octets).rest) (ne_eqb octet line_feed other)

cut_feed : (line rest : List ℕ) → IsInLine line →
    cut (line ++ line_feed ∷ rest) ≡ record { lines = line ∷ (cut rest).lines; rest = (cut rest).rest }
cut_feed [] rest in_line = refl
cut_feed (octet ∷ line) rest in_line =
    cut_step octet (line ++ line_feed ∷ rest) (head_in_line octet line in_line)
    ∙ ap (λ (c : Cut). octet_before octet c.lines c.rest) (cut_feed line rest (tail_in_line octet line in_line))

cut_rest : (octets : List ℕ) → IsInLine octets → cut octets ≡ record { lines = []; rest = octets }
cut_rest [] in_line = refl
cut_rest (octet ∷ octets) in_line =
    cut_step octet octets (head_in_line octet octets in_line)
    ∙ ap (λ (c : Cut). octet_before octet c.lines c.rest) (cut_rest octets (tail_in_line octet octets in_line))

-- the octets before the first line feed, or all
first_length : List (List ℕ) → List ℕ → ℕ
first_length [] rest = length rest
first_length (line ∷ lines) rest = length line

grows : (octet : ℕ) (lines : List (List ℕ)) (rest : List ℕ) →
    first_length (octet_before octet lines rest).lines (octet_before octet lines rest).rest ≡ suc (first_length lines rest)
unfolding first_length
grows octet [] rest = refl
grows octet (line ∷ lines) rest = refl

first_within : (prefix rest : List ℕ) → IsInLine prefix →
    length prefix ≤ first_length (cut (prefix ++ rest)).lines (cut (prefix ++ rest)).rest
first_within [] rest in_line = omega arith
first_within (octet ∷ prefix) rest in_line =
    let below = first_within prefix rest (tail_in_line octet prefix in_line) in
    let after : Cut = cut (prefix ++ rest) in
    let more = grows octet after.lines after.rest in
    let P : Cut → Type 0 = λ c. suc (length prefix) ≤ first_length c.lines c.rest in
    subst P (sym (cut_step octet (prefix ++ rest) (head_in_line octet prefix in_line))) (omega arith)

says_line : (count number : ℕ) (line rest : List ℕ) → IsInLine line →
    says_from count number (line ++ line_feed ∷ rest)
    ≡ line_before (piece_of (count + length line + 1) line) number (says_from (count + length line + 1) (number + 1) rest)
says_line count number line rest in_line =
    ap (λ (c : Cut). lines_say count number c.lines c.rest) (cut_feed line rest in_line)

pub says_piece : (count number : ℕ) (line rest piece : List ℕ) → IsInLine line →
    piece_of (count + length line + 1) line ≡ Some piece →
    says_from count number (line ++ line_feed ∷ rest) ≡ piece_before piece (says_from (count + length line + 1) (number + 1) rest)
says_piece count number line rest piece in_line good =
    says_line count number line rest in_line
    ∙ ap (λ p. line_before p number (says_from (count + length line + 1) (number + 1) rest)) good

pub says_bad : (count number : ℕ) (line rest : List ℕ) → IsInLine line →
    piece_of (count + length line + 1) line ≡ None → says_from count number (line ++ line_feed ∷ rest) ≡ bad_at number
says_bad count number line rest in_line bad =
    says_line count number line rest in_line
    ∙ ap (λ p. line_before p number (says_from (count + length line + 1) (number + 1) rest)) bad

rest_is_bad : (count number : ℕ) (rest : List ℕ) → 0 < length rest → lines_say count number [] rest ≡ bad_at number
rest_is_bad count number [] some = absurd (omega arith)
rest_is_bad count number (octet ∷ octets) some = refl

pub says_rest : (count number : ℕ) (octets : List ℕ) → IsInLine octets → 0 < length octets →
    says_from count number octets ≡ bad_at number
says_rest count number octets in_line some =
    ap (λ (c : Cut). lines_say count number c.lines c.rest) (cut_rest octets in_line) ∙ rest_is_bad count number octets some

pub long_is_bad : (count : ℕ) (line : List ℕ) → input_limit < count → piece_of count line ≡ None
long_is_bad count [] long = refl
long_is_bad count (digit ∷ digits) long =
    ap (λ within. if within then octets_of (digit ∷ digits) else None) (lt-leb count input_limit long)

first_is_long : (count number room : ℕ) (lines : List (List ℕ)) (rest : List ℕ) →
    count + room ≡ input_limit → room < first_length lines rest → lines_say count number lines rest ≡ bad_at number
unfolding first_length
first_is_long count number room [] rest limit long = rest_is_bad count number rest (omega arith)
first_is_long count number room (line ∷ lines) rest limit long =
    ap (λ p. line_before p number (lines_say (count + length line + 1) (number + 1) lines rest))
    (long_is_bad (count + length line + 1) line (omega arith))

-- the line that begins with these octets ends after the limit, or not at all
pub says_long : (count number room : ℕ) (prefix rest : List ℕ) → IsInLine prefix →
    count + room ≡ input_limit → room < length prefix → says_from count number (prefix ++ rest) ≡ bad_at number
says_long count number room prefix rest in_line limit long =
    let within = first_within prefix rest in_line in
    first_is_long count number room (cut (prefix ++ rest)).lines (cut (prefix ++ rest)).rest limit (omega arith)

-- octets within a line are before the first line, or before all
abbrev before_first : List ℕ → List (List ℕ) → List ℕ → Cut
before_first prefix [] rest = record { lines = []; rest = prefix ++ rest }
before_first prefix (line ∷ lines) rest = record { lines = (prefix ++ line) ∷ lines; rest = rest }

before_more : (octet : ℕ) (prefix : List ℕ) (lines : List (List ℕ)) (rest : List ℕ)
    → octet_before octet (before_first prefix lines rest).lines (before_first prefix lines rest).rest ≡ before_first (octet ∷ prefix) lines rest
before_more octet prefix [] rest = refl
before_more octet prefix (line ∷ lines) rest = refl

before_none : (lines : List (List ℕ)) (rest : List ℕ) → record { lines = lines; rest = rest } ≡ before_first [] lines rest
before_none [] rest = refl
before_none (line ∷ lines) rest = refl

cut-append : (prefix rest : List ℕ) → IsInLine prefix → cut (prefix ++ rest) ≡ before_first prefix (cut rest).lines (cut rest).rest
cut-append [] rest in_line = before_none (cut rest).lines (cut rest).rest
cut-append (octet ∷ prefix) rest in_line =
    cut_step octet (prefix ++ rest) (head_in_line octet prefix in_line)
    ∙ ap (λ (c : Cut). octet_before octet c.lines c.rest) (cut-append prefix rest (tail_in_line octet prefix in_line))
    ∙ before_more octet prefix (cut rest).lines (cut rest).rest

pub none_within : (count : ℕ) (line : List ℕ) → octets_of line ≡ None → piece_of count line ≡ None
none_within count [] bad = refl
none_within count (digit ∷ digits) bad = by (nat_le count input_limit)
  where
    by : (within : Bool) → (if within then octets_of (digit ∷ digits) else None) ≡ None
    by true = bad
    by false = refl

-- a line with an octet that is no digit is bad, whatever comes after it
pub says_stray : (count number : ℕ) (digits : List ℕ) (stray : ℕ) (rest : List ℕ) → IsInLine digits → IsStray stray
    → says_from count number (digits ++ stray ∷ rest) ≡ bad_at number
says_stray count number digits stray rest in_line is_stray =
    let prefix : List ℕ = digits ++ stray ∷ [] in
    let feedless : IsInLine prefix =
    All-append (λ octet. octet ≢ line_feed) digits (stray ∷ []) in_line (All-cons (λ octet. octet ≢ line_feed) stray [] is_stray.1 (All-nil (λ octet. octet ≢ line_feed))) in
    ap (λ (l : List ℕ). says_from count number l) (sym (append_assoc digits (stray ∷ []) rest))
    ∙ ap (λ (c : Cut). lines_say count number c.lines c.rest) (cut-append prefix rest feedless)
    ∙ by (cut rest).lines (cut rest).rest
  where
    by : (lines : List (List ℕ)) (left : List ℕ)
        → lines_say count number (before_first (digits ++ stray ∷ []) lines left).lines (before_first (digits ++ stray ∷ []) lines left).rest ≡ bad_at number
    by [] left = rest_is_bad count number ((digits ++ stray ∷ []) ++ left) (omega (arith, length-append (digits ++ stray ∷ []) left, length-append digits (stray ∷ [])))
    by (line ∷ lines) left =
        let whole : List ℕ = (digits ++ stray ∷ []) ++ line in
        let bad : octets_of whole ≡ None = ap octets_of (append_assoc digits (stray ∷ []) line) ∙ octets_of-stray digits stray line is_stray.0 in
        ap (λ p. line_before p number (lines_say (count + length whole + 1) (number + 1) lines left)) (none_within (count + length whole + 1) whole bad)

-- the piece of a line whose digits spell octets
pub piece_of-spelled : (count : ℕ) (line piece : List ℕ) → count ≤ input_limit → 0 < length line → octets_of line ≡ Some piece → piece_of count line ≡ Some piece
piece_of-spelled count [] piece within some spells = absurd (omega arith)
piece_of-spelled count (digit ∷ digits) piece within some spells =
    let fits : nat_le count input_limit ≡ true = grind (arith, within) in
    ap (λ within. if within then octets_of (digit ∷ digits) else None) fits ∙ spells

pub piece_of-none : (count : ℕ) (line : List ℕ) → (line ≡ []) ⊎ (octets_of line ≡ None) → piece_of count line ≡ None
piece_of-none count line (inl none) = ap (piece_of count) none
piece_of-none count line (inr none) = none_within count line none
