-- What a reader of lines answers at each place where its search ends.
use Rattle.std.proofs.Common.{◌≡◌, ℕ, ◌+◌, ◌<◌, List, [], ◌∷◌, ◌++◌, length, drop, refl, sym, ap, ◌∙◌, subst, append_assoc, append-nil, inl, inr}
use Rattle.std.specs.Prelude.{Option, Some, None, option_map, IfSome, Result, Ok}
use Rattle.vf_cli_dialogue.specs.Lines.{line_feed, input_limit, IsInLine, Input, piece_of, says_from}
use Rattle.vf_cli_dialogue.specs.Reader.{Place, with_prefix, will_say, Answers, Finds, Stops}
use Rattle.vf_cli_dialogue.specs.declared.block.Stop.TheVariants as stops
use Rattle.vf_cli_dialogue.specs.declared.lines.Found.TheVariants as found
use Rattle.vf_cli_dialogue.specs.declared.lines.NextLine.{NextLine}
use Rattle.vf_cli_dialogue.specs.declared.lines.NextLine.TheVariants.{Piece, Bad, End}
use Rattle.vf_cli_dialogue.specs.declared.lines.LineError.{LineError}
use Rattle.vf_cli_dialogue.proofs.InputLemmas.{says_piece, says_bad, says_rest, says_long, says_stray}

-- a reader answers what it would have answered before octets were moved
pub answers_as : (old : Place) (count number : ℕ) (ahead moved : List ℕ) (left left' : Option (List ℕ)) (new : Option Input)
    (piece : List ℕ) (result : Result NextLine LineError) →
    record { count = count; number = number; ahead = ahead } ≡ old →
    with_prefix moved left' ≡ with_prefix ahead left →
    Answers (will_say (record { count = count; number = number; ahead = moved }) left') new piece result →
    Answers (will_say old left) new piece result
answers_as old count number ahead moved left left' new piece result is_old same answers =
    let P : Option Input → Type 0 = λ said. Answers said new piece result in
    subst P (ap (option_map (says_from count number)) same ∙ ap (λ (p : Place). will_say p left) is_old) answers

pub answers_long : (count number room : ℕ) (line block : List ℕ) (left : Option (List ℕ)) (piece : List ℕ) →
    IsInLine line → count + room ≡ input_limit → room < length line →
    Answers (will_say (record { count = count; number = number; ahead = line ++ block }) left)
    (will_say (record { count = count; number = number; ahead = line ++ block }) left) piece (Ok (Bad number))
answers_long count number room line block None piece in_line limit long = refl
answers_long count number room line block (Some left) piece in_line limit long = (
  refl,
  ap (says_from count number) (append_assoc line block left)
      ∙ says_long count number room line (block ++ left) in_line limit long,
)

-- nothing stands after the line
nothing_after : (line block left : List ℕ) → block ≡ [] → left ≡ [] → line ++ block ++ left ≡ line
nothing_after line block left no_block none_left =
    ap (λ (xs : List ℕ). line ++ xs ++ left) no_block ∙ (ap (λ (xs : List ℕ). line ++ [] ++ xs) none_left
    ∙ (append-nil (line ++ []) ∙ append-nil line))

pub answers_end : (count number : ℕ) (line block : List ℕ) (left : Option (List ℕ)) (piece : List ℕ) →
    line ≡ [] → block ≡ [] → IfSome left (λ octets. octets ≡ []) →
    Answers (will_say (record { count = count; number = number; ahead = line ++ block }) left)
    (will_say (record { count = count; number = number; ahead = line ++ block }) left) piece (Ok End)
answers_end count number line block None piece no_line no_block none_left = refl
answers_end count number line block (Some left) piece no_line no_block none_left =
    (refl, ap (says_from count number) (nothing_after line block left no_block none_left ∙ no_line))

pub answers_rest : (count number : ℕ) (line block : List ℕ) (left : Option (List ℕ)) (piece : List ℕ) →
    IsInLine line → 0 < length line → block ≡ [] → IfSome left (λ octets. octets ≡ []) →
    Answers (will_say (record { count = count; number = number; ahead = line ++ block }) left)
    (will_say (record { count = count; number = number; ahead = line ++ block }) left) piece (Ok (Bad number))
answers_rest count number line block None piece in_line some no_block none_left = refl
answers_rest count number line block (Some left) piece in_line some no_block none_left = (
  refl,
  ap (says_from count number) (nothing_after line block left no_block none_left)
      ∙ says_rest count number line in_line some,
)

feed_after : (line block rest left : List ℕ) → block ≡ line_feed ∷ rest → line ++ block ++ left ≡ line ++ line_feed ∷ (rest ++ left)
feed_after line block rest left is_block =
    ap (λ (xs : List ℕ). line ++ xs ++ left) is_block ∙ append_assoc line (line_feed ∷ rest) left

pub answers_stray : (count number : ℕ) (digits block : List ℕ) (left : Option (List ℕ)) (piece : List ℕ) → IsInLine digits → Stops stops.Other block
    → Answers (will_say (record { count = count; number = number; ahead = digits ++ block }) left)
    (will_say (record { count = count; number = number; ahead = digits ++ block }) left) piece (Ok (Bad number))
answers_stray count number digits block None piece in_line stray = refl
answers_stray count number digits block (Some left) piece in_line stray = (
  refl,
  ap (says_from count number) (ap (λ (l : List ℕ). digits ++ l ++ left) stray.2 ∙ append_assoc digits (stray.0 ∷ stray.1) left)
      ∙ says_stray count number digits stray.0 (stray.1 ++ left) in_line stray.3,
)

-- a line that is found to be bad
pub answers_found : (count number room : ℕ) (digits block : List ℕ) (left : Option (List ℕ)) (piece : List ℕ) → IsInLine digits → count + room ≡ input_limit
    → Finds room digits block left found.Bad
    → Answers (will_say (record { count = count; number = number; ahead = digits ++ block }) left)
    (will_say (record { count = count; number = number; ahead = digits ++ block }) left) piece (Ok (Bad number))
answers_found count number room digits block left piece in_line limit (inl long) = answers_long count number room digits block left piece in_line limit long
answers_found count number room digits block left piece in_line limit (inr (inl stray)) = answers_stray count number digits block left piece in_line stray
answers_found count number room digits block left piece in_line limit (inr (inr rest)) =
    answers_rest count number digits block left piece in_line rest.0 (rest.1).0 (rest.1).1

pub answers_bad : (count number : ℕ) (line block : List ℕ) (left : Option (List ℕ)) (piece : List ℕ) →
    IsInLine line → Stops stops.Feed block → piece_of (count + length line + 1) line ≡ None →
    Answers (will_say (record { count = count; number = number; ahead = line ++ block }) left)
    (will_say (record { count = count; number = number; ahead = line ++ block }) left) piece (Ok (Bad number))
answers_bad count number line block None piece in_line feed bad = refl
answers_bad count number line block (Some left) piece in_line (rest, is_block) bad = (
  refl,
  ap (says_from count number) (feed_after line block rest left is_block)
      ∙ says_bad count number line (rest ++ left) in_line bad,
)

pub answers_piece : (count number : ℕ) (line block : List ℕ) (left : Option (List ℕ)) (piece none after : List ℕ) →
    IsInLine line → Stops stops.Feed block → piece_of (count + length line + 1) line ≡ Some piece → none ≡ [] → after ≡ drop 1 block →
    Answers (will_say (record { count = count; number = number; ahead = line ++ block }) left)
    (will_say (record { count = count + length line + 1; number = number + 1; ahead = none ++ after }) left) piece (Ok Piece)
answers_piece count number line block None piece none after in_line feed good no_line is_after = refl
answers_piece count number line block (Some left) piece none after in_line (rest, is_block) good no_line is_after =
    let says = says_from (count + length line + 1) (number + 1) in
    let ahead : none ++ after ≡ rest =
    ap (λ (xs : List ℕ). xs ++ after) no_line ∙ (is_after ∙ ap (drop 1) is_block) in (
      says (rest ++ left),
      ap (λ (xs : List ℕ). Some (says (xs ++ left))) ahead,
      ap (says_from count number) (feed_after line block rest left is_block)
          ∙ says_piece count number line (rest ++ left) piece in_line good,
    )

pub answers_piece_of : (count number len : ℕ) (line block : List ℕ) (left : Option (List ℕ)) (piece none after : List ℕ) →
    IsInLine line → Stops stops.Feed block → len ≡ length line → piece_of (count + length line + 1) line ≡ Some piece →
    none ≡ [] → after ≡ drop 1 block →
    Answers (will_say (record { count = count; number = number; ahead = line ++ block }) left)
    (will_say (record { count = count + len + 1; number = number + 1; ahead = none ++ after }) left) piece (Ok Piece)
answers_piece_of count number len line block left piece none after in_line feed is_len good no_line is_after =
    let P : ℕ → Type 0 = λ n.
    Answers (will_say (record { count = count; number = number; ahead = line ++ block }) left)
    (will_say (record { count = count + n + 1; number = number + 1; ahead = none ++ after }) left) piece (Ok Piece) in
    subst P (sym is_len) (answers_piece count number line block left piece none after in_line feed good no_line is_after)
