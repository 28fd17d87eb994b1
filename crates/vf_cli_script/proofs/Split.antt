-- How an input falls into lines, and a line into words.
use Rattle.std.proofs.Common.{◌≡◌, ◌<◌, ◌≤◌, ℕ, zero, suc, ◌+◌, Bool, true, false, List, [], ◌∷◌, ◌++◌, length, map, take, drop, get_or, Bor, ap, ◌∙◌, refl, sym, arith, append_assoc, length-append, None, Some}
use Rattle.std.specs.List.{onto_first, position, position_or_len, slice_split}
use Rattle.std.proofs.lemmas.List.Quantifiers.{position-Some}
use Rattle.std.proofs.lemmas.Grind.{common_steps}
use Rattle.std.proofs.lemmas.List.{drop-drop, length-map, map-append}
use Rattle.std.proofs.lemmas.List.Splits.{length-slice_split, slice_split-cons_no, slice_split-cons_yes}
use Rattle.std.proofs.lemmas.List.Sums.{fails_before_first}
use Rattle.vf_cli_script.specs.Words.{is_space, words_of}

-- ---- octets between those that pass a test

module _ (ends : ℕ → Bool) where
  split_at : (line : List ℕ) (place : ℕ) → place < length line → ends (get_or line place 0) ≡ true → ((k : ℕ) → k < place → ends (get_or line k 0) ≡ false)
      → slice_split ends line ≡ take place line ∷ slice_split ends (drop (place + 1) line)
  split_at [] place within at before = absurd (omega (arith, within))
  split_at (octet ∷ octets) zero within at before = slice_split-cons_yes ends octet octets at
  split_at (octet ∷ octets) (suc place) within at before =
      let later = split_at octets place (omega (arith, within)) at (λ k low. before (suc k) (omega (arith, low))) in
      let next : suc (place + 1) ≡ suc place + 1 = omega arith in
      slice_split-cons_no ends octet octets (before 0 (omega arith)) ∙ ap (onto_first octet) later ∙ ap (λ (n : ℕ). (octet ∷ take place octets) ∷ slice_split ends (drop n (octet ∷ octets))) next

  -- the part before the first that passes, and those after it
  pub split_more : (line : List ℕ) (place : ℕ) → position ends line ≡ Some place → slice_split ends line ≡ take place line ∷ slice_split ends (drop (place + 1) line)
  split_more line place is = let found = position-Some ends line place 0 is in split_at line place found.0 found.1 found.2

  one_part : (line : List ℕ) → ((k : ℕ) → k < length line → ends (get_or line k 0) ≡ false) → slice_split ends line ≡ line ∷ []
  one_part [] none = refl
  one_part (octet ∷ octets) none = slice_split-cons_no ends octet octets (none 0 (omega arith)) ∙ ap (onto_first octet) (one_part octets (λ k low. none (suc k) (omega (arith, low))))

  none_ends : (line : List ℕ) → position ends line ≡ None → (k : ℕ) → k < length line → ends (get_or line k 0) ≡ false
  none_ends line is k low =
      let all : length line ≤ position_or_len ends line = grind (arith, common_steps) in
      fails_before_first ends line k 0 (omega (arith, all, low))

  -- octets of which none passes are one part
  pub split_last : (line : List ℕ) → position ends line ≡ None → slice_split ends line ≡ line ∷ []
  split_last line is = one_part line (none_ends line is)

  pub some_parts : (line : List ℕ) → 0 < length (slice_split ends line)
  some_parts line = omega (arith, length-slice_split ends line)

-- ---- the words so far, behind references, and those to come

abbrev pub behind : List (Bor (List ℕ)) → List (List ℕ)
behind words = map (λ (word : Bor (List ℕ)). word.now) words

pub more_words : (line rest : List ℕ) (words pushed : List (Bor (List ℕ))) (word : Bor (List ℕ)) (place : ℕ) (between later : List ℕ)
    → words_of line ≡ behind words ++ words_of rest → Some place ≡ position is_space rest → pushed ≡ words ++ word ∷ [] → word.now ≡ take place rest → between ≡ drop place rest
    → later ≡ drop 1 between → words_of line ≡ behind pushed ++ words_of later
more_words line rest words pushed word place between later so_far found push front back skip =
    let one : behind pushed ≡ behind words ++ take place rest ∷ [] = ap behind push ∙ map-append (λ (w : Bor (List ℕ)). w.now) words (word ∷ []) ∙ ap (λ (w : List ℕ). behind words ++ w ∷ []) front in
    let after : later ≡ drop (place + 1) rest = skip ∙ ap (drop 1) back ∙ drop-drop 1 place rest in
    so_far ∙ ap (λ (l : List (List ℕ)). behind words ++ l) (split_more is_space rest place (sym found) ∙ ap (λ (l : List ℕ). take place rest ∷ words_of l) (sym after))
    ∙ sym (append_assoc (behind words) (take place rest ∷ []) (words_of later)) ∙ ap (λ (l : List (List ℕ)). l ++ words_of later) (sym one)

pub last_word : (line : List ℕ) (rest : Bor (List ℕ)) (words pushed : List (Bor (List ℕ))) → words_of line ≡ behind words ++ words_of rest.now → position is_space rest.now ≡ None
    → pushed ≡ words ++ rest ∷ [] → words_of line ≡ behind pushed
last_word line rest words pushed so_far none push =
    so_far ∙ ap (λ (l : List (List ℕ)). behind words ++ l) (split_last is_space rest.now none) ∙ sym (ap behind push ∙ map-append (λ (w : Bor (List ℕ)). w.now) words (rest ∷ []))

pub too_many : (line rest : List ℕ) (words : List (Bor (List ℕ))) (place : ℕ) → words_of line ≡ behind words ++ words_of rest → Some place ≡ position is_space rest → 4 ≤ length words + 1
    → 4 < length (words_of line)
too_many line rest words place so_far found many =
    let all = ap length so_far ∙ length-append (behind words) (words_of rest) in
    let here = ap length (split_more is_space rest place (sym found)) in
    omega (arith, all, here, length-map words (λ (w : Bor (List ℕ)). w.now), some_parts is_space (drop (place + 1) rest), many)
