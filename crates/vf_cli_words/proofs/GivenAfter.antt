-- The options of words, as they are read one after another.
use Rattle.std.proofs.Common.{◌≡◌, ◌∙◌, ℕ, ◌-◌, ◌≤◌, cond, List, [], ◌∷◌, Option, Some, None, drop, get_or, is_some, length, take, option_and_then, refl, ap, sym, arith}
use Rattle.std.specs.List.{position}
use Rattle.std.proofs.lemmas.List.{take_all}
use Rattle.vf_cli_words.specs.Given.{Parts, first_at, first_of}
use Rattle.vf_cli_words.specs.Words.{Given, given_after, is_equals, with_option, with_parted}

-- a list with a first item
pub rest_is : {A : Type 0} (xs : List A) (x : A) → 1 ≤ length xs → x ≡ get_or xs 0 x → xs ≡ x ∷ take (length xs - 1) (drop 1 xs)
rest_is [] x some is = absurd (omega (arith, some))
rest_is (first ∷ xs) x some is = (λ i. sym is i ∷ sym (take_all (length (first ∷ xs) - 1) xs (omega arith)) i)

some_is : {A : Type 0} (a b : A) → Some a ≡ Some b → a ≡ b
some_is a b is = cc

-- the options that words give after others, where their first word has its `=` here
given_at : Option ℕ → Given → List ℕ → List (List ℕ) → Option Given
given_at place given word [] = with_parted place given word
given_at place given word (value ∷ words) =
    cond (is_some place) (option_and_then (λ (more : Given). given_after more (value ∷ words)) (with_parted place given word))
    (option_and_then (λ (more : Given). given_after more words) (with_option given word value))

at_place : (given : Given) (word : List ℕ) (later : List (List ℕ)) → given_after given (word ∷ later) ≡ given_at (position is_equals word) given word later
unfolding given_at
at_place given word [] = refl
at_place given word (value ∷ words) = refl

-- one option more
module _ (given : Given) (word : List ℕ) (parts : Parts) where
  some_at : (place : Option ℕ) (later : List (List ℕ)) (more : Given) → first_at place word later ≡ Some parts → with_option given parts.name parts.value ≡ Some more
      → given_at place given word later ≡ given_after more parts.later
  unfolding given_at
  some_at (Some place) [] more is some =
      let same = some_is _ parts is in
      (λ i. with_option given (same i).name (same i).value) ∙ some ∙ (λ i. given_after more (same i).later)
  some_at (Some place) (value ∷ words) more is some =
      let same = some_is _ parts is in
      ap (λ (with : Option Given). option_and_then (λ (more : Given). given_after more (value ∷ words)) with) ((λ i. with_option given (same i).name (same i).value) ∙ some)
      ∙ (λ i. given_after more (same i).later)
  some_at None [] more is some = absurd (let none : None ≡ Some parts = is in cc)
  some_at None (value ∷ words) more is some =
      let same = some_is _ parts is in
      ap (λ (with : Option Given). option_and_then (λ (more : Given). given_after more words) with) ((λ i. with_option given (same i).name (same i).value) ∙ some)
      ∙ (λ i. given_after more (same i).later)

  none_at : (place : Option ℕ) (later : List (List ℕ)) → first_at place word later ≡ Some parts → with_option given parts.name parts.value ≡ None
      → given_at place given word later ≡ None
  unfolding given_at
  none_at (Some place) [] is none =
      let same = some_is _ parts is in
      (λ i. with_option given (same i).name (same i).value) ∙ none
  none_at (Some place) (value ∷ words) is none =
      let same = some_is _ parts is in
      ap (λ (with : Option Given). option_and_then (λ (more : Given). given_after more (value ∷ words)) with) ((λ i. with_option given (same i).name (same i).value) ∙ none)
  none_at None [] is none = absurd (let wrong : None ≡ Some parts = is in cc)
  none_at None (value ∷ words) is none =
      let same = some_is _ parts is in
      ap (λ (with : Option Given). option_and_then (λ (more : Given). given_after more words) with) ((λ i. with_option given (same i).name (same i).value) ∙ none)

  pub option_more : (later : List (List ℕ)) (more : Given) → first_of word later ≡ Some parts → with_option given parts.name parts.value ≡ Some more
      → given_after given (word ∷ later) ≡ given_after more parts.later
  option_more later more is some = at_place given word later ∙ some_at (position is_equals word) later more is some

  pub option_none : (later : List (List ℕ)) → first_of word later ≡ Some parts → with_option given parts.name parts.value ≡ None → given_after given (word ∷ later) ≡ None
  option_none later is none = at_place given word later ∙ none_at (position is_equals word) later is none
