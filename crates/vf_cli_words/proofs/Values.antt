-- Each option that words give has a value.
use Rattle.std.proofs.Common.{◌≡◌, ◌∙◌, ℕ, zero, suc, Bool, true, false, cond, not, ◌&&◌, List, [], ◌∷◌, Option, Some, None, get_or, is_none, is_some, option_and_then, set, refl, ap, sym, subst}
use Rattle.std.specs.List.{list_all, position}
use Rattle.std.specs.Prelude.{drop, take, ◌+◌, if◌then◌else◌}
use Rattle.vf_cli_words.specs.Words.{Given, are_values, given_after, given_in, is_equals, is_given, is_value, key_named, nothing_given, place_of, value_of, with_option, with_parted, with_value}
use Rattle.vf_cli_words.specs.declared.options.Key.{Key}

both_are : (one other : Bool) → one ≡ true → other ≡ true → (one && other) ≡ true
both_are true true is same = refl
both_are true false is same = absurd cc
both_are false other is same = absurd cc

left_is : (one other : Bool) → (one && other) ≡ true → one ≡ true
left_is true other both = refl
left_is false other both = both

right_is : (one other : Bool) → (one && other) ≡ true → other ≡ true
right_is true other both = both
right_is false other both = absurd cc

set_keeps : (given : Given) (place : ℕ) (value : Option (List ℕ)) → are_values given ≡ true → is_given value ≡ true → are_values (set given place value) ≡ true
set_keeps [] zero value all is = refl
set_keeps [] (suc place) value all is = refl
set_keeps (first ∷ given) zero value all is = both_are _ _ is (right_is _ _ all)
set_keeps (first ∷ given) (suc place) value all is = both_are _ _ (left_is _ _ all) (set_keeps given place value (right_is _ _ all) is)

pub value_is : (given : Given) (place : ℕ) → are_values given ≡ true → is_given (get_or given place None) ≡ true
value_is [] zero all = refl
value_is [] (suc place) all = refl
value_is (first ∷ given) zero all = left_is _ _ all
value_is (first ∷ given) (suc place) all = value_is given place (right_is _ _ all)

-- an option more
if_none : (none : Bool) (given : Given) (more : Given) → are_values given ≡ true → (if none then Some given else None) ≡ Some more → are_values more ≡ true
if_none true given more all is = let same : given ≡ more = cc in subst (λ (g : Given). are_values g ≡ true) same all
if_none false given more all is = absurd (let wrong : None ≡ Some more = is in cc)

with_key : (key : Option Key) (given : Given) (value : List ℕ) (more : Given) → is_value value ≡ true → are_values given ≡ true → with_value key given value ≡ Some more → are_values more ≡ true
with_key None given value more good all is = absurd (let wrong : None ≡ Some more = is in cc)
with_key (Some key) given value more good all is =
    if_none (is_none (value_of key given)) (set given (place_of key) (Some value)) more (set_keeps given (place_of key) (Some value) all good) is

if_value : (good : Bool) (name value : List ℕ) (given : Given) (more : Given) → is_value value ≡ good → are_values given ≡ true
    → (if good then with_value (key_named name) given value else None) ≡ Some more → are_values more ≡ true
if_value true name value given more good all is = with_key (key_named name) given value more good all is
if_value false name value given more good all is = absurd (let wrong : None ≡ Some more = is in cc)

option_keeps : (given : Given) (name value : List ℕ) (more : Given) → are_values given ≡ true → with_option given name value ≡ Some more → are_values more ≡ true
option_keeps given name value more all is = if_value (is_value value) name value given more refl all is

parted_keeps : (place : Option ℕ) (given : Given) (word : List ℕ) (more : Given) → are_values given ≡ true → with_parted place given word ≡ Some more → are_values more ≡ true
parted_keeps None given word more all is = absurd (let wrong : None ≡ Some more = is in cc)
parted_keeps (Some place) given word more all is = option_keeps given (take place word) (drop (place + 1) word) more all is

-- options after others
then_keeps : (with : Option Given) (words : List (List ℕ)) (last : Given) → ((more : Given) → with ≡ Some more → are_values more ≡ true)
    → ((more : Given) → are_values more ≡ true → given_after more words ≡ Some last → are_values last ≡ true)
    → option_and_then (λ (more : Given). given_after more words) with ≡ Some last → are_values last ≡ true
then_keeps None words last first later is = absurd (let wrong : None ≡ Some last = is in cc)
then_keeps (Some more) words last first later is = later more (first more refl) is

if_parted : (parted : Bool) (given : Given) (word value : List ℕ) (words : List (List ℕ)) (last : Given) → are_values given ≡ true
    → ((more : Given) → are_values more ≡ true → given_after more (value ∷ words) ≡ Some last → are_values last ≡ true)
    → ((more : Given) → are_values more ≡ true → given_after more words ≡ Some last → are_values last ≡ true)
    → (if parted then option_and_then (λ (more : Given). given_after more (value ∷ words)) (with_parted (position is_equals word) given word)
    else option_and_then (λ (more : Given). given_after more words) (with_option given word value)) ≡ Some last → are_values last ≡ true
if_parted true given word value words last all longer shorter is =
    then_keeps (with_parted (position is_equals word) given word) (value ∷ words) last (λ more with. parted_keeps (position is_equals word) given word more all with) longer is
if_parted false given word value words last all longer shorter is =
    then_keeps (with_option given word value) words last (λ more with. option_keeps given word value more all with) shorter is

after_keeps : (given : Given) (words : List (List ℕ)) (last : Given) → are_values given ≡ true → given_after given words ≡ Some last → are_values last ≡ true
after_keeps given [] last all is = let same : given ≡ last = cc in subst (λ (g : Given). are_values g ≡ true) same all
after_keeps given (word ∷ []) last all is = parted_keeps (position is_equals word) given word last all is
after_keeps given (word ∷ value ∷ words) last all is =
    if_parted (is_some (position is_equals word)) given word value words last all (λ more good later. after_keeps more (value ∷ words) last good later) (λ more good later. after_keeps more words last good later) is

pub given_are_values : (words : List (List ℕ)) (given : Given) → given_in words ≡ Some given → are_values given ≡ true
given_are_values words given is = after_keeps nothing_given words given refl is
