-- Octets and strings, as they are drawn and cut one after another.
use Rattle.std.proofs.Common.{◌≡◌, ◌∙◌, ℕ, zero, suc, ◌+◌, ◌*◌, ◌%◌, ◌≤◌, min, Bool, true, false, List, [], ◌∷◌, ◌++◌, drop, length, map, nat_le, take, refl, ap, sym, arith, drop-drop}
use Rattle.std.proofs.Math.ListN.{drop_of_length-le}
use Rattle.std.proofs.lemmas.Bool.Decides.{nat_tests}
use Rattle.std.proofs.lemmas.List.{take_all}
use Rattle.vf_stack.specs.declared.request.Request.{Request}
use Rattle.vf_cli_generate.specs.Drawing.{last_after, next, octets_after, strings}
use Rattle.vf_cli_generate.specs.Requests.{value}

one_more : (count : ℕ) → count + 1 ≡ suc count
one_more count = omega arith

-- ---- octets

last_next : (last count : ℕ) → last_after last (suc count) ≡ next (last_after last count)
last_next last zero = refl
last_next last (suc count) = last_next (next last) count

pub last_more : (last count : ℕ) → last_after last (count + 1) ≡ next (last_after last count)
last_more last count = ap (last_after last) (one_more count) ∙ last_next last count

octets_next : (last count : ℕ) → octets_after last (suc count) ≡ octets_after last count ++ next (last_after last count) % 256 ∷ []
octets_next last zero = refl
octets_next last (suc count) = ap (λ (later : List ℕ). next last % 256 ∷ later) (octets_next (next last) count)

pub octets_more : (last count : ℕ) → octets_after last (count + 1) ≡ octets_after last count ++ next (last_after last count) % 256 ∷ []
octets_more last count = ap (octets_after last) (one_more count) ∙ octets_next last count

pub octets_length : (last count : ℕ) → length (octets_after last count) ≡ count
octets_length last zero = refl
octets_length last (suc count) = ap suc (octets_length (next last) count)

-- ---- strings

strings_next : (count : ℕ) (octets : List ℕ) → strings (suc count) octets ≡ strings count octets ++ take 512 (drop (512 * count) octets) ∷ []
strings_next zero octets = refl
strings_next (suc count) octets =
    let place : 512 + 512 * count ≡ 512 * suc count = omega arith in
    ap (λ (later : List (List ℕ)). take 512 octets ∷ later)
    (strings_next count (drop 512 octets)
    ∙ ap (λ (rest : List ℕ). strings count (drop 512 octets) ++ take 512 rest ∷ []) (drop-drop (512 * count) 512 octets ∙ ap (λ (n : ℕ). drop n octets) place))

pub strings_more : (count : ℕ) (octets : List ℕ) → strings (count + 1) octets ≡ strings count octets ++ take 512 (drop (512 * count) octets) ∷ []
strings_more count octets = ap (λ (n : ℕ). strings n octets) (one_more count) ∙ strings_next count octets

-- the first 512 octets, or all of fewer
front_is : (rest : List ℕ) (count : ℕ) → count ≡ min (length rest) 512 → take count rest ≡ take 512 rest
front_is rest count is = same (nat_le 512 (length rest)) refl where
  same : (b : Bool) → nat_le 512 (length rest) ≡ b → take count rest ≡ take 512 rest
  same true enough = let e : count ≡ 512 = grind (arith, nat_tests) in ap (λ (n : ℕ). take n rest) e
  same false few =
      let short : length rest ≤ 512 = grind (arith, nat_tests) in
      let all : length rest ≤ count = grind (arith, nat_tests) in
      take_all count rest all ∙ sym (take_all 512 rest short)

back_is : (rest : List ℕ) (count : ℕ) → count ≡ min (length rest) 512 → drop count rest ≡ drop 512 rest
back_is rest count is = same (nat_le 512 (length rest)) refl where
  same : (b : Bool) → nat_le 512 (length rest) ≡ b → drop count rest ≡ drop 512 rest
  same true enough = let e : count ≡ 512 = grind (arith, nat_tests) in ap (λ (n : ℕ). drop n rest) e
  same false few =
      let short : length rest ≤ 512 = grind (arith, nat_tests) in
      let all : length rest ≤ count = grind (arith, nat_tests) in
      drop_of_length-le rest all ∙ sym (drop_of_length-le rest short)

map_more : (strings : List (List ℕ)) (string : List ℕ) → map value (strings ++ string ∷ []) ≡ map value strings ++ value string ∷ []
map_more [] string = refl
map_more (first ∷ strings) string = ap (λ (later : List Request). value first ∷ later) (map_more strings string)

-- a string more
pub values_more : (place count : ℕ) (octets rest string : List ℕ) → rest ≡ drop (512 * place) octets → count ≡ min (length rest) 512 → string ≡ take count rest
    → map value (strings (place + 1) octets) ≡ map value (strings place octets) ++ value string ∷ []
values_more place count octets rest string is cut string_is =
    ap (map value) (strings_more place octets) ∙ map_more (strings place octets) (take 512 (drop (512 * place) octets))
    ∙ ap (λ (s : List ℕ). map value (strings place octets) ++ value s ∷ []) (sym (string_is ∙ front_is rest count cut ∙ ap (take 512) is))

pub rest_more : (place count : ℕ) (octets rest : List ℕ) → rest ≡ drop (512 * place) octets → count ≡ min (length rest) 512 → drop count rest ≡ drop (512 * (place + 1)) octets
rest_more place count octets rest is cut =
    let there : 512 * place + 512 ≡ 512 * (place + 1) = omega arith in
    back_is rest count cut ∙ ap (drop 512) is ∙ drop-drop 512 (512 * place) octets ∙ ap (λ (n : ℕ). drop n octets) there
