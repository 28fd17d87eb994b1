-- What stands in a block after digits were moved out of it.
use Rattle.std.proofs.Common.{◌≡◌, ℕ, ◌+◌, ◌-◌, ◌≤◌, List, ◌++◌, drop, take, sym, ap, ◌∙◌, arith, subst}
use Rattle.std.proofs.lemmas.List.{drop-take, drop-drop, take-append-drop}
use Rattle.vf_cli_dialogue.specs.Hex.{Takes}
use Rattle.vf_cli_dialogue.specs.Reader.{MovesDigits, Stops}
use Rattle.vf_cli_dialogue.specs.declared.block.Stop.{Stop}

-- the octets from a place to an end, without the first so many
drop_prefix : (items : List ℕ) (place end count : ℕ) → place ≤ end →
    drop (place + count) (take end items) ≡ drop count (take (end - place) (drop place items))
drop_prefix items place end count within =
    let size : place + (end - place) ≡ end = omega arith in
    let slice : drop place (take end items) ≡ take (end - place) (drop place items) =
    ap (λ (n : ℕ). drop place (take n items)) (sym size) ∙ drop-take place (end - place) items in
    sym (drop-drop count place (take end items)) ∙ ap (drop count) slice

-- digits that are taken from the octets from a place to an end, which are seen through a slice
pub moves_digits : (items shown old old_digits new_digits : List ℕ) (place end count : ℕ) (stop : Stop) → shown ≡ items → place ≤ end
    → drop place (take end items) ≡ old
    → Takes old_digits new_digits (take (end - place) (drop place shown)) count
    → Stops stop (drop count (take (end - place) (drop place shown)))
    → MovesDigits old (drop (place + count) (take end items)) old_digits new_digits stop
moves_digits items shown old old_digits new_digits place end count stop same within is_old takes stops =
    let octets : List ℕ = take (end - place) (drop place shown) in
    let here : octets ≡ take (end - place) (drop place items) = ap (λ (l : List ℕ). take (end - place) (drop place l)) same in
    let rest : drop (place + count) (take end items) ≡ drop count octets = drop_prefix items place end count within ∙ ap (drop count) (sym here) in
    let all : drop place (take end items) ≡ octets =
    ap (λ (n : ℕ). drop n (take end items)) (omega arith) ∙ drop_prefix items place end 0 within ∙ sym here in (
      take count octets,
      sym is_old ∙ all ∙ sym (take-append-drop count octets) ∙ ap (λ (l : List ℕ). take count octets ++ l) (sym rest),
      takes.digits,
      subst (Stops stop) (sym rest) stops,
    )
