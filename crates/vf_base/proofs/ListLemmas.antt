-- Lists cut in two.
use Rattle.std.proofs.Common.{ap, ◌∙◌, ◌∷◌, Option, None, Some, map, reverse, option_to_list, option_map, slice_get, ◌≡◌, ℕ, ◌+◌, List, [], ◌++◌, take, drop, refl, sym, drop-drop, take-add}
use Rattle.std.proofs.lemmas.List.{append-nil, reverse-append, reverse-reverse, take-append-drop}
use Rattle.std.proofs.lemmas.Option.{slice_get-map}
use Rattle.vf_base.specs.Dial.{Call, Hears}

-- the octets of a connection up to a place, and those that a read takes from there
pub heard_is : (said all into : List ℕ) (place count : ℕ) → take count into ≡ take count (drop place all) → (count ≡ 0 → drop place all ≡ []) → Hears (record { said = said; heard = take place all; left = drop place all }) (record { said = said; heard = take (place + count) all; left = drop (place + count) all }) into count
heard_is said all into place count same last =
    let cut : drop place all ≡ take count into ++ drop (place + count) all = rw (same, sym (drop-drop count place all)) (sym (take-append-drop count (drop place all))) in
    (drop (place + count) all, cut, last, rw (same, take-add place count all) refl)

oldest_first : (earlier : List Call) (last : Option Call) → reverse (option_to_list last ++ reverse earlier) ≡ earlier ++ option_to_list last
oldest_first earlier None = reverse-reverse earlier ∙ sym (append-nil earlier)
oldest_first earlier (Some call) = reverse-append (call ∷ []) (reverse earlier) ∙ ap (λ calls. calls ++ call ∷ []) (reverse-reverse earlier)

-- what was said on a connection, newest first in the one list and oldest first in the other
pub said_at : (earlier : List Call) (last : Option Call) (place : ℕ) → slice_get (map (λ (call : Call). call.said) (reverse (option_to_list last ++ reverse earlier))) place ≡ option_map (λ (call : Call). call.said) (slice_get (earlier ++ option_to_list last) place)
said_at earlier last place = slice_get-map (λ (call : Call). call.said) (reverse (option_to_list last ++ reverse earlier)) place ∙ ap (λ calls. option_map (λ (call : Call). call.said) (slice_get calls place)) (oldest_first earlier last)
