-- Reading call by call.
use Rattle.std.proofs.Common.{◌≡◌, ◌∙◌, ap, sym, ℕ, List, [], ◌++◌, take, append_assoc, Option, None, Some, Ok}
use Rattle.vf_base.specs.Streams.{Reads, HasRead}

ends : (left last : Option (List ℕ)) (into : List ℕ) (count : ℕ) → left ≡ None → Reads left last into (Ok count) → last ≡ None
ends left last into count none next = rw none at next

pub read_more : (first left last : Option (List ℕ)) (octets into : List ℕ) (count : ℕ) → HasRead first left octets → Reads left last into (Ok count) → HasRead first last (octets ++ take count into)
read_more None left last octets into count before next = ends left last into count before next
read_more (Some first) left last octets into count (rest, whole, before) next =
    let step : (more : List ℕ) × (last ≡ Some more) × (rest ≡ take count into ++ more) × (count ≡ 0 → rest ≡ []) = rw before at next in
    (step.0, whole ∙ ap (λ back. octets ++ back) step.2 ∙ sym (append_assoc octets (take count into) step.0), step.1)
