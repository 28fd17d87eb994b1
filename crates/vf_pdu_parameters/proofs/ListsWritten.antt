-- Lists, as they are written.
use Rattle.std.proofs.Common.{◌≡◌, ℕ, ◌+◌, ◌<◌, false, List, [], ◌∷◌, ◌++◌, map, length, take, get_or, refl, ap, sym, ◌∙◌}
use Rattle.std.proofs.lemmas.List.{take_more}
use Rattle.std.specs.Prelude.{Some}
use Rattle.vf_ber.specs.Tree.{Trees, built, joined, more, none}
use Rattle.vf_pdu_fields.specs.Content.{Listed, Slots, nothing, items_of}
use Rattle.vf_pdu_fields.specs.Meaning.{context, universal}
use Rattle.vf_pdu_fields.specs.Rows.{Row}
use Rattle.vf_pdu_fields.specs.Writing.{◌▸◌, fields, is_usual, spelled_items}
use Rattle.vf_pdu_fields.proofs.Written.{items_push}

-- one more item after a prefix of a list
pub item_put : {X : Type 0} (row : Row) (view : X → Slots) (items : List X) (place : ℕ) (last : X) (earlier made inside : Trees) → last ≡ get_or items place last → place < length items
    → made ≡ joined earlier (more (built (universal 16) inside) none) → earlier ≡ spelled_items (fields row) (items_of (map view (take place items))) → inside ≡ fields row (view last)
    → made ≡ spelled_items (fields row) (items_of (map view (take (place + 1) items)))
item_put {X = X} row view items place last earlier made inside e lt m f i =
    let all : List X → Trees = λ l. spelled_items (fields row) (items_of (map view l)) in
    m ∙ ap (λ (t : Trees). joined t (more (built (universal 16) inside) none)) f ∙ ap (λ (t : Trees). joined (all (take place items)) (more (built (universal 16) t) none)) i
    ∙ sym (ap all (take_more items place last lt ∙ ap (λ (x : X). take place items ++ x ∷ []) (sym e)) ∙ items_push (fields row) view (take place items) last)

-- a list that is put after the parts
pub list_put : {X : Type 0} (row : Row) (view : X → Slots) (items given : List X) (number : ℕ) (parts made inside : Trees) → made ≡ parts ▸ Some (built (context number) inside)
    → inside ≡ spelled_items (fields row) (items_of (map view given)) → given ≡ items
    → made ≡ parts ▸ Some (built (context number) (spelled_items (fields row) (items_of (map view items))))
list_put {X = X} row view items given number parts made inside m i s =
    let put : Trees → Trees = λ t. parts ▸ Some (built (context number) t) in
    m ∙ ap put i ∙ ap (λ (l : List X). put (spelled_items (fields row) (items_of (map view l)))) s

-- a list with items isn't the empty one
pub not_usual : {X : Type 0} (view : X → Slots) (items : List X) → (length items ≡ 0 → ⊥) → is_usual (Listed nothing) (Listed (items_of (map view items))) ≡ false
not_usual view [] some = absurd (some refl)
not_usual view (first ∷ rest) some = refl
