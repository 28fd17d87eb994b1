-- Lists of items, as they are read and looked at one after another.
use Rattle.std.proofs.Common.{◌≡◌, ℕ, zero, suc, ◌+◌, ◌<◌, ◌≤◌, Bool, true, false, List, [], ◌∷◌, ◌++◌, map, length, drop, get_or, refl, ap, sym, ◌∙◌, arith}
use Rattle.std.proofs.lemmas.List.{map-append}
use Rattle.std.proofs.Math.ListN.{drop_of_length-le}
use Rattle.std.specs.Prelude.{Option, Some, None, Result, Ok, Err, ◌&&◌, nat_le, IfOk, MatchOption}
use Rattle.std.specs.Option.{option_and_then, option_map}
use Rattle.vf_ber.specs.declared.value.Value.{Value}
use Rattle.vf_ber.specs.Tree.{Tree, Trees}
use Rattle.vf_ber.specs.Views.{tree_of, trees_in}
use Rattle.vf_pdu_fields.specs.Content.{Listed, Slots, Items, nothing, item, items_of}
use Rattle.vf_pdu_fields.specs.declared.limits.TheConstants.{MOST_ITEMS}
use Rattle.vf_pdu_fields.specs.Meaning.{each_within, count, all_fit, fits}
use Rattle.vf_pdu_fields.specs.Reading.{each_shape, parts_of, sequence_parts, shape, shapes}
use Rattle.vf_pdu_fields.specs.Rows.{Row, list}

-- items, and others after them
abbrev pub onto : List Slots → Items → Items
onto [] rest = rest
onto (first ∷ others) rest = item first (onto others rest)

onto-push : (earlier : List Slots) (last : Slots) (rest : Items) → onto (earlier ++ last ∷ []) rest ≡ onto earlier (item last rest)
onto-push [] last rest = refl
onto-push (first ∷ others) last rest = ap (item first) (onto-push others last rest)

onto-nothing : (all : List Slots) → onto all nothing ≡ items_of all
onto-nothing [] = refl
onto-nothing (first ∷ others) = ap (item first) (onto-nothing others)

-- one more item was read
pub pushed : {X : Type 0} (view : X → Slots) (earlier items : List X) (last : X) (o : Option Items) → items ≡ earlier ++ last ∷ []
    → option_map (onto (map view earlier)) (option_map (item (view last)) o) ≡ option_map (onto (map view items)) o
pushed view earlier items last None e = refl
pushed view earlier items last (Some rest) e =
    ap (λ (x : Items). Some x)
    (sym (onto-push (map view earlier) (view last) rest) ∙ ap (λ xs. onto xs rest) (sym (map-append view earlier (last ∷ [])) ∙ ap (map view) (sym e)))

-- all were read
pub all_read : {X : Type 0} (view : X → Slots) (items : List X) (inner : Trees → Option Slots) (parts : List Value) (place : ℕ) → length parts ≤ place
    → option_map (onto (map view items)) (each_shape inner (trees_in (drop place parts))) ≡ Some (items_of (map view items))
unfolding each_shape
all_read view items inner parts place le =
    ap (λ (l : List Value). option_map (onto (map view items)) (each_shape inner (trees_in l))) (drop_of_length-le parts le)
    ∙ ap (λ (x : Items). Some x) (onto-nothing (map view items))

-- the next part is no item
pub each_none : (inner : Trees → Option Slots) (parts : List Value) (place : ℕ) (value : Value) → value ≡ get_or parts place value → place < length parts
    → option_and_then inner (sequence_parts (tree_of value)) ≡ None → each_shape inner (trees_in (drop place parts)) ≡ None
unfolding each_shape
each_none inner [] place value e lt n = absurd (omega arith)
each_none inner (first ∷ parts) zero value e lt n =
    ap (option_and_then (λ (s : Slots). option_map (item s) (each_shape inner (trees_in parts)))) (ap (λ (v : Value). option_and_then inner (sequence_parts (tree_of v))) (sym e) ∙ n)
each_none inner (first ∷ parts) (suc place) value e lt n = each_none inner parts place value e (omega arith) n

-- the next part is this item
pub each_some : (inner : Trees → Option Slots) (parts : List Value) (place : ℕ) (value : Value) (s : Slots) → value ≡ get_or parts place value → place < length parts
    → option_and_then inner (sequence_parts (tree_of value)) ≡ Some s
    → each_shape inner (trees_in (drop place parts)) ≡ option_map (item s) (each_shape inner (trees_in (drop (place + 1) parts)))
unfolding each_shape
each_some inner [] place value s e lt n = absurd (omega arith)
each_some inner (first ∷ parts) zero value s e lt n =
    ap (option_and_then (λ (x : Slots). option_map (item x) (each_shape inner (trees_in parts)))) (ap (λ (v : Value). option_and_then inner (sequence_parts (tree_of v))) (sym e) ∙ n)
each_some inner (first ∷ parts) (suc place) value s e lt n =
    let next : drop (suc place + 1) (first ∷ parts) ≡ drop (place + 1) parts = grind arith in
    each_some inner parts place value s e (omega arith) n ∙ ap (λ (l : List Value). option_map (item s) (each_shape inner (trees_in l))) (sym next)

count-map : {X : Type 0} (view : X → Slots) (xs : List X) → count (items_of (map view xs)) ≡ length xs
count-map view [] = refl
count-map view (x ∷ xs) = omega (arith, count-map view xs)

pub too_many : {X : Type 0} (view : X → Slots) (xs : List X) (b : Bool) → MOST_ITEMS < length xs → (nat_le (count (items_of (map view xs))) MOST_ITEMS && b) ≡ false
too_many view xs b lt =
    let no : nat_le (count (items_of (map view xs))) MOST_ITEMS ≡ false = grind (arith, count-map view xs, lt) in
    ap (λ c. c && b) no

-- few items are in range where each is
pub few_fit : {X : Type 0} (view : X → Slots) (row : Row) (xs : List X) → length xs ≤ MOST_ITEMS
    → fits (list row) (Listed (items_of (map view xs))) ≡ each_within (all_fit row) (items_of (map view xs))
few_fit view row xs le =
    let few : nat_le (count (items_of (map view xs))) MOST_ITEMS ≡ true = grind (arith, count-map view xs, le) in
    ap (λ c. c && each_within (all_fit row) (items_of (map view xs))) few

-- few items, of which each is in range or not
pub in_list : {X M : Type 0} (vx : X → Slots) (vm : M → Slots) (row : Row) (xs : List X) (found : Option (List M)) → length xs ≤ MOST_ITEMS
    → MatchOption found (each_within (all_fit row) (items_of (map vx xs)) ≡ false) (λ made. (map vm made ≡ map vx xs) × (each_within (all_fit row) (items_of (map vx xs)) ≡ true))
    → MatchOption found (fits (list row) (Listed (items_of (map vx xs))) ≡ false)
    (λ made. (Listed (items_of (map vm made)) ≡ Listed (items_of (map vx xs))) × (fits (list row) (Listed (items_of (map vx xs))) ≡ true))
in_list vx vm row xs None le h =
    let few : nat_le (count (items_of (map vx xs))) MOST_ITEMS ≡ true = grind (arith, count-map vx xs, le) in
    ap (λ c. c && each_within (all_fit row) (items_of (map vx xs))) few ∙ h
in_list vx vm row xs (Some made) le h =
    let few : nat_le (count (items_of (map vx xs))) MOST_ITEMS ≡ true = grind (arith, count-map vx xs, le) in
    (ap (λ (l : List Slots). Listed (items_of l)) h.0, ap (λ c. c && each_within (all_fit row) (items_of (map vx xs))) few ∙ h.1)

pub if_ok : {T E : Type 0} (P Q : T → Type 0) → ((x : T) → P x → Q x) → (r : Result T E) → IfOk r P → IfOk r Q
if_ok P Q f (Ok x) h = f x h
if_ok P Q f (Err e) h = h

mapped : {M : Type 0} (inside : M → Items) (found : Option M) → option_map (λ v. Listed (inside v)) found ≡ option_map Listed (option_map inside found)
mapped inside None = refl
mapped inside (Some v) = refl

-- a list, as its items are read
pub list_shape : {M : Type 0} (row : Row) (tree : Tree) (parts start : Trees) (inside : M → Items) (found : Option M) → parts_of tree ≡ Some parts → start ≡ parts
    → option_map inside found ≡ each_shape (shapes row) start → option_map (λ v. Listed (inside v)) found ≡ shape (list row) tree
list_shape row tree parts start inside found p s h =
    mapped inside found ∙ ap (option_map Listed) (h ∙ ap (each_shape (shapes row)) s)
    ∙ sym (ap (option_and_then (λ (x : Trees). option_map Listed (each_shape (shapes row) x))) p)
