-- Lists of values as lists of trees.
use Rattle.std.proofs.Common.{◌≡◌, ℕ, zero, suc, ◌+◌, ◌-◌, drop, List, [], ◌∷◌, ◌++◌, length, refl, ap, arith, take, get_or, ◌<◌, ◌≤◌, add-one, length-append, sym, ◌∙◌}
use Rattle.std.proofs.Math.Seq.{drop-cons, take-suc}
use Rattle.std.specs.Prelude.{slice_get}
use Rattle.std.specs.Option.{option_map}
use Rattle.vf_ber.specs.declared.value.Value.{Value}
use Rattle.vf_ber.specs.Tree.{none, more, joined, count, part_at, nodes, nodes_in}
use Rattle.vf_ber.specs.Spelling.{spell, spells}
use Rattle.vf_ber.specs.Views.{tree_of, trees_in}

pub trees_in-push : (values : List Value) (value : Value) → trees_in (values ++ value ∷ []) ≡ joined (trees_in values) (more (tree_of value) none)
trees_in-push [] value = refl
trees_in-push (first ∷ values) value = ap (more (tree_of first)) (trees_in-push values value)

pub count-trees_in : (values : List Value) → count (trees_in values) ≡ length values
count-trees_in [] = refl
count-trees_in (value ∷ values) = omega (arith, count-trees_in values)

pub part_at-trees_in : (values : List Value) (place : ℕ) → part_at (trees_in values) place ≡ option_map tree_of (slice_get values place)
part_at-trees_in [] place = refl
part_at-trees_in (value ∷ values) zero = refl
part_at-trees_in (value ∷ values) (suc place) = part_at-trees_in values place

-- a value of a list has fewer nodes than the list
pub fewer : (values : List Value) (place : ℕ) (value : Value) → value ≡ get_or values place value → place < length values → nodes (tree_of value) < nodes_in (trees_in values)
fewer [] place value e lt = absurd (omega arith)
fewer (first ∷ values) zero value e lt = let same : nodes (tree_of value) ≡ nodes (tree_of first) = ap (λ v. nodes (tree_of v)) e in omega arith
fewer (first ∷ values) (suc place) value e lt = omega (arith, fewer values place value e (omega arith))

-- one more value of a list
pub take_one : (values : List Value) (place : ℕ) (value : Value) → value ≡ get_or values place value → place < length values
    → trees_in (take (place + 1) values) ≡ joined (trees_in (take place values)) (more (tree_of value) none)
take_one values place value e lt =
    rw (add-one, take-suc values place value lt, ← e) (trees_in-push (take place values) value)

-- a value and those after it
pub drop_one : (values : List Value) (place : ℕ) (value : Value) → value ≡ get_or values (place - 1) value → 0 < place → place ≤ length values
    → trees_in (drop (place - 1) values) ≡ more (tree_of value) (trees_in (drop place values))
drop_one values zero value e some within = absurd (omega arith)
drop_one values (suc place) value e some within =
    let same : suc place - 1 ≡ place = omega arith in
    let here : value ≡ get_or values place value = e ∙ ap (λ n. get_or values n value) same in
    let first : drop place values ≡ get_or values place value ∷ drop (suc place) values = drop-cons values place value within in
    ap (λ n. trees_in (drop n values)) same ∙ ap trees_in first ∙ ap (λ v. more (tree_of v) (trees_in (drop (suc place) values))) (sym here)

pub spells-drop-le : (values : List Value) (place : ℕ) → length (spells (trees_in (drop place values))) ≤ length (spells (trees_in values))
spells-drop-le values zero = omega arith
spells-drop-le [] (suc place) = omega arith
spells-drop-le (value ∷ values) (suc place) = omega (arith, spells-drop-le values place, length-append (spell (tree_of value)) (spells (trees_in values)))

-- how long the spellings are of a value and of those after it
pub spells-one : (values : List Value) (place : ℕ) (value : Value) → value ≡ get_or values (place - 1) value → 0 < place → place ≤ length values
    → length (spell (tree_of value)) + length (spells (trees_in (drop place values))) ≤ length (spells (trees_in values))
spells-one values place value e some within =
    let all = ap spells (drop_one values place value e some within) in
    omega (arith, spells-drop-le values (place - 1), ap length all, length-append (spell (tree_of value)) (spells (trees_in (drop place values))))

pub ruleset lists = (trees_in-push, count-trees_in, part_at-trees_in)
