-- What values tell, one after the other.
use Rattle.std.proofs.Common.{◌≡◌, ◌+◌, ◌<◌, ℕ, suc, Bool, true, false, List, [], ◌∷◌, ◌++◌, length, map, drop, get_or, drop-cons, add-one, refl, ap, sym, subst, ◌∙◌, append_assoc, Option, None, Some, Result, Ok, Err, is_some}
use Rattle.vf_ber.specs.Views.{tree_of}
use Rattle.vf_elements.specs.Messages.{message_in}
use Rattle.vf_stack.specs.Carriage.{Told, before_others, item_told, items_told, one_told}
use Rattle.vf_stack.specs.Represents.{Puts, PutsOnward}
use Rattle.vf_stack.specs.declared.fault.Fault.{Fault}
use Rattle.vf_stack.specs.declared.indication.Indication.{Indication}
use Rattle.vf_upper.specs.Carried.{carried_of}
use Rattle.vf_upper.specs.declared.values.CarriedValue.{CarriedValue}

-- ---- a value and those after it

puts-more : (told : Result Indication Fault) (others : Told) (out out' : List Indication)
    → Puts (one_told told) out out' None → PutsOnward (before_others told others) out others out'
puts-more (Ok indication) others out out' p =
    (sym (ap (λ (told : List Indication). told ++ others.indications) p.0 ∙ append_assoc out (indication ∷ []) others.indications), refl)
puts-more (Err fault) others out out' p = cc

puts-last : (told : Result Indication Fault) (others : Told) (out out' : List Indication) (fault : Fault)
    → Puts (one_told told) out out' (Some fault) → Puts (before_others told others) out out' (Some fault)
puts-last (Ok indication) others out out' fault p = cc
puts-last (Err other) others out out' fault p = p

abbrev pub all_items : Bool → List CarriedValue → Told
all_items sync values = items_told sync (map carried_of values)

items-split : (sync : Bool) (values : List CarriedValue) (i : ℕ) (value : CarriedValue) → i < length values → value ≡ get_or values i value
    → all_items sync (drop i values) ≡ before_others (item_told sync (message_in (tree_of value.value))) (all_items sync (drop (i + 1) values))
items-split sync values i value within is =
    rw add-one
    (ap (all_items sync) (drop-cons values i value within) ∙ ap (λ (v : CarriedValue). all_items sync (v ∷ drop (suc i) values)) (sym is))

-- ---- in the loop

pub items-onward : (sync : Bool) (values : List CarriedValue) (i : ℕ) (value : CarriedValue) (out out' out'' : List Indication) (fault : Option Fault)
    → i < length values → value ≡ get_or values i value → PutsOnward (all_items sync values) out (all_items sync (drop i values)) out'
    → Puts (one_told (item_told sync (message_in (tree_of value.value)))) out' out'' fault → is_some fault ≡ false
    → PutsOnward (all_items sync values) out (all_items sync (drop (i + 1) values)) out''
items-onward sync values i value out out' out'' None within is before put none =
    let told = item_told sync (message_in (tree_of value.value)) in
    let others = all_items sync (drop (i + 1) values) in
    let P : Told → Type 0 = λ rest. PutsOnward (all_items sync values) out rest out' in
    let b : P (before_others told others) = subst P (items-split sync values i value within is) before in
    let one = puts-more told others out' out'' put in
    (b.0 ∙ one.0, b.1 ∙ one.1)
items-onward sync values i value out out' out'' (Some fault) within is before put none = cc

pub items-stopped : (sync : Bool) (values : List CarriedValue) (i : ℕ) (value : CarriedValue) (out out' out'' : List Indication) (fault : Option Fault)
    → i < length values → value ≡ get_or values i value → PutsOnward (all_items sync values) out (all_items sync (drop i values)) out'
    → Puts (one_told (item_told sync (message_in (tree_of value.value)))) out' out'' fault → is_some fault ≡ true
    → Puts (all_items sync values) out out'' fault
items-stopped sync values i value out out' out'' None within is before put some = cc
items-stopped sync values i value out out' out'' (Some fault) within is before put some =
    let told = item_told sync (message_in (tree_of value.value)) in
    let others = all_items sync (drop (i + 1) values) in
    let P : Told → Type 0 = λ rest. PutsOnward (all_items sync values) out rest out' in
    let b : P (before_others told others) = subst P (items-split sync values i value within is) before in
    let one = puts-last told others out' out'' fault put in
    (one.0 ∙ sym b.0, one.1 ∙ sym b.1)
