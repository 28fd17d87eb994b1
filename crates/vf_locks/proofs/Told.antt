-- Holders in order are told by the controls of each.
use Rattle.std.proofs.Common.{◌≡◌, ◌∙◌, Bool, true, false, cond, ◌&&◌, List, [], ◌∷◌, None, Some, is_some, find, refl, ap, sym, subst, true≢false}
use Rattle.std.specs.List.{list_all}
use Rattle.std.specs.Option.{option_map}
use Rattle.std.specs.Ordering.{is_eq, is_lt, ordering_reverse}
use Rattle.std.specs.declared.cmp.Ordering.{Ordering}
use Rattle.std.specs.declared.cmp.Ordering.TheVariants.{Less, Equal, Greater}
use Rattle.vf_locks.specs.Holders.{holder_cmp, is_same, IsOrdered, controls_of}
use Rattle.vf_locks.specs.declared.held.Held.{Held}
use Rattle.vf_locks.specs.declared.holder.Holder.{Holder}
use Rattle.vf_locks.proofs.Order.{holder_total, reversed, same_from_equal}
use Rattle.vf_locks.proofs.Ordered.{all_after, before, controls_after}

equal_from : (r : Ordering) → is_eq r ≡ true → r ≡ Equal
equal_from Less e = absurd (true≢false (sym e))
equal_from Equal e = refl
equal_from Greater e = absurd (true≢false (sym e))

level_from : (r : Ordering) → r ≡ ordering_reverse r → r ≡ Equal
level_from Less e = absurd (true≢false (ap is_lt e))
level_from Equal e = refl
level_from Greater e = absurd (true≢false (sym (ap is_lt e)))

itself : (holder : Holder) → holder_cmp holder holder ≡ Equal
itself holder = level_from (holder_cmp holder holder) (holder_total.antisymm holder holder)

-- the first of a list has its controls
found_first : (x : Held) (xs : List Held) → controls_of x.holder (x ∷ xs) ≡ Some x.controls
found_first x xs = let level = itself x.holder in
    λ i. option_map (λ (held : Held). held.controls) (cond (is_eq (level i)) (Some x) (find (λ (held : Held). is_same held.holder x.holder) xs))

after_other : (holder : Holder) (x : Held) (xs : List Held) → is_same x.holder holder ≡ false → controls_of holder (x ∷ xs) ≡ controls_of holder xs
after_other holder x xs apart =
    λ i. option_map (λ (held : Held). held.controls) (cond (apart i) (Some x) (find (λ (held : Held). is_same held.holder holder) xs))

-- one that stands before the first does not stand among them
absent_ahead : (holder : Holder) (y : Held) (ys : List Held) → IsOrdered (y ∷ ys) → holder_cmp holder y.holder ≡ Less → controls_of holder (y ∷ ys) ≡ None
absent_ahead holder y ys ordered ahead =
    let rest = all_after holder y.holder ys ahead ordered.0 in
    controls_after holder (y ∷ ys) (λ i. is_lt (ahead i) && rest i)

-- lists that agree and begin with one holder agree after it
agree_after : (x y : Held) (xs ys : List Held) → IsOrdered (x ∷ xs) → IsOrdered (y ∷ ys) → x.holder ≡ y.holder
    → ((holder : Holder) → controls_of holder (x ∷ xs) ≡ controls_of holder (y ∷ ys)) → (holder : Holder) → controls_of holder xs ≡ controls_of holder ys
agree_after x y xs ys p q alike agree holder = by (is_same x.holder holder) refl
  where
    by : (b : Bool) → is_same x.holder holder ≡ b → controls_of holder xs ≡ controls_of holder ys
    by true is =
        let same : x.holder ≡ holder = same_from_equal x.holder holder (equal_from (holder_cmp x.holder holder) is) in
        let ones : list_all (before holder) xs ≡ true = subst (λ holder. list_all (before holder) xs ≡ true) same p.0 in
        let twos : list_all (before holder) ys ≡ true = subst (λ holder. list_all (before holder) ys ≡ true) (sym alike ∙ same) q.0 in
        controls_after holder xs ones ∙ sym (controls_after holder ys twos)
    by false is =
        let other : is_same y.holder holder ≡ false = ap (λ first. is_same first holder) (sym alike) ∙ is in
        sym (after_other holder x xs is) ∙ agree holder ∙ after_other holder y ys other

pub told : (xs ys : List Held) → IsOrdered xs → IsOrdered ys → ((holder : Holder) → controls_of holder xs ≡ controls_of holder ys) → xs ≡ ys
told [] [] p q agree = refl
told [] (y ∷ ys) p q agree = absurd (true≢false (sym (ap is_some (agree y.holder ∙ found_first y ys))))
told (x ∷ xs) [] p q agree = absurd (true≢false (ap is_some (sym (found_first x xs) ∙ agree x.holder)))
told (x ∷ xs) (y ∷ ys) p q agree = by (holder_cmp x.holder y.holder) refl (told xs ys p.1 q.1)
  where
    by : (r : Ordering) → holder_cmp x.holder y.holder ≡ r → (((holder : Holder) → controls_of holder xs ≡ controls_of holder ys) → xs ≡ ys) → x ∷ xs ≡ y ∷ ys
    by Less ahead rest = absurd (true≢false (ap is_some (sym (found_first x xs) ∙ agree x.holder ∙ absent_ahead x.holder y ys q ahead)))
    by Equal level rest =
        let alike = same_from_equal x.holder y.holder level in
        let found : Some x.controls ≡ Some y.controls = sym (found_first x xs) ∙ agree x.holder ∙ ap (λ holder. controls_of holder (y ∷ ys)) alike ∙ found_first y ys in
        let same : x.controls ≡ y.controls = cc in
        let later = rest (agree_after x y xs ys p q alike agree) in
        λ i. record { holder = alike i; controls = same i } ∷ later i
    by Greater after rest =
        let ahead : holder_cmp y.holder x.holder ≡ Less = reversed x.holder y.holder Greater after in
        absurd (true≢false (ap is_some (sym (found_first y ys) ∙ sym (agree y.holder) ∙ absent_ahead y.holder x xs p ahead)))
