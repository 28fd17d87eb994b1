-- Links by their numbers: one is put after the others, or taken out of them.
use Rattle.std.proofs.Common.{◌≡◌, ℕ, ◌+◌, Bool, true, false, cond, nat_eq, List, [], ◌∷◌, ◌++◌, Option, Some, None, refl, ap, ◌∙◌}
use Rattle.std.specs.List.{AllByRecursion, IsDistinct}
use Rattle.std.specs.Map.{keys_of}
use Rattle.std.specs.Cmp.{nat_eq_equiv}
use Rattle.vf_responder.specs.Represents.{link_of}
use Rattle.vf_responder.specs.declared.link.Link.{Link}

-- the one where there is one, and else the other
abbrev pub or_last : Option Link → Option Link → Option Link
or_last None last = last
or_last (Some link) last = Some link

chosen : (b : Bool) (one : Link) (found last : Option Link) → cond b (Some one) (or_last found last) ≡ or_last (cond b (Some one) found) last
chosen true one found last = refl
chosen false one found last = refl

pub link_of-last : (q number : ℕ) (links : List (ℕ × Link)) (link : Link) → link_of q (links ++ (number, link) ∷ []) ≡ or_last (link_of q links) (cond (nat_eq q number) (Some link) None)
link_of-last q number [] link = refl
link_of-last q number (entry ∷ links) link =
    ap (λ (found : Option Link). cond (nat_eq q entry.0) (Some entry.1) found) (link_of-last q number links link)
    ∙ chosen (nat_eq q entry.0) entry.1 (link_of q links) (cond (nat_eq q number) (Some link) None)

absent : (b : Bool) (one : Link) (found : Option Link) → cond b (Some one) found ≡ None → (b ≡ false) × (found ≡ None)
absent true one found e = cc
absent false one found e = (refl, e)

apart-more : (x number : ℕ) (links : List (ℕ × Link)) (link : Link) → nat_eq x number ≡ false → AllByRecursion (λ (y : ℕ). nat_eq x y ≡ false) (keys_of links)
    → AllByRecursion (λ (y : ℕ). nat_eq x y ≡ false) (keys_of (links ++ (number, link) ∷ []))
apart-more x number [] link other all = (other, tt)
apart-more x number (entry ∷ links) link other all = (all.0, apart-more x number links link other all.1)

apart-last : (x number : ℕ) (links : List (ℕ × Link)) (link : Link) → AllByRecursion (λ (y : ℕ). nat_eq x y ≡ false) (keys_of (links ++ (number, link) ∷ [])) → nat_eq x number ≡ false
apart-last x number [] link all = all.0
apart-last x number (entry ∷ links) link all = apart-last x number links link all.1

apart-front : (x number : ℕ) (links : List (ℕ × Link)) (link : Link) → AllByRecursion (λ (y : ℕ). nat_eq x y ≡ false) (keys_of (links ++ (number, link) ∷ []))
    → AllByRecursion (λ (y : ℕ). nat_eq x y ≡ false) (keys_of links)
apart-front x number [] link all = tt
apart-front x number (entry ∷ links) link all = (all.0, apart-front x number links link all.1)

-- one whose number no other has is put after the others,
pub distinct-last : (links : List (ℕ × Link)) (number : ℕ) (link : Link) → IsDistinct nat_eq (keys_of links) → link_of number links ≡ None → IsDistinct nat_eq (keys_of (links ++ (number, link) ∷ []))
unfolding IsDistinct
distinct-last [] number link distinct none = (tt, tt)
distinct-last (entry ∷ links) number link distinct none =
    let off = absent (nat_eq number entry.0) entry.1 (link_of number links) none in
    (apart-more entry.0 number links link (nat_eq_equiv.symm entry.0 number ∙ off.0) distinct.0, distinct-last links number link distinct.1 off.1)

-- and where numbers are distinct none of the others has the last one's.
pub last-free : (links : List (ℕ × Link)) (number : ℕ) (link : Link) → IsDistinct nat_eq (keys_of (links ++ (number, link) ∷ [])) → link_of number links ≡ None
unfolding IsDistinct
last-free [] number link distinct = refl
last-free (entry ∷ links) number link distinct =
    let off : nat_eq number entry.0 ≡ false = nat_eq_equiv.symm number entry.0 ∙ apart-last entry.0 number links link distinct.0 in
    ap (λ (b : Bool). cond b (Some entry.1) (link_of number links)) off ∙ last-free links number link distinct.1

pub distinct-front : (links : List (ℕ × Link)) (number : ℕ) (link : Link) → IsDistinct nat_eq (keys_of (links ++ (number, link) ∷ [])) → IsDistinct nat_eq (keys_of links)
unfolding IsDistinct
distinct-front [] number link distinct = tt
distinct-front (entry ∷ links) number link distinct = (apart-front entry.0 number links link distinct.0, distinct-front links number link distinct.1)

same-number : (number : ℕ) → nat_eq number number ≡ true
same-number number = nat_eq_equiv.refl number

-- the last one by its number, and any other
pub link_of-own : (number : ℕ) (links : List (ℕ × Link)) (link : Link) → link_of number links ≡ None → link_of number (links ++ (number, link) ∷ []) ≡ Some link
link_of-own number links link none =
    link_of-last number number links link ∙ ap (λ (found : Option Link). or_last found (cond (nat_eq number number) (Some link) None)) none
    ∙ ap (λ (b : Bool). cond b (Some link) None) (same-number number)

or_last-none : (found : Option Link) → or_last found None ≡ found
or_last-none None = refl
or_last-none (Some link) = refl

pub link_of-other : (q number : ℕ) (links : List (ℕ × Link)) (link : Link) → nat_eq q number ≡ false → link_of q (links ++ (number, link) ∷ []) ≡ link_of q links
link_of-other q number links link other =
    link_of-last q number links link ∙ ap (λ (b : Bool). or_last (link_of q links) (cond b (Some link) None)) other ∙ or_last-none (link_of q links)
