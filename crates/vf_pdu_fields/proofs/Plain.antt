-- Options, tests and tags.
use Rattle.std.proofs.Common.{◌≡◌, ℕ, Bool, true, false, cond, refl, ap, sym, ◌∙◌}
use Rattle.std.specs.Prelude.{Option, Some, None, ◌&&◌, nat_eq}
use Rattle.std.specs.Option.{option_and_then, option_map}
use Rattle.std.proofs.lemmas.Bool.{eqb-true, and_parts}
use Rattle.vf_ber.specs.Tree.{Tag, Tree, plain, built, Trees}
use Rattle.vf_pdu_fields.specs.Meaning.{context, universal}
use Rattle.vf_pdu_fields.specs.Reading.{is_field, sequence_parts}

pub some_is : {A : Type 0} (x y : A) → ◌≡◌ {A = Option A} (Some x) (Some y) → x ≡ y
some_is x y e = cc

pub bind_some : {A B : Type 0} (f : A → Option B) (o : Option A) (y : B) → option_and_then f o ≡ Some y → (x : A) × (o ≡ Some x) × (f x ≡ Some y)
bind_some f None y e = absurd cc
bind_some f (Some x) y e = (x, refl, e)

pub map_some : {A B : Type 0} (f : A → B) (o : Option A) (y : B) → option_map f o ≡ Some y → (x : A) × (o ≡ Some x) × (f x ≡ y)
map_some f None y e = absurd cc
map_some f (Some x) y e = (x, refl, some_is (f x) y e)

pub tag_is : (tag : Tag) (class number : ℕ) → tag.class ≡ class → tag.number ≡ number → tag ≡ record { class = class; number = number }
tag_is tag class number c n = ap (λ (k : ℕ). let t : Tag = record { class = k; number = tag.number } in t) c ∙ ap (λ (k : ℕ). let t : Tag = record { class = class; number = k } in t) n

pub context_is : (number : ℕ) (tag : Tag) → is_field number tag ≡ true → tag ≡ context number
context_is number tag e =
    let b = and_parts (nat_eq tag.class 2) (nat_eq tag.number number) e in
    tag_is tag 2 number (eqb-true tag.class 2 b.0) (eqb-true tag.number number b.1)

sequence_by : (tag : Tag) (parts inner : Trees) (b : Bool) → b ≡ (nat_eq tag.class 0 && nat_eq tag.number 16) → cond b (Some parts) None ≡ Some inner → built tag parts ≡ built (universal 16) inner
sequence_by tag parts inner true s e =
    let b = and_parts (nat_eq tag.class 0) (nat_eq tag.number 16) (sym s) in
    let t : tag ≡ universal 16 = tag_is tag 0 16 (eqb-true tag.class 0 b.0) (eqb-true tag.number 16 b.1) in
    ap (λ (x : Tag). built x parts) t ∙ ap (built (universal 16)) (some_is parts inner e)
sequence_by tag parts inner false s e = absurd cc

pub sequence_is : (part : Tree) (inner : Trees) → sequence_parts part ≡ Some inner → part ≡ built (universal 16) inner
sequence_is (plain tag octets) inner e = absurd cc
sequence_is (built tag parts) inner e = sequence_by tag parts inner (nat_eq tag.class 0 && nat_eq tag.number 16) refl e
