-- The two types of which the parts decide how they are read: a SET, and an entry of the result list.
use Rattle.std.proofs.Common.{◌≡◌, ℕ, Bool, true, false, List, [], ◌∷◌, refl, ap, sym, subst, ◌∙◌, arith}
use Rattle.std.specs.Prelude.{◌&&◌, ◌||◌, nat_eq, nat_le, Option, None, Some, if◌then◌else◌}
use Rattle.std.proofs.lemmas.Bool.Decides.{nat_tests}
use Rattle.vf_ber.specs.Spelling.{first_octet}
use Rattle.vf_ber.specs.Tree.{built, plain, Tree}
use Rattle.vf_upper_grammar.specs.Forms as forms
use Rattle.vf_upper_grammar.specs.Forms.{in_order, leads, leading, ordered}
use Rattle.vf_upper_grammar.specs.Marks.{Found, Mark}
use Rattle.vf_upper_grammar.specs.Meanings as meanings
use Rattle.vf_upper_grammar.specs.Meanings.{either, fields_among, is_of, is_tagged, known}
use Rattle.vf_upper_grammar.specs.Meant.{Agrees}
use Rattle.vf_upper_grammar.specs.Modules as modules
use Rattle.vf_upper_grammar.specs.Parts.{ends, next, Part, Parts}
use Rattle.vf_upper_grammar.specs.Types as types
use Rattle.vf_upper_grammar.proofs.Agreeing.{agrees-along, agrees-meant, constructed-right, Right, RightParts}
use Rattle.vf_upper_grammar.proofs.Ordered.{among-right, field-told, known-told, RightField, RightFields}
use Rattle.vf_upper_grammar.proofs.Spelled.{AreSpelled, IsPartOf, low, low-small}

-- ---- the leading part

abbrev IsLeading : List Tree → Option Part → Type 0
IsLeading [] o = o ≡ None
IsLeading (tree ∷ trees) o = (part : Part) × (o ≡ Some part) × IsPartOf tree part

abbrev part_if : Bool → Part → Option Part → Option Part
part_if b part other = if b then Some part else other

abbrev trees_if : Bool → List Tree → List Tree → List Tree
trees_if b x y = if b then x else y

leading-known : (fields : List forms.Field) (meant : List meanings.Field) → RightFields fields meant → (trees : List Tree) (parts : Parts) → AreSpelled trees parts
    → IsLeading (known meant trees) (leading fields parts)
leading-known fields meant right [] (ends place) are = refl
leading-known fields meant right [] (next part parts) are = absurd are
leading-known fields meant right (tree ∷ trees) (ends place) are = absurd are
leading-known fields meant right (tree ∷ trees) (next part parts) are = by (leading-known fields meant right trees parts are.1) (is_of meant tree) refl
  where
    here : (b : Bool) → is_of meant tree ≡ b → leading fields (next part parts) ≡ part_if b part (leading fields parts)
    here b e = ap (λ k. part_if k part (leading fields parts)) (known-told fields meant tree part right are.0 ∙ e)

    kept : (b : Bool) → is_of meant tree ≡ b → known meant (tree ∷ trees) ≡ trees_if b (tree ∷ known meant trees) (known meant trees)
    kept b e = ap (λ k. trees_if k (tree ∷ known meant trees) (known meant trees)) e

    by : IsLeading (known meant trees) (leading fields parts) → (b : Bool) → is_of meant tree ≡ b → IsLeading (known meant (tree ∷ trees)) (leading fields (next part parts))
    by others true e = subst (λ (ts : List Tree). IsLeading ts (leading fields (next part parts))) (sym (kept true e)) (part, here true e, are.0)
    by others false e =
        subst (λ (ts : List Tree). IsLeading ts (leading fields (next part parts))) (sym (kept false e))
        (subst (λ (o : Option Part). IsLeading (known meant trees) o) (sym (here false e)) others)

-- ---- SET

either-none : (x y : Option (List Mark)) → y ≡ None → either x y ≡ x
either-none None y e = e
either-none (Some marks) y e = refl

either-second : (x y : Option (List Mark)) → x ≡ None → either x y ≡ y
either-second x y e = ap (λ z. either z y) e

or-swap : (a b : Bool) → (a || (b || false)) ≡ (b || (a || false))
or-swap true true = refl
or-swap true false = refl
or-swap false true = refl
or-swap false false = refl

known-swap : (one other : meanings.Field) (trees : List Tree) → known (other ∷ one ∷ []) trees ≡ known (one ∷ other ∷ []) trees
known-swap one other [] = refl
known-swap one other (tree ∷ trees) =
    ap (λ b. trees_if b (tree ∷ known (other ∷ one ∷ []) trees) (known (other ∷ one ∷ []) trees)) (or-swap (is_tagged other.tags tree) (is_tagged one.tags tree))
    ∙ ap (λ ts. trees_if (is_of (one ∷ other ∷ []) tree) (tree ∷ ts) ts) (known-swap one other trees)

abbrev meant_if : Bool → Option (List Mark) → Option (List Mark) → Option (List Mark)
meant_if b x y = if b then x else y

-- a required field is missing at the end, and where another value stands
order-none : (field : meanings.Field) (fields : List meanings.Field) → field.is_required ≡ true → meanings.in_order (field ∷ fields) [] ≡ None
order-none field fields e = ap (λ r. meant_if r None (meanings.in_order fields [])) e

order-other : (field : meanings.Field) (fields : List meanings.Field) (tree : Tree) (trees : List Tree) → field.is_required ≡ true → is_tagged field.tags tree ≡ false
    → meanings.in_order (field ∷ fields) (tree ∷ trees) ≡ None
order-other field fields tree trees e other =
    ap (λ b. meant_if b (meanings.in_turn (field.meaning tree) (meanings.in_order fields trees)) (meant_if field.is_required None (meanings.in_order fields (tree ∷ trees)))) other
    ∙ ap (λ r. meant_if r None (meanings.in_order fields (tree ∷ trees))) e

abbrev order_if : Bool → forms.Field → forms.Field → List forms.Field
order_if b one other = if b then other ∷ one ∷ [] else one ∷ other ∷ []

abbrev read_as : List forms.Field → Parts → List Mark → Found
read_as fields parts found = in_order parts true fields fields found

pub set-right : (one other : forms.Field) (m n : meanings.Field) → RightField one m → RightField other n → m.is_required ≡ true → n.is_required ≡ true
    → ((tree : Tree) → is_tagged n.tags tree ≡ true → is_tagged m.tags tree ≡ false) → Right (forms.set one other) (meanings.set m n)
set-right one other m n right also required needed apart = constructed-right _ _ (record { agrees = by })
  where
    first : RightParts (read_as (one ∷ other ∷ [])) (fields_among (m ∷ n ∷ []))
    first = among-right (one ∷ other ∷ []) (m ∷ n ∷ []) (right, (also, tt))

    second : RightParts (read_as (other ∷ one ∷ [])) (fields_among (n ∷ m ∷ []))
    second = among-right (other ∷ one ∷ []) (n ∷ m ∷ []) (also, (right, tt))

    in_first : (trees : List Tree) (parts : Parts) (found : List Mark) → AreSpelled trees parts → ordered one other parts ≡ one ∷ other ∷ [] → fields_among (n ∷ m ∷ []) trees ≡ None
        → Agrees (read_as (ordered one other parts) parts found) found (either (fields_among (m ∷ n ∷ []) trees) (fields_among (n ∷ m ∷ []) trees))
    in_first trees parts found are e none =
        agrees-along _ _ found _ (ap (λ fields. read_as fields parts found) e)
        (agrees-meant _ found _ _ (either-none (fields_among (m ∷ n ∷ []) trees) (fields_among (n ∷ m ∷ []) trees) none) (first.agrees trees parts found are))

    in_second : (trees : List Tree) (parts : Parts) (found : List Mark) → AreSpelled trees parts → ordered one other parts ≡ other ∷ one ∷ [] → fields_among (m ∷ n ∷ []) trees ≡ None
        → Agrees (read_as (ordered one other parts) parts found) found (either (fields_among (m ∷ n ∷ []) trees) (fields_among (n ∷ m ∷ []) trees))
    in_second trees parts found are e none =
        agrees-along _ _ found _ (ap (λ fields. read_as fields parts found) e)
        (agrees-meant _ found _ _ (either-second (fields_among (m ∷ n ∷ []) trees) (fields_among (n ∷ m ∷ []) trees) none) (second.agrees trees parts found are))

    chosen : (trees : List Tree) (parts : Parts) (found : List Mark) → AreSpelled trees parts → (ks : List Tree) → known (m ∷ n ∷ []) trees ≡ ks
        → IsLeading ks (leading (one ∷ other ∷ []) parts)
        → Agrees (read_as (ordered one other parts) parts found) found (either (fields_among (m ∷ n ∷ []) trees) (fields_among (n ∷ m ∷ []) trees))
    chosen trees parts found are [] e leads_to =
        in_first trees parts found are (ap (λ p. order_if (leads other.tags p) one other) leads_to)
        (ap (meanings.in_order (n ∷ m ∷ [])) (known-swap m n trees ∙ e) ∙ order-none n (m ∷ []) needed)
    chosen trees parts found are (tree ∷ ks) e (part, is_leading, is) = tagged (is_tagged n.tags tree) refl
      where
        told : (b : Bool) → is_tagged n.tags tree ≡ b → ordered one other parts ≡ order_if b one other
        told b f =
            ap (λ p. order_if (leads other.tags p) one other) is_leading
            ∙ ap (λ x. order_if x one other) (field-told other n tree part also is ∙ f)

        tagged : (b : Bool) → is_tagged n.tags tree ≡ b
            → Agrees (read_as (ordered one other parts) parts found) found (either (fields_among (m ∷ n ∷ []) trees) (fields_among (n ∷ m ∷ []) trees))
        tagged true f =
            in_second trees parts found are (told true f) (ap (meanings.in_order (m ∷ n ∷ [])) e ∙ order-other m (n ∷ []) tree ks required (apart tree f))
        tagged false f =
            in_first trees parts found are (told false f) (ap (meanings.in_order (n ∷ m ∷ [])) (known-swap m n trees ∙ e) ∙ order-other n (m ∷ []) tree ks needed f)

    by : (trees : List Tree) (parts : Parts) (found : List Mark) → AreSpelled trees parts
        → Agrees (read_as (ordered one other parts) parts found) found (either (fields_among (m ∷ n ∷ []) trees) (fields_among (n ∷ m ∷ []) trees))
    by trees parts found are =
        chosen trees parts found are (known (m ∷ n ∷ []) trees) refl (leading-known (one ∷ other ∷ []) (m ∷ n ∷ []) (right, (also, tt)) trees parts are)

-- ---- an entry of the result list

abbrev fields_if : Bool → List forms.Field
fields_if b = if b then types.refused_outcome else types.accepted_outcome

abbrev bool_if : Bool → Bool → Bool
bool_if b x = if b then x else false

plain-zero : (class n : ℕ) → nat_eq (first_octet false class (low n)) 128 ≡ (nat_eq class 2 && nat_le 0 n && nat_le n 0)
plain-zero class n = let small = low-small n in grind (arith, nat_tests)

built-other : (class n : ℕ) → nat_eq (first_octet true class (low n)) 128 ≡ false
built-other class n = let small = low-small n in grind (arith, nat_tests)

refuses-told : (trees : List Tree) (o : Option Part) → IsLeading trees o → types.refuses o ≡ modules.refuses trees
refuses-told [] o e = ap types.refuses e
refuses-told (plain tag octets ∷ trees) o (part, e, is) =
    ap types.refuses e
    ∙ ap (λ f. bool_if (nat_eq f 128) (types.is_two part.contents.octets)) is.first
    ∙ ap (λ b. bool_if b (types.is_two part.contents.octets)) (plain-zero tag.class tag.number)
    ∙ ap (λ o. bool_if (is_tagged (types.context 0) (plain tag octets)) (types.is_two o)) is.holds
refuses-told (built tag parts ∷ trees) o (part, e, is) =
    ap types.refuses e
    ∙ ap (λ f. bool_if (nat_eq f 128) (types.is_two part.contents.octets)) is.first
    ∙ ap (λ b. bool_if b (types.is_two part.contents.octets)) (built-other tag.class tag.number)

pub outcome-right : RightFields types.accepted_outcome modules.accepted_outcome → RightFields types.refused_outcome modules.refused_outcome → Right types.outcome modules.outcome
outcome-right accepts refuses = constructed-right _ _ (record { agrees = by })
  where
    accepted : RightParts (read_as types.accepted_outcome) (fields_among modules.accepted_outcome)
    accepted = among-right types.accepted_outcome modules.accepted_outcome accepts

    refused : RightParts (read_as types.refused_outcome) (fields_among modules.refused_outcome)
    refused = among-right types.refused_outcome modules.refused_outcome refuses

    chosen : (b : Bool) (trees : List Tree) (parts : Parts) (found : List Mark) → AreSpelled trees parts
        → Agrees (read_as (fields_if b) parts found) found (meant_if b (fields_among modules.refused_outcome trees) (fields_among modules.accepted_outcome trees))
    chosen true trees parts found are = refused.agrees trees parts found are
    chosen false trees parts found are = accepted.agrees trees parts found are

    by : (trees : List Tree) (parts : Parts) (found : List Mark) → AreSpelled trees parts
        → Agrees (read_as (types.outcome_fields parts) parts found) found
        (meant_if (modules.refuses (known modules.accepted_outcome trees)) (fields_among modules.refused_outcome trees) (fields_among modules.accepted_outcome trees))
    by trees parts found are =
        let lead = leading-known types.accepted_outcome modules.accepted_outcome accepts trees parts are in
        agrees-along _ _ found _
        (ap (λ b. read_as (fields_if b) parts found) (refuses-told (known modules.accepted_outcome trees) (leading types.accepted_outcome parts) lead))
        (chosen (modules.refuses (known modules.accepted_outcome trees)) trees parts found are)
