-- Fields in order are found as they are meant.
use Rattle.std.proofs.Common.{◌≡◌, ℕ, Bool, true, false, List, [], ◌∷◌, refl, ap, sym, ◌∙◌, append-nil, inl, inr}
use Rattle.std.specs.Prelude.{not, ◌&&◌, ◌||◌, ◌⊎◌, Option, None, Some, Ok, Err, if◌then◌else◌}
use Rattle.std.specs.List.{list_any}
use Rattle.vf_ber.specs.Tree.{Tree}
use Rattle.vf_upper_grammar.specs.Forms as forms
use Rattle.vf_upper_grammar.specs.Forms.{◌>>=◌, due, Due, has_tag, in_order, lacking, step}
use Rattle.vf_upper_grammar.specs.Marks.{Found, Mark}
use Rattle.vf_upper_grammar.specs.Meanings as meanings
use Rattle.vf_upper_grammar.specs.Meanings.{fields_among, in_turn, is_of, is_tagged, known}
use Rattle.vf_upper_grammar.specs.Meant.{Agrees}
use Rattle.vf_upper_grammar.specs.Parts.{ends, next, Part, Parts}
use Rattle.vf_upper_grammar.proofs.Agreeing.{agrees-along, agrees-meant, agrees-then, constructed-right, fault-along, is_low, Right, RightParts, tag-told}
use Rattle.vf_upper_grammar.proofs.Spelled.{AreSpelled, IsPartOf}

-- a field that is found as it is meant
pub record RightField (field : forms.Field) (meant : meanings.Field) : Type 0 where
  pub tags : field.tags ≡ meant.tags
  pub required : field.is_required ≡ meant.is_required
  pub small : is_low meant.tags ≡ true
  pub right : Right field.read meant.meaning

abbrev pub RightFields : List forms.Field → List meanings.Field → Type 0
RightFields [] [] = Unit {0}
RightFields [] (meant ∷ others) = ⊥
RightFields (field ∷ fields) [] = ⊥
RightFields (field ∷ fields) (meant ∷ others) = RightField field meant × RightFields fields others

pub field-told : (field : forms.Field) (meant : meanings.Field) (tree : Tree) (part : Part) → RightField field meant → IsPartOf tree part → has_tag field.tags part.first ≡ is_tagged meant.tags tree
field-told field meant tree part right is = ap (λ tags. has_tag tags part.first) right.tags ∙ tag-told meant.tags tree part right.small is

pub known-told : (fields : List forms.Field) (meant : List meanings.Field) (tree : Tree) (part : Part) → RightFields fields meant → IsPartOf tree part
    → forms.is_known fields part.first ≡ is_of meant tree
known-told [] [] tree part right is = refl
known-told [] (m ∷ meant) tree part right is = absurd right
known-told (field ∷ fields) [] tree part right is = absurd right
known-told (field ∷ fields) (m ∷ meant) tree part right is =
    ap (λ b. b || forms.is_known fields part.first) (field-told field m tree part right.0 is)
    ∙ ap (λ b. is_tagged m.tags tree || b) (known-told fields meant tree part right.1 is)

-- ---- which field is due

-- The field that is due at a part reads it, and the fields after it are left; or the value can't be there.
pub record DueAs (left : List forms.Field) (meant : List meanings.Field) (tree : Tree) (part : Part) : Type 0 where
  pub field : forms.Field
  pub after : List forms.Field
  pub means : meanings.Field
  pub others : List meanings.Field
  pub is_due : due part.first left ≡ Some (record { field = field; left = after })
  pub right : RightField field means
  pub rights : RightFields after others
  pub meaning : (trees : List Tree) → meanings.in_order meant (tree ∷ trees) ≡ in_turn (means.meaning tree) (meanings.in_order others trees)
  pub tagged : is_of meant tree ≡ true
  pub fewer : (other : Tree) → is_of others other ≡ true → is_of meant other ≡ true

pub record NotDue (left : List forms.Field) (meant : List meanings.Field) (tree : Tree) (part : Part) : Type 0 where
  pub none : due part.first left ≡ None
  pub meaning : (trees : List Tree) → meanings.in_order meant (tree ∷ trees) ≡ None

abbrev due_if : Bool → Option Due → Option Due → Option Due
due_if b x y = if b then x else y

abbrev meant_if : Bool → Option (List Mark) → Option (List Mark) → Option (List Mark)
meant_if b x y = if b then x else y

or-right : (a b : Bool) → b ≡ true → (a || b) ≡ true
or-right true b e = refl
or-right false b e = e

due-as : (left : List forms.Field) (meant : List meanings.Field) (tree : Tree) (part : Part) → RightFields left meant → IsPartOf tree part
    → DueAs left meant tree part ⊎ NotDue left meant tree part
due-as [] [] tree part right is = inr (record { none = refl; meaning = λ trees. refl })
due-as [] (m ∷ meant) tree part right is = absurd right
due-as (field ∷ left) [] tree part right is = absurd right
due-as (field ∷ left) (m ∷ meant) tree part right is = by (due-as left meant tree part right.1 is) (is_tagged m.tags tree) m.is_required refl refl
  where
    told : (b : Bool) → is_tagged m.tags tree ≡ b → has_tag field.tags part.first ≡ b
    told b e = field-told field m tree part right.0 is ∙ e

    here : Due
    here = record { field = field; left = left }

    due-is : (b r : Bool) → is_tagged m.tags tree ≡ b → m.is_required ≡ r
        → due part.first (field ∷ left) ≡ due_if b (Some here) (due_if r None (due part.first left))
    due-is b r e f =
        ap (λ x. due_if x (Some here) (due_if field.is_required None (due part.first left))) (told b e)
        ∙ ap (λ x. due_if b (Some here) (due_if x None (due part.first left))) (right.0.required ∙ f)

    meant-is : (b r : Bool) (trees : List Tree) → is_tagged m.tags tree ≡ b → m.is_required ≡ r
        → meanings.in_order (m ∷ meant) (tree ∷ trees)
        ≡ meant_if b (in_turn (m.meaning tree) (meanings.in_order meant trees)) (meant_if r None (meanings.in_order meant (tree ∷ trees)))
    meant-is b r trees e f =
        ap (λ x. meant_if x (in_turn (m.meaning tree) (meanings.in_order meant trees)) (meant_if m.is_required None (meanings.in_order meant (tree ∷ trees)))) e
        ∙ ap (λ x. meant_if b (in_turn (m.meaning tree) (meanings.in_order meant trees)) (meant_if x None (meanings.in_order meant (tree ∷ trees)))) f

    later : is_tagged m.tags tree ≡ false → m.is_required ≡ false → DueAs left meant tree part ⊎ NotDue left meant tree part → DueAs (field ∷ left) (m ∷ meant) tree part ⊎ NotDue (field ∷ left) (m ∷ meant) tree part
    later e f (inl d) = inl (record {
      field = d.field;
      after = d.after;
      means = d.means;
      others = d.others;
      is_due = due-is false false e f ∙ d.is_due;
      right = d.right;
      rights = d.rights;
      meaning = λ trees. meant-is false false trees e f ∙ d.meaning trees;
      tagged = or-right (is_tagged m.tags tree) (is_of meant tree) d.tagged;
      fewer = λ other k. or-right (is_tagged m.tags other) (is_of meant other) (d.fewer other k);
    })
    later e f (inr d) = inr (record { none = due-is false false e f ∙ d.none; meaning = λ trees. meant-is false false trees e f ∙ d.meaning trees })

    by : DueAs left meant tree part ⊎ NotDue left meant tree part → (b r : Bool) → is_tagged m.tags tree ≡ b → m.is_required ≡ r → DueAs (field ∷ left) (m ∷ meant) tree part ⊎ NotDue (field ∷ left) (m ∷ meant) tree part
    by d true r e f = inl (record {
      field = field;
      after = left;
      means = m;
      others = meant;
      is_due = due-is true r e f;
      right = right.0;
      rights = right.1;
      meaning = λ trees. meant-is true r trees e f;
      tagged = ap (λ x. x || is_of meant tree) e;
      fewer = λ other k. or-right (is_tagged m.tags other) (is_of meant other) k;
    })
    by d false true e f = inr (record { none = due-is false true e f; meaning = λ trees. meant-is false true trees e f })
    by d false false e f = later e f d

-- ---- fields in order

-- where no part follows
lacking-agrees : (place : ℕ) (left : List forms.Field) (meant : List meanings.Field) (found : List Mark) → RightFields left meant
    → Agrees (lacking (list_any (λ field. field.is_required) left) (Some place) found) found (meanings.in_order meant [])
lacking-agrees place [] [] found right = ap Ok (sym (append-nil found))
lacking-agrees place [] (m ∷ meant) found right = absurd right
lacking-agrees place (field ∷ left) [] found right = absurd right
lacking-agrees place (field ∷ left) (m ∷ meant) found right = by m.is_required right.0.required (lacking-agrees place left meant found right.1)
  where
    others : Bool
    others = list_any (λ (f : forms.Field). f.is_required) left

    by : (r : Bool) → field.is_required ≡ r → Agrees (lacking others (Some place) found) found (meanings.in_order meant [])
        → Agrees (lacking (field.is_required || others) (Some place) found) found (meant_if r None (meanings.in_order meant []))
    by true e agrees = fault-along _ (Err place) (ap (λ r. lacking (r || others) (Some place) found) e) tt
    by false e agrees = agrees-along _ _ found _ (ap (λ r. lacking (r || others) (Some place) found) e) agrees

-- those values of which the fields speak, where others are skipped
abbrev kept : Bool → List meanings.Field → List Tree → List Tree
kept skips meant trees = if skips then known meant trees else trees

abbrev trees_if : Bool → List Tree → List Tree → List Tree
trees_if b x y = if b then x else y

kept-known : (skips : Bool) (meant : List meanings.Field) (tree : Tree) (trees : List Tree) → is_of meant tree ≡ true → kept skips meant (tree ∷ trees) ≡ tree ∷ kept skips meant trees
kept-known true meant tree trees e = ap (λ b. trees_if b (tree ∷ known meant trees) (known meant trees)) e
kept-known false meant tree trees e = refl

abbrev if_found : Bool → Found → Found → Found
if_found b x y = if b then x else y

-- a part at which no field is due is skipped, or is a fault
not-due : (skips : Bool) (fields : List forms.Field) (all : List meanings.Field) (meant : List meanings.Field) (tree : Tree) (trees : List Tree) (part : Part) (others : List Mark → Found)
    (found : List Mark) → RightFields fields all → IsPartOf tree part → ((ts : List Tree) → meanings.in_order meant (tree ∷ ts) ≡ None)
    → Agrees (others found) found (meanings.in_order meant (kept skips all trees))
    → Agrees (if_found (skips && not (forms.is_known fields part.first)) (others found) (Err part.at)) found (meanings.in_order meant (kept skips all (tree ∷ trees)))
not-due false fields all meant tree trees part others found right is none agrees = agrees-meant (Err part.at) found _ None (none trees) tt
not-due true fields all meant tree trees part others found right is none agrees = by (is_of all tree) refl
  where
    by : (b : Bool) → is_of all tree ≡ b
        → Agrees (if_found (not (forms.is_known fields part.first)) (others found) (Err part.at)) found (meanings.in_order meant (known all (tree ∷ trees)))
    by true e =
        let told : forms.is_known fields part.first ≡ true = known-told fields all tree part right is ∙ e in
        let kept_is : known all (tree ∷ trees) ≡ tree ∷ known all trees = ap (λ b. trees_if b (tree ∷ known all trees) (known all trees)) e in
        agrees-meant _ found _ None (ap (meanings.in_order meant) kept_is ∙ none (known all trees))
        (fault-along _ (Err part.at) (ap (λ b. if_found (not b) (others found) (Err part.at)) told) tt)
    by false e =
        let told : forms.is_known fields part.first ≡ false = known-told fields all tree part right is ∙ e in
        let kept_is : known all (tree ∷ trees) ≡ known all trees = ap (λ b. trees_if b (tree ∷ known all trees) (known all trees)) e in
        agrees-meant _ found _ _ (ap (meanings.in_order meant) kept_is)
        (agrees-along _ (others found) found _ (ap (λ b. if_found (not b) (others found) (Err part.at)) told) agrees)

pub order-agrees : (skips : Bool) (fields : List forms.Field) (all : List meanings.Field) → RightFields fields all
    → (left : List forms.Field) (meant : List meanings.Field) → RightFields left meant → ((tree : Tree) → is_of meant tree ≡ true → is_of all tree ≡ true)
    → (trees : List Tree) (parts : Parts) (found : List Mark) → AreSpelled trees parts
    → Agrees (in_order parts skips fields left found) found (meanings.in_order meant (kept skips all trees))
order-agrees skips fields all rights left meant right fewer [] (ends None) found are = absurd are
order-agrees true fields all rights left meant right fewer [] (ends (Some place)) found are = lacking-agrees place left meant found right
order-agrees false fields all rights left meant right fewer [] (ends (Some place)) found are = lacking-agrees place left meant found right
order-agrees skips fields all rights left meant right fewer [] (next part parts) found are = absurd are
order-agrees skips fields all rights left meant right fewer (tree ∷ trees) (ends place) found are = absurd are
order-agrees skips fields all rights left meant right fewer (tree ∷ trees) (next part parts) found are =
    by (due-as left meant tree part right are.0)
    (λ after others r f marks. order-agrees skips fields all rights after others r f trees parts marks are.1)
  where
    by : DueAs left meant tree part ⊎ NotDue left meant tree part
        → ((after : List forms.Field) (others : List meanings.Field) → RightFields after others → ((t : Tree) → is_of others t ≡ true → is_of all t ≡ true) → (marks : List Mark)
        → Agrees (in_order parts skips fields after marks) marks (meanings.in_order others (kept skips all trees)))
        → Agrees (step skips fields part (in_order parts skips fields) left found (due part.first left)) found (meanings.in_order meant (kept skips all (tree ∷ trees)))
    by (inl d) go =
        agrees-meant _ found _ _ (ap (meanings.in_order meant) (kept-known skips all tree trees (fewer tree d.tagged)) ∙ d.meaning (kept skips all trees))
        (agrees-along _ _ found _ (ap (step skips fields part (in_order parts skips fields) left found) d.is_due)
        (agrees-then (d.field.read part found) (in_order parts skips fields d.after) found (d.means.meaning tree) (meanings.in_order d.others (kept skips all trees))
        (let r = d.right.right in r.agrees tree part found are.0)
        (λ marks. go d.after d.others d.rights (λ t k. fewer t (d.fewer t k)) marks)))
    by (inr d) go =
        agrees-along _ _ found _ (ap (step skips fields part (in_order parts skips fields) left found) d.none)
        (not-due skips fields all meant tree trees part (in_order parts skips fields left) found rights are.0 d.meaning
        (go left meant right fewer found))

-- ---- SEQUENCE, and what stands within an explicit tag

pub among-right : (fields : List forms.Field) (meant : List meanings.Field) → RightFields fields meant → RightParts (λ parts. in_order parts true fields fields) (fields_among meant)
among-right fields meant right = record { agrees = λ trees parts found are. order-agrees true fields meant right fields meant right (λ tree k. k) trees parts found are }

pub sequence-right : (fields : List forms.Field) (meant : List meanings.Field) → RightFields fields meant → Right (forms.sequence fields) (meanings.sequence meant)
sequence-right fields meant right = constructed-right _ _ (among-right fields meant right)

pub exactly-right : (fields : List forms.Field) (meant : List meanings.Field) → RightFields fields meant → Right (forms.exactly fields) (meanings.exactly meant)
exactly-right fields meant right =
    constructed-right _ _ (record { agrees = λ trees parts found are. order-agrees false fields meant right fields meant right (λ tree k. k) trees parts found are })
