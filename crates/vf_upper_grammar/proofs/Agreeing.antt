-- What is found in parts that are values is what the values mean.
use Rattle.std.proofs.Common.{◌≡◌, ℕ, Bool, true, false, List, [], ◌∷◌, ◌++◌, refl, ap, sym, subst, ◌∙◌, append-nil, append_assoc, arith}
use Rattle.std.specs.Prelude.{ℤ, ◌&&◌, nat_eq, nat_le, Option, None, Some, Ok, Err, if◌then◌else◌}
use Rattle.std.proofs.lemmas.Bool.Decides.{nat_tests}
use Rattle.vf_ber.proofs.Names.{bit-first, class-first, low-first}
use Rattle.vf_ber.specs.Primitive.{integer_at, oid_at}
use Rattle.vf_ber.specs.Spelling.{first_octet}
use Rattle.vf_ber.specs.Tree.{built, plain, Tag, Tree, Trees}
use Rattle.vf_upper_grammar.specs.declared.labels.NameLabel.{NameLabel}
use Rattle.vf_upper_grammar.specs.declared.labels.NumberLabel.{NumberLabel}
use Rattle.vf_upper_grammar.specs.Forms as forms
use Rattle.vf_upper_grammar.specs.Forms.{◌>>=◌, Form, Tags}
use Rattle.vf_upper_grammar.specs.Marks.{Found, Mark}
use Rattle.vf_upper_grammar.specs.Meanings as meanings
use Rattle.vf_upper_grammar.specs.Meanings.{in_turn, is_tagged, list_of, Meaning}
use Rattle.vf_upper_grammar.specs.Meant.{Agrees, IsFault}
use Rattle.vf_upper_grammar.specs.Parts.{ends, is_constructed, next, number_of, Part, Parts, parts_of}
use Rattle.vf_upper_grammar.proofs.Spelled.{AreSpelled, first_of, IsPartOf, low, low-small, parts-spelled}

-- ---- answers that agree

pub agrees-along : (x y : Found) (found : List Mark) (meant : Option (List Mark)) → x ≡ y → Agrees y found meant → Agrees x found meant
agrees-along x y found meant e a = let P : Found → Type 0 = λ z. Agrees z found meant in subst P (sym e) a

pub agrees-meant : (x : Found) (found : List Mark) (a b : Option (List Mark)) → a ≡ b → Agrees x found b → Agrees x found a
agrees-meant x found a b e ag = let P : Option (List Mark) → Type 0 = λ o. Agrees x found o in subst P (sym e) ag

pub fault-along : (x y : Found) → x ≡ y → IsFault y → IsFault x
fault-along x y e f = subst IsFault (sym e) f

pub fault-then : (x : Found) (f : List Mark → Found) → IsFault x → IsFault (x >>= f)
fault-then (Ok marks) f fault = absurd fault
fault-then (Err place) f fault = tt

pub then-fault : (x : Found) (f : List Mark → Found) → ((marks : List Mark) → IsFault (f marks)) → IsFault (x >>= f)
then-fault (Ok marks) f fault = fault marks
then-fault (Err place) f fault = tt

-- others after a first, whatever was found before
pub regroup : (x : Found) (found marks : List Mark) (other : Option (List Mark)) → Agrees x (found ++ marks) other → Agrees x found (in_turn (Some marks) other)
regroup x found marks None agrees = agrees
regroup x found marks (Some others) agrees = agrees ∙ ap Ok (append_assoc found marks others)

pub agrees-then : (x : Found) (f : List Mark → Found) (found : List Mark) (first other : Option (List Mark)) → Agrees x found first
    → ((marks : List Mark) → Agrees (f marks) marks other) → Agrees (x >>= f) found (in_turn first other)
agrees-then x f found None other agrees go = fault-then x f agrees
agrees-then x f found (Some marks) other agrees go =
    agrees-along (x >>= f) (f (found ++ marks)) found (in_turn (Some marks) other) (ap (λ y. y >>= f) agrees)
    (regroup (f (found ++ marks)) found marks other (go (found ++ marks)))

abbrev if_found : Bool → Found → Found → Found
if_found b x y = if b then x else y

pub agrees-if : (b : Bool) (x y : Found) (found : List Mark) (p q : Option (List Mark)) → Agrees x found p → Agrees y found q → Agrees (if b then x else y) found (if b then p else q)
agrees-if true x y found p q first second = first
agrees-if false x y found p q first second = second

-- ---- types

-- what is found in a part by a form is what its value means
pub record Right (form : Form) (meaning : Meaning) : Type 0 where
  pub agrees : (tree : Tree) (part : Part) (found : List Mark) → IsPartOf tree part → Agrees (form part found) found (meaning tree)

-- the same of the parts of a value
pub record RightParts (read : Parts → List Mark → Found) (meaning : List Tree → Option (List Mark)) : Type 0 where
  pub agrees : (trees : List Tree) (parts : Parts) (found : List Mark) → AreSpelled trees parts → Agrees (read parts found) found (meaning trees)

plain-form : (tag : Tag) (octets : List ℕ) (part : Part) → IsPartOf (plain tag octets) part → is_constructed part.first ≡ false
plain-form tag octets part is = ap is_constructed is.first ∙ bit-first false tag.class (low tag.number) (low-small tag.number)

pub built-form : (tree : Tree) (part : Part) → IsPartOf tree part → (tag : Tag) → first_of tree ≡ first_octet true tag.class (low tag.number) → is_constructed part.first ≡ true
built-form tree part is tag e = ap is_constructed (is.first ∙ e) ∙ bit-first true tag.class (low tag.number) (low-small tag.number)

-- ---- primitive types

number-agrees : (only : Option ℕ) (label : NumberLabel) (at : ℕ) (found : List Mark) (o : Option ℤ)
    → Agrees (forms.found_number only label at found o) found (meanings.number_meant only label o)
number-agrees only label at found None = tt
number-agrees only label at found (Some n) = agrees-if (forms.is_allowed only n) _ (Err at) found _ None refl tt

name-agrees : (only : Option (List ℕ)) (label : NameLabel) (at : ℕ) (found : List Mark) (o : Option (List ℕ))
    → Agrees (forms.found_name only label at found o) found (meanings.name_meant only label o)
name-agrees only label at found None = tt
name-agrees only label at found (Some arcs) = agrees-if (forms.is_allowed_name only arcs) _ (Err at) found _ None refl tt

-- a primitive type, by what it makes of contents
abbrev primitive_read : (List ℕ → Found) → Part → List Mark → Found
primitive_read read part found = if_found (is_constructed part.first) (Err part.at) (if_found part.contents.whole (read part.contents.octets) (Ok found))

primitive-plain : (read : List ℕ → Found) (tag : Tag) (octets : List ℕ) (part : Part) (found : List Mark) → IsPartOf (plain tag octets) part → primitive_read read part found ≡ read octets
primitive-plain read tag octets part found is =
    ap (λ b. if_found b (Err part.at) (if_found part.contents.whole (read part.contents.octets) (Ok found))) (plain-form tag octets part is)
    ∙ ap (λ w. if_found w (read part.contents.octets) (Ok found)) is.whole
    ∙ ap read is.holds

primitive-built : (read : List ℕ → Found) (tag : Tag) (parts : Trees) (part : Part) (found : List Mark) → IsPartOf (built tag parts) part → IsFault (primitive_read read part found)
primitive-built read tag parts part found is =
    fault-along (primitive_read read part found) (Err part.at)
    (ap (λ b. if_found b (Err part.at) (if_found part.contents.whole (read part.contents.octets) (Ok found))) (built-form (built tag parts) part is tag refl)) tt

pub integer-right : (only : Option ℕ) (label : NumberLabel) → Right (forms.integer only label) (meanings.integer only label)
integer-right only label = record { agrees = by }
  where
    by : (tree : Tree) (part : Part) (found : List Mark) → IsPartOf tree part → Agrees (forms.integer only label part found) found (meanings.integer only label tree)
    by (plain tag octets) part found is =
        let read = λ (o : List ℕ). forms.found_number only label part.at found (integer_at o) in
        agrees-along _ (read octets) found _ (primitive-plain read tag octets part found is) (number-agrees only label part.at found (integer_at octets))
    by (built tag parts) part found is = primitive-built (λ o. forms.found_number only label part.at found (integer_at o)) tag parts part found is

pub oid-right : (only : Option (List ℕ)) (label : NameLabel) → Right (forms.object_identifier only label) (meanings.object_identifier only label)
oid-right only label = record { agrees = by }
  where
    by : (tree : Tree) (part : Part) (found : List Mark) → IsPartOf tree part → Agrees (forms.object_identifier only label part found) found (meanings.object_identifier only label tree)
    by (plain tag octets) part found is =
        let read = λ (o : List ℕ). forms.found_name only label part.at found (oid_at o) in
        agrees-along _ (read octets) found _ (primitive-plain read tag octets part found is) (name-agrees only label part.at found (oid_at octets))
    by (built tag parts) part found is =
        primitive-built (λ o. forms.found_name only label part.at found (oid_at o)) tag parts part found is

-- ---- constructed types

pub constructed-right : (read : Parts → List Mark → Found) (meaning : List Tree → Option (List Mark)) → RightParts read meaning
    → Right (forms.constructed read) (meanings.constructed meaning)
constructed-right read meaning right = record { agrees = by }
  where
    by : (tree : Tree) (part : Part) (found : List Mark) → IsPartOf tree part → Agrees (forms.constructed read part found) found (meanings.constructed meaning tree)
    by (plain tag octets) part found is =
        fault-along _ (Err part.at) (ap (λ b. if_found b (read (parts_of part.contents) found) (Err part.at)) (plain-form tag octets part is)) tt
    by (built tag parts) part found is =
        let shallow = is.shallow in
        agrees-along _ (read (parts_of part.contents) found) found _
        (ap (λ b. if_found b (read (parts_of part.contents) found) (Err part.at)) (built-form (built tag parts) part is tag refl))
        (right.agrees (list_of parts) (parts_of part.contents) found (parts-spelled parts part.contents is.whole is.holds (omega arith) is.small))

pub skipped-right : Right forms.skipped meanings.skipped
skipped-right = constructed-right (λ parts found. Ok found) (λ trees. Some []) (record { agrees = λ trees parts found are. ap Ok (sym (append-nil found)) })

-- ---- tags

-- no number of these tags is above 30, so that a first octet tells whether a value has one of them
abbrev pub is_low : Tags → Bool
is_low tags = nat_le tags.to 30

first-octet-tag : (tags : Tags) (constructed : Bool) (tag : Tag) → is_low tags ≡ true
    → forms.has_tag tags (first_octet constructed tag.class (low tag.number)) ≡ (nat_eq tag.class tags.class && nat_le tags.from tag.number && nat_le tag.number tags.to)
first-octet-tag tags constructed tag small =
    let class = class-first constructed tag.class (low tag.number) (low-small tag.number) in
    let number = low-first constructed tag.class (low tag.number) (low-small tag.number) in
    ap (λ c. nat_eq c tags.class && nat_le tags.from (number_of (first_octet constructed tag.class (low tag.number))) && nat_le (number_of (first_octet constructed tag.class (low tag.number))) tags.to) class
    ∙ ap (λ n. nat_eq tag.class tags.class && nat_le tags.from n && nat_le n tags.to) number
    ∙ low-within (nat_eq tag.class tags.class) tags.from tags.to tag.number small
  where
    low-within : (b : Bool) (from to n : ℕ) → nat_le to 30 ≡ true → (b && nat_le from (low n) && nat_le (low n) to) ≡ (b && nat_le from n && nat_le n to)
    low-within b from to n e = grind (arith, nat_tests)

pub tag-told : (tags : Tags) (tree : Tree) (part : Part) → is_low tags ≡ true → IsPartOf tree part → forms.has_tag tags part.first ≡ is_tagged tags tree
tag-told tags (plain tag octets) part small is = ap (forms.has_tag tags) is.first ∙ first-octet-tag tags false tag small
tag-told tags (built tag parts) part small is = ap (forms.has_tag tags) is.first ∙ first-octet-tag tags true tag small

-- ---- SEQUENCE OF

pub each-right : (tags : Tags) (read : Form) (meaning : Meaning) → is_low tags ≡ true → Right read meaning → RightParts (λ parts. forms.each parts tags read) (meanings.each tags meaning)
each-right tags read meaning small right = record { agrees = by }
  where
    by : (trees : List Tree) (parts : Parts) (found : List Mark) → AreSpelled trees parts → Agrees (forms.each parts tags read found) found (meanings.each tags meaning trees)
    by [] (ends None) found are = absurd are
    by [] (ends (Some place)) found are = ap Ok (sym (append-nil found))
    by [] (next part parts) found are = absurd are
    by (tree ∷ trees) (ends place) found are = absurd are
    by (tree ∷ trees) (next part parts) found are =
        let rest = forms.each parts tags read in
        agrees-along _ _ found _ (ap (λ b. if_found b (read part found >>= rest) (Err part.at)) (tag-told tags tree part small are.0))
        (agrees-if (is_tagged tags tree) (read part found >>= rest) (Err part.at) found (in_turn (meaning tree) (meanings.each tags meaning trees)) None
        (agrees-then (read part found) rest found (meaning tree) (meanings.each tags meaning trees) (right.agrees tree part found are.0) (λ marks. by trees parts marks are.1)) tt)

pub sequence_of-right : (tags : Tags) (read : Form) (meaning : Meaning) → is_low tags ≡ true → Right read meaning → Right (forms.sequence_of tags read) (meanings.sequence_of tags meaning)
sequence_of-right tags read meaning small right = constructed-right _ _ (each-right tags read meaning small right)
