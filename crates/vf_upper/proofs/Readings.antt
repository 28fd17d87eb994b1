-- Readings of what is written find all of it, wherever it stands.
use Rattle.std.proofs.Common.{◌≡◌, ℕ, ◌+◌, Bool, true, false, List, [], ◌∷◌, ◌++◌, All, flat_map, length, map, refl, ap, sym, ◌∙◌, append-nil, append_assoc, arith, eq-eqb, take_all}
use Rattle.std.specs.Prelude.{ℤ, ◌&&◌, nat_eq, Option, None, Some, Ok, Err, if◌then◌else◌}
use Rattle.std.specs.List.{list_all, list_any}
use Rattle.std.specs.Option.{option_and_then}
use Rattle.std.proofs.lemmas.List.{drop_all}
use Rattle.std.proofs.lemmas.List.Elements.{All-cons, All-head, All-nil, All-tail}
use Rattle.std.proofs.lemmas.Bool.{and_parts}
use Rattle.vf_base.specs.Oid.{IsOid}
use Rattle.vf_ber.specs.Contents.{integer_octets, oid_octets}
use Rattle.vf_ber.specs.Limits.{IsTooLarge}
use Rattle.vf_ber.specs.Primitive.{arcs_at, integer_at, oid_with}
use Rattle.vf_ber.specs.Spelling.{spell, spells}
use Rattle.vf_ber.specs.Tags.{AreTrees, IsTree}
use Rattle.vf_ber.specs.Tree.{Tag, Tree, plain, root}
use Rattle.vf_ber.proofs.Integers.{integer-read}
use Rattle.vf_ber.proofs.Oids.{oid-read}
use Rattle.vf_upper.specs.Laws.{IsIdentifier}
use Rattle.vf_upper.specs.Written.{context, holding, trees}
use Rattle.vf_upper.proofs.Parts.{AreParts, first_of, is_low, IsLow, IsPart, low-by, parts-are, small-contents, small-parts, small-spelled, value-octets, reading-alone}
use Rattle.vf_upper_grammar.specs.declared.labels.NameLabel.{NameLabel}
use Rattle.vf_upper_grammar.specs.declared.labels.NumberLabel.{NumberLabel}
use Rattle.vf_upper_grammar.specs.Forms.{◌>>=◌, constructed, due, Due, each, exactly, Field, found_name, found_number, has_tag, in_order, integer, is_allowed, is_allowed_name, is_known, lacking, leading, leads, object_identifier, ordered, Form, sequence, sequence_of, set, step, Tags}
use Rattle.vf_upper_grammar.specs.Marks.{Found, Mark, name, number, value}
use Rattle.vf_upper_grammar.specs.Parts.{ends, is_constructed, next, number_of, Part, Parts, parts_of, Text}
use Rattle.vf_upper_grammar.specs.Texts.{OctetForm, carried, carried_by, explicit_held, prefix, Held, held_in, located, nothing, one, segments, then_read, typed, typed_by, unless}
use Rattle.vf_upper_grammar.specs.Types.{explicit, required}

-- ---- trees within the limits, and their parts

pub record IsSound (tree : Tree) : Type 0 where
  pub is_tree : IsTree tree
  pub small : ¬ IsTooLarge tree

abbrev pub AreSound : List Tree → Type 0
AreSound [] = Unit {0}
AreSound (tree ∷ others) = IsSound tree × AreSound others

sound-in : (ts : List Tree) → AreTrees (trees ts) → All (λ tree. ¬ IsTooLarge tree) ts → AreSound ts
sound-in [] are small = tt
sound-in (tree ∷ ts) are small =
    (record { is_tree = are.0; small = All-head (λ t. ¬ IsTooLarge t) tree ts small }, sound-in ts are.1 (All-tail (λ t. ¬ IsTooLarge t) tree ts small))

sound-parts : (tag : Tag) (ts : List Tree) → IsSound (holding tag ts) → AreSound ts
sound-parts tag ts sound = let is = sound.is_tree in sound-in ts is.1 (small-parts tag ts sound.small)

-- their tags are told by their first octets
abbrev pub are_low : List Tree → Bool
are_low ts = list_all (λ tree. is_low (root tree)) ts

low-trees : (ts : List Tree) → are_low ts ≡ true → All IsLow ts
low-trees [] low = All-nil IsLow
low-trees (tree ∷ ts) low =
    let each = and_parts (is_low (root tree)) (are_low ts) low in
    All-cons IsLow tree ts (low-by tree each.0) (low-trees ts each.1)

-- ---- what readings find, whatever was found before

-- in a part that is the tree's
pub record Reads (read : Form) (tree : Tree) (marks : List Mark) : Type 0 where
  pub finds : (part : Part) (found : List Mark) → IsSound tree → IsPart tree part → read part found ≡ Ok (found ++ marks)

-- in its octets
pub record ReadsOctets (form : OctetForm) (tree : Tree) (marks : List Mark) : Type 0 where
  pub finds : (found : List Mark) → IsSound tree → form (spell tree) found ≡ Ok (found ++ marks)

-- in parts that are those of trees in turn
pub record ReadsParts (read : Parts → List Mark → Found) (ts : List Tree) (marks : List Mark) : Type 0 where
  pub finds : (parts : Parts) (found : List Mark) → AreSound ts → AreParts ts parts → read parts found ≡ Ok (found ++ marks)

-- in parts that are these fields in order; none is skipped, so that it doesn't matter which may be
pub record Orders (left : List Field) (ts : List Tree) (marks : List Mark) : Type 0 where
  pub finds : (skips : Bool) (fields : List Field) (parts : Parts) (found : List Mark) → AreSound ts → AreParts ts parts
      → in_order parts skips fields left found ≡ Ok (found ++ marks)

abbrev if_found : Bool → Found → Found → Found
if_found b x y = if b then x else y

-- ---- fields in order

lacks : (place : Option ℕ) (found : List Mark) → lacking false place found ≡ Ok found
lacks None found = refl
lacks (Some place) found = refl

no_more : {left : List Field} → list_any (λ field. field.is_required) left ≡ false → Orders left [] []
no_more {left} none = record { finds = ends-found }
  where
    ends-found : (skips : Bool) (fields : List Field) (parts : Parts) (found : List Mark) → AreSound [] → AreParts [] parts
        → in_order parts skips fields left found ≡ Ok (found ++ [])
    ends-found skips fields (ends place) found sound are =
        ap (λ some. lacking some place found) none ∙ lacks place found ∙ ap Ok (sym (append-nil found))
    ends-found skips fields (next part parts) found sound are = absurd are

-- the field that is due at the first tree reads it, and the fields after it read the others
pub then_field : {field : Field} {left after : List Field} {tree : Tree} {ts : List Tree} {marks others : List Mark}
    → due (first_of tree) left ≡ Some (record { field = field; left = after }) → Reads field.read tree marks → Orders after ts others
    → Orders left (tree ∷ ts) (marks ++ others)
then_field {field} {left} {after} {tree} {ts} {marks} {others} is_due reads orders = record { finds = field-found }
  where
    field-found : (skips : Bool) (fields : List Field) (parts : Parts) (found : List Mark) → AreSound (tree ∷ ts) → AreParts (tree ∷ ts) parts
        → in_order parts skips fields left found ≡ Ok (found ++ (marks ++ others))
    field-found skips fields (ends place) found sound are = absurd are
    field-found skips fields (next part parts) found sound are =
        ap (step skips fields part (in_order parts skips fields) left found) (ap (λ first. due first left) are.0.first ∙ is_due)
        ∙ ap (λ y. y >>= in_order parts skips fields after) (reads.finds part found sound.0 are.0)
        ∙ orders.finds skips fields parts (found ++ marks) sound.1 are.1
        ∙ ap Ok (append_assoc found marks others)

pub last_field : {field : Field} {left after : List Field} {tree : Tree} {marks : List Mark}
    → due (first_of tree) left ≡ Some (record { field = field; left = after }) → list_any (λ f. f.is_required) after ≡ false → Reads field.read tree marks
    → Orders left (tree ∷ []) marks
last_field {field} {left} {after} {tree} {marks} is_due none reads = record { finds = field-found }
  where
    field-found : (skips : Bool) (fields : List Field) (parts : Parts) (found : List Mark) → AreSound (tree ∷ []) → AreParts (tree ∷ []) parts
        → in_order parts skips fields left found ≡ Ok (found ++ marks)
    field-found skips fields parts found sound are =
        let all = then_field is_due reads (no_more none) in
        all.finds skips fields parts found sound are ∙ ap (λ m. Ok (found ++ m)) (append-nil marks)

abbrev due_if : Bool → Field → Option Due
due_if b field = if b then Some (record { field = field; left = [] }) else None

due-one : (tags : Tags) (read : Form) (first : ℕ) → has_tag tags first ≡ true → due first (required tags read ∷ []) ≡ Some (record { field = required tags read; left = [] })
due-one tags read first has = ap (λ b. due_if b (required tags read)) has

-- ---- values in turn

each-found : {X : Type 0} (P : X → Type 0) (tags : Tags) (read : Form) (tree : X → Tree) (marks : X → List Mark)
    → ((x : X) → has_tag tags (first_of (tree x)) ≡ true) → ((x : X) → P x → Reads read (tree x) (marks x)) → (xs : List X) → All P xs
    → (parts : Parts) (found : List Mark) → AreSound (map tree xs) → AreParts (map tree xs) parts → each parts tags read found ≡ Ok (found ++ flat_map marks xs)
each-found P tags read tree marks tag reads [] all (ends place) found sound are = ap Ok (sym (append-nil found))
each-found P tags read tree marks tag reads [] all (next part parts) found sound are = absurd are
each-found P tags read tree marks tag reads (x ∷ xs) all (ends place) found sound are = absurd are
each-found P tags read tree marks tag reads (x ∷ xs) all (next part parts) found sound are =
    let first = reads x (All-head P x xs all) in
    ap (λ b. if_found b (read part found >>= each parts tags read) (Err part.at)) (ap (has_tag tags) are.0.first ∙ tag x)
    ∙ ap (λ y. y >>= each parts tags read) (first.finds part found sound.0 are.0)
    ∙ each-found P tags read tree marks tag reads xs (All-tail P x xs all) parts (found ++ marks x) sound.1 are.1
    ∙ ap Ok (append_assoc found (marks x) (flat_map marks xs))

-- ---- constructed types

abbrev text_of : List ℕ → ℕ → Bool → Text
text_of octets at whole = record { octets = octets; at = at; whole = whole }

text-is : (text : Text) (octets : List ℕ) → text.octets ≡ octets → text.whole ≡ true → text ≡ text_of octets text.at true
text-is text octets same whole = ap (λ o. text_of o text.at text.whole) same ∙ ap (text_of octets text.at) whole

pub constructed-reads : {read : Parts → List Mark → Found} {tag : Tag} {ts : List Tree} {marks : List Mark}
    → is_constructed (first_of (holding tag ts)) ≡ true → are_low ts ≡ true → ReadsParts read ts marks → Reads (constructed read) (holding tag ts) marks
constructed-reads {read} {tag} {ts} {marks} built low reads = record { finds = built-found }
  where
    built-found : (part : Part) (found : List Mark) → IsSound (holding tag ts) → IsPart (holding tag ts) part → constructed read part found ≡ Ok (found ++ marks)
    built-found part found sound is =
        let parts = sound-parts tag ts sound in
        ap (λ b. if_found b (read (parts_of part.contents) found) (Err part.at)) (ap is_constructed is.first ∙ built)
        ∙ ap (λ text. read (parts_of text) found) (text-is part.contents (spells (trees ts)) is.octets is.whole)
        ∙ reads.finds (parts_of (text_of (spells (trees ts)) part.contents.at true)) found parts
        (parts-are ts part.contents.at (low-trees ts low) (small-contents (holding tag ts) sound.small))

in_order-reads : (skips : Bool) (fields : List Field) (ts : List Tree) (marks : List Mark) → Orders fields ts marks → ReadsParts (λ parts. in_order parts skips fields fields) ts marks
in_order-reads skips fields ts marks orders = record { finds = λ parts found sound are. orders.finds skips fields parts found sound are }

pub sequence-reads : {fields : List Field} {tag : Tag} {ts : List Tree} {marks : List Mark}
    → is_constructed (first_of (holding tag ts)) ≡ true → are_low ts ≡ true → Orders fields ts marks → Reads (sequence fields) (holding tag ts) marks
sequence-reads {fields} {tag} {ts} {marks} built low orders = constructed-reads built low (in_order-reads true fields ts marks orders)

pub exactly-reads : {fields : List Field} {tag : Tag} {ts : List Tree} {marks : List Mark}
    → is_constructed (first_of (holding tag ts)) ≡ true → are_low ts ≡ true → Orders fields ts marks → Reads (exactly fields) (holding tag ts) marks
exactly-reads {fields} {tag} {ts} {marks} built low orders = constructed-reads built low (in_order-reads false fields ts marks orders)

pub explicit-reads : (tags : Tags) (read : Form) {tag : Tag} {tree : Tree} {marks : List Mark}
    → is_constructed (first_of (holding tag (tree ∷ []))) ≡ true → is_low (root tree) ≡ true → has_tag tags (first_of tree) ≡ true → Reads read tree marks
    → Reads (explicit tags read) (holding tag (tree ∷ [])) marks
explicit-reads tags read {tag} {tree} {marks} built low has reads = exactly-reads built (ap (λ b. b && true) low) (last_field (due-one tags read (first_of tree) has) refl reads)

pub sequence_of-reads : {X : Type 0} (P : X → Type 0) (tags : Tags) (read : Form) (tree : X → Tree) (marks : X → List Mark) {tag : Tag} (xs : List X)
    → is_constructed (first_of (holding tag (map tree xs))) ≡ true → ((x : X) → is_low (root (tree x)) ≡ true) → ((x : X) → has_tag tags (first_of (tree x)) ≡ true)
    → ((x : X) → P x → Reads read (tree x) (marks x)) → All P xs
    → Reads (sequence_of tags read) (holding tag (map tree xs)) (flat_map marks xs)
sequence_of-reads {X} P tags read tree marks {tag} xs built low has reads all =
    constructed-reads {ts = map tree xs} built (all-low xs) (record { finds = each-found P tags read tree marks has reads xs all })
  where
    all-low : (xs : List X) → are_low (map tree xs) ≡ true
    all-low [] = refl
    all-low (x ∷ xs) = ap (λ b. b && are_low (map tree xs)) (low x) ∙ all-low xs

abbrev part_if : Bool → Part → Option Part → Option Part
part_if b part other = if b then Some part else other

-- the first of the parts is the leading one where its tag is one of theirs
pub leading-first : (fields : List Field) (part : Part) (parts : Parts) (first : ℕ) → part.first ≡ first → is_known fields first ≡ true
    → leading fields (next part parts) ≡ Some part
leading-first fields part parts first is known = ap (λ b. part_if b part (leading fields parts)) (ap (is_known fields) is ∙ known)

abbrev order_if : Bool → Field → Field → List Field
order_if b one other = if b then other ∷ one ∷ [] else one ∷ other ∷ []

-- a SET whose first part is the first of its two fields
pub set-reads : {first other : Field} {tag : Tag} {tree : Tree} {ts : List Tree} {marks : List Mark}
    → is_constructed (first_of (holding tag (tree ∷ ts))) ≡ true → are_low (tree ∷ ts) ≡ true
    → is_known (first ∷ other ∷ []) (first_of tree) ≡ true → has_tag other.tags (first_of tree) ≡ false
    → Orders (first ∷ other ∷ []) (tree ∷ ts) marks → Reads (set first other) (holding tag (tree ∷ ts)) marks
set-reads {first} {other} {tag} {tree} {ts} {marks} built low known apart orders = constructed-reads {ts = tree ∷ ts} built low (record { finds = set-found })
  where
    set-found : (parts : Parts) (found : List Mark) → AreSound (tree ∷ ts) → AreParts (tree ∷ ts) parts
        → in_order parts true (ordered first other parts) (ordered first other parts) found ≡ Ok (found ++ marks)
    set-found (ends place) found sound are = absurd are
    set-found (next part parts) found sound are =
        let fields = first ∷ other ∷ [] in
        let first_one = leading-first fields part parts (first_of tree) are.0.first known in
        let same : ordered first other (next part parts) ≡ fields =
        ap (λ p. order_if (leads other.tags p) first other) first_one ∙ ap (λ b. order_if b first other) (ap (has_tag other.tags) are.0.first ∙ apart) in
        ap (λ o. in_order (next part parts) true o o found) same ∙ orders.finds true fields (next part parts) found sound are

-- ---- primitive types

abbrev leaf : Bool → Bool → ℕ → Found → Found → Found
leaf constructed whole at read cut = if constructed then Err at else (if whole then read else cut)

pub integer-reads : (only : Option ℕ) (label : NumberLabel) {tag : Tag} {n : ℤ} → is_constructed (first_of (plain tag (integer_octets n))) ≡ false
    → is_allowed only n ≡ true → IsIdentifier n → Reads (integer only label) (plain tag (integer_octets n)) (number label n ∷ [])
integer-reads only label {tag} {n} primitive allowed fits = record { finds = integer-found }
  where
    integer-found : (part : Part) (found : List Mark) → IsSound (plain tag (integer_octets n)) → IsPart (plain tag (integer_octets n)) part
        → integer only label part found ≡ Ok (found ++ number label n ∷ [])
    integer-found part found sound is =
        let seen : Found = found_number only label part.at found (integer_at part.contents.octets) in
        ap (λ b. leaf b part.contents.whole part.at seen (Ok found)) (ap is_constructed is.first ∙ primitive)
        ∙ ap (λ b. leaf false b part.at seen (Ok found)) is.whole
        ∙ ap (found_number only label part.at found) (ap integer_at is.octets ∙ integer-read n fits)
        ∙ ap (λ b. if_found b (Ok (found ++ number label n ∷ [])) (Err part.at)) allowed

pub oid-reads : (only : Option (List ℕ)) (label : NameLabel) {tag : Tag} {arcs : List ℕ} → is_constructed (first_of (plain tag (oid_octets arcs))) ≡ false
    → is_allowed_name only arcs ≡ true → IsOid arcs → Reads (object_identifier only label) (plain tag (oid_octets arcs)) (name label arcs ∷ [])
oid-reads only label {tag} {arcs} primitive allowed fits = record { finds = oid-found }
  where
    oid-found : (part : Part) (found : List Mark) → IsSound (plain tag (oid_octets arcs)) → IsPart (plain tag (oid_octets arcs)) part
        → object_identifier only label part found ≡ Ok (found ++ name label arcs ∷ [])
    oid-found part found sound is =
        let read_oid : List ℕ → Option (List ℕ) = λ o. option_and_then oid_with (arcs_at o) in
        let seen : Found = found_name only label part.at found (read_oid part.contents.octets) in
        ap (λ b. leaf b part.contents.whole part.at seen (Ok found)) (ap is_constructed is.first ∙ primitive)
        ∙ ap (λ b. leaf false b part.at seen (Ok found)) is.whole
        ∙ ap (found_name only label part.at found) (ap read_oid is.octets ∙ oid-read arcs fits)
        ∙ ap (λ b. if_found b (Ok (found ++ name label arcs ∷ [])) (Err part.at)) allowed

-- ---- octets

one-found : (tree : Tree) (found : List Mark) → IsSound tree → one (spell tree) found ≡ Ok (found ++ value tree ∷ [])
unfolding one
one-found tree found sound =
    let n = length (spell tree) in
    let marks : List Mark = found ++ value tree ∷ [] in
    ap (then_read 0 (spell tree) nothing found) (reading-alone tree sound.is_tree sound.small)
    ∙ ap (λ o. nothing (0 + n) o marks) (drop_all n (spell tree) (omega arith))

pub one-reads : {tree : Tree} → ReadsOctets one tree (value tree ∷ [])
one-reads {tree} = record { finds = one-found tree }

abbrev after_if : Bool → ℕ → Option ℕ
after_if b n = if b then None else Some n

typed-found : (tags : Tags) (read : Form) (tree : Tree) (marks : List Mark) → has_tag tags (first_of tree) ≡ true → is_low (root tree) ≡ true → Reads read tree marks
    → (found : List Mark) → IsSound tree → typed tags read (spell tree) found ≡ Ok (found ++ marks)
unfolding typed
typed-found tags read tree marks has low reads found sound =
    let octets = spell tree in
    let n = length octets in
    let fields = required tags read ∷ [] in
    let orders : Orders fields (tree ∷ []) marks = last_field (due-one tags read (first_of tree) has) refl reads in
    ap (λ v. typed_by tags read (prefix octets v) found) (reading-alone tree sound.is_tree sound.small)
    ∙ ap (λ o. in_order (parts_of (text_of o 0 true)) false fields fields found >>= unless (after_if (nat_eq n n) n)) (take_all n octets (omega arith))
    ∙ ap (λ y. y >>= unless (after_if (nat_eq n n) n))
    (orders.finds false fields (parts_of (text_of octets 0 true)) found (sound, tt) (value-octets tree 0 (low-by tree low) (small-spelled tree sound.small)))
    ∙ ap (λ b. unless (after_if b n) (found ++ marks)) (eq-eqb n n refl)

pub typed-reads : (tags : Tags) (read : Form) {tree : Tree} {marks : List Mark} → has_tag tags (first_of tree) ≡ true → is_low (root tree) ≡ true → Reads read tree marks
    → ReadsOctets (typed tags read) tree marks
typed-reads tags read {tree} {marks} has low reads = record { finds = typed-found tags read tree marks has low reads }

-- ---- a value in [0]

abbrev held_by : Part → ℕ → Option Held
held_by part first =
    if nat_eq (number_of first) 0
    then (if is_constructed first then Some (explicit_held part.contents) else None)
    else (if is_constructed first then Some (segments part.after part.contents) else Some (held_in part.contents part.after))

carried-found : (form : OctetForm) (tree : Tree) (marks : List Mark) → ReadsOctets form tree marks → (part : Part) (found : List Mark)
    → IsSound (holding (context 0) (tree ∷ [])) → IsPart (holding (context 0) (tree ∷ [])) part → carried form part found ≡ Ok (found ++ marks)
carried-found form tree marks reads part found sound is =
    let all : List ℕ = spell tree ++ [] in
    let seen : Held = explicit_held (text_of all part.contents.at true) in
    let parts = sound-parts (context 0) (tree ∷ []) sound in
    ap (λ first. carried_by form part.at found (held_by part first)) is.first
    ∙ ap (λ text. carried_by form part.at found (Some (explicit_held text))) (text-is part.contents all is.octets is.whole)
    ∙ ap (λ o. located seen (form o found)) (append-nil (spell tree))
    ∙ ap (located seen) (reads.finds found parts.0)

pub carried-reads : {form : OctetForm} {tree : Tree} {marks : List Mark} → ReadsOctets form tree marks → Reads (carried form) (holding (context 0) (tree ∷ [])) marks
carried-reads {form} {tree} {marks} reads = record { finds = carried-found form tree marks reads }
