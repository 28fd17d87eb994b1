-- The spellings of trees are read as their parts, one by one, and whole.
use Rattle.std.proofs.Common.{◌≡◌, ℕ, zero, suc, ◌+◌, ◌<◌, ◌≤◌, Bool, true, false, List, [], ◌∷◌, ◌++◌, length, refl, ap, sym, subst, ◌∙◌, append_assoc, arith, length-append, inl, inr}
use Rattle.std.specs.Prelude.{◌&&◌, nat_eq, nat_le, nat_lt, Option, Some}
use Rattle.std.specs.List.{All}
use Rattle.std.specs.Option.{option_and_then}
use Rattle.std.proofs.lemmas.Bool.{and_parts, cases_lt, cond-true, cond-false, leb-true, lt-ltb, ne_eqb}
use Rattle.std.proofs.lemmas.List.{append-nil}
use Rattle.std.proofs.lemmas.List.Elements.{All-cons, All-head, All-nil, All-tail}
use Rattle.vf_ber.proofs.Canonical.{length_is}
use Rattle.vf_ber.proofs.Names.{identifier-short, low-first}
use Rattle.vf_ber.proofs.Plain.{reading_found}
use Rattle.vf_ber.proofs.Readings.{read_again}
use Rattle.vf_ber.specs.Limits.{IsTooLarge}
use Rattle.vf_ber.specs.Reader.{reading}
use Rattle.vf_ber.specs.Spelling.{first_octet, header, length_octets, spell, spells}
use Rattle.vf_ber.specs.Tags.{AreTrees, IsTag, IsTree}
use Rattle.vf_ber.specs.Tree.{built, depth_in, plain, root, Tag, Tree}
use Rattle.vf_ber.specs.Reading.{Read}
use Rattle.vf_upper.specs.Written.{holding, trees}
use Rattle.vf_upper_grammar.proofs.Spelled.{length-found, piece-definite}
use Rattle.vf_upper_grammar.specs.Parts.{after_length, ends, Header, header_at, next, number_of, Part, part_with, Parts, parts_by, parts_in, parts_of, Piece, place_in, FirstPart, first_part, first_part_at, first_part_by, Text}

-- ---- trees and their parts

-- Its first octet tells its tag: the number is at most 30.
abbrev pub IsLow : Tree → Type 0
IsLow tree = IsTag (root tree) × ((root tree).number ≤ 30)

-- the same of a tag, as a test
abbrev pub is_low : Tag → Bool
is_low tag = nat_le tag.class 3 && nat_le tag.number 30 && nat_le 1 (tag.class + tag.number)

abbrev pub first_of : Tree → ℕ
first_of (plain tag octets) = first_octet false tag.class tag.number
first_of (built tag parts) = first_octet true tag.class tag.number

abbrev pub contents_of : Tree → List ℕ
contents_of (plain tag octets) = octets
contents_of (built tag parts) = spells parts

-- a part that is a tree's, whole
pub record IsPart (tree : Tree) (part : Part) : Type 0 where
  pub first : part.first ≡ first_of tree
  pub octets : part.contents.octets ≡ contents_of tree
  pub whole : part.contents.whole ≡ true

-- parts that are those of trees in turn, with nothing after
abbrev pub AreParts : List Tree → Parts → Type 0
AreParts [] (ends place) = Unit {0}
AreParts [] (next part parts) = ⊥
AreParts (tree ∷ others) (ends place) = ⊥
AreParts (tree ∷ others) (next part parts) = IsPart tree part × AreParts others parts

-- by the test, which computes for the tags of a type
pub low-by : (tree : Tree) → is_low (root tree) ≡ true → IsLow tree
low-by tree e =
    let class = (root tree).class in
    let number = (root tree).number in
    let some = and_parts (nat_le class 3 && nat_le number 30) (nat_le 1 (class + number)) e in
    let few = and_parts (nat_le class 3) (nat_le number 30) some.0 in
    let low : number ≤ 30 = leb-true number 30 few.1 in
    (record { class_within = leb-true class 3 few.0; number_within = omega arith; some_value = leb-true 1 (class + number) some.1 }, low)

-- ---- first octets

number-of : (tree : Tree) → IsLow tree → number_of (first_of tree) ≡ (root tree).number
number-of (plain tag octets) low = let few = low.1 in low-first false tag.class tag.number (omega arith)
number-of (built tag parts) low = let few = low.1 in low-first true tag.class tag.number (omega arith)

some-first : (tree : Tree) → IsLow tree → nat_eq (first_of tree) 0 ≡ false
some-first (plain tag octets) low = let some = low.0.some_value in ne_eqb (first_octet false tag.class tag.number) 0 (λ e. omega arith)
some-first (built tag parts) low = ne_eqb (first_octet true tag.class tag.number) 0 (λ e. omega arith)

-- ---- parts of spellings

-- the contents are the last octets of a spelling
contents-fewer : (tree : Tree) → length (contents_of tree) ≤ length (spell tree)
contents-fewer (plain tag octets) = omega (arith, length-append (header false tag (length octets)) octets)
contents-fewer (built tag parts) = omega (arith, length-append (header true tag (length (spells parts))) (spells parts))

-- the first octet, a length, and the contents
spell-low : (tree : Tree) → IsLow tree → spell tree ≡ first_of tree ∷ (length_octets (length (contents_of tree)) ++ contents_of tree)
spell-low (plain tag octets) low =
    let few = low.1 in
    ap (λ i. (i ++ length_octets (length octets)) ++ octets) (identifier-short false tag.class tag.number (omega arith))
spell-low (built tag parts) low =
    let few = low.1 in
    ap (λ i. (i ++ length_octets (length (spells parts))) ++ spells parts) (identifier-short true tag.class tag.number (omega arith))

spelled-some : (tree : Tree) → IsLow tree → 0 < length (spell tree)
spelled-some tree low = rw (spell-low tree low) (omega arith)

-- a length, and what stands after it
abbrev counted : ℕ → List ℕ → Option Header
counted n rest = Some (record { count = Some n; rest = rest })

header-spelled : (tree : Tree) (rest : List ℕ) → IsLow tree → length (contents_of tree) ≤ 1048576
    → header_at (first_of tree ∷ ((length_octets (length (contents_of tree)) ++ contents_of tree) ++ rest)) ≡ counted (length (contents_of tree)) (contents_of tree ++ rest)
header-spelled tree rest low few =
    let n = length (contents_of tree) in
    let number : number_of (first_of tree) < 31 = omega (arith, number-of tree low, low.1) in
    ap (option_and_then after_length) (cond-true (nat_lt (number_of (first_of tree)) 31) _ _ (lt-ltb (number_of (first_of tree)) 31 number))
    ∙ ap after_length (append_assoc (length_octets n) (contents_of tree) rest)
    ∙ length-found (length_octets n) (contents_of tree ++ rest) n (length_is n few)

abbrev whole_piece : List ℕ → List ℕ → Piece
whole_piece contents rest = record { octets = contents; whole = true; rest = rest }

abbrev text_of : List ℕ → ℕ → Text
text_of octets at = record { octets = octets; at = at; whole = true }

-- what is first_part of a text that begins with the spelling of a tree
abbrev spelled : Tree → List ℕ → ℕ → FirstPart
spelled tree rest at = part_with (text_of (spell tree ++ rest) at) (first_of tree) (length (contents_of tree ++ rest)) (whole_piece (contents_of tree) rest)

first_part-spelled : (tree : Tree) (rest : List ℕ) (at : ℕ) → IsLow tree → length (contents_of tree) ≤ 1048576
    → first_part (text_of (spell tree ++ rest) at) ≡ Some (spelled tree rest at)
unfolding first_part
first_part-spelled tree rest at low few =
    let text = text_of (spell tree ++ rest) at in
    let first = first_of tree in
    ap (λ o. first_part_at text (o ++ rest)) (spell-low tree low)
    ∙ cond-false (nat_eq first 0) _ _ (some-first tree low)
    ∙ ap (λ h. Some (first_part_by text first h)) (header-spelled tree rest low few)
    ∙ ap (λ p. Some (part_with text first (length (contents_of tree ++ rest)) p)) (piece-definite (contents_of tree) rest)

is-part : (tree : Tree) (rest : List ℕ) (at : ℕ) → IsPart tree (spelled tree rest at).part
is-part tree rest at = record { first = refl; octets = refl; whole = refl }

-- as many turns as there are octets are enough
parts-in : (ts : List Tree) (turns at : ℕ) → All IsLow ts → length (spells (trees ts)) ≤ 1048576 → length (spells (trees ts)) ≤ turns
    → AreParts ts (parts_in turns (text_of (spells (trees ts)) at))
unfolding parts_in first_part
parts-in [] zero at low few enough = tt
parts-in [] (suc turns) at low few enough = tt
parts-in (tree ∷ ts) zero at low few enough = absurd (omega (arith, length-append (spell tree) (spells (trees ts)), spelled-some tree (All-head IsLow tree ts low)))
parts-in (tree ∷ ts) (suc turns) at low few enough =
    let rest = spells (trees ts) in
    let here = All-head IsLow tree ts low in
    let both = length-append (spell tree) rest in
    let some : 0 < length (spell tree) = spelled-some tree here in
    let first : length (contents_of tree) ≤ 1048576 = omega (arith, contents-fewer tree) in
    let text = text_of (spell tree ++ rest) at in
    let others = parts-in ts turns (place_in text (length rest)) (All-tail IsLow tree ts low) (omega arith) (omega arith) in
    subst (λ (o : Option FirstPart). AreParts (tree ∷ ts) (parts_by (parts_in turns) text o)) (sym (first_part-spelled tree rest at here first)) (is-part tree rest at, others)

-- what is spelled by trees in turn is read as their parts
pub parts-are : (ts : List Tree) (at : ℕ) → All IsLow ts → length (spells (trees ts)) ≤ 1048576
    → AreParts ts (parts_of (record { octets = spells (trees ts); at = at; whole = true }))
unfolding parts_of
parts-are ts at low small = parts-in ts (length (spells (trees ts))) at low small (omega arith)

-- the spelling of one tree is read as one part
pub value-octets : (tree : Tree) (at : ℕ) → IsLow tree → length (spell tree) ≤ 1048576
    → AreParts (tree ∷ []) (parts_of (record { octets = spell tree; at = at; whole = true }))
value-octets tree at low small =
    let alone = append-nil (spell tree) in
    let parts = parts-are (tree ∷ []) at (All-cons IsLow tree [] low (All-nil IsLow)) (omega (arith, ap length alone)) in
    subst (λ (o : List ℕ). AreParts (tree ∷ []) (parts_of (text_of o at))) alone parts

-- ---- limits

pub small-spelled : (tree : Tree) → ¬ IsTooLarge tree → length (spell tree) ≤ 1048576
small-spelled tree small = elim (cases_lt 1048576 (length (spell tree))) [ inl lt ↦ absurd (small (inr lt)) | inr le ↦ le ]

pub small-contents : (tree : Tree) → ¬ IsTooLarge tree → length (contents_of tree) ≤ 1048576
small-contents tree small = let few = small-spelled tree small in omega (arith, contents-fewer tree)

parts-small : (ts : List Tree) → (32 < depth_in (trees ts) → ⊥) → length (spells (trees ts)) ≤ 1048576 → All (λ tree. ¬ IsTooLarge tree) ts
parts-small [] shallow few = All-nil (λ tree. ¬ IsTooLarge tree)
parts-small (tree ∷ ts) shallow few =
    let n = length-append (spell tree) (spells (trees ts)) in
    All-cons (λ tree. ¬ IsTooLarge tree) tree ts
    (λ large. elim large [ inl deep ↦ shallow (omega arith) | inr long ↦ absurd (omega (arith, n, long, few)) ])
    (parts-small ts (λ lt. shallow (omega arith)) (omega (arith, n, few)))

-- no part of a tree within the limits is too large
pub small-parts : (tag : Tag) (ts : List Tree) → ¬ IsTooLarge (holding tag ts) → All (λ tree. ¬ IsTooLarge tree) ts
small-parts tag ts small = parts-small ts (λ lt. small (inl (omega arith))) (small-contents (holding tag ts) small)

pub trees-are : (ts : List Tree) → All IsTree ts → AreTrees (trees ts)
trees-are [] are = tt
trees-are (tree ∷ ts) are = (All-head IsTree tree ts are, trees-are ts (All-tail IsTree tree ts are))

-- ---- readings

-- a spelling is read as its tree, whatever follows it
pub reading-spelled : (tree : Tree) (rest : List ℕ) → IsTree tree → ¬ IsTooLarge tree → reading (spell tree ++ rest) ≡ Read tree (length (spell tree))
reading-spelled tree rest is small =
    let octets = spell tree ++ rest in
    (read_again tree rest (reading octets) is small).1 (reading_found octets)

pub reading-alone : (tree : Tree) → IsTree tree → ¬ IsTooLarge tree → reading (spell tree) ≡ Read tree (length (spell tree))
reading-alone tree is small =
    ap reading (sym (append-nil (spell tree))) ∙ reading-spelled tree [] is small
