-- The parts of octets that spell values are those values, however they are spelled.
use Rattle.std.proofs.Common.{◌≡◌, ℕ, ◌+◌, ◌-◌, ◌/◌, ◌%◌, ◌<◌, ◌≤◌, Bool, true, false, List, [], ◌∷◌, ◌++◌, length, drop, refl, ap, sym, subst, ◌∙◌, append_assoc, arith, length-append, inl, inr}
use Rattle.std.specs.Prelude.{not, ◌&&◌, ◌||◌, nat_eq, nat_le, nat_lt, Option, None, Some, if◌then◌else◌}
use Rattle.std.specs.Option.{option_and_then}
use Rattle.std.proofs.lemmas.Bool.{cases_lt, cond-true, cond-false, le-leb, le-ltb, lt-ltb, ne_eqb}
use Rattle.std.proofs.lemmas.Bool.Decides.{nat_tests}
use Rattle.std.proofs.lemmas.List.{drop_at, take_at}
use Rattle.vf_ber.proofs.Names.{identifier-longer, identifier-longest, identifier-short, low-first}
use Rattle.vf_ber.proofs.OneTree.{spelling_begins}
use Rattle.vf_ber.specs.Spelling.{first_octet, identifier}
use Rattle.vf_ber.specs.Spellings.{IsLength, number_in, SpellInTurn, Spells}
use Rattle.vf_ber.specs.Tags.{IsTag}
use Rattle.vf_ber.specs.Tree.{built, depth, depth_in, more, none, plain, root, Tag, Tree, Trees}
use Rattle.vf_upper_grammar.specs.Meanings.{list_of}
use Rattle.vf_upper_grammar.specs.Parts.{after_contents, after_end, after_identifier, after_length, after_number, after_value, closing, ended_piece, ends, FirstPart, first_part, first_part_at, first_part_by, Header, header_at, is_empty, long_form, next, number_of, Part, part_with, Parts, parts_by, parts_of, Piece, piece_of, Text}
use Rattle.vf_upper_grammar.proofs.Ends.{end-step}
use Rattle.vf_upper_grammar.proofs.Turns.{first_part-shorter, parts-step}

-- ---- identifiers

-- the number that a first octet has: 31 stands for higher ones
abbrev pub low : ℕ → ℕ
low number = if nat_lt number 31 then number else 31

abbrev pub first_of : Tree → ℕ
first_of (plain tag octets) = first_octet false tag.class (low tag.number)
first_of (built tag parts) = first_octet true tag.class (low tag.number)

pub low-small : (n : ℕ) → low n < 32
low-small n = grind (arith, nat_tests)

-- an identifier is its first octet, and what is left of it is stripped with it
pub record IsIdentifier (constructed : Bool) (tag : Tag) (octets rest : List ℕ) : Type 0 where
  pub others : List ℕ
  pub begins : octets ≡ first_octet constructed tag.class (low tag.number) ∷ others
  pub strips : after_identifier octets ≡ Some rest

short_low : (n : ℕ) → n < 31 → low n ≡ n
short_low n lt = cond-true (nat_lt n 31) n 31 (lt-ltb n 31 lt)

long_low : (n : ℕ) → 31 ≤ n → low n ≡ 31
long_low n le = cond-false (nat_lt n 31) n 31 (le-ltb n 31 le)

strips-short : (constructed : Bool) (class n : ℕ) (rest : List ℕ) → n < 31 → after_identifier (first_octet constructed class n ∷ rest) ≡ Some rest
strips-short constructed class n rest lt =
    cond-true (nat_lt (number_of (first_octet constructed class n)) 31) _ _ (lt-ltb _ 31 (omega (arith, low-first constructed class n (omega arith))))

strips-long : (constructed : Bool) (class : ℕ) (octets : List ℕ) → after_identifier (first_octet constructed class 31 ∷ octets) ≡ after_number octets
strips-long constructed class octets =
    cond-false (nat_lt (number_of (first_octet constructed class 31)) 31) _ _ (le-ltb _ 31 (omega (arith, low-first constructed class 31 (omega arith))))

pub identified : (constructed : Bool) (tag : Tag) (rest : List ℕ) → IsTag tag → IsIdentifier constructed tag (identifier constructed tag ++ rest) rest
identified constructed tag rest is = elim (cases_lt tag.number 31) [
  | inl lt ↦
      let same = identifier-short constructed tag.class tag.number lt in
      record {
        others = rest;
        begins = ap (λ i. i ++ rest) same ∙ ap (λ l. first_octet constructed tag.class l ∷ rest) (sym (short_low tag.number lt));
        strips = ap (λ i. after_identifier (i ++ rest)) same ∙ strips-short constructed tag.class tag.number rest lt;
      }
  | inr le ↦ elim (cases_lt tag.number 128) [
    | inl lt ↦
        let same = identifier-longer constructed tag.class tag.number le lt in
        record {
          others = tag.number ∷ rest;
          begins = ap (λ i. i ++ rest) same ∙ ap (λ l. first_octet constructed tag.class l ∷ (tag.number ∷ rest)) (sym (long_low tag.number le));
          strips = ap (λ i. after_identifier (i ++ rest)) same ∙ strips-long constructed tag.class (tag.number ∷ rest)
              ∙ cond-true (nat_lt tag.number 128) _ _ (lt-ltb tag.number 128 lt);
        }
    | inr far ↦
        let same = identifier-longest constructed tag.class tag.number far in
        let high = 128 + tag.number / 128 in
        record {
          others = high ∷ (tag.number % 128 ∷ rest);
          begins = ap (λ i. i ++ rest) same ∙ ap (λ l. first_octet constructed tag.class l ∷ (high ∷ (tag.number % 128 ∷ rest))) (sym (long_low tag.number le));
          strips = ap (λ i. after_identifier (i ++ rest)) same ∙ strips-long constructed tag.class (high ∷ (tag.number % 128 ∷ rest))
              ∙ cond-false (nat_lt high 128) _ _ (le-ltb high 128 (omega arith));
        }
  ]
]

-- ---- lengths

abbrev pub counted : Option ℕ → List ℕ → Option Header
counted count rest = Some (record { count = count; rest = rest })

long-found : (digits rest : List ℕ) → 1 ≤ length digits → length digits ≤ 8 → after_length ((128 + length digits) ∷ (digits ++ rest)) ≡ counted (Some (number_in 0 digits)) rest
long-found digits rest some few =
    let first = 128 + length digits in
    let n : length digits ≡ first - 128 = omega arith in
    let all = digits ++ rest in
    cond-false (nat_lt first 128) _ _ (le-ltb first 128 (omega arith))
    ∙ cond-false (nat_eq first 128) _ _ (ne_eqb first 128 (λ e. omega arith))
    ∙ cond-true (nat_le first 136) _ _ (le-leb first 136 (omega arith))
    ∙ ap (λ k. long_form k all) (sym n)
    ∙ cond-true (nat_le (length digits) (length all)) _ _ (le-leb (length digits) (length all) (omega (arith, length-append digits rest)))
    ∙ ap (λ o. counted (Some (number_in 0 o)) (drop (length digits) all)) (take_at digits rest (length digits) refl)
    ∙ ap (counted (Some (number_in 0 digits))) (drop_at digits rest (length digits) refl)

pub length-found : (octets rest : List ℕ) (n : ℕ) → IsLength octets n → after_length (octets ++ rest) ≡ counted (Some n) rest
length-found octets rest n (inl (is, lt)) =
    ap (λ o. after_length (o ++ rest)) is ∙ cond-true (nat_lt n 128) _ _ (lt-ltb n 128 lt)
length-found octets rest n (inr long) =
    ap (λ o. after_length (o ++ rest)) long.spelled ∙ long-found long.digits rest long.some long.few ∙ ap (λ k. counted (Some k) rest) long.number

-- ---- headers

-- a value of this form and tag, by what its length says and what stands after that
pub record HasHeader (constructed : Bool) (tag : Tag) (octets : List ℕ) (count : Option ℕ) (rest : List ℕ) : Type 0 where
  pub others : List ℕ
  pub begins : octets ≡ first_octet constructed tag.class (low tag.number) ∷ others
  pub header : header_at octets ≡ counted count rest

header-by : (constructed : Bool) (tag : Tag) (after rest : List ℕ) (count : Option ℕ) → IsTag tag → after_length after ≡ counted count rest
    → HasHeader constructed tag (identifier constructed tag ++ after) count rest
header-by constructed tag after rest count is len =
    let i = identified constructed tag after is in
    record { others = i.others; begins = i.begins; header = ap (option_and_then after_length) i.strips ∙ len }

pub header-along : (constructed : Bool) (tag : Tag) (octets other : List ℕ) (count : Option ℕ) (rest : List ℕ) → octets ≡ other → HasHeader constructed tag other count rest
    → HasHeader constructed tag octets count rest
header-along constructed tag octets other count rest same has =
    record { others = has.others; begins = same ∙ has.begins; header = ap header_at same ∙ has.header }

-- of a definite length
pub header-definite : (constructed : Bool) (tag : Tag) (octets len contents rest : List ℕ) → IsTag tag → IsLength len (length contents)
    → octets ≡ identifier constructed tag ++ (len ++ contents)
    → HasHeader constructed tag (octets ++ rest) (Some (length contents)) (contents ++ rest)
header-definite constructed tag octets len contents rest is long same =
    let regrouped : (identifier constructed tag ++ (len ++ contents)) ++ rest ≡ identifier constructed tag ++ (len ++ (contents ++ rest)) =
    append_assoc (identifier constructed tag) (len ++ contents) rest ∙ ap (λ o. identifier constructed tag ++ o) (append_assoc len contents rest) in
    header-along constructed tag (octets ++ rest) _ (Some (length contents)) (contents ++ rest) (ap (λ o. o ++ rest) same ∙ regrouped)
    (header-by constructed tag (len ++ (contents ++ rest)) (contents ++ rest) (Some (length contents)) is (length-found len (contents ++ rest) (length contents) long))

-- of an indefinite length
pub header-indefinite : (constructed : Bool) (tag : Tag) (octets contents rest : List ℕ) → IsTag tag
    → octets ≡ identifier constructed tag ++ (128 ∷ (contents ++ (0 ∷ 0 ∷ [])))
    → HasHeader constructed tag (octets ++ rest) None (contents ++ (0 ∷ 0 ∷ rest))
header-indefinite constructed tag octets contents rest is same =
    let regrouped : (identifier constructed tag ++ (128 ∷ (contents ++ (0 ∷ 0 ∷ [])))) ++ rest ≡ identifier constructed tag ++ (128 ∷ (contents ++ (0 ∷ 0 ∷ rest))) =
    append_assoc (identifier constructed tag) (128 ∷ (contents ++ (0 ∷ 0 ∷ []))) rest
    ∙ ap (λ o. identifier constructed tag ++ (128 ∷ o)) (append_assoc contents (0 ∷ 0 ∷ []) rest) in
    header-along constructed tag (octets ++ rest) _ None (contents ++ (0 ∷ 0 ∷ rest)) (ap (λ o. o ++ rest) same ∙ regrouped)
    (header-by constructed tag (128 ∷ (contents ++ (0 ∷ 0 ∷ rest))) (contents ++ (0 ∷ 0 ∷ rest)) None is refl)

-- ---- the end of contents

value-after : (f : List ℕ → Option (List ℕ)) (constructed : Bool) (tag : Tag) (octets : List ℕ) (count : Option ℕ) (rest : List ℕ)
    → HasHeader constructed tag octets count rest → after_value f octets ≡ after_contents f count rest
value-after f constructed tag octets count rest has = ap (option_and_then (λ header. after_contents f header.count header.rest)) has.header

definite-after : (f : List ℕ → Option (List ℕ)) (contents rest : List ℕ) → after_contents f (Some (length contents)) (contents ++ rest) ≡ Some rest
definite-after f contents rest =
    cond-true (nat_le (length contents) (length (contents ++ rest))) _ _ (le-leb (length contents) (length (contents ++ rest)) (omega (arith, length-append contents rest)))
    ∙ ap (λ o. Some o) (drop_at contents rest (length contents) refl)

end-value : (first left : List ℕ) → after_value after_end (first ++ left) ≡ Some left → (octet : ℕ) × (others : List ℕ) × (0 < octet) × (first ≡ octet ∷ others)
    → after_end (first ++ left) ≡ after_end left
end-value first left after (octet, others, some, same) =
    ap (λ o. after_end (o ++ left)) same ∙ end-step octet (others ++ left)
    ∙ cond-false (nat_eq octet 0) _ _ (ne_eqb octet 0 (λ e. omega arith))
    ∙ ap (option_and_then after_end) (ap (λ o. after_value after_end (o ++ left)) (sym same) ∙ after)

mutual
  -- what is after a value
  pub after-spelled : (tree : Tree) (octets rest : List ℕ) → Spells octets tree → after_value after_end (octets ++ rest) ≡ Some rest
  after-spelled (plain tag contents) octets rest (is, (len, long, same)) =
      value-after after_end false tag (octets ++ rest) (Some (length contents)) (contents ++ rest) (header-definite false tag octets len contents rest is long same)
      ∙ definite-after after_end contents rest
  after-spelled (built tag parts) octets rest (is, (contents, spelled, inl (len, long, same))) =
      value-after after_end true tag (octets ++ rest) (Some (length contents)) (contents ++ rest) (header-definite true tag octets len contents rest is long same)
      ∙ definite-after after_end contents rest
  after-spelled (built tag parts) octets rest (is, (contents, spelled, inr same)) =
      value-after after_end true tag (octets ++ rest) None (contents ++ (0 ∷ 0 ∷ rest)) (header-indefinite true tag octets contents rest is same)
      ∙ end-spelled parts contents rest spelled

  -- what is after an end of contents
  pub end-spelled : (parts : Trees) (contents rest : List ℕ) → SpellInTurn contents parts → after_end (contents ++ (0 ∷ 0 ∷ rest)) ≡ Some rest
  end-spelled none contents rest same = ap (λ o. after_end (o ++ (0 ∷ 0 ∷ rest))) same ∙ end-step 0 (0 ∷ rest)
  end-spelled (more part parts) contents rest (first, others, one, spelled, same) =
      let left = others ++ (0 ∷ 0 ∷ rest) in
      ap (λ o. after_end (o ++ (0 ∷ 0 ∷ rest))) same ∙ ap after_end (append_assoc first others (0 ∷ 0 ∷ rest))
      ∙ end-value first left (after-spelled part first left one) (spelling_begins first part one)
      ∙ end-spelled parts others rest spelled

-- ---- parts

-- contents that are a value's, however they are spelled
abbrev pub Holds : Tree → List ℕ → Type 0
Holds (plain tag contents) octets = octets ≡ contents
Holds (built tag parts) octets = SpellInTurn octets parts

-- a part that is a value, whole and within the limits
pub record IsPartOf (tree : Tree) (part : Part) : Type 0 where
  pub tag : IsTag (root tree)
  pub first : part.first ≡ first_of tree
  pub holds : Holds tree part.contents.octets
  pub whole : part.contents.whole ≡ true
  pub shallow : depth tree ≤ 32
  pub small : length part.contents.octets ≤ 1048576

-- parts that are values in turn, with nothing after them
abbrev pub AreSpelled : List Tree → Parts → Type 0
AreSpelled [] (ends None) = ⊥
AreSpelled [] (ends (Some place)) = Unit {0}
AreSpelled [] (next part parts) = ⊥
AreSpelled (tree ∷ trees) (ends place) = ⊥
AreSpelled (tree ∷ trees) (next part parts) = IsPartOf tree part × AreSpelled trees parts

abbrev whole_piece : List ℕ → List ℕ → Piece
whole_piece contents left = record { octets = contents; whole = true; rest = left }

pub piece-definite : (contents left : List ℕ) → piece_of (Some (length contents)) (contents ++ left) ≡ whole_piece contents left
piece-definite contents left =
    let n = length contents in
    let all = contents ++ left in
    ap (λ o. record { octets = o; whole = nat_le n (length all); rest = drop n all }) (take_at contents left n refl)
    ∙ ap (λ b. record { octets = contents; whole = b; rest = drop n all }) (le-leb n (length all) (omega (arith, length-append contents left)))
    ∙ ap (whole_piece contents) (drop_at contents left n refl)

piece-indefinite : (parts : Trees) (contents left : List ℕ) → SpellInTurn contents parts → piece_of None (contents ++ (0 ∷ 0 ∷ left)) ≡ whole_piece contents left
piece-indefinite parts contents left spelled =
    let all = contents ++ (0 ∷ 0 ∷ left) in
    let n : length contents ≡ length all - length left - 2 = omega (arith, length-append contents (0 ∷ 0 ∷ left)) in
    ap (ended_piece all) (end-spelled parts contents left spelled)
    ∙ ap (λ o. whole_piece o left) (take_at contents (0 ∷ 0 ∷ left) (length all - length left - 2) n)

first-some : (constructed : Bool) (tag : Tag) → IsTag tag → nat_eq (first_octet constructed tag.class (low tag.number)) 0 ≡ false
first-some true tag is = ne_eqb _ 0 (λ e. omega arith)
first-some false tag is = ne_eqb _ 0 (λ e. elim (cases_lt tag.number 31) [
  | inl lt ↦ absurd (omega (arith, short_low tag.number lt, is.some_value))
  | inr le ↦ absurd (omega (arith, long_low tag.number le))
])

first-found : (constructed : Bool) (tag : Tag) (text : Text) (count : Option ℕ) (rest contents left : List ℕ) → IsTag tag
    → HasHeader constructed tag text.octets count rest → piece_of count rest ≡ whole_piece contents left
    → first_part text ≡ Some (part_with text (first_octet constructed tag.class (low tag.number)) (length rest) (whole_piece contents left))
unfolding first_part
first-found constructed tag text count rest contents left is has piece =
    let first = first_octet constructed tag.class (low tag.number) in
    ap (first_part_at text) has.begins
    ∙ cond-false (nat_eq first 0) _ _ (first-some constructed tag is)
    ∙ ap (λ h. Some (first_part_by text first h)) (ap header_at (sym has.begins) ∙ has.header)
    ∙ ap (λ p. Some (part_with text first (length rest) p)) piece

pub record IsFirstOf (tree : Tree) (left : List ℕ) (text : Text) : Type 0 where
  pub part : FirstPart
  pub found : first_part text ≡ Some part
  pub is : IsPartOf tree part.part
  pub rest : part.rest.octets ≡ left
  pub whole : part.rest.whole ≡ true

whole_rest : (text : Text) → text.whole ≡ true → (true && text.whole) ≡ true
whole_rest text whole = whole

within-text : (text : Text) (part : FirstPart) → first_part text ≡ Some part → length text.octets ≤ 1048576 → length part.part.contents.octets ≤ 1048576
within-text text part found few = let shorter = first_part-shorter text part (sym found) in omega arith

pub first-spelled : (tree : Tree) (text : Text) (octets left : List ℕ) → text.whole ≡ true → text.octets ≡ octets ++ left → Spells octets tree → depth tree ≤ 32 → length text.octets ≤ 1048576
    → IsFirstOf tree left text
first-spelled (plain tag contents) text octets left whole same (is, (len, long, spelled)) shallow few =
    let has = header-along false tag text.octets _ (Some (length contents)) (contents ++ left) same (header-definite false tag octets len contents left is long spelled) in
    let found = first-found false tag text (Some (length contents)) (contents ++ left) contents left is has (piece-definite contents left) in
    let small = within-text text _ found few in
    record { part = _; found = found; is = record { tag = is; first = refl; holds = refl; whole = refl; shallow = shallow; small = small }; rest = refl; whole = whole_rest text whole }
first-spelled (built tag parts) text octets left whole same (is, (contents, spelled, inl (len, long, all))) shallow few =
    let has = header-along true tag text.octets _ (Some (length contents)) (contents ++ left) same (header-definite true tag octets len contents left is long all) in
    let found = first-found true tag text (Some (length contents)) (contents ++ left) contents left is has (piece-definite contents left) in
    let small = within-text text _ found few in
    record { part = _; found = found; is = record { tag = is; first = refl; holds = spelled; whole = refl; shallow = shallow; small = small }; rest = refl; whole = whole_rest text whole }
first-spelled (built tag parts) text octets left whole same (is, (contents, spelled, inr all)) shallow few =
    let has = header-along true tag text.octets _ None (contents ++ (0 ∷ 0 ∷ left)) same (header-indefinite true tag octets contents left is all) in
    let found = first-found true tag text None (contents ++ (0 ∷ 0 ∷ left)) contents left is has (piece-indefinite parts contents left spelled) in
    let small = within-text text _ found few in
    record { part = _; found = found; is = record { tag = is; first = refl; holds = spelled; whole = refl; shallow = shallow; small = small }; rest = refl; whole = whole_rest text whole }

abbrev closing_if : Bool → Text → Option ℕ
closing_if b text = if b then Some text.at else None

pub parts-spelled : (trees : Trees) (text : Text) → text.whole ≡ true → SpellInTurn text.octets trees → depth_in trees ≤ 32 → length text.octets ≤ 1048576
    → AreSpelled (list_of trees) (parts_of text)
unfolding first_part
parts-spelled none text whole same shallow few =
    let empty : first_part text ≡ None = ap (first_part_at text) same in
    let closes : closing text ≡ Some text.at = ap (λ w. closing_if (w || not (is_empty text.octets)) text) whole in
    subst (AreSpelled []) (sym (parts-step text ∙ ap (parts_by parts_of text) empty ∙ ap ends closes)) tt
parts-spelled (more tree trees) text whole (octets, left, one, spelled, same) shallow few =
    let f = first-spelled tree text octets left whole same one (omega arith) few in
    let shorter = first_part-shorter text f.part (sym f.found) in
    let others = parts-spelled trees f.part.rest f.whole (subst (λ (o : List ℕ). SpellInTurn o trees) (sym f.rest) spelled) (omega arith) (omega arith) in
    subst (AreSpelled (tree ∷ list_of trees)) (sym (parts-step text ∙ ap (parts_by parts_of text) f.found)) (f.is, others)
