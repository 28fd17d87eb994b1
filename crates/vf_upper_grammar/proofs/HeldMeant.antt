-- What stands within [0] or [1] is found as it is meant.
use Rattle.std.proofs.Common.{◌≡◌, ℕ, ◌+◌, ◌<◌, ◌≤◌, Bool, true, false, List, [], ◌∷◌, ◌++◌, length, drop, refl, ap, sym, subst, ◌∙◌, append-nil, append_assoc, arith, length-append, inl, inr}
use Rattle.std.specs.Prelude.{◌&&◌, nat_eq, Option, None, Some, Ok, Err, if◌then◌else◌}
use Rattle.std.specs.Option.{option_and_then}
use Rattle.std.proofs.lemmas.Bool.Decides.{nat_tests}
use Rattle.vf_ber.proofs.Names.{bit-first, low-first}
use Rattle.vf_ber.specs.Primitive.{in_prefix, is_octet_string, octets_in, octets_of}
use Rattle.vf_ber.specs.Reader.{reading}
use Rattle.vf_ber.specs.Spelling.{first_octet}
use Rattle.vf_ber.specs.Spellings.{SpellInTurn, Spells}
use Rattle.vf_ber.specs.Tree.{built, depth, depth_in, more, none, plain, root, Tag, Tree, Trees}
use Rattle.vf_upper_grammar.specs.Marks.{Found, Mark}
use Rattle.vf_upper_grammar.specs.Meanings as meanings
use Rattle.vf_upper_grammar.specs.Meanings.{alone, any, list_of, Meaning, values}
use Rattle.vf_upper_grammar.specs.Meant.{Agrees, IsFault}
use Rattle.vf_upper_grammar.specs.Parts.{FirstPart, first_part, Header, header_at, is_constructed, number_of, Part, Text}
use Rattle.vf_upper_grammar.specs.Texts.{carried, carried_by, carried_data, constructed_segment, cut_to, explicit_held, explicit_in, Held, held, held_in, located, nothing_held, OctetForm, one, primitive_segment, segment, segments, some, then_held, without_end}
use Rattle.vf_upper_grammar.proofs.Agreeing.{agrees-along, agrees-meant, fault-along, Right}
use Rattle.vf_upper_grammar.proofs.Ends.{header-within, HeaderWithin}
use Rattle.vf_upper_grammar.proofs.SegmentTurns.{segments-step}
use Rattle.vf_upper_grammar.proofs.Spelled.{first-spelled, first_of, HasHeader, header-definite, header-indefinite, header-along, IsFirstOf, IsPartOf, low, low-small}
use Rattle.vf_upper_grammar.proofs.ValuesMeant.{one-right, RightOctets, some-right, values-spelled}

-- ---- segments

-- The octets of segments are these, and then those of others; or there is one that is none.
abbrev Goes : Option (List ℕ) → Held → Held → Type 0
Goes None all later = all.broken ≡ true
Goes (Some octets) all later = (all.octets ≡ octets ++ later.octets) × (all.broken ≡ later.broken)

goes-along : (o : Option (List ℕ)) (all other later : Held) → all ≡ other → Goes o other later → Goes o all later
goes-along o all other later e g = let P : Held → Type 0 = λ h. Goes o h later in subst P (sym e) g

goes-later : (o : Option (List ℕ)) (all later other : Held) → later ≡ other → Goes o all later → Goes o all other
goes-later o all later other e g = let P : Held → Type 0 = λ h. Goes o all h in subst P e g

record Segmented (o : Option (List ℕ)) (end : ℕ) (text : Text) (rest : List ℕ) : Type 0 where
  pub later : Text
  pub octets : later.octets ≡ rest
  pub whole : later.whole ≡ true
  pub goes : Goes o (segments end text) (segments end later)

abbrev held_if : Bool → Held → Held → Held
held_if b x y = if b then x else y

abbrev octets_if : Bool → Option (List ℕ) → Option (List ℕ)
octets_if b o = if b then o else None

combined : (b : Bool) (o p : Option (List ℕ)) (all next later : Held) → Goes (octets_if b o) all next → Goes p next later
    → Goes (octets_if b (option_and_then (λ octets. in_prefix octets p) o)) all later
combined false o p all next later g h = g
combined true None p all next later g h = g
combined true (Some a) None all next later g h = g.1 ∙ h
combined true (Some a) (Some c) all next later g h = (g.0 ∙ ap (λ o. a ++ o) h.0 ∙ sym (append_assoc a c later.octets), g.1 ∙ h.1)

-- what stands at the first octet
abbrev segment_at : (Text → Held) → Text → ℕ → ℕ → List ℕ → Held
segment_at others text end first octets =
    held_if (nat_eq first 0) (others (cut_to text (drop 1 octets)))
    (held_if (nat_eq first 4) (primitive_segment others end (first_part text))
    (held_if (nat_eq first 36) (constructed_segment others text end (header_at (first ∷ octets))) (nothing_held text.at true)))

segments-at : (end : ℕ) (text : Text) (first : ℕ) (octets : List ℕ) → text.octets ≡ first ∷ octets → segments end text ≡ segment_at (segments end) text end first octets
segments-at end text first octets e = segments-step end text ∙ ap (segment (segments end) text end) e

segments-empty : (end : ℕ) (text : Text) → text.octets ≡ [] → segments end text ≡ nothing_held end false
segments-empty end text e = segments-step end text ∙ ap (segment (segments end) text end) e

-- first octets of octet strings, and of others
abbrev is_string_first : Bool → ℕ → Bool
is_string_first constructed first = nat_eq first (if constructed then 36 else 4)

plain-first : (class n : ℕ) → nat_eq class 0 && nat_eq n 4 ≡ true → first_octet false class (low n) ≡ 4
plain-first class n e = grind (arith, nat_tests)

built-first : (class n : ℕ) → nat_eq class 0 && nat_eq n 4 ≡ true → first_octet true class (low n) ≡ 36
built-first class n e = grind (arith, nat_tests)

-- a value of another tag
abbrev IsOther : ℕ → Type 0
IsOther first = (nat_eq first 0 ≡ false) × (nat_eq first 4 ≡ false) × (nat_eq first 36 ≡ false)

plain-other : (class n : ℕ) → 0 < class + n → nat_eq class 0 && nat_eq n 4 ≡ false → IsOther (first_octet false class (low n))
plain-other class n positive e =
    (zero class n positive, four class n e, big class n)
  where
    zero : (class n : ℕ) → 0 < class + n → nat_eq (first_octet false class (low n)) 0 ≡ false
    zero class n positive = let small = low-small n in grind (arith, nat_tests)

    four : (class n : ℕ) → nat_eq class 0 && nat_eq n 4 ≡ false → nat_eq (first_octet false class (low n)) 4 ≡ false
    four class n e = let small = low-small n in grind (arith, nat_tests)

    big : (class n : ℕ) → nat_eq (first_octet false class (low n)) 36 ≡ false
    big class n = let small = low-small n in grind (arith, nat_tests)

built-other : (class n : ℕ) → nat_eq class 0 && nat_eq n 4 ≡ false → IsOther (first_octet true class (low n))
built-other class n e = (zero class n, four class n, big class n e)
  where
    zero : (class n : ℕ) → nat_eq (first_octet true class (low n)) 0 ≡ false
    zero class n = let small = low-small n in grind (arith, nat_tests)

    four : (class n : ℕ) → nat_eq (first_octet true class (low n)) 4 ≡ false
    four class n = let small = low-small n in grind (arith, nat_tests)

    big : (class n : ℕ) → nat_eq class 0 && nat_eq n 4 ≡ false → nat_eq (first_octet true class (low n)) 36 ≡ false
    big class n e = let small = low-small n in grind (arith, nat_tests)

other-held : (end : ℕ) (text : Text) (first : ℕ) (octets : List ℕ) → text.octets ≡ first ∷ octets → IsOther first → segments end text ≡ nothing_held text.at true
other-held end text first octets e other =
    segments-at end text first octets e
    ∙ ap (λ b. held_if b (segments end (cut_to text (drop 1 octets))) (held_if (nat_eq first 4) (primitive_segment (segments end) end (first_part text)) (held_if (nat_eq first 36) (constructed_segment (segments end) text end (header_at (first ∷ octets))) (nothing_held text.at true)))) other.0
    ∙ ap (λ b. held_if b (primitive_segment (segments end) end (first_part text)) (held_if (nat_eq first 36) (constructed_segment (segments end) text end (header_at (first ∷ octets))) (nothing_held text.at true))) other.1
    ∙ ap (λ b. held_if b (constructed_segment (segments end) text end (header_at (first ∷ octets))) (nothing_held text.at true)) other.2

broken-by : (end : ℕ) (text : Text) (first : ℕ) (octets rest : List ℕ) → text.octets ≡ first ∷ octets → IsOther first → Segmented None end text rest
broken-by end text first octets rest e other =
    record { later = record { octets = rest; at = 0; whole = true }; octets = refl; whole = refl; goes = ap (λ h. h.broken) (other-held end text first octets e other) }

-- a first segment with octets
string-held : (end : ℕ) (text : Text) (octets : List ℕ) (part : FirstPart) → text.octets ≡ 4 ∷ octets → first_part text ≡ Some part
    → segments end text ≡ then_held part.part.contents (segments end part.rest)
string-held end text octets part e found = segments-at end text 4 octets e ∙ ap (primitive_segment (segments end) end) found

-- a first segment with segments
bound-held : (end : ℕ) (text : Text) (octets : List ℕ) (header : Header) → text.octets ≡ 36 ∷ octets → header_at text.octets ≡ Some header
    → segments end text ≡ segments end (cut_to text header.rest)
bound-held end text octets header e found =
    segments-at end text 36 octets e ∙ ap (constructed_segment (segments end) text end) (ap header_at (sym e) ∙ found)

-- the end of segments of an indefinite length
end-held : (end : ℕ) (text : Text) (rest : List ℕ) → text.octets ≡ 0 ∷ (0 ∷ rest) → segments end text ≡ segments end (cut_to text rest)
end-held end text rest e = segments-at end text 0 (0 ∷ rest) e

first-along : (text : Text) (first other : ℕ) (octets : List ℕ) → text.octets ≡ first ∷ octets → first ≡ other → text.octets ≡ other ∷ octets
first-along text first other octets e same = e ∙ ap (λ f. f ∷ octets) same

-- ---- segments of values

-- its octets where it is an octet string
abbrev string_octets : Tree → Option (List ℕ)
string_octets tree = octets_if (is_octet_string (root tree)) (octets_of tree)

segmented-along : (o p : Option (List ℕ)) (end : ℕ) (text : Text) (rest : List ℕ) → o ≡ p → Segmented p end text rest → Segmented o end text rest
segmented-along o p end text rest e s = let P : Option (List ℕ) → Type 0 = λ q. Segmented q end text rest in subst P (sym e) s

-- octet strings without segments
plain-segment : (tag : Tag) (contents : List ℕ) (end : ℕ) (text : Text) (octets rest : List ℕ) (b : Bool) → is_octet_string tag ≡ b → IsFirstOf (plain tag contents) rest text
    → text.octets ≡ first_octet false tag.class (low tag.number) ∷ octets → 0 < tag.class + tag.number → Segmented (octets_if b (Some contents)) end text rest
plain-segment tag contents end text octets rest true is f begins some =
    let held_is = string-held end text octets f.part (first-along text _ 4 octets begins (plain-first tag.class tag.number is)) f.found in
    let part = f.is in
    record {
      later = f.part.rest;
      octets = f.rest;
      whole = f.whole;
      goes = (ap (λ h. h.octets) held_is ∙ ap (λ o. o ++ (segments end f.part.rest).octets) part.holds, ap (λ h. h.broken) held_is);
    }
plain-segment tag contents end text octets rest false is f begins some = broken-by end text _ octets rest begins (plain-other tag.class tag.number some is)

-- of a definite length, by what its segments are
definite-segment : (tag : Tag) (parts : Trees) (end : ℕ) (text : Text) (contents rest : List ℕ) (b : Bool) → is_octet_string tag ≡ b
    → HasHeader true tag text.octets (Some (length contents)) (contents ++ rest)
    → ((inner : Text) → inner.octets ≡ contents ++ rest → inner.whole ≡ text.whole → Segmented (octets_in parts) end inner rest)
    → Segmented (octets_if b (octets_in parts)) end text rest
definite-segment tag parts end text contents rest false is has inner =
    broken-by end text _ has.others rest has.begins (built-other tag.class tag.number is)
definite-segment tag parts end text contents rest true is has inner =
    let within = cut_to text (contents ++ rest) in
    let s = inner within refl refl in
    let same = bound-held end text has.others (record { count = Some (length contents); rest = contents ++ rest }) (first-along text _ 36 has.others has.begins (built-first tag.class tag.number is)) has.header in
    record { later = s.later; octets = s.octets; whole = s.whole; goes = goes-along (octets_in parts) _ _ _ same s.goes }

-- of an indefinite length
indefinite-segment : (tag : Tag) (parts : Trees) (end : ℕ) (text : Text) (contents rest : List ℕ) (b : Bool) → is_octet_string tag ≡ b
    → HasHeader true tag text.octets None (contents ++ (0 ∷ 0 ∷ rest))
    → ((inner : Text) → inner.octets ≡ contents ++ (0 ∷ 0 ∷ rest) → inner.whole ≡ text.whole → Segmented (octets_in parts) end inner (0 ∷ 0 ∷ rest))
    → Segmented (octets_if b (octets_in parts)) end text rest
indefinite-segment tag parts end text contents rest false is has inner =
    broken-by end text _ has.others rest has.begins (built-other tag.class tag.number is)
indefinite-segment tag parts end text contents rest true is has inner =
    let within = cut_to text (contents ++ (0 ∷ 0 ∷ rest)) in
    let s = inner within refl refl in
    let same = bound-held end text has.others (record { count = None; rest = contents ++ (0 ∷ 0 ∷ rest) }) (first-along text _ 36 has.others has.begins (built-first tag.class tag.number is)) has.header in
    record {
      later = cut_to s.later rest;
      octets = refl;
      whole = s.whole;
      goes = goes-later (octets_in parts) _ _ _ (end-held end s.later rest s.octets) (goes-along (octets_in parts) _ _ _ same s.goes);
    }

few-left : (text : Text) (octets left : List ℕ) → text.octets ≡ octets ++ left → length text.octets ≤ 1048576 → length left ≤ 1048576
few-left text octets left same few = omega (arith, ap length same, length-append octets left)

fewer : (n : ℕ) (a b : List ℕ) → length a ≤ n → b ≡ a → length b ≤ n
fewer n a b le e = omega (arith, ap length e)

header-few : (constructed : Bool) (tag : Tag) (text : Text) (count : Option ℕ) (rest : List ℕ) (inner : Text) → HasHeader constructed tag text.octets count rest → inner.octets ≡ rest
    → length text.octets ≤ 1048576 → length inner.octets ≤ 1048576
header-few constructed tag text count rest inner has same few =
    let within : HeaderWithin (length text.octets) (Some (record { count = count; rest = rest })) = subst (HeaderWithin (length text.octets)) has.header (header-within text.octets) in
    omega (arith, ap length same)

mutual
  segment-spelled : (tree : Tree) (end : ℕ) (text : Text) (octets rest : List ℕ) → text.whole ≡ true → text.octets ≡ octets ++ rest → Spells octets tree → depth tree ≤ 32 → length text.octets ≤ 1048576
      → Segmented (string_octets tree) end text rest
  segment-spelled (plain tag contents) end text octets rest whole same (is, (len, long, spelled)) shallow few =
      let f = first-spelled (plain tag contents) text octets rest whole same (is, (len, long, spelled)) shallow few in
      let has = header-along false tag text.octets _ (Some (length contents)) (contents ++ rest) same (header-definite false tag octets len contents rest is long spelled) in
      plain-segment tag contents end text has.others rest (is_octet_string tag) refl f has.begins is.some_value
  segment-spelled (built tag parts) end text octets rest whole same (is, (contents, spelled, inl (len, long, all))) shallow few =
      let has = header-along true tag text.octets _ (Some (length contents)) (contents ++ rest) same (header-definite true tag octets len contents rest is long all) in
      definite-segment tag parts end text contents rest (is_octet_string tag) refl has
      (λ inner o w. segments-spelled parts end inner contents rest (w ∙ whole) o spelled (omega arith) (header-few true tag text (Some (length contents)) (contents ++ rest) inner has o few))
  segment-spelled (built tag parts) end text octets rest whole same (is, (contents, spelled, inr all)) shallow few =
      let has = header-along true tag text.octets _ None (contents ++ (0 ∷ 0 ∷ rest)) same (header-indefinite true tag octets contents rest is all) in
      indefinite-segment tag parts end text contents rest (is_octet_string tag) refl has
      (λ inner o w. segments-spelled parts end inner contents (0 ∷ 0 ∷ rest) (w ∙ whole) o spelled (omega arith) (header-few true tag text None (contents ++ (0 ∷ 0 ∷ rest)) inner has o few))

  segments-spelled : (trees : Trees) (end : ℕ) (text : Text) (octets rest : List ℕ) → text.whole ≡ true → text.octets ≡ octets ++ rest → SpellInTurn octets trees → depth_in trees ≤ 32 → length text.octets ≤ 1048576
      → Segmented (octets_in trees) end text rest
  segments-spelled none end text octets rest whole same spelled shallow few =
      record { later = text; octets = same ∙ ap (λ o. o ++ rest) spelled; whole = whole; goes = (refl, refl) }
  segments-spelled (more tree trees) end text octets rest whole same (first, left, one_tree, spelled, all) shallow few =
      let begins : text.octets ≡ first ++ (left ++ rest) = same ∙ ap (λ o. o ++ rest) all ∙ append_assoc first left rest in
      let s = segment-spelled tree end text first (left ++ rest) whole begins one_tree (omega arith) few in
      let t = segments-spelled trees end s.later left rest s.whole s.octets spelled (omega arith) (fewer 1048576 (left ++ rest) s.later.octets (few-left text first (left ++ rest) begins few) s.octets) in
      record { later = t.later; octets = t.octets; whole = t.whole; goes = combined (is_octet_string (root tree)) (octets_of tree) (octets_in trees) _ _ _ s.goes t.goes }

-- the octets of a part in segments
segments-held : (parts : Trees) (end : ℕ) (text : Text) → text.whole ≡ true → SpellInTurn text.octets parts → depth_in parts ≤ 32 → length text.octets ≤ 1048576
    → Goes (octets_in parts) (segments end text) (nothing_held end false)
segments-held parts end text whole spelled shallow few =
    let s = segments-spelled parts end text text.octets [] whole (sym (append-nil text.octets)) spelled shallow few in
    goes-later (octets_in parts) _ _ _ (segments-empty end s.later s.octets) s.goes

-- ---- within [0] or [1]

located-right : (h : Held) (x : Found) (found : List Mark) (o : Option (List Mark)) → h.broken ≡ false → Agrees x found o → Agrees (located h x) found o
located-right h (Ok marks) found (Some meant) e agrees = ap (λ b. if b then Err h.end else Ok marks) e ∙ agrees
located-right h (Ok marks) found None e agrees = absurd agrees
located-right h (Err place) found (Some meant) e agrees = absurd (cc)
located-right h (Err place) found None e agrees = tt

located-broken : (h : Held) (x : Found) → h.broken ≡ true → IsFault (located h x)
located-broken h (Ok marks) e = fault-along _ (Err h.end) (ap (λ b. if b then Err h.end else Ok marks) e) tt
located-broken h (Err place) e = tt

-- octets that are held in one piece, or in segments
held-agrees : (form : OctetForm) (meaning : List Tree → Option (List Mark)) → RightOctets form meaning → (h : Held) (octets : List ℕ) (found : List Mark) → h.octets ≡ octets → h.broken ≡ false
    → Agrees (located h (form h.octets found)) found (option_and_then meaning (values octets))
held-agrees form meaning right h octets found same whole =
    located-right h (form h.octets found) found _ whole (agrees-along _ _ found _ (ap (λ o. form o found) same) (right.agrees octets found))

segments-agree : (form : OctetForm) (meaning : List Tree → Option (List Mark)) → RightOctets form meaning → (h : Held) (end : ℕ) (o : Option (List ℕ)) (found : List Mark)
    → Goes o h (nothing_held end false) → Agrees (located h (form h.octets found)) found (option_and_then meaning (option_and_then values o))
segments-agree form meaning right h end None found goes = located-broken h (form h.octets found) goes
segments-agree form meaning right h end (Some octets) found goes = held-agrees form meaning right h octets found (goes.0 ∙ append-nil octets) goes.1

abbrev option_if : Bool → Option Held → Option Held → Option Held
option_if b x y = if b then x else y

abbrev meant_if : Bool → Option (List Tree) → Option (List Tree) → Option (List Tree)
meant_if b x y = if b then x else y

-- what a part holds, by its number and form
abbrev held_as : Bool → Bool → Part → Option Held
held_as zero constructed part =
    option_if zero (option_if constructed (Some (explicit_held part.contents)) None)
    (option_if constructed (Some (segments part.after part.contents)) (Some (held_in part.contents part.after)))

number-zero : (n : ℕ) → nat_eq (low n) 0 ≡ nat_eq n 0
number-zero n = grind (arith, nat_tests)

part-number : (tree : Tree) (part : Part) → IsPartOf tree part → nat_eq (number_of part.first) 0 ≡ nat_eq (root tree).number 0
part-number (plain tag octets) part is = ap (λ f. nat_eq (number_of f) 0) is.first ∙ ap (λ n. nat_eq n 0) (low-first false tag.class (low tag.number) (low-small tag.number)) ∙ number-zero tag.number
part-number (built tag parts) part is = ap (λ f. nat_eq (number_of f) 0) is.first ∙ ap (λ n. nat_eq n 0) (low-first true tag.class (low tag.number) (low-small tag.number)) ∙ number-zero tag.number

part-form : (tree : Tree) (part : Part) → IsPartOf tree part → (c : Bool) (tag : Tag) → first_of tree ≡ first_octet c tag.class (low tag.number) → is_constructed part.first ≡ c
part-form tree part is c tag e = ap is_constructed (is.first ∙ e) ∙ bit-first c tag.class (low tag.number) (low-small tag.number)

held-is : (tree : Tree) (part : Part) → IsPartOf tree part → (z c : Bool) (tag : Tag) → nat_eq (root tree).number 0 ≡ z → first_of tree ≡ first_octet c tag.class (low tag.number) → held part ≡ held_as z c part
held-is tree part is z c tag e f =
    ap (λ b. held_as b (is_constructed part.first) part) (part-number tree part is ∙ e) ∙ ap (λ b. held_as z b part) (part-form tree part is c tag f)

abbrev list_if : Bool → List ℕ → List ℕ → List ℕ
list_if b x y = if b then x else y

explicit-whole : (text : Text) → text.whole ≡ true → explicit_in text ≡ text.octets
explicit-whole text whole = ap (λ b. list_if b text.octets (without_end text.octets (reading text.octets))) whole

-- whatever values are made of the octets
pub octets-right : (form : OctetForm) (meaning : List Tree → Option (List Mark)) → RightOctets form meaning → Right (carried form) (λ tree. option_and_then meaning (meanings.held tree))
octets-right form meaning right = record { agrees = by }
  where
    plain-by : (tag : Tag) (octets : List ℕ) (part : Part) (found : List Mark) → IsPartOf (plain tag octets) part → (z : Bool) → nat_eq tag.number 0 ≡ z
        → Agrees (carried form part found) found (option_and_then meaning (meant_if z None (values octets)))
    plain-by tag octets part found is true e =
        fault-along _ (Err part.at) (ap (carried_by form part.at found) (held-is (plain tag octets) part is true false tag e refl)) tt
    plain-by tag octets part found is false e =
        agrees-along _ _ found _ (ap (carried_by form part.at found) (held-is (plain tag octets) part is false false tag e refl))
        (held-agrees form meaning right (held_in part.contents part.after) octets found is.holds refl)

    built-by : (tag : Tag) (parts : Trees) (part : Part) (found : List Mark) → IsPartOf (built tag parts) part → (z : Bool) → nat_eq tag.number 0 ≡ z
        → Agrees (carried form part found) found (option_and_then meaning (meant_if z (Some (list_of parts)) (option_and_then values (octets_in parts))))
    built-by tag parts part found is true e =
        let shallow = is.shallow in
        agrees-along _ _ found _ (ap (carried_by form part.at found) (held-is (built tag parts) part is true true tag e refl))
        (agrees-meant _ found _ _ (ap (option_and_then meaning) (sym (values-spelled parts part.contents.octets is.holds (omega arith) is.small)))
        (held-agrees form meaning right (explicit_held part.contents) part.contents.octets found (explicit-whole part.contents is.whole) refl))
    built-by tag parts part found is false e =
        let shallow = is.shallow in
        agrees-along _ _ found _ (ap (carried_by form part.at found) (held-is (built tag parts) part is false true tag e refl))
        (segments-agree form meaning right (segments part.after part.contents) part.after (octets_in parts) found
        (segments-held parts part.after part.contents is.whole is.holds (omega arith) is.small))

    by : (tree : Tree) (part : Part) (found : List Mark) → IsPartOf tree part → Agrees (carried form part found) found (option_and_then meaning (meanings.held tree))
    by (plain tag octets) part found is = plain-by tag octets part found is (nat_eq tag.number 0) refl
    by (built tag parts) part found is = built-by tag parts part found is (nat_eq tag.number 0) refl

pub carried-right : (form : OctetForm) (meaning : Meaning) → RightOctets form (alone meaning) → Right (carried form) (meanings.carried meaning)
carried-right form meaning right = let all = octets-right form (alone meaning) right in record { agrees = λ tree part found is. all.agrees tree part found is }

-- one value in [0], one or more in [1]
abbrev found_if : Bool → Found → Found → Found
found_if b x y = if b then x else y

abbrev marks_if : Bool → Option (List Mark) → Option (List Mark) → Option (List Mark)
marks_if b x y = if b then x else y

pub carried_data-right : Right carried_data meanings.carried_data
carried_data-right = record { agrees = by }
  where
    all_one : Right (carried one) (meanings.carried any)
    all_one = carried-right one any one-right

    all_some : Right (carried some) (λ tree. option_and_then meanings.some (meanings.held tree))
    all_some = octets-right some meanings.some some-right

    chosen : (b : Bool) (tree : Tree) (part : Part) (found : List Mark) → IsPartOf tree part
        → Agrees (found_if b (carried one part found) (carried some part found)) found (marks_if b (meanings.carried any tree) (option_and_then meanings.some (meanings.held tree)))
    chosen true tree part found is = all_one.agrees tree part found is
    chosen false tree part found is = all_some.agrees tree part found is

    by : (tree : Tree) (part : Part) (found : List Mark) → IsPartOf tree part → Agrees (carried_data part found) found (meanings.carried_data tree)
    by tree part found is =
        agrees-along _ _ found _ (ap (λ b. found_if b (carried one part found) (carried some part found)) (part-number tree part is))
        (chosen (nat_eq (root tree).number 0) tree part found is)
