-- How the reader's answers on the parts of a value make its answer on the value.
use Rattle.std.proofs.Common.{◌≡◌, ◌≢◌, ℕ, zero, suc, ◌+◌, ◌-◌, ◌<◌, ◌≤◌, Bool, true, false, List, [], ◌∷◌, ◌++◌, length, take, drop, refl, ap, sym, subst, ◌∙◌, arith, length-append, inl, inr}
use Rattle.std.specs.Prelude.{Option, Some, None}
use Rattle.std.proofs.lemmas.Bool.{ltb-true}
use Rattle.std.proofs.lemmas.List.{take-append-drop, length-take-le}
use Rattle.vf_ber.specs.declared.fault.Fault.{Fault}
use Rattle.vf_ber.specs.declared.fault.Fault.TheVariants as faults
use Rattle.vf_ber.specs.declared.room.Room.{Room}
use Rattle.vf_ber.specs.declared.room.Room.TheVariants.{Exact}
use Rattle.vf_ber.specs.Tree.{Tag, Tree, plain, built, Trees, none, more, joined}
use Rattle.vf_ber.specs.Reading.{Limits, free, bounded}
use Rattle.vf_ber.specs.Steps.{Language, Name, Names, Sizes, Definite, Contents, Values, Parts, Ended, Ruled, Got, Failed, IsNoEnd, fits, is_roomy, less, has_depth, size_fits, named}
use Rattle.vf_ber.proofs.Chains.{Carries, Anything, prefix_failed, tail_got, tail_failed, carried_failed}
use Rattle.vf_ber.proofs.Fits.{depth_from, shallow_zero, exact_rest, end_tail, less_fits, size_parts}
use Rattle.vf_ber.proofs.OneTree.{spelling_begins, spelling_long}
use Rattle.vf_ber.proofs.ValueSteps.{parts_open, ended_open, depth_pos, Body, body_chain, value_chain, parts_chain, Others, ended_chain}

-- ---- identifier, length and contents

got_length : {X : Type 0} (L : Language X) (octets rest : List ℕ) (x : X) (g : Got L octets x rest) → length octets - length rest ≡ length g.0
got_length L octets rest x g = omega (arith, ap length g.1, length-append g.0 rest)

pub value_got : (most : ℕ) (room : Room) (octets rest contents after : List ℕ) (name : Name) (size : Option ℕ) (tree : Tree) (prefix whole : ℕ)
    → Got (Names most room) octets name rest → prefix ≡ length octets - length rest
    → Got (Sizes most room prefix name.constructed) rest size contents → whole ≡ length octets - length contents
    → Got (Contents most room whole name size) contents tree after → Got (Values most room) octets tree after
value_got most room octets rest contents after name size tree prefix whole (a, is, n) prefix_is (b, rest_is, s) whole_is c =
    let taken : prefix ≡ length a = prefix_is ∙ got_length (Names most room) octets rest name (a, is, n) in
    let total : whole ≡ length a + length b = omega (arith, whole_is, ap length is, length-append a rest, ap length rest_is, length-append b contents) in
    let sizes : Sizes most room (length a) name.constructed bounded b size = subst (λ (k : ℕ). Sizes most room k name.constructed bounded b size) taken s in
    let inner : Got (Contents most room (length a + length b) name size) contents tree after = subst (λ (k : ℕ). Got (Contents most room k name size) contents tree after) total c in
    let body : Got (Body most room (length a) name) rest tree after = tail_got _ _ _ _ (body_chain most room (length a) name) rest contents after b size tree rest_is sizes inner in
    tail_got _ _ _ _ (value_chain most room) octets rest after a name tree is n body

pub name_failed : (most : ℕ) (room : Room) (octets : List ℕ) (fault : Fault) → Failed (Names most room) octets fault → Failed (Values most room) octets fault
name_failed most room octets fault f = prefix_failed _ _ _ _ (value_chain most room) octets fault f

pub size_failed : (most : ℕ) (room : Room) (octets rest : List ℕ) (name : Name) (prefix : ℕ) (fault : Fault)
    → Got (Names most room) octets name rest → prefix ≡ length octets - length rest
    → Failed (Sizes most room prefix name.constructed) rest fault → Failed (Values most room) octets fault
size_failed most room octets rest name prefix fault (a, is, n) prefix_is f =
    let taken : prefix ≡ length a = prefix_is ∙ got_length (Names most room) octets rest name (a, is, n) in
    let sizes : Failed (Sizes most room (length a) name.constructed) rest fault = subst (λ (k : ℕ). Failed (Sizes most room k name.constructed) rest fault) taken f in
    tail_failed _ _ _ _ (value_chain most room) octets rest a name fault is n (prefix_failed _ _ _ _ (body_chain most room (length a) name) rest fault sizes)

pub contents_failed : (most : ℕ) (room : Room) (octets rest contents : List ℕ) (name : Name) (size : Option ℕ) (prefix whole : ℕ) (fault : Fault)
    → Got (Names most room) octets name rest → prefix ≡ length octets - length rest
    → Got (Sizes most room prefix name.constructed) rest size contents → whole ≡ length octets - length contents
    → Failed (Contents most room whole name size) contents fault → Failed (Values most room) octets fault
contents_failed most room octets rest contents name size prefix whole fault (a, is, n) prefix_is (b, rest_is, s) whole_is c =
    let taken : prefix ≡ length a = prefix_is ∙ got_length (Names most room) octets rest name (a, is, n) in
    let total : whole ≡ length a + length b = omega (arith, whole_is, ap length is, length-append a rest, ap length rest_is, length-append b contents) in
    let sizes : Sizes most room (length a) name.constructed bounded b size = subst (λ (k : ℕ). Sizes most room k name.constructed bounded b size) taken s in
    let inner : Failed (Contents most room (length a + length b) name size) contents fault = subst (λ (k : ℕ). Failed (Contents most room k name size) contents fault) total c in
    tail_failed _ _ _ _ (value_chain most room) octets rest a name fault is n
    (tail_failed _ _ _ _ (body_chain most room (length a) name) rest contents b size fault rest_is sizes inner)

-- ---- contents

pub plain_got : (t : Tag) (n : ℕ) (octets content rest : List ℕ) → n ≤ length octets → content ≡ take n octets → rest ≡ drop n octets
    → Got (Definite 0 n false t) octets (plain t content) rest
plain_got t n octets content rest le is tail = (
  content,
  sym (take-append-drop n octets) ∙ ap (λ o. o ++ drop n octets) (sym is) ∙ ap (λ o. content ++ o) (sym tail),
  (ap length is ∙ length-take-le n octets le, refl),
)

zeros : (n : ℕ) → (octets : List ℕ) × (length octets ≡ n)
zeros zero = ([], refl)
zeros (suc n) = let rest = zeros n in (0 ∷ rest.0, ap suc rest.1)

pub plain_short : (t : Tag) (n : ℕ) (octets : List ℕ) → length octets < n → Failed (Definite 0 n false t) octets faults.Short
plain_short t n octets lt =
    let z = zeros (n - length octets - 1) in
    let rest : List ℕ = z.0 in
    let m : length rest ≡ n - length octets - 1 = z.1 in
    (0, rest, plain t (octets ++ (0 ∷ rest)), (omega (arith, length-append octets (0 ∷ rest), m), refl))

pub contents_plain : (most : ℕ) (room : Room) (prefix : ℕ) (t : Tag) (c : Bool) (n : ℕ) (octets rest : List ℕ) (tree : Tree) → c ≡ false → Got (Definite 0 n false t) octets tree rest
    → Got (Contents most room prefix (named c t) (Some n)) octets tree rest
contents_plain most room prefix t true n octets rest tree e g = absurd cc
contents_plain most room prefix t false n octets rest tree e g = g

pub contents_wanting : (most : ℕ) (room : Room) (prefix : ℕ) (t : Tag) (c : Bool) (n : ℕ) (octets : List ℕ) (fault : Fault) → c ≡ false → Failed (Definite 0 n false t) octets fault
    → Failed (Contents most room prefix (named c t) (Some n)) octets fault
contents_wanting most room prefix t true n octets fault e f = absurd cc
contents_wanting most room prefix t false n octets faults.Short e f = f
contents_wanting most room prefix t false n octets (faults.Bad left) e f = f
contents_wanting most room prefix t false n octets (faults.Deep left) e f = f
contents_wanting most room prefix t false n octets (faults.Long left) e f = f
contents_wanting most room prefix t false n octets faults.NoMemory e f = f

pub parts_got : (most : ℕ) (room : Room) (prefix : ℕ) (t : Tag) (c : Bool) (n : ℕ) (octets rest : List ℕ) (parts : Trees) → c ≡ true → Got (Parts (most - 1) n) octets parts rest
    → Got (Contents most room prefix (named c t) (Some n)) octets (built t parts) rest
parts_got most room prefix t false n octets rest parts e g = absurd cc
parts_got most room prefix t true n octets rest parts e (word, is, p) = (word, is, (parts, p, refl))

pub parts_failed : (most : ℕ) (room : Room) (prefix : ℕ) (t : Tag) (c : Bool) (n : ℕ) (octets : List ℕ) (fault : Fault) → c ≡ true → Failed (Parts (most - 1) n) octets fault
    → Failed (Contents most room prefix (named c t) (Some n)) octets fault
parts_failed most room prefix t false n octets fault e f = absurd cc
parts_failed most room prefix t true n octets fault e f = carried_failed (Parts (most - 1) n) (Contents most room prefix (named true t) (Some n)) (built t) Anything carries octets fault (λ a b c d h. tt) f
  where
    carries : Carries (Parts (most - 1) n) (Contents most room prefix (named true t) (Some n)) (built t) Anything
    carries = record { onto = λ l word parts p. (parts, p, refl); back = λ l word tail tree h any. (h.0, h.1) }

pub ended_got : (most : ℕ) (room : Room) (prefix : ℕ) (t : Tag) (c : Bool) (octets rest : List ℕ) (parts : Trees) → c ≡ true → Got (Ended (most - 1) (less room prefix)) octets parts rest
    → Got (Contents most room prefix (named c t) None) octets (built t parts) rest
ended_got most room prefix t c octets rest parts e (word, is, p) = (word, is, (parts, p, refl, e))

pub ended_failed : (most : ℕ) (room : Room) (prefix : ℕ) (t : Tag) (c : Bool) (octets : List ℕ) (fault : Fault) → c ≡ true → Failed (Ended (most - 1) (less room prefix)) octets fault
    → Failed (Contents most room prefix (named c t) None) octets fault
ended_failed most room prefix t c octets fault e f = carried_failed (Ended (most - 1) (less room prefix)) (Contents most room prefix (named c t) None) (built t) Anything carries octets fault (λ a b c d h. tt) f
  where
    carries : Carries (Ended (most - 1) (less room prefix)) (Contents most room prefix (named c t) None) (built t) Anything
    carries = record { onto = λ l word parts p. (parts, p, refl, e); back = λ l word tail tree h any. (h.0, h.1) }

-- ---- values in turn, as a loop reads them

joined-joined : (a : Trees) (value : Tree) (b : Trees) → joined (joined a (more value none)) b ≡ joined a (more value b)
joined-joined none value b = refl
joined-joined (more part parts) value b = ap (more part) (joined-joined parts value b)

joined-none : (a : Trees) → joined a none ≡ a
joined-none none = refl
joined-none (more part parts) = ap (more part) (joined-none parts)

-- What is answered on the rest, after the parts, is the answer on all.
pub record PartsSoFar (most len left : ℕ) (octets rest : List ℕ) (parts : Trees) : Type 0 where
  pub some : left ≢ 1
  pub deep : 0 < left → 0 < most
  pub got : (others : Trees) (after : List ℕ) → Got (Parts most left) rest others after → Got (Parts most len) octets (joined parts others) after
  pub failed : (fault : Fault) → Failed (Parts most left) rest fault → Failed (Parts most len) octets fault

pub parts_start : (most len : ℕ) (octets : List ℕ) → len ≢ 1 → (0 < len → 0 < most) → PartsSoFar most len len octets octets none
parts_start most len octets some deep = record { some = some; deep = deep; got = λ others after g. g; failed = λ fault f. f }

pub parts_next : (most len left less_left : ℕ) (octets rest after : List ℕ) (parts all : Trees) (tree : Tree) → 0 < left → PartsSoFar most len left octets rest parts
    → Got (Values most (Exact left)) rest tree after → less_left ≡ left - (length rest - length after) → all ≡ joined parts (more tree none)
    → PartsSoFar most len less_left octets after all
parts_next most len left less_left octets rest after parts all tree begun so_far (word, is, v) left_is all_is =
    let chain = parts_chain most left begun in
    let taken : length rest - length after ≡ length word = got_length (Values most (Exact left)) rest after tree (word, is, v) in
    let same : less_left ≡ left - length word = left_is ∙ ap (λ k. left - k) taken in
    let deep : 0 < most = omega (arith, depth_pos tree, v.1) in
    record {
      some = subst (λ (k : ℕ). k ≢ 1) (sym same) (exact_rest bounded (length word) left v.2).1;
      deep = λ b. deep;
      got = λ others tail g.
          let all_others : Got (Parts most left) rest (more tree others) tail =
          tail_got _ _ _ _ chain rest after tail word tree others is v (subst (λ (k : ℕ). Got (Parts most k) after others tail) same g) in
          subst (λ (ts : Trees). Got (Parts most len) octets ts tail) (sym (joined-joined parts tree others) ∙ ap (λ ts. joined ts others) (sym all_is)) (so_far.got (more tree others) tail all_others);
      failed = λ fault f. so_far.failed fault (tail_failed _ _ _ _ chain rest after word tree fault is v (subst (λ (k : ℕ). Failed (Parts most k) after fault) same f));
    }

pub part_failed : (most len left : ℕ) (octets rest : List ℕ) (parts : Trees) (fault : Fault) → 0 < left → PartsSoFar most len left octets rest parts
    → Failed (Values most (Exact left)) rest fault → Failed (Parts most len) octets fault
part_failed most len left octets rest parts fault begun so_far f = so_far.failed fault (prefix_failed _ _ _ _ (parts_chain most left begun) rest fault f)

begun_by : {X : Type 0} (L : Language X) (octets : List ℕ) (x : X) → 0 < length octets → L bounded octets x → Failed L [] faults.Short
begun_by L [] x some h = absurd (omega arith)
begun_by L (next ∷ rest) x some h = (next, rest, x, h)

pub parts_short : (most len left : ℕ) (octets rest : List ℕ) (parts : Trees) → 0 < left → rest ≡ [] → PartsSoFar most len left octets rest parts → Failed (Parts most len) octets faults.Short
parts_short most len left octets rest parts begun is so_far =
    let o = parts_open bounded most left so_far.some (inr (depth_from bounded most (so_far.deep begun))) in
    let n : length o.0 ≡ left = o.2.2 in
    so_far.failed faults.Short (subst (λ (r : List ℕ). Failed (Parts most left) r faults.Short) (sym is) (begun_by (Parts most left) o.0 o.1 (omega arith) o.2))

pub parts_end : (most len left : ℕ) (octets rest : List ℕ) (parts : Trees) → left ≡ 0 → PartsSoFar most len left octets rest parts → Got (Parts most len) octets parts rest
parts_end most len left octets rest parts is so_far =
    subst (λ (ts : Trees). Got (Parts most len) octets ts rest) (joined-none parts) (so_far.got none rest ([], refl, (refl, shallow_zero bounded most, sym is)))

-- ---- values up to the end of contents

pub record EndedSoFar (most : ℕ) (room left : Room) (octets rest : List ℕ) (parts : Trees) : Type 0 where
  pub roomy : fits bounded left 2 ≡ true
  pub got : (others : Trees) (after : List ℕ) → Got (Ended most left) rest others after → Got (Ended most room) octets (joined parts others) after
  pub failed : (fault : Fault) → Failed (Ended most left) rest fault → Failed (Ended most room) octets fault

pub ended_start : (most : ℕ) (room : Room) (octets : List ℕ) → fits bounded room 2 ≡ true → EndedSoFar most room room octets octets none
ended_start most room octets roomy = record { roomy = roomy; got = λ others after g. g; failed = λ fault f. f }

-- octets that don't begin with 0 begin no end of contents
abbrev StartsAbove : List ℕ → Type 0
StartsAbove octets = (first : ℕ) × (rest : List ℕ) × (0 < first) × (octets ≡ first ∷ rest)

others_carry : (most : ℕ) (room : Room) → Carries (Others most room) (Ended most room) (λ parts. parts) StartsAbove
others_carry most room = record { onto = λ l word parts o. o.3; back = back }
  where
    back : (l : Limits) (word tail : List ℕ) (parts : Trees) → Ended most room l word parts → StartsAbove (word ++ tail) → (x : Trees) × Others most room l word x
    back l word tail none (contents, inside, is_shallow, is, f) (first, rest, above, begins) =
        let clash : 0 ∷ (0 ∷ tail) ≡ first ∷ rest = ap (λ o. (o ++ (0 ∷ 0 ∷ [])) ++ tail) (sym inside) ∙ ap (λ o. o ++ tail) (sym is) ∙ begins in
        let zero_first : 0 ≡ first = cc in absurd (omega arith)
    back l word tail (more part parts) ended starts = (more part parts, (part, parts, refl, ended))

starts_on : (octets prefix rest others : List ℕ) (first octet : ℕ) → 0 < first → octets ≡ first ∷ rest → octets ≡ prefix ++ (octet ∷ others) → (tail : List ℕ) → StartsAbove ((prefix ++ (octet ∷ [])) ++ tail)
starts_on octets [] rest others first octet above is parts tail =
    let same : first ∷ rest ≡ octet ∷ others = sym is ∙ parts in let e : first ≡ octet = cc in (octet, tail, omega arith, refl)
starts_on octets (x ∷ prefix) rest others first octet above is parts tail =
    let same : first ∷ rest ≡ x ∷ (prefix ++ (octet ∷ others)) = sym is ∙ parts in let e : first ≡ x = cc in (x, (prefix ++ (octet ∷ [])) ++ tail, omega arith, refl)

others_failed : (most : ℕ) (room : Room) (octets rest : List ℕ) (first : ℕ) (fault : Fault) → 0 < first → octets ≡ first ∷ rest → Failed (Others most room) octets fault → Failed (Ended most room) octets fault
others_failed most room octets rest first fault above is f =
    carried_failed _ _ _ _ (others_carry most room) octets fault (λ prefix others tail octet parts. starts_on octets prefix rest others first octet above is parts tail) f

pub ended_next : (most first : ℕ) (room left less_left : Room) (octets rest tail after : List ℕ) (parts all : Trees) (tree : Tree) → 0 < first → rest ≡ first ∷ tail → EndedSoFar most room left octets rest parts
    → Got (Values most (less left 2)) rest tree after → less_left ≡ less left (length rest - length after) → all ≡ joined parts (more tree none)
    → EndedSoFar most room less_left octets after all
ended_next most first room left less_left octets rest tail after parts all tree above rest_is so_far (word, is, v) left_is all_is =
    let chain = ended_chain most left in
    let taken : length rest - length after ≡ length word = got_length (Values most (less left 2)) rest after tree (word, is, v) in
    let same : less_left ≡ less left (length word) = left_is ∙ ap (less left) taken in
    record {
      roomy = subst (λ (k : Room). fits bounded k 2 ≡ true) (sym same) (end_tail bounded left (length word) (omega (arith, spelling_long word tree v.0)) v.2);
      got = λ others last g.
          let all_others = tail_got _ _ _ _ chain rest after last word tree others is v (subst (λ (k : Room). Got (Ended most k) after others last) same g) in
          subst (λ (ts : Trees). Got (Ended most room) octets ts last) (sym (joined-joined parts tree others) ∙ ap (λ ts. joined ts others) (sym all_is))
          (so_far.got (more tree others) last (all_others.0, all_others.1, all_others.2.3));
      failed = λ fault f.
          so_far.failed fault (others_failed most left rest tail first fault above rest_is
          (tail_failed _ _ _ _ chain rest after word tree fault is v (subst (λ (k : Room). Failed (Ended most k) after fault) same f)));
    }

pub other_failed : (most first : ℕ) (room left : Room) (octets rest tail : List ℕ) (parts : Trees) (fault : Fault) → 0 < first → rest ≡ first ∷ tail → EndedSoFar most room left octets rest parts
    → Failed (Values most (less left 2)) rest fault → Failed (Ended most room) octets fault
other_failed most first room left octets rest tail parts fault above rest_is so_far f =
    so_far.failed fault (others_failed most left rest tail first fault above rest_is (prefix_failed _ _ _ _ (ended_chain most left) rest fault f))

pub ended_short : (most : ℕ) (room left : Room) (octets rest : List ℕ) (parts : Trees) → rest ≡ [] → EndedSoFar most room left octets rest parts → Failed (Ended most room) octets faults.Short
ended_short most room left octets rest parts is so_far =
    so_far.failed faults.Short (subst (λ (r : List ℕ). Failed (Ended most left) r faults.Short) (sym is) (0, 0 ∷ [], none, ended_open bounded most left so_far.roomy))

pub ended_end : (most : ℕ) (room left : Room) (octets rest tail after : List ℕ) (parts : Trees) → rest ≡ 0 ∷ tail → tail ≡ 0 ∷ after → EndedSoFar most room left octets rest parts
    → Got (Ended most room) octets parts after
ended_end most room left octets rest tail after parts rest_is is so_far =
    subst (λ (ts : Trees). Got (Ended most room) octets ts after) (joined-none parts)
    (so_far.got none after (0 ∷ 0 ∷ [], rest_is ∙ ap (λ o. 0 ∷ o) is, ended_open bounded most left so_far.roomy))

not_ended : (most next : ℕ) (room : Room) (l : Limits) → 0 < next → Ruled (Ended most room) l (0 ∷ next ∷ [])
not_ended most next room l above word tail rest none (contents, inside, is_shallow, is, f) e =
    let clash : 0 ∷ (0 ∷ tail) ≡ 0 ∷ (next ∷ rest) = ap (λ o. (o ++ (0 ∷ 0 ∷ [])) ++ tail) (sym inside) ∙ ap (λ o. o ++ tail) (sym is) ∙ e in
    let same : 0 ≡ next = cc in omega arith
not_ended most next room l above word tail rest (more part parts) (contents, (first, others, spelled, inside, contents_is), is_shallow, is, f) e =
    let b = spelling_begins first part spelled in
    let begins : b.0 ∷ (((b.1 ++ others) ++ (0 ∷ 0 ∷ [])) ++ tail) ≡ 0 ∷ (next ∷ rest) =
    ap (λ o. ((o ++ others) ++ (0 ∷ 0 ∷ [])) ++ tail) (sym b.3) ∙ ap (λ o. (o ++ (0 ∷ 0 ∷ [])) ++ tail) (sym contents_is) ∙ ap (λ o. o ++ tail) (sym is) ∙ e in
    let same : b.0 ≡ 0 = cc in omega (arith, b.2)

no_end : (most : ℕ) (room : Room) (octets tail : List ℕ) (fault : Fault) → fits bounded room 2 ≡ true → octets ≡ 0 ∷ tail → IsNoEnd tail fault → Failed (Ended most room) octets fault
no_end most room octets tail faults.Short roomy is none_left =
    subst (λ (o : List ℕ). Failed (Ended most room) o faults.Short) (sym (is ∙ ap (λ o. 0 ∷ o) none_left)) (0, [], none, ended_open bounded most room roomy)
no_end most room octets tail (faults.Bad left) roomy is (next, rest, tail_is, above, left_is) =
    record {
      prefix = 0 ∷ [];
      octet = next;
      rest = rest;
      parts = is ∙ ap (λ o. 0 ∷ o) tail_is;
      left_is = left_is ∙ ap length tail_is;
      before = inr (0 ∷ [], none, ended_open bounded most room roomy);
      after = not_ended most next room free above;
    }
no_end most room octets tail (faults.Deep left) roomy is h = absurd h
no_end most room octets tail (faults.Long left) roomy is h = absurd h
no_end most room octets tail faults.NoMemory roomy is h = tt

pub ended_wrong : (most : ℕ) (room left : Room) (octets rest tail : List ℕ) (parts : Trees) (fault : Fault) → rest ≡ 0 ∷ tail → IsNoEnd tail fault → EndedSoFar most room left octets rest parts
    → Failed (Ended most room) octets fault
ended_wrong most room left octets rest tail parts fault rest_is h so_far = so_far.failed fault (no_end most left rest tail fault so_far.roomy rest_is h)

-- ---- what the reader may ask of its parts

pub name_facts : (most : ℕ) (room : Room) (octets rest : List ℕ) (name : Name) (prefix : ℕ) → Got (Names most room) octets name rest → prefix ≡ length octets - length rest
    → (length rest ≤ length octets) × (has_depth bounded most ≡ true) × (is_roomy bounded room (prefix + 1) ≡ true)
name_facts most room octets rest name prefix (a, is, n) prefix_is =
    let taken : length a ≡ prefix = sym (prefix_is ∙ got_length (Names most room) octets rest name (a, is, n)) in
    (omega (arith, ap length is, length-append a rest), n.2, subst (λ (k : ℕ). is_roomy bounded room (k + 1) ≡ true) taken n.3)

pub size_facts : (most : ℕ) (room : Room) (octets rest contents : List ℕ) (name : Name) (size : Option ℕ) (prefix whole : ℕ)
    → Got (Names most room) octets name rest → prefix ≡ length octets - length rest
    → Got (Sizes most room prefix name.constructed) rest size contents → whole ≡ length octets - length contents
    → (length contents ≤ length octets) × (size_fits bounded most room whole name.constructed size ≡ true)
size_facts most room octets rest contents name size prefix whole (a, is, n) prefix_is (b, rest_is, s) whole_is =
    let total : prefix + length b ≡ whole = omega (arith, prefix_is, whole_is, ap length is, length-append a rest, ap length rest_is, length-append b contents) in (
      omega (arith, ap length is, length-append a rest, ap length rest_is, length-append b contents),
      subst (λ (k : ℕ). size_fits bounded most room k name.constructed size ≡ true) total s.1,
    )

pub open_room : (most : ℕ) (room : Room) (prefix : ℕ) (c : Bool) → size_fits bounded most room prefix c None ≡ true → (c ≡ true) × (fits bounded (less room prefix) 2 ≡ true)
open_room most room prefix false f = absurd cc
open_room most room prefix true f = (refl, less_fits bounded room prefix 2 f)

pub parts_room : (most : ℕ) (room : Room) (prefix : ℕ) (c : Bool) (n : ℕ) → c ≡ true → size_fits bounded most room prefix c (Some n) ≡ true → (n ≢ 1) × (0 < n → 0 < most - 1)
parts_room most room prefix false n e f = absurd cc
parts_room most room prefix true n e f =
    let p = size_parts bounded most room prefix n f in
    (p.0, λ some. elim p.1 [ inl z ↦ absurd (omega arith) | inr d ↦ ltb-true 0 (most - 1) d ])
