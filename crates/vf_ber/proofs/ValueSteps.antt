-- A value as identifier, length and contents; values in turn.
use Rattle.std.proofs.Common.{◌≡◌, ◌≢◌, ℕ, zero, suc, ◌+◌, ◌-◌, ◌<◌, ◌≤◌, Bool, true, false, max, List, [], ◌∷◌, ◌++◌, length, refl, ap, sym, subst, ◌∙◌, arith, append_assoc, length-append, inl, inr, ◌⊎◌}
use Rattle.std.specs.Prelude.{Option, Some, None}
use Rattle.std.proofs.lemmas.Bool.{cases_lt}
use Rattle.std.proofs.lemmas.List.{append-nil}
use Rattle.vf_ber.specs.declared.room.Room.{Room}
use Rattle.vf_ber.specs.declared.room.Room.TheVariants.{Exact}
use Rattle.vf_ber.specs.Tree.{Tag, Tree, plain, built, Trees, none, more, depth, depth_in}
use Rattle.vf_ber.specs.Spelling.{identifier}
use Rattle.vf_ber.specs.Spellings.{IsLength, Spells, SpellInTurn}
use Rattle.vf_ber.specs.Reading.{Limits, bounded}
use Rattle.vf_ber.specs.Steps.{Language, Name, Names, Sizes, Contents, Values, Parts, Ended, Open, fits, is_roomy, less, has_depth, IsShallow, size_fits, named}
use Rattle.vf_ber.proofs.Chains.{Chain}
use Rattle.vf_ber.proofs.Fits.{depth_some, depth_lift, shallow_lift, shallow_le, shallow_zero, shallow_one, shallow_around, shallow_inside, shallow_both, fits_lift, roomy_lift, fits_roomy, fits_less, less_fits, fits_without, exact_prefix, exact_rest, end_tail, tail_end, prefix_of_end, size_lift, size_room, size_parts, size_from, size_plain}
use Rattle.vf_ber.proofs.Names.{tag, names_same, sizes_same}
use Rattle.vf_ber.proofs.OneTree.{one_spelling, spelling_long, list_long}
use Rattle.vf_ber.proofs.SizeSteps.{sizes_some}

-- ---- octets that fill what is left

pub filled : (n : ℕ) → n ≢ 1 → (octets : List ℕ) × (parts : Trees) × SpellInTurn octets parts × (depth_in parts ≤ 1) × (length octets ≡ n)
filled zero some = ([], none, refl, omega arith, refl)
filled (suc zero) some = absurd (some refl)
filled (suc (suc zero)) some =
    let t = tag 2 0 in
    let spelled : Spells (128 ∷ 0 ∷ []) (plain t []) = (record { class_within = omega arith; number_within = omega arith; some_value = omega arith }, (0 ∷ [], inl (refl, omega arith), refl)) in
    (128 ∷ 0 ∷ [], more (plain t []) none, (128 ∷ 0 ∷ [], [], spelled, refl, refl), omega arith, refl)
filled (suc (suc (suc zero))) some =
    let t = tag 2 0 in
    let spelled : Spells (128 ∷ 1 ∷ 0 ∷ []) (plain t (0 ∷ [])) = (record { class_within = omega arith; number_within = omega arith; some_value = omega arith }, (1 ∷ [], inl (refl, omega arith), refl)) in
    (128 ∷ 1 ∷ 0 ∷ [], more (plain t (0 ∷ [])) none, (128 ∷ 1 ∷ 0 ∷ [], [], spelled, refl, refl), omega arith, refl)
filled (suc (suc (suc (suc n)))) some =
    let t = tag 2 0 in
    let spelled : Spells (128 ∷ 0 ∷ []) (plain t []) = (record { class_within = omega arith; number_within = omega arith; some_value = omega arith }, (0 ∷ [], inl (refl, omega arith), refl)) in
    let others = filled (suc (suc n)) (λ e. omega arith) in
    let octets = others.0 in
    let parts = others.1 in
    let shallow : depth_in parts ≤ 1 = others.3 in
    let len : length octets ≡ suc (suc n) = others.4 in
    (128 ∷ 0 ∷ octets, more (plain t []) parts, (128 ∷ 0 ∷ [], octets, spelled, others.2, refl), omega arith, omega arith)

-- values that fill a definite length
pub parts_open : (l : Limits) (most n : ℕ) → n ≢ 1 → (n ≡ 0) ⊎ (has_depth l most ≡ true) → Open (Parts most n) l []
parts_open l most n some (inl none_left) = ([], none, (refl, shallow_zero l most, sym none_left))
parts_open l most n some (inr deep) =
    let f = filled n some in
    (f.0, f.1, (f.2, shallow_le l most (depth_in f.1) 1 f.3 (shallow_one l most deep), f.4))

pub ended_open : (l : Limits) (most : ℕ) (room : Room) → fits l room 2 ≡ true → Ended most room l (0 ∷ 0 ∷ []) none
ended_open l most room f = ([], refl, shallow_zero l most, refl, f)

pub depth_pos : (tree : Tree) → 1 ≤ depth tree
depth_pos (plain t octets) = omega arith
depth_pos (built t parts) = omega arith

-- ---- a length and contents

abbrev pub Body : ℕ → Room → ℕ → Name → Language Tree
Body most room prefix name l octets tree =
    (len : List ℕ) × (body : List ℕ) × (size : Option ℕ) × Sizes most room prefix name.constructed l len size
    × Contents most room (prefix + length len) name size l body tree × (octets ≡ len ++ body)

contents_open : (l : Limits) (most : ℕ) (room : Room) (prefix : ℕ) (c : Bool) (t : Tag) (size : Option ℕ) → size_fits l most room prefix c size ≡ true
    → Open (Contents most room prefix (named c t) size) l []
contents_open l most room prefix true t (Some n) f =
    let p = size_parts l most room prefix n f in
    let o = parts_open l (most - 1) n p.0 p.1 in
    (o.0, built t o.1, (o.1, o.2, refl))
contents_open l most room prefix false t (Some n) f =
    let o = zeros n in
    (o.0, plain t o.0, (o.1, refl))
  where
    zeros : (n : ℕ) → (octets : List ℕ) × (length octets ≡ n)
    zeros zero = ([], refl)
    zeros (suc n) = let rest = zeros n in (0 ∷ rest.0, ap suc rest.1)
contents_open l most room prefix true t None f = (0 ∷ 0 ∷ [], built t none, (none, ended_open l (most - 1) (less room prefix) (less_fits l room prefix 2 f), refl, refl))
contents_open l most room prefix false t None f = absurd cc

pub body_chain : (most : ℕ) (room : Room) (prefix : ℕ) (name : Name)
    → Chain (Sizes most room prefix name.constructed) (λ size a. Contents most room (prefix + length a) name size) (Body most room prefix name) (λ size tree. tree)
body_chain most room prefix name = record { unique = unique; lift = lift; nonempty = nonempty; join = join; split = split }
  where
    c : Bool
    c = name.constructed

    unique : (l k : Limits) (a b r s : List ℕ) (x y : Option ℕ) → Sizes most room prefix name.constructed l a x → Sizes most room prefix name.constructed k b y → a ++ r ≡ b ++ s → (a ≡ b) × (x ≡ y)
    unique l k a b r s x y (is, f) (other, g) e = sizes_same a b r s x y is other e

    lift : (l : Limits) (a : List ℕ) (x : Option ℕ) → Sizes most room prefix name.constructed bounded a x → Sizes most room prefix name.constructed l a x
    lift l a x (is, f) = (is, size_lift l most room (prefix + length a) name.constructed x f)

    nonempty : (l : Limits) (a : List ℕ) (x : Option ℕ) → Sizes most room prefix name.constructed l a x → Open (Contents most room (prefix + length a) name x) l []
    nonempty l a x (is, f) = contents_open l most room (prefix + length a) name.constructed name.tag x f

    join : (l : Limits) (a b : List ℕ) (x : Option ℕ) (tree : Tree) → Sizes most room prefix name.constructed l a x → Contents most room (prefix + length a) name x l b tree → Body most room prefix name l (a ++ b) tree
    join l a b x tree sizes contents = (a, b, x, sizes, contents, refl)

    split : (l : Limits) (o : List ℕ) (tree : Tree) → Body most room prefix name l o tree
        → (a : List ℕ) × (b : List ℕ) × (x : Option ℕ) × (y : Tree) × Sizes most room prefix name.constructed l a x × Contents most room (prefix + length a) name x l b y × (o ≡ a ++ b)
    split l o tree (len, body, size, sizes, contents, is) = (len, body, size, tree, sizes, contents, is)

-- ---- a value

whole_length : (a len body : List ℕ) → length (a ++ (len ++ body)) ≡ length a + length len + length body
whole_length a len body = omega (arith, length-append a (len ++ body), length-append len body)

value_join : (l : Limits) (most : ℕ) (room : Room) (a len body : List ℕ) (c : Bool) (t : Tag) (size : Option ℕ) (tree : Tree) → Names most room l a (named c t)
    → Sizes most room (length a) c l len size → Contents most room (length a + length len) (named c t) size l body tree → Values most room l (a ++ (len ++ body)) tree
value_join l most room a len body false t (Some n) tree (is, fits_tag, deep, roomy) (at_len, f) (n_is, tree_is) =
    let total : length a + length len + n ≡ length (a ++ (len ++ body)) = omega (arith, whole_length a len body, n_is) in
    subst (λ (v : Tree). Values most room l (a ++ (len ++ body)) v) (sym tree_is) (
      (fits_tag, (len, subst (λ (k : ℕ). IsLength len k) (sym n_is) at_len, ap (λ o. o ++ (len ++ body)) is)),
      shallow_one l most deep,
      subst (λ (k : ℕ). fits l room k ≡ true) total (size_room l most room (length a + length len) false n f),
    )
value_join l most room a len body true t (Some n) tree (is, fits_tag, deep, roomy) (at_len, f) (parts, (inside, shallow_parts, n_is), tree_is) =
    let total : length a + length len + n ≡ length (a ++ (len ++ body)) = omega (arith, whole_length a len body, n_is) in
    subst (λ (v : Tree). Values most room l (a ++ (len ++ body)) v) (sym tree_is) (
      (fits_tag, (body, inside, inl (len, subst (λ (k : ℕ). IsLength len k) (sym n_is) at_len, ap (λ o. o ++ (len ++ body)) is))),
      shallow_around l most (depth_in parts) deep shallow_parts,
      subst (λ (k : ℕ). fits l room k ≡ true) total (size_room l most room (length a + length len) true n f),
    )
value_join l most room a len body true t None tree (is, fits_tag, deep, roomy) (len_is, f) (parts, (contents, inside, shallow_parts, body_is, g), tree_is, same) =
    let prefix = length a + length len in
    let total : prefix + length body ≡ length (a ++ (len ++ body)) = sym (whole_length a len body) in
    let spelled : a ++ (len ++ body) ≡ identifier true t ++ (128 ∷ (contents ++ (0 ∷ 0 ∷ []))) =
    ap (λ o. o ++ (len ++ body)) is ∙ ap (λ o. identifier true t ++ (o ++ body)) len_is ∙ ap (λ o. identifier true t ++ (128 ∷ o)) body_is in
    subst (λ (v : Tree). Values most room l (a ++ (len ++ body)) v) (sym tree_is) (
      (fits_tag, (contents, inside, inr spelled)),
      shallow_around l most (depth_in parts) deep shallow_parts,
      subst (λ (k : ℕ). fits l room k ≡ true) total
          (fits_less l room prefix (length body) prefix (omega arith) (fits_roomy l room (prefix + 2) prefix (omega arith) f) g),
    )
value_join l most room a len body false t None tree names sizes (parts, ended, tree_is, same) = absurd cc

value_split : (l : Limits) (most : ℕ) (room : Room) (o : List ℕ) (tree : Tree) → Values most room l o tree
    → (a : List ℕ) × (b : List ℕ) × (x : Name) × (y : Tree) × Names most room l a x × Body most room (length a) x l b y × (o ≡ a ++ b)
value_split l most room o (plain t contents) ((fits_tag, (len, at_len, is)), shallow_tree, f) =
    let a = identifier false t in
    let total : length o ≡ length a + length len + length contents = ap length is ∙ whole_length a len contents in (
      a,
      len ++ contents,
      named false t,
      plain t contents,
      (refl, fits_tag, depth_some l most 1 shallow_tree (omega arith), fits_roomy l room (length o) (length a + 1) (omega (arith, total, len_some len (length contents) at_len)) f),
      (len, contents, Some (length contents), (at_len, size_plain l most room (length a + length len) (length contents) (subst (λ (k : ℕ). fits l room k ≡ true) total f)), (refl, refl), refl),
      is,
    )
  where
    len_some : (len : List ℕ) (n : ℕ) → IsLength len n → 1 ≤ length len
    len_some len n (inl (is, lt)) = omega (arith, ap length is)
    len_some len n (inr long) = omega (arith, ap length long.spelled)
value_split l most room o (built t parts) ((fits_tag, (contents, inside, inl (len, at_len, is))), shallow_tree, f) =
    let a = identifier true t in
    let total : length o ≡ length a + length len + length contents = ap length is ∙ whole_length a len contents in
    let inner = shallow_inside l most (depth_in parts) shallow_tree in (
      a,
      len ++ contents,
      named true t,
      built t parts,
      (refl, fits_tag, depth_some l most (depth_in parts + 1) shallow_tree (omega arith), fits_roomy l room (length o) (length a + 1) (omega (arith, total, len_some len (length contents) at_len)) f),
      (
        len,
        contents,
        Some (length contents),
        (at_len, size_from l most room (length a + length len) (length contents) (subst (λ (k : ℕ). fits l room k ≡ true) total f) (list_long contents parts inside) (deep_enough parts contents inside inner)),
        (parts, (inside, inner, refl), refl),
        refl,
      ),
      is,
    )
  where
    len_some : (len : List ℕ) (n : ℕ) → IsLength len n → 1 ≤ length len
    len_some len n (inl (is, lt)) = omega (arith, ap length is)
    len_some len n (inr long) = omega (arith, ap length long.spelled)

    deep_enough : (parts : Trees) (contents : List ℕ) → SpellInTurn contents parts → IsShallow l (most - 1) (depth_in parts) → (length contents ≡ 0) ⊎ (has_depth l (most - 1) ≡ true)
    deep_enough none contents inside inner = inl (ap length inside)
    deep_enough (more part parts) contents inside inner = inr (depth_some l (most - 1) (depth_in (more part parts)) inner (omega (arith, depth_pos part)))
value_split l most room o (built t parts) ((fits_tag, (contents, inside, inr is)), shallow_tree, f) =
    let a = identifier true t in
    let body = contents ++ (0 ∷ 0 ∷ []) in
    let one : List ℕ = 128 ∷ [] in
    let total : length o ≡ length a + length one + length body = ap length is ∙ whole_length a one body in
    let ended : length body ≡ length contents + 2 = length-append contents (0 ∷ 0 ∷ []) in
    let apart : length o ≡ length a + 1 + 2 + length contents = omega (arith, total, ended) in
    let fits_body : length o ≡ length a + 1 + length body = omega (arith, total) in (
      a,
      128 ∷ body,
      named true t,
      built t parts,
      (refl, fits_tag, depth_some l most (depth_in parts + 1) shallow_tree (omega arith), fits_roomy l room (length o) (length a + 1) (omega (arith, total)) f),
      (
        128 ∷ [],
        body,
        None,
        (refl, fits_without l room (length a + 1 + 2) (length contents) (list_long contents parts inside) (subst (λ (k : ℕ). fits l room k ≡ true) apart f)),
        (parts, (contents, inside, shallow_inside l most (depth_in parts) shallow_tree, refl, less_fits l room (length a + 1) (length body) (subst (λ (k : ℕ). fits l room k ≡ true) fits_body f)), refl, refl),
        refl,
      ),
      is,
    )

body_none : (l : Limits) (most : ℕ) (room : Room) (a : List ℕ) (c : Bool) (t : Tag) → is_roomy l room (length a + 1) ≡ true → Open (Body most room (length a) (named c t)) l []
body_none l most room a true t roomy =
    let s = sizes_some l most room (length a) true roomy in
    (s.0 ∷ s.1, built t none, (s.0 ∷ s.1, [], Some 0, s.2, (none, (refl, shallow_zero l (most - 1), refl), refl), sym (append-nil (s.0 ∷ s.1))))
body_none l most room a false t roomy =
    let s = sizes_some l most room (length a) false roomy in
    (s.0 ∷ s.1, plain t [], (s.0 ∷ s.1, [], Some 0, s.2, (refl, refl), sym (append-nil (s.0 ∷ s.1))))

pub value_chain : (most : ℕ) (room : Room) → Chain (Names most room) (λ name a. Body most room (length a) name) (Values most room) (λ name tree. tree)
value_chain most room = record { unique = unique; lift = lift; nonempty = nonempty; join = join; split = λ l o tree v. value_split l most room o tree v }
  where
    unique : (l k : Limits) (a b r s : List ℕ) (x y : Name) → Names most room l a x → Names most room k b y → a ++ r ≡ b ++ s → (a ≡ b) × (x ≡ y)
    unique l k a b r s x y (is, fits_tag, deep, roomy) (other, other_fits, other_deep, other_roomy) e =
        let same = names_same x y r s (ap (λ o. o ++ r) (sym is) ∙ e ∙ ap (λ o. o ++ s) other) in
        (is ∙ ap (λ (n : Name). identifier n.constructed n.tag) same.0 ∙ sym other, same.0)

    lift : (l : Limits) (a : List ℕ) (x : Name) → Names most room bounded a x → Names most room l a x
    lift l a x (is, fits_tag, deep, roomy) = (is, fits_tag, depth_lift l most deep, roomy_lift l room (length a + 1) roomy)

    nonempty : (l : Limits) (a : List ℕ) (x : Name) → Names most room l a x → Open (Body most room (length a) x) l []
    nonempty l a x (is, fits_tag, deep, roomy) = body_none l most room a x.constructed x.tag roomy

    join : (l : Limits) (a b : List ℕ) (x : Name) (tree : Tree) → Names most room l a x → Body most room (length a) x l b tree → Values most room l (a ++ b) tree
    join l a b x tree names (len, body, size, sizes, contents, is) =
        subst (λ (o : List ℕ). Values most room l (a ++ o) tree) (sym is) (value_join l most room a len body x.constructed x.tag size tree names sizes contents)

value_lift : (most : ℕ) (room : Room) (l : Limits) (a : List ℕ) (x : Tree) → Values most room bounded a x → Values most room l a x
value_lift most room l a x (spelled, shallow_tree, f) = (spelled, shallow_lift l most (depth x) shallow_tree, fits_lift l room (length a) f)

-- ---- values in turn

max_cases : (m n : ℕ) → (max m n ≤ m) ⊎ (max m n ≤ n)
max_cases m n = elim (cases_lt m n) [ inl lt ↦ inr (omega arith) | inr le ↦ inl (omega arith) ]

pub parts_chain : (most len : ℕ) → 0 < len → Chain (Values most (Exact len)) (λ tree a. Parts most (len - length a)) (Parts most len) more
parts_chain most len some = record { unique = unique; lift = value_lift most (Exact len); nonempty = nonempty; join = join; split = split }
  where
    unique : (l k : Limits) (a b r s : List ℕ) (x y : Tree) → Values most (Exact len) l a x → Values most (Exact len) k b y → a ++ r ≡ b ++ s → (a ≡ b) × (x ≡ y)
    unique l k a b r s x y v w e = one_spelling x y a b r s v.0 w.0 e

    nonempty : (l : Limits) (a : List ℕ) (x : Tree) → Values most (Exact len) l a x → Open (Parts most (len - length a)) l []
    nonempty l a x (spelled, shallow_tree, f) =
        parts_open l most (len - length a) (exact_rest l (length a) len f).1 (inr (depth_some l most (depth x) shallow_tree (depth_pos x)))

    join : (l : Limits) (a b : List ℕ) (x : Tree) (parts : Trees) → Values most (Exact len) l a x → Parts most (len - length a) l b parts → Parts most len l (a ++ b) (more x parts)
    join l a b x parts (spelled, shallow_tree, f) (inside, shallow_parts, n) =
        let le = (exact_rest l (length a) len f).0 in (
          (a, b, spelled, inside, refl),
          shallow_both l most (depth x) (depth_in parts) (max (depth x) (depth_in parts)) shallow_tree shallow_parts (max_cases (depth x) (depth_in parts)),
          omega (arith, length-append a b, n, le),
        )

    split : (l : Limits) (o : List ℕ) (parts : Trees) → Parts most len l o parts
        → (a : List ℕ) × (b : List ℕ) × (x : Tree) × (y : Trees) × Values most (Exact len) l a x × Parts most (len - length a) l b y × (o ≡ a ++ b)
    split l o none (is, shallow_parts, n) = absurd (omega (arith, ap length is, n, some))
    split l o (more part parts) ((a, b, spelled, inside, is), shallow_parts, n) =
        let total : length a + length b ≡ len = omega (arith, ap length is, length-append a b, n) in (
          a,
          b,
          part,
          parts,
          (
            spelled,
            shallow_le l most (depth part) (max (depth part) (depth_in parts)) (omega arith) shallow_parts,
            subst (λ (k : ℕ). fits l (Exact k) (length a) ≡ true) total (exact_prefix l (length a) (length b) (list_long b parts inside)),
          ),
          (inside, shallow_le l most (depth_in parts) (max (depth part) (depth_in parts)) (omega arith) shallow_parts, omega (arith, total)),
          is,
        )

-- values in turn before the end of contents, one at least
abbrev pub Others : ℕ → Room → Language Trees
Others most room l octets trees = (part : Tree) × (parts : Trees) × (trees ≡ more part parts) × Ended most room l octets trees

pub ended_chain : (most : ℕ) (room : Room) → Chain (Values most (less room 2)) (λ tree a. Ended most (less room (length a))) (Others most room) more
ended_chain most room = record { unique = unique; lift = value_lift most (less room 2); nonempty = nonempty; join = join; split = split }
  where
    unique : (l k : Limits) (a b r s : List ℕ) (x y : Tree) → Values most (less room 2) l a x → Values most (less room 2) k b y → a ++ r ≡ b ++ s → (a ≡ b) × (x ≡ y)
    unique l k a b r s x y v w e = one_spelling x y a b r s v.0 w.0 e

    nonempty : (l : Limits) (a : List ℕ) (x : Tree) → Values most (less room 2) l a x → Open (Ended most (less room (length a))) l []
    nonempty l a x (spelled, shallow_tree, f) =
        (0 ∷ 0 ∷ [], none, ended_open l most (less room (length a)) (end_tail l room (length a) (omega (arith, spelling_long a x spelled)) f))

    join : (l : Limits) (a b : List ℕ) (x : Tree) (parts : Trees) → Values most (less room 2) l a x → Ended most (less room (length a)) l b parts → Others most room l (a ++ b) (more x parts)
    join l a b x parts (spelled, shallow_tree, f) (contents, inside, shallow_parts, is, g) = (
      x,
      parts,
      refl,
      (
        a ++ contents,
        (a, contents, spelled, inside, refl),
        shallow_both l most (depth x) (depth_in parts) (max (depth x) (depth_in parts)) shallow_tree shallow_parts (max_cases (depth x) (depth_in parts)),
        ap (λ o. a ++ o) is ∙ sym (append_assoc a contents (0 ∷ 0 ∷ [])),
        subst (λ (k : ℕ). fits l room k ≡ true) (sym (length-append a b)) (tail_end l room (length a) (length b) (omega (arith, spelling_long a x spelled)) f g),
      ),
    )

    split : (l : Limits) (o : List ℕ) (trees : Trees) → Others most room l o trees
        → (a : List ℕ) × (b : List ℕ) × (x : Tree) × (y : Trees) × Values most (less room 2) l a x × Ended most (less room (length a)) l b y × (o ≡ a ++ b)
    split l o none (part, parts, same, ended) = absurd cc
    split l o (more part parts) (first, others, same, (contents, (a, b, spelled, inside, is), shallow_parts, o_is, f)) =
        let whole : o ≡ a ++ (b ++ (0 ∷ 0 ∷ [])) = o_is ∙ ap (λ c. c ++ (0 ∷ 0 ∷ [])) is ∙ append_assoc a b (0 ∷ 0 ∷ []) in
        let total : length o ≡ length a + (length b + 2) = omega (arith, ap length whole, length-append a (b ++ (0 ∷ 0 ∷ [])), length-append b (0 ∷ 0 ∷ [])) in
        let g : fits l room (length a + (length b + 2)) ≡ true = subst (λ (k : ℕ). fits l room k ≡ true) total f in
        let ended : length b + 2 ≡ length (b ++ (0 ∷ 0 ∷ [])) = sym (length-append b (0 ∷ 0 ∷ [])) in (
          a,
          b ++ (0 ∷ 0 ∷ []),
          part,
          parts,
          (spelled, shallow_le l most (depth part) (max (depth part) (depth_in parts)) (omega arith) shallow_parts, prefix_of_end l room (length a) (length b) (list_long b parts inside) g),
          (
            b,
            inside,
            shallow_le l most (depth_in parts) (max (depth part) (depth_in parts)) (omega arith) shallow_parts,
            refl,
            subst (λ (k : ℕ). fits l (less room (length a)) k ≡ true) ended (less_fits l room (length a) (length b + 2) g),
          ),
          whole,
        )
