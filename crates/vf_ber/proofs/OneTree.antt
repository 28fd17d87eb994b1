-- Octets begin with the spelling of one tree at most.
use Rattle.std.proofs.Common.{◌≡◌, ◌≢◌, ℕ, ◌<◌, ◌≤◌, Bool, true, false, List, [], ◌∷◌, ◌++◌, length, refl, ap, sym, ◌∙◌, arith, append_assoc, length-append, inl, inr, ◌⊎◌}
use Rattle.std.specs.Prelude.{Option, Some, None}
use Rattle.std.proofs.lemmas.List.{append_cancel_left, append_cancel_right}
use Rattle.vf_ber.specs.Tree.{Tag, Tree, plain, built, Trees, none, more}
use Rattle.vf_ber.specs.Spelling.{identifier}
use Rattle.vf_ber.specs.Spellings.{Spells, SpellInTurn}
use Rattle.vf_ber.specs.Steps.{Name, IsSize, named}
use Rattle.vf_ber.proofs.Names.{same_prefix, names_same, sizes_same, begins, identifier_some, size_some}

pub assoc3 : (a b c r : List ℕ) → (a ++ (b ++ c)) ++ r ≡ a ++ (b ++ (c ++ r))
assoc3 a b c r = append_assoc a (b ++ c) r ∙ ap (λ o. a ++ o) (append_assoc b c r)

-- what stands after an identifier and a length
heads_same : (c d : Bool) (t u : Tag) (len other r s : List ℕ) (x y : Option ℕ) → IsSize len x → IsSize other y
    → identifier c t ++ (len ++ r) ≡ identifier d u ++ (other ++ s) → (c ≡ d) × (t ≡ u) × (x ≡ y) × (r ≡ s)
heads_same c d t u len other r s x y at_len at_other e =
    let names = names_same (named c t) (named d u) (len ++ r) (other ++ s) e in
    let sizes = sizes_same len other r s x y at_len at_other names.1 in
    let rest : other ++ r ≡ other ++ s = ap (λ o. o ++ r) (sym sizes.0) ∙ names.1 in
    (ap (λ (n : Name). n.constructed) names.0, ap (λ (n : Name). n.tag) names.0, sizes.1, append_cancel_left other r s rest)

some_is : (x y : ℕ) → ◌≡◌ {A = Option ℕ} (Some x) (Some y) → x ≡ y
some_is x y e = cc

-- the first octet of a spelling isn't 0
pub spelling_begins : (octets : List ℕ) (tree : Tree) → Spells octets tree → (first : ℕ) × (others : List ℕ) × (0 < first) × (octets ≡ first ∷ others)
spelling_begins octets (plain tag contents) (fits, (len, at_len, is)) =
    let b = begins false tag (len ++ contents) fits in (b.0, b.1, b.2, is ∙ b.3)
spelling_begins octets (built tag parts) (fits, (contents, inside, inl (len, at_len, is))) =
    let b = begins true tag (len ++ contents) fits in (b.0, b.1, b.2, is ∙ b.3)
spelling_begins octets (built tag parts) (fits, (contents, inside, inr is)) =
    let b = begins true tag (128 ∷ (contents ++ (0 ∷ 0 ∷ []))) fits in (b.0, b.1, b.2, is ∙ b.3)

-- so that no list of spellings goes on where another one ends
abbrev StartsZero : List ℕ → Type 0
StartsZero octets = (rest : List ℕ) × (octets ≡ 0 ∷ rest)

abbrev BothEnd : List ℕ → List ℕ → List ℕ → List ℕ → Type 0
BothEnd a b r s = (length a ≡ length b) ⊎ (StartsZero r × StartsZero s)

not_more : (first rest r s : List ℕ) (part : Tree) → Spells first part → (length (first ++ rest) ≡ 0) ⊎ StartsZero s → (first ++ rest) ++ r ≡ s → ⊥
not_more first rest r s part spelled end e =
    let b = spelling_begins first part spelled in
    elim end [
      | inl n ↦ absurd (omega (arith, n, length-append first rest, ap length b.3))
      | inr z ↦ let clash : b.0 ∷ ((b.1 ++ rest) ++ r) ≡ 0 ∷ z.0 = ap (λ o. (o ++ rest) ++ r) (sym b.3) ∙ e ∙ z.1 in let is : b.0 ≡ 0 = cc in absurd (omega (arith, is, b.2))
    ]

mutual
  pub one_tree : (a b : Tree) (o p r s : List ℕ) → Spells o a → Spells p b → o ++ r ≡ p ++ s → (a ≡ b) × (r ≡ s)
  one_tree (plain t c) (plain u d) o p r s (fits, (len, at_len, is)) (other_fits, (other, at_other, other_is)) e =
      let spelled : identifier false t ++ (len ++ (c ++ r)) ≡ identifier false u ++ (other ++ (d ++ s)) =
      sym (assoc3 (identifier false t) len c r) ∙ ap (λ o. o ++ r) (sym is) ∙ e ∙ ap (λ o. o ++ s) other_is ∙ assoc3 (identifier false u) other d s in
      let h = heads_same false false t u len other (c ++ r) (d ++ s) (Some (length c)) (Some (length d)) at_len at_other spelled in
      let same = same_prefix c d r s (some_is (length c) (length d) h.2) h.3 in
      let rest : d ++ r ≡ d ++ s = ap (λ o. o ++ r) (sym same) ∙ h.3 in
      (ap (λ x. plain x c) h.1 ∙ ap (plain u) same, append_cancel_left d r s rest)
  one_tree (plain t c) (built u parts) o p r s (fits, (len, at_len, is)) (other_fits, (d, inside, inl (other, at_other, other_is))) e =
      let spelled : identifier false t ++ (len ++ (c ++ r)) ≡ identifier true u ++ (other ++ (d ++ s)) =
      sym (assoc3 (identifier false t) len c r) ∙ ap (λ o. o ++ r) (sym is) ∙ e ∙ ap (λ o. o ++ s) other_is ∙ assoc3 (identifier true u) other d s in
      let h = heads_same false true t u len other (c ++ r) (d ++ s) (Some (length c)) (Some (length d)) at_len at_other spelled in absurd cc
  one_tree (plain t c) (built u parts) o p r s (fits, (len, at_len, is)) (other_fits, (d, inside, inr other_is)) e =
      let spelled : identifier false t ++ (len ++ (c ++ r)) ≡ identifier true u ++ ((128 ∷ []) ++ ((d ++ (0 ∷ 0 ∷ [])) ++ s)) =
      sym (assoc3 (identifier false t) len c r) ∙ ap (λ o. o ++ r) (sym is) ∙ e ∙ ap (λ o. o ++ s) other_is ∙ assoc3 (identifier true u) (128 ∷ []) (d ++ (0 ∷ 0 ∷ [])) s in
      let h = heads_same false true t u len (128 ∷ []) (c ++ r) ((d ++ (0 ∷ 0 ∷ [])) ++ s) (Some (length c)) None at_len refl spelled in absurd cc
  one_tree (built t parts) (plain u d) o p r s (fits, (c, inside, inl (len, at_len, is))) (other_fits, (other, at_other, other_is)) e =
      let spelled : identifier true t ++ (len ++ (c ++ r)) ≡ identifier false u ++ (other ++ (d ++ s)) =
      sym (assoc3 (identifier true t) len c r) ∙ ap (λ o. o ++ r) (sym is) ∙ e ∙ ap (λ o. o ++ s) other_is ∙ assoc3 (identifier false u) other d s in
      let h = heads_same true false t u len other (c ++ r) (d ++ s) (Some (length c)) (Some (length d)) at_len at_other spelled in absurd cc
  one_tree (built t parts) (plain u d) o p r s (fits, (c, inside, inr is)) (other_fits, (other, at_other, other_is)) e =
      let spelled : identifier true t ++ ((128 ∷ []) ++ ((c ++ (0 ∷ 0 ∷ [])) ++ r)) ≡ identifier false u ++ (other ++ (d ++ s)) =
      sym (assoc3 (identifier true t) (128 ∷ []) (c ++ (0 ∷ 0 ∷ [])) r) ∙ ap (λ o. o ++ r) (sym is) ∙ e ∙ ap (λ o. o ++ s) other_is ∙ assoc3 (identifier false u) other d s in
      let h = heads_same true false t u (128 ∷ []) other ((c ++ (0 ∷ 0 ∷ [])) ++ r) (d ++ s) None (Some (length d)) refl at_other spelled in absurd cc
  one_tree (built t parts) (built u others) o p r s (fits, (c, inside, inl (len, at_len, is))) (other_fits, (d, other_inside, inl (other, at_other, other_is))) e =
      let spelled : identifier true t ++ (len ++ (c ++ r)) ≡ identifier true u ++ (other ++ (d ++ s)) =
      sym (assoc3 (identifier true t) len c r) ∙ ap (λ o. o ++ r) (sym is) ∙ e ∙ ap (λ o. o ++ s) other_is ∙ assoc3 (identifier true u) other d s in
      let h = heads_same true true t u len other (c ++ r) (d ++ s) (Some (length c)) (Some (length d)) at_len at_other spelled in
      let same = one_list parts others c d r s inside other_inside (inl (some_is (length c) (length d) h.2)) h.3 in
      (ap (λ x. built x parts) h.1 ∙ ap (built u) same.0, same.1)
  one_tree (built t parts) (built u others) o p r s (fits, (c, inside, inl (len, at_len, is))) (other_fits, (d, other_inside, inr other_is)) e =
      let spelled : identifier true t ++ (len ++ (c ++ r)) ≡ identifier true u ++ ((128 ∷ []) ++ ((d ++ (0 ∷ 0 ∷ [])) ++ s)) =
      sym (assoc3 (identifier true t) len c r) ∙ ap (λ o. o ++ r) (sym is) ∙ e ∙ ap (λ o. o ++ s) other_is ∙ assoc3 (identifier true u) (128 ∷ []) (d ++ (0 ∷ 0 ∷ [])) s in
      let h = heads_same true true t u len (128 ∷ []) (c ++ r) ((d ++ (0 ∷ 0 ∷ [])) ++ s) (Some (length c)) None at_len refl spelled in
      let clash : ◌≡◌ {A = Option ℕ} (Some (length c)) None = h.2 in absurd cc
  one_tree (built t parts) (built u others) o p r s (fits, (c, inside, inr is)) (other_fits, (d, other_inside, inl (other, at_other, other_is))) e =
      let spelled : identifier true t ++ ((128 ∷ []) ++ ((c ++ (0 ∷ 0 ∷ [])) ++ r)) ≡ identifier true u ++ (other ++ (d ++ s)) =
      sym (assoc3 (identifier true t) (128 ∷ []) (c ++ (0 ∷ 0 ∷ [])) r) ∙ ap (λ o. o ++ r) (sym is) ∙ e ∙ ap (λ o. o ++ s) other_is ∙ assoc3 (identifier true u) other d s in
      let h = heads_same true true t u (128 ∷ []) other ((c ++ (0 ∷ 0 ∷ [])) ++ r) (d ++ s) None (Some (length d)) refl at_other spelled in
      let clash : ◌≡◌ {A = Option ℕ} None (Some (length d)) = h.2 in absurd cc
  one_tree (built t parts) (built u others) o p r s (fits, (c, inside, inr is)) (other_fits, (d, other_inside, inr other_is)) e =
      let spelled : identifier true t ++ ((128 ∷ []) ++ ((c ++ (0 ∷ 0 ∷ [])) ++ r)) ≡ identifier true u ++ ((128 ∷ []) ++ ((d ++ (0 ∷ 0 ∷ [])) ++ s)) =
      sym (assoc3 (identifier true t) (128 ∷ []) (c ++ (0 ∷ 0 ∷ [])) r) ∙ ap (λ o. o ++ r) (sym is) ∙ e ∙ ap (λ o. o ++ s) other_is ∙ assoc3 (identifier true u) (128 ∷ []) (d ++ (0 ∷ 0 ∷ [])) s in
      let h = heads_same true true t u (128 ∷ []) (128 ∷ []) ((c ++ (0 ∷ 0 ∷ [])) ++ r) ((d ++ (0 ∷ 0 ∷ [])) ++ s) None None refl refl spelled in
      let apart : c ++ (0 ∷ 0 ∷ r) ≡ d ++ (0 ∷ 0 ∷ s) = sym (append_assoc c (0 ∷ 0 ∷ []) r) ∙ h.3 ∙ append_assoc d (0 ∷ 0 ∷ []) s in
      let same = one_list parts others c d (0 ∷ 0 ∷ r) (0 ∷ 0 ∷ s) inside other_inside (inr ((0 ∷ r, refl), (0 ∷ s, refl))) apart in
      (ap (λ x. built x parts) h.1 ∙ ap (built u) same.0, append_cancel_left (0 ∷ 0 ∷ []) r s same.1)

  one_list : (a b : Trees) (o p r s : List ℕ) → SpellInTurn o a → SpellInTurn p b → BothEnd o p r s → o ++ r ≡ p ++ s → (a ≡ b) × (r ≡ s)
  one_list none none o p r s is other_is end e = (refl, ap (λ o. o ++ r) (sym is) ∙ e ∙ ap (λ o. o ++ s) other_is)
  one_list none (more part parts) o p r s is (first, rest, spelled, others, other_is) end e =
      absurd (not_more first rest s r part spelled
      (elim end [ inl n ↦ inl (sym (ap length other_is) ∙ sym n ∙ ap length is) | inr z ↦ inr z.0 ])
      (ap (λ o. o ++ s) (sym other_is) ∙ sym e ∙ ap (λ o. o ++ r) is))
  one_list (more part parts) none o p r s (first, rest, spelled, others, is) other_is end e =
      absurd (not_more first rest r s part spelled
      (elim end [ inl n ↦ inl (sym (ap length is) ∙ n ∙ ap length other_is) | inr z ↦ inr z.1 ])
      (ap (λ o. o ++ r) (sym is) ∙ e ∙ ap (λ o. o ++ s) other_is))
  one_list (more part parts) (more other others) o p r s (first, rest, spelled, inside, is) (second, after, other_spelled, other_inside, other_is) end e =
      let apart : first ++ (rest ++ r) ≡ second ++ (after ++ s) =
      sym (append_assoc first rest r) ∙ ap (λ o. o ++ r) (sym is) ∙ e ∙ ap (λ o. o ++ s) other_is ∙ append_assoc second after s in
      let head = one_tree part other first second (rest ++ r) (after ++ s) spelled other_spelled apart in
      let prefixes : first ≡ second = append_cancel_right first second (after ++ s) (ap (λ o. first ++ o) (sym head.1) ∙ apart) in
      let ends : BothEnd rest after r s =
      elim end [
        | inl n ↦ inl (let a : length first ≡ length second = ap length prefixes in omega (arith, length-append first rest, length-append second after, ap length is, ap length other_is, n, a))
        | inr z ↦ inr z
      ] in
      let tail = one_list parts others rest after r s inside other_inside ends head.1 in
      (ap (λ x. more x parts) head.0 ∙ ap (more other) tail.0, tail.1)

pub one_spelling : (a b : Tree) (o p r s : List ℕ) → Spells o a → Spells p b → o ++ r ≡ p ++ s → (o ≡ p) × (a ≡ b)
one_spelling a b o p r s at_o at_p e =
    let same = one_tree a b o p r s at_o at_p e in
    (append_cancel_right o p s (ap (λ x. o ++ x) (sym same.1) ∙ e), same.0)

-- a spelling has two octets at least, and so no list of them has one
pub spelling_long : (octets : List ℕ) (tree : Tree) → Spells octets tree → 2 ≤ length octets
spelling_long octets (plain tag contents) (fits, (len, at_len, is)) =
    omega (arith, ap length is, length-append (identifier false tag) (len ++ contents), length-append len contents, identifier_some false tag, size_some len (Some (length contents)) at_len)
spelling_long octets (built tag parts) (fits, (contents, inside, inl (len, at_len, is))) =
    omega (arith, ap length is, length-append (identifier true tag) (len ++ contents), length-append len contents, identifier_some true tag, size_some len (Some (length contents)) at_len)
spelling_long octets (built tag parts) (fits, (contents, inside, inr is)) =
    omega (arith, ap length is, length-append (identifier true tag) (128 ∷ (contents ++ (0 ∷ 0 ∷ []))), length-append contents (0 ∷ 0 ∷ []), identifier_some true tag)

pub list_long : (octets : List ℕ) (parts : Trees) → SpellInTurn octets parts → length octets ≢ 1
list_long octets none is e = absurd (omega (arith, ap length is, e))
list_long octets (more part parts) (first, rest, spelled, others, is) e =
    absurd (omega (arith, ap length is, length-append first rest, spelling_long first part spelled, e))
