-- The canonical spelling is a spelling.
use Rattle.std.proofs.Common.{ℕ, ◌/◌, ◌%◌, ◌≤◌, true, false, [], ◌∷◌, length, refl, ◌∙◌, arith, nat_lt, append_assoc, length-append, inl, inr}
use Rattle.std.proofs.lemmas.Bool.{cases_lt, cond-true, cond-false, lt-ltb, le-ltb}
use Rattle.vf_ber.specs.Tree.{Tree, plain, built, Trees, none, more}
use Rattle.vf_ber.specs.Tags.{IsTree, AreTrees}
use Rattle.vf_ber.specs.Spelling.{identifier, length_octets, header, spell, spells}
use Rattle.vf_ber.specs.Spellings.{IsLength, Spells, SpellInTurn}

pub length_is : (n : ℕ) → n ≤ 1048576 → IsLength (length_octets n) n
length_is n small =
    elim (cases_lt n 128) [
      | inl lt ↦ inl (cond-true (nat_lt n 128) _ _ (lt-ltb n 128 lt), lt)
      | inr le ↦ elim (cases_lt n 256) [
        | inl lt ↦ inr (record {
          digits = n ∷ [];
          some = omega arith;
          few = omega arith;
          each = (lt, tt);
          number = omega arith;
          spelled = cond-false (nat_lt n 128) _ _ (le-ltb n 128 le) ∙ cond-true (nat_lt n 256) _ _ (lt-ltb n 256 lt);
        })
        | inr far ↦ elim (cases_lt n 65536) [
          | inl lt ↦ inr (record {
            digits = n / 256 ∷ n % 256 ∷ [];
            some = omega arith;
            few = omega arith;
            each = (omega arith, (omega arith, tt));
            number = omega arith;
            spelled = cond-false (nat_lt n 128) _ _ (le-ltb n 128 le) ∙ cond-false (nat_lt n 256) _ _ (le-ltb n 256 far) ∙ cond-true (nat_lt n 65536) _ _ (lt-ltb n 65536 lt);
          })
          | inr large ↦ inr (record {
            digits = n / 65536 ∷ n / 256 % 256 ∷ n % 256 ∷ [];
            some = omega arith;
            few = omega arith;
            each = (omega arith, (omega arith, (omega arith, tt)));
            number = omega arith;
            spelled = cond-false (nat_lt n 128) _ _ (le-ltb n 128 le) ∙ cond-false (nat_lt n 256) _ _ (le-ltb n 256 far) ∙ cond-false (nat_lt n 65536) _ _ (le-ltb n 65536 large);
          })
        ]
      ]
    ]

mutual
  pub canonical : (tree : Tree) → IsTree tree → length (spell tree) ≤ 1048576 → Spells (spell tree) tree
  canonical (plain tag contents) fits small =
      let n : length contents ≤ 1048576 = omega (arith, length-append (header false tag (length contents)) contents) in
      (fits, (length_octets (length contents), length_is (length contents) n, append_assoc (identifier false tag) (length_octets (length contents)) contents))
  canonical (built tag parts) fits small =
      let contents = spells parts in
      let n : length contents ≤ 1048576 = omega (arith, length-append (header true tag (length contents)) contents) in (
        fits.0,
        (
          contents,
          canonical_list parts fits.1 n,
          inl (length_octets (length contents), length_is (length contents) n, append_assoc (identifier true tag) (length_octets (length contents)) contents),
        ),
      )

  canonical_list : (parts : Trees) → AreTrees parts → length (spells parts) ≤ 1048576 → SpellInTurn (spells parts) parts
  canonical_list none fits small = refl
  canonical_list (more part parts) fits small =
      let n = length-append (spell part) (spells parts) in
      (spell part, spells parts, canonical part fits.0 (omega (arith, n)), canonical_list parts fits.1 (omega (arith, n)), refl)
