-- Trees told apart by a code, which the model of a list of values wants.
use Rattle.std.specs.Prelude.{◌≡◌, ℕ, List, refl}
use Rattle.std.specs.Coded.{Coded, code_by, coded×, coded_ℕ, coded_list}
use base.Stored.{Gv, gnil, gcons}
use Rattle.vf_ber.specs.Tree.{Tag, Tree, plain, built, Trees, none, more}

abbrev pub tag_code : Coded Tag
tag_code = code_by (ℕ × ℕ) (coded× coded_ℕ coded_ℕ) (λ tag. (tag.class, tag.number)) (λ p. record { class = p.0; number = p.1 }) (λ _. refl)

abbrev pub octets_code : Coded (List ℕ)
octets_code = coded_list coded_ℕ

abbrev mutual
  pub tree_code : Tree → Gv
  tree_code (plain tag octets) = gcons gnil (gcons (tag_code.code tag) (octets_code.code octets))
  tree_code (built tag parts) = gcons (gcons gnil gnil) (gcons (tag_code.code tag) (list_code parts))

  pub list_code : Trees → Gv
  list_code none = gnil
  list_code (more part parts) = gcons (tree_code part) (list_code parts)

first_is : (a b c d : Gv) → gcons a b ≡ gcons c d → a ≡ c
first_is a b c d e = cc

second_is : (a b c d : Gv) → gcons a b ≡ gcons c d → b ≡ d
second_is a b c d e = cc

mutual
  tree_inj : (x y : Tree) → tree_code x ≡ tree_code y → x ≡ y
  tree_inj (plain tag octets) (plain other others) e =
      let tail = second_is _ _ _ _ e in
      let tags = tag_code.inj tag other (first_is _ _ _ _ tail) in
      let same = octets_code.inj octets others (second_is _ _ _ _ tail) in
      cc
  tree_inj (plain tag octets) (built other parts) e = absurd cc
  tree_inj (built tag parts) (plain other octets) e = absurd cc
  tree_inj (built tag parts) (built other others) e =
      let tail = second_is _ _ _ _ e in
      let tags = tag_code.inj tag other (first_is _ _ _ _ tail) in
      let same = list_inj parts others (second_is _ _ _ _ tail) in
      cc

  pub list_inj : (x y : Trees) → list_code x ≡ list_code y → x ≡ y
  list_inj none none e = refl
  list_inj none (more part parts) e = absurd cc
  list_inj (more part parts) none e = absurd cc
  list_inj (more part parts) (more other others) e =
      let first = tree_inj part other (first_is _ _ _ _ e) in
      let rest = list_inj parts others (second_is _ _ _ _ e) in
      cc

abbrev pub trees_code : Coded Trees
trees_code = record { code = list_code; inj = list_inj }
