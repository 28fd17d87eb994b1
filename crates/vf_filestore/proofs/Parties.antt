-- Where the party of a link stands among all parties.
use Rattle.std.proofs.Common.{◌≡◌, ℕ, Bool, true, false, cond, not, List, [], ◌∷◌, ◌++◌, map, nat_eq, Some, refl, ap, sym, ◌∙◌}
use Rattle.std.specs.List.{AllByRecursion, IsDistinct}
use Rattle.std.proofs.lemmas.Bool.{eq-eqb, eqb-true}
use Rattle.std.proofs.lemmas.Bool.Decides.{Decides-eqb, same_from_decides}
use Rattle.std.proofs.lemmas.Map.Keys.{IsDistinct-head, IsDistinct-tail}
use Rattle.vf_pdu_fields.proofs.Plain.{some_is}
use Rattle.vf_filestore.proofs.Lists.{all_unmap, all_weaker}
use Rattle.vf_filestore.specs.Sound.{link_of}
use Rattle.vf_filestore.specs.State.{StandingParty, party_of, with_party, without_party}

pub nat_eq_flips : (a b : ℕ) → nat_eq a b ≡ nat_eq b a
nat_eq_flips a b = same_from_decides (nat_eq a b) (nat_eq b a) (Decides-eqb a b) (λ e. sym (eqb-true b a e), λ e. eq-eqb b a (sym e))

-- a party's link isn't this one
abbrev pub IsOff : ℕ → StandingParty → Type 0
IsOff link party = nat_eq party.link link ≡ false

-- the party of a link stands between those before it and those after it
pub record Located (link : ℕ) (parties : List StandingParty) (party : StandingParty) : Type 0 where
  pub before : List StandingParty
  pub after : List StandingParty
  pub is : parties ≡ before ++ party ∷ after
  pub same : party.link ≡ link
  pub absent : AllByRecursion (IsOff link) before

pub located : (link : ℕ) (parties : List StandingParty) (party : StandingParty) → party_of link parties ≡ Some party → Located link parties party
located link [] party found = absurd cc
located link (first ∷ parties) party found = by (nat_eq first.link link) refl found (located link parties party)
  where
    by : (b : Bool) → nat_eq first.link link ≡ b → cond b (Some first) (party_of link parties) ≡ Some party
        → (party_of link parties ≡ Some party → Located link parties party) → Located link (first ∷ parties) party
    by true is found later =
        let same : first ≡ party = some_is first party found in
        record {
          before = [];
          after = parties;
          is = ap (λ (p : StandingParty). p ∷ parties) same;
          same = sym (ap link_of same) ∙ eqb-true first.link link is;
          absent = tt;
        }
    by false is found later =
        let rest = later found in
        record {
          before = first ∷ rest.before;
          after = rest.after;
          is = ap (λ (ps : List StandingParty). first ∷ ps) rest.is;
          same = rest.same;
          absent = (is, rest.absent);
        }

pub with_at : (link : ℕ) (before after : List StandingParty) (party next : StandingParty) → AllByRecursion (IsOff link) before
    → party.link ≡ link → next.link ≡ link → with_party next (before ++ party ∷ after) ≡ before ++ next ∷ after
with_at link [] after party next absent same is =
    let e : nat_eq party.link next.link ≡ true = eq-eqb party.link next.link (same ∙ sym is) in
    λ i. cond (e i) (next ∷ after) (party ∷ with_party next after)
with_at link (first ∷ before) after party next absent same is =
    let e : nat_eq first.link next.link ≡ false = ap (nat_eq first.link) is ∙ absent.0 in
    (λ i. cond (e i) (next ∷ (before ++ party ∷ after)) (first ∷ with_party next (before ++ party ∷ after)))
    ∙ ap (λ (ps : List StandingParty). first ∷ ps) (with_at link before after party next absent.1 same is)

pub found_at : (link : ℕ) (before after : List StandingParty) (party : StandingParty) → AllByRecursion (IsOff link) before
    → party.link ≡ link → party_of link (before ++ party ∷ after) ≡ Some party
found_at link [] after party absent same =
    let e : nat_eq party.link link ≡ true = eq-eqb party.link link same in
    λ i. cond (e i) (Some party) (party_of link after)
found_at link (first ∷ before) after party absent same =
    (λ i. cond (absent.0 i) (Some first) (party_of link (before ++ party ∷ after))) ∙ found_at link before after party absent.1 same

all_kept : (link : ℕ) (parties : List StandingParty) → AllByRecursion (IsOff link) parties → without_party link parties ≡ parties
all_kept link [] off = refl
all_kept link (first ∷ parties) off =
    (λ i. cond (not (off.0 i)) (first ∷ without_party link parties) (without_party link parties))
    ∙ ap (λ (ps : List StandingParty). first ∷ ps) (all_kept link parties off.1)

pub without_at : (link : ℕ) (before after : List StandingParty) (party : StandingParty) → AllByRecursion (IsOff link) before
    → AllByRecursion (IsOff link) after → party.link ≡ link → without_party link (before ++ party ∷ after) ≡ before ++ after
without_at link [] after party absent off same =
    let e : nat_eq party.link link ≡ true = eq-eqb party.link link same in
    (λ i. cond (not (e i)) (party ∷ without_party link after) (without_party link after)) ∙ all_kept link after off
without_at link (first ∷ before) after party absent off same =
    (λ i. cond (not (absent.0 i)) (first ∷ without_party link (before ++ party ∷ after)) (without_party link (before ++ party ∷ after)))
    ∙ ap (λ (ps : List StandingParty). first ∷ ps) (without_at link before after party absent.1 off same)

-- where links differ, those after a party have others
pub off_after : (link : ℕ) (before after : List StandingParty) (party : StandingParty) → party.link ≡ link
    → IsDistinct nat_eq (map link_of (before ++ party ∷ after)) → AllByRecursion (IsOff link) after
off_after link [] after party same distinct =
    all_weaker (λ (q : StandingParty). nat_eq party.link q.link ≡ false) (IsOff link) after
    (λ q off. nat_eq_flips q.link link ∙ ap (λ n. nat_eq n q.link) (sym same) ∙ off)
    (all_unmap link_of (λ n. nat_eq party.link n ≡ false) after (IsDistinct-head nat_eq party.link (map link_of after) distinct))
off_after link (first ∷ before) after party same distinct =
    off_after link before after party same (IsDistinct-tail nat_eq first.link (map link_of (before ++ party ∷ after)) distinct)

-- links stay as they are where a party is put in the place of its link's
pub same_links : (before after : List StandingParty) (party next : StandingParty) → next.link ≡ party.link
    → map link_of (before ++ next ∷ after) ≡ map link_of (before ++ party ∷ after)
same_links [] after party next same = ap (λ n. n ∷ map link_of after) same
same_links (first ∷ before) after party next same = ap (λ ns. first.link ∷ ns) (same_links before after party next same)

pub links_less : (before after : List StandingParty) (party : StandingParty) → IsDistinct nat_eq (map link_of (before ++ party ∷ after))
    → IsDistinct nat_eq (map link_of (before ++ after))
unfolding IsDistinct
links_less [] after party distinct = distinct.1
links_less (first ∷ before) after party distinct = (all_off before after party distinct.0, links_less before after party distinct.1)
  where
    all_off : (before after : List StandingParty) (party : StandingParty) → AllByRecursion (λ n. nat_eq first.link n ≡ false) (map link_of (before ++ party ∷ after))
        → AllByRecursion (λ n. nat_eq first.link n ≡ false) (map link_of (before ++ after))
    all_off [] after party off = off.1
    all_off (other ∷ before) after party off = (off.0, all_off before after party off.1)
