-- Changes that are made one after another: what they name stands, and what they lead to.
use Rattle.std.proofs.Common.{◌≡◌, Bool, true, ◌&&◌, List, [], ◌∷◌, ◌++◌, refl, ap, sym, subst, ◌∙◌}
use Rattle.std.specs.Prelude.{fold}
use Rattle.std.specs.List.{list_all}
use Rattle.std.proofs.lemmas.Bool.{and_parts}
use Rattle.std.proofs.lemmas.List.Sums.{fold-append}
use Rattle.vf_tables.specs.Changes.{after, after_all}
use Rattle.vf_tables.specs.Fitting.{stands_in}
use Rattle.vf_tables.specs.declared.change.Change.{Change}
use Rattle.vf_tables.specs.declared.tables.Tables.{Tables}
use Rattle.vf_filestore.specs.Changes.{all_stand}
use Rattle.vf_filestore.specs.Laws.{Lead}

pub both : (a b : Bool) → a ≡ true → b ≡ true → (a && b) ≡ true
both a b first second = λ i. first i && second i

-- a test of all of two lists
pub all_joined : {A : Type 0} (p : A → Bool) (xs ys : List A) → list_all p xs ≡ true → list_all p ys ≡ true → list_all p (xs ++ ys) ≡ true
all_joined p [] ys first second = second
all_joined p (x ∷ xs) ys first second = let parts = and_parts (p x) (list_all p xs) first in both (p x) (list_all p (xs ++ ys)) parts.0 (all_joined p xs ys parts.1 second)

stand_joined : (xs ys : List Change) (from : Tables) → all_stand from xs ≡ true → all_stand (after_all from xs) ys ≡ true → all_stand from (xs ++ ys) ≡ true
stand_joined [] ys from first second = second
stand_joined (x ∷ xs) ys from first second =
    let parts = and_parts (stands_in from x) (all_stand (after from x) xs) first in
    both (stands_in from x) (all_stand (after from x) (xs ++ ys)) parts.0 (stand_joined xs ys (after from x) parts.1 second)

pub leads_on : (from mid to : Tables) (xs ys : List Change) → Lead from xs mid → Lead mid ys to → Lead from (xs ++ ys) to
leads_on from mid to xs ys first second = record {
  lead = fold-append after from xs ys ∙ ap (λ (t : Tables). fold after t ys) first.lead ∙ second.lead;
  stand = stand_joined xs ys from first.stand (subst (λ (t : Tables). all_stand t ys ≡ true) (sym first.lead) second.stand);
}

pub leads_nowhere : (tables : Tables) → Lead tables [] tables
leads_nowhere tables = record { lead = refl; stand = refl }

pub leads_once : (from to : Tables) (change : Change) → stands_in from change ≡ true → after from change ≡ to → Lead from (change ∷ []) to
leads_once from to change stands is = record { lead = is; stand = both (stands_in from change) true stands refl }
