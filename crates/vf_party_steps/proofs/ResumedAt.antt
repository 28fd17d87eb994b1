-- What stands in the history of a party that took up a docket is what the docket retained.
use Rattle.std.proofs.Common.{◌≡◌, ℕ, ◌++◌, List, [], ◌∷◌, is_some, refl, ap, sym, ◌∙◌}
use Rattle.std.specs.Prelude.{IsSome}
use Rattle.vf_elements.specs.declared.message.Message.{Message}
use Rattle.vf_elements.specs.declared.message.Said.{Said}
use Rattle.vf_filestore.specs.History.{Given, History, concluding, counting, done, last, opening, placing, position, regime}
use Rattle.vf_filestore.proofs.Views as views
use Rattle.vf_filestore.proofs.Views.{View, view}

-- the same position, and the same transfers are concluded
pub record StandsAt (docket other : History) : Type 0 where
  pub placed : position other ≡ position docket
  pub counted : done other ≡ done docket
  pub ended : last other ≡ last docket

-- what an entry makes of both
record StandsWith (message : Message) (said : List Said) (given : Given) (docket other : History) : Type 0 where
  placed : placing message given (position other) ≡ placing message given (position docket)
  counted : counting message (done other) ≡ counting message (done docket)
  ended : concluding message said (last other) ≡ concluding message said (last docket)

module _ (ordinal : ℕ) (said : List Said) (given : Given) (docket other : History) where
  with_entry : (message : Message) → StandsAt docket other → StandsWith message said given docket other
  with_entry message rest = record { placed = ap (placing message given) rest.placed; counted = ap (counting message) rest.counted; ended = ap (concluding message said) rest.ended }

  stands_with : (message : Message) → View message → (IsSome (regime docket) → StandsAt docket other) → IsSome (opening ordinal message (regime docket))
      → StandsWith message said given docket other
  stands_with message (views.initializes units identity password window) rest some = with_entry message (rest some)
  stands_with message (views.selects name requested controls password) rest some = with_entry message (rest some)
  stands_with message (views.creates over name contents permitted terms requested controls password) rest some = with_entry message (rest some)
  stands_with message (views.changes name permitted terms number) rest some = with_entry message (rest some)
  stands_with message views.deselects rest some = with_entry message (rest some)
  stands_with message views.deletes rest some = with_entry message (rest some)
  stands_with message (views.opens mode contents controls activity) rest some = record { placed = refl; counted = refl; ended = refl }
  stands_with message views.closes rest some = absurd cc
  stands_with message (views.reads fadu context) rest some = with_entry message (rest some)
  stands_with message (views.writes operation fadu) rest some = with_entry message (rest some)
  stands_with message views.ends rest some = with_entry message (rest some)
  stands_with message (views.cancels diagnostic) rest some = with_entry message (rest some)
  stands_with message (views.others one facts) rest some = with_entry message (rest (sym (ap is_some (facts.opens ordinal (regime docket))) ∙ some))

-- since the open stands in the docket
pub stands_at : (docket party : History) → IsSome (regime docket) → StandsAt docket (docket ++ party)
stands_at [] party some = absurd cc
stands_at (entry ∷ docket) party some =
    let with = stands_with entry.ordinal entry.said entry.given docket (docket ++ party) entry.message (view entry.message) (stands_at docket party) some in
    record { placed = with.placed; counted = with.counted; ended = with.ended }
