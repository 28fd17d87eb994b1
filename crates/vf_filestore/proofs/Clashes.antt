-- When controls clash: either way round, as a conflict tells it, and not where an open is closed.
use Rattle.std.proofs.Common.{◌≡◌, ℕ, zero, suc, ◌+◌, ◌<◌, ◌≤◌, Bool, true, false, cond, ◌&&◌, ◌||◌, List, [], ◌∷◌, length, slice_get, is_some, Option, None, Some, refl, ap, arith}
use Rattle.std.specs.Prelude.{IsSome, option_and_then}
use Rattle.std.specs.List.{IsDistinct, list_any, position_from, zip}
use Rattle.std.proofs.lemmas.Bool.{or_from, or_parts}
use Rattle.std.proofs.lemmas.Map.Keys.{IsDistinct-IsPermutation}
use Rattle.vf_base.specs.declared.action.Control.{Control}
use Rattle.vf_base.specs.declared.action.Control.TheVariants.{NotRequired, Shared, Exclusive, NoAccess}
use Rattle.vf_base.specs.declared.action.Controls.{Controls}
use Rattle.vf_locks.specs.Clash.{actions, clash, lowest_clash}
use Rattle.vf_pdu_fields.specs.declared.controls.AttributeControls.{AttributeControls}
use Rattle.vf_pdu_fields.specs.declared.controls.ContentControls.{ContentControls}
use Rattle.vf_filestore.specs.Controls.{joined, not_opened}
use Rattle.vf_filestore.specs.Sound.{Use, are_clashing, do_clash, use_by, use_of_docket, use_of_party}
use Rattle.vf_filestore.proofs.Filed.{names_flip}
use Rattle.vf_filestore.proofs.Lists.{distinct_less}
use Rattle.vf_filestore.proofs.Moving.{Has, Leaves, Stays}
use Rattle.vf_filestore.proofs.Soundness.{retains}

-- ---- either way round

abbrev pub clashes : Control × Control → Bool
clashes pair = clash pair.0 pair.1

clash_flips : (one other : Control) → clash one other ≡ clash other one
clash_flips NotRequired NotRequired = refl
clash_flips NotRequired Shared = refl
clash_flips NotRequired Exclusive = refl
clash_flips NotRequired NoAccess = refl
clash_flips Shared NotRequired = refl
clash_flips Shared Shared = refl
clash_flips Shared Exclusive = refl
clash_flips Shared NoAccess = refl
clash_flips Exclusive NotRequired = refl
clash_flips Exclusive Shared = refl
clash_flips Exclusive Exclusive = refl
clash_flips Exclusive NoAccess = refl
clash_flips NoAccess NotRequired = refl
clash_flips NoAccess Shared = refl
clash_flips NoAccess Exclusive = refl
clash_flips NoAccess NoAccess = refl

pub any_flips : (one other : List Control) → list_any clashes (zip one other) ≡ list_any clashes (zip other one)
any_flips [] [] = refl
any_flips [] (other ∷ others) = refl
any_flips (one ∷ ones) [] = refl
any_flips (one ∷ ones) (other ∷ others) = λ i. clash_flips one other i || any_flips ones others i

pub uses_flip : (one other : Use) → do_clash one other ≡ do_clash other one
uses_flip one other = λ i. names_flip one.file other.file i && any_flips one.controls.each other.controls.each i

-- ---- as a conflict tells it

found_within : (pairs : List (Control × Control)) (from at : ℕ) → position_from clashes from pairs ≡ Some at → (from ≤ at) × (at < from + length pairs)
found_within [] from at is = absurd cc
found_within (pair ∷ pairs) from at is = by (clashes pair) is (found_within pairs (from + 1) at)
  where
    by : (b : Bool) → cond b (Some from) (position_from clashes (from + 1) pairs) ≡ Some at
        → (position_from clashes (from + 1) pairs ≡ Some at → (from + 1 ≤ at) × (at < (from + 1) + length pairs)) → (from ≤ at) × (at < from + length (pair ∷ pairs))
    by true is rest = let same : from ≡ at = cc in (omega arith, omega arith)
    by false is rest = let later = rest is in (omega (arith, later.0), omega (arith, later.1))

none_any : (pairs : List (Control × Control)) (from : ℕ) → position_from clashes from pairs ≡ None → list_any clashes pairs ≡ false
none_any [] from is = refl
none_any (pair ∷ pairs) from is = by (clashes pair) is (none_any pairs (from + 1))
  where
    by : (b : Bool) → cond b (Some from) (position_from clashes (from + 1) pairs) ≡ None → (position_from clashes (from + 1) pairs ≡ None → list_any clashes pairs ≡ false) → (b || list_any clashes pairs) ≡ false
    by true is rest = absurd cc
    by false is rest = rest is

get_within : {A : Type 0} (xs : List A) (at : ℕ) → at < length xs → IsSome (slice_get xs at)
get_within [] at less = absurd (omega arith)
get_within (x ∷ xs) zero less = refl
get_within (x ∷ xs) (suc at) less = get_within xs at (omega arith)

zip_short : (ones others : List Control) → length (zip ones others) ≤ length ones
zip_short [] others = omega arith
zip_short (one ∷ ones) [] = omega arith
zip_short (one ∷ ones) (other ∷ others) = let rest = zip_short ones others in omega arith

-- where no action clashes, no pair of controls does
pub no_clash : (wanted held : Controls) → length wanted.each ≤ 8 → lowest_clash wanted held ≡ None → are_clashing wanted held ≡ false
no_clash wanted held short none = by (position_from clashes 0 (zip wanted.each held.each)) refl none
  where
    by : (at : Option ℕ) → position_from clashes 0 (zip wanted.each held.each) ≡ at → option_and_then (slice_get actions) at ≡ None → list_any clashes (zip wanted.each held.each) ≡ false
    by None is none = none_any (zip wanted.each held.each) 0 is
    by (Some at) is none =
        let within = found_within (zip wanted.each held.each) 0 at is in
        let shorter = zip_short wanted.each held.each in
        let eight : length actions ≡ 8 = refl in
        let some : is_some (slice_get actions at) ≡ true = get_within actions at (omega (arith, within.1, shorter, short, eight)) in
        let gone : is_some (slice_get actions at) ≡ false = ap is_some none in
        absurd cc

-- ---- controls that aren't required clash with none

free : (other : Control) → clash NotRequired other ≡ false
free NotRequired = refl
free Shared = refl
free Exclusive = refl
free NoAccess = refl

-- the first so many controls given up
freed : ℕ → List Control → List Control
freed n [] = []
freed zero (one ∷ ones) = one ∷ ones
freed (suc n) (one ∷ ones) = NotRequired ∷ freed n ones

any_freed : (n : ℕ) (ones others : List Control) → list_any clashes (zip ones others) ≡ false → list_any clashes (zip (freed n ones) others) ≡ false
unfolding freed
any_freed n [] others is = refl
any_freed zero (one ∷ ones) others is = is
any_freed (suc n) (one ∷ ones) [] is = refl
any_freed (suc n) (one ∷ ones) (other ∷ others) is =
    let both = or_parts (clash one other) (list_any clashes (zip ones others)) is in
    or_from (clash NotRequired other) (list_any clashes (zip (freed n ones) others)) (free other) (any_freed n ones others both.1)

-- what a selection holds once its open is closed
pub closed_free : (contents : ContentControls) (attributes : AttributeControls) (other : Controls) → are_clashing (joined contents attributes) other ≡ false → are_clashing (joined not_opened attributes) other ≡ false
unfolding freed
closed_free contents attributes other is = any_freed 5 (joined contents attributes).each other.each is

-- ---- what parties and dockets hold

abbrev pub held_uses : Has Use
held_uses = record { of_party = use_of_party; of_docket = use_of_docket }

pub uses_left : Leaves held_uses
uses_left files party activity sound =
    let kept = retains party.history sound.sound.nested in
    λ i. use_by (kept.opens i) (kept.selects i)

pub agreed_stays : Stays (IsDistinct do_clash)
agreed_stays = record { moves = IsDistinct-IsPermutation do_clash uses_flip; shrinks = distinct_less do_clash }
