-- What is known of a TPDU that was found without fault.
use Rattle.std.proofs.Common.{◌≡◌, ℕ, Bool, true, false, cond, List, Option, None, Some, Result, Ok, Err, slice_index, refl, subst, ap}
use Rattle.vf_tpkt.specs.declared.error.TpktError.{TpktError}
use Rattle.vf_tpkt.specs.declared.kind.Kind.{Kind}
use Rattle.vf_tpkt.specs.Receiving.{Progress, checked, checked_as, passes_longest}
use Rattle.vf_tpkt.specs.Tpdu.{kind_of, may_come, has_lengths, has_fixed}

guarded : (b : Bool) (r : Result Kind TpktError) (fault : TpktError) (kind : Kind) → cond b r (Err fault) ≡ Ok kind → (b ≡ true) × (r ≡ Ok kind)
guarded true r fault kind h = (refl, h)
guarded false r fault kind h = cc

passed : (b : Bool) (fault : TpktError) (k kind : Kind) → cond b (Err fault) (Ok k) ≡ Ok kind → (b ≡ false) × (k ≡ kind)
passed true fault k kind h = cc
passed false fault k kind h = (refl, cc)

pub record IsRight (p : Progress) (tpdu : List ℕ) (kind : Kind) : Type 0 where
  pub comes : may_come p.side p.phase kind ≡ true
  pub lengths : has_lengths kind tpdu ≡ true
  pub fixed : has_fixed kind tpdu ≡ true
  pub short : passes_longest p kind tpdu ≡ false

pub right_as : (p : Progress) (tpdu : List ℕ) (o : Option Kind) (kind : Kind) → checked_as p tpdu o ≡ Ok kind → IsRight p tpdu kind
right_as p tpdu None kind h = cc
right_as p tpdu (Some k) kind h =
    let comes = guarded (may_come p.side p.phase k) _ _ kind h in
    let counted = guarded (has_lengths k tpdu) _ _ kind comes.1 in
    let fixed = guarded (has_fixed k tpdu) _ _ kind counted.1 in
    let short = passed (passes_longest p k tpdu) _ k kind fixed.1 in
    let right : IsRight p tpdu k = record { comes = comes.0; lengths = counted.0; fixed = fixed.0; short = short.0 } in
    subst (λ (x : Kind). IsRight p tpdu x) short.1 right

pub right : (p : Progress) (tpdu : List ℕ) (kind : Kind) → checked p tpdu ≡ Ok kind → IsRight p tpdu kind
right p tpdu kind h = right_as p tpdu (kind_of (slice_index tpdu 1)) kind h

pub kind-is : (p : Progress) (tpdu : List ℕ) (o : Option Kind) (kind : Kind) → checked_as p tpdu o ≡ Ok kind → o ≡ Some kind
kind-is p tpdu None kind h = cc
kind-is p tpdu (Some k) kind h =
    let comes = guarded (may_come p.side p.phase k) _ _ kind h in
    let counted = guarded (has_lengths k tpdu) _ _ kind comes.1 in
    let fixed = guarded (has_fixed k tpdu) _ _ kind counted.1 in
    ap Some (passed (passes_longest p k tpdu) _ k kind fixed.1).1
