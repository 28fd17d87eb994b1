-- The calling ends by their links: one is taken out, and put there again.
use Rattle.std.proofs.Common.{◌≡◌, ℕ, Bool, true, false, cond, nat_eq, List, [], ◌++◌, Option, None, Some, Result, Ok, Err, OnOk, refl, sym, subst}
use Rattle.std.specs.Cmp.{nat_eq_equiv}
use Rattle.vf_cli_calling.specs.Calling.{Calling, hearing}
use Rattle.vf_cli_calling.specs.Lines.{octets_line}
use Rattle.vf_cli_calling.specs.Represents.{Hears, Represents}
use Rattle.vf_cli_calling.specs.declared.caller.Caller.{Caller}
use Rattle.vf_cli_replay.specs.Hearing.{AreEnds, AreOthers, HasHeard, IsEnd, caller_on}
use Rattle.vf_cli_replay.specs.Running.{Ends, end_on, heard_by, with_end}

-- ---- what one is, by the other
none_end : (calling : Option Calling) → IsEnd None calling → calling ≡ None
none_end None is = refl
none_end (Some calling) is = absurd is

pub record IsOne (caller : Caller) (calling : Option Calling) : Type 0 where
  pub one : Calling
  pub is : calling ≡ Some one
  pub represents : Represents caller one

some_end : (caller : Caller) (calling : Option Calling) → IsEnd (Some caller) calling → IsOne caller calling
some_end caller None is = absurd is
some_end caller (Some calling) is = record { one = calling; is = refl; represents = is }

-- ---- where there is none,
pub no_end : (link : ℕ) (callers : List (ℕ × Caller)) (ends : Ends) → AreEnds callers ends → caller_on link callers ≡ None → end_on link ends ≡ None
no_end link callers ends are none = none_end (end_on link ends) (subst (λ (caller : Option Caller). IsEnd caller (end_on link ends)) none (are.each link))

-- and where there is one, which is taken out
pub one_end : (link : ℕ) (caller : Caller) (callers : List (ℕ × Caller)) (ends : Ends) → AreEnds callers ends → caller_on link callers ≡ Some caller → IsOne caller (end_on link ends)
one_end link caller callers ends are is = some_end caller (end_on link ends) (subst (λ (one : Option Caller). IsEnd one (end_on link ends)) is (are.each link))

pub others_stay : (link : ℕ) (old new : List (ℕ × Caller)) (ends : Ends) → AreEnds old ends → ((other : ℕ) → nat_eq link other ≡ false → caller_on other new ≡ caller_on other old)
    → AreOthers link new ends
others_stay link old new ends are same = record {
  each = λ other apart. subst (λ (caller : Option Caller). IsEnd caller (end_on other ends)) (sym (same other apart)) (are.each other);
}

-- ---- one is put there
pub puts_end : (link : ℕ) (caller : Caller) (calling : Calling) (old new : List (ℕ × Caller)) (ends : Ends)
    → ((other : ℕ) → caller_on other new ≡ cond (nat_eq link other) (Some caller) (caller_on other old)) → AreOthers link old ends → Represents caller calling
    → AreEnds new (with_end link calling ends)
puts_end link caller calling old new ends puts others represents = record {
  each = λ other.
      subst (λ (one : Option Caller). IsEnd one (end_on other (with_end link calling ends))) (sym (puts other))
      (subst (λ (b : Bool). IsEnd (cond (nat_eq link other) (Some caller) (caller_on other old)) (cond b (Some calling) (end_on other ends))) (nat_eq_equiv.symm link other)
      (by other (nat_eq link other) refl));
}
  where
    by : (other : ℕ) (b : Bool) → nat_eq link other ≡ b → IsEnd (cond b (Some caller) (caller_on other old)) (cond b (Some calling) (end_on other ends))
    by other true is = represents
    by other false is = others.each other is

-- ---- hearing
pub heard_some : (link : ℕ) (octets : List ℕ) (calling : Calling) (ends : Ends) (text text' : List ℕ) (caller : Caller) (new : List (ℕ × Caller))
    → end_on link ends ≡ Some calling → Hears (hearing link calling octets) text caller text' → AreEnds new (with_end link (hearing link calling octets).caller ends)
    → HasHeard (heard_by (end_on link ends) link octets ends) text new text'
heard_some link octets calling ends text text' caller new is hears are =
    subst (λ (one : Option Calling). HasHeard (heard_by one link octets ends) text new text') (sym is) (record { lines = hears.lines_are; ends = are })

pub heard_none : (link : ℕ) (octets : List ℕ) (ends : Ends) (text text' : List ℕ) (new : List (ℕ × Caller)) → end_on link ends ≡ None → text' ≡ text ++ octets_line link octets → AreEnds new ends
    → HasHeard (heard_by (end_on link ends) link octets ends) text new text'
heard_none link octets ends text text' new is lines are =
    subst (λ (one : Option Calling). HasHeard (heard_by one link octets ends) text new text') (sym is) (record { lines = lines; ends = are })

pub map_ok : {T E : Type 0} (answer : Result T E) (P Q : Type 0) → (P → Q) → OnOk answer P → OnOk answer Q
map_ok (Ok done) P Q by holds = by holds
map_ok (Err error) P Q by holds = tt

-- none at all
pub no_ends : (callers : List (ℕ × Caller)) → callers ≡ [] → AreEnds callers []
no_ends callers none = subst (λ (l : List (ℕ × Caller)). AreEnds l []) (sym none) (record { each = λ link. tt })
