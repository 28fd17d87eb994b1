-- An answer that is said a block at a time.
use Rattle.std.proofs.Common.{◌≡◌, ℕ, Bool, true, false, List, [], ◌++◌, Option, refl, sym, ap, subst, ◌∙◌, append_assoc}
use Rattle.std.proofs.lemmas.List.{append-nil}
use Rattle.vf_base.specs.Dial.{Call, Connections}
use Rattle.vf_initiator.specs.Represents.{IsSaid, Owes, Represents as IsInitiatorOf}
use Rattle.vf_initiator.specs.Talking.{Talk}
use Rattle.vf_initiator.specs.declared.initiator.Initiator.{Initiator}
use Rattle.vf_transact.specs.Connecting.{IsOn, OwesAfter, SaysOn}

-- so much of the answer was said, and the rest is pending
pub record IsPending (before : List Call) (said heard answer pending : List ℕ) (told : Option Connections) : Type 0 where
  pub spoken : List ℕ
  pub on : IsOn before (said ++ spoken) heard told
  pub together : spoken ++ pending ≡ answer

-- the initiator, as it spells them
pub record Spells (i : Initiator) (talk : Talk) (i' : Initiator) (later : List ℕ) (more : Bool) : Type 0 where
  pub owes : Owes i' talk later
  pub given_is : i'.given ≡ i.given
  pub all : more ≡ false → (later ≡ []) × IsInitiatorOf i' talk

-- nothing of it was said yet
pub begins_answer : (before : List Call) (said heard answer : List ℕ) (told : Option Connections) → IsOn before said heard told → IsPending before said heard answer answer told
begins_answer before said heard answer told on = record { spoken = []; on = subst (λ (l : List ℕ). IsOn before l heard told) (sym (append-nil said)) on; together = refl }

-- a block of what is pending is spelled
pub block_spelled : (before : List Call) (said heard answer pending out later : List ℕ) (told : Option Connections) → out ++ later ≡ pending → IsPending before said heard answer pending told → IsPending before said heard answer (out ++ later) told
block_spelled before said heard answer pending out later told is p = subst (λ (l : List ℕ). IsPending before said heard answer l told) (sym is) p

-- it is said
pub block_said : (before : List Call) (said heard answer out later : List ℕ) (told told' : Option Connections) (stands : Bool) → stands ≡ true → (p : IsPending before said heard answer (out ++ later) told)
    → SaysOn before (said ++ p.spoken) heard out told' stands → IsPending before said heard answer later told'
block_said before said heard answer out later told told' stands is p says = record {
  spoken = p.spoken ++ out;
  on = subst (λ (l : List ℕ). IsOn before l heard told') (append_assoc said p.spoken out) (subst (λ (b : Bool). SaysOn before (said ++ p.spoken) heard out told' b) is says);
  together = append_assoc p.spoken out later ∙ p.together;
}

front_of : (spoken front rest out later answer : List ℕ) → out ≡ front ++ rest → spoken ++ (out ++ later) ≡ answer → answer ≡ (spoken ++ front) ++ (rest ++ later)
front_of spoken front rest out later answer is together =
    sym together ∙ ap (λ (l : List ℕ). spoken ++ (l ++ later)) is ∙ ap (λ (l : List ℕ). spoken ++ l) (append_assoc front rest later) ∙ sym (append_assoc spoken front (rest ++ later))

-- a front of it is said, and the connection is lost
pub block_lost : (before : List Call) (said heard answer out later : List ℕ) (told told' : Option Connections) (stands : Bool) → stands ≡ false → (p : IsPending before said heard answer (out ++ later) told)
    → SaysOn before (said ++ p.spoken) heard out told' stands → SaysOn before said heard answer told' false
block_lost before said heard answer out later told told' stands is p says =
    let front = subst (λ (b : Bool). SaysOn before (said ++ p.spoken) heard out told' b) is says in (
      p.spoken ++ front.0,
      ((front.1.0.0 ++ later, front_of p.spoken front.0 front.1.0.0 out later answer front.1.0.1 p.together), subst (λ (l : List ℕ). IsOn before l heard told') (append_assoc said p.spoken front.0) front.1.1),
    )

-- memory is wanting
pub breaks_off : (before : List Call) (said heard answer pending : List ℕ) (told : Option Connections) → IsPending before said heard answer pending told → SaysOn before said heard answer told false
breaks_off before said heard answer pending told p = (p.spoken, ((pending, sym p.together), p.on))

-- all of it is said
pub answer_said : (i : Initiator) (talk : Talk) (i' : Initiator) (before : List Call) (said heard answer later : List ℕ) (told : Option Connections) (more : Bool) → more ≡ false
    → Spells i talk i' later more → IsPending before said heard answer later told → SaysOn before said heard answer told true
answer_said i talk i' before said heard answer later told more done spells p =
    let whole : p.spoken ≡ answer = sym (append-nil p.spoken) ∙ ap (λ (l : List ℕ). p.spoken ++ l) (sym (spells.all done).0) ∙ p.together in
    subst (λ (l : List ℕ). IsOn before (said ++ l) heard told) whole p.on

pub owes_nothing : (i : Initiator) (talk : Talk) (i' : Initiator) (later : List ℕ) (more : Bool) → more ≡ false → Spells i talk i' later more → OwesAfter i talk i' true
owes_nothing i talk i' later more done spells = record { later = later; owes = spells.owes; given_is = spells.given_is; all = λ is. (spells.all done).1 }

pub owes_rest : (i : Initiator) (talk : Talk) (i' : Initiator) (later : List ℕ) (more : Bool) → Spells i talk i' later more → OwesAfter i talk i' false
owes_rest i talk i' later more spells = record { later = later; owes = spells.owes; given_is = spells.given_is; all = λ is. absurd (let e : false ≡ true = is in cc) }

-- a block more is spelled
pub spelled_on : (i : Initiator) (talk : Talk) (now then : Initiator) (later out out' : List ℕ) (more : Bool) → Owes now talk later → now.given ≡ i.given → (s : IsSaid now talk later out then out' more) → Spells i talk then s.later more
spelled_on i talk now then later out out' more owes given s = record { owes = s.owes; given_is = s.given_is ∙ given; all = s.all }
