-- What the tests of the code say of the actions that are missing.
use Rattle.std.proofs.Common.{◌≡◌, ◌↔◌, ℕ, IsTrue, Bool, true, false, List, [], ◌∷◌, length, nat_eq, Option, Result, Ok, Err, refl, sym, ◌∙◌, subst}
use Rattle.vf_base.specs.declared.action.Action.{Action}
use Rattle.vf_base.specs.declared.action.Actions.{Actions}
use Rattle.vf_base.specs.declared.term.Term.{Term}
use Rattle.vf_attr.specs.Access.{granted, missing, open_terms, sets_of, terms_of, unless_missing}
use Rattle.vf_attr.specs.declared.errors.AccessError.{AccessError}
use Rattle.vf_attr.specs.declared.errors.AccessError.TheVariants.{Denied, BadPassword}

-- the test of the code says whether none of these actions is missing
abbrev pub Tells : Bool → List Action → Type 0
Tells test actions = IsTrue test ↔ (actions ≡ [])

pub refused : (actions : List Action) (error : AccessError) (later : Result (Unit {0}) AccessError) (test : Bool) → Tells test actions → test ≡ false → Err error ≡ unless_missing actions error later
refused [] error later test says failed = let held : test ≡ true = says.1 refl in absurd (cc)
refused (action ∷ actions) error later test says failed = refl

passed : (actions : List Action) (error : AccessError) (later : Result (Unit {0}) AccessError) (test : Bool) → Tells test actions → test ≡ true → later ≡ unless_missing actions error later
passed [] error later test says held = refl
passed (action ∷ actions) error later test says held = let none : action ∷ actions ≡ [] = says.0 held in absurd (cc)

-- the same of an equal list of actions
told : (test : Bool) (actions others : List Action) → actions ≡ others → Tells test actions → Tells test others
told test actions others same says = subst (Tells test) same says

granted_some : (terms : List Term) (who : List ℕ) (given : Option (List ℕ)) (wanted : Actions) → nat_eq (length terms) 0 ≡ false
    → granted terms who given wanted ≡ unless_missing (missing (sets_of (terms_of who terms)) wanted) Denied (unless_missing (missing (sets_of (open_terms who given terms)) wanted) BadPassword (Ok tt))
granted_some [] who given wanted some = absurd (cc)
granted_some (term ∷ terms) who given wanted some = refl

module _ (terms : List Term) (who : List ℕ) (given : Option (List ℕ)) (wanted : Actions) (some : nat_eq (length terms) 0 ≡ false) where
  abbrev denied : List Action
  denied = missing (sets_of (terms_of who terms)) wanted

  abbrev locked : List Action
  locked = missing (sets_of (open_terms who given terms)) wanted

  pub is_denied : (test : Bool) (actions : List Action) → actions ≡ denied → Tells test actions → test ≡ false → Err Denied ≡ granted terms who given wanted
  is_denied test actions same says failed =
      refused denied Denied (unless_missing locked BadPassword (Ok tt)) test (told test actions denied same says) failed
      ∙ sym (granted_some terms who given wanted some)

  pub is_locked : (test later : Bool) (actions others : List Action) → actions ≡ denied → Tells test actions → test ≡ true → others ≡ locked → Tells later others → later ≡ false → Err BadPassword ≡ granted terms who given wanted
  is_locked test later actions others same says held alike tells failed =
      refused locked BadPassword (Ok tt) later (told later others locked alike tells) failed
      ∙ passed denied Denied (unless_missing locked BadPassword (Ok tt)) test (told test actions denied same says) held
      ∙ sym (granted_some terms who given wanted some)
