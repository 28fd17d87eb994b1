-- Who may do what to a file (ISO 8571-2, permitted actions and access control; how terms count is profile).
use Rattle.std.specs.Prelude.{ℕ, Bool, true, false, ◌&&◌, not, nat_eq, List, [], ◌∷◌, filter, map, Option, Some, None, Result, Ok, Err}
use Rattle.std.specs.Int.{bit_at}
use Rattle.std.specs.List.{list_any}
use Rattle.std.specs.Str.{bytes_eq}
use Rattle.vf_base.specs.declared.action.Action.{Action}
use Rattle.vf_base.specs.declared.action.Action.TheVariants.{Read, Insert, Replace, Extend, Erase, ReadAttribute, ChangeAttribute, Delete}
use Rattle.vf_base.specs.declared.action.Actions.{Actions}
use Rattle.vf_base.specs.declared.term.Term.{Term}
use Rattle.vf_attr.specs.declared.errors.AccessError.{AccessError}
use Rattle.vf_attr.specs.declared.errors.AccessError.TheVariants.{NotPermitted, Denied, BadPassword}
use Rattle.vf_attr.specs.declared.file.File.{File}

abbrev pub all_actions : List Action
all_actions = Read ∷ Insert ∷ Replace ∷ Extend ∷ Erase ∷ ReadAttribute ∷ ChangeAttribute ∷ Delete ∷ []

-- the numbers of the actions
abbrev pub number_of : Action → ℕ
number_of Read = 0
number_of Insert = 1
number_of Replace = 2
number_of Extend = 3
number_of Erase = 4
number_of ReadAttribute = 5
number_of ChangeAttribute = 6
number_of Delete = 7

-- an action is in a set where the bit of its number is 1
abbrev pub has : Actions → Action → Bool
has set action = nat_eq (bit_at set.value (number_of action)) 1

abbrev pub is_in_some : List Actions → Action → Bool
is_in_some sets action = list_any (λ (set : Actions). has set action) sets

-- the actions of a set that are found in none of these sets
abbrev pub missing : List Actions → Actions → List Action
missing sets wanted = filter (λ action. has wanted action && not (is_in_some sets action)) all_actions

-- a term without an identity speaks of everybody
abbrev pub is_of : List ℕ → Option (List ℕ) → Bool
is_of who None = true
is_of who (Some identity) = bytes_eq identity who

-- a term without a password needs none
abbrev pub is_met : Option (List ℕ) → Option (List ℕ) → Bool
is_met None given = true
is_met (Some password) None = false
is_met (Some password) (Some given) = bytes_eq password given

-- the terms that count for an identity
abbrev pub terms_of : List ℕ → List Term → List Term
terms_of who terms = filter (λ (term : Term). is_of who term.identity) terms

-- those of them whose password is met
abbrev pub open_terms : List ℕ → Option (List ℕ) → List Term → List Term
open_terms who given terms = filter (λ (term : Term). is_met term.password given) (terms_of who terms)

abbrev pub sets_of : List Term → List Actions
sets_of terms = map (λ (term : Term). term.actions) terms

-- refused where some action is missing, else what follows
abbrev pub unless_missing : List Action → AccessError → Result (Unit {0}) AccessError → Result (Unit {0}) AccessError
unless_missing [] error later = later
unless_missing (action ∷ actions) error later = Err error

-- what a list of terms grants; an empty one grants all
abbrev pub granted : List Term → (who : List ℕ) (given : Option (List ℕ)) → Actions → Result (Unit {0}) AccessError
granted [] who given wanted = Ok tt
granted (term ∷ terms) who given wanted =
    unless_missing (missing (sets_of (terms_of who (term ∷ terms))) wanted) Denied
    (unless_missing (missing (sets_of (open_terms who given (term ∷ terms))) wanted) BadPassword (Ok tt))

-- whether an identity that gives a password, or none, may do these actions to a file: each has to be permitted to
-- anybody, then granted by a term, then by one whose password is met
abbrev pub may : File → (who : List ℕ) (given : Option (List ℕ)) → Actions → Result (Unit {0}) AccessError
may file who given wanted =
    unless_missing (missing (file.permitted ∷ []) wanted) NotPermitted (granted file.terms who given wanted)
