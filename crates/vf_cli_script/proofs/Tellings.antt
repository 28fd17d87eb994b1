-- A script, one statement after another.
use Rattle.std.specs.Prelude.{slice_get}
use Rattle.std.proofs.Common.{◌≡◌, ◌∙◌, ◌≤◌, ℕ, zero, suc, ◌+◌, List, [], ◌∷◌, ◌++◌, length, drop, Option, Some, None, Result, Ok, Err, refl, sym, ap, arith, ⊎_elim}
use Rattle.std.proofs.lemmas.Bool.{cases_lt}
use Rattle.vf_cli_script.specs.Scripts.{IfScript, IsTold, Progress, begun, go_on, script_from, script_of, statements_within, with_statement}
use Rattle.vf_cli_script.specs.declared.line.Statement.{Statement}
use Rattle.vf_cli_script.specs.declared.script.Script.{Script}
use Rattle.vf_cli_script.specs.declared.script.Told.{Told}
use Rattle.vf_cli_script.specs.declared.script.Told.TheVariants as tellings
use Rattle.vf_cli_script.proofs.Feeds.{bad_last}

-- the statement at a place, and those behind it
pub here : (statements : List (Option Statement)) (place : ℕ) (statement : Option Statement) → slice_get statements place ≡ Some statement → drop place statements ≡ statement ∷ drop (place + 1) statements
here [] zero statement is = absurd cc
here [] (suc place) statement is = absurd cc
here (first ∷ later) zero statement is = λ i. first_of (is i) ∷ later
  where
    first_of : Option (Option Statement) → Option Statement
    first_of None = first
    first_of (Some s) = s
here (first ∷ later) (suc place) statement is =
    let next : suc (place + 1) ≡ suc place + 1 = omega arith in
    here later place statement is ∙ ap (λ (n : ℕ). statement ∷ drop n (first ∷ later)) next

-- a line that is good
pub script_more : (told : Result Script ℕ) (so_far more : Progress) (place : ℕ) (statements after : List (Option Statement)) (statement : Option Statement)
    → told ≡ script_from so_far place (drop place statements) → slice_get statements place ≡ Some statement → drop (place + 1) after ≡ drop (place + 1) statements
    → with_statement so_far statement (drop (place + 1) after) ≡ Some more → told ≡ script_from more (place + 1) (drop (place + 1) after)
unfolding script_from
script_more told so_far more place statements after statement is out same good =
    is ∙ ap (script_from so_far place) (here statements place statement out ∙ ap (λ (l : List (Option Statement)). statement ∷ l) (sym same))
    ∙ ap (λ (next : Option Progress). go_on next (place + 1) (λ (p : Progress). script_from p (place + 1) (drop (place + 1) after))) good

-- one that is bad
pub script_bad : (told : Result Script ℕ) (so_far : Progress) (place : ℕ) (statements after : List (Option Statement)) (statement : Option Statement)
    → told ≡ script_from so_far place (drop place statements) → slice_get statements place ≡ Some statement → drop (place + 1) after ≡ drop (place + 1) statements
    → with_statement so_far statement (drop (place + 1) after) ≡ None → told ≡ Err (place + 1)
unfolding script_from
script_bad told so_far place statements after statement is out same bad =
    is ∙ ap (script_from so_far place) (here statements place statement out ∙ ap (λ (l : List (Option Statement)). statement ∷ l) (sym same))
    ∙ ap (λ (next : Option Progress). go_on next (place + 1) (λ (p : Progress). script_from p (place + 1) (drop (place + 1) after))) bad

-- no line is left
pub script_whole : (told : Result Script ℕ) (so_far : Progress) (place : ℕ) (statements : List (Option Statement)) → told ≡ script_from so_far place (drop place statements) → length statements ≤ place
    → told ≡ Ok (script_of so_far)
unfolding script_from
script_whole told so_far place statements is all = is ∙ ap (script_from so_far place) (drop_all place statements all)
  where
    drop_all : (n : ℕ) (l : List (Option Statement)) → length l ≤ n → drop n l ≡ []
    drop_all zero [] few = refl
    drop_all zero (s ∷ l) few = absurd (omega (arith, few))
    drop_all (suc n) [] few = refl
    drop_all (suc n) (s ∷ l) few = drop_all n l (omega (arith, few))

-- ---- what is cut off is no script

bad_next : (next : Option Progress) (number : ℕ) (later : Progress → Result Script ℕ) (script : Script) → ((p : Progress) → later p ≡ Ok script → ⊥) → go_on next number later ≡ Ok script → ⊥
bad_next None number later script bad is = cc
bad_next (Some p) number later script bad is = bad p is

bad_end : (so_far : Progress) (before : ℕ) (statements : List (Option Statement)) (script : Script) → script_from so_far before (statements ++ None ∷ []) ≡ Ok script → ⊥
unfolding script_from
bad_end so_far before [] script is = cc
bad_end so_far before (statement ∷ later) script is =
    bad_next (with_statement so_far statement (later ++ None ∷ [])) (before + 1) (λ (p : Progress). script_from p (before + 1) (later ++ None ∷ [])) script
    (λ p e. bad_end p (before + 1) later script e) is

pub no_script : (so_far : Progress) (statements front : List (Option Statement)) (script : Script) → statements ≡ front ++ None ∷ [] → script_from so_far 0 statements ≡ Ok script → ⊥
no_script so_far statements front script end is = bad_end so_far 0 front script (ap (script_from so_far 0) (sym end) ∙ is)

-- so a script has no more octets than count
pub whole_script : (limit : ℕ) (octets : List ℕ) (script : Script) → script_from begun 0 (statements_within limit octets) ≡ Ok script → length octets ≤ limit
whole_script limit octets script is = ⊎_elim (λ long. let end = bad_last limit octets long in absurd (no_script begun (statements_within limit octets) end.front script end.is is)) (λ short. short) (cases_lt limit (length octets))

pub whole_told : (limit : ℕ) (octets : List ℕ) (told : Told) → IsTold (script_from begun 0 (statements_within limit octets)) told → IfScript told (length octets ≤ limit)
whole_told limit octets (tellings.Script script) is = whole_script limit octets script is
whole_told limit octets (tellings.Bad number) is = tt

pub if_script : (told : Told) (P Q : Type 0) → (P → Q) → IfScript told P → IfScript told Q
if_script (tellings.Script script) P Q so is = so is
if_script (tellings.Bad number) P Q so is = tt
