-- No changes lead on, and a second of the tables after them is one before them.
use Rattle.std.proofs.Common.{◌≡◌, arith, true, List, [], ◌∷◌, length, Option, refl}
use Rattle.std.proofs.lemmas.Bool.{eqb-true}
use Rattle.std.specs.Prelude.{IfSome, nat_eq}
use Rattle.vf_tables.specs.Changes.{after_all}
use Rattle.vf_tables.specs.declared.change.Change.{Change}
use Rattle.vf_tables.specs.declared.tables.Tables.{Tables}

pub unchanged : (changes : List Change) (tables : Tables) → nat_eq (length changes) 0 ≡ true → tables ≡ after_all tables changes
unchanged [] tables none = refl
unchanged (change ∷ later) tables none = absurd (omega (arith, eqb-true (length (change ∷ later)) 0 none))

pub still_second : (changes : List Change) (tables : Tables) (ahead : Option Tables) → nat_eq (length changes) 0 ≡ true → IfSome ahead (λ next. next ≡ after_all tables changes)
    → IfSome ahead (λ second. second ≡ tables)
still_second [] tables ahead none is = is
still_second (change ∷ later) tables ahead none is = absurd (omega (arith, eqb-true (length (change ∷ later)) 0 none))
