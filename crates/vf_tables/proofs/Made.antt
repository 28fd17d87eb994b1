-- What a record of changes makes, from whether they fit and what they leave.
use Rattle.std.proofs.Common.{◌≡◌, Bool, true, false, ◌&&◌, if◌then◌else◌, List, Option, None, Some, refl, sym, ◌∙◌, ap}
use Rattle.vf_tables.specs.declared.change.Change.{Change}
use Rattle.vf_tables.specs.declared.tables.Tables.{Tables}
use Rattle.vf_tables.specs.Changes.{after_all}
use Rattle.vf_tables.specs.Fitting.{all_fit}
use Rattle.vf_tables.specs.Making.{MayBeMade, fitted_by, made_of}
use Rattle.vf_tables.specs.Entries.{no_tables}
use Rattle.vf_tables.specs.Staying.{AreValid}
use Rattle.vf_tables.specs.Validity.{is_valid}

unfit_by : (fit valid : Bool) (after : Tables) → (if fit then Some after else None) ≡ None → (if fit && valid then Some after else None) ≡ None
unfit_by true valid after none = absurd cc
unfit_by false valid after none = refl

-- a change that doesn't fit
pub unfit_none : (tables : Tables) (changes : List Change) → fitted_by tables changes ≡ None → made_of tables changes ≡ None
unfit_none tables changes none = unfit_by (all_fit tables changes) (is_valid (after_all tables changes)) (after_all tables changes) none

none_by : (valid : Bool) (after : Tables) → valid ≡ false → (if valid then Some after else None) ≡ None
none_by true after not = absurd cc
none_by false after not = refl

some_by : (valid : Bool) (after now : Tables) → valid ≡ true → after ≡ now → (if valid then Some after else None) ≡ Some now
some_by true after now is same = ap (λ (t : Tables). Some t) same
some_by false after now is same = absurd cc

invalid_by : (fit : Bool) (after now : Tables) → (if fit then Some after else None) ≡ Some now → is_valid now ≡ false → (if fit && is_valid after then Some after else None) ≡ None
invalid_by true after now fits not = let same : after ≡ now = cc in none_by (is_valid after) after (ap is_valid same ∙ not)
invalid_by false after now fits not = absurd cc

-- tables that aren't valid
pub invalid_none : (tables now : Tables) (changes : List Change) → fitted_by tables changes ≡ Some now → is_valid now ≡ false → made_of tables changes ≡ None
invalid_none tables now changes fits not = invalid_by (all_fit tables changes) (after_all tables changes) now fits not

valid_by : (fit : Bool) (after now : Tables) → (if fit then Some after else None) ≡ Some now → is_valid now ≡ true → (if fit && is_valid after then Some after else None) ≡ Some now
valid_by true after now fits is = let same : after ≡ now = cc in some_by (is_valid after) after now (ap is_valid same ∙ is) same
valid_by false after now fits is = absurd cc

pub valid_some : (tables now : Tables) (changes : List Change) → fitted_by tables changes ≡ Some now → is_valid now ≡ true → made_of tables changes ≡ Some now
valid_some tables now changes fits is = valid_by (all_fit tables changes) (after_all tables changes) now fits is

made_by : (made : Bool) (after now : Tables) → (if made then Some after else None) ≡ Some now → now ≡ after
made_by true after now is = cc
made_by false after now is = absurd cc

-- what is made are the tables after the changes
pub made_after : (tables now : Tables) (changes : List Change) → made_of tables changes ≡ Some now → now ≡ after_all tables changes
made_after tables now changes is = made_by (all_fit tables changes && is_valid (after_all tables changes)) (after_all tables changes) now is

pub fitted_after : (tables now : Tables) (changes : List Change) → fitted_by tables changes ≡ Some now → now ≡ after_all tables changes
fitted_after tables now changes is = made_by (all_fit tables changes) (after_all tables changes) now is

valid_then : (valid : Bool) (after now : Tables) → is_valid after ≡ valid → (if valid then Some after else None) ≡ Some now → is_valid now ≡ true
valid_then true after now valid is = let same : after ≡ now = cc in ap is_valid (sym same) ∙ valid
valid_then false after now valid is = absurd cc

valid_made_by : (fit : Bool) (after now : Tables) → (if fit && is_valid after then Some after else None) ≡ Some now → is_valid now ≡ true
valid_made_by true after now is = valid_then (is_valid after) after now refl is
valid_made_by false after now is = absurd cc

-- what is made is valid
pub made_valid : (tables now : Tables) (changes : List Change) → made_of tables changes ≡ Some now → AreValid now
unfolding AreValid
made_valid tables now changes is = valid_made_by (all_fit tables changes) (after_all tables changes) now is

-- what came of them
pub was_made : (made : Option Tables) (now : Tables) (is_made : Bool) → MayBeMade made now is_made → is_made ≡ true → made ≡ Some now
was_made made now true is so = is
was_made made now false is so = absurd cc

pub not_made : (made : Option Tables) (now : Tables) (is_made : Bool) → MayBeMade made now is_made → is_made ≡ false → made ≡ None
not_made made now true is so = absurd cc
not_made made now false is so = is

-- the tables of a filestore that is just made are valid
pub none_valid : AreValid no_tables
unfolding AreValid
none_valid = refl
