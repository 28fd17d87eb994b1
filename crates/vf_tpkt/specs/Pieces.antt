-- A stream that comes in pieces.
use Rattle.std.specs.Prelude.{◌≡◌, ℕ, List, ◌++◌, None, Some, Result, Ok, Err, ◌⊎◌}
use Rattle.vf_tpkt.specs.declared.error.TpktError.{TpktError}
use Rattle.vf_tpkt.specs.declared.error.TpktError.TheVariants as errors
use Rattle.vf_tpkt.specs.declared.phase.Side.{Side}
use Rattle.vf_tpkt.specs.declared.unit.Unit.{Unit as Told}
use Rattle.vf_tpkt.specs.Receiving.{Reading, Kept, preceded}
use Rattle.vf_tpkt.specs.Stream.{reading}

-- new is old with something appended
abbrev pub Extends : {A : Type 0} → List A → List A → Type 0
Extends {A} old new = (more : List A) × (new ≡ old ++ more)

-- All of a reading was appended, and kept.
pub record TellsAll (r : Reading) (told : List Told) (answered : List ℕ) (kept : Kept) (told' : List Told) (answered' : List ℕ) : Type 0 where
  pub units : told' ≡ told ++ r.units
  pub answers : answered' ≡ answered ++ r.answers
  pub keeps : kept ≡ r.kept

-- A beginning of it was appended.
pub record TellsPrefix (r : Reading) (told : List Told) (answered : List ℕ) (told' : List Told) (answered' : List ℕ) : Type 0 where
  pub units : Extends told told'
  pub others : Extends told' (told ++ r.units)
  pub answers : Extends answered answered'
  pub other_answers : Extends answered' (answered ++ r.answers)

-- What a call tells of a reading: all of it, with the fault that it comes to, if any. Where memory was
-- wanting it is a beginning of that, and nothing is kept.
abbrev pub Tells : Reading → List Told → List ℕ → Kept → List Told → List ℕ → Result (Unit {0}) TpktError → Type 0
Tells r told answered kept told' answered' (Ok done) = (r.kept.fault ≡ None) × TellsAll r told answered kept told' answered'
Tells r told answered kept told' answered' (Err fault) =
    ((r.kept.fault ≡ Some fault) × TellsAll r told answered kept told' answered')
    ⊎ ((fault ≡ errors.NoMemory) × (kept.fault ≡ Some errors.NoMemory) × TellsPrefix r told answered told' answered')

-- However a stream is cut, the pieces together tell what it tells: the octets of a piece tell the rest of what the
-- stream with them tells, by the list of its TPDUs.
abbrev pub TellsPiece : Side → List ℕ → List ℕ → List Told → List ℕ → Kept → List Told → List ℕ → Result (Unit {0}) TpktError → Type 0
TellsPiece side stream piece told answered kept told' answered' result =
    let before = reading side stream in
    (r : Reading) × (reading side (stream ++ piece) ≡ preceded before.units before.answers r) × Tells r told answered kept told' answered' result
