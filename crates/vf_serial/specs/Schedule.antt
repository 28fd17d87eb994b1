-- The schedule of one file, and the serial order of the regimes in which it is open (profile). It names no party, lock
-- or disk: operations are of any kind, and the world on which they work is any.
use Rattle.std.specs.Prelude.{◌≡◌, ◌≢◌, ℕ, Bool, false, ◌||◌, List, [], ◌∷◌, ◌++◌, if◌then◌else◌, nat_eq}

-- What happens to a file, in the order of a run: an open regime, which its number names, performs an operation, or it
-- ceases to hold.
pub data Place (E : Type 0) : Type 0 where
  Performs : (regime : ℕ) → (operation : E) → Place E
  Ceases : (regime : ℕ) → Place E

-- THE SERIAL ORDER: regimes as they ceased to hold,
abbrev pub ceased : {E : Type 0} → List (Place E) → List ℕ
ceased [] = []
ceased (Performs regime operation ∷ later) = ceased later
ceased (Ceases regime ∷ later) = regime ∷ ceased later

abbrev pub is_among : ℕ → List ℕ → Bool
is_among regime [] = false
is_among regime (other ∷ others) = nat_eq regime other || is_among regime others

-- and last those that still hold, by their first operations
abbrev pub others : {E : Type 0} → (seen : List ℕ) → List (Place E) → List ℕ
others seen [] = []
others seen (Performs regime operation ∷ later) =
    if is_among regime seen then others seen later else regime ∷ others (regime ∷ seen) later
others seen (Ceases regime ∷ later) = others seen later

abbrev pub serial_order : {E : Type 0} → List (Place E) → List ℕ
serial_order schedule = ceased schedule ++ others (ceased schedule) schedule

-- what one regime performs
abbrev pub of_regime : {E : Type 0} → ℕ → List (Place E) → List (Place E)
of_regime regime [] = []
of_regime regime (Performs other operation ∷ later) =
    if nat_eq other regime then Performs other operation ∷ of_regime regime later else of_regime regime later
of_regime regime (Ceases other ∷ later) = of_regime regime later

abbrev pub one_after_another : {E : Type 0} → List ℕ → List (Place E) → List (Place E)
one_after_another [] schedule = []
one_after_another (regime ∷ regimes) schedule = of_regime regime schedule ++ one_after_another regimes schedule

-- the same operations, one regime after another in the serial order
abbrev pub serial : {E : Type 0} → List (Place E) → List (Place E)
serial schedule = one_after_another (serial_order schedule) schedule

-- WHAT IT COMES TO, where a step tells what an operation of a regime leaves,
abbrev pub performed : {E W : Type 0} → (step : ℕ → E → W → W) → List (Place E) → W → W
performed step [] world = world
performed step (Performs regime operation ∷ later) world = performed step later (step regime operation world)
performed step (Ceases regime ∷ later) world = performed step later world

-- and another definition when it shows in a world what it showed in the run: each does where it is performed
abbrev pub AreShown : {E W : Type 0} → (step : ℕ → E → W → W) → (Shows : ℕ → E → W → Type 0) → List (Place E) → W → Type 0
AreShown step Shows [] world = Unit {0}
AreShown step Shows (Performs regime operation ∷ later) world =
    Shows regime operation world × AreShown step Shows later (step regime operation world)
AreShown step Shows (Ceases regime ∷ later) world = AreShown step Shows later world

-- WHAT A RUN KEEPS: a regime is not there again,
abbrev pub IsGone : {E : Type 0} → ℕ → List (Place E) → Type 0
IsGone regime [] = Unit {0}
IsGone regime (Performs other operation ∷ later) = (other ≢ regime) × IsGone regime later
IsGone regime (Ceases other ∷ later) = (other ≢ regime) × IsGone regime later

-- once it ceased to hold;
abbrev pub CeasesOnce : {E : Type 0} → List (Place E) → Type 0
CeasesOnce [] = Unit {0}
CeasesOnce (Performs regime operation ∷ later) = CeasesOnce later
CeasesOnce (Ceases regime ∷ later) = IsGone regime later × CeasesOnce later

-- and an operation is apart from each one that another regime performs while its own still holds
abbrev pub IsApartWhileHeld : {E : Type 0} → (Apart : E → E → Type 0) → ℕ → E → List (Place E) → Type 0
IsApartWhileHeld Apart regime operation [] = Unit {0}
IsApartWhileHeld Apart regime operation (Performs other next ∷ later) =
    (other ≢ regime → Apart operation next) × IsApartWhileHeld Apart regime operation later
IsApartWhileHeld Apart regime operation (Ceases other ∷ later) =
    other ≢ regime → IsApartWhileHeld Apart regime operation later

abbrev pub AreApart : {E : Type 0} → (Apart : E → E → Type 0) → List (Place E) → Type 0
AreApart Apart [] = Unit {0}
AreApart Apart (Performs regime operation ∷ later) = IsApartWhileHeld Apart regime operation later × AreApart Apart later
AreApart Apart (Ceases regime ∷ later) = AreApart Apart later

-- OPERATIONS THAT ARE APART change places: they leave the same,
abbrev pub Commute : {E W : Type 0} → (step : ℕ → E → W → W) → (Apart : E → E → Type 0) → Type 0
Commute {E} {W} step Apart =
    (one other : ℕ) (first second : E) (world : W) → other ≢ one → Apart first second
    → step other second (step one first world) ≡ step one first (step other second world)

-- and show the same
abbrev pub ShowAlike : {E W : Type 0} → (step : ℕ → E → W → W) → (Shows : ℕ → E → W → Type 0) → (Apart : E → E → Type 0) → Type 0
ShowAlike {E} {W} step Shows Apart =
    (one other : ℕ) (first second : E) (world : W) → other ≢ one → Apart first second
    → (Shows one first world → Shows one first (step other second world))
    × (Shows other second (step one first world) → Shows other second world)

-- THE LAW. What the operations leave in their own order they leave in the serial one,
abbrev pub LeavesTheSame : {E W : Type 0} → (step : ℕ → E → W → W) → (Apart : E → E → Type 0) → Type 0
LeavesTheSame {E} {W} step Apart =
    (schedule : List (Place E)) (world : W) → CeasesOnce schedule → AreApart Apart schedule
    → performed step (serial schedule) world ≡ performed step schedule world

-- and what they show in their own order they show in the serial one
abbrev pub ShowsTheSame : {E W : Type 0} → (step : ℕ → E → W → W) → (Shows : ℕ → E → W → Type 0) → (Apart : E → E → Type 0) → Type 0
ShowsTheSame {E} {W} step Shows Apart =
    (schedule : List (Place E)) (world : W) → CeasesOnce schedule → AreApart Apart schedule
    → AreShown step Shows schedule world → AreShown step Shows (serial schedule) world
