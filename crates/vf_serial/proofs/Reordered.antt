-- Schedules whose operations change places where they are apart leave and show the same.
use Rattle.std.proofs.Common.{◌≡◌, ◌≢◌, ℕ, List, [], ◌∷◌, ◌++◌, refl, ap, sym, subst, ◌∙◌}
use Rattle.vf_serial.specs.Schedule.{AreShown, Commute, Place, Performs, Ceases, ShowAlike, performed}

-- one schedule comes of another by neighbours that change places, and is without the places at which regimes cease
pub data Reorders {E : Type 0} (Apart : E → E → Type 0) : List (Place E) → List (Place E) → Type 0 where
  same : (s : List (Place E)) → Reorders Apart s s
  skip : (regime : ℕ) (s t : List (Place E)) → Reorders Apart s t → Reorders Apart (Ceases regime ∷ s) t
  keep : (place : Place E) (s t : List (Place E)) → Reorders Apart s t → Reorders Apart (place ∷ s) (place ∷ t)
  swap : (one other : ℕ) (first second : E) (s : List (Place E)) → other ≢ one → Apart first second
      → Reorders Apart (Performs one first ∷ Performs other second ∷ s) (Performs other second ∷ Performs one first ∷ s)
  both : (s t u : List (Place E)) → Reorders Apart s t → Reorders Apart t u → Reorders Apart s u

pub leave_same : {E W : Type 0} (step : ℕ → E → W → W) (Apart : E → E → Type 0) → Commute step Apart → (s t : List (Place E)) → Reorders Apart s t → (world : W)
    → performed step t world ≡ performed step s world
leave_same step Apart commute s t (same u) world = refl
leave_same step Apart commute s t (skip regime u v later) world = leave_same step Apart commute u v later world
leave_same step Apart commute s t (keep (Performs regime operation) u v later) world = leave_same step Apart commute u v later (step regime operation world)
leave_same step Apart commute s t (keep (Ceases regime) u v later) world = leave_same step Apart commute u v later world
leave_same step Apart commute s t (swap one other first second u differ apart) world =
    ap (performed step u) (sym (commute one other first second world differ apart))
leave_same step Apart commute s t (both u v w former later) world = leave_same step Apart commute v w later world ∙ leave_same step Apart commute u v former world

pub show_same : {E W : Type 0} (step : ℕ → E → W → W) (Shows : ℕ → E → W → Type 0) (Apart : E → E → Type 0) → Commute step Apart → ShowAlike step Shows Apart
    → (s t : List (Place E)) → Reorders Apart s t → (world : W) → AreShown step Shows s world → AreShown step Shows t world
show_same step Shows Apart commute alike s t (same u) world all = all
show_same step Shows Apart commute alike s t (skip regime u v later) world all = show_same step Shows Apart commute alike u v later world all
show_same step Shows Apart commute alike s t (keep (Performs regime operation) u v later) world all =
    (all.0, show_same step Shows Apart commute alike u v later (step regime operation world) all.1)
show_same step Shows Apart commute alike s t (keep (Ceases regime) u v later) world all = show_same step Shows Apart commute alike u v later world all
show_same step Shows Apart commute alike s t (swap one other first second u differ apart) world all =
    let both = alike one other first second world differ apart in
    (both.1 all.1.0, (both.0 all.0, subst (AreShown step Shows u) (commute one other first second world differ apart) all.1.1))
show_same step Shows Apart commute alike s t (both u v w former later) world all =
    show_same step Shows Apart commute alike v w later world (show_same step Shows Apart commute alike u v former world all)

pub keep_all : {E : Type 0} (Apart : E → E → Type 0) (front s t : List (Place E)) → Reorders Apart s t → Reorders Apart (front ++ s) (front ++ t)
keep_all Apart [] s t later = later
keep_all Apart (place ∷ front) s t later = keep place (front ++ s) (front ++ t) (keep_all Apart front s t later)
