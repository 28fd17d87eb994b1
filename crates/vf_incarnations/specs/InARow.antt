-- All that is done to a store, one after another (profile): calls of `serve`, each of which ends at any moment, and dockets that
-- are dropped between them.
use Rattle.std.specs.Prelude.{◌≡◌, ◌⊎◌, ℕ, List, [], ◌∷◌, Result}
use Rattle.vf_base.specs.Links.{Traffic}
use Rattle.vf_filestore.specs.Dockets.{dropped}
use Rattle.vf_filestore.specs.State.{State}
use Rattle.vf_filestore.specs.Tables.{tables_of}
use Rattle.vf_store.specs.Represented.{Represents, RepresentsEither}
use Rattle.vf_tables.specs.Changes.{after}
use Rattle.vf_tables.specs.declared.change.Change.TheVariants.{DropDocket}
use Rattle.vf_responder.specs.declared.error.ServeError.{ServeError}
use Rattle.vf_responder.specs.declared.serving.Served.{Served}
use Rattle.vf_incarnations.specs.Incarnations.{Episode, Incarnates, after_all, left_by}
use Rattle.vf_incarnations.specs.Incarnations as incarnations
use Rattle.vf_incarnations.specs.Laws.{AreOneRun, MayBegin}
use Rattle.vf_incarnations.specs.Served.{IsIncarnation}

-- What was done, with the image that a crash left of the disk then: a call of `serve`, how it ended and what its links tell; or a
-- docket that was dropped.
pub data Act : Type 0 where
  Serves : Result Served ServeError → Traffic → (left : List ℕ) → Act
  Drops : (identity : List ℕ) (activity : ℕ) → (left : List ℕ) → Act

abbrev pub last_image : List ℕ → List Act → List ℕ
last_image before [] = before
last_image before (Serves result traffic left ∷ later) = last_image left later
last_image before (Drops identity activity left ∷ later) = last_image left later

-- WHAT IS PROMISED OF EACH, from every state that an incarnation may begin with and whose tables the image before it represents: a
-- call is an incarnation, and a docket is dropped or stands.
abbrev pub IsKept : (before : List ℕ) → Act → Type 0
IsKept before (Serves result traffic left) = (state : State) → MayBegin state → Represents before (tables_of state) → IsIncarnation state result traffic left
IsKept before (Drops identity activity left) =
    (state : State) → MayBegin state → Represents before (tables_of state) → RepresentsEither (tables_of state) (tables_of (dropped identity activity state)) left

abbrev pub AreKept : (before : List ℕ) → List Act → Type 0
AreKept before [] = Unit {0}
AreKept before (Serves result traffic left ∷ later) = IsKept before (Serves result traffic left) × AreKept left later
AreKept before (Drops identity activity left ∷ later) = IsKept before (Drops identity activity left) × AreKept left later

-- SO THEY ARE EPISODES, each in the state that those before it left; a docket that stands is none.
abbrev pub AreEpisodes : State → List Act → List Episode → Type 0
AreEpisodes state [] episodes = episodes ≡ []
AreEpisodes state (Serves result traffic left ∷ later) episodes =
    (is : IsIncarnation state result traffic left) × (rest : List Episode) × (episodes ≡ Incarnates is.incarnation ∷ rest)
    × AreEpisodes (left_by is.incarnation state) later rest
AreEpisodes state (Drops identity activity left ∷ later) episodes =
    AreEpisodes state later episodes
    ⊎ ((rest : List Episode) × (episodes ≡ incarnations.Drops identity activity ∷ rest) × AreEpisodes (dropped identity activity state) later rest)

-- and all of them are one run of the filestore, whose tables the last image represents.
pub record AreAllOneRun (state : State) (before : List ℕ) (acts : List Act) : Type 0 where
  pub episodes : List Episode
  pub are : AreEpisodes state acts episodes
  pub run : AreOneRun episodes state
  pub left : Represents (last_image before acts) (tables_of (after_all episodes state))

abbrev pub ActsAreOneRun : Type 0
ActsAreOneRun =
    (state : State) (before : List ℕ) (acts : List Act) → MayBegin state → Represents before (tables_of state) → AreKept before acts
    → AreAllOneRun state before acts

-- A DROP is one change: it takes the docket out of what is kept, as it is gone from the state.
abbrev pub DropsAreWritten : Type 0
DropsAreWritten =
    (identity : List ℕ) (activity : ℕ) (state : State) → MayBegin state
    → after (tables_of state) (DropDocket identity activity) ≡ tables_of (dropped identity activity state)
