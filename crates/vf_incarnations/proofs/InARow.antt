-- All that is done to a store, as one run of the filestore.
use Rattle.std.proofs.Common.{ℕ, List, [], ◌∷◌, inl, inr, refl}
use Rattle.vf_filestore.specs.Dockets.{dropped}
use Rattle.vf_filestore.specs.State.{State}
use Rattle.vf_filestore.specs.Tables.{tables_of}
use Rattle.vf_store.specs.Represented.{Represents}
use Rattle.vf_incarnations.proofs.Lives.{dropped-begins, incarnations_are_one_run, incarnations_are_runs}
use Rattle.vf_incarnations.specs.Incarnations.{Episode, Incarnates, after_all, left_by}
use Rattle.vf_incarnations.specs.Incarnations as incarnations
use Rattle.vf_incarnations.specs.InARow.{Act, Serves, Drops, ActsAreOneRun, AreEpisodes, AreKept, last_image}
use Rattle.vf_incarnations.specs.Laws.{MayBegin}

-- the episodes, and what the last image represents
record Goes (state : State) (before : List ℕ) (acts : List Act) : Type 0 where
  episodes : List Episode
  are : AreEpisodes state acts episodes
  left : Represents (last_image before acts) (tables_of (after_all episodes state))

goes : (state : State) (before : List ℕ) (acts : List Act) → MayBegin state → Represents before (tables_of state) → AreKept before acts → Goes state before acts
goes state before [] may represents kept = record { episodes = []; are = refl; left = represents }
goes state before (Serves result traffic left ∷ later) may represents kept =
    let is = kept.0 state may represents in
    let next = left_by is.incarnation state in
    let rest = goes next left later (incarnations_are_runs is.incarnation state may).begins is.left kept.1 in
    record { episodes = Incarnates is.incarnation ∷ rest.episodes; are = (is, rest.episodes, refl, rest.are); left = rest.left }
goes state before (Drops identity activity left ∷ later) may represents kept =
    elim (kept.0 state may represents) [
      | inl stands ↦ (
          let rest = goes state left later may stands kept.1 in
          record { episodes = rest.episodes; are = inl rest.are; left = rest.left }
          )
      | inr gone ↦ (
          let rest = goes (dropped identity activity state) left later (dropped-begins identity activity state may) gone kept.1 in
          record { episodes = incarnations.Drops identity activity ∷ rest.episodes; are = inr (rest.episodes, refl, rest.are); left = rest.left }
          )
    ]

pub acts_are_one_run : ActsAreOneRun
acts_are_one_run state before acts may represents kept =
    let all = goes state before acts may represents kept in
    record { episodes = all.episodes; are = all.are; run = incarnations_are_one_run all.episodes state may; left = all.left }
