-- Each file of a run is used serially where all its open regimes isolate.
use Rattle.std.proofs.Common.{◌≡◌, ℕ, ◌<◌, ◌≤◌, Bool, true, false, cond, List, [], ◌∷◌, map, nat_eq, option_map, Option, None, Some, inl, inr, refl, ap, sym, subst, ◌∙◌, arith, eqb-true, ne_eqb}
use Rattle.std.specs.Prelude.{◌⊎◌, flat_map}
use Rattle.std.specs.List.{AllByRecursion, IsDistinct}
use Rattle.std.specs.Str.{bytes_eq}
use Rattle.std.proofs.lemmas.Bool.{eqb-false}
use Rattle.std.proofs.lemmas.Map.Keys.{IsDistinct-head, IsDistinct-tail}
use Rattle.vf_attr.specs.declared.file.File.{File}
use Rattle.vf_filestore.specs.Files.{file_named}
use Rattle.vf_filestore.specs.History.{History, Regime, Selection, position, regime, selection}
use Rattle.vf_filestore.specs.Sound.{IsSound, is_same_number, name_of}
use Rattle.vf_filestore.specs.State.{State}
use Rattle.vf_filestore.proofs.Filed.{name_itself, names_flip}
use Rattle.vf_filestore.proofs.Lists.{all_append, all_both, all_unmap}
use Rattle.vf_serial.specs.Laws.{IsOrderly, IsPerformed, IsUsedSerially, Leaves, RunsAreSerial, RunsPerform}
use Rattle.vf_serial.specs.Moves.{Move, Opened, Acted, Ceased, Created, Renamed, Deleted, moves, state_after, works}
use Rattle.vf_serial.specs.Uses as uses_of_files
use Rattle.vf_serial.specs.Uses.{Use, Standing, begun, is_isolated, last_name, made, nowhere, position_among, schedule_of, standing_by, standing_in, standing_of_docket, standing_of_party, uses}
use Rattle.vf_serial.proofs.Acting.{IsActing, IsDone, IsWorldOf, ends, goes, is_done}
use Rattle.vf_serial.proofs.Among.{IsAmong, in_either, in_left, in_right}
use Rattle.vf_serial.proofs.FilesSerial.{files_serial}
use Rattle.vf_serial.proofs.Led.{at}
use Rattle.vf_serial.proofs.Orderly.{acting, runs_orderly, standings}
use Rattle.vf_serial.proofs.Pairs.{AreApart, two}
use Rattle.vf_serial.proofs.Present.{Item, all_items, coherent, docked, history_of, items, number_pairs, numbers_apart, numbers_of, of_item, stand_by, stands, stands_in, standing}
use Rattle.vf_serial.proofs.Working.{worker_by, workers, workers_in, working, working_at}

-- ---- who stands, with a position

abbrev placed_of : Item → List Standing
placed_of item = of_item standings item

placed_is : (item : Item) → placed_of item ≡ standing_in (history_of item)
placed_is (docked docket) = refl
placed_is (standing party) = refl

-- who works stands so
worker_placed : (history : History) (x : Standing) → IsAmong x (workers_in history) → IsAmong x (standing_in history)
worker_placed history x there = by (regime history) (selection history) there
  where
    by : (r : Option Regime) (s : Option Selection) → IsAmong x (worker_by (position history) r s) → IsAmong x (standing_by (position history) s r)
    by None s there = absurd there
    by (Some r) None there = absurd there
    by (Some r) (Some s) there = which (works r.mode) there
      where
        which : (b : Bool) → IsAmong x (working_at b s.file r (position history)) → IsAmong x (standing_by (position history) (Some s) (Some r))
        which false there = absurd there
        which true there = there

working_placed : (all : List Item) (x : Standing) → IsAmong x (flat_map workers all) → IsAmong x (flat_map placed_of all)
working_placed [] x there = absurd there
working_placed (item ∷ all) x there =
    elim (in_either x (workers item) (flat_map workers all) there) [
      | inl own ↦ in_left x (placed_of item) (flat_map placed_of all) (subst (IsAmong x) (sym (placed_is item)) (worker_placed (history_of item) x own))
      | inr later ↦ in_right x (placed_of item) (flat_map placed_of all) (working_placed all x later)
    ]

placed_stands : (history : History) (x : Standing) → IsAmong x (standing_in history) → IsAmong (at x.file x.regime) (stands_in history)
placed_stands history x there = by (selection history) (regime history) there
  where
    by : (s : Option Selection) (r : Option Regime) → IsAmong x (standing_by (position history) s r) → IsAmong (at x.file x.regime) (stand_by r s)
    by None None there = absurd there
    by None (Some r) there = absurd there
    by (Some s) None there = absurd there
    by (Some s) (Some r) (inl same) = inl (λ i. at (same i).file (same i).regime)
    by (Some s) (Some r) (inr none) = absurd none

item_stands : (item : Item) (x : Standing) → IsAmong x (placed_of item) → IsAmong (at x.file x.regime) (stands item)
item_stands item x there = placed_stands (history_of item) x (subst (IsAmong x) (placed_is item) there)

placed_all_stand : (all : List Item) (x : Standing) → IsAmong x (flat_map placed_of all) → IsAmong (at x.file x.regime) (flat_map stands all)
placed_all_stand [] x there = absurd there
placed_all_stand (item ∷ all) x there =
    elim (in_either x (placed_of item) (flat_map placed_of all) there) [
      | inl own ↦ in_left (at x.file x.regime) (stands item) (flat_map stands all) (item_stands item x own)
      | inr later ↦ in_right (at x.file x.regime) (stands item) (flat_map stands all) (placed_all_stand all x later)
    ]

one_placed : (history : History) (x y : Standing) → IsAmong x (standing_in history) → IsAmong y (standing_in history) → x ≡ y
one_placed history x y there too = by (selection history) (regime history) there too
  where
    by : (s : Option Selection) (r : Option Regime) → IsAmong x (standing_by (position history) s r) → IsAmong y (standing_by (position history) s r) → x ≡ y
    by None None there too = absurd there
    by None (Some r) there too = absurd there
    by (Some s) None there too = absurd there
    by (Some s) (Some r) (inl same) (inl other) = same ∙ sym other
    by (Some s) (Some r) (inl same) (inr none) = absurd none
    by (Some s) (Some r) (inr none) too = absurd none

-- two of one number are one
single : (state : State) → IsSound state → (x y : Standing) → IsAmong x (flat_map placed_of (items state.dockets state.parties)) → IsAmong y (flat_map placed_of (items state.dockets state.parties))
    → x.regime.number ≡ y.regime.number → x ≡ y
single state sound x y there too same =
    two (AreApart is_same_number numbers_of) placed_of (x ≡ y) x y (items state.dockets state.parties) (number_pairs state sound) there too
    (λ i here also. one_placed (history_of i) x y (subst (IsAmong x) (placed_is i) here) (subst (IsAmong y) (placed_is i) also))
    (λ i j apart here also.
    absurd (eqb-false x.regime.number y.regime.number (numbers_apart i j (at x.file x.regime) (at y.file y.regime) apart (item_stands i x here) (item_stands j y also)) same))
    (λ i j apart also here.
    absurd (eqb-false y.regime.number x.regime.number (numbers_apart i j (at y.file y.regime) (at x.file x.regime) apart (item_stands i y also) (item_stands j x here)) (sym same)))

-- ---- positions at the begin

found_position : (all : List Standing) (x : Standing) → ((y : Standing) → IsAmong y all → y.regime.number ≡ x.regime.number → y ≡ x) → IsAmong x all → position_among all x.regime.number ≡ x.position
found_position [] x one there = absurd there
found_position (y ∷ all) x one there = by (nat_eq y.regime.number x.regime.number) refl there (found_position all x (λ z later. one z (inr later)))
  where
    by : (b : Bool) → nat_eq y.regime.number x.regime.number ≡ b → (x ≡ y) ⊎ IsAmong x all → (IsAmong x all → position_among all x.regime.number ≡ x.position)
        → cond b y.position (position_among all x.regime.number) ≡ x.position
    by true is there rest = ap (λ (s : Standing). s.position) (one y (inl refl) (eqb-true y.regime.number x.regime.number is))
    by false is (inl same) rest = absurd (eqb-false y.regime.number x.regime.number is (ap (λ (s : Standing). s.regime.number) (sym same)))
    by false is (inr later) rest = rest later

no_position : (all : List Standing) (next number : ℕ) → ((x : Standing) → IsAmong x all → x.regime.number < next) → next ≤ number → position_among all number ≡ 0
no_position [] next number below above = refl
no_position (x ∷ all) next number below above =
    let less = below x (inl refl) in
    let off : nat_eq x.regime.number number ≡ false = ne_eqb x.regime.number number (λ same. absurd (omega arith)) in
    (λ i. cond (off i) x.position (position_among all number)) ∙ no_position all next number (λ y later. below y (inr later)) above

-- ---- files at the begin

named_all : (files : List File) → IsDistinct bytes_eq (map name_of files) → AllByRecursion (λ (file : File). file_named file.name files ≡ Some file) files
named_all [] distinct = tt
named_all (file ∷ files) distinct = (
  λ i. cond (name_itself file.name i) (Some file) (file_named file.name files),
  all_both (λ (other : File). bytes_eq file.name other.name ≡ false) (λ (other : File). file_named other.name files ≡ Some other) (λ (other : File). file_named other.name (file ∷ files) ≡ Some other) files
      (λ other off is. (λ i. cond ((names_flip other.name file.name ∙ off) i) (Some file) (file_named other.name files)) ∙ is)
      (all_unmap name_of (λ name. bytes_eq file.name name ≡ false) files (IsDistinct-head bytes_eq file.name (map name_of files) distinct))
      (named_all files (IsDistinct-tail bytes_eq file.name (map name_of files) distinct)),
)

begun_world : (state : State) → IsSound state → (file : File) → file_named file.name state.files ≡ Some file
    → IsWorldOf file.name (record { tree = file.tree; position = position_among (uses_of_files.standing state) }) (working state) state.files state.concluded
begun_world state sound file found = record {
  tree = ap (option_map (λ (one : File). one.tree)) found;
  places = λ x there on.
      found_position (uses_of_files.standing state) x
      (λ y also same. single state sound y x (back y also) (working_placed (items state.dockets state.parties) x there) same)
      (subst (λ (all : List Standing). IsAmong x all) (all_items standings state.dockets state.parties) (working_placed (items state.dockets state.parties) x there));
  fresh = λ number above.
      no_position (uses_of_files.standing state) state.concluded number
      (λ x also. (coherent state sound).below (at x.file x.regime) (placed_all_stand (items state.dockets state.parties) x (back x also))) above;
}
  where
    back : (x : Standing) → IsAmong x (uses_of_files.standing state) → IsAmong x (flat_map placed_of (items state.dockets state.parties))
    back x there = subst (λ (all : List Standing). IsAmong x all) (sym (all_items standings state.dockets state.parties)) there

-- ---- each use

performed_of : (last : List File) (one : Use) → IsDone last one.file one.moves one.world → IsPerformed last one
performed_of last one done = record { shows = done.shows; leaves = done.leaves }

begun_performed : (state : State) → IsSound state → (last : List File) (happened : List Move) → IsActing last (working state) state.files state.concluded happened → (files : List File)
    → AllByRecursion (λ (file : File). file_named file.name state.files ≡ Some file) files → AllByRecursion (IsPerformed last) (map (begun (uses_of_files.standing state) happened) files)
begun_performed state sound last happened acts [] named = tt
begun_performed state sound last happened acts (file ∷ files) named = (
  performed_of last (begun (uses_of_files.standing state) happened file)
      (is_done last (working state) state.files state.concluded happened acts file.name (record { tree = file.tree; position = position_among (uses_of_files.standing state) }) (begun_world state sound file named.0)),
  begun_performed state sound last happened acts files named.1,
)

made_performed : (last : List File) (all : List Standing) (files : List File) (next : ℕ) (happened : List Move) → IsActing last all files next happened → AllByRecursion (IsPerformed last) (made happened)
made_performed last all files next happened (ends a f n same) = tt
made_performed last all files next happened (goes a later f after b n (Opened file opened) rest rises does acts) = made_performed last later after n rest acts
made_performed last all files next happened (goes a later f after b n (Acted file number operation) rest rises does acts) = made_performed last later after n rest acts
made_performed last all files next happened (goes a later f after b n (Ceased file number) rest rises does acts) = made_performed last later after n rest acts
made_performed last all files next happened (goes a later f after b n (Created file contents) rest rises does acts) = (
  performed_of last (record { file = file; world = record { tree = contents; position = nowhere }; isolated = true; moves = rest })
      (is_done last later after n rest acts file (record { tree = contents; position = nowhere })
      (record { tree = does.leaves; places = λ x there on. absurd (does.free x there on); fresh = λ number above. refl })),
  made_performed last later after n rest acts,
)
made_performed last all files next happened (goes a later f after b n (Renamed old new) rest rises does acts) = made_performed last later after n rest acts
made_performed last all files next happened (goes a later f after b n (Deleted file) rest rises does acts) = made_performed last later after n rest acts

pub runs_perform : RunsPerform
runs_perform happenings state new sound kept =
    let last = (state_after happenings state).files in
    let happened = moves happenings state in
    let acts = acting happenings state new sound kept in
    all_append (IsPerformed last) (map (begun (uses_of_files.standing state) happened) state.files) (made happened)
    (begun_performed state sound last happened acts state.files (named_all state.files sound.filed)) (made_performed last (working state) state.files state.concluded happened acts)

serial_of : (last : List File) (one : Use) → IsOrderly one → IsPerformed last one → IsUsedSerially last one
serial_of last one orderly performs =
    let is = files_serial (schedule_of one) one.world orderly.once orderly.apart performs.shows in
    record {
      shows = is.shows;
      leaves = subst (λ tree. Leaves last tree one) (sym is.leaves) performs.leaves;
    }

pub runs_serial : RunsAreSerial
runs_serial happenings state new sound kept =
    let last = (state_after happenings state).files in
    all_both (λ (one : Use). is_isolated one ≡ true → IsOrderly one) (IsPerformed last) (λ (one : Use). is_isolated one ≡ true → IsUsedSerially last one) (uses happenings state)
    (λ one orderly performs isolated. serial_of last one (orderly isolated) performs) (runs_orderly happenings state new sound kept) (runs_perform happenings state new sound kept)
