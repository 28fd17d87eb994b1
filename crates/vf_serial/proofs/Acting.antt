-- What moves do to contents and positions, and that a schedule whose moves follow one another so shows in its own order
-- what it showed, and leaves the contents that the file has.
use Rattle.std.proofs.Common.{◌≡◌, ◌≢◌, ℕ, ◌<◌, ◌≤◌, Bool, true, false, cond, List, [], ◌∷◌, nat_eq, option_map, Option, None, Some, Ok, inl, inr, refl, ap, sym, subst, ◌∙◌, arith, eq-eqb, ne_eqb}
use Rattle.std.specs.Prelude.{◌⊎◌, IfSome}
use Rattle.std.specs.Str.{bytes_eq}
use Rattle.vf_attr.specs.declared.file.File.{File}
use Rattle.vf_filestore.specs.Files.{file_named}
use Rattle.vf_pdu_fields.proofs.Plain.{some_is}
use Rattle.vf_tree.specs.Actions.{Outcome}
use Rattle.vf_tree.specs.Acts.{does}
use Rattle.vf_tree.specs.FileTree.{FileTree}
use Rattle.vf_filestore.specs.History.{Regime}
use Rattle.vf_filestore.proofs.Filed.{names_flip, same_name}
use Rattle.vf_serial.specs.FileModel.{IsShowing, Operation, ShowsAll, World, contents_after, left_by, step}
use Rattle.vf_serial.specs.Moves.{Move, Opened, Acted, Ceased, Created, Renamed, Deleted}
use Rattle.vf_serial.specs.Schedule.{Place, Performs, Ceases}
use Rattle.vf_serial.specs.Uses.{Standing, last_name, schedule}
use Rattle.vf_serial.proofs.Among.{IsAmong}
use Rattle.vf_serial.proofs.Led.{differ}

-- the contents of the file of a name
abbrev pub tree_at : (name : List ℕ) → List File → Option FileTree
tree_at name files = option_map (λ (file : File). file.tree) (file_named name files)

abbrev pub placed_at : (file : List ℕ) → Regime → (position : ℕ) → Standing
placed_at file regime position = record { file = file; regime = regime; position = position }

abbrev pub AreOf : List Standing → List Standing → Type 0
AreOf later all = (x : Standing) → IsAmong x later → IsAmong x all

abbrev pub AreAsBefore : List File → List File → Type 0
AreAsBefore files after = (name : List ℕ) → tree_at name after ≡ tree_at name files

abbrev pub OthersAre : List ℕ → List File → List File → Type 0
OthersAre file files after = (name : List ℕ) → bytes_eq name file ≡ false → tree_at name after ≡ tree_at name files

pub record IsOpenedAt (all : List Standing) (files : List File) (next : ℕ) (file : List ℕ) (regime : Regime) (later : List Standing) (after : List File) : Type 0 where
  pub fresh : next ≤ regime.number
  pub were : (x : Standing) → IsAmong x later → IsAmong x all ⊎ (x ≡ placed_at file regime 0)
  pub trees : AreAsBefore files after

pub record IsActedOn (all : List Standing) (files : List File) (next : ℕ) (file : List ℕ) (number : ℕ) (operation : Operation) (later : List Standing) (after : List File) : Type 0 where
  pub regime : Regime
  pub position : ℕ
  pub tree : FileTree
  pub outcome : Outcome
  pub is : regime.number ≡ number
  pub below : number < next
  pub stands : IsAmong (placed_at file regime position) all
  pub there : tree_at file files ≡ Some tree
  pub done : does tree position operation.act ≡ Ok outcome
  pub shown : outcome.shown ≡ operation.shown
  pub leaves : tree_at file after ≡ Some outcome.tree
  pub others : OthersAre file files after
  pub were : (x : Standing) → IsAmong x later → (IsAmong x all × (x.regime.number ≢ number)) ⊎ (x ≡ placed_at file regime outcome.position)

pub record IsCeasedAt (all : List Standing) (files : List File) (later : List Standing) (after : List File) : Type 0 where
  pub were : AreOf later all
  pub trees : AreAsBefore files after

pub record IsCreatedAt (all : List Standing) (files : List File) (file : List ℕ) (contents : FileTree) (later : List Standing) (after : List File) : Type 0 where
  pub were : AreOf later all
  pub free : (x : Standing) → IsAmong x later → x.file ≢ file
  pub none : tree_at file files ≡ None
  pub leaves : tree_at file after ≡ Some contents
  pub others : OthersAre file files after

pub record IsRenamedAt (all : List Standing) (files : List File) (old new : List ℕ) (later : List Standing) (after : List File) : Type 0 where
  pub were : AreOf later all
  pub free : bytes_eq old new ≡ false → ((x : Standing) → IsAmong x later → x.file ≢ new) × (tree_at new files ≡ None)
  pub leaves : tree_at new after ≡ tree_at old files
  pub others : (name : List ℕ) → bytes_eq name old ≡ false → bytes_eq name new ≡ false → tree_at name after ≡ tree_at name files

pub record IsDeletedAt (all : List Standing) (files : List File) (file : List ℕ) (later : List Standing) (after : List File) : Type 0 where
  pub were : AreOf later all
  pub others : OthersAre file files after

abbrev pub DoesAt : List Standing → List File → (next : ℕ) → Move → List Standing → List File → Type 0
DoesAt all files next (Opened file regime) later after = IsOpenedAt all files next file regime later after
DoesAt all files next (Acted file number operation) later after = IsActedOn all files next file number operation later after
DoesAt all files next (Ceased file number) later after = IsCeasedAt all files later after
DoesAt all files next (Created file contents) later after = IsCreatedAt all files file contents later after
DoesAt all files next (Renamed old new) later after = IsRenamedAt all files old new later after
DoesAt all files next (Deleted file) later after = IsDeletedAt all files file later after

pub data IsActing (last : List File) : List Standing → List File → ℕ → List Move → Type 0 where
  ends : (all : List Standing) (files : List File) (next : ℕ) → AreAsBefore files last → IsActing last all files next []
  goes : (all later : List Standing) (files after : List File) (next n : ℕ) (move : Move) (moves : List Move) → next ≤ n → DoesAt all files next move later after → IsActing last later after n moves
      → IsActing last all files next (move ∷ moves)

-- ---- a world in which the file stands so

pub record IsWorldOf (file : List ℕ) (world : World) (all : List Standing) (files : List File) (next : ℕ) : Type 0 where
  pub tree : tree_at file files ≡ Some world.tree
  pub places : (x : Standing) → IsAmong x all → x.file ≡ file → world.position x.regime.number ≡ x.position
  pub fresh : (number : ℕ) → next ≤ number → world.position number ≡ 0

-- it stays so where the contents do, and no regime is at another position
stays_of : (file : List ℕ) (world : World) (all later : List Standing) (files after : List File) (next n : ℕ) → next ≤ n → AreOf later all → tree_at file after ≡ tree_at file files → IsWorldOf file world all files next
    → IsWorldOf file world later after n
stays_of file world all later files after next n less were same is = record {
  tree = same ∙ is.tree;
  places = λ x there on. is.places x (were x there) on;
  fresh = λ number above. is.fresh number (omega arith);
}

pub record IsDone (last : List File) (file : List ℕ) (moves : List Move) (world : World) : Type 0 where
  pub shows : ShowsAll (schedule file moves) world
  pub leaves : IfSome (last_name file moves) (λ name. tree_at name last ≡ Some (contents_after (schedule file moves) world))

-- the same of another choice of what comes first
abbrev IsDoneBy : List File → Option (List ℕ) → List (Place Operation) → World → Type 0
IsDoneBy last name places world = ShowsAll places world × IfSome name (λ name. tree_at name last ≡ Some (contents_after places world))

done_by : (last : List File) (file : List ℕ) (moves : List Move) (world : World) → IsDone last file moves world → IsDoneBy last (last_name file moves) (schedule file moves) world
done_by last file moves world done = (done.shows, done.leaves)

is_none : {A : Type 0} (one : Option A) (x : A) → one ≡ Some x → one ≡ None → ⊥
is_none one x some none = cc

acts : (last : List File) (all : List Standing) (files : List File) (next : ℕ) (moves : List Move) → IsActing last all files next moves → (file : List ℕ) (world : World) → IsWorldOf file world all files next
    → IsDoneBy last (last_name file moves) (schedule file moves) world
acts last all files next moves (ends a f n same) file world is = (tt, same file ∙ is.tree)
acts last all files next moves (goes a later f after b n (Opened other opened) rest rises does_it acting) file world is =
    acts last later after n rest acting file world (record {
      tree = does_it.trees file ∙ is.tree;
      places = λ x there on.
          elim (does_it.were x there) [
            | inl was ↦ is.places x was on
            | inr new ↦
                ap (λ (s : Standing). world.position s.regime.number) new ∙ is.fresh opened.number does_it.fresh ∙ sym (ap (λ (s : Standing). s.position) new)
          ];
      fresh = λ number above. is.fresh number (omega arith);
    })
acts last all files next moves (goes a later f after b n (Acted other number operation) rest rises does_it acting) file world is =
    by (bytes_eq other file) refl (acts last later after n rest acting file)
  where
    done_is : other ≡ file → does world.tree (world.position number) operation.act ≡ Ok does_it.outcome
    done_is name =
        let tree : world.tree ≡ does_it.tree = some_is world.tree does_it.tree (sym is.tree ∙ sym (ap (λ name. tree_at name f) name) ∙ does_it.there) in
        let place : world.position number ≡ does_it.position
        = ap world.position (sym does_it.is) ∙ is.places (placed_at other does_it.regime does_it.position) does_it.stands name in
        (λ i. does (tree i) (place i) operation.act) ∙ does_it.done

    now : other ≡ file → IsWorldOf file (left_by world number (Ok does_it.outcome)) later after n
    now name = record {
      tree = sym (ap (λ name. tree_at name after) name) ∙ does_it.leaves;
      places = λ x there on.
          elim (does_it.were x there) [
            | inl was ↦
                (λ i. cond (ne_eqb x.regime.number number was.1 i) does_it.outcome.position (world.position x.regime.number)) ∙ is.places x was.0 on
            | inr own ↦
                let same : x.regime.number ≡ number = ap (λ (s : Standing). s.regime.number) own ∙ does_it.is in
                (λ i. cond (eq-eqb x.regime.number number same i) does_it.outcome.position (world.position x.regime.number)) ∙ sym (ap (λ (s : Standing). s.position) own)
          ];
      fresh = λ one above.
          let below = does_it.below in
          let off : nat_eq one number ≡ false = ne_eqb one number (λ same. absurd (omega arith)) in
          (λ i. cond (off i) does_it.outcome.position (world.position one)) ∙ is.fresh one (omega arith);
    }

    by : (t : Bool) → bytes_eq other file ≡ t → ((world : World) → IsWorldOf file world later after n → IsDoneBy last (last_name file rest) (schedule file rest) world)
        → IsDoneBy last (last_name file rest) (cond t (Performs number operation ∷ schedule file rest) (schedule file rest)) world
    by true same later_done =
        let name = same_name other file same in
        let then_is = later_done (step number operation world) (subst (λ answer. IsWorldOf file (left_by world number answer) later after n) (sym (done_is name)) (now name)) in
        ((subst (IsShowing operation.shown) (sym (done_is name)) does_it.shown, then_is.0), then_is.1)
    by false another later_done =
        later_done world (record {
          tree = does_it.others file (names_flip file other ∙ another) ∙ is.tree;
          places = λ x there on.
              elim (does_it.were x there) [
                | inl was ↦ is.places x was.0 on
                | inr own ↦ absurd (differ other file another (sym (ap (λ (s : Standing). s.file) own) ∙ on))
              ];
          fresh = λ one above. is.fresh one (omega arith);
        })
acts last all files next moves (goes a later f after b n (Ceased other number) rest rises does_it acting) file world is =
    by (bytes_eq other file) (acts last later after n rest acting file world (stays_of file world a later f after b n rises does_it.were (does_it.trees file) is))
  where
    by : (t : Bool) → IsDoneBy last (last_name file rest) (schedule file rest) world → IsDoneBy last (last_name file rest) (cond t (Ceases number ∷ schedule file rest) (schedule file rest)) world
    by true done = done
    by false done = done
acts last all files next moves (goes a later f after b n (Created other contents) rest rises does_it acting) file world is =
    acts last later after n rest acting file world (stays_of file world a later f after b n rises does_it.were (does_it.others file (by (bytes_eq file other) refl)) is)
  where
    by : (t : Bool) → bytes_eq file other ≡ t → t ≡ false
    by true same = absurd (is_none (tree_at file f) world.tree is.tree (ap (λ name. tree_at name f) (same_name file other same) ∙ does_it.none))
    by false another = refl
acts last all files next moves (goes a later f after b n (Renamed old new) rest rises does_it acting) file world is =
    by (bytes_eq old file) refl (acts last later after n rest acting new world) (acts last later after n rest acting file world)
  where
    by : (t : Bool) → bytes_eq old file ≡ t → (IsWorldOf new world later after n → IsDoneBy last (last_name new rest) (schedule new rest) world)
        → (IsWorldOf file world later after n → IsDoneBy last (last_name file rest) (schedule file rest) world)
        → IsDoneBy last (cond t (last_name new rest) (last_name file rest)) (cond t (schedule new rest) (schedule file rest)) world
    by true same one other =
        let name = same_name old file same in
        one (record {
          tree = does_it.leaves ∙ ap (λ name. tree_at name f) name ∙ is.tree;
          places = λ x there on. which x there on (bytes_eq old new) refl;
          fresh = λ number above. is.fresh number (omega arith);
        })
      where
        which : (x : Standing) → IsAmong x later → x.file ≡ new → (u : Bool) → bytes_eq old new ≡ u → world.position x.regime.number ≡ x.position
        which x there on true equal = is.places x (does_it.were x there) (on ∙ sym (same_name old new equal) ∙ same_name old file same)
        which x there on false apart = absurd ((does_it.free apart).0 x there on)
    by false another one other =
        other (stays_of file world a later f after b n rises does_it.were (does_it.others file (names_flip file old ∙ another) (new_other (bytes_eq file new) refl (bytes_eq old new) refl)) is)
      where
        new_other : (t : Bool) → bytes_eq file new ≡ t → (u : Bool) → bytes_eq old new ≡ u → t ≡ false
        new_other false off u equal = refl
        new_other true same true equal = absurd (differ old file another (same_name old new equal ∙ sym (same_name file new same)))
        new_other true same false apart =
            absurd (is_none (tree_at file f) world.tree is.tree (ap (λ name. tree_at name f) (same_name file new same) ∙ (does_it.free apart).1))
acts last all files next moves (goes a later f after b n (Deleted other) rest rises does_it acting) file world is =
    by (bytes_eq other file) refl (acts last later after n rest acting file world)
  where
    by : (t : Bool) → bytes_eq other file ≡ t → (IsWorldOf file world later after n → IsDoneBy last (last_name file rest) (schedule file rest) world)
        → IsDoneBy last (cond t None (last_name file rest)) (cond t [] (schedule file rest)) world
    by true same done = (tt, tt)
    by false another done = done (stays_of file world a later f after b n rises does_it.were (does_it.others file (names_flip file other ∙ another)) is)

pub is_done : (last : List File) (all : List Standing) (files : List File) (next : ℕ) (moves : List Move) → IsActing last all files next moves → (file : List ℕ) (world : World) → IsWorldOf file world all files next
    → IsDone last file moves world
is_done last all files next moves acting file world is =
    let done = acts last all files next moves acting file world is in
    record { shows = done.0; leaves = done.1 }
