-- What moves do to the regimes that stand, and that a schedule is orderly whose moves follow one another so.
use Rattle.std.proofs.Common.{◌≡◌, ◌≢◌, ℕ, ◌<◌, ◌≤◌, Bool, true, false, cond, not, ◌||◌, List, [], ◌∷◌, inl, inr, refl, ap, sym, subst, ◌∙◌, arith}
use Rattle.std.specs.Prelude.{◌⊎◌}
use Rattle.std.specs.Str.{bytes_eq}
use Rattle.std.proofs.lemmas.Bool.{and_parts}
use Rattle.vf_filestore.specs.History.{Regime}
use Rattle.vf_filestore.proofs.Filed.{name_itself, same_name}
use Rattle.vf_serial.specs.FileModel.{Apart, Operation}
use Rattle.vf_serial.specs.Isolating.{isolates}
use Rattle.vf_serial.specs.Moves.{Move, Opened, Acted, Ceased, Created, Renamed, Deleted}
use Rattle.vf_serial.specs.Schedule.{AreApart, CeasesOnce, IsApartWhileHeld, IsGone, Performs, Ceases}
use Rattle.vf_serial.specs.Uses.{all_isolate, schedule}
use Rattle.vf_serial.proofs.Among.{IsAmong}
use Rattle.vf_serial.proofs.Exclusion.{Agree, Allows, apart}

-- a regime that stands on a file
pub record Stand : Type 0 where
  pub file : List ℕ
  pub regime : Regime

-- The regimes that stand have numbers of their own, below the next one, and those of one file agree.
pub record IsCoherent (all : List Stand) (next : ℕ) : Type 0 where
  pub below : (x : Stand) → IsAmong x all → x.regime.number < next
  pub single : (x y : Stand) → IsAmong x all → IsAmong y all → x.regime.number ≡ y.regime.number → x ≡ y
  pub agreed : (x y : Stand) → IsAmong x all → IsAmong y all → x.regime.number ≢ y.regime.number → x.file ≡ y.file → Agree x.regime.controls y.regime.controls

abbrev pub at : List ℕ → Regime → Stand
at file regime = record { file = file; regime = regime }

abbrev pub AreThere : List Stand → List Stand → Type 0
AreThere all later = (x : Stand) → IsAmong x all → IsAmong x later

pub record AreSame (all later : List Stand) : Type 0 where
  pub stay : AreThere all later
  pub were : AreThere later all

abbrev pub IsFree : List ℕ → List Stand → Type 0
IsFree file all = (x : Stand) → IsAmong x all → x.file ≢ file

-- ---- what each move does

pub record IsOpened (all : List Stand) (next : ℕ) (file : List ℕ) (regime : Regime) (later : List Stand) : Type 0 where
  pub fresh : next ≤ regime.number
  pub stay : AreThere all later
  pub were : (x : Stand) → IsAmong x later → IsAmong x all ⊎ (x ≡ at file regime)

pub record IsActed (all : List Stand) (file : List ℕ) (number : ℕ) (operation : Operation) (later : List Stand) : Type 0 where
  pub regime : Regime
  pub is : regime.number ≡ number
  pub stands : IsAmong (at file regime) all
  pub allowed : Allows regime operation
  pub same : AreSame all later

pub record IsCeased (all : List Stand) (file : List ℕ) (number : ℕ) (later : List Stand) : Type 0 where
  pub regime : Regime
  pub is : regime.number ≡ number
  pub stands : IsAmong (at file regime) all
  pub stay : (x : Stand) → IsAmong x all → x.regime.number ≢ number → IsAmong x later
  pub were : AreThere later all
  pub gone : (x : Stand) → IsAmong x later → x.regime.number ≢ number

pub record IsCreated (all : List Stand) (file : List ℕ) (later : List Stand) : Type 0 where
  pub free : IsFree file all
  pub same : AreSame all later

pub record IsRenamed (all : List Stand) (old new : List ℕ) (later : List Stand) : Type 0 where
  pub free : bytes_eq old new ≡ false → IsFree old all × IsFree new all
  pub same : AreSame all later

abbrev pub Does : List Stand → (next : ℕ) → Move → List Stand → Type 0
Does all next (Opened file regime) later = IsOpened all next file regime later
Does all next (Acted file number operation) later = IsActed all file number operation later
Does all next (Ceased file number) later = IsCeased all file number later
Does all next (Created file contents) later = IsCreated all file later
Does all next (Renamed old new) later = IsRenamed all old new later
Does all next (Deleted file) later = AreSame all later

pub data IsLed : List Stand → ℕ → List Move → Type 0 where
  ends : (all : List Stand) (next : ℕ) → IsLed all next []
  goes : (all later : List Stand) (next n : ℕ) (move : Move) (moves : List Move) → IsCoherent all next → next ≤ n → Does all next move later → IsLed later n moves → IsLed all next (move ∷ moves)

-- ---- names

pub differ : (a b : List ℕ) → bytes_eq a b ≡ false → a ≢ b
differ a b is same = let itself = name_itself b in let one : bytes_eq a b ≡ bytes_eq b b = ap (λ name. bytes_eq name b) same in absurd cc

-- ---- a regime that doesn't stand comes no more

gone : (file : List ℕ) (number : ℕ) (all : List Stand) (next : ℕ) (moves : List Move) → IsLed all next moves → number < next → ((x : Stand) → IsAmong x all → x.regime.number ≢ number) → IsGone number (schedule file moves)
gone file number all next moves (ends a b) less none = tt
gone file number all next moves (goes a later b n (Opened other regime) rest coherent rises does led) less none =
    gone file number later n rest led (omega arith)
    (λ x is. elim (does.were x is) [ inl was ↦ none x was | inr new ↦ (λ same. let one : regime.number ≡ number = sym (ap (λ (s : Stand). s.regime.number) new) ∙ same in let fresh = does.fresh in absurd (omega arith)) ])
gone file number all next moves (goes a later b n (Acted other regime operation) rest coherent rises does led) less none =
    by (bytes_eq other file) (gone file number later n rest led (omega arith) (λ x is. none x (does.same.were x is)))
  where
    by : (t : Bool) → IsGone number (schedule file rest) → IsGone number (cond t (Performs regime operation ∷ schedule file rest) (schedule file rest))
    by true later_gone = (λ same. none (at other does.regime) does.stands (does.is ∙ same), later_gone)
    by false later_gone = later_gone
gone file number all next moves (goes a later b n (Ceased other regime) rest coherent rises does led) less none =
    by (bytes_eq other file) (gone file number later n rest led (omega arith) (λ x is. none x (does.were x is)))
  where
    by : (t : Bool) → IsGone number (schedule file rest) → IsGone number (cond t (Ceases regime ∷ schedule file rest) (schedule file rest))
    by true later_gone = (λ same. none (at other does.regime) does.stands (does.is ∙ same), later_gone)
    by false later_gone = later_gone
gone file number all next moves (goes a later b n (Created other contents) rest coherent rises does led) less none =
    gone file number later n rest led (omega arith) (λ x is. none x (does.same.were x is))
gone file number all next moves (goes a later b n (Renamed old new) rest coherent rises does led) less none =
    by (bytes_eq old file) (gone new number later n rest led (omega arith) (λ x is. none x (does.same.were x is)))
    (gone file number later n rest led (omega arith) (λ x is. none x (does.same.were x is)))
  where
    by : (t : Bool) → IsGone number (schedule new rest) → IsGone number (schedule file rest) → IsGone number (cond t (schedule new rest) (schedule file rest))
    by true one other = one
    by false one other = other
gone file number all next moves (goes a later b n (Deleted other) rest coherent rises does led) less none =
    by (bytes_eq other file) (gone file number later n rest led (omega arith) (λ x is. none x (does.were x is)))
  where
    by : (t : Bool) → IsGone number (schedule file rest) → IsGone number (cond t [] (schedule file rest))
    by true one = tt
    by false one = one

-- ---- all who stand on a file isolate

abbrev pub AllIsolate : List ℕ → List Stand → Type 0
AllIsolate file all = (x : Stand) → IsAmong x all → x.file ≡ file → isolates x.regime ≡ true

-- it stays so where a regime is opened that isolates
isolate_opened : (file other : List ℕ) (regime : Regime) (all later : List Stand) (rest : List Move) → AllIsolate file all → ((x : Stand) → IsAmong x later → IsAmong x all ⊎ (x ≡ at other regime))
    → all_isolate file (Opened other regime ∷ rest) ≡ true → AllIsolate file later × (all_isolate file rest ≡ true)
isolate_opened file other regime all later rest isolated were is =
    let parts = and_parts (not (bytes_eq other file) || isolates regime) (all_isolate file rest) is in (
      λ x there on.
          elim (were x there) [
            | inl was ↦ isolated x was on
            | inr new ↦
                let same : other ≡ file = sym (ap (λ (s : Stand). s.file) new) ∙ on in
                let equal : bytes_eq other file ≡ true = subst (λ name. bytes_eq other name ≡ true) same (name_itself other) in
                let own : isolates regime ≡ true = sym (ap (λ b. not b || isolates regime) equal) ∙ parts.0 in
                ap (λ (s : Stand). isolates s.regime) new ∙ own
          ],
      parts.1,
    )

-- where a file has another name, nobody has opened it
isolate_renamed : (old new : List ℕ) (all later : List Stand) → AllIsolate old all → IsRenamed all old new later → AllIsolate new later
isolate_renamed old new all later isolated does = by (bytes_eq old new) refl
  where
    by : (t : Bool) → bytes_eq old new ≡ t → AllIsolate new later
    by true is = λ x there on. isolated x (does.same.were x there) (on ∙ sym (same_name old new is))
    by false is = λ x there on. absurd ((does.free is).1 x (does.same.were x there) on)

-- ---- an operation is apart from those of others while its regime holds

held : (file : List ℕ) (all : List Stand) (next : ℕ) (moves : List Move) → IsLed all next moves → (regime : Regime) (operation : Operation) → IsAmong (at file regime) all → Allows regime operation
    → AllIsolate file all → all_isolate file moves ≡ true → IsApartWhileHeld Apart regime.number operation (schedule file moves)
held file all next moves (ends a b) regime operation there allows isolated isolate = tt
held file all next moves (goes a later b n (Opened other opened) rest coherent rises does led) regime operation there allows isolated isolate =
    let stays = isolate_opened file other opened a later rest isolated does.were isolate in
    held file later n rest led regime operation (does.stay (at file regime) there) allows stays.0 stays.1
held file all next moves (goes a later b n (Acted other number next_one) rest coherent rises does led) regime operation there allows isolated isolate =
    by (bytes_eq other file) refl (held file later n rest led regime operation (does.same.stay (at file regime) there) allows (λ x is on. isolated x (does.same.were x is) on) isolate)
  where
    by : (t : Bool) → bytes_eq other file ≡ t → IsApartWhileHeld Apart regime.number operation (schedule file rest)
        → IsApartWhileHeld Apart regime.number operation (cond t (Performs number next_one ∷ schedule file rest) (schedule file rest))
    by true is later_apart = (
      λ other_one.
          let name = same_name other file is in
          let apart_number : regime.number ≢ does.regime.number = λ same. other_one (sym does.is ∙ sym same) in
          apart regime does.regime operation next_one (isolated (at file regime) there refl) (isolated (at other does.regime) does.stands name)
          (coherent.agreed (at file regime) (at other does.regime) there does.stands apart_number (sym name)) allows does.allowed,
      later_apart,
    )
    by false is later_apart = later_apart
held file all next moves (goes a later b n (Ceased other number) rest coherent rises does led) regime operation there allows isolated isolate =
    by (bytes_eq other file) refl (λ stays. held file later n rest led regime operation (does.stay (at file regime) there stays) allows (λ x is on. isolated x (does.were x is) on) isolate)
  where
    by : (t : Bool) → bytes_eq other file ≡ t → (regime.number ≢ number → IsApartWhileHeld Apart regime.number operation (schedule file rest))
        → IsApartWhileHeld Apart regime.number operation (cond t (Ceases number ∷ schedule file rest) (schedule file rest))
    by true is later_apart = λ other_one. later_apart (λ same. other_one (sym same))
    by false is later_apart =
        later_apart (λ same. differ other file is (sym (ap (λ (s : Stand). s.file) (coherent.single (at file regime) (at other does.regime) there does.stands (same ∙ sym does.is)))))
held file all next moves (goes a later b n (Created other contents) rest coherent rises does led) regime operation there allows isolated isolate =
    held file later n rest led regime operation (does.same.stay (at file regime) there) allows (λ x is on. isolated x (does.same.were x is) on) isolate
held file all next moves (goes a later b n (Renamed old new) rest coherent rises does led) regime operation there allows isolated isolate =
    by (bytes_eq old file) refl isolate (held new later n rest led regime operation) (held file later n rest led regime operation)
  where
    there_later : IsAmong (at file regime) later
    there_later = does.same.stay (at file regime) there

    by : (t : Bool) → bytes_eq old file ≡ t → cond t (all_isolate new rest) (all_isolate file rest) ≡ true
        → (IsAmong (at new regime) later → Allows regime operation → AllIsolate new later → all_isolate new rest ≡ true → IsApartWhileHeld Apart regime.number operation (schedule new rest))
        → (IsAmong (at file regime) later → Allows regime operation → AllIsolate file later → all_isolate file rest ≡ true → IsApartWhileHeld Apart regime.number operation (schedule file rest))
        → IsApartWhileHeld Apart regime.number operation (cond t (schedule new rest) (schedule file rest))
    by true is isolate_rest one other = which (bytes_eq old new) refl
      where
        name : old ≡ file
        name = same_name old file is

        which : (u : Bool) → bytes_eq old new ≡ u → IsApartWhileHeld Apart regime.number operation (schedule new rest)
        which true same =
            let to_new : file ≡ new = sym name ∙ same_name old new same in
            one (subst (λ f. IsAmong (at f regime) later) to_new there_later) allows
            (isolate_renamed old new a later (subst (λ f. AllIsolate f a) (sym name) isolated) does) isolate_rest
        which false another = absurd ((does.free another).0 (at file regime) there (sym name))
    by false is isolate_rest one other = other there_later allows (λ x there_x on. isolated x (does.same.were x there_x) on) isolate_rest
held file all next moves (goes a later b n (Deleted other) rest coherent rises does led) regime operation there allows isolated isolate =
    by (bytes_eq other file) isolate (held file later n rest led regime operation (does.stay (at file regime) there) allows (λ x is on. isolated x (does.were x is) on))
  where
    by : (t : Bool) → cond t true (all_isolate file rest) ≡ true → (all_isolate file rest ≡ true → IsApartWhileHeld Apart regime.number operation (schedule file rest))
        → IsApartWhileHeld Apart regime.number operation (cond t [] (schedule file rest))
    by true is one = tt
    by false is one = one is

-- ---- so its schedule is orderly

pub record IsInOrder (file : List ℕ) (moves : List Move) : Type 0 where
  pub once : CeasesOnce (schedule file moves)
  pub apart : AreApart Apart (schedule file moves)

pub in_order : (file : List ℕ) (all : List Stand) (next : ℕ) (moves : List Move) → IsLed all next moves → AllIsolate file all → all_isolate file moves ≡ true → IsInOrder file moves
in_order file all next moves (ends a b) isolated isolate = record { once = tt; apart = tt }
in_order file all next moves (goes a later b n (Opened other opened) rest coherent rises does led) isolated isolate =
    let stays = isolate_opened file other opened a later rest isolated does.were isolate in
    let is = in_order file later n rest led stays.0 stays.1 in
    record { once = is.once; apart = is.apart }
in_order file all next moves (goes a later b n (Acted other number operation) rest coherent rises does led) isolated isolate =
    by (bytes_eq other file) refl (in_order file later n rest led (λ x is on. isolated x (does.same.were x is) on) isolate)
  where
    held_on : other ≡ file → IsApartWhileHeld Apart number operation (schedule file rest)
    held_on name =
        subst (λ r. IsApartWhileHeld Apart r operation (schedule file rest)) does.is
        (held file later n rest led does.regime operation (does.same.stay (at file does.regime) (subst (λ f. IsAmong (at f does.regime) a) name does.stands)) does.allowed
        (λ x is on. isolated x (does.same.were x is) on) isolate)

    by : (t : Bool) → bytes_eq other file ≡ t → IsInOrder file rest → IsInOrder file (Acted other number operation ∷ rest)
    by true is order = record {
      once = subst (λ b. CeasesOnce (cond b (Performs number operation ∷ schedule file rest) (schedule file rest))) (sym is) order.once;
      apart = subst (λ b. AreApart Apart (cond b (Performs number operation ∷ schedule file rest) (schedule file rest))) (sym is) (held_on (same_name other file is), order.apart);
    }
    by false is order = record {
      once = subst (λ b. CeasesOnce (cond b (Performs number operation ∷ schedule file rest) (schedule file rest))) (sym is) order.once;
      apart = subst (λ b. AreApart Apart (cond b (Performs number operation ∷ schedule file rest) (schedule file rest))) (sym is) order.apart;
    }
in_order file all next moves (goes a later b n (Ceased other number) rest coherent rises does led) isolated isolate =
    by (bytes_eq other file) refl (in_order file later n rest led (λ x is on. isolated x (does.were x is) on) isolate)
  where
    less : number < n
    less = let below = coherent.below (at other does.regime) does.stands in let same = does.is in omega arith

    by : (t : Bool) → bytes_eq other file ≡ t → IsInOrder file rest → IsInOrder file (Ceased other number ∷ rest)
    by true is order = record {
      once = subst (λ b. CeasesOnce (cond b (Ceases number ∷ schedule file rest) (schedule file rest))) (sym is) (gone file number later n rest led less does.gone, order.once);
      apart = subst (λ b. AreApart Apart (cond b (Ceases number ∷ schedule file rest) (schedule file rest))) (sym is) order.apart;
    }
    by false is order = record {
      once = subst (λ b. CeasesOnce (cond b (Ceases number ∷ schedule file rest) (schedule file rest))) (sym is) order.once;
      apart = subst (λ b. AreApart Apart (cond b (Ceases number ∷ schedule file rest) (schedule file rest))) (sym is) order.apart;
    }
in_order file all next moves (goes a later b n (Created other contents) rest coherent rises does led) isolated isolate =
    let is = in_order file later n rest led (λ x is on. isolated x (does.same.were x is) on) isolate in
    record { once = is.once; apart = is.apart }
in_order file all next moves (goes a later b n (Renamed old new) rest coherent rises does led) isolated isolate =
    by (bytes_eq old file) refl isolate (in_order new later n rest led) (in_order file later n rest led)
  where
    by : (t : Bool) → bytes_eq old file ≡ t → cond t (all_isolate new rest) (all_isolate file rest) ≡ true
        → (AllIsolate new later → all_isolate new rest ≡ true → IsInOrder new rest) → (AllIsolate file later → all_isolate file rest ≡ true → IsInOrder file rest)
        → IsInOrder file (Renamed old new ∷ rest)
    by true is isolate_rest one other =
        let order = one (isolate_renamed old new a later (subst (λ f. AllIsolate f a) (sym (same_name old file is)) isolated) does) isolate_rest in
        record {
          once = subst (λ b. CeasesOnce (cond b (schedule new rest) (schedule file rest))) (sym is) order.once;
          apart = subst (λ b. AreApart Apart (cond b (schedule new rest) (schedule file rest))) (sym is) order.apart;
        }
    by false is isolate_rest one other =
        let order = other (λ x there on. isolated x (does.same.were x there) on) isolate_rest in
        record {
          once = subst (λ b. CeasesOnce (cond b (schedule new rest) (schedule file rest))) (sym is) order.once;
          apart = subst (λ b. AreApart Apart (cond b (schedule new rest) (schedule file rest))) (sym is) order.apart;
        }
in_order file all next moves (goes a later b n (Deleted other) rest coherent rises does led) isolated isolate =
    by (bytes_eq other file) refl isolate (in_order file later n rest led (λ x is on. isolated x (does.were x is) on))
  where
    by : (t : Bool) → bytes_eq other file ≡ t → cond t true (all_isolate file rest) ≡ true → (all_isolate file rest ≡ true → IsInOrder file rest) → IsInOrder file (Deleted other ∷ rest)
    by true is isolate_rest order = record {
      once = subst (λ b. CeasesOnce (cond b [] (schedule file rest))) (sym is) tt;
      apart = subst (λ b. AreApart Apart (cond b [] (schedule file rest))) (sym is) tt;
    }
    by false is isolate_rest order =
        let rest_order = order isolate_rest in
        record {
          once = subst (λ b. CeasesOnce (cond b [] (schedule file rest))) (sym is) rest_order.once;
          apart = subst (λ b. AreApart Apart (cond b [] (schedule file rest))) (sym is) rest_order.apart;
        }
