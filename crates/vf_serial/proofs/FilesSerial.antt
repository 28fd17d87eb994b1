-- Readings change places, since each looks at the contents and at the position of its own regime alone.
use Rattle.std.proofs.Common.{◌≡◌, ◌≢◌, ℕ, Bool, true, false, cond, nat_eq, Result, Ok, Err, refl, ap, sym, subst, ◌∙◌, ne_eqb, eqb-true}
use Rattle.vf_tree.specs.Actions.{Outcome}
use Rattle.vf_tree.specs.Acts.{Act, Locates, Reads, Inserts, Replaces, Extends, Erases, does, moves, shows as shows_of}
use Rattle.vf_tree.specs.Contexts.{shown}
use Rattle.vf_tree.specs.FileTree.{FileTree}
use Rattle.vf_tree.specs.Identities.{locate}
use Rattle.vf_tree.specs.TreeRefusal.{TreeRefusal}
use Rattle.vf_serial.specs.FileModel.{Apart, FilesAreSerial, IsShowing, Operation, Shows, World, is_reading, left_by, placed, step}
use Rattle.vf_serial.specs.Schedule.{Commute, ShowAlike}
use Rattle.vf_serial.proofs.Grouped.{leaves, shows}
use mathlib.Core.Path.{fun_ext}

-- a reading leaves the contents
abbrev pub Stays : FileTree → Result Outcome TreeRefusal → Type 0
Stays tree (Ok outcome) = outcome.tree ≡ tree
Stays tree (Err refusal) = Unit {0}

pub reading_stays : (tree : FileTree) (position : ℕ) (act : Act) → is_reading act ≡ true → Stays tree (does tree position act)
reading_stays tree position (Locates id) is = by (locate tree position id)
  where
    by : (found : Result ℕ TreeRefusal) → Stays tree (moves tree found)
    by (Ok at) = refl
    by (Err refusal) = tt
reading_stays tree position (Reads id context) is = by (shown tree position id context)
  where
    by : (found : _) → Stays tree (shows_of tree found)
    by (Ok answer) = refl
    by (Err refusal) = tt
reading_stays tree position (Inserts id units) is = absurd cc
reading_stays tree position (Replaces id unit) is = absurd cc
reading_stays tree position (Extends id unit) is = absurd cc
reading_stays tree position (Erases id) is = absurd cc

-- ---- so its step moves a position alone

positions : ℕ → Result Outcome TreeRefusal → (ℕ → ℕ) → ℕ → ℕ
positions a (Ok outcome) before = placed a outcome.position before
positions a (Err refusal) before = before

moved : World → ℕ → Result Outcome TreeRefusal → World
moved world a answer = record { tree = world.tree; position = positions a answer world.position }

left_moved : (world : World) (a : ℕ) (answer : Result Outcome TreeRefusal) → Stays world.tree answer → left_by world a answer ≡ moved world a answer
unfolding positions moved
left_moved world a (Ok outcome) stays = λ i. record { tree = stays i; position = placed a outcome.position world.position }
left_moved world a (Err refusal) stays = refl

kept : (a b : ℕ) (answer : Result Outcome TreeRefusal) (before : ℕ → ℕ) → nat_eq b a ≡ false → positions a answer before b ≡ before b
unfolding positions
kept a b (Ok outcome) before is = λ i. cond (is i) outcome.position (before b)
kept a b (Err refusal) before is = refl

step_moves : (world : World) (a : ℕ) (operation : Operation) → is_reading operation.act ≡ true → step a operation world ≡ moved world a (does world.tree (world.position a) operation.act)
step_moves world a operation is =
    left_moved world a (does world.tree (world.position a) operation.act) (reading_stays world.tree (world.position a) operation.act is)

then_moves : (world : World) (a b : ℕ) (answer : Result Outcome TreeRefusal) (operation : Operation) → nat_eq b a ≡ false → is_reading operation.act ≡ true
    → step b operation (moved world a answer) ≡ moved (moved world a answer) b (does world.tree (world.position b) operation.act)
unfolding moved
then_moves world a b answer operation differ is =
    step_moves (moved world a answer) b operation is
    ∙ ap (λ position. moved (moved world a answer) b (does world.tree position operation.act)) (kept a b answer world.position differ)

places : (a b : ℕ) (one other : Result Outcome TreeRefusal) (before : ℕ → ℕ) → b ≢ a → positions b other (positions a one before) ≡ positions a one (positions b other before)
unfolding positions
places a b (Err refusal) other before differ = refl
places a b (Ok outcome) (Err refusal) before differ = refl
places a b (Ok one) (Ok other) before differ = fun_ext (λ r. by r (nat_eq r b) refl (nat_eq r a) refl)
  where
    by : (r : ℕ) (t : Bool) → nat_eq r b ≡ t → (u : Bool) → nat_eq r a ≡ u → cond t other.position (cond u one.position (before r)) ≡ cond u one.position (cond t other.position (before r))
    by r true is true too = absurd (differ (sym (eqb-true r b is) ∙ eqb-true r a too))
    by r true is false too = refl
    by r false is u too = refl

commute : Commute step Apart
unfolding moved
commute one other first second world differ apart =
    let a = does world.tree (world.position one) first.act in
    let b = does world.tree (world.position other) second.act in
    ap (step other second) (step_moves world one first apart.0)
    ∙ then_moves world one other a second (ne_eqb other one differ) apart.1
    ∙ (λ i. record { tree = world.tree; position = places one other a b world.position differ i })
    ∙ sym (then_moves world other one b first (ne_eqb one other (λ e. differ (sym e))) apart.0)
    ∙ ap (step one first) (sym (step_moves world other second apart.1))

alike : ShowAlike step Shows Apart
unfolding moved
alike one other first second world differ apart =
    let a = does world.tree (world.position one) first.act in
    let b = does world.tree (world.position other) second.act in (
      λ showing.
          subst (Shows one first) (sym (step_moves world other second apart.1))
          (subst (λ position. IsShowing first.shown (does world.tree position first.act)) (sym (kept other one b world.position (ne_eqb one other (λ e. differ (sym e))))) showing),
      λ showing.
          subst (λ position. IsShowing second.shown (does world.tree position second.act)) (kept one other a world.position (ne_eqb other one differ))
          (subst (Shows other second) (step_moves world one first apart.0) showing),
    )

pub files_serial : FilesAreSerial
files_serial schedule world once apart all = record {
  leaves = ap (λ (left : World). left.tree) (leaves step Apart commute schedule world once apart);
  shows = shows step Shows Apart commute alike schedule world once apart all;
}
