-- Lives one after another.
use Rattle.std.proofs.Common.{◌≡◌, ◌∙◌, ℕ, List, [], ◌∷◌, ◌++◌, Some, ap, append_assoc, append-nil, refl, sym, subst}
use Rattle.vf_cli_script.specs.declared.script.Life.{Life}
use Rattle.vf_disk.specs.Disk.{LeavesShown}
use Rattle.vf_disk.specs.Memory.{Memory, fresh, state as state_of}
use Rattle.vf_disk.specs.State.{left_by as left_in}
use Rattle.vf_filestore.specs.State.{State}
use Rattle.vf_incarnations.proofs.Lives.{incarnations_are_runs}
use Rattle.vf_incarnations.specs.Incarnations.{after_all, left_by}
use Rattle.vf_cli_replay.specs.Calls.{form_by}
use Rattle.vf_cli_replay.specs.Living.{LiveOn, Lived, Lives, episodes_of, lines_of}
use Rattle.vf_cli_replay.specs.Disks.{Keeps, may_leave}
use Rattle.vf_cli_replay.specs.Standing.{HasLived, HaveLived, LivesOn, image_after}

-- ---- A CRASH leaves what the next life begins with.
fresh_first : (disk : Memory) (octets : List ℕ) → disk ≡ fresh octets [] → disk ≡ fresh disk.first []
fresh_first disk octets is = is ∙ ap (λ (o : List ℕ). fresh o []) (sym (ap (λ (d : Memory). d.first) is))

pub crash_leaves : (life : Life) (image : List ℕ) (state : State) (text text' : List ℕ) (begun end left : Memory) → Keeps begun image state → LivesOn life image state text end text' → end.lacks ≡ 0
    → left ≡ fresh (left_in (form_by life.stop) (state_of end)) [] → may_leave end left.first → LeavesShown (Some left.first) (may_leave left) → HasLived life image state text left text'
crash_leaves life image state text text' begun end left keeps lives memory is may synced =
    let it = lives.each left.first memory may (ap (λ (d : Memory). d.first) is) in
    record {
      lived = it.lived;
      lives = it.lives;
      lines = it.lines;
      keeps = record {
        disk_is = fresh_first left (left_in (form_by life.stop) (state_of end)) is ∙ ap (λ (o : List ℕ). fresh o []) (sym it.leaves);
        synced = subst (λ (o : List ℕ). LeavesShown (Some o) (may_leave left)) (sym it.leaves) synced;
        represents = it.lives.represents;
        begins = (incarnations_are_runs it.lived.incarnation state keeps.begins).begins;
      };
    }

-- ---- ONE LIFE MORE
live_last : (image : List ℕ) (state : State) (lives : List Life) (all : List Lived) (life : Life) (one : Lived) → LiveOn image state lives all
    → Lives life (image_after image all) (after_all (episodes_of all) state) one → LiveOn image state (lives ++ life ∷ []) (all ++ one ∷ [])
live_last image state [] all life one is last =
    (subst (λ (a : List Lived). Lives life (image_after image a) (after_all (episodes_of a) state) one → LiveOn image state (life ∷ []) (a ++ one ∷ [])) (sym is)
    (λ (l : Lives life image state one). (one, [], (l, refl, refl)))) last
live_last image state (first ∷ lives) all life one on last =
    let a = on.0 in
    let others = on.1 in
    let then = left_by a.incarnation state in
    (subst (λ (x : List Lived). Lives life (image_after image x) (after_all (episodes_of x) state) one → LiveOn image state (first ∷ lives ++ life ∷ []) (x ++ one ∷ [])) (sym on.2.2)
    (λ (l : Lives life (image_after a.left others) (after_all (episodes_of others) then) one). (a, others ++ one ∷ [], (on.2.0, live_last a.left then lives others life one on.2.1 l, refl)))) last

after_last : (all : List Lived) (one : Lived) (state : State) → after_all (episodes_of (all ++ one ∷ [])) state ≡ left_by one.incarnation (after_all (episodes_of all) state)
after_last [] one state = refl
after_last (first ∷ all) one state = after_last all one (left_by first.incarnation state)

image_last : (all : List Lived) (one : Lived) (image : List ℕ) → image_after image (all ++ one ∷ []) ≡ one.left
image_last [] one image = refl
image_last (first ∷ all) one image = image_last all one first.left

lines_last : (all : List Lived) (one : Lived) → lines_of (all ++ one ∷ []) ≡ lines_of all ++ one.lines
lines_last [] one = append-nil one.lines
lines_last (first ∷ all) one = ap (λ (l : List ℕ). first.lines ++ l) (lines_last all one) ∙ sym (append_assoc first.lines (lines_of all) one.lines)

pub none_lived : (image : List ℕ) (state : State) (text : List ℕ) (disk : Memory) → Keeps disk image state → HaveLived image state [] text disk text
none_lived image state text disk keeps = record { all = []; live = refl; lines = sym (append-nil text); keeps = keeps }

pub one_lived : (image : List ℕ) (state : State) (lives : List Life) (life : Life) (text text' text'' : List ℕ) (disk left : Memory) → (have : HaveLived image state lives text disk text')
    → HasLived life (image_after image have.all) (after_all (episodes_of have.all) state) text' left text'' → HaveLived image state (lives ++ life ∷ []) text left text''
one_lived image state lives life text text' text'' disk left have has = record {
  all = have.all ++ has.lived ∷ [];
  live = live_last image state lives have.all life has.lived have.live has.lives;
  lines =
      has.lines ∙ ap (λ (t : List ℕ). t ++ has.lived.lines) have.lines ∙ append_assoc text (lines_of have.all) has.lived.lines
      ∙ ap (λ (l : List ℕ). text ++ l) (sym (lines_last have.all has.lived));
  keeps =
      subst (λ (s : State). Keeps left (image_after image (have.all ++ has.lived ∷ [])) s) (sym (after_last have.all has.lived state))
      (subst (λ (o : List ℕ). Keeps left o (left_by has.lived.incarnation (after_all (episodes_of have.all) state))) (sym (image_last have.all has.lived image)) has.keeps);
}
