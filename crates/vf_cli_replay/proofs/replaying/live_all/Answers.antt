use Rattle.std.proofs.Common.{◌≡◌, ◌∙◌, ◌+◌, ◌<◌, ◌++◌, ℕ, List, [], ◌∷◌, get_or, length, take, ap, subst, sym}
use Rattle.std.proofs.lemmas.List.{take_all, take_more}
use Rattle.vf_cli_script.specs.declared.script.Life.{Life}
use Rattle.vf_incarnations.specs.Incarnations.{after_all}
use Rattle.vf_cli_replay.proofs.InARow.{none_lived, one_lived}
use Rattle.vf_cli_replay.specs.Living.{episodes_of}
use Rattle.vf_cli_replay.specs.Standing.{HaveLived, image_after}
use Rattle.vf_cli_replay.proofs.replaying.live_all.Goals as goal

-- one life more, as the loop counts them
next_is : (lives : List Life) (place : ℕ) (life : Life) → place < length lives → life ≡ get_or lives place life → take (place + 1) lives ≡ take place lives ++ life ∷ []
next_is lives place life within is = take_more lives place life within ∙ ap (λ (l : Life). take place lives ++ l ∷ []) (sym is)

pub loop-life-init : goal.loop-life-init
loop-life-init c = λ image state keeps. none_lived image state c.args.text.now.items c.args.disk keeps

pub loop-life-preserved : goal.loop-life-preserved
loop-life-preserved c = λ image state keeps.
    let lives = c.args.lives.now in
    let place : ℕ = c.loop-life.life-index in
    let life = c.life-item.result in
    let text = c.args.text.now.items in
    let have = c.loop-life.invariant image state keeps in
    let left = c.in_ok-left.left in
    let has = c.in_ok-left.ensures (image_after image have.all) (after_all (episodes_of have.all) state) have.keeps in
    subst (λ (l : List Life). HaveLived image state l text left c.live.new.text.items) (sym (next_is lives place life c.loop-life-test.true c.life-item.is))
    (one_lived image state (take place lives) life text c.loop-life.text.items c.live.new.text.items c.loop-life.disk left have has)

pub returns : goal.returns
returns c = λ image state keeps.
    subst (λ (l : List Life). HaveLived image state l c.args.text.now.items c.loop-life.disk c.loop-life.text.items) (take_all c.loop-life.life-index c.args.lives.now c.loop-life-test.false)
    (c.loop-life.invariant image state keeps)
