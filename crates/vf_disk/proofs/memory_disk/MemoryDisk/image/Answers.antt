use Rattle.std.proofs.Common.{◌≡◌, true, take, drop, rules}
use Rattle.std.specs.Prelude.{fold}
use Rattle.std.specs.List.{list_all}
use Rattle.vf_disk.specs.Memory.{is_change}
use Rattle.vf_disk.specs.State.{settled, state_of}
use Rattle.vf_disk.specs.Replay.{make, mark}
use Rattle.vf_disk.proofs.Forms.{lost, kept, marked}
use Rattle.vf_disk.proofs.memory_disk.MemoryDisk.image.Goals as goal

pub returns-in_ok-make_all-in-Keep : goal.returns-in_ok-make_all-in-Keep
returns-in_ok-make_all-in-Keep c =
    let first = c.self.inside.first in
    let steps = c.self.inside.steps.items in
    let count = c.last_sync.result in
    let base : c.in_ok-image.image.items ≡ (state_of first (take count steps)).shown = search rules in
    let rests : state_of first (take count steps) ≡ settled (state_of first (take count steps)).shown = rw c.as_slice-steps.ensures.value at (c.last_sync.ensures.base first) in
    let changes : list_all is_change (drop count steps) ≡ true = rw c.as_slice-steps.ensures.value at c.last_sync.ensures.changes in
    let made : c.make_all.new.image.items ≡ fold make c.in_ok-image.image.items (drop count steps) = search rules in
    rw (← c.self.view_is, c.in-Keep.is) (kept first steps count c.in_ok-image.image.items base rests changes c.make_all.new.image.items made)

pub returns-in-Lose : goal.returns-in-Lose
returns-in-Lose c =
    let first = c.self.inside.first in
    let steps = c.self.inside.steps.items in
    let count = c.last_sync.result in
    let base : c.in_ok-image.image.items ≡ (state_of first (take count steps)).shown = search rules in
    let rests : state_of first (take count steps) ≡ settled (state_of first (take count steps)).shown = rw c.as_slice-steps.ensures.value at (c.last_sync.ensures.base first) in
    let changes : list_all is_change (drop count steps) ≡ true = rw c.as_slice-steps.ensures.value at c.last_sync.ensures.changes in
    rw (← c.self.view_is, c.in-Lose.is) (lost first steps count c.in_ok-image.image.items base rests changes)

pub returns-in_ok-make_all-in-Fill : goal.returns-in_ok-make_all-in-Fill
returns-in_ok-make_all-in-Fill c =
    let first = c.self.inside.first in
    let steps = c.self.inside.steps.items in
    let count = c.last_sync.result in
    let base : c.in_ok-image.image.items ≡ (state_of first (take count steps)).shown = search rules in
    let rests : state_of first (take count steps) ≡ settled (state_of first (take count steps)).shown = rw c.as_slice-steps.ensures.value at (c.last_sync.ensures.base first) in
    let changes : list_all is_change (drop count steps) ≡ true = rw c.as_slice-steps.ensures.value at c.last_sync.ensures.changes in
    let made : c.make_all-in-Fill.new.image.items ≡ fold make c.in_ok-image.image.items (drop count steps) = search rules in
    let ends : c.mark_all.new.image.items ≡ fold (mark c.in-Fill.octet) c.make_all-in-Fill.new.image.items (drop count steps) = search rules in
    rw (← c.self.view_is, c.in-Fill.is) (marked first steps count c.in_ok-image.image.items base rests changes c.in-Fill.octet c.make_all-in-Fill.new.image.items c.mark_all.new.image.items made ends)
