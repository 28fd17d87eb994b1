use Rattle.std.proofs.Common.{◌≡◌, ◌∙◌, true, false, ap, refl, sym}
use Rattle.vf_disk.specs.declared.step.Step.TheVariants.{Synced}
use Rattle.vf_disk.specs.Memory.{is_settled, with_sync}
use Rattle.vf_disk.proofs.Calls.{sync_durable, sync_within}
use Rattle.vf_disk.proofs.Elapse.{goes_on}
use Rattle.vf_disk.proofs.Noted.{sync_made}
use Rattle.vf_disk.proofs.Settled.{settled_leaves}
use Rattle.vf_disk.proofs.memory_disk.MemoryDiskDisk.sync.Goals as goal

pub returns-then-not-is_settled-clause-durable : goal.returns-then-not-is_settled-clause-durable
returns-then-not-is_settled-clause-durable c =
    sync_durable c.self.inside.first c.self.inside.steps.items c.push_reserved.new.self.items c.push_reserved.ensures.items

pub returns-then-not-is_settled-clause-crash : goal.returns-then-not-is_settled-clause-crash
returns-then-not-is_settled-clause-crash c =
    rw (← c.self.view_is) (sync_within c.self.inside.first c.self.inside.steps.items c.push_reserved.new.self.items c.push_reserved.ensures.items)

pub returns-then-not-is_settled-clause-time : goal.returns-then-not-is_settled-clause-time
returns-then-not-is_settled-clause-time c =
    rw (← c.self.view_is) (goes_on c.self.inside.first c.self.inside.steps.items c.push_reserved.new.self.items Synced c.push_reserved.ensures.items)

pub returns-else-not-is_settled-clause-durable : goal.returns-else-not-is_settled-clause-durable
returns-else-not-is_settled-clause-durable c =
    let is : is_settled c.self.inside.steps.items ≡ true
    = ap is_settled (sym c.deref.ensures.value) ∙ sym c.is_settled.ensures ∙ c.if-not-is_settled.false in
    settled_leaves c.self.inside.first c.self.inside.steps.items is

pub returns-else-not-is_settled-clause-state : goal.returns-else-not-is_settled-clause-state
returns-else-not-is_settled-clause-state c =
    let is : is_settled c.self.inside.steps.items ≡ true
    = ap is_settled (sym c.deref.ensures.value) ∙ sym c.is_settled.ensures ∙ c.if-not-is_settled.false in
    let same : c.self.inside.steps.items ≡ with_sync c.self.inside.steps.items = rw is refl in
    rw (← c.self.view_is) (sync_made c.self.inside.first c.self.inside.plan c.self.inside.steps.items c.self.inside.steps.items same (sym c.changes.ensures.fails ∙ c.if-changes.false))

pub returns-then-not-is_settled-clause-state : goal.returns-then-not-is_settled-clause-state
returns-then-not-is_settled-clause-state c =
    let is : is_settled c.self.inside.steps.items ≡ false
    = ap is_settled (sym c.deref.ensures.value) ∙ sym c.is_settled.ensures ∙ c.if-not-is_settled.true in
    let kept : c.push_reserved.new.self.items ≡ with_sync c.self.inside.steps.items = rw is c.push_reserved.ensures.items in
    rw (← c.self.view_is) (sync_made c.self.inside.first c.self.inside.plan c.self.inside.steps.items c.push_reserved.new.self.items kept (sym c.changes.ensures.fails ∙ c.if-changes.false))
