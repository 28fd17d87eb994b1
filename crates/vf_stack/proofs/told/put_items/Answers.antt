use Rattle.std.proofs.Common.{◌≡◌, ◌<◌, length, true, false, is_some, arith}
use Rattle.std.proofs.lemmas.Grind.{common_steps}
use Rattle.vf_stack.proofs.ToldLemmas.{items-onward, items-stopped}
use Rattle.vf_stack.proofs.told.put_items.Goals as goal

pub returns-then-is_some : goal.returns-then-is_some
returns-then-is_some c =
    let within : c.loop-value.value-index < length c.args.values.now = grind (arith, common_steps) in
    let some : is_some c.in_ok-fault.fault ≡ true = grind (arith, common_steps) in
    items-stopped c.args.sync c.args.values.now c.loop-value.value-index c.value-item.result c.args.out.now.items c.loop-value.out.items c.put_item.new.out.items c.in_ok-fault.fault within c.value-item.is c.loop-value.invariant c.in_ok-fault.ensures some

pub loop-value-preserved : goal.loop-value-preserved
loop-value-preserved c =
    let within : c.loop-value.value-index < length c.args.values.now = grind (arith, common_steps) in
    let none : is_some c.in_ok-fault.fault ≡ false = grind (arith, common_steps) in
    items-onward c.args.sync c.args.values.now c.loop-value.value-index c.value-item.result c.args.out.now.items c.loop-value.out.items c.put_item.new.out.items c.in_ok-fault.fault within c.value-item.is c.loop-value.invariant c.in_ok-fault.ensures none
