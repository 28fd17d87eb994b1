use Rattle.std.proofs.Common.{◌+◌, ◌-◌, ◌&&◌, min, length, sym, ◌∙◌}
use Rattle.std.specs.Prelude.{nat_eq, nat_le}
use Rattle.vf_tables.proofs.Shown.{begin_at, both_else, both_then, comes_at, current_at, end_at, first_at, last_at, next_at, number_at, previous_at}
use Rattle.vf_tables.proofs.validity.is_shown_flat.Goals as goal

pub returns-in-Begin : goal.returns-in-Begin
returns-in-Begin c = rw c.in-Begin.is (begin_at c.args.position)

pub returns-in-End : goal.returns-in-End
returns-in-End c = let count = length c.args.tree.now.units in rw c.in-End.is (end_at count c.args.position ∙ sym (comes_at c.args.tree.now.units (count + 1) c.args.position))

pub returns-then-has_unit : goal.returns-then-has_unit
returns-then-has_unit c =
    let p = c.args.position in
    let count = length c.args.tree.now.units in
    let is = rw c.units-count.ensures.units at c.has_unit.ensures in
    rw c.in-First.is (both_then (nat_le 1 p && nat_le p count) (nat_eq p 1) (sym is ∙ c.if-has_unit.true) ∙ sym (comes_at c.args.tree.now.units 1 p ∙ first_at count p))

pub returns-else-has_unit : goal.returns-else-has_unit
returns-else-has_unit c =
    let p = c.args.position in
    let count = length c.args.tree.now.units in
    let is = rw c.units-count.ensures.units at c.has_unit.ensures in
    rw c.in-First.is (is ∙ both_else (nat_le 1 p && nat_le p count) (nat_eq p 1) (sym is ∙ c.if-has_unit.false) ∙ sym (comes_at c.args.tree.now.units 1 p ∙ first_at count p))

pub returns-then-has_unit-2 : goal.returns-then-has_unit-2
returns-then-has_unit-2 c =
    let p = c.args.position in
    let count = length c.args.tree.now.units in
    let is = rw c.units-count.ensures.units at c.has_unit-in-Last.ensures in
    rw (c.in-Last.is, c.units-count.ensures.units) (both_then (nat_le 1 p && nat_le p count) (nat_eq p count) (sym is ∙ c.if-has_unit-2.true) ∙ sym (comes_at c.args.tree.now.units count p ∙ last_at count p))

pub returns-else-has_unit-2 : goal.returns-else-has_unit-2
returns-else-has_unit-2 c =
    let p = c.args.position in
    let count = length c.args.tree.now.units in
    let is = rw c.units-count.ensures.units at c.has_unit-in-Last.ensures in
    rw c.in-Last.is (is ∙ both_else (nat_le 1 p && nat_le p count) (nat_eq p count) (sym is ∙ c.if-has_unit-2.false) ∙ sym (comes_at c.args.tree.now.units count p ∙ last_at count p))

pub returns-then-has_unit-3 : goal.returns-then-has_unit-3
returns-then-has_unit-3 c =
    let p = c.args.position in
    let count = length c.args.tree.now.units in
    let is = rw c.units-count.ensures.units at c.has_unit-in-Number.ensures in
    rw c.in-Number.is (both_then (nat_le 1 p && nat_le p count) (nat_eq p c.in-Number.number) (sym is ∙ c.if-has_unit-3.true) ∙ sym (comes_at c.args.tree.now.units c.in-Number.number p ∙ number_at count c.in-Number.number p))

pub returns-else-has_unit-3 : goal.returns-else-has_unit-3
returns-else-has_unit-3 c =
    let p = c.args.position in
    let count = length c.args.tree.now.units in
    let is = rw c.units-count.ensures.units at c.has_unit-in-Number.ensures in
    rw c.in-Number.is (is ∙ both_else (nat_le 1 p && nat_le p count) (nat_eq p c.in-Number.number) (sym is ∙ c.if-has_unit-3.false) ∙ sym (comes_at c.args.tree.now.units c.in-Number.number p ∙ number_at count c.in-Number.number p))

pub returns-in-Current : goal.returns-in-Current
returns-in-Current c =
    let p = c.args.position in
    let count = length c.args.tree.now.units in
    let is = rw c.units-count.ensures.units at c.has_unit-in-Current.ensures in
    rw c.in-Current.is (is ∙ sym (comes_at c.args.tree.now.units (min p (count + 1)) p ∙ current_at count p))

pub returns-in-Next : goal.returns-in-Next
returns-in-Next c =
    let p = c.args.position in
    let count = length c.args.tree.now.units in
    let is = rw c.units-count.ensures.units at c.has_unit-in-Next.ensures in
    rw c.in-Next.is (is ∙ sym (comes_at c.args.tree.now.units (min (p - 1) (count + 1) + 1) p ∙ next_at count p))

pub returns-in-Previous : goal.returns-in-Previous
returns-in-Previous c =
    let p = c.args.position in
    let count = length c.args.tree.now.units in
    let is = rw c.units-count.ensures.units at c.has_unit-in-Previous.ensures in
    rw c.in-Previous.is (is ∙ sym (comes_at c.args.tree.now.units (min (p + 1) (count + 1) - 1) p ∙ previous_at count p))
