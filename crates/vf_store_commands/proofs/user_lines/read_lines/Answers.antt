use Rattle.std.proofs.Common.{Bool, arith, subst, sym, take}
use Rattle.vf_store_commands.specs.Reading.{Takes, Tells}
use Rattle.vf_store_commands.proofs.Blocks.{told_all, told_bad, told_on}
use Rattle.vf_store_commands.proofs.user_lines.read_lines.Goals as goal

pub loop-lines-preserved : goal.loop-lines-preserved
loop-lines-preserved g c =
    let left = g.I.Source.left in
    let takes = subst (λ (b : Bool). Takes c.loop-lines.lines (take c.in_ok-count.count c.read.new.into) c.take.new.self b) c.if-not-branch.false c.in_ok-take.ensures.takes in
    record {
      told = told_on (left c.args.input.now) (left c.loop-lines.input) (left c.read.new.self) c.read.new.into c.in_ok-count.count c.loop-lines.lines c.take.new.self c.loop-lines.invariant.told c.in_ok-count.ensures.octets takes;
      falls = omega (arith, c.loop-lines.invariant.falls, c.read.ensures.falls);
      room = omega (arith, c.loop-lines.invariant.room, c.read.auto.into);
      within = c.take.ensures.within;
    }

pub returns-then-not-branch-clause-tells : goal.returns-then-not-branch-clause-tells
returns-then-not-branch-clause-tells g c = λ octets is.
    let left = g.I.Source.left in
    let takes = subst (λ (b : Bool). Takes c.loop-lines.lines (take c.in_ok-count.count c.read.new.into) c.take.new.self b) c.if-not-branch.true c.in_ok-take.ensures.takes in
    subst (Tells octets) (sym c.bad.ensures)
    (told_bad (left c.args.input.now) (left c.loop-lines.input) (left c.read.new.self) c.read.new.into c.in_ok-count.count c.loop-lines.lines c.take.new.self c.loop-lines.invariant.told c.in_ok-count.ensures.octets takes octets is)

pub returns-then-count-eq0-clause-tells : goal.returns-then-count-eq0-clause-tells
returns-then-count-eq0-clause-tells g c =
    let left = g.I.Source.left in
    told_all (left c.args.input.now) (left c.loop-lines.input) (left c.read.new.self) c.read.new.into c.in_ok-count.count c.loop-lines.lines c.in_ok-told.told c.loop-lines.invariant.told c.in_ok-count.ensures.octets c.if-count-eq0.true c.in_ok-told.ensures
