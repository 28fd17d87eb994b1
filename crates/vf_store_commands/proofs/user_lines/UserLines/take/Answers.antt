use Rattle.std.proofs.Common.{Bool, true, arith, refl, subst, List, ℕ, get_or, ◌∷◌, []}
use Rattle.std.proofs.lemmas.List.{take_all}
use Rattle.vf_store_commands.specs.Reading.{Takes}
use Rattle.vf_store_commands.proofs.Blocks.{takes_bad, takes_one}
use Rattle.vf_store_commands.proofs.user_lines.UserLines.take.Goals as goal

pub loop-octet-init : goal.loop-octet-init
loop-octet-init c = record { takes = λ rest. refl; more = omega arith; within = c.requires }

pub loop-octet-preserved : goal.loop-octet-preserved
loop-octet-preserved c =
    let good = subst (λ (b : Bool). Takes c.loop-octet.self (get_or c.args.block.now c.loop-octet.octet-index 0 ∷ []) c.take_octet.new.self b) c.if-not-good.false c.in_ok-good.ensures.takes in
    let rises = c.in_ok-good.ensures.progress c.if-not-good.false in
    record {
      takes = takes_one c.args.self.now c.loop-octet.self c.take_octet.new.self c.args.block.now c.loop-octet.octet-index c.loop-octet-test.true c.loop-octet.invariant.takes good;
      more = omega (arith, rises);
      within = c.take_octet.ensures.within;
    }

pub returns-then-not-good-clause-takes : goal.returns-then-not-good-clause-takes
returns-then-not-good-clause-takes c =
    let bad = subst (λ (b : Bool). Takes c.loop-octet.self (get_or c.args.block.now c.loop-octet.octet-index 0 ∷ []) c.take_octet.new.self b) c.if-not-good.true c.in_ok-good.ensures.takes in
    takes_bad c.args.self.now c.loop-octet.self c.take_octet.new.self c.args.block.now c.loop-octet.octet-index c.loop-octet-test.true c.loop-octet.invariant.takes bad

pub returns-clause-takes : goal.returns-clause-takes
returns-clause-takes c =
    subst (λ (l : List ℕ). Takes c.args.self.now l c.loop-octet.self true) (take_all c.loop-octet.octet-index c.args.block.now c.loop-octet-test.false) c.loop-octet.invariant.takes
