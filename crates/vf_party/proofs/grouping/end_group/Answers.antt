use Rattle.std.proofs.Common.{◌≡◌, Option, refl, subst, sym}
use Rattle.std.specs.Prelude.{IfSome}
use Rattle.vf_filestore.specs.Stage.{Group}
use Rattle.vf_party.specs.Settings.{setting_of}
use Rattle.vf_party.specs.declared.quiet.Quiet.{Quiet}
use Rattle.vf_party_steps.specs.declared.step.Step.{Step}
use Rattle.vf_party.proofs.GroupEnds.{performed_ends, unperformed_ends}
use Rattle.vf_party.proofs.Lent.{unchanged_after}
use Rattle.vf_party.proofs.grouping.end_group.Goals as goal
use Rattle.vf_tables.specs.declared.tables.Tables.{Tables}

pub tried-requires : goal.tried-requires
tried-requires c = subst (λ (lent : Option Tables). IfSome lent (λ second. second ≡ c.args.tables.now)) (sym c.take-lent.ensures.value) c.requires

pub returns-then-threshold-trial-clause-consequence : goal.returns-then-threshold-trial-clause-consequence
returns-then-threshold-trial-clause-consequence c = λ state party stands represents alone items.
    let group : Group = record { threshold = c.args.threshold; items = c.args.items.now } in
    let attempt = c.in-Ok.attempt in
    performed_ends state party (setting_of c.args.setting.now) group c.args.tables.now c.args.locks.now c.args.quiet stands alone items attempt.locks attempt.trial c.in-Ok-performed.done.0
    c.in-Ok.ensures.tried represents c.if-threshold-trial.true c.in-Ok-performed.ensures.step

pub returns-clause-consequence : goal.returns-clause-consequence
returns-clause-consequence c = λ state party stands represents alone items.
    let group : Group = record { threshold = c.args.threshold; items = c.args.items.now } in
    let attempt = c.in-Ok.attempt in
    let step : Step Quiet = record { state = c.args.quiet; said = c.in-Ok-in_vain.done.0; changes = c.new.result } in
    unperformed_ends state party (setting_of c.args.setting.now) group c.args.tables.now c.args.locks.now c.args.quiet stands alone items attempt.locks attempt.trial step
    c.in-Ok.ensures.tried represents c.if-threshold-trial.false refl c.in-Ok-in_vain.ensures.says c.new.ensures

pub returns-clause-ahead : goal.returns-clause-ahead
returns-clause-ahead c =
    let tried = c.in-Ok.attempt.trial in
    unchanged_after c.args.tables.now tried.tables tried.changes c.new.result c.in-Ok-in_vain.done.1 c.in-Ok.ensures.led c.new.ensures c.in-Ok-in_vain.ensures.unchanged
