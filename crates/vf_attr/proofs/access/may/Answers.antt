use Rattle.std.proofs.Common.{rules, [], ◌∷◌, option_copied}
use Rattle.vf_attr.proofs.Refusals.{refused}
use Rattle.vf_attr.specs.Access.{granted, missing}
use Rattle.vf_attr.specs.declared.errors.AccessError.TheVariants.{NotPermitted}
use Rattle.vf_attr.proofs.access.may.Goals as goal

pub returns-then-not-includes : goal.returns-then-not-includes
returns-then-not-includes c =
    refused
    (missing (c.args.file.now.permitted ∷ []) c.args.actions)
    NotPermitted
    (granted c.args.file.now.terms c.args.who.now (option_copied c.args.password) c.args.actions)
    c.includes.result c.includes.ensures (search rules)
