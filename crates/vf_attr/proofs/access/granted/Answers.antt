use Rattle.std.proofs.Common.{rules, [], ◌∷◌, option_copied}
use Rattle.vf_attr.proofs.Refusals.{is_denied, is_locked}
use Rattle.vf_attr.specs.Access.{missing}
use Rattle.vf_attr.proofs.access.granted.Goals as goal

pub returns-then-not-includes : goal.returns-then-not-includes
returns-then-not-includes c =
    is_denied c.args.terms.now c.args.who.now (option_copied c.args.password) c.args.actions (search rules)
    c.includes.result
    (missing (c.actions_of.result ∷ []) c.args.actions)
    (c.actions_of.ensures c.args.actions) c.includes.ensures (search rules)

pub returns-then-not-includes-2 : goal.returns-then-not-includes-2
returns-then-not-includes-2 c =
    is_locked c.args.terms.now c.args.who.now (option_copied c.args.password) c.args.actions (search rules)
    c.includes.result
    c.includes-2.result
    (missing (c.actions_of.result ∷ []) c.args.actions)
    (missing (c.open_actions_of.result ∷ []) c.args.actions)
    (c.actions_of.ensures c.args.actions) c.includes.ensures (search rules)
    (c.open_actions_of.ensures c.args.actions) c.includes-2.ensures (search rules)
