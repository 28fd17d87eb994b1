use Rattle.std.specs.Prelude.{◌==◌}
use Rattle.std.specs.List.{position}
use Rattle.std.proofs.Common.{◌≡◌, ℕ, Option, None, Some, ap, sym, ◌∙◌}
use Rattle.vf_store_commands.specs.UserLines.{parted_at, tab}
use Rattle.vf_store_commands.proofs.user_lines.parted.Goals as goal

pub returns-in_default-clause-before : goal.returns-in_default-clause-before
returns-in_default-clause-before c =
    let at : position (λ octet. octet == tab) c.args.line.now ≡ None = cc c.place_of_tab.ensures in
    ap (λ (place : Option ℕ). (parted_at c.args.line.now place).before) (sym at)

pub returns-in_default-clause-after : goal.returns-in_default-clause-after
returns-in_default-clause-after c =
    let at : position (λ octet. octet == tab) c.args.line.now ≡ None = cc c.place_of_tab.ensures in
    ap (λ (place : Option ℕ). (parted_at c.args.line.now place).after) (sym at)

pub returns-clause-before : goal.returns-clause-before
returns-clause-before c =
    let at : position (λ octet. octet == tab) c.args.line.now ≡ Some c.in-Some.place = cc c.place_of_tab.ensures in
    c.split_at.ensures.front ∙ ap (λ (place : Option ℕ). (parted_at c.args.line.now place).before) (sym at)

pub returns-clause-after : goal.returns-clause-after
returns-clause-after c =
    let at : position (λ octet. octet == tab) c.args.line.now ≡ Some c.in-Some.place = cc c.place_of_tab.ensures in
    ap (λ rest. Some rest) c.split_at-2.ensures.back ∙ ap (λ (place : Option ℕ). (parted_at c.args.line.now place).after) (sym at)
