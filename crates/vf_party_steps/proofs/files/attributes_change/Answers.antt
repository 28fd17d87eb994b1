use Rattle.std.proofs.Common.{◌≡◌, true, false, cond, [], ◌∷◌, sym, ◌∙◌}
use Rattle.vf_attr.specs.Attributes.{attributes_of}
use Rattle.vf_filestore.specs.Changes.{change_of, is_same_file}
use Rattle.vf_tables.specs.declared.change.Change.TheVariants.{PutAttributes, PutFile}
use Rattle.vf_party_steps.proofs.files.attributes_change.Goals as goal

pub returns-then-is_unchanged : goal.returns-then-is_unchanged
returns-then-is_unchanged c =
    let before = c.args.before.now in
    let after = c.args.after in
    let same : is_same_file before after ≡ true = sym c.is_unchanged.ensures ∙ c.if-is_unchanged.true in
    c.new.ensures ∙ (λ i. cond (sym same i) [] (change_of before after ∷ []))

pub returns : goal.returns
returns c =
    let before = c.args.before.now in
    let after = c.args.after in
    let other : is_same_file before after ≡ false = sym c.is_unchanged.ensures ∙ c.if-is_unchanged.false in
    c.in_ok-changes.ensures ∙ (λ i. c.attributes_put.ensures i ∷ []) ∙ (λ i. PutAttributes (c.in_ok-old.ensures i) after.name (attributes_of after) ∷ [])
    ∙ (λ i. cond (sym other i) [] (cond (sym c.requires i) (PutAttributes before.name after.name (attributes_of after)) (PutFile after) ∷ []))
