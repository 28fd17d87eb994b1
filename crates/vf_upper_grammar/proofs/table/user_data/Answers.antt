use Rattle.std.proofs.Common.{refl, subst, sym, true}
use Rattle.std.specs.Prelude.{Some}
use Rattle.vf_base.specs.declared.spdu_kind.SpduKind.{SpduKind}
use Rattle.vf_upper_grammar.specs.declared.form.Field.{Field}
use Rattle.vf_upper_grammar.specs.declared.form.Form.TheVariants as forms
use Rattle.vf_upper_grammar.specs.declared.form.Pair.TheVariants as pairs
use Rattle.vf_upper_grammar.specs.Rows.{IsUserData}
use Rattle.vf_upper_grammar.proofs.table.user_data.Goals as goal

pub returns-in-CN-clause-data : goal.returns-in-CN-clause-data
returns-in-CN-clause-data c =
    let field : Field = record { class = 0; from = 17; to = 17; is_required = true; form = forms.Set pairs.Cp } in
    let P : SpduKind → Type 0 = λ kind. IsUserData kind (Some field) in
    subst P (sym c.in-CN.is) refl

pub returns-in-AC-clause-data : goal.returns-in-AC-clause-data
returns-in-AC-clause-data c =
    let field : Field = record { class = 0; from = 17; to = 17; is_required = true; form = forms.Set pairs.Cpa } in
    let P : SpduKind → Type 0 = λ kind. IsUserData kind (Some field) in
    subst P (sym c.in-AC.is) refl
