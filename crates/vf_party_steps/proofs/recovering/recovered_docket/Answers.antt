use Rattle.std.proofs.Common.{Option, ap, sym, ◌∙◌}
use Rattle.std.specs.Prelude.{option_copied}
use Rattle.vf_party_steps.specs.Recoveries.{refusal_in}
use Rattle.vf_tables.specs.declared.docket.Docket.{Docket}
use Rattle.vf_party_steps.proofs.recovering.recovered_docket.Goals as goal

pub returns-in-Some-clause-refused : goal.returns-in-Some-clause-refused
returns-in-Some-clause-refused c =
    ap (λ (one : Option Docket). refusal_in c.args.tables.now.files c.args.association.now.units one c.args.number) (sym c.docket_in-found.ensures)
    ∙ sym c.refused_recover.ensures ∙ c.in-Some.is

pub returns-clause-found : goal.returns-clause-found
returns-clause-found c = sym c.docket_in-found.ensures ∙ ap option_copied c.in-Some-found.is

pub returns-clause-free : goal.returns-clause-free
returns-clause-free c =
    ap (λ (one : Option Docket). refusal_in c.args.tables.now.files c.args.association.now.units one c.args.number) (sym (ap option_copied c.in-Some-found.is))
    ∙ sym c.refused_recover.ensures ∙ c.in_default-refused_recover.is
