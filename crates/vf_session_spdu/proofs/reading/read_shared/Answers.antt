use Rattle.std.proofs.Common.{List, ℕ, Ok, IfOk, Vec, subst}
use Rattle.std.specs.List.{AllByRecursion}
use Rattle.vf_session_spdu.specs.declared.spdu.Spdu.{Spdu}
use Rattle.vf_session_spdu.specs.Faults.{Shows, tsdu_fault}
use Rattle.vf_session_spdu.specs.Fields.{Gives}
use Rattle.vf_session_spdu.specs.Grammar.{Holds}
use Rattle.vf_session_spdu.specs.Reading.{reading}
use Rattle.vf_session_spdu.proofs.reading.read_shared.Goals as goal

pub returns-clause-exact : goal.returns-clause-exact
returns-clause-exact c =
    let P : List ℕ → Type 0 = λ octets. Gives (λ (spdus : Vec Spdu _). spdus.items) c.read_of.result (reading octets) in
    subst P c.as_slice.ensures c.read_of.ensures.exact

pub returns-clause-held : goal.returns-clause-held
returns-clause-held c =
    let P : List ℕ → Type 0 = λ octets. IfOk c.read_of.result (λ (spdus : Vec Spdu _). Holds octets spdus.items) in
    subst P c.as_slice.ensures c.read_of.ensures.held

pub returns-clause-told : goal.returns-clause-told
returns-clause-told c =
    let P : List ℕ → Type 0 = λ octets. (held : List Spdu) → Holds octets held → Gives (λ (spdus : Vec Spdu _). spdus.items) c.read_of.result (Ok held) in
    subst P c.as_slice.ensures c.read_of.ensures.told

pub returns-clause-faulty : goal.returns-clause-faulty
returns-clause-faulty c =
    let P : List ℕ → Type 0 = λ octets. Shows c.read_of.result (tsdu_fault octets) in
    subst P c.as_slice.ensures c.read_of.ensures.faulty
