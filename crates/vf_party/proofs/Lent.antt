-- A second of the tables that is lent to a group, and what it is after the group's changes.
use Rattle.std.proofs.Common.{◌≡◌, ℕ, true, List, [], Option, None, Some, unwrap_or, Result, Ok, Err, refl, ap, sym, subst, ◌∙◌}
use Rattle.std.specs.Prelude.{IfOk, IfSome}
use borrow.Author.Tests.{clash}
use Rattle.std.proofs.lemmas.List.Sums.{fold-append}
use Rattle.vf_base.specs.declared.diagnostic.Diagnostic.{Diagnostic}
use Rattle.vf_base.specs.declared.errors.NoMemory.{NoMemory}
use Rattle.vf_elements.specs.declared.message.Message.{Message}
use Rattle.vf_elements.specs.declared.message.Message.TheVariants as messages
use Rattle.vf_party.specs.GroupEnds.{end_message, ends_group}
use Rattle.vf_party.specs.Hearing.{turn_in}
use Rattle.vf_party.specs.Trials.{ComesOf, IsBadItem, IsJoined, IsUntried}
use Rattle.vf_party.specs.declared.hearing.Answered.{Answered}
use Rattle.vf_party.specs.declared.party.Grouping.{Grouping}
use Rattle.vf_party.specs.declared.party.Outcome.{Outcome}
use Rattle.vf_party.specs.declared.party.Party.{Party}
use Rattle.vf_party.specs.declared.party.Party.TheVariants as parties
use Rattle.vf_party.specs.declared.quiet.Quiet.{Quiet}
use Rattle.vf_party.specs.declared.trying.Trial.{Trial}
use Rattle.vf_party_steps.specs.declared.step.Step.{Step}
use Rattle.vf_party_steps.specs.declared.step.StepError.{StepError}
use Rattle.vf_party_steps.specs.declared.step.StepError.TheVariants as errors
use Rattle.vf_pdu.specs.declared.pdu.Pdu.TheVariants.{EndGroupRequest}
use Rattle.vf_tables.specs.Changes.{after, after_all}
use Rattle.vf_tables.specs.declared.change.Change.{Change}
use Rattle.vf_tables.specs.declared.tables.Tables.{Tables}

-- ---- what was lent

pub over_lent : (lent : Option Tables) (kept : Tables) → IfSome lent (λ second. second ≡ kept) → unwrap_or lent kept ≡ kept
over_lent None kept same = refl
over_lent (Some second) kept same = same

pub second_is : (own : Option Tables) (kept all : Tables) → unwrap_or own kept ≡ all → IfSome own (λ second. second ≡ all)
second_is None kept all is = tt
second_is (Some second) kept all is = is

-- ---- items

pub untried_led : (quiet : Quiet) (tables : Tables) (trial : Trial) → IsUntried quiet tables trial → trial.tables ≡ after_all tables trial.changes
untried_led quiet tables trial untried = untried.kept ∙ ap (after_all tables) (sym untried.changed)

pub bad_led : (quiet : Quiet) (number : ℕ) (diagnostic : Diagnostic) (tables : Tables) (trial : Trial) → IsBadItem quiet number diagnostic tables trial
    → trial.tables ≡ after_all tables trial.changes
bad_led quiet number diagnostic tables trial bad = bad.kept ∙ ap (after_all tables) (sym bad.changed)

pub comes_led : (number : ℕ) (answer : Result (Step Quiet) (Quiet × StepError)) (tables : Tables) (trial : Trial) → ComesOf number answer tables trial
    → trial.tables ≡ after_all tables trial.changes
comes_led number (Ok step) tables trial good = good.kept ∙ ap (after_all tables) (sym good.changed)
comes_led number (Err (quiet, errors.Refused diagnostic)) tables trial bad = bad_led quiet number diagnostic tables trial bad
comes_led number (Err (quiet, errors.NoMemory)) tables trial comes = absurd comes

pub items_led : (tables : Tables) (first later all : Trial) → first.tables ≡ after_all tables first.changes → later.tables ≡ after_all first.tables later.changes
    → IsJoined first.said.items first.vain.items first.good first.changes later all → all.tables ≡ after_all tables all.changes
items_led tables first later all one others joined =
    joined.kept ∙ others ∙ ap (λ (t : Tables). after_all t later.changes) one ∙ sym (fold-append after tables first.changes later.changes)
    ∙ ap (after_all tables) (sym joined.changed)

-- ---- the end

-- a second that no item changed
pub unchanged_after : (tables tried : Tables) (changes none : List Change) (second : Option Tables) → tried ≡ after_all tables changes → none ≡ []
    → IfSome second (λ one. (one ≡ tried) × (changes ≡ [])) → IfSome second (λ one. one ≡ after_all tables none)
unchanged_after tables tried changes none None led is back = tt
unchanged_after tables tried changes none (Some second) led is back = back.0 ∙ led ∙ ap (after_all tables) (back.1 ∙ sym is)

pub settled_after : (tables : Tables) (second : Option Tables) (party : Party) (heard : Result Answered NoMemory) (taken : Result Outcome (Party × NoMemory)) → turn_in party heard ≡ taken
    → IfOk taken (λ outcome. IfSome second (λ one. one ≡ after_all tables outcome.changes)) → IfOk heard (λ answered. IfSome second (λ one. one ≡ after_all tables answered.changes))
settled_after tables second party (Ok answered) taken is after_it =
    subst (λ (result : Result Outcome (Party × NoMemory)). IfOk result (λ outcome. IfSome second (λ one. one ≡ after_all tables outcome.changes))) (sym is) after_it
settled_after tables second party (Err error) taken is after_it = tt

pub none_after : (tables : Tables) (second : Option Tables) (heard : Result Answered NoMemory) → second ≡ None → IfOk heard (λ answered. IfSome second (λ one. one ≡ after_all tables answered.changes))
none_after tables None (Ok answered) none = tt
none_after tables (Some one) (Ok answered) none = cc
none_after tables second (Err error) none = tt

pub ending_party : (party : Party) (message : Message) → ends_group party message ≡ true → (grouping : Grouping) × (party ≡ parties.Grouping grouping)
ending_party (parties.Grouping grouping) message is = (grouping, refl)
ending_party party message is = absurd (clash is)

pub ending_message : (party : Party) (message : Message) → ends_group party message ≡ true → message ≡ end_message
ending_message (parties.Grouping grouping) (messages.Pdu EndGroupRequest) is = refl
ending_message party message is = absurd (clash is)
