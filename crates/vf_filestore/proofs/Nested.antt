-- Regimes nest: a transfer stands in a regime, and that in a selection.
use Rattle.std.proofs.Common.{◌≡◌, true, [], ◌∷◌, is_some, Option, None, Some, refl, ap, sym, ◌∙◌}
use Rattle.std.specs.Prelude.{IsSome}
use Rattle.std.specs.Option.{option_map}
use Rattle.vf_elements.specs.Stages.{takes}
use Rattle.vf_elements.specs.declared.message.Message.{Message}
use Rattle.vf_elements.specs.declared.message.Message.TheVariants as messages
use Rattle.vf_pdu.specs.declared.pdu.Pdu.TheVariants.{DeselectRequest, DeleteRequest, OpenRequest, CloseRequest, ReadRequest, WriteRequest}
use Rattle.vf_filestore.specs.History.{Entry, History, Regime, Selection, opening, regime, renamed, selecting, selection}
use Rattle.vf_filestore.specs.Sound.{IsNested, IsPlaced, stage_within}
use Rattle.vf_filestore.specs.Transfers.{Transfer, data_end, transferring, under_way, was_shown}
use Rattle.vf_filestore.proofs.Views.{View, Place, initializes, selects, creates, changes, deselects, deletes, opens, closes, reads, writes, ends, cancels, others, in_regime_only, in_selection_only, place, view}

pub record Nests (selection : Option Selection) (regime : Option Regime) (transfer : Option Transfer) : Type 0 where
  pub regimes : IsSome regime → IsSome selection
  pub transfers : IsSome transfer → IsSome regime

pub is_some_mapped : {A B : Type 0} (f : A → B) (before : Option A) → IsSome before → IsSome (option_map f before)
is_some_mapped f None is = absurd cc
is_some_mapped f (Some x) is = refl

pub is_some-from_mapped : {A B : Type 0} (f : A → B) (before : Option A) → IsSome (option_map f before) → IsSome before
is_some-from_mapped f None is = absurd cc
is_some-from_mapped f (Some x) is = refl

pub none_some : {A : Type 0} (P : Type 0) (one : Option A) → one ≡ None → IsSome one → P
none_some P None gone is = absurd cc
none_some P (Some x) gone is = absurd cc

pub some_some : {A : Type 0} (one : Option A) (x : A) → one ≡ Some x → IsSome one
some_some one x is = ap is_some is

-- a place within an association, where there is no other way
pub placed : (message : Message) (history : History) → takes (stage_within history) message ≡ true
    → Place message (selection history) (regime history) (under_way history)
placed message history taken = place message (selection history) (regime history) (under_way history) (is_some (data_end history)) (was_shown history) taken

nests_after : (entry : Entry) (earlier : History) → Nests (selection earlier) (regime earlier) (under_way earlier) → (message : Message) → View message → IsPlaced earlier message
    → Nests (selecting message (selection earlier)) (opening entry.ordinal message (regime earlier)) (transferring message entry.given (under_way earlier))
nests_after entry earlier nests message (initializes units identity password window) at = nests
nests_after entry earlier nests message (selects name requested controls password) at = record { regimes = λ is. refl; transfers = nests.transfers }
nests_after entry earlier nests message (creates over name contents permitted terms requested controls password) at = record { regimes = λ is. refl; transfers = nests.transfers }
nests_after entry earlier nests message (changes name permitted terms number) at =
    record { regimes = λ is. is_some_mapped (renamed name) (selection earlier) (nests.regimes is); transfers = nests.transfers }
nests_after entry earlier nests message deselects at =
    let there = in_selection_only (messages.Pdu DeselectRequest) (record { reading = refl; shown = refl; writing = refl; written = refl }) refl refl (placed (messages.Pdu DeselectRequest) earlier at) in
    record { regimes = none_some _ (regime earlier) there.no_regime; transfers = nests.transfers }
nests_after entry earlier nests message deletes at =
    let there = in_selection_only (messages.Pdu DeleteRequest) (record { reading = refl; shown = refl; writing = refl; written = refl }) refl refl (placed (messages.Pdu DeleteRequest) earlier at) in
    record { regimes = none_some _ (regime earlier) there.no_regime; transfers = nests.transfers }
nests_after entry earlier nests message (opens mode contents controls activity) at =
    let there = in_selection_only (messages.Pdu (OpenRequest mode contents controls activity)) (record { reading = refl; shown = refl; writing = refl; written = refl }) refl refl (placed (messages.Pdu (OpenRequest mode contents controls activity)) earlier at) in
    record { regimes = λ is. some_some (selection earlier) there.selected there.is; transfers = λ is. refl }
nests_after entry earlier nests message closes at =
    let there = in_regime_only (messages.Pdu CloseRequest) (record { reading = refl; shown = refl; writing = refl; written = refl }) refl refl (placed (messages.Pdu CloseRequest) earlier at) in
    record { regimes = λ is. absurd cc; transfers = none_some _ (under_way earlier) there.no_transfer }
nests_after entry earlier nests message (reads fadu context) at =
    let there = in_regime_only (messages.Pdu (ReadRequest fadu context)) (record { reading = refl; shown = refl; writing = refl; written = refl }) refl refl (placed (messages.Pdu (ReadRequest fadu context)) earlier at) in
    record { regimes = nests.regimes; transfers = λ is. some_some (regime earlier) there.opened there.is }
nests_after entry earlier nests message (writes operation fadu) at =
    let there = in_regime_only (messages.Pdu (WriteRequest operation fadu)) (record { reading = refl; shown = refl; writing = refl; written = refl }) refl refl (placed (messages.Pdu (WriteRequest operation fadu)) earlier at) in
    record { regimes = nests.regimes; transfers = λ is. some_some (regime earlier) there.opened there.is }
nests_after entry earlier nests message ends at = record { regimes = nests.regimes; transfers = λ is. absurd cc }
nests_after entry earlier nests message (cancels diagnostic) at = record { regimes = nests.regimes; transfers = λ is. absurd cc }
nests_after entry earlier nests message (others one other) at = record {
  regimes = λ is. ap is_some (other.selects (selection earlier)) ∙ nests.regimes (sym (ap is_some (other.opens entry.ordinal (regime earlier))) ∙ is);
  transfers = λ is. ap is_some (other.opens entry.ordinal (regime earlier)) ∙ nests.transfers (sym (ap is_some (other.moves entry.given (under_way earlier))) ∙ is);
}

pub nests : (history : History) → IsNested history → Nests (selection history) (regime history) (under_way history)
nests [] nested = record { regimes = λ is. absurd cc; transfers = λ is. absurd cc }
nests (entry ∷ earlier) nested = nests_after entry earlier (nests earlier nested.1) entry.message (view entry.message) nested.0
