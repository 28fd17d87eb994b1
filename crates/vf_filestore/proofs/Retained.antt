-- What is retained of a history: the same stands in it, and its entries are where their stages take them.
use Rattle.std.proofs.Common.{◌≡◌, ℕ, Bool, true, false, cond, List, [], ◌∷◌, is_some, Option, None, inl, inr, refl, ap, sym, subst, ◌∙◌}
use Rattle.std.specs.Prelude.{◌⊎◌, IsSome}
use Rattle.vf_elements.specs.Stages.{takes}
use Rattle.vf_elements.specs.declared.message.Message.{Message}
use Rattle.vf_elements.specs.declared.message.Message.TheVariants as messages
use Rattle.vf_elements.specs.declared.message.Said.{Said}
use Rattle.vf_elements.specs.declared.message.Said.TheVariants as answers
use Rattle.vf_pdu.specs.declared.pdu.Pdu.{Pdu}
use Rattle.vf_pdu.specs.declared.pdu.Pdu.TheVariants.{InitializeRequest, RecoverRequest, SelectRequest, CreateRequest, ChangeAttribRequest, DeselectRequest, DeleteRequest, OpenRequest, CloseRequest}
use Rattle.vf_transfer.specs.Transfer as transfer
use Rattle.vf_transfer.specs.Transfer.{NamesKnownChecks}
use Rattle.vf_filestore.specs.Dockets.{secured, secures, since_selection}
use Rattle.vf_filestore.specs.Dockets.{selects as is_selection}
use Rattle.vf_filestore.specs.History.{Association, Given, History, association, associating, opening, regime, renamed, selecting, selection}
use Rattle.vf_filestore.specs.Sound.{IsNested, IsPlaced, IsPlacedRequest}
use Rattle.vf_filestore.specs.Transfers.{happened, transferring, under_way, with_heard, with_said}
use Rattle.vf_filestore.proofs.Alike.{AreAlike, alike_after, alike_itself, alike_none, alike_stage}
use Rattle.vf_filestore.proofs.Nested.{is_some-from_mapped, none_some, placed}
use Rattle.vf_filestore.proofs.Views as views
use Rattle.vf_filestore.proofs.Views.{AtAssociation, Grows, NotMoving, Other, View, in_association_only, in_regime_only, in_selection_only, view}

-- ---- places in histories that are alike

alike_request : (history other : History) (request : Pdu) → AreAlike history other → IsPlacedRequest history request → IsPlacedRequest other request
alike_request history other (InitializeRequest units identity password window) alike at = alike.selects ∙ at
alike_request history other (RecoverRequest activity number point) alike at = tt
alike_request history other request alike at = ap (λ stage. takes stage (messages.Pdu request)) (alike_stage history other alike) ∙ at

pub alike_placed : (history other : History) (message : Message) → AreAlike history other → IsPlaced history message → IsPlaced other message
alike_placed history other (messages.Pdu request) alike at = alike_request history other request alike at
alike_placed history other (messages.Element element) alike at = ap (λ stage. takes stage (messages.Element element)) (alike_stage history other alike) ∙ at
alike_placed history other messages.Check alike at = ap (λ stage. takes stage messages.Check) (alike_stage history other alike) ∙ at
alike_placed history other (messages.Acknowledge point) alike at = ap (λ stage. takes stage (messages.Acknowledge point)) (alike_stage history other alike) ∙ at
alike_placed history other (messages.Restart point) alike at = ap (λ stage. takes stage (messages.Restart point)) (alike_stage history other alike) ∙ at
alike_placed history other messages.Break alike at = at

-- a selection is placed where nothing stands
abbrev still : (message : Message) → Type 0
still message = NotMoving message

pub selected_at : (history : History) (message : Message) → View message → is_selection message ≡ true → IsPlaced history message
    → AtAssociation (selection history) (regime history) (under_way history)
selected_at history message (views.initializes units identity password window) is at = absurd cc
selected_at history message (views.selects name requested controls password) is at =
    in_association_only (messages.Pdu (SelectRequest name requested controls password)) (record { reading = refl; shown = refl; writing = refl; written = refl }) refl refl
    (placed (messages.Pdu (SelectRequest name requested controls password)) history at)
selected_at history message (views.creates over name contents permitted terms requested controls password) is at =
    in_association_only (messages.Pdu (CreateRequest over name contents permitted terms requested controls password)) (record { reading = refl; shown = refl; writing = refl; written = refl }) refl refl
    (placed (messages.Pdu (CreateRequest over name contents permitted terms requested controls password)) history at)
selected_at history message (views.changes name permitted terms number) is at = absurd cc
selected_at history message views.deselects is at = absurd cc
selected_at history message views.deletes is at = absurd cc
selected_at history message (views.opens mode contents controls activity) is at = absurd cc
selected_at history message views.closes is at = absurd cc
selected_at history message (views.reads fadu context) is at = absurd cc
selected_at history message (views.writes operation fadu) is at = absurd cc
selected_at history message views.ends is at = absurd cc
selected_at history message (views.cancels diagnostic) is at = absurd cc
selected_at history message (views.others one facts) is at = let never = facts.selects_nothing in absurd cc

-- ---- from the last selection on

pub alike_first : (earlier : History) → AtAssociation (selection earlier) (regime earlier) (under_way earlier) → AreAlike earlier []
alike_first earlier at = alike_none earlier [] at.no_selection at.no_regime at.no_transfer refl refl refl

pub alike_since : (history : History) → IsNested history → AreAlike history (since_selection history)
alike_since [] nested = alike_itself []
alike_since (entry ∷ earlier) nested = by (alike_since earlier nested.1) (is_selection entry.message) refl
  where
    by : AreAlike earlier (since_selection earlier) → (b : Bool) → is_selection entry.message ≡ b → AreAlike (entry ∷ earlier) (cond b (entry ∷ []) (entry ∷ since_selection earlier))
    by rest true is = alike_after entry earlier [] (alike_first earlier (selected_at earlier entry.message (view entry.message) is nested.0))
    by rest false is = alike_after entry earlier (since_selection earlier) rest

pub nested_since : (history : History) → IsNested history → IsNested (since_selection history)
nested_since [] nested = tt
nested_since (entry ∷ earlier) nested = by (nested_since earlier nested.1) (is_selection entry.message) refl
  where
    by : IsNested (since_selection earlier) → (b : Bool) → is_selection entry.message ≡ b → IsNested (cond b (entry ∷ []) (entry ∷ since_selection earlier))
    by rest true is =
        let first = alike_first earlier (selected_at earlier entry.message (view entry.message) is nested.0) in
        (alike_placed earlier [] entry.message first nested.0, tt)
    by rest false is = (alike_placed earlier (since_selection earlier) entry.message (alike_since earlier nested.1) nested.0, rest)

-- ---- no association is retained

selects_bare : (message : Message) (said : List Said) → View message → is_selection message ≡ true → associating message said None ≡ None
selects_bare message said (views.initializes units identity password window) is = absurd cc
selects_bare message said (views.selects name requested controls password) is = refl
selects_bare message said (views.creates over name contents permitted terms requested controls password) is = refl
selects_bare message said (views.changes name permitted terms number) is = refl
selects_bare message said views.deselects is = refl
selects_bare message said views.deletes is = refl
selects_bare message said (views.opens mode contents controls activity) is = refl
selects_bare message said views.closes is = refl
selects_bare message said (views.reads fadu context) is = refl
selects_bare message said (views.writes operation fadu) is = refl
selects_bare message said views.ends is = refl
selects_bare message said (views.cancels diagnostic) is = refl
selects_bare message said (views.others one facts) is = facts.associates said None

-- an entry between, after which a selection stands: one stood before it, and the association is as it was
record IsBetween (message : Message) (said : List Said) (earlier : History) : Type 0 where
  stood : IsSome (selection earlier)
  associates : (before : Option Association) → associating message said before ≡ before

between : (earlier : History) (message : Message) (said : List Said) → View message → is_selection message ≡ false → IsPlaced earlier message
    → IsSome (selecting message (selection earlier)) → IsBetween message said earlier
between earlier message said (views.initializes units identity password window) is at some = none_some _ (selection earlier) at some
between earlier message said (views.selects name requested controls password) is at some = absurd cc
between earlier message said (views.creates over name contents permitted terms requested controls password) is at some = absurd cc
between earlier message said (views.changes name permitted terms number) is at some =
    record { stood = is_some-from_mapped (renamed name) (selection earlier) some; associates = λ before. refl }
between earlier message said views.deselects is at some = absurd cc
between earlier message said views.deletes is at some = absurd cc
between earlier message said (views.opens mode contents controls activity) is at some = record { stood = some; associates = λ before. refl }
between earlier message said views.closes is at some = record { stood = some; associates = λ before. refl }
between earlier message said (views.reads fadu context) is at some = record { stood = some; associates = λ before. refl }
between earlier message said (views.writes operation fadu) is at some = record { stood = some; associates = λ before. refl }
between earlier message said views.ends is at some = record { stood = some; associates = λ before. refl }
between earlier message said (views.cancels diagnostic) is at some = record { stood = some; associates = λ before. refl }
between earlier message said (views.others one facts) is at some =
    record { stood = sym (ap is_some (facts.selects (selection earlier))) ∙ some; associates = facts.associates said }

pub bare_since : (history : History) → IsNested history → IsSome (selection history) → association (since_selection history) ≡ None
bare_since [] nested some = absurd cc
bare_since (entry ∷ earlier) nested some = by (bare_since earlier nested.1) (is_selection entry.message) refl
  where
    by : (IsSome (selection earlier) → association (since_selection earlier) ≡ None) → (b : Bool) → is_selection entry.message ≡ b → association (cond b (entry ∷ []) (entry ∷ since_selection earlier)) ≡ None
    by rest true is = selects_bare entry.message entry.said (view entry.message) is
    by rest false is =
        let stands = between earlier entry.message entry.said (view entry.message) is nested.0 some in
        stands.associates (association (since_selection earlier)) ∙ rest stands.stood

-- ---- without what wasn't secured

pub named_tail : (one : transfer.Entry) (entries : List transfer.Entry) → NamesKnownChecks 0 (one ∷ entries) → NamesKnownChecks 0 entries
named_tail (transfer.Value element) entries named = named
named_tail transfer.Check entries named = named
named_tail (transfer.Acknowledgement check) entries named = named.1
named_tail (transfer.Restart check) entries named = named.1

named_before : (said : List Said) (entries : List transfer.Entry) → NamesKnownChecks 0 (with_said said entries) → NamesKnownChecks 0 entries
named_before [] entries named = named
named_before (answers.Element element ∷ later) entries named = named_before later (transfer.Value element ∷ entries) named
named_before (answers.Check point ∷ later) entries named = named_before later (transfer.Check ∷ entries) named
named_before (answers.Acknowledge point ∷ later) entries named = (named_before later (transfer.Acknowledgement point ∷ entries) named).1
named_before (answers.Pdu pdu ∷ later) entries named = named_before later entries named
named_before (answers.Abort number place ∷ later) entries named = named_before later entries named

ungrown : (message : Message) (given : Given) (entries : List transfer.Entry) → Grows message given → NamesKnownChecks 0 (with_heard message given entries) → NamesKnownChecks 0 entries
ungrown message given entries grows named = by (grows entries)
  where
    by : (with_heard message given entries ≡ entries) ⊎ ((one : transfer.Entry) × (with_heard message given entries ≡ one ∷ entries)) → NamesKnownChecks 0 entries
    by (inl same) = subst (λ (es : List transfer.Entry). NamesKnownChecks 0 es) same named
    by (inr more) = named_tail more.0 entries (subst (λ (es : List transfer.Entry). NamesKnownChecks 0 es) more.1 named)

-- an entry that isn't secured, in a transfer, leaves all regimes as they are
record IsPassing (message : Message) (given : Given) (ordinal : ℕ) (earlier : History) : Type 0 where
  selects : selecting message (selection earlier) ≡ selection earlier
  opens : opening ordinal message (regime earlier) ≡ regime earlier
  moves : transferring message given (under_way earlier) ≡ under_way earlier
  grows : Grows message given

passing : (ordinal : ℕ) (earlier : History) (message : Message) (given : Given) → View message → secures message ≡ false → IsPlaced earlier message
    → IsSome (transferring message given (under_way earlier)) → IsPassing message given ordinal earlier
passing ordinal earlier message given (views.initializes units identity password window) is at some =
    record { selects = refl; opens = refl; moves = refl; grows = λ entries. inl refl }
passing ordinal earlier message given (views.selects name requested controls password) is at some =
    none_some _ (under_way earlier) (selected_at earlier (messages.Pdu (SelectRequest name requested controls password)) (views.selects name requested controls password) refl at).no_transfer some
passing ordinal earlier message given (views.creates over name contents permitted terms requested controls password) is at some =
    none_some _ (under_way earlier) (selected_at earlier (messages.Pdu (CreateRequest over name contents permitted terms requested controls password)) (views.creates over name contents permitted terms requested controls password) refl at).no_transfer some
passing ordinal earlier message given (views.changes name permitted terms number) is at some =
    none_some _ (under_way earlier) (in_selection_only (messages.Pdu (ChangeAttribRequest name permitted terms number)) (record { reading = refl; shown = refl; writing = refl; written = refl }) refl refl (placed (messages.Pdu (ChangeAttribRequest name permitted terms number)) earlier at)).no_transfer some
passing ordinal earlier message given views.deselects is at some =
    none_some _ (under_way earlier) (in_selection_only (messages.Pdu DeselectRequest) (record { reading = refl; shown = refl; writing = refl; written = refl }) refl refl (placed (messages.Pdu DeselectRequest) earlier at)).no_transfer some
passing ordinal earlier message given views.deletes is at some =
    none_some _ (under_way earlier) (in_selection_only (messages.Pdu DeleteRequest) (record { reading = refl; shown = refl; writing = refl; written = refl }) refl refl (placed (messages.Pdu DeleteRequest) earlier at)).no_transfer some
passing ordinal earlier message given (views.opens mode contents controls activity) is at some =
    none_some _ (under_way earlier) (in_selection_only (messages.Pdu (OpenRequest mode contents controls activity)) (record { reading = refl; shown = refl; writing = refl; written = refl }) refl refl (placed (messages.Pdu (OpenRequest mode contents controls activity)) earlier at)).no_transfer some
passing ordinal earlier message given views.closes is at some =
    none_some _ (under_way earlier) (in_regime_only (messages.Pdu CloseRequest) (record { reading = refl; shown = refl; writing = refl; written = refl }) refl refl (placed (messages.Pdu CloseRequest) earlier at)).no_transfer some
passing ordinal earlier message given (views.reads fadu context) is at some = absurd cc
passing ordinal earlier message given (views.writes operation fadu) is at some = absurd cc
passing ordinal earlier message given views.ends is at some = absurd cc
passing ordinal earlier message given (views.cancels diagnostic) is at some = absurd cc
passing ordinal earlier message given (views.others one facts) is at some =
    record { selects = facts.selects (selection earlier); opens = facts.opens ordinal (regime earlier); moves = facts.moves given (under_way earlier); grows = facts.grows given }

pub record AreSecuredAlike (history other : History) : Type 0 where
  pub selects : selection other ≡ selection history
  pub opens : regime other ≡ regime history
  pub moves : under_way other ≡ under_way history
  pub nested : IsNested other
  pub named : NamesKnownChecks 0 (happened history) → NamesKnownChecks 0 (happened other)

pub secured_alike : (history : History) → IsNested history → IsSome (under_way history) → AreSecuredAlike history (secured history)
secured_alike [] nested some = absurd cc
secured_alike (entry ∷ earlier) nested some = by (secured_alike earlier nested.1) (secures entry.message) refl
  where
    by : (IsSome (under_way earlier) → AreSecuredAlike earlier (secured earlier)) → (b : Bool) → secures entry.message ≡ b → AreSecuredAlike (entry ∷ earlier) (cond b (entry ∷ earlier) (secured earlier))
    by later true is = record { selects = refl; opens = refl; moves = refl; nested = nested; named = λ named. named }
    by later false is =
        let passes = passing entry.ordinal earlier entry.message entry.given (view entry.message) is nested.0 some in
        let rest = later (sym (ap is_some passes.moves) ∙ some) in
        record {
          selects = rest.selects ∙ sym passes.selects;
          opens = rest.opens ∙ sym passes.opens;
          moves = rest.moves ∙ sym passes.moves;
          nested = rest.nested;
          named = λ named. rest.named (ungrown entry.message entry.given (happened earlier) passes.grows (named_before entry.said (with_heard entry.message entry.given (happened earlier)) named));
        }
