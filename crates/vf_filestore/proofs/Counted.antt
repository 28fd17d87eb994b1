-- How many transfers an open has had doesn't depend on what came before the open.
use Rattle.std.proofs.Common.{◌≡◌, ℕ, ◌+◌, Bool, true, false, cond, [], ◌∷◌, ◌++◌, Option, None, refl, ap}
use Rattle.std.specs.Prelude.{IsSome}
use Rattle.vf_elements.specs.declared.message.Message.{Message}
use Rattle.vf_elements.specs.declared.message.Message.TheVariants as messages
use Rattle.vf_pdu.specs.declared.pdu.Pdu.{Pdu}
use Rattle.vf_pdu.specs.declared.pdu.Pdu.TheVariants.{OpenRequest, CloseRequest, TransferEndRequest, CancelRequest}
use Rattle.vf_filestore.specs.Dockets.{since_selection}
use Rattle.vf_filestore.specs.Dockets.{selects as is_selection}
use Rattle.vf_filestore.specs.History.{History, Entry, Regime, counting, done, opening, regime}
use Rattle.vf_filestore.specs.Sound.{IsNested}
use Rattle.vf_filestore.proofs.Nested.{none_some}
use Rattle.vf_filestore.proofs.Retained.{selected_at}
use Rattle.vf_filestore.proofs.Views.{view}

-- where an open stands in the one, the other has had as many transfers in it
abbrev pub AreCounted : (history other : History) → Type 0
AreCounted history other = IsSome (regime history) → done other ≡ done history

counted_request : (ordinal : ℕ) (request : Pdu) (before : Option Regime) (n m : ℕ) → (IsSome before → m ≡ n) → IsSome (opening ordinal (messages.Pdu request) before)
    → counting (messages.Pdu request) m ≡ counting (messages.Pdu request) n
counted_request ordinal (OpenRequest mode contents controls activity) before n m same some = refl
counted_request ordinal CloseRequest before n m same some = absurd cc
counted_request ordinal TransferEndRequest before n m same some = ap (λ k. k + 1) (same some)
counted_request ordinal (CancelRequest diagnostic) before n m same some = ap (λ k. k + 1) (same some)
counted_request ordinal request before n m same some = same some

counted_message : (ordinal : ℕ) (message : Message) (before : Option Regime) (n m : ℕ) → (IsSome before → m ≡ n) → IsSome (opening ordinal message before) → counting message m ≡ counting message n
counted_message ordinal (messages.Pdu request) before n m same some = counted_request ordinal request before n m same some
counted_message ordinal message before n m same some = same some

-- an entry more
counted_after : (entry : Entry) (history other : History) → AreCounted history other → AreCounted (entry ∷ history) (entry ∷ other)
counted_after entry history other same some = counted_message entry.ordinal entry.message (regime history) (done history) (done other) same some

-- where no open stands
pub counted_none : (history other : History) → regime history ≡ None → AreCounted history other
counted_none history other none some = none_some (done other ≡ done history) (regime history) none some

-- from the last selection on, and what a recovery takes up
pub counted_since : (history : History) → IsNested history → AreCounted history (since_selection history)
counted_since [] nested = λ some. absurd cc
counted_since (entry ∷ earlier) nested = by (counted_since earlier nested.1) (is_selection entry.message) refl
  where
    by : AreCounted earlier (since_selection earlier) → (b : Bool) → is_selection entry.message ≡ b → AreCounted (entry ∷ earlier) (cond b (entry ∷ []) (entry ∷ since_selection earlier))
    by rest true is = counted_after entry earlier [] (counted_none earlier [] (selected_at earlier entry.message (view entry.message) is nested.0).no_regime)
    by rest false is = counted_after entry earlier (since_selection earlier) rest

pub counted_resumed : (docket party : History) → AreCounted docket (docket ++ party)
counted_resumed [] party = λ some. absurd cc
counted_resumed (entry ∷ docket) party = counted_after entry docket (docket ++ party) (counted_resumed docket party)
