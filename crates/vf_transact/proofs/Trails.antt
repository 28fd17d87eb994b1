-- Pieces and tables, one more at the end; and which tables an image may represent then.
use Rattle.std.proofs.Common.{◌≡◌, inl, inr, ℕ, Bool, false, List, [], ◌∷◌, ◌++◌, Option, refl, sym, ap, subst, ◌∙◌, append_assoc}
use Rattle.std.proofs.lemmas.List.{append-nil}
use Rattle.vf_disk.proofs.Runs.{joined}
use Rattle.vf_initiator.specs.Assignments.{given_of}
use Rattle.vf_initiator.specs.declared.given.Given.{Given}
use Rattle.vf_initiator.specs.declared.plan.Plan.{Plan}
use Rattle.vf_store.specs.Represented.{Represents}
use Rattle.vf_store.specs.StoreState.{StoreState}
use Rattle.vf_tables.specs.declared.tables.Tables.{Tables}
use Rattle.vf_tables.specs.declared.task.Task.{Task}
use Rattle.vf_transact.specs.Conversation.{AnswersLastInPart, Converses, Standing, TakesOne, TakesPieces}
use Rattle.vf_transact.specs.Transaction.{KeepsStore, RepresentsOneOf, last_of}

-- ---- a piece more

pub more_pieces : (given : Given) (pieces : List (List ℕ)) (octets : List ℕ) (trail : List Tables) (at middle : Standing) (piece more : List ℕ) (at' : Standing)
    → TakesPieces given pieces octets trail at middle → TakesOne given piece more middle at' → TakesPieces given (pieces ++ piece ∷ []) (octets ++ more) (trail ++ at'.tables ∷ []) at at'
more_pieces given [] octets trail at middle piece more at' taken one = (
  more,
  [],
  [],
  at',
  (
    subst (λ (s : Standing). TakesOne given piece more s at') taken.2 one,
    (refl, refl, refl),
    ap (λ (l : List ℕ). l ++ more) taken.0 ∙ sym (append-nil more),
    ap (λ (l : List Tables). l ++ at'.tables ∷ []) taken.1,
  ),
)
more_pieces given (first ∷ pieces) octets trail at middle piece more at' taken one = (
  taken.0,
  taken.1 ++ more,
  taken.2 ++ at'.tables ∷ [],
  taken.3,
  (
    taken.4.0,
    more_pieces given pieces taken.1 taken.2 taken.3 middle piece more at' taken.4.1 one,
    ap (λ (l : List ℕ). l ++ more) taken.4.2 ∙ append_assoc taken.0 taken.1 more,
    ap (λ (l : List Tables). l ++ at'.tables ∷ []) taken.4.3,
  ),
)

-- ---- one of these tables, or of those

pub one_first : (some others : List Tables) (image : List ℕ) → RepresentsOneOf some image → RepresentsOneOf (some ++ others) image
one_first [] others image one = absurd one
one_first (tables ∷ some) others image (inl is) = inl is
one_first (tables ∷ some) others image (inr one) = inr (one_first some others image one)

pub one_later : (some others : List Tables) (image : List ℕ) → RepresentsOneOf others image → RepresentsOneOf (some ++ others) image
one_later [] others image one = one
one_later (tables ∷ some) others image one = inr (one_later some others image one)

-- what represents these tables represents one of those
abbrev pub IsAmongTables : Tables → List Tables → Type 0
IsAmongTables tables trail = (image : List ℕ) → Represents image tables → RepresentsOneOf trail image

pub one_then : (first : Tables) (trail : List Tables) (middle : Tables) (others : List Tables) (image : List ℕ) → IsAmongTables middle (first ∷ trail) → RepresentsOneOf (middle ∷ others) image → RepresentsOneOf (first ∷ (trail ++ others)) image
one_then first trail middle others image among (inl is) = one_first (first ∷ trail) others image (among image is)
one_then first trail middle others image among (inr one) = one_later (first ∷ trail) others image one

pub among_then : (first : Tables) (trail : List Tables) (middle : Tables) (others : List Tables) (last : Tables) → IsAmongTables middle (first ∷ trail) → IsAmongTables last (middle ∷ others) → IsAmongTables last (first ∷ (trail ++ others))
among_then first trail middle others last one other = λ image is. one_then first trail middle others image one (other image is)

-- the tables after pieces are the last of the trail
pub last_among : (given : Given) (pieces : List (List ℕ)) (octets : List ℕ) (trail : List Tables) (at at' : Standing) → TakesPieces given pieces octets trail at at' → IsAmongTables at'.tables (at.tables ∷ trail)
last_among given [] octets trail at at' taken = λ image is. inl (subst (λ (s : Standing). Represents image s.tables) taken.2 is)
last_among given (piece ∷ pieces) octets trail at at' taken = λ image is.
    inr (subst (λ (l : List Tables). RepresentsOneOf l image) (sym taken.4.3) (last_among given pieces taken.1 taken.2 taken.3 at' taken.4.1 image is))

last_cut : (plan : Plan) (kept : Option Task) (heard said : List ℕ) (trail : List Tables) (at at' : Standing) → AnswersLastInPart plan kept heard said trail at at' → IsAmongTables at'.tables (at.tables ∷ trail)
last_cut plan kept heard said trail at at' c = λ image is.
    subst (λ (l : List Tables). RepresentsOneOf (at.tables ∷ l) image) (sym c.trail_is) (one_later (at.tables ∷ c.first) (at'.tables ∷ []) image (inl is))

pub among_conversed : (plan : Plan) (kept : Option Task) (heard said : List ℕ) (failed : Type 0) (trail : List Tables) (at at' : Standing) → Converses plan kept heard said failed trail at at' → IsAmongTables at'.tables (at.tables ∷ trail)
among_conversed plan kept heard said failed trail at at' (inl all) = last_among (given_of plan kept) all.pieces all.answers trail at at' all.takes
among_conversed plan kept heard said failed trail at at' (inr (cut, inl begins)) = λ image is. inl (subst (λ (s : Standing). Represents image s.tables) begins.stays is)
among_conversed plan kept heard said failed trail at at' (inr (cut, inr last)) = last_cut plan kept heard said trail at at' last

-- the last one, after others
last_same : (some : List Tables) (next : Tables) (later : List Tables) → last_of (some ++ next ∷ later) ≡ last_of (next ∷ later)
last_same [] next later = refl
last_same (tables ∷ []) next later = refl
last_same (tables ∷ other ∷ some) next later = last_same (other ∷ some) next later

last_then : (some others : List Tables) (image : List ℕ) → RepresentsOneOf (last_of others) image → RepresentsOneOf (last_of (some ++ others)) image
last_then some [] image one = absurd one
last_then some (next ∷ later) image one = subst (λ (l : List Tables). RepresentsOneOf l image) (sym (last_same some next later)) one

now_then : (tables' : Tables) (some others : List Tables) (image : List ℕ) → RepresentsOneOf (tables' ∷ last_of others) image → RepresentsOneOf (tables' ∷ last_of (some ++ others)) image
now_then tables' some others image (inl is) = inl is
now_then tables' some others image (inr one) = inr (last_then some others image one)

-- ---- a store, from a call to the next one

module _ {D : Type 0} (shown : D → Option (List ℕ)) (may_leave : D → List ℕ → Type 0) (moment : D → ℕ) (left_since : D → ℕ → List ℕ → Type 0) where
  pub keeps_then : (old mid new : StoreState D) (trail others : List Tables) (middle tables' : Tables) (is_fault : Bool) → KeepsStore shown may_leave moment left_since old mid trail middle false
      → IsAmongTables mid.tables (old.tables ∷ trail) → KeepsStore shown may_leave moment left_since mid new others tables' is_fault
      → KeepsStore shown may_leave moment left_since old new (trail ++ others) tables' is_fault
  keeps_then old mid new trail others middle tables' is_fault one among other = record {
    any_moment = joined moment left_since old.disk mid.disk new.disk (RepresentsOneOf (old.tables ∷ trail)) (RepresentsOneOf (mid.tables ∷ others)) (RepresentsOneOf (old.tables ∷ (trail ++ others))) one.any_moment other.any_moment
        (λ image is. one_first (old.tables ∷ trail) others image is)
        (λ image is. one_then old.tables trail mid.tables others image among is);
    now = λ image left. now_then tables' trail others image (other.now image left);
    stands = other.stands;
  }
