-- Requests that are said one after another, and files that are made so.
use Rattle.std.proofs.Common.{◌≡◌, ◌∙◌, ℕ, Bool, false, true, List, [], ◌∷◌, ◌++◌, Option, Result, Ok, Err, OnOk, is_err, inl, inr, ⊎_elim, ap, append_assoc, refl, sym, subst}
use Rattle.vf_base.specs.declared.events.ScriptEvent.{ScriptEvent}
use Rattle.vf_stack.specs.declared.request.Request.{Request}
use Rattle.vf_base.specs.declared.errors.NoMemory.{NoMemory}
use Rattle.vf_disk.specs.Disk.{LeavesOnly}
use Rattle.vf_responder.specs.Along.{RepresentsAlong}
use Rattle.vf_responder.specs.Full.{IsFullAt, WhereFull}
use Rattle.vf_responder.specs.Represents.{Kept, Represents}
use Rattle.vf_responder.specs.Run.{trail}
use Rattle.vf_session.specs.declared.units.TokenSide.{TokenSide}
use Rattle.vf_session.specs.declared.units.TokenSide.TheVariants.{Initiator}
use Rattle.vf_stack.specs.Association.{Association}
use Rattle.vf_stack.specs.Represents as stacks
use Rattle.vf_stack.specs.Sending.{May, octets_sent, with_request}
use Rattle.vf_stack.specs.Sends.{Sends}
use Rattle.vf_store.specs.StoreState.{IsRepresented}
use Rattle.vf_cli_generate.proofs.Going.{map_ok, goes_by, goes_event, goes_nowhere, goes_then}
use Rattle.vf_cli_generate.specs.Generating.{Answer, Both, Goes, HasSaid, IsCalling, SaysAll, SaysFront, after_request, good, requested}

-- one request more was said
pub says_more : (link : ℕ) (requests : List Request) (request : Request) (both between both' : Both) (first later : List ScriptEvent) → SaysAll link requests both first between
    → SaysAll link (request ∷ []) between later both' → SaysAll link (requests ++ request ∷ []) both (first ++ later) both'
says_more link [] request both between both' first later said one =
    subst (λ (events : List ScriptEvent). SaysAll link (request ∷ []) both (events ++ later) both') (sym said.0)
    (subst (λ (b : Both). SaysAll link (request ∷ []) b later both') said.1 one)
says_more link (next ∷ requests) request both between both' first later said one = (
  said.0,
  said.1 ++ later,
  said.2,
  (
    said.3.0,
    says_more link requests request said.2 between both' said.1 later said.3.1 one,
    ap (λ (events : List ScriptEvent). events ++ later) said.3.2 ∙ append_assoc said.0 said.1 later,
  ),
)

-- a front of one more, or of fewer
pub front_more : (link : ℕ) (requests : List Request) (request : Request) (both between : Both) (first later : List ScriptEvent) → SaysAll link requests both first between
    → SaysFront link (request ∷ []) between later → SaysFront link (requests ++ request ∷ []) both (first ++ later)
front_more link [] request both between first later said one =
    subst (λ (events : List ScriptEvent). SaysFront link (request ∷ []) both (events ++ later)) (sym said.0)
    (subst (λ (b : Both). SaysFront link (request ∷ []) b later) said.1 one)
front_more link (next ∷ requests) request both between first later said one =
    inr (
      said.0,
      said.1 ++ later,
      said.2,
      (
        said.3.0,
        front_more link requests request said.2 between said.1 later said.3.1 one,
        ap (λ (events : List ScriptEvent). events ++ later) said.3.2 ∙ append_assoc said.0 said.1 later,
      ),
    )

pub front_first : (link : ℕ) (requests more : List Request) (both : Both) (events : List ScriptEvent) → SaysFront link requests both events → SaysFront link (requests ++ more) both events
front_first link [] [] both events none = none
front_first link [] (request ∷ more) both events none = inl none
front_first link (request ∷ requests) more both events front =
    ⊎_elim (λ none. inl none) (λ some. inr (some.0, some.1, some.2, (some.3.0, front_first link requests more some.2 some.1 some.3.1, some.3.2))) front

pub says_front : (link : ℕ) (requests : List Request) (both both' : Both) (events : List ScriptEvent) → SaysAll link requests both events both' → SaysFront link requests both events
says_front link [] both both' events said = said.0
says_front link (request ∷ requests) both both' events said = inr (said.0, said.1, said.2, (said.3.0, says_front link requests said.2 both' said.1 said.3.1, said.3.2))

pub front_none : (link : ℕ) (requests : List Request) (both : Both) → SaysFront link requests both []
front_none link [] both = refl
front_none link (request ∷ requests) both = inl refl

-- ---- one request

pub not_true : (one : Bool) → one ≡ false → one ≡ true → ⊥
not_true one is wrong = absurd (let no : false ≡ true = sym is ∙ wrong in cc)

-- a sent request
pub when_ok : (answer : Result (Unit {0}) NoMemory) (P : Type 0) → is_err answer ≡ false → OnOk answer P → P
when_ok (Ok done) P is holds = holds
when_ok (Err error) P is holds = absurd (let no : true ≡ false = is in cc)

pub calls_after : (old new : stacks.Kept) (calling : Association) (request : Request) (octets : List ℕ) → IsCalling old calling → stacks.IsSame old.exchange new.exchange
    → Sends (stacks.side_of old) calling request [] new octets → IsCalling new (with_request Initiator calling request)
calls_after old new calling request octets is same sends = record {
  side = same.0 ∙ is.side;
  offer = same.1 ∙ is.offer;
  represents = subst (λ (side : TokenSide). stacks.Represents new (with_request side calling request)) is.side sends.represents;
}

pub octets_are : (old new : stacks.Kept) (calling : Association) (request : Request) (octets : List ℕ) → IsCalling old calling → Sends (stacks.side_of old) calling request [] new octets
    → octets ≡ octets_sent Initiator calling request
octets_are old new calling request octets is sends = sends.appended ∙ ap (λ (side : TokenSide). octets_sent side calling request) is.side

-- a calling end may send what it asks of its association
pub may_send : (stack : stacks.Kept) (calling : Association) (request : Request) → IsCalling stack calling → May (stacks.side_of stack) (stacks.offer_of stack) calling request → May Initiator false calling request
may_send stack calling request is may =
    subst (λ (offer : Bool). May Initiator offer calling request) is.offer (subst (λ (side : TokenSide). May side (stacks.offer_of stack) calling request) is.side may)

pub may_ask : (stack : stacks.Kept) (calling : Association) (request : Request) → IsCalling stack calling → May Initiator false calling request → May (stacks.side_of stack) (stacks.offer_of stack) calling request
may_ask stack calling request is may =
    subst (λ (side : TokenSide). May side (stacks.offer_of stack) calling request) (sym is.side) (subst (λ (offer : Bool). May Initiator offer calling request) (sym is.offer) may)

left_out : (link : ℕ) (request : Request) (both : Both) → (May Initiator false both.calling request → ⊥) → SaysAll link (request ∷ []) both [] both
left_out link request both never = ([], [], both, (inr (never, refl, refl), (refl, refl), refl))

sent_one : (link : ℕ) (request : Request) (both : Both) → May Initiator false both.calling request
    → SaysAll link (request ∷ []) both (requested link request both.calling ∷ []) (after_request link request both)
sent_one link request both may = (requested link request both.calling ∷ [], [], after_request link request both, (inl (may, refl, refl), (refl, refl), refl))

one_front : (link : ℕ) (request : Request) (both : Both) → May Initiator false both.calling request → SaysFront link (request ∷ []) both (requested link request both.calling ∷ [])
one_front link request both may = inr (requested link request both.calling ∷ [], [], after_request link request both, (inl (may, refl, refl), refl, refl))

module _ {D : Type 0} (shown : D → Option (List ℕ)) (may_leave : D → List ℕ → Type 0) (moment : D → ℕ) (left_since : D → ℕ → List ℕ → Type 0)
    (only_now : (disk : D) (image : List ℕ) → left_since disk (moment disk) image → may_leave disk image) where
  pub goes_left_out : (link : ℕ) (request : Request) (both : Both) (old : Kept D) (stack : stacks.Kept) → (May Initiator false both.calling request → ⊥) → IsCalling stack both.calling
      → Represents old both.serving → IsRepresented shown may_leave old.store
      → Goes shown may_leave moment left_since (HasSaid link (request ∷ []) both stack) (SaysFront link (request ∷ []) both) both.serving old old good
  goes_left_out link request both old stack never is represents stands =
      goes_nowhere shown may_leave moment left_since only_now (HasSaid link (request ∷ []) both stack) (SaysFront link (request ∷ []) both) both.serving old
      (both.calling, (left_out link request both never, is)) (front_none link (request ∷ []) both) represents stands

  pub goes_sent : (link : ℕ) (request : Request) (both : Both) (old new : Kept D) (stack : stacks.Kept) (answer : Answer) → May Initiator false both.calling request
      → LeavesOnly moment left_since old.store.disk new.store.disk (RepresentsAlong both.serving (trail (requested link request both.calling) both.serving))
      → WhereFull answer (λ place. IsFullAt (trail (requested link request both.calling) both.serving) both.serving new.store place) → OnOk answer (Represents new (after_request link request both).serving) → OnOk answer (IsCalling stack (after_request link request both).calling)
      → OnOk answer (IsRepresented shown may_leave new.store)
      → Goes shown may_leave moment left_since (HasSaid link (request ∷ []) both stack) (SaysFront link (request ∷ []) both) both.serving old new answer
  goes_sent link request both old new stack answer may run_on full represents is stands =
      goes_event shown may_leave moment left_since (requested link request both.calling) (HasSaid link (request ∷ []) both stack) (SaysFront link (request ∷ []) both) both.serving old new answer
      (map_ok answer _ _ (λ calls. ((after_request link request both).calling, (sent_one link request both may, calls))) is) (one_front link request both may) run_on full represents stands

  -- and one more after others
  pub goes_one_more : (link : ℕ) (requests : List Request) (request : Request) (both : Both) (old mid new : Kept D) (stack stack' : stacks.Kept) (answer : Answer)
      → Goes shown may_leave moment left_since (HasSaid link requests both stack) (SaysFront link requests both) both.serving old mid good
      → ((between : Both) → Represents mid between.serving → IsCalling stack between.calling → IsRepresented shown may_leave mid.store
      → Goes shown may_leave moment left_since (HasSaid link (request ∷ []) between stack') (SaysFront link (request ∷ []) between) between.serving mid new answer)
      → Goes shown may_leave moment left_since (HasSaid link (requests ++ request ∷ []) both stack') (SaysFront link (requests ++ request ∷ []) both) both.serving old new answer
  goes_one_more link requests request both old mid new stack stack' answer first next =
      goes_then shown may_leave moment left_since (HasSaid link requests both stack) (HasSaid link (requests ++ request ∷ []) both stack') (SaysFront link requests both)
      (SaysFront link (requests ++ request ∷ []) both) both.serving old mid new answer first
      (λ events serving said represents stands.
      let between : Both = record { serving = serving; calling = said.0 } in
      goes_by shown may_leave moment left_since (HasSaid link (request ∷ []) between stack') (λ later serving'. HasSaid link (requests ++ request ∷ []) both stack' (events ++ later) serving')
      (SaysFront link (request ∷ []) between) (λ later. SaysFront link (requests ++ request ∷ []) both (events ++ later)) serving mid new answer (next between represents said.1.1 stands)
      (λ later serving' more. (more.0, (says_more link requests request both between (record { serving = serving'; calling = more.0 }) events later said.1.0 more.1.0, more.1.1)))
      (λ later front. front_more link requests request both between events later said.1.0 front))
      (λ events front. front_first link requests (request ∷ []) both events front)
