-- Octets that are taken at once are taken one by one.
use Rattle.std.proofs.Common.{◌≡◌, ◌≤◌, ◌<◌, ◌+◌, ℕ, Bool, true, false, cond, not, ◌&&◌, nat_le, List, [], ◌∷◌, ◌++◌, length, refl, sym, ap, subst, ◌∙◌, append-nil, length-append, arith, Option, None, inl, inr}
use Rattle.std.proofs.lemmas.Bool.Decides.{nat_tests}
use Rattle.vf_initiator.proofs.Ended.{ended_over, fed_stays, looked, over_spent, over_takes}
use Rattle.vf_initiator.specs.Few.{TakesAtOnce, TakesFed, fed_of, received}
use Rattle.vf_initiator.specs.Owed.{unless_ended}
use Rattle.vf_initiator.specs.Rows.{is_over}
use Rattle.vf_initiator.specs.Talking.{AnswersAll, Greets, Takes, TakesNext, TakesOctet, Talk, received_next, released, within_budget}
use Rattle.vf_initiator.specs.declared.conduct.Conduct.{Conduct}
use Rattle.vf_initiator.specs.declared.given.Given.{Given}
use Rattle.vf_session.specs.declared.units.TokenSide.{TokenSide}
use Rattle.vf_session.specs.declared.units.TokenSide.TheVariants.{Initiator}
use Rattle.vf_stack.specs.Association.{Association, is_ended}
use Rattle.vf_stack.specs.Few.{IsStill, TellsLast, lengthened}
use Rattle.vf_stack.specs.Receiving.{Fed, nothing_fed, octets_received, piece_received}
use Rattle.vf_stack.specs.declared.indication.Indication.{Indication}
use Rattle.vf_stack.specs.declared.request.Request.{Request}

-- ---- one octet

next_by : (given : Given) (offer : Bool) (talk : Talk) (octet : ℕ) (octets : List ℕ) (talk' : Talk) → TakesAtOnce given offer talk (octet ∷ []) octets talk' → TakesNext given offer talk octet octets talk'
next_by given offer talk octet octets talk' at_once =
    record {
      greeted = at_once.greeted;
      answered = at_once.answered;
      greeting_octets = at_once.greeting_octets;
      answer_octets = at_once.answer_octets;
      greets = at_once.greets;
      answers = at_once.answers;
      octets_are = at_once.octets_are;
      talk_is = at_once.talk_is;
    }

-- the first one, and those after it
takes_first : (given : Given) (offer : Bool) (talk : Talk) (octet : ℕ) (first : List ℕ) (middle : Talk) (piece others : List ℕ) (talk' : Talk) → is_over talk.conduct.stage ≡ false
    → TakesNext given offer talk octet first middle → Takes given offer middle piece others talk' → Takes given offer talk (octet ∷ piece) (first ++ others) talk'
takes_first given offer talk octet first middle piece others talk' goes next later =
    (first, others, middle, (subst (λ (t : Bool). TakesOctet given offer talk octet first middle t) (sym goes) next, later, refl))

pub single : (given : Given) (offer : Bool) (talk : Talk) (octet : ℕ) (octets : List ℕ) (talk' : Talk) → is_over talk.conduct.stage ≡ false → TakesAtOnce given offer talk (octet ∷ []) octets talk'
    → Takes given offer talk (octet ∷ []) octets talk'
single given offer talk octet octets talk' goes at_once =
    subst (λ (o : List ℕ). Takes given offer talk (octet ∷ []) o talk') (append-nil octets)
    (takes_first given offer talk octet octets talk' [] [] talk' goes (next_by given offer talk octet octets talk' at_once) (refl, refl))

-- what an octet tells alone
alone : (own : TokenSide) (a : Association) (octet : ℕ) → octets_received own a (octet ∷ []) ≡ piece_received own a (octet ∷ [])
alone own a octet =
    let f = piece_received own a (octet ∷ []) in
    ap (λ (i : List Indication). record { indications = i; answers = f.answers ++ []; association = f.association }) (append-nil f.indications)
    ∙ ap (λ (o : List ℕ). record { indications = f.indications; answers = o; association = f.association }) (append-nil f.answers)

-- ---- an octet that tells nothing

unless_not : (over is_ended : Bool) (x y : Talk) → is_ended ≡ false → cond (not over && is_ended) x y ≡ y
unless_not true is_ended x y is = refl
unless_not false is_ended x y is = subst (λ (t : Bool). cond t x y ≡ y) (sym is) refl

not_spent : (octets : ℕ) → octets < 1073741824 → nat_le 1073741824 octets ≡ false
not_spent octets few = grind (arith, nat_tests)

goes_on : (talk : Talk) → is_ended talk.association.exchange.ending ≡ false → length talk.association.stream < 1073741824 → talk ≡ within_budget (released talk)
goes_on talk goes few =
    sym (ap within_budget (unless_not (is_over talk.conduct.stage) _ _ talk goes) ∙ unless_not (is_over talk.conduct.stage) _ _ talk (not_spent (length talk.association.stream) few))

still_next : (given : Given) (offer : Bool) (talk : Talk) (octet : ℕ) (later : List ℕ) → talk.greeting ≡ None → IsStill Initiator talk.association octet later
    → length (talk.association.stream ++ octet ∷ []) < 1073741824 → TakesNext given offer talk octet [] (record talk { association = lengthened talk.association (octet ∷ []) })
still_next given offer talk octet later none still few =
    let middle : Talk = record talk { association = lengthened talk.association (octet ∷ []) } in
    let fed : octets_received Initiator talk.association (octet ∷ []) ≡ nothing_fed (lengthened talk.association (octet ∷ [])) = alone Initiator talk.association octet ∙ still.nothing in
    record {
      greeted = middle;
      answered = middle;
      greeting_octets = [];
      answer_octets = [];
      greets =
          subst (λ (g : Option Request). Greets offer (received_next talk octet) g [] middle) (sym none)
          (refl, ap (λ (f : Fed). record talk { association = f.association }) (sym fed));
      answers = subst (λ (f : Fed). AnswersAll given offer middle f.indications [] middle) (sym fed) (refl, refl);
      octets_are = ap (λ (f : Fed). f.answers ++ [] ++ []) (sym fed);
      talk_is = goes_on middle still.goes few;
    }

-- ---- so few octets

over_after : (talk : Talk) → is_ended talk.association.exchange.ending ≡ true → is_over (within_budget (released talk)).conduct.stage ≡ true
over_after talk e =
    let c : Conduct = unless_ended (is_ended talk.association.exchange.ending) talk.conduct in
    let over : is_over c.stage ≡ true = ended_over (is_ended talk.association.exchange.ending) talk.conduct e in
    ap (λ (t : Talk). is_over t.conduct.stage) (looked talk) ∙ (ap (λ (d : Conduct). is_over d.stage) (over_spent (length talk.association.stream) c over) ∙ over)

last_takes : (given : Given) (offer : Bool) (talk : Talk) (octet : ℕ) (later octets : List ℕ) (talk' : Talk) → is_over talk.conduct.stage ≡ false
    → is_ended (piece_received Initiator talk.association (octet ∷ [])).association.exchange.ending ≡ true → octets_received Initiator talk.association (octet ∷ later) ≡ piece_received Initiator talk.association (octet ∷ [])
    → TakesAtOnce given offer talk (octet ∷ later) octets talk' → Takes given offer talk (octet ∷ later) octets talk'
last_takes given offer talk octet later octets talk' goes ends whole at_once =
    let a = talk.association in
    let fed : octets_received Initiator a (octet ∷ later) ≡ octets_received Initiator a (octet ∷ []) = whole ∙ sym (alone Initiator a octet) in
    let one : TakesAtOnce given offer talk (octet ∷ []) octets talk' = subst (λ (f : Fed). TakesFed given offer (received talk f) f octets talk') fed at_once in
    let ends_so : is_ended (octets_received Initiator a (octet ∷ [])).association.exchange.ending ≡ true = ap (λ (f : Fed). is_ended f.association.exchange.ending) (alone Initiator a octet) ∙ ends in
    let stays = fed_stays given offer (received talk (fed_of talk (octet ∷ []))) (fed_of talk (octet ∷ [])) octets talk' one in
    let over : is_over talk'.conduct.stage ≡ true = ap (λ (t : Talk). is_over t.conduct.stage) one.talk_is ∙ over_after one.answered (stays.ended ends_so) in
    subst (λ (o : List ℕ). Takes given offer talk (octet ∷ later) o talk') (append-nil octets)
    (takes_first given offer talk octet octets talk' later [] talk' goes (next_by given offer talk octet octets talk' one) (over_takes given offer talk' later over))

pub few_taken : (given : Given) (offer : Bool) (talk : Talk) (piece octets : List ℕ) (talk' : Talk) → is_over talk.conduct.stage ≡ false → talk.greeting ≡ None → TellsLast Initiator talk.association piece
    → 1 ≤ length piece → length talk.association.stream + length piece ≤ 1073741824 → TakesAtOnce given offer talk piece octets talk' → Takes given offer talk piece octets talk'
few_taken given offer talk [] octets talk' goes none tells some few at_once = absurd (omega (arith, some))
few_taken given offer talk (octet ∷ []) octets talk' goes none tells some few at_once = single given offer talk octet octets talk' goes at_once
few_taken given offer talk (octet ∷ (next ∷ later)) octets talk' goes none (inl still) some few at_once =
    let middle : Talk = record talk { association = lengthened talk.association (octet ∷ []) } in
    let longer = length-append talk.association.stream (octet ∷ []) in
    let here : length (talk.association.stream ++ octet ∷ []) < 1073741824 = omega (arith, longer, few) in
    let left : length middle.association.stream + length (next ∷ later) ≤ 1073741824 = omega (arith, longer, few) in
    let first = still_next given offer talk octet (next ∷ later) none still.0 here in
    let rest : TakesAtOnce given offer middle (next ∷ later) octets talk' = subst (λ (f : Fed). TakesFed given offer (received talk f) f octets talk') still.0.others at_once in
    takes_first given offer talk octet [] middle (next ∷ later) octets talk' goes first
    (few_taken given offer middle (next ∷ later) octets talk' goes none still.1 (omega arith) left rest)
few_taken given offer talk (octet ∷ (next ∷ later)) octets talk' goes none (inr last) some few at_once =
    elim last.last [
      | inl e ↦ absurd (let f : next ∷ later ≡ [] = e in cc)
      | inr e ↦ last_takes given offer talk octet (next ∷ later) octets talk' goes e last.whole at_once
    ]
