-- Proposals as they count, and the contexts that they come to.
use Rattle.std.proofs.Common.{◌≡◌, ◌+◌, ◌<◌, ℕ, Bool, true, false, ◌||◌, cond, if◌then◌else◌, List, [], ◌∷◌, ◌++◌, length, map, drop, take, get_or, refl, ap, sym, ◌∙◌, subst, append_assoc, Option, None, Some, Result, Ok, Err, unwrap_or}
use Rattle.std.proofs.lemmas.Bool.Decides.{Decides-int_eq}
use Rattle.std.proofs.lemmas.List.{drop_more, map-append, take_more}
use Rattle.std.specs.BTreeSet.{BTreeSet, Updates}
use Rattle.std.specs.Ordering.{int_cmp, int_eq}
use Rattle.std.specs.Prelude.{ℤ, ◌&&◌, filter, not}
use Rattle.vf_base.specs.declared.spdu_kind.SpduKind.TheVariants.{CN}
use Rattle.vf_session.specs.Trace.{Trace}
use Rattle.vf_session.specs.declared.units.SessionSay.{SessionSay}
use Rattle.vf_session.specs.declared.units.SessionSay.TheVariants as say
use Rattle.vf_session.specs.declared.units.TokenSide.TheVariants.{Responder}
use Rattle.vf_stack.specs.Contexts.{accepted, accepted_of, accepts, counted, counted_after, entries, is_accepted, is_met, offers_in, proposals, proposes}
use Rattle.vf_stack.specs.Represents.{AreMet}
use Rattle.vf_stack.specs.Requests.{results_of}
use Rattle.vf_upper.specs.Primitives.{answered, offered, reading, syntax_of}
use Rattle.vf_upper.specs.Written.{accepted as in_force}
use Rattle.vf_upper.specs.declared.contexts.Offer.{Offer}
use Rattle.vf_upper.specs.declared.errors.UpperError.{UpperError}
use Rattle.vf_upper.specs.declared.primitive.Primitive.{Primitive}
use Rattle.vf_upper.specs.declared.primitive.Primitive.TheVariants as primitives
use Rattle.vf_upper_grammar.specs.Syntaxes.{is_ours}

-- ---- the identifiers that were met

or-none : (b : Bool) → (b || false) ≡ cond b true false
or-none true = refl
or-none false = refl

or-later : (a b c : Bool) → (a || cond b true c) ≡ cond b true (a || c)
or-later true true c = refl
or-later true false c = refl
or-later false true c = refl
or-later false false c = refl

met-last : (ids : List ℤ) (id q : ℤ) → is_met (ids ++ id ∷ []) q ≡ cond (int_eq id q) true (is_met ids q)
met-last [] id q = or-none (int_eq id q)
met-last (met ∷ ids) id q = ap (λ (b : Bool). int_eq met q || b) (met-last ids id q) ∙ or-later (int_eq met q) (int_eq id q) (is_met ids q)

pub met-more : (set set' : BTreeSet ℤ) (ids : List ℤ) (id : ℤ) → Updates int_cmp set set' id true → AreMet set ids → AreMet set' (ids ++ id ∷ [])
met-more set set' ids id update are =
    λ q. update.0 q ∙ ap (λ (b : Bool). cond (int_eq id q) true b) (are q) ∙ sym (met-last ids id q)

-- ---- in the loop

abbrev pub ids_of : List Offer → List ℤ
ids_of offers = map (λ (offer : Offer). offer.id) offers

pub counted-onward : (all : List Offer) (i : ℕ) (offer : Offer) (set : BTreeSet ℤ) (made made' : List Offer) (first : Bool)
    → i < length all → offer ≡ get_or all i offer → first ≡ not (is_met (ids_of (take i all)) offer.id) → AreMet set (ids_of (take i all) ++ offer.id ∷ [])
    → counted_after [] all ≡ made ++ counted_after (ids_of (take i all)) (drop i all) → made' ≡ made ++ counted first offer ∷ []
    → AreMet set (ids_of (take (i + 1) all)) × (counted_after [] all ≡ made' ++ counted_after (ids_of (take (i + 1) all)) (drop (i + 1) all))
counted-onward all i offer set made made' first within is new met before put =
    let ids = ids_of (take i all) in
    let taken : take (i + 1) all ≡ take i all ++ offer ∷ [] = take_more all i offer within ∙ ap (λ (o : Offer). take i all ++ o ∷ []) (sym is) in
    let later : ids_of (take (i + 1) all) ≡ ids ++ offer.id ∷ [] = ap ids_of taken ∙ map-append (λ (offer : Offer). offer.id) (take i all) (offer ∷ []) in
    let rest : drop i all ≡ offer ∷ drop (i + 1) all = drop_more all i offer within ∙ ap (λ (o : Offer). o ∷ drop (i + 1) all) (sym is) in
    let M : List ℤ → Type 0 = λ ids. AreMet set ids in
    let after = counted_after (ids ++ offer.id ∷ []) (drop (i + 1) all) in (
      subst M (sym later) met,
      before
          ∙ ap (λ (offers : List Offer). made ++ counted_after ids offers) rest
          ∙ ap (λ (b : Bool). made ++ counted b offer ∷ after) (sym new)
          ∙ sym (append_assoc made (counted first offer ∷ []) after)
          ∙ ap (λ (m : List Offer). m ++ after) (sym put)
          ∙ ap (λ (ids : List ℤ). made' ++ counted_after ids (drop (i + 1) all)) (sym later),
    )

-- ---- what an identifier means

and-none : (b : Bool) → (b && false) ≡ false
and-none true = refl
and-none false = refl

and-some : (b : Bool) → (b && true) ≡ b
and-some true = refl
and-some false = refl

chosen-syntax : (id : ℤ) (offer : Offer) (kept : List Offer) (b : Bool)
    → syntax_of id (in_force (entries (if b then offer ∷ kept else kept))) ≡ (if b && int_eq offer.id id then Some offer.syntax else syntax_of id (in_force (entries kept)))
chosen-syntax id offer kept true = refl
chosen-syntax id offer kept false = refl

accepted-syntax : (id : ℤ) (offer : Offer) (offers : List Offer)
    → syntax_of id (in_force (accepted_of (offer ∷ offers))) ≡ (if is_accepted offer && int_eq offer.id id then Some offer.syntax else syntax_of id (in_force (accepted_of offers)))
accepted-syntax id offer offers = chosen-syntax id offer (filter is_accepted offers) (is_accepted offer)

-- an identifier that was met isn't accepted again

refused-then : (rules ours : Bool) → (((rules && false) && ours) && true) ≡ false
refused-then true ours = refl
refused-then false ours = refl

later-refused : (ids : List ℤ) (offer : Offer) (id : ℤ) (here : Bool) → int_eq offer.id id ≡ here → is_met ids id ≡ true → (is_accepted (counted (not (is_met ids offer.id)) offer) && here) ≡ false
later-refused ids offer id true e met =
    let same : is_met ids offer.id ≡ true = ap (is_met ids) ((Decides-int_eq offer.id id).0 e) ∙ met in
    ap (λ (m : Bool). ((offer.ber && not m) && is_ours offer.syntax) && true) same ∙ refused-then offer.ber (is_ours offer.syntax)
later-refused ids offer id false e met = and-none (is_accepted (counted (not (is_met ids offer.id)) offer))

still-met : (b m : Bool) → m ≡ true → cond b true m ≡ true
still-met true m e = refl
still-met false m e = e

met-none : (ids : List ℤ) (offers : List Offer) (id : ℤ) → is_met ids id ≡ true → syntax_of id (in_force (accepted_of (counted_after ids offers))) ≡ None
met-none ids [] id met = refl
met-none ids (offer ∷ offers) id met =
    let after = ids ++ offer.id ∷ [] in
    let others = counted_after after offers in
    let later = met-none after offers id (met-last ids offer.id id ∙ still-met (int_eq offer.id id) (is_met ids id) met) in
    accepted-syntax id (counted (not (is_met ids offer.id)) offer) others
    ∙ ap (λ (b : Bool). if b then Some offer.syntax else syntax_of id (in_force (accepted_of others))) (later-refused ids offer id (int_eq offer.id id) refl met)
    ∙ later

clash : (A : Type 0) → true ≡ false → A
clash A e = cc

-- by whether the identifier is that of the next proposal, and this is accepted
by-here : (a b here : Bool) (syntax : List ℕ) (x y : Option (List ℕ)) → (here ≡ true → a ≡ b) → (here ≡ true → y ≡ None) → (here ≡ false → x ≡ y)
    → (if here then (if a then Some syntax else None) else x) ≡ (if b && here then Some syntax else y)
by-here true true true syntax x y same none later = refl
by-here true false true syntax x y same none later = clash _ (same refl)
by-here false true true syntax x y same none later = clash _ (sym (same refl))
by-here false false true syntax x y same none later = sym (none refl)
by-here a true false syntax x y same none later = later refl
by-here a false false syntax x y same none later = later refl

next-met : (ids : List ℤ) (id q : ℤ) → int_eq id q ≡ true → is_met (ids ++ id ∷ []) q ≡ true
next-met ids id q e = met-last ids id q ∙ ap (λ (b : Bool). cond b true (is_met ids q)) e

next-unmet : (ids : List ℤ) (id q : ℤ) → int_eq id q ≡ false → is_met ids q ≡ false → is_met (ids ++ id ∷ []) q ≡ false
next-unmet ids id q e unmet = met-last ids id q ∙ ap (λ (b : Bool). cond b true (is_met ids q)) e ∙ unmet

first-counts : (ids : List ℤ) (offer : Offer) (id : ℤ) → is_met ids id ≡ false → int_eq offer.id id ≡ true → (offer.ber && is_ours offer.syntax) ≡ is_accepted (counted (not (is_met ids offer.id)) offer)
first-counts ids offer id unmet e =
    let same : is_met ids offer.id ≡ false = ap (is_met ids) ((Decides-int_eq offer.id id).0 e) ∙ unmet in
    ap (λ (b : Bool). b && is_ours offer.syntax) (sym (and-some offer.ber)) ∙ ap (λ (m : Bool). (offer.ber && not m) && is_ours offer.syntax) (sym same)

means-after : (ids : List ℤ) (offers : List Offer) (id : ℤ) → is_met ids id ≡ false → syntax_of id (map offered offers) ≡ syntax_of id (in_force (accepted_of (counted_after ids offers)))
means-after ids [] id unmet = refl
means-after ids (offer ∷ offers) id unmet =
    let after = ids ++ offer.id ∷ [] in
    let one = counted (not (is_met ids offer.id)) offer in
    by-here (offer.ber && is_ours offer.syntax) (is_accepted one) (int_eq offer.id id) offer.syntax
    (syntax_of id (map offered offers)) (syntax_of id (in_force (accepted_of (counted_after after offers))))
    (first-counts ids offer id unmet) (λ e. met-none after offers id (next-met ids offer.id id e))
    (λ e. means-after after offers id (next-unmet ids offer.id id e unmet))
    ∙ sym (accepted-syntax id one (counted_after after offers))

pub means-one : (offers : List Offer) (id : ℤ) → syntax_of id (map offered offers) ≡ syntax_of id (in_force (accepted_of (counted_after [] offers)))
means-one offers id = means-after [] offers id refl

answered-after : (ids : List ℤ) (offers : List Offer) (id : ℤ)
    → syntax_of id (answered (entries (counted_after ids offers)) (results_of (counted_after ids offers))) ≡ syntax_of id (in_force (accepted_of (counted_after ids offers)))
answered-after ids [] id = refl
answered-after ids (offer ∷ offers) id =
    let after = ids ++ offer.id ∷ [] in
    let one = counted (not (is_met ids offer.id)) offer in
    let others = counted_after after offers in
    by-here (is_accepted one) (is_accepted one) (int_eq offer.id id) offer.syntax
    (syntax_of id (answered (entries others) (results_of others))) (syntax_of id (in_force (accepted_of others)))
    (λ e. refl) (λ e. met-none after offers id (next-met ids offer.id id e)) (λ e. answered-after after offers id)
    ∙ sym (accepted-syntax id one others)

pub answered-so : (offers : List Offer) (id : ℤ)
    → syntax_of id (answered (entries (counted_after [] offers)) (results_of (counted_after [] offers))) ≡ syntax_of id (in_force (accepted_of (counted_after [] offers)))
answered-so offers id = answered-after [] offers id

-- ---- of a trace

-- the proposals of a trace are some as they count
abbrev pub AreCounted : List Offer → Type 0
AreCounted offers = (proposed : List Offer) × (offers ≡ counted_after [] proposed)

read-counted : (read : Result Primitive UpperError) → AreCounted (offers_in read)
read-counted (Ok (primitives.Associate offers values)) = (offers, refl)
read-counted (Ok (primitives.Accepted results values)) = ([], refl)
read-counted (Ok (primitives.Refused results values)) = ([], refl)
read-counted (Ok (primitives.Release values)) = ([], refl)
read-counted (Ok (primitives.Released values)) = ([], refl)
read-counted (Ok (primitives.Data values)) = ([], refl)
read-counted (Ok (primitives.Abort values)) = ([], refl)
read-counted (Err fault) = ([], refl)

counted-by : (unit : SessionSay) (offers : List Offer) → AreCounted offers → AreCounted (unwrap_or (proposes unit) offers)
counted-by (say.Connect sync serial octets) offers are = read-counted (reading CN [] octets)
counted-by (say.Accept sync serial octets) offers are = are
counted-by (say.Refuse octets) offers are = are
counted-by (say.Finish octets) offers are = are
counted-by (say.Finished octets) offers are = are
counted-by (say.Data pass octets) offers are = are
counted-by (say.Check serial) offers are = are
counted-by (say.Acknowledge serial) offers are = are
counted-by (say.Resync kind serial token octets) offers are = are
counted-by (say.Resynced serial token octets) offers are = are
counted-by (say.Abort octets) offers are = are
counted-by (say.Token to) offers are = are

pub proposals-counted : (trace : Trace) → AreCounted (proposals trace)
proposals-counted [] = ([], refl)
proposals-counted (entry ∷ earlier) = counted-by entry.told (proposals earlier) (proposals-counted earlier)

called-by : (unit : SessionSay) (earlier : Trace) → accepted Responder earlier ≡ accepted_of (proposals earlier)
    → unwrap_or (accepts Responder (proposals earlier) unit) (accepted Responder earlier) ≡ accepted_of (unwrap_or (proposes unit) (proposals earlier))
called-by (say.Connect sync serial octets) earlier e = refl
called-by (say.Accept sync serial octets) earlier e = e
called-by (say.Refuse octets) earlier e = e
called-by (say.Finish octets) earlier e = e
called-by (say.Finished octets) earlier e = e
called-by (say.Data pass octets) earlier e = e
called-by (say.Check serial) earlier e = e
called-by (say.Acknowledge serial) earlier e = e
called-by (say.Resync kind serial token octets) earlier e = e
called-by (say.Resynced serial token octets) earlier e = e
called-by (say.Abort octets) earlier e = e
called-by (say.Token to) earlier e = e

-- A called end accepts its own syntaxes of what was proposed.
pub called-accepts : (trace : Trace) → accepted Responder trace ≡ accepted_of (proposals trace)
called-accepts [] = refl
called-accepts (entry ∷ earlier) = called-by entry.told earlier (called-accepts earlier)
