-- The octets of a piece, as few at a time as tell one thing at most.
use Rattle.std.proofs.Common.{◌≡◌, ◌≤◌, ℕ, List, [], ◌∷◌, ◌++◌, length, take, drop, refl, ap, sym, subst, ◌∙◌, append_assoc, append-nil, arith}
use Rattle.std.proofs.lemmas.List.{take-append-drop}
use Rattle.vf_session.specs.declared.units.TokenSide.{TokenSide}
use Rattle.vf_stack.specs.Association.{Association, Exchange, end_of}
use Rattle.vf_stack.specs.Pieces.{TellOnce}
use Rattle.vf_stack.specs.Receiving.{Fed, octets_received, piece_received}
use Rattle.vf_stack.specs.Represents.{Feeds, FeedsOnward, IsSame as IsSameEnd, Kept, Represents, Stands, after_told, side_of}
use Rattle.vf_stack.specs.declared.indication.Indication.{Indication}
use Rattle.vf_tpkt.specs.Receiving.{Kept as TransportKept}
use Rattle.vf_tpkt.specs.Stream.{HasReceived, reading as stream_reading}
use Rattle.vf_tpkt.specs.Wanting.{TellsOnce}
use Rattle.vf_stack.proofs.EndLemmas.{same-then}
use Rattle.vf_stack.proofs.OctetLemmas.{IsSame, cuts-few, same-octets, tells-once}
use Rattle.vf_stack.proofs.PieceLemmas.{octets-cut}

-- so few octets tell one by one what they tell as a piece
same-few : (own : TokenSide) (a : Association) (most : ℕ) (front : List ℕ) → 1 ≤ length front → TellsOnce (stream_reading (end_of own) a.stream).kept most → length front ≤ most
    → IsSame own (octets_received own a front) (piece_received own a front)
same-few own a most [] some once few = absurd (omega (arith, some))
same-few own a most (octet ∷ octets) some once few = same-octets own octets a octet (cuts-few (stream_reading (end_of own) a.stream).kept most (octet ∷ octets) once few)

-- What represents an association represents one that was received as much on.
represents-same : (kept : Kept) (own : TokenSide) (o p : Fed) → side_of kept ≡ own → IsSame own o p → Represents kept p.association → Represents kept o.association
represents-same kept own o p side same rep =
    let K : TokenSide → Type 0 = λ s. HasReceived kept.transport (end_of s) p.association.stream in
    let Q : TokenSide → Type 0 = λ s. HasReceived kept.transport (end_of s) o.association.stream in
    let stream : kept.transport ≡ (stream_reading (end_of own) p.association.stream).kept = subst K side rep.stream_is in
    let S : Exchange → Type 0 = λ x. Stands kept.exchange x in
    record { stream_is = subst Q (sym side) (stream ∙ sym same.kept); stands = subst S (sym same.exchange) rep.stands }

-- as few octets were received
feeds-octets : (kept kept' : Kept) (a : Association) (most : ℕ) (front : List ℕ) (out out' : List Indication) (answers answers' : List ℕ)
    → Represents kept a → side_of kept' ≡ side_of kept → 1 ≤ length front → TellsOnce kept.transport most → length front ≤ most
    → Feeds (piece_received (side_of kept) a front) out answers kept' out' answers'
    → Feeds (octets_received (side_of kept) a front) out answers kept' out' answers'
feeds-octets kept kept' a most front out out' answers answers' rep side some once few f =
    let own = side_of kept in
    let T : TransportKept → Type 0 = λ t. TellsOnce t most in
    let same = same-few own a most front some (subst T rep.stream_is once) few in
    record {
      indications = f.indications ∙ ap (λ (told : List Indication). out ++ told) (sym same.indications);
      answered = f.answered ∙ ap (λ (given : List ℕ). answers ++ given) (sym same.answers);
      represents = represents-same kept' own (octets_received own a front) (piece_received own a front) side same f.represents;
    }

told-twice : (out : List Indication) (answers : List ℕ) (f g : Fed)
    → after_told out answers (record { indications = f.indications ++ g.indications; answers = f.answers ++ g.answers; association = g.association })
    ≡ after_told (out ++ f.indications) (answers ++ f.answers) g
told-twice out answers f g = rw (append_assoc out f.indications g.indications, append_assoc answers f.answers g.answers) refl

-- the front of what is left was received
feeds-front : (kept kept' kept'' : Kept) (most : ℕ) (out out' out'' : List Indication) (answers answers' answers'' piece front more : List ℕ)
    → FeedsOnward kept out answers piece kept' out' answers' (front ++ more) → IsSameEnd kept'.exchange kept''.exchange
    → 1 ≤ length front → TellsOnce kept'.transport most → length front ≤ most
    → ((a : Association) → Represents kept' a → Feeds (piece_received (side_of kept') a front) out' answers' kept'' out'' answers'')
    → FeedsOnward kept out answers piece kept'' out'' answers'' more
feeds-front kept kept' kept'' most out out' out'' answers answers' answers'' piece front more before same some once few one = (
  same-then kept.exchange kept'.exchange kept''.exchange before.0 same,
  λ a r.
      let own = side_of kept in
      let b = before.1 a r in
      let a' = b.0 in
      let whole = feeds-octets kept' kept'' a' most front out' out'' answers' answers'' b.1 same.0 some once few (one a' b.1) in
      let P : TokenSide → Type 0 = λ s. Feeds (octets_received s a' front) out' answers' kept'' out'' answers'' in
      let f1 : P own = subst P before.0.0 whole in
      let f = octets_received own a' front in
      let s = octets_received own f.association more in (
        f.association,
        f1.represents,
        b.2 ∙ ap (λ (f : Fed). after_told out' answers' f) (octets-cut own a' front more) ∙ told-twice out' answers' f s
            ∙ rw (f1.indications, f1.answered) refl,
      ),
)

pub feeds-few : (kept kept' kept'' : Kept) (most count : ℕ) (out out' out'' : List Indication) (answers answers' answers'' piece rest front more : List ℕ)
    → 1 ≤ count → count ≤ most → length front ≡ count → front ≡ take count rest → more ≡ drop count rest
    → FeedsOnward kept out answers piece kept' out' answers' rest → IsSameEnd kept'.exchange kept''.exchange
    → TellsOnce kept'.transport most
    → ((a : Association) → Represents kept' a → Feeds (piece_received (side_of kept') a front) out' answers' kept'' out'' answers'')
    → FeedsOnward kept out answers piece kept'' out'' answers'' more
feeds-few kept kept' kept'' most count out out' out'' answers answers' answers'' piece rest front more some few size f m before same once one =
    let joined : rest ≡ front ++ more = sym (rw (f, m) (take-append-drop count rest)) in
    let R : List ℕ → Type 0 = λ rest. FeedsOnward kept out answers piece kept' out' answers' rest in
    feeds-front kept kept' kept'' most out out' out'' answers answers' answers'' piece front more (subst R joined before) same (omega (arith, size)) once (omega (arith, size)) one

-- all of it was received
pub feeds-rest : (kept kept' : Kept) (out out' : List Indication) (answers answers' piece rest : List ℕ)
    → length rest ≡ 0 → FeedsOnward kept out answers piece kept' out' answers' rest
    → (a : Association) → Represents kept a → Feeds (octets_received (side_of kept) a piece) out answers kept' out' answers'
feeds-rest kept kept' out out' answers answers' piece [] none told a r =
    let t = told.1 a r in
    let whole : after_told out answers (octets_received (side_of kept) a piece) ≡ record { indications = out'; answers = answers'; association = t.0 } =
    t.2 ∙ rw (append-nil out', append-nil answers') refl in
    let P : Association → Type 0 = λ a'. Represents kept' a' in
    record {
      indications = sym (ap (λ (f : Fed). f.indications) whole);
      answered = sym (ap (λ (f : Fed). f.answers) whole);
      represents = subst P (sym (ap (λ (f : Fed). f.association) whole)) t.1;
    }
feeds-rest kept kept' out out' answers answers' piece (octet ∷ rest) none told a r = cc

-- ---- what is wanted

pub wanted-once : (kept : Kept) (most : ℕ) → TellsOnce kept.transport most → (a : Association) (first second : List ℕ) → Represents kept a → length (first ++ second) ≤ most
    → TellOnce (side_of kept) a first second
wanted-once kept most once a first second rep few =
    let T : TransportKept → Type 0 = λ t. TellsOnce t most in
    tells-once (side_of kept) a most first second (subst T rep.stream_is once) few
