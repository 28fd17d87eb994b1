-- Octets in parts, with more after them, and gone over part by part.
use Rattle.std.proofs.Common.{◌≡◌, ℕ, suc, ◌+◌, ◌<◌, ◌≤◌, List, [], ◌∷◌, ◌++◌, length, drop, get_or, refl, ap, subst, sym, ◌∙◌, append_assoc, append-nil, add-one, drop-cons}
use Rattle.std.proofs.lemmas.List.{drop_all}
use Rattle.vf_session.specs.declared.units.TokenSide.{TokenSide}
use Rattle.vf_stack.specs.Association.{Association}
use Rattle.vf_stack.specs.Represents.{Kept}
use Rattle.vf_stack.specs.Sending.{octets_sent}
use Rattle.vf_stack.specs.Sends.{Sends}
use Rattle.vf_stack.specs.declared.request.Request.{Request}
use Rattle.vf_responder.specs.Spoken.{joined}
use Rattle.vf_responder.specs.declared.spoken.Part.{Part}

pub joined-more : (parts : List Part) (last more : List ℕ) → joined parts (last ++ more) ≡ joined parts last ++ more
joined-more [] last more = refl
joined-more (part ∷ parts) last more =
    ap (λ (rest : List ℕ). part.before.items ++ (part.string ++ rest)) (joined-more parts last more)
    ∙ ap (λ (rest : List ℕ). part.before.items ++ rest) (sym (append_assoc part.string (joined parts last) more))
    ∙ sym (append_assoc part.before.items (part.string ++ joined parts last) more)

-- The last octets end a part by a string.
pub joined-closed : (parts : List Part) (part : Part) → joined (parts ++ part ∷ []) [] ≡ joined parts part.before.items ++ part.string
joined-closed [] part = ap (λ (rest : List ℕ). part.before.items ++ rest) (append-nil part.string)
joined-closed (first ∷ parts) part =
    ap (λ (rest : List ℕ). first.before.items ++ (first.string ++ rest)) (joined-closed parts part)
    ∙ ap (λ (rest : List ℕ). first.before.items ++ rest) (sym (append_assoc first.string (joined parts part.before.items) part.string))
    ∙ sym (append_assoc first.before.items (first.string ++ joined parts part.before.items) part.string)

next_part : (parts : List Part) (i : ℕ) (part : Part) → i < length parts → part ≡ get_or parts i part → drop i parts ≡ part ∷ drop (i + 1) parts
next_part parts i part within is = rw add-one (drop-cons parts i part within ∙ ap (λ (p : Part). p ∷ drop (suc i) parts) (sym is))

-- the next part, and what stands after it
pub joined-next : (parts : List Part) (last : List ℕ) (i : ℕ) (part : Part) → i < length parts → part ≡ get_or parts i part
    → joined (drop i parts) last ≡ part.before.items ++ (part.string ++ joined (drop (i + 1) parts) last)
joined-next parts last i part within is = ap (λ (l : List Part). joined l last) (next_part parts i part within is)

pub joined-end : (parts : List Part) (last : List ℕ) (i : ℕ) → length parts ≤ i → joined (drop i parts) last ≡ last
joined-end parts last i end = ap (λ (l : List Part). joined l last) (drop_all i parts end)

-- What a request is sent in comes after the others.
pub whole-after : (own : TokenSide) (a : Association) (request : Request) (kept : Kept) (parts : List Part) (last now out : List ℕ) → joined parts last ≡ now
    → Sends own a request last kept out → Sends own a request now kept (joined parts out)
whole-after own a request kept parts last now out is sent = record {
  appended = ap (joined parts) sent.appended ∙ joined-more parts last (octets_sent own a request) ∙ ap (λ (o : List ℕ). o ++ octets_sent own a request) is;
  represents = sent.represents;
}

pub sent-after : (own : TokenSide) (a : Association) (request : Request) (kept : Kept) (parts : List Part) (last now out string new : List ℕ) → joined parts last ≡ now
    → Sends own a request last kept (out ++ string) → new ≡ joined parts out ++ string → Sends own a request now kept new
sent-after own a request kept parts last now out string new is sent after =
    subst (λ (o : List ℕ). Sends own a request now kept o) (joined-more parts out string ∙ sym after) (whole-after own a request kept parts last now (out ++ string) is sent)
