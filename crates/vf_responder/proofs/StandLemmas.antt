-- A link that was taken out of the others: the party that stands on it, and the state represented once it goes on or is gone.
use Rattle.std.proofs.Common.{◌≡◌, ◌≢◌, ℕ, ◌+◌, Bool, true, false, nat_eq, List, [], ◌∷◌, ◌++◌, length, length-append, Option, Some, None, refl, ap, sym, subst, ◌∙◌, eqb-true, arith}
use Rattle.std.specs.Cmp.{nat_eq_equiv}
use Rattle.std.specs.List.{IsDistinct}
use Rattle.std.specs.Map.{keys_of}
use Rattle.std.specs.Prelude.{if◌then◌else◌}
use Rattle.std.proofs.lemmas.Bool.{eqb-false}
use Rattle.vf_filestore.proofs.Kept.{breaks_keep}
use Rattle.vf_filestore.proofs.Parties.{located}
use Rattle.vf_filestore.proofs.RangedStates.{breaks_reached}
use Rattle.vf_filestore.specs.Dockets.{broken}
use Rattle.vf_filestore.specs.HoldersAfter.{Keeps}
use Rattle.vf_filestore.specs.Ranges.{IsReached}
use Rattle.vf_filestore.specs.State.{State, StandingParty, party_of}
use Rattle.vf_filestore.specs.Tables.{tables_of}
use Rattle.vf_stack.specs.Association.{Association}
use Rattle.vf_filestore.proofs.Counts.{breaks_count}
use Rattle.vf_filestore.proofs.Others.{breaks_leave_none, breaks_leave_others}
use Rattle.vf_responder.proofs.MapLemmas.{distinct-front, distinct-last, last-free, link_of-other, link_of-own}
use Rattle.vf_responder.specs.Represents.{IsLink, IsLinkOf, Kept, Represents, link_of, with_link}
use Rattle.vf_responder.specs.Serving.{Serving, with_association}
use Rattle.vf_responder.specs.declared.link.Link.{Link}

-- what stands on a link that was taken out
pub record IsOn {D : Type 0} (link : Link) (kept : Kept D) (serving : Serving) : Type 0 where
  pub party : StandingParty
  pub found : party_of party.link serving.filestore.parties ≡ Some party
  pub linked : link.number ≡ party.link
  pub is : IsLink party.link link party (serving.associations party.link)
  pub free : link_of party.link kept.links ≡ None

pub stands-by : (number : ℕ) (link : Link) (found : Option StandingParty) (a : Association) → IsLinkOf number (Some link) found a → (party : StandingParty) × (found ≡ Some party) × IsLink number link party a
stands-by number link None a is = absurd is
stands-by number link (Some party) a is = (party, refl, is)

on-by : {D : Type 0} (link : Link) (kept : Kept D) (serving : Serving) (number : ℕ) (party : StandingParty) → party.link ≡ number → link.number ≡ number
    → party_of number serving.filestore.parties ≡ Some party → IsLink number link party (serving.associations number) → link_of number kept.links ≡ None → IsOn link kept serving
on-by link kept serving number party linked numbered found is free = record {
  party = party;
  found = subst (λ (n : ℕ). party_of n serving.filestore.parties ≡ Some party) (sym linked) found;
  linked = numbered ∙ sym linked;
  is = subst (λ (n : ℕ). IsLink n link party (serving.associations n)) (sym linked) is;
  free = subst (λ (n : ℕ). link_of n kept.links ≡ None) (sym linked) free;
}

pub on-link : {D : Type 0} (link : Link) (kept : Kept D) (serving : Serving) → Represents (with_link link kept) serving → IsOn link kept serving
on-link link kept serving represents =
    let n = link.number in
    let free : link_of n kept.links ≡ None = last-free kept.links n link represents.distinct in
    let own : link_of n (kept.links ++ (n, link) ∷ []) ≡ Some link = link_of-own n kept.links link free in
    let stands = stands-by n link (party_of n serving.filestore.parties) (serving.associations n)
    (subst (λ (l : Option Link). IsLinkOf n l (party_of n serving.filestore.parties) (serving.associations n)) own (represents.links n)) in
    on-by link kept serving n stands.0 (located n serving.filestore.parties stands.0 stands.1).same refl stands.1 stands.2 free

-- ---- one link's part

pub at-none : (number : ℕ) (l : Option Link) (p : Option StandingParty) (a : Association) → l ≡ None → p ≡ None → IsLinkOf number l p a
at-none number None None a e f = tt
at-none number None (Some party) a e f = cc
at-none number (Some link) p a e f = cc

pub at-other : (number : ℕ) (l l' : Option Link) (p p' : Option StandingParty) (a a' : Association) → l' ≡ l → p' ≡ p → a' ≡ a → IsLinkOf number l p a → IsLinkOf number l' p' a'
at-other number l l' p p' a a' el ep ea is =
    subst (λ (one : Option Link). IsLinkOf number one p' a') (sym el)
    (subst (λ (one : Option StandingParty). IsLinkOf number l one a') (sym ep) (subst (λ (one : Association). IsLinkOf number l p one) (sym ea) is))

pub at-some : (number : ℕ) (l : Option Link) (p : Option StandingParty) (a a' : Association) (link : Link) (party : StandingParty) → l ≡ Some link → p ≡ Some party → a' ≡ a → IsLink number link party a → IsLinkOf number l p a'
at-some number l p a a' link party el ep ea is = at-other number (Some link) l (Some party) p a a' el ep ea is

pub with-own : (number : ℕ) (a : Association) (serving : Serving) → (with_association number a serving).associations number ≡ a
with-own number a serving = ap (λ (b : Bool). if b then a else serving.associations number) (nat_eq_equiv.refl number)

pub with-other : (q number : ℕ) (a : Association) (serving : Serving) → nat_eq q number ≡ false → (with_association number a serving).associations q ≡ serving.associations q
with-other q number a serving other = ap (λ (b : Bool). if b then a else serving.associations q) other

-- ---- the state after something of the link

pub one-more : (links : List (ℕ × Link)) (one : ℕ × Link) → length (links ++ one ∷ []) ≡ length links + 1
one-more links one = length-append links (one ∷ [])

less-one : (before links now all : ℕ) → before ≡ links + 1 → before ≡ all → now + 1 ≡ all → links ≡ now
less-one before links now all a b c = omega arith

module _ {D : Type 0} (number : ℕ) (link : Link) (kept : Kept D) (serving : Serving) (numbered : link.number ≡ number) (represents : Represents (with_link link kept) serving)
    (kept' : Kept D) (state : State) (a : Association) (same_links : kept'.links ≡ kept.links)
    (others : (q : ℕ) → q ≢ number → party_of q state.parties ≡ party_of q serving.filestore.parties)
    (tables : tables_of state ≡ kept'.store.tables) (held : Keeps kept'.locks state) (reached : IsReached state) where
  abbrev next : Serving
  next = with_association number a (record serving { filestore = state })

  as-before : kept.links ++ (link.number, link) ∷ [] ≡ kept.links ++ (number, link) ∷ []
  as-before = ap (λ (n : ℕ). kept.links ++ (n, link) ∷ []) numbered

  off : link_of number kept.links ≡ None
  off = subst (λ (n : ℕ). link_of n kept.links ≡ None) numbered (last-free kept.links link.number link represents.distinct)

  as-then : (link' : Link) → link'.number ≡ number → kept'.links ++ (link'.number, link') ∷ [] ≡ kept.links ++ (number, link') ∷ []
  as-then link' e = ap (λ (links : List (ℕ × Link)). links ++ (link'.number, link') ∷ []) same_links ∙ ap (λ (n : ℕ). kept.links ++ (n, link') ∷ []) e

  other-at : (q : ℕ) → nat_eq q number ≡ false → (l : Option Link) → l ≡ link_of q kept.links → IsLinkOf q l (party_of q state.parties) (next.associations q)
  other-at q e l is =
      at-other q (link_of q (kept.links ++ (link.number, link) ∷ [])) l (party_of q serving.filestore.parties) (party_of q state.parties) (serving.associations q) (next.associations q)
      (is ∙ sym (ap (λ (links : List (ℕ × Link)). link_of q links) as-before ∙ link_of-other q number kept.links link e))
      (others q (eqb-false q number e)) (with-other q number a (record serving { filestore = state }) e) (represents.links q)

  none-at : (q : ℕ) (b : Bool) → nat_eq q number ≡ b → party_of number state.parties ≡ None → IsLinkOf q (link_of q kept'.links) (party_of q state.parties) (next.associations q)
  none-at q true e gone =
      let same : q ≡ number = eqb-true q number e in
      at-none q (link_of q kept'.links) (party_of q state.parties) (next.associations q)
      (ap (λ (links : List (ℕ × Link)). link_of q links) same_links ∙ ap (λ (n : ℕ). link_of n kept.links) same ∙ off)
      (ap (λ (n : ℕ). party_of n state.parties) same ∙ gone)
  none-at q false e gone = other-at q e (link_of q kept'.links) (ap (λ (links : List (ℕ × Link)). link_of q links) same_links)

  some-at : (q : ℕ) (b : Bool) → nat_eq q number ≡ b → (link' : Link) (party' : StandingParty) → link'.number ≡ number → party_of number state.parties ≡ Some party' → IsLink number link' party' a
      → IsLinkOf q (link_of q (kept'.links ++ (link'.number, link') ∷ [])) (party_of q state.parties) (next.associations q)
  some-at q true e link' party' numbered' found is =
      let same : q ≡ number = eqb-true q number e in
      let P : ℕ → Type 0 = λ n. IsLinkOf n (link_of n (kept'.links ++ (link'.number, link') ∷ [])) (party_of n state.parties) (next.associations n) in
      subst P (sym same)
      (at-some number (link_of number (kept'.links ++ (link'.number, link') ∷ [])) (party_of number state.parties) a (next.associations number) link' party'
      (ap (λ (links : List (ℕ × Link)). link_of number links) (as-then link' numbered') ∙ link_of-own number kept.links link' off)
      found (with-own number a (record serving { filestore = state })) is)
  some-at q false e link' party' numbered' found is =
      other-at q e (link_of q (kept'.links ++ (link'.number, link') ∷ []))
      (ap (λ (links : List (ℕ × Link)). link_of q links) (as-then link' numbered') ∙ link_of-other q number kept.links link' e)

  -- its party is gone,
  pub leaves-it : party_of number state.parties ≡ None → length state.parties + 1 ≡ length serving.filestore.parties → Represents kept' next
  leaves-it gone fewer = record {
    tables = tables;
    held = held;
    links = λ q. none-at q (nat_eq q number) refl gone;
    counted = ap (λ (links : List (ℕ × Link)). length links) same_links
        ∙ less-one (length (kept.links ++ (link.number, link) ∷ [])) (length kept.links) (length state.parties) (length serving.filestore.parties)
        (one-more kept.links (link.number, link)) represents.counted fewer;
    distinct = subst (λ (links : List (ℕ × Link)). IsDistinct nat_eq (keys_of links)) (sym same_links) (distinct-front kept.links link.number link represents.distinct);
    reached = reached;
  }

  -- or it goes on with this one.
  pub stays-on : (link' : Link) (party' : StandingParty) → link'.number ≡ number → party_of number state.parties ≡ Some party' → IsLink number link' party' a
      → length state.parties ≡ length serving.filestore.parties → Represents (with_link link' kept') next
  stays-on link' party' numbered' found is count = record {
    tables = tables;
    held = held;
    links = λ q. some-at q (nat_eq q number) refl link' party' numbered' found is;
    counted = ap (λ (links : List (ℕ × Link)). length links) (as-then link' numbered') ∙ one-more kept.links (number, link')
        ∙ sym (one-more kept.links (link.number, link)) ∙ represents.counted ∙ sym count;
    distinct = subst (λ (links : List (ℕ × Link)). IsDistinct nat_eq (keys_of links)) (sym (as-then link' numbered'))
        (distinct-last kept.links number link' (distinct-front kept.links link.number link represents.distinct) off);
    reached = reached;
  }

-- The association is gone, whatever was said.
pub broken-off : {D : Type 0} (number : ℕ) (link : Link) (kept kept' : Kept D) (serving : Serving) (a : Association) (party : StandingParty) → link.number ≡ number
    → Represents (with_link link kept) serving → party_of number serving.filestore.parties ≡ Some party → kept'.links ≡ kept.links → kept'.store.tables ≡ kept.store.tables
    → Keeps kept'.locks (broken number serving.filestore) → Represents kept' (with_association number a (record serving { filestore = broken number serving.filestore }))
broken-off number link kept kept' serving a party numbered represents found same_links same_tables held =
    let state = serving.filestore in
    leaves-it number link kept serving numbered represents kept' (broken number state) a same_links (λ q apart. breaks_leave_others state number q apart)
    (breaks_keep state number represents.reached.sound ∙ represents.tables ∙ sym same_tables) held (breaks_reached state number represents.reached)
    (breaks_leave_none state number) (breaks_count state number party represents.reached.sound found)
