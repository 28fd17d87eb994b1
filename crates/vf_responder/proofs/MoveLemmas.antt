-- A link that is taken out of the others, one that ends, and one that arrives.
use Rattle.std.proofs.Common.{◌≡◌, ℕ, ◌+◌, Bool, true, false, cond, nat_eq, List, [], ◌∷◌, ◌++◌, length, Option, Some, None, refl, ap, sym, subst, ◌∙◌, eqb-true}
use Rattle.std.proofs.lemmas.Bool.{eqb-false}
use Rattle.std.specs.Cmp.{nat_eq_equiv}
use Rattle.std.specs.List.{IsDistinct}
use Rattle.std.specs.Map.{keys_of}
use Rattle.std.specs.Prelude.{if◌then◌else◌}
use Rattle.vf_filestore.proofs.HeldGone.{arrivals_hold}
use Rattle.vf_filestore.proofs.RangedStates.{runs_make}
use Rattle.vf_filestore.specs.HoldersAfter.{Keeps}
use Rattle.vf_filestore.specs.Runs.{Arrives, arrives}
use Rattle.vf_filestore.specs.State.{StandingParty, arrived, party_of}
use Rattle.vf_locks.specs.Table.{held}
use Rattle.vf_locks.specs.declared.held.Held.{Held}
use Rattle.vf_store.specs.StoreState.{StoreState}
use Rattle.vf_stack.specs.Association.{Association, beginning}
use Rattle.vf_filestore.proofs.Others.{arrivals_count, arrivals_leave_others, arrivals_stand}
use Rattle.vf_responder.proofs.MapLemmas.{distinct-last, link_of-other, link_of-own}
use Rattle.vf_responder.proofs.StandLemmas.{at-other, at-some, one-more, stands-by, with-other, with-own}
use Rattle.vf_responder.specs.Represents.{IsLink, IsLinkOf, Kept, Represents, link_of, with_link}
use Rattle.vf_responder.specs.Serving.{Serving, with_association}
use Rattle.vf_responder.specs.declared.link.Link.{Link}

-- the link of a number was taken out of the others
pub record IsTakenOut {D : Type 0} (number : ℕ) (link : Link) (kept rest : Kept D) : Type 0 where
  pub store : rest.store ≡ kept.store
  pub locks : rest.locks ≡ kept.locks
  pub value : link_of number kept.links ≡ Some link
  pub none : link_of number rest.links ≡ None
  pub others : (q : ℕ) → nat_eq number q ≡ false → link_of q rest.links ≡ link_of q kept.links
  pub count : length rest.links + 1 ≡ length kept.links
  pub distinct : IsDistinct nat_eq (keys_of rest.links)

module _ {D : Type 0} (number : ℕ) (link : Link) (kept rest : Kept D) (serving : Serving) (represents : Represents kept serving) (out : IsTakenOut number link kept rest) where
  pub out-numbered : link.number ≡ number
  out-numbered = (stands-by number link (party_of number serving.filestore.parties) (serving.associations number)
      (subst (λ (l : Option Link). IsLinkOf number l (party_of number serving.filestore.parties) (serving.associations number)) out.value (represents.links number))).2.numbered

  as-put : rest.links ++ (link.number, link) ∷ [] ≡ rest.links ++ (number, link) ∷ []
  as-put = ap (λ (n : ℕ). rest.links ++ (n, link) ∷ []) out-numbered

  put-at : (q : ℕ) (b : Bool) → nat_eq q number ≡ b → link_of q (rest.links ++ (link.number, link) ∷ []) ≡ link_of q kept.links
  put-at q true e =
      let same : q ≡ number = eqb-true q number e in
      ap (λ (n : ℕ). link_of n (rest.links ++ (link.number, link) ∷ [])) same
      ∙ ap (λ (links : List (ℕ × Link)). link_of number links) as-put ∙ link_of-own number rest.links link out.none ∙ sym out.value
      ∙ ap (λ (n : ℕ). link_of n kept.links) (sym same)
  put-at q false e =
      ap (λ (links : List (ℕ × Link)). link_of q links) as-put ∙ link_of-other q number rest.links link e
      ∙ out.others q (nat_eq_equiv.symm number q ∙ e)

  -- With it among them again all is as before.
  pub out-represents : Represents (with_link link rest) serving
  out-represents = record {
    tables = represents.tables ∙ sym (ap (λ (s : StoreState D). s.tables) out.store);
    held = subst (λ locks. Keeps locks serving.filestore) (sym out.locks) represents.held;
    links = λ q. at-other q (link_of q kept.links) (link_of q (rest.links ++ (link.number, link) ∷ [])) (party_of q serving.filestore.parties) (party_of q serving.filestore.parties)
        (serving.associations q) (serving.associations q) (put-at q (nat_eq q number) refl) refl refl (represents.links q);
    counted = one-more rest.links (link.number, link) ∙ out.count ∙ represents.counted;
    distinct = subst (λ (links : List (ℕ × Link)). IsDistinct nat_eq (keys_of links)) (sym as-put) (distinct-last rest.links number link out.distinct out.none);
    reached = represents.reached;
  }

-- The associations alone are told otherwise.
pub same-associations : {D : Type 0} (kept : Kept D) (serving : Serving) (associations : (link : ℕ) → Association) → Represents kept serving
    → ((q : ℕ) → associations q ≡ serving.associations q) → Represents kept (record serving { associations = associations })
same-associations kept serving associations represents same = record {
  tables = represents.tables;
  held = represents.held;
  links = λ q. at-other q (link_of q kept.links) (link_of q kept.links) (party_of q serving.filestore.parties) (party_of q serving.filestore.parties) (serving.associations q) (associations q)
      refl refl (same q) (represents.links q);
  counted = represents.counted;
  distinct = represents.distinct;
  reached = represents.reached;
}

pub put-again : (number q : ℕ) (serving : Serving) (b : Bool) → nat_eq q number ≡ b → serving.associations q ≡ (with_association number (serving.associations number) serving).associations q
put-again number q serving true e =
    ap (λ (n : ℕ). serving.associations n) (eqb-true q number e) ∙ sym (ap (λ (b : Bool). if b then serving.associations number else serving.associations q) e)
put-again number q serving false e = sym (with-other q number (serving.associations number) serving e)

pub none-by : (number : ℕ) (p : Option StandingParty) (a : Association) → IsLinkOf number None p a → p ≡ None
none-by number None a is = refl
none-by number (Some party) a is = absurd is

-- nobody stands where no link does
pub nobody-on : {D : Type 0} (number : ℕ) (kept : Kept D) (serving : Serving) → Represents kept serving → link_of number kept.links ≡ None → party_of number serving.filestore.parties ≡ None
nobody-on number kept serving represents free =
    none-by number (party_of number serving.filestore.parties) (serving.associations number)
    (subst (λ (l : Option Link). IsLinkOf number l (party_of number serving.filestore.parties) (serving.associations number)) free (represents.links number))

-- ---- an arrival

module _ {D : Type 0} (number : ℕ) (link : Link) (kept kept' : Kept D) (serving : Serving) (represents : Represents kept serving)
    (free : link_of number kept.links ≡ None) (numbered : link.number ≡ number) (is : IsLink number link (arrived number) beginning)
    (links : kept'.links ≡ kept.links ++ (link.number, link) ∷ []) (tables : kept'.store.tables ≡ kept.store.tables) (locks : kept'.locks ≡ kept.locks) where
  nobody : party_of number serving.filestore.parties ≡ None
  nobody = none-by number (party_of number serving.filestore.parties) (serving.associations number)
      (subst (λ (l : Option Link). IsLinkOf number l (party_of number serving.filestore.parties) (serving.associations number)) free (represents.links number))

  as-new : kept'.links ≡ kept.links ++ (number, link) ∷ []
  as-new = links ∙ ap (λ (n : ℕ). kept.links ++ (n, link) ∷ []) numbered

  abbrev then_serving : Serving
  then_serving = with_association number beginning (record serving { filestore = arrives number serving.filestore })

  new-at : (q : ℕ) (b : Bool) → nat_eq q number ≡ b → IsLinkOf q (link_of q kept'.links) (party_of q (arrives number serving.filestore).parties) (then_serving.associations q)
  new-at q true e =
      let same : q ≡ number = eqb-true q number e in
      let P : ℕ → Type 0 = λ n. IsLinkOf n (link_of n kept'.links) (party_of n (arrives number serving.filestore).parties) (then_serving.associations n) in
      subst P (sym same)
      (at-some number (link_of number kept'.links) (party_of number (arrives number serving.filestore).parties) beginning (then_serving.associations number) link (arrived number)
      (ap (λ (all : List (ℕ × Link)). link_of number all) as-new ∙ link_of-own number kept.links link free)
      (arrivals_stand serving.filestore number nobody) (with-own number beginning (record serving { filestore = arrives number serving.filestore })) is)
  new-at q false e =
      at-other q (link_of q kept.links) (link_of q kept'.links) (party_of q serving.filestore.parties) (party_of q (arrives number serving.filestore).parties) (serving.associations q) (then_serving.associations q)
      (ap (λ (all : List (ℕ × Link)). link_of q all) as-new ∙ link_of-other q number kept.links link e)
      (arrivals_leave_others serving.filestore number q (eqb-false q number e)) (with-other q number beginning (record serving { filestore = arrives number serving.filestore }) e) (represents.links q)

  pub new-represents : Represents kept' then_serving
  new-represents =
      let ran = runs_make (Arrives number ∷ []) serving.filestore (nobody, tt) (tt, tt) represents.reached in
      record {
        tables = ran.0.0 ∙ represents.tables ∙ sym tables;
        held = λ file. ap (λ (all : List (List ℕ × List Held)). held file all) locks ∙ represents.held file ∙ sym (arrivals_hold serving.filestore number file);
        links = λ q. new-at q (nat_eq q number) refl;
        counted = ap (λ (all : List (ℕ × Link)). length all) as-new ∙ one-more kept.links (number, link) ∙ ap (λ (n : ℕ). n + 1) represents.counted ∙ sym (arrivals_count serving.filestore number);
        distinct = subst (λ (all : List (ℕ × Link)). IsDistinct nat_eq (keys_of all)) (sym as-new) (distinct-last kept.links number link represents.distinct free);
        reached = ran.1;
      }

-- as the map of links tells it
pub out-by : {D : Type 0} (number : ℕ) (link : Link) (kept rest : Kept D) → rest.store ≡ kept.store → rest.locks ≡ kept.locks → link_of number kept.links ≡ Some link
    → ((q : ℕ) → link_of q rest.links ≡ cond (nat_eq number q) None (link_of q kept.links)) → length rest.links + 1 ≡ length kept.links → IsDistinct nat_eq (keys_of rest.links)
    → IsTakenOut number link kept rest
out-by number link kept rest store locks value updates count distinct = record {
  store = store;
  locks = locks;
  value = value;
  none = updates number ∙ ap (λ (b : Bool). cond b None (link_of number kept.links)) (nat_eq_equiv.refl number);
  others = λ q e. updates q ∙ ap (λ (b : Bool). cond b None (link_of q kept.links)) e;
  count = count;
  distinct = distinct;
}
