-- The user data of a request can be written, and have so many octets.
use Rattle.std.proofs.Common.{◌≡◌, ℕ, ◌+◌, ◌≤◌, ◌<◌, Bool, true, false, ◌||◌, nat_eq, if◌then◌else◌, List, [], ◌∷◌, length, refl, ap, sym, subst, ◌∙◌, length-append, arith, Option, None, Some, inl, inr, ◌⊎◌, All}
use Rattle.std.specs.Prelude.{ℤ, pos}
use Rattle.std.proofs.lemmas.Int.{to_z-of_z}
use mir.Syntax.{w64}
use mir.Val.{SFits, of_z, to_z}
use Rattle.std.proofs.lemmas.List.Elements.{All-cons, All-nil}
use Rattle.vf_base.specs.declared.element.Element.{Element}
use Rattle.vf_ber.specs.Spelling.{header, spell, spells}
use Rattle.vf_ber.specs.Tree.{Tag, Tree, Trees, built, depth, depth_in, more, none}
use Rattle.vf_elements.specs.ElementValue.{value as element_value}
use Rattle.vf_pdu.specs.PduMeaning.{IsInRange}
use Rattle.vf_pdu.specs.PduNumbers.{number_of}
use Rattle.vf_pdu.specs.PduValue.{value as pdu_value}
use Rattle.vf_pdu.specs.declared.pdu.Pdu.{Pdu}
use Rattle.vf_pdu_fields.proofs.Sizes.{built-fits}
use Rattle.vf_session.specs.Units.{parameters, user_data}
use Rattle.vf_session.specs.declared.units.SessionSay.{SessionSay}
use Rattle.vf_session.specs.declared.units.SessionSay.TheVariants as say
use Rattle.vf_stack.specs.Contexts.{entries}
use Rattle.vf_stack.specs.Lengths.{Counts, CountsData, needs_length, placed}
use Rattle.vf_stack.specs.Represents.{standing_of}
use Rattle.vf_stack.specs.Requests.{element_carried, in_first, own_offer, own_offers, pdu_carried, results_of, syntax_for}
use Rattle.vf_stack.specs.Sending.{IsCarried}
use Rattle.vf_stack.specs.declared.exchange.KeptExchange.{KeptExchange}
use Rattle.vf_stack.specs.declared.indication.Item.TheVariants as items
use Rattle.vf_stack.specs.declared.request.Request.{Request}
use Rattle.vf_stack.specs.declared.request.Request.TheVariants.{Associate, Accept, Refuse, Release, Released, Item, Check, Acknowledge, Restart, Restarted, Cancel, Cancelled, Abort, Pass}
use Rattle.vf_stack.proofs.PduLemmas.{few-0, few-2, few-3, few-37, few-38, few-39, few-4, few-40, few-5, few-by, pdu-fits}
use Rattle.vf_upper.specs.CarriedCode.{Carried}
use Rattle.vf_upper.specs.Laws.{AreProposed, IsOffer, Measures, carried_in, contexts_in, in_context}
use Rattle.vf_upper.specs.Written.{IsWritable, accepted, application, context, has_pdu, holding, id_of, integer, is_empty, is_placed, pdv_list, universal, user_octets, written}
use Rattle.vf_upper.specs.declared.contexts.ContextEntry.{ContextEntry}
use Rattle.vf_upper.specs.declared.primitive.Primitive.{Primitive}
use Rattle.vf_upper.specs.declared.primitive.Primitive.TheVariants as primitives
use Rattle.vf_upper_grammar.specs.Syntaxes as syntaxes
use Rattle.vf_upper_grammar.specs.declared.labels.NumberLabel.TheVariants.{PciContext}
use Rattle.vf_upper.proofs.Room.{empty_has_room, has_room}

-- an identifier as it is handed on
handed-same : (id : ℤ) → SFits w64 id → to_z w64 (of_z w64 id) ≡ id
handed-same id fits = grind (arith, to_z-of_z)

pub handed : (P : ℤ → Type 0) (id : ℤ) → SFits w64 id → P (to_z w64 (of_z w64 id)) → P id
handed P id fits p = subst P (handed-same id fits) p

pub pdu-shallow : (pdu : Pdu) → IsInRange pdu → depth (pdu_value pdu) ≤ 23
pdu-shallow pdu range = let fit = pdu-fits pdu range in let low = fit.shallow in omega (arith, low)

-- ---- a few octets

weaken : (n a b : ℕ) → n ≤ a → a ≤ b → n ≤ b
weaken n a b p q = omega arith

picked : (b : Bool) (octets : List ℕ) (n : ℕ) → length octets ≤ n → length (if b then [] else octets) ≤ n
picked true octets n le = omega arith
picked false octets n le = le

-- a primitive with one value of at most so many octets
pub one-written : (p : Primitive) (contexts : List ContextEntry) (v : Carried) (most : ℕ) → AreProposed p → carried_in p ≡ v ∷ [] → is_placed p contexts ≡ true → depth v.tree ≤ 23
    → length (spell v.tree) ≤ most → contexts_in p ≤ 5 → most ≤ 1000000 → IsWritable p contexts × (length (user_octets p contexts) ≤ most + 768)
one-written p contexts v most proposed one is shallow short few le =
    let roomy = has_room p contexts v proposed one is shallow (omega arith) in
    let long = roomy.1 in
    (roomy.0, picked (is_empty p) (spell (written p contexts)) (most + 768) (omega (arith, long)))

acse-is : IsOffer (own_offer (pos 1) syntaxes.acse)
acse-is = (record { sfits = omega arith }, refl)

pci-is : IsOffer (own_offer (pos 3) syntaxes.pci)
pci-is = (record { sfits = omega arith }, refl)

fadu-is : IsOffer (own_offer (pos 5) syntaxes.fadu)
fadu-is = (record { sfits = omega arith }, refl)

text-is : IsOffer (own_offer (pos 7) syntaxes.text)
text-is = (record { sfits = omega arith }, refl)

binary-is : IsOffer (own_offer (pos 9) syntaxes.binary)
binary-is = (record { sfits = omega arith }, refl)

pub own-proposed : All IsOffer own_offers
own-proposed =
    All-cons IsOffer (own_offer (pos 1) syntaxes.acse) (own_offer (pos 3) syntaxes.pci ∷ own_offer (pos 5) syntaxes.fadu ∷ own_offer (pos 7) syntaxes.text ∷ own_offer (pos 9) syntaxes.binary ∷ []) acse-is (All-cons IsOffer (own_offer (pos 3) syntaxes.pci) (own_offer (pos 5) syntaxes.fadu ∷ own_offer (pos 7) syntaxes.text ∷ own_offer (pos 9) syntaxes.binary ∷ []) pci-is (All-cons IsOffer (own_offer (pos 5) syntaxes.fadu) (own_offer (pos 7) syntaxes.text ∷ own_offer (pos 9) syntaxes.binary ∷ []) fadu-is (All-cons IsOffer (own_offer (pos 7) syntaxes.text) (own_offer (pos 9) syntaxes.binary ∷ []) text-is (All-cons IsOffer (own_offer (pos 9) syntaxes.binary) ([]) binary-is (All-nil IsOffer)))))

-- within the SEQUENCE of a resynchronization
around-short : (tree : Tree) (n : ℕ) → length (spell tree) ≤ n → length (spell (holding (universal 16) (tree ∷ []))) ≤ n + 7
around-short tree n le =
    let within : length (spells (more tree none)) ≤ n = omega (arith, length-append (spell tree) [], le) in
    let fit = built-fits (universal 16) (more tree none) n (depth_in (more tree none)) (record { short = within; shallow = omega arith }) in
    fit.short

either : (a b : Bool) → (a || b) ≡ true → (a ≡ true) ⊎ (b ≡ true)
either true b e = inl refl
either false b e = inr e

few-either : (pdu : Pdu) → (nat_eq (number_of pdu) 4 || nat_eq (number_of pdu) 5) ≡ true → IsInRange pdu → length (spell (pdu_value pdu)) ≤ 2007
few-either pdu is range =
    elim (either (nat_eq (number_of pdu) 4) (nat_eq (number_of pdu) 5) is) [
      | inl four ↦ few-by 4 few-4 pdu four range
      | inr five ↦ few-by 5 few-5 pdu five range
    ]

-- Data with a PDU of a resynchronization, or its SEQUENCE.
pub resync-written : (contexts : List ContextEntry) (pdu : Pdu) → length (spell (pdu_value pdu)) ≤ 2007 → IsInRange pdu → is_placed (primitives.Data (pdu_carried contexts pdu ∷ [])) contexts ≡ true
    → IsWritable (primitives.Data (pdu_carried contexts pdu ∷ [])) contexts
    × (length (user_octets (primitives.Data (pdu_carried contexts pdu ∷ [])) contexts) ≤ 3000)
    × (length (spell (holding (universal 16) (written (primitives.Data (pdu_carried contexts pdu ∷ [])) contexts ∷ []))) ≤ 3000)
resync-written contexts pdu short range is =
    let fit = pdu-fits pdu range in
    let p = primitives.Data (pdu_carried contexts pdu ∷ []) in
    let low = fit.shallow in
    let w = one-written p contexts (pdu_carried contexts pdu) 2007 tt refl is (omega (arith, low)) short (omega arith) (omega arith) in
    (w.0, weaken _ _ _ w.1 (omega arith), weaken _ _ _ (around-short (written p contexts) 2775 w.1) (omega arith))

-- it is a resynchronization or an answer to one where sync is agreed, and else data
if-counts : (b : Bool) (unit : SessionSay) (octets : List ℕ) → Counts (parameters unit) 0 (length (user_data unit)) → length octets ≤ 3000
    → Counts (parameters (if b then unit else say.Data false octets)) 0 (length (user_data (if b then unit else say.Data false octets)))
if-counts true unit octets counts le = counts
if-counts false unit octets counts le = inr (refl, omega arith)

pub few-counts : (kept : KeptExchange) (request : Request) → IsCarried (standing_of kept) request → placed (standing_of kept) request ≡ true → needs_length request ≡ false → CountsData kept request (Some 0)
few-counts kept (Associate sync pdu) c is n =
    let fit = pdu-fits pdu c.1 in
    let low = fit.shallow in
    let v = pdu_carried (entries own_offers) pdu in
    let w = one-written (primitives.Associate own_offers (v ∷ [])) (entries own_offers) v 2007 own-proposed refl is (omega (arith, low)) (few-by 0 few-0 pdu c.0 c.1) (omega arith) (omega arith) in
    (w.0, inr (refl, weaken _ _ _ w.1 (omega arith)))
few-counts kept (Accept sync pdu) c is n = cc
few-counts kept (Refuse None) c is n = (empty_has_room (primitives.Refused [] []) kept.accepted refl, inr (refl, omega arith))
few-counts kept (Refuse (Some pdu)) c is n = cc
few-counts kept (Release pdu) c is n =
    let fit = pdu-fits pdu c.1 in
    let low = fit.shallow in
    let v = pdu_carried kept.accepted pdu in
    let w = one-written (primitives.Release (v ∷ [])) kept.accepted v 2007 tt refl is (omega (arith, low)) (few-by 2 few-2 pdu c.0 c.1) (omega arith) (omega arith) in
    (w.0, inr (refl, weaken _ _ _ w.1 (omega arith)))
few-counts kept (Released pdu) c is n =
    let fit = pdu-fits pdu c.1 in
    let low = fit.shallow in
    let v = pdu_carried kept.accepted pdu in
    let w = one-written (primitives.Released (v ∷ [])) kept.accepted v 2007 tt refl is (omega (arith, low)) (few-by 3 few-3 pdu c.0 c.1) (omega arith) (omega arith) in
    (w.0, inr (refl, weaken _ _ _ w.1 (omega arith)))
few-counts kept (Item (items.Pdu pdu)) c is n =
    let fit = pdu-fits pdu c.1 in
    let low = fit.shallow in
    let v = pdu_carried kept.accepted pdu in
    let w = one-written (primitives.Data (v ∷ [])) kept.accepted v 900007 tt refl is (omega (arith, low)) fit.short (omega arith) (omega arith) in
    (w.0, inr (refl, weaken _ _ _ w.1 (omega arith)))
few-counts kept (Item (items.Element element)) c is n = cc
few-counts kept (Check serial) c is n = (tt, inl refl)
few-counts kept (Acknowledge serial) c is n = (tt, inl refl)
few-counts kept (Restart serial pdu) c is n =
    let w = resync-written kept.accepted pdu (few-by 39 few-39 pdu c.0 c.1) c.1 is in
    (w.0, inr (refl, weaken _ _ _ w.2 (omega arith)))
few-counts kept (Restarted serial pdu) c is n =
    let w = resync-written kept.accepted pdu (few-by 40 few-40 pdu c.0 c.1) c.1 is in
    (w.0, inr (refl, weaken _ _ _ w.2 (omega arith)))
few-counts kept (Cancel pdu) c is n =
    let w = resync-written kept.accepted pdu (few-by 37 few-37 pdu c.0 c.1) c.1 is in
    (w.0, if-counts kept.state.agreed _ _ (inr (refl, weaken _ _ _ w.2 (omega arith))) w.1)
few-counts kept (Cancelled pdu) c is n =
    let w = resync-written kept.accepted pdu (few-by 38 few-38 pdu c.0 c.1) c.1 is in
    (w.0, if-counts kept.state.agreed _ _ (inr (refl, weaken _ _ _ w.2 (omega arith))) w.1)
few-counts kept (Abort None) c is n = (empty_has_room (primitives.Abort []) kept.accepted refl, inr (refl, omega arith))
few-counts kept (Abort (Some pdu)) c is n =
    let fit = pdu-fits pdu c.1 in
    let low = fit.shallow in
    let v = pdu_carried kept.accepted pdu in
    let w = one-written (primitives.Abort (v ∷ [])) kept.accepted v 2007 tt refl is (omega (arith, low)) (few-either pdu c.0 c.1) (omega arith) (omega arith) in
    (w.0, inr (refl, weaken _ _ _ w.1 (omega arith)))
few-counts kept Pass c is n = (tt, inl refl)

-- ---- lengths that are known

pub accept-counts : (kept : KeptExchange) (sync : Bool) (pdu : Pdu) (measured : Option ℕ) → placed (standing_of kept) (Accept sync pdu) ≡ true
    → Measures (primitives.Accepted (results_of kept.offers) (pdu_carried kept.accepted pdu ∷ [])) kept.accepted measured → CountsData kept (Accept sync pdu) measured
accept-counts kept sync pdu None is m = λ w. w.small m
accept-counts kept sync pdu (Some n) is m = (record { placed = is; small = m.0 }, inl (sym m.1))

pub refuse-placed : (results : List Bool) (contexts : List ContextEntry) (v : Carried) → is_placed (primitives.Refused results (v ∷ [])) contexts ≡ has_pdu (accepted contexts) contexts PciContext (v ∷ [])
refuse-placed [] contexts v = refl
refuse-placed (result ∷ results) contexts v = refl

some-empty : (results : List Bool) (v : Carried) → is_empty (primitives.Refused results (v ∷ [])) ≡ false
some-empty [] v = refl
some-empty (result ∷ results) v = refl

pub refuse-counts : (kept : KeptExchange) (pdu : Pdu) (measured : Option ℕ) → placed (standing_of kept) (Refuse (Some pdu)) ≡ true
    → Measures (primitives.Refused (results_of kept.offers) (pdu_carried kept.accepted pdu ∷ [])) kept.accepted measured → CountsData kept (Refuse (Some pdu)) measured
refuse-counts kept pdu None is m = λ w. w.small m
refuse-counts kept pdu (Some n) is m =
    let p = primitives.Refused (results_of kept.offers) (pdu_carried kept.accepted pdu ∷ []) in
    let octets : user_octets p kept.accepted ≡ spell (written p kept.accepted) =
    ap (λ (empty : Bool). if empty then [] else spell (written p kept.accepted)) (some-empty (results_of kept.offers) (pdu_carried kept.accepted pdu)) in
    (record { placed = is; small = m.0 }, inl (sym (ap (λ (o : List ℕ). length o) octets ∙ m.1)))

pub element-counts : (kept : KeptExchange) (element : Element) (measured : Option ℕ) → placed (standing_of kept) (Item (items.Element element)) ≡ true
    → Measures (primitives.Data (element_carried kept.accepted element ∷ [])) kept.accepted measured → CountsData kept (Item (items.Element element)) measured
element-counts kept element None is m = λ w. w.small m
element-counts kept element (Some n) is m = (record { placed = is; small = m.0 }, inl (sym m.1))

-- of a request that is one of these
pub accept-request : (kept : KeptExchange) (request : Request) (sync : Bool) (pdu : Pdu) (measured : Option ℕ) → request ≡ Accept sync pdu → placed (standing_of kept) request ≡ true
    → Measures (primitives.Accepted (results_of kept.offers) (pdu_carried kept.accepted pdu ∷ [])) kept.accepted measured → CountsData kept request measured
accept-request kept request sync pdu measured e is m =
    let P : Request → Type 0 = λ r. placed (standing_of kept) r ≡ true in
    let D : Request → Type 0 = λ r. CountsData kept r measured in
    subst D (sym e) (accept-counts kept sync pdu measured (subst P e is) m)

pub refuse-request : (kept : KeptExchange) (request : Request) (pdu : Pdu) (measured : Option ℕ) → request ≡ Refuse (Some pdu) → placed (standing_of kept) request ≡ true
    → Measures (primitives.Refused (results_of kept.offers) (pdu_carried kept.accepted pdu ∷ [])) kept.accepted measured → CountsData kept request measured
refuse-request kept request pdu measured e is m =
    let P : Request → Type 0 = λ r. placed (standing_of kept) r ≡ true in
    let D : Request → Type 0 = λ r. CountsData kept r measured in
    subst D (sym e) (refuse-counts kept pdu measured (subst P e is) m)

pub element-request : (kept : KeptExchange) (request : Request) (element : Element) (measured : Option ℕ) → request ≡ Item (items.Element element) → placed (standing_of kept) request ≡ true
    → Measures (primitives.Data (element_carried kept.accepted element ∷ [])) kept.accepted measured → CountsData kept request measured
element-request kept request element measured e is m =
    let P : Request → Type 0 = λ r. placed (standing_of kept) r ≡ true in
    let D : Request → Type 0 = λ r. CountsData kept r measured in
    subst D (sym e) (element-counts kept element measured (subst P e is) m)

first-is : (id : Option ℤ) (contexts : List ContextEntry) (tree : Tree) → in_context (in_first id contexts tree).context tree ≡ in_first id contexts tree
first-is None contexts tree = refl
first-is (Some id) contexts tree = refl

pub element-is : (contexts : List ContextEntry) (element : Element) → in_context (element_carried contexts element).context (element_value element) ≡ element_carried contexts element
element-is contexts element = first-is (id_of (syntax_for element) contexts) contexts (element_value element)

-- ---- what holds a value is longer than it

longer : (tag : Tag) (parts : Trees) → length (spells parts) ≤ length (spell (built tag parts))
longer tag parts = omega (arith, length-append (header true tag (length (spells parts))) (spells parts))

first-longer : (tree : Tree) (trees : Trees) → length (spell tree) ≤ length (spells (more tree trees))
first-longer tree trees = omega (arith, length-append (spell tree) (spells trees))

rest-longer : (tree : Tree) (trees : Trees) → length (spells trees) ≤ length (spells (more tree trees))
rest-longer tree trees = omega (arith, length-append (spell tree) (spells trees))

data-longer : (contexts : List ContextEntry) (v : Carried) → length (spell v.tree) ≤ length (spell (written (primitives.Data (v ∷ [])) contexts))
data-longer contexts v =
    let held = holding (context 0) (v.tree ∷ []) in
    let a = first-longer v.tree none in
    let b = longer (context 0) (more v.tree none) in
    let c = first-longer held none in
    let d = rest-longer (integer v.context) (more held none) in
    let e = longer (universal 16) (more (integer v.context) (more held none)) in
    let f = first-longer (pdv_list v.context v.tree) none in
    let g = longer (application 1) (more (pdv_list v.context v.tree) none) in
    omega (arith, a, b, c, d, e, f, g)

above : (n m : ℕ) → 1048576 < n → n ≤ m → 1048576 < m
above n m p q = omega arith

pub element-long : (contexts : List ContextEntry) (element : Element) → 1048576 < length (spell (element_value element)) → Measures (primitives.Data (element_carried contexts element ∷ [])) contexts None
element-long contexts element long =
    let P : Carried → Type 0 = λ v. 1048576 < length (spell v.tree) in
    let more = data-longer contexts (element_carried contexts element) in
    inr (above _ _ (subst P (element-is contexts element) long) more)
