-- The sizes of what is written are those of its trees.
use Rattle.std.proofs.Common.{◌≡◌, ℕ, suc, ◌+◌, ◌≤◌, ◌<◌, Bool, true, false, List, [], ◌∷◌, ◌++◌, length, map, refl, ap, sym, ◌∙◌, arith, length-append, inl, inr}
use Rattle.std.specs.Prelude.{ℤ, pos, max, ◌&&◌, ◌⊎◌, nat_le, Option, None, Some, if◌then◌else◌}
use Rattle.std.proofs.lemmas.Bool.Decides.{nat_tests}
use Rattle.std.specs.Option.{is_some}
use Rattle.vf_ber.specs.Contents.{integer_octets, oid_octets}
use Rattle.vf_ber.specs.Limits.{IsTooLarge, measured, measured_in, within}
use Rattle.vf_ber.specs.Spelling.{first_octet, header, length_octets, spell, spells}
use Rattle.vf_ber.specs.Tree.{depth, depth_in, more, none, plain, Tag, Tree, Trees}
use Rattle.vf_ber.proofs.Names.{identifier-short}
use Rattle.vf_upper.specs.declared.contexts.ContextEntry.{ContextEntry}
use Rattle.vf_upper.specs.declared.contexts.Offer.{Offer}
use Rattle.vf_upper.specs.declared.primitive.Primitive.{Primitive}
use Rattle.vf_upper.specs.declared.primitive.Primitive.TheVariants.{Associate, Accepted, Refused, Release, Released, Data, Abort}
use Rattle.vf_upper.specs.CarriedCode.{Carried}
use Rattle.vf_upper.specs.Sizes.{acse_size, all, apdu_size, both, carried_size, fitting, in_mode_size, information_size, integer_size, listed_size, outcome_size, placed_size, proposal_size, size_of, wrapped}
use Rattle.vf_upper_grammar.specs.Syntaxes as syntaxes
use Rattle.vf_upper.specs.Written.{aare, aarq, abrt, acse_data, acse_id, application, application_context_name, carried_list, context, external, holding, in_mode, integer, is_placed, IsWritable, mode_selector, object_identifier, outcome, pdv_list, proposal, rlre, rlrq, source, trees, universal, user_information, written}

-- ---- lengths within the limit

abbrev IsFit : Option ℕ → Type 0
IsFit None = Unit {0}
IsFit (Some n) = n ≤ 1048576

fit_if : (b : Bool) (n : ℕ) → (b ≡ true → n ≤ 1048576) → IsFit (if b then Some n else None)
fit_if true n le = le refl
fit_if false n le = tt

fitting-fits : (n : ℕ) → IsFit (fitting n)
fitting-fits n = fit_if (nat_le n 1048576) n (λ e. grind (arith, nat_tests))

within-fits : (d k n : ℕ) → IsFit (within d 1048576 k n)
within-fits d k n = fit_if (nat_le k d && nat_le n 1048576) n (λ e. grind (arith, nat_tests))

both-fits : (a b : Option ℕ) → IsFit (both a b)
both-fits None b = tt
both-fits (Some a) None = tt
both-fits (Some a) (Some b) = fitting-fits (a + b)

fits : (n : ℕ) → n ≤ 1048576 → fitting n ≡ Some n
fits n le = grind (arith, nat_tests)

passes : (n : ℕ) → 1048576 < n → fitting n ≡ None
passes n lt = grind (arith, nat_tests)

pub both-zero : (o : Option ℕ) → IsFit o → both o (Some 0) ≡ o
both-zero None fit = refl
both-zero (Some n) fit = grind (arith, nat_tests)

assoc-fits : (a b c : ℕ) → both (fitting (a + b)) (Some c) ≡ both (Some a) (fitting (b + c))
assoc-fits a b c = grind (arith, nat_tests)

assoc-none : (o : Option ℕ) → both o None ≡ None
assoc-none None = refl
assoc-none (Some a) = refl

both-assoc : (a b c : Option ℕ) → both (both a b) c ≡ both a (both b c)
both-assoc None b c = refl
both-assoc (Some a) None c = refl
both-assoc (Some a) (Some b) None = assoc-none (fitting (a + b))
both-assoc (Some a) (Some b) (Some c) = assoc-fits a b c

-- ---- trees

both-within : (d a b m n : ℕ) → within d 1048576 (max a b) (m + n) ≡ both (within d 1048576 a m) (within d 1048576 b n)
both-within d a b m n = grind (arith, nat_tests)

wrapped-within : (d k n h : ℕ) → h ≡ 1 + length (length_octets n) → within (suc d) 1048576 (k + 1) (h + n) ≡ wrapped (within d 1048576 k n)
wrapped-within d k n h e = grind (arith, nat_tests)

measured-both : (d : ℕ) (t : Tree) (ts : Trees) → measured_in d 1048576 (more t ts) ≡ both (measured d 1048576 t) (measured_in d 1048576 ts)
measured-both d t ts =
    ap (within d 1048576 (max (depth t) (depth_in ts))) (length-append (spell t) (spells ts))
    ∙ both-within d (depth t) (depth_in ts) (length (spell t)) (length (spells ts))

measured-none : (d : ℕ) → measured_in d 1048576 none ≡ Some 0
measured-none d = grind (arith, nat_tests)

-- the identifier takes one octet
header-long : (constructed : Bool) (tag : Tag) (n : ℕ) → tag.number < 31 → length (header constructed tag n) ≡ 1 + length (length_octets n)
header-long constructed tag n low =
    ap (λ i. length (i ++ length_octets n)) (identifier-short constructed tag.class tag.number low)
    ∙ length-append (first_octet constructed tag.class tag.number ∷ []) (length_octets n)

leaf : (d : ℕ) (tag : Tag) (octets : List ℕ) → tag.number < 31 → measured (suc d) 1048576 (plain tag octets) ≡ wrapped (Some (length octets))
leaf d tag octets low =
    ap (within (suc d) 1048576 1) (length-append (header false tag (length octets)) octets ∙ ap (λ h. h + length octets) (header-long false tag (length octets) low))
    ∙ leaf-within d (length octets) (length (length_octets (length octets)))
  where
    leaf-within : (d n h : ℕ) → within (suc d) 1048576 1 ((1 + h) + n) ≡ fitting (1 + h + n)
    leaf-within d n h = grind (arith, nat_tests)

many : (d : ℕ) (tag : Tag) (ts : List Tree) → tag.number < 31 → measured (suc d) 1048576 (holding tag ts) ≡ wrapped (measured_in d 1048576 (trees ts))
many d tag ts low =
    let parts = trees ts in
    let n = length (spells parts) in
    ap (within (suc d) 1048576 (depth_in parts + 1)) (length-append (header true tag n) (spells parts))
    ∙ wrapped-within d (depth_in parts) n (length (header true tag n)) (header-long true tag n low)

one : (d : ℕ) (tag : Tag) (t : Tree) → tag.number < 31 → measured (suc d) 1048576 (holding tag (t ∷ [])) ≡ wrapped (measured d 1048576 t)
one d tag t low =
    many d tag (t ∷ []) low
    ∙ ap wrapped (measured-both d t none ∙ ap (both (measured d 1048576 t)) (measured-none d) ∙ both-zero (measured d 1048576 t) (within-fits d (depth t) (length (spell t))))

-- parts of which the sizes are known
sized : (d : ℕ) (t : Tree) (ts : Trees) (a b : Option ℕ) → measured d 1048576 t ≡ a → measured_in d 1048576 ts ≡ b → measured_in d 1048576 (more t ts) ≡ both a b
sized d t ts a b e f = measured-both d t ts ∙ ap (λ x. both x (measured_in d 1048576 ts)) e ∙ ap (both a) f

last : (d : ℕ) (t : Tree) (a : Option ℕ) → measured d 1048576 t ≡ a → measured_in d 1048576 (more t none) ≡ a
last d t a e =
    measured-both d t none ∙ ap (both (measured d 1048576 t)) (measured-none d)
    ∙ both-zero (measured d 1048576 t) (within-fits d (depth t) (length (spell t))) ∙ e

held : (d : ℕ) (tag : Tag) (ts : List Tree) (a : Option ℕ) → tag.number < 31 → measured_in d 1048576 (trees ts) ≡ a → measured (suc d) 1048576 (holding tag ts) ≡ wrapped a
held d tag ts a low e = many d tag ts low ∙ ap wrapped e

-- values in turn, after others
all-sized : {X : Type 0} (d : ℕ) (f : X → Tree) (g : X → Option ℕ) → ((x : X) → measured d 1048576 (f x) ≡ g x) → (xs : List X) (total : Option ℕ) → IsFit total
    → all total (map g xs) ≡ both total (measured_in d 1048576 (trees (map f xs)))
all-sized d f g same [] total fit = sym (ap (both total) (measured-none d) ∙ both-zero total fit)
all-sized d f g same (x ∷ xs) total fit =
    all-sized d f g same xs (both total (g x)) (both-fits total (g x))
    ∙ both-assoc total (g x) (measured_in d 1048576 (trees (map f xs)))
    ∙ ap (both total) (sym (sized d (f x) (trees (map f xs)) (g x) _ (same x) refl))

zero-both : (o : Option ℕ) → IsFit o → both (Some 0) o ≡ o
zero-both None fit = refl
zero-both (Some n) fit = grind (arith, nat_tests)

all-parts : {X : Type 0} (d : ℕ) (f : X → Tree) (g : X → Option ℕ) → ((x : X) → measured d 1048576 (f x) ≡ g x) → (xs : List X)
    → measured_in d 1048576 (trees (map f xs)) ≡ all (Some 0) (map g xs)
all-parts d f g same xs =
    sym (all-sized d f g same xs (Some 0) (omega arith)
    ∙ zero-both (measured_in d 1048576 (trees (map f xs))) (within-fits d (depth_in (trees (map f xs))) (length (spells (trees (map f xs))))))

-- ---- values in contexts

integer-sized : (d : ℕ) (n : ℤ) → measured (suc d) 1048576 (integer n) ≡ integer_size n
integer-sized d n = leaf d (universal 2) (integer_octets n) (omega arith)

placed-sized : (d : ℕ) (tag : Tag) (id : ℤ) (tree : Tree) (size : Option ℕ) → tag.number < 31 → measured d 1048576 tree ≡ size
    → measured (suc (suc d)) 1048576 (holding tag (integer id ∷ holding (context 0) (tree ∷ []) ∷ [])) ≡ placed_size id size
placed-sized d tag id tree size low e =
    held (suc d) tag (integer id ∷ holding (context 0) (tree ∷ []) ∷ []) (both (integer_size id) (wrapped size)) low
    (sized (suc d) (integer id) (more (holding (context 0) (tree ∷ [])) none) (integer_size id) (wrapped size) (integer-sized d id)
    (last (suc d) (holding (context 0) (tree ∷ [])) (wrapped size) (one d (context 0) tree (omega arith) ∙ ap wrapped e)))

information-sized : (d : ℕ) (values : List Carried) → measured (suc (suc (suc d))) 1048576 (user_information values) ≡ information_size d values
information-sized d values =
    held (suc (suc d)) (context 30) (map external values) (all (Some 0) (map (carried_size d) values)) (omega arith)
    (all-parts (suc (suc d)) external (carried_size d) (λ v. placed-sized d (universal 8) v.context v.tree (measured d 1048576 v.tree) (omega arith) refl) values)

acse-sized : (d : ℕ) (contexts : List ContextEntry) (tree : Tree) (size : Option ℕ) → measured d 1048576 tree ≡ size
    → measured (suc (suc (suc d))) 1048576 (acse_data contexts tree) ≡ acse_size (acse_id contexts) size
acse-sized d contexts tree size e =
    one (suc (suc d)) (application 1) (pdv_list (acse_id contexts) tree) (omega arith)
    ∙ ap wrapped (placed-sized d (universal 16) (acse_id contexts) tree size (omega arith) e)

-- ---- ACSE; the depths are those of the values that are carried

-- fields of which the size is known, before others
fields-sized : (d n : ℕ) (t : Tree) (ts : Trees) (m : ℕ) (a : Option ℕ) → measured d 1048576 t ≡ Some n → n + m ≤ 1048576 → measured_in d 1048576 ts ≡ both (Some m) a
    → measured_in d 1048576 (more t ts) ≡ both (Some (n + m)) a
fields-sized d n t ts m a e le f =
    sized d t ts (Some n) (both (Some m) a) e f ∙ sym (both-assoc (Some n) (Some m) a) ∙ ap (λ x. both x a) (fits (n + m) le)

name-sized : (d : ℕ) → measured (suc (suc d)) 1048576 application_context_name ≡ Some 9
name-sized d = one (suc d) (context 1) (object_identifier syntaxes.ftam) (omega arith) ∙ ap wrapped (leaf d (universal 6) (oid_octets syntaxes.ftam) (omega arith))

aarq-sized : (d : ℕ) (values : List Carried) → measured (suc (suc (suc (suc d)))) 1048576 (aarq values) ≡ apdu_size 9 d values
aarq-sized d values =
    let e = suc (suc (suc d)) in
    held e (application 0) (application_context_name ∷ user_information values ∷ []) (both (Some 9) (information_size d values)) (omega arith)
    (sized e application_context_name (more (user_information values) none) (Some 9) (information_size d values) (name-sized (suc d)) (last e (user_information values) (information_size d values) (information-sized d values)))

result-sized : (d n : ℕ) → length (integer_octets (pos n)) ≡ 1 → measured (suc (suc d)) 1048576 (holding (context 2) (integer (pos n) ∷ [])) ≡ Some 5
result-sized d n short = one (suc d) (context 2) (integer (pos n)) (omega arith) ∙ ap wrapped (integer-sized d (pos n) ∙ ap (λ k. wrapped (Some k)) short)

source-sized : (d : ℕ) → measured (suc (suc (suc d))) 1048576 source ≡ Some 7
source-sized d =
    one (suc (suc d)) (context 3) (holding (context 1) (integer (pos 0) ∷ [])) (omega arith)
    ∙ ap wrapped (one (suc d) (context 1) (integer (pos 0)) (omega arith) ∙ ap wrapped (integer-sized d (pos 0)))

aare-sized : (d n : ℕ) (values : List Carried) → length (integer_octets (pos n)) ≡ 1 → measured (suc (suc (suc (suc d)))) 1048576 (aare (pos n) values) ≡ apdu_size 21 d values
aare-sized d n values short =
    let e = suc (suc (suc d)) in
    let information = last e (user_information values) (information_size d values) (information-sized d values) in
    let third = sized e source (more (user_information values) none) (Some 7) (information_size d values) (source-sized d) information in
    let second = fields-sized e 5 (holding (context 2) (integer (pos n) ∷ [])) (more source (more (user_information values) none)) 7 (information_size d values) (result-sized (suc d) n short) (omega arith) third in
    held e (application 1) (application_context_name ∷ holding (context 2) (integer (pos n) ∷ []) ∷ source ∷ user_information values ∷ []) (both (Some 21) (information_size d values)) (omega arith)
    (fields-sized e 9 application_context_name (more (holding (context 2) (integer (pos n) ∷ [])) (more source (more (user_information values) none))) 12 (information_size d values) (name-sized (suc d)) (omega arith) second)

release-sized : (d : ℕ) (tag : Tag) (values : List Carried) → tag.number < 31 → measured (suc (suc (suc (suc d)))) 1048576 (holding tag (user_information values ∷ [])) ≡ apdu_size 0 d values
release-sized d tag values low =
    one (suc (suc (suc d))) tag (user_information values) low
    ∙ ap wrapped (information-sized d values ∙ sym (zero-both (information_size d values) (wrapped-fits (all (Some 0) (map (carried_size d) values)))))
  where
    wrapped-fits : (o : Option ℕ) → IsFit (wrapped o)
    wrapped-fits None = tt
    wrapped-fits (Some n) = fitting-fits (1 + length (length_octets n) + n)

number-sized : (d n : ℕ) (tag : Tag) → tag.number < 31 → length (integer_octets (pos n)) ≡ 1 → measured (suc d) 1048576 (plain tag (integer_octets (pos n))) ≡ Some 3
number-sized d n tag low short = leaf d tag (integer_octets (pos n)) low ∙ ap (λ k. wrapped (Some k)) short

abrt-sized : (d : ℕ) (values : List Carried) → measured (suc (suc (suc (suc d)))) 1048576 (abrt values) ≡ apdu_size 3 d values
abrt-sized d values =
    let e = suc (suc (suc d)) in
    held e (application 4) (plain (context 0) (integer_octets (pos 0)) ∷ user_information values ∷ []) (both (Some 3) (information_size d values)) (omega arith)
    (sized e (plain (context 0) (integer_octets (pos 0))) (more (user_information values) none) (Some 3) (information_size d values) (number-sized (suc (suc d)) 0 (context 0) (omega arith) refl) (last e (user_information values) (information_size d values) (information-sized d values)))

-- ---- presentation

-- the transfer syntaxes of a proposal
abbrev rules : Tree
rules = holding (universal 16) (object_identifier syntaxes.ber ∷ [])

rules-sized : (d : ℕ) → measured (suc (suc d)) 1048576 rules ≡ Some 6
rules-sized d = one (suc d) (universal 16) (object_identifier syntaxes.ber) (omega arith) ∙ ap wrapped (leaf d (universal 6) (oid_octets syntaxes.ber) (omega arith))

proposal-sized : (d : ℕ) (offer : Offer) → measured (suc (suc (suc d))) 1048576 (proposal offer) ≡ proposal_size offer
proposal-sized d offer =
    let e = suc (suc d) in
    let syntax_size = wrapped (Some (length (oid_octets offer.syntax))) in
    held e (universal 16) (integer offer.id ∷ object_identifier offer.syntax ∷ rules ∷ [])
    (both (integer_size offer.id) (both syntax_size (Some 6))) (omega arith)
    (sized e (integer offer.id) (more (object_identifier offer.syntax) (more rules none)) (integer_size offer.id) (both syntax_size (Some 6)) (integer-sized (suc d) offer.id)
    (sized e (object_identifier offer.syntax) (more rules none) syntax_size (Some 6) (leaf (suc d) (universal 6) (oid_octets offer.syntax) (omega arith)) (last e rules (Some 6) (rules-sized d))))

outcome-sized : (d : ℕ) (accepted : Bool) → measured (suc (suc d)) 1048576 (outcome accepted) ≡ outcome_size accepted
outcome-sized d true =
    let e = suc d in
    let result = plain (context 0) (integer_octets (pos 0)) in
    let syntax = plain (context 1) (oid_octets syntaxes.ber) in
    held e (universal 16) (result ∷ syntax ∷ []) (Some 7) (omega arith)
    (sized e result (more syntax none) (Some 3) (Some 4) (number-sized d 0 (context 0) (omega arith) refl) (last e syntax (Some 4) (leaf d (context 1) (oid_octets syntaxes.ber) (omega arith))))
outcome-sized d false = one (suc d) (universal 16) (plain (context 0) (integer_octets (pos 2))) (omega arith) ∙ ap wrapped (number-sized d 2 (context 0) (omega arith) refl)

proposals-sized : (d : ℕ) (offers : List Offer) → measured (suc (suc (suc (suc d)))) 1048576 (holding (context 4) (map proposal offers)) ≡ listed_size (map proposal_size offers)
proposals-sized d offers =
    held (suc (suc (suc d))) (context 4) (map proposal offers) (all (Some 0) (map proposal_size offers)) (omega arith)
    (all-parts (suc (suc (suc d))) proposal proposal_size (proposal-sized d) offers)

outcomes-sized : (d : ℕ) (results : List Bool) → measured (suc (suc (suc d))) 1048576 (holding (context 5) (map outcome results)) ≡ listed_size (map outcome_size results)
outcomes-sized d results =
    held (suc (suc d)) (context 5) (map outcome results) (all (Some 0) (map outcome_size results)) (omega arith)
    (all-parts (suc (suc d)) outcome outcome_size (outcome-sized d) results)

mode-sized : (d : ℕ) → measured (suc (suc d)) 1048576 mode_selector ≡ Some 5
mode-sized d = one (suc d) (context 0) (plain (context 0) (integer_octets (pos 1))) (omega arith) ∙ ap wrapped (number-sized d 1 (context 0) (omega arith) refl)

in_mode-sized : (d : ℕ) (list data_tree : Tree) (a b : Option ℕ) → measured (suc d) 1048576 list ≡ a → measured (suc d) 1048576 data_tree ≡ b
    → measured (suc (suc (suc d))) 1048576 (in_mode (list ∷ data_tree ∷ [])) ≡ in_mode_size a b
in_mode-sized d list data_tree a b e f =
    held (suc (suc d)) (universal 17) (mode_selector ∷ holding (context 2) (list ∷ data_tree ∷ []) ∷ []) (both (Some 5) (wrapped (both a b))) (omega arith)
    (sized (suc (suc d)) mode_selector (more (holding (context 2) (list ∷ data_tree ∷ [])) none) (Some 5) (wrapped (both a b)) (mode-sized d)
    (last (suc (suc d)) (holding (context 2) (list ∷ data_tree ∷ [])) (wrapped (both a b))
    (held (suc d) (context 2) (list ∷ data_tree ∷ []) (both a b) (omega arith) (sized (suc d) list (more data_tree none) a b e (last (suc d) data_tree b f)))))

-- ---- primitives

pub written-sized : (p : Primitive) (contexts : List ContextEntry) → measured 32 1048576 (written p contexts) ≡ size_of p contexts
written-sized (Associate offers values) contexts =
    in_mode-sized 29 (holding (context 4) (map proposal offers)) (acse_data contexts (aarq values)) (listed_size (map proposal_size offers)) (acse_size (acse_id contexts) (apdu_size 9 23 values)) (proposals-sized 26 offers)
    (acse-sized 27 contexts (aarq values) (apdu_size 9 23 values) (aarq-sized 23 values))
written-sized (Accepted results values) contexts =
    in_mode-sized 29 (holding (context 5) (map outcome results)) (acse_data contexts (aare (pos 0) values)) (listed_size (map outcome_size results)) (acse_size (acse_id contexts) (apdu_size 21 23 values)) (outcomes-sized 27 results)
    (acse-sized 27 contexts (aare (pos 0) values) (apdu_size 21 23 values) (aare-sized 23 0 values refl))
written-sized (Refused results values) contexts =
    held 31 (universal 16) (holding (context 5) (map outcome results) ∷ acse_data contexts (aare (pos 1) values) ∷ []) (both (listed_size (map outcome_size results)) (acse_size (acse_id contexts) (apdu_size 21 24 values))) (omega arith)
    (sized 31 (holding (context 5) (map outcome results)) (more (acse_data contexts (aare (pos 1) values)) none) (listed_size (map outcome_size results)) (acse_size (acse_id contexts) (apdu_size 21 24 values)) (outcomes-sized 28 results)
    (last 31 (acse_data contexts (aare (pos 1) values)) (acse_size (acse_id contexts) (apdu_size 21 24 values)) (acse-sized 28 contexts (aare (pos 1) values) (apdu_size 21 24 values) (aare-sized 24 1 values refl))))
written-sized (Release values) contexts = acse-sized 29 contexts (rlrq values) (apdu_size 0 25 values) (release-sized 25 (application 2) values (omega arith))
written-sized (Released values) contexts = acse-sized 29 contexts (rlre values) (apdu_size 0 25 values) (release-sized 25 (application 3) values (omega arith))
written-sized (Data values) contexts =
    held 31 (application 1) (map carried_list values) (all (Some 0) (map (carried_size 29) values)) (omega arith)
    (all-parts 31 carried_list (carried_size 29) (λ v. placed-sized 29 (universal 16) v.context v.tree (measured 29 1048576 v.tree) (omega arith) refl) values)
written-sized (Abort values) contexts =
    one 31 (context 0) (acse_data contexts (abrt values)) (omega arith) ∙ ap wrapped (acse-sized 28 contexts (abrt values) (apdu_size 3 24 values) (abrt-sized 24 values))

-- ---- limits

small_by : (deep long : ℕ) (size : Option ℕ) → within 32 1048576 deep long ≡ size → (n : ℕ) → size ≡ Some n → (32 < deep) ⊎ (1048576 < long) → ⊥
small_by deep long size e n f (inl lt) = grind (arith, nat_tests)
small_by deep long size e n f (inr lt) = grind (arith, nat_tests)

pub small-sized : (p : Primitive) (contexts : List ContextEntry) (n : ℕ) → size_of p contexts ≡ Some n → ¬ IsTooLarge (written p contexts)
small-sized p contexts n e = small_by (depth (written p contexts)) (length (spell (written p contexts))) (size_of p contexts) (written-sized p contexts) n e

length_by : (deep long : ℕ) (size : Option ℕ) → within 32 1048576 deep long ≡ size → (n : ℕ) → size ≡ Some n → long ≡ n
length_by deep long size e n f = grind (arith, nat_tests)

pub length-sized : (p : Primitive) (contexts : List ContextEntry) (n : ℕ) → size_of p contexts ≡ Some n → length (spell (written p contexts)) ≡ n
length-sized p contexts n e = length_by (depth (written p contexts)) (length (spell (written p contexts))) (size_of p contexts) (written-sized p contexts) n e

large_by : (deep long : ℕ) → within 32 1048576 deep long ≡ None → (32 < deep) ⊎ (1048576 < long)
large_by deep long e = grind (arith, nat_tests)

pub large-sized : (p : Primitive) (contexts : List ContextEntry) → size_of p contexts ≡ None → IsTooLarge (written p contexts)
large-sized p contexts e = large_by (depth (written p contexts)) (length (spell (written p contexts))) (written-sized p contexts ∙ e)

sized-if : (p : Primitive) (contexts : List ContextEntry) (o : Option ℕ) → is_placed p contexts ≡ true → size_of p contexts ≡ o
    → (is_some o ≡ true → IsWritable p contexts) × (IsWritable p contexts → is_some o ≡ true)
sized-if p contexts None placed e = (λ t. absurd (cc), λ w. absurd (w.small (large-sized p contexts e)))
sized-if p contexts (Some n) placed e = (λ t. record { placed = placed; small = small-sized p contexts n e }, λ w. refl)

-- a primitive whose values are placed is writable exactly where it has a size
pub writable-sized : (p : Primitive) (contexts : List ContextEntry) → is_placed p contexts ≡ true
    → (is_some (size_of p contexts) ≡ true → IsWritable p contexts) × (IsWritable p contexts → is_some (size_of p contexts) ≡ true)
writable-sized p contexts placed = sized-if p contexts (size_of p contexts) placed refl
