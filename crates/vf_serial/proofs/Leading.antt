-- How moves lead from one state to another, where one of those who have a history has another one, or is gone.
use Rattle.std.proofs.Common.{◌≡◌, ◌≢◌, ℕ, ◌<◌, ◌≤◌, List, [], ◌∷◌, ◌++◌, inl, inr, refl, ap, sym, subst, ◌∙◌, arith}
use Rattle.std.specs.Prelude.{◌⊎◌, flat_map}
use Rattle.std.proofs.lemmas.Bool.{eqb-false}
use Rattle.std.proofs.lemmas.List.{append_assoc}
use Rattle.vf_attr.specs.declared.file.File.{File}
use Rattle.vf_filestore.specs.History.{Regime}
use Rattle.vf_filestore.specs.Sound.{IsSound, is_same_number}
use Rattle.vf_filestore.specs.State.{State}
use Rattle.vf_filestore.proofs.Lists.{flat_map-append}
use Rattle.vf_serial.specs.Moves.{Move, Opened, Acted, Ceased, Created, Renamed, Deleted}
use Rattle.vf_serial.specs.Uses.{Standing}
use Rattle.vf_serial.proofs.Acting.{AreAsBefore, AreOf, DoesAt, IsActing, ends, goes, placed_at}
use Rattle.vf_serial.proofs.Among.{IsAmong, in_either, in_left, in_right}
use Rattle.vf_serial.proofs.Led.{AreSame, AreThere, Does, IsCeased, IsCoherent, IsLed, IsOpened, Stand, at, ends, goes}
use Rattle.vf_serial.proofs.Pairs.{AreApart, ArePairs, beside}
use Rattle.vf_serial.proofs.Present.{Item, coherent, items, number_pairs, numbers_apart, numbers_of, present, stands}
use Rattle.vf_serial.proofs.Working.{apart_of, own_of, rest_of, were_next, workers, working, working_stands}

-- ---- the same regimes

does_same : (all same : List Stand) (next n : ℕ) (move : Move) (later : List Stand) → AreSame all same → next ≤ n → Does same n move later → Does all next move later
does_same all same next n (Opened file regime) later are less does = record {
  fresh = let fresh = does.fresh in omega arith;
  stay = λ x there. does.stay x (are.stay x there);
  were = λ x there. elim (does.were x there) [ inl was ↦ inl (are.were x was) | inr new ↦ inr new ];
}
does_same all same next n (Acted file number operation) later are less does = record {
  regime = does.regime;
  is = does.is;
  stands = are.were (at file does.regime) does.stands;
  allowed = does.allowed;
  same = record { stay = λ x there. does.same.stay x (are.stay x there); were = λ x there. are.were x (does.same.were x there) };
}
does_same all same next n (Ceased file number) later are less does = record {
  regime = does.regime;
  is = does.is;
  stands = are.were (at file does.regime) does.stands;
  stay = λ x there differ. does.stay x (are.stay x there) differ;
  were = λ x there. are.were x (does.were x there);
  gone = does.gone;
}
does_same all same next n (Created file contents) later are less does = record {
  free = λ x there. does.free x (are.stay x there);
  same = record { stay = λ x there. does.same.stay x (are.stay x there); were = λ x there. are.were x (does.same.were x there) };
}
does_same all same next n (Renamed old new) later are less does = record {
  free = λ differ. (λ x there. (does.free differ).0 x (are.stay x there), λ x there. (does.free differ).1 x (are.stay x there));
  same = record { stay = λ x there. does.same.stay x (are.stay x there); were = λ x there. are.were x (does.same.were x there) };
}
does_same all same next n (Deleted file) later are less does =
    record { stay = λ x there. does.stay x (are.stay x there); were = λ x there. are.were x (does.were x there) }

pub led_same : (all same : List Stand) (next n : ℕ) (moves : List Move) → IsCoherent all next → AreSame all same → next ≤ n → IsLed same n moves → IsLed all next moves
led_same all same next n moves coherent_all are less (ends a b) = ends all next
led_same all same next n moves coherent_all are less (goes a later b m move rest coherent_same rises does led) =
    goes all later next m move rest coherent_all (omega arith) (does_same all a next b move later are less does) led

pub itself : (all : List Stand) → AreSame all all
itself all = record { stay = λ x there. there; were = λ x there. there }

-- ---- the same regimes that work, or fewer, and the same contents

does_less : (all same : List Standing) (files was : List File) (next n : ℕ) (move : Move) (later : List Standing) (after : List File) → ((x : Standing) → IsAmong x all → x.regime.number < next)
    → AreOf same all → AreAsBefore files was → next ≤ n → DoesAt same was n move later after → DoesAt all files next move later after
does_less all same files was next n (Opened file regime) later after bound are trees less does = record {
  fresh = let fresh = does.fresh in omega arith;
  were = λ x there. elim (does.were x there) [ inl one ↦ inl (are x one) | inr new ↦ inr new ];
  trees = λ name. does.trees name ∙ trees name;
}
does_less all same files was next n (Acted file number operation) later after bound are trees less does = record {
  regime = does.regime;
  position = does.position;
  tree = does.tree;
  outcome = does.outcome;
  is = does.is;
  below = subst (λ number. number < next) does.is (bound (placed_at file does.regime does.position) (are (placed_at file does.regime does.position) does.stands));
  stands = are (placed_at file does.regime does.position) does.stands;
  there = sym (trees file) ∙ does.there;
  done = does.done;
  shown = does.shown;
  leaves = does.leaves;
  others = λ name off. does.others name off ∙ trees name;
  were = λ x there. elim (does.were x there) [ inl one ↦ inl (are x one.0, one.1) | inr new ↦ inr new ];
}
does_less all same files was next n (Ceased file number) later after bound are trees less does =
    record { were = λ x there. are x (does.were x there); trees = λ name. does.trees name ∙ trees name }
does_less all same files was next n (Created file contents) later after bound are trees less does = record {
  were = λ x there. are x (does.were x there);
  free = does.free;
  none = sym (trees file) ∙ does.none;
  leaves = does.leaves;
  others = λ name off. does.others name off ∙ trees name;
}
does_less all same files was next n (Renamed old new) later after bound are trees less does = record {
  were = λ x there. are x (does.were x there);
  free = λ differ. ((does.free differ).0, sym (trees new) ∙ (does.free differ).1);
  leaves = does.leaves ∙ trees old;
  others = λ name off other. does.others name off other ∙ trees name;
}
does_less all same files was next n (Deleted file) later after bound are trees less does =
    record { were = λ x there. are x (does.were x there); others = λ name off. does.others name off ∙ trees name }

acting_less : (last : List File) (all same : List Standing) (files was : List File) (next n : ℕ) (moves : List Move) → ((x : Standing) → IsAmong x all → x.regime.number < next) → AreOf same all → AreAsBefore files was → next ≤ n
    → IsActing last same was n moves → IsActing last all files next moves
acting_less last all same files was next n moves bound are trees less (ends a f m is) = ends all files next (λ name. is name ∙ trees name)
acting_less last all same files was next n moves bound are trees less (goes a later f after b m move rest rises does acting) =
    goes all later files after next m move rest (omega arith) (does_less all a files f next b move later after bound are trees less does) acting

-- ---- what leads

-- as regimes that stand do, and as contents and positions do
pub record Leads (state : State) (moves : List Move) (later : State) : Type 0 where
  pub orders : (rest : List Move) → IsLed (present later) later.concluded rest → IsLed (present state) state.concluded (moves ++ rest)
  pub follows : (last : List File) (rest : List Move) → IsActing last (working later) later.files later.concluded rest → IsActing last (working state) state.files state.concluded (moves ++ rest)

pub then_leads : (state mid later : State) (moves more : List Move) → Leads state moves mid → Leads mid more later → Leads state (moves ++ more) later
then_leads state mid later moves more first second = record {
  orders = λ rest led.
      subst (λ (all : List Move). IsLed (present state) state.concluded all) (sym (append_assoc moves more rest)) (first.orders (more ++ rest) (second.orders rest led));
  follows = λ last rest acting.
      subst (λ (all : List Move). IsActing last (working state) state.files state.concluded all) (sym (append_assoc moves more rest)) (first.follows last (more ++ rest) (second.follows last rest acting));
}

-- nothing is moved
pub record IsStill (state later : State) : Type 0 where
  pub same : AreSame (present state) (present later)
  pub were : AreOf (working later) (working state)
  pub trees : AreAsBefore state.files later.files
  pub less : state.concluded ≤ later.concluded

pub still_itself : (state : State) → IsStill state state
still_itself state = record { same = itself (present state); were = λ x there. there; trees = λ name. refl; less = omega arith }

pub stays : (state later : State) → IsSound state → IsStill state later → Leads state [] later
stays state later sound still = record {
  orders = λ rest led. led_same (present state) (present later) state.concluded later.concluded rest (coherent state sound) still.same still.less led;
  follows = λ last rest acting.
      acting_less last (working state) (working later) state.files later.files state.concluded later.concluded rest
      (λ x there. (coherent state sound).below (at x.file x.regime) (working_stands (items state.dockets state.parties) x there)) still.were still.trees still.less acting;
}

pub moves_on : (state later : State) (move : Move) → IsSound state → state.concluded ≤ later.concluded → Does (present state) state.concluded move (present later)
    → DoesAt (working state) state.files state.concluded move (working later) later.files → Leads state (move ∷ []) later
moves_on state later move sound less does acts = record {
  orders = λ rest led. goes (present state) (present later) state.concluded later.concluded move rest (coherent state sound) less does led;
  follows = λ last rest acting. goes (working state) (working later) state.files later.files state.concluded later.concluded move rest less acts acting;
}

-- ---- one's own, and the rest

pub record Splits (all own rest : List Stand) : Type 0 where
  pub parts : (x : Stand) → IsAmong x all → IsAmong x own ⊎ IsAmong x rest
  pub own_in : AreThere own all
  pub rest_in : AreThere rest all

same_split : (all later own rest : List Stand) → Splits all own rest → Splits later own rest → AreSame all later
same_split all later own rest one other = record {
  stay = λ x there. elim (one.parts x there) [ inl own_x ↦ other.own_in x own_x | inr rest_x ↦ other.rest_in x rest_x ];
  were = λ x there. elim (other.parts x there) [ inl own_x ↦ one.own_in x own_x | inr rest_x ↦ one.rest_in x rest_x ];
}

opened_split : (all later rest : List Stand) (next : ℕ) (file : List ℕ) (regime : Regime) → Splits all [] rest → Splits later (at file regime ∷ []) rest → next ≤ regime.number → IsOpened all next file regime later
opened_split all later rest next file regime one other fresh = record {
  fresh = fresh;
  stay = λ x there. elim (one.parts x there) [ inl own_x ↦ absurd own_x | inr rest_x ↦ other.rest_in x rest_x ];
  were = λ x there. elim (other.parts x there) [ inl own_x ↦ elim own_x [ inl new ↦ inr new | inr none ↦ absurd none ] | inr rest_x ↦ inl (one.rest_in x rest_x) ];
}

ceased_split : (all later rest : List Stand) (file : List ℕ) (regime : Regime) → Splits all (at file regime ∷ []) rest → Splits later [] rest → ((x : Stand) → IsAmong x rest → x.regime.number ≢ regime.number)
    → IsCeased all file regime.number later
ceased_split all later rest file regime one other differ = record {
  regime = regime;
  is = refl;
  stands = one.own_in (at file regime) (inl refl);
  stay = λ x there other_x.
      elim (one.parts x there) [
        | inl own_x ↦ elim own_x [ inl own ↦ absurd (other_x (ap (λ (s : Stand). s.regime.number) own)) | inr none ↦ absurd none ]
        | inr rest_x ↦ other.rest_in x rest_x
      ];
  were = λ x there. elim (other.parts x there) [ inl own_x ↦ absurd own_x | inr rest_x ↦ one.rest_in x rest_x ];
  gone = λ x there. elim (other.parts x there) [ inl own_x ↦ absurd own_x | inr rest_x ↦ differ x rest_x ];
}

-- ---- one among the others

pub mid_splits : (item : Item) (before after : List Item) → Splits (flat_map stands (before ++ item ∷ after)) (stands item) (flat_map stands (before ++ after))
mid_splits item before after = record {
  parts = λ x there.
      elim (in_either x (flat_map stands before) (flat_map stands (item ∷ after)) (subst (IsAmong x) (flat_map-append stands before (item ∷ after)) there)) [
        | inl first ↦ inr (subst (IsAmong x) (sym (flat_map-append stands before after)) (in_left x (flat_map stands before) (flat_map stands after) first))
        | inr later ↦ elim (in_either x (stands item) (flat_map stands after) later) [
          | inl own ↦ inl own
          | inr last ↦ inr (subst (IsAmong x) (sym (flat_map-append stands before after)) (in_right x (flat_map stands before) (flat_map stands after) last))
        ]
      ];
  own_in = λ x there.
      subst (IsAmong x) (sym (flat_map-append stands before (item ∷ after)))
      (in_right x (flat_map stands before) (flat_map stands (item ∷ after)) (in_left x (stands item) (flat_map stands after) there));
  rest_in = λ x there.
      elim (in_either x (flat_map stands before) (flat_map stands after) (subst (IsAmong x) (flat_map-append stands before after) there)) [
        | inl first ↦ subst (IsAmong x) (sym (flat_map-append stands before (item ∷ after))) (in_left x (flat_map stands before) (flat_map stands (item ∷ after)) first)
        | inr last ↦
            subst (IsAmong x) (sym (flat_map-append stands before (item ∷ after)))
            (in_right x (flat_map stands before) (flat_map stands (item ∷ after)) (in_right x (stands item) (flat_map stands after) last))
      ];
}

-- without it
pub none_splits : (before after : List Item) → Splits (flat_map stands (before ++ after)) [] (flat_map stands (before ++ after))
none_splits before after = record { parts = λ x there. inr there; own_in = λ x none. absurd none; rest_in = λ x there. there }

pub found_in : (x : Stand) (xs : List Item) → IsAmong x (flat_map stands xs) → (j : Item) × IsAmong j xs × IsAmong x (stands j)
found_in x [] there = absurd there
found_in x (i ∷ xs) there =
    elim (in_either x (stands i) (flat_map stands xs) there) [ inl here ↦ (i, inl refl, here) | inr later ↦ let found = found_in x xs later in (found.0, inr found.1, found.2) ]

-- the others have other numbers
pub others_differ : (state : State) (item : Item) (before after : List Item) → IsSound state → items state.dockets state.parties ≡ before ++ item ∷ after → (own : Stand) → IsAmong own (stands item)
    → (x : Stand) → IsAmong x (flat_map stands (before ++ after)) → x.regime.number ≢ own.regime.number
others_differ state item before after sound is own there x rest same =
    let found = found_in x (before ++ after) rest in
    elim (beside (AreApart is_same_number numbers_of) item found.0 before after (subst (λ (all : List Item). ArePairs (AreApart is_same_number numbers_of) all) is (number_pairs state sound)) found.1) [
      | inl first ↦ eqb-false own.regime.number x.regime.number (numbers_apart item found.0 own x first there found.2) (sym same)
      | inr last ↦ eqb-false x.regime.number own.regime.number (numbers_apart found.0 item x own last found.2 there) same
    ]

-- ---- one has another history

pub record IsReplaced (state later : State) (item next : Item) : Type 0 where
  pub before : List Item
  pub after : List Item
  pub was : items state.dockets state.parties ≡ before ++ item ∷ after
  pub is : items later.dockets later.parties ≡ before ++ next ∷ after

pub split_was : (state : State) (item : Item) (before after : List Item) → items state.dockets state.parties ≡ before ++ item ∷ after → Splits (present state) (stands item) (flat_map stands (before ++ after))
split_was state item before after is =
    subst (λ (all : List Item). Splits (flat_map stands all) (stands item) (flat_map stands (before ++ after))) (sym is) (mid_splits item before after)

pub replaced_same : (state later : State) (item next : Item) → IsReplaced state later item next → stands next ≡ stands item → AreSame (present state) (present later)
replaced_same state later item next replaced same =
    same_split (present state) (present later) (stands item) (flat_map stands (replaced.before ++ replaced.after)) (split_was state item replaced.before replaced.after replaced.was)
    (subst (λ (own : List Stand). Splits (present later) own (flat_map stands (replaced.before ++ replaced.after))) same (split_was later next replaced.before replaced.after replaced.is))

pub replaced_opened : (state later : State) (item next : Item) (file : List ℕ) (regime : Regime) → IsReplaced state later item next → stands item ≡ [] → stands next ≡ at file regime ∷ [] → state.concluded ≤ regime.number
    → IsOpened (present state) state.concluded file regime (present later)
replaced_opened state later item next file regime replaced none one fresh =
    let rest = flat_map stands (replaced.before ++ replaced.after) in
    opened_split (present state) (present later) rest state.concluded file regime
    (subst (λ (own : List Stand). Splits (present state) own rest) none (split_was state item replaced.before replaced.after replaced.was))
    (subst (λ (own : List Stand). Splits (present later) own rest) one (split_was later next replaced.before replaced.after replaced.is)) fresh

pub replaced_ceased : (state later : State) (item next : Item) (file : List ℕ) (regime : Regime) → IsSound state → IsReplaced state later item next → stands item ≡ at file regime ∷ [] → stands next ≡ []
    → IsCeased (present state) file regime.number (present later)
replaced_ceased state later item next file regime sound replaced one none =
    let rest = flat_map stands (replaced.before ++ replaced.after) in
    ceased_split (present state) (present later) rest file regime
    (subst (λ (own : List Stand). Splits (present state) own rest) one (split_was state item replaced.before replaced.after replaced.was))
    (subst (λ (own : List Stand). Splits (present later) own rest) none (split_was later next replaced.before replaced.after replaced.is))
    (others_differ state item replaced.before replaced.after sound replaced.was (at file regime) (subst (IsAmong (at file regime)) (sym one) (inl refl)))

-- ---- one is gone

pub record IsWithout (state later : State) (item : Item) : Type 0 where
  pub before : List Item
  pub after : List Item
  pub was : items state.dockets state.parties ≡ before ++ item ∷ after
  pub is : items later.dockets later.parties ≡ before ++ after

split_is : (later : State) (before after : List Item) → items later.dockets later.parties ≡ before ++ after → Splits (present later) [] (flat_map stands (before ++ after))
split_is later before after is = subst (λ (all : List Item). Splits (flat_map stands all) [] (flat_map stands (before ++ after))) (sym is) (none_splits before after)

pub without_same : (state later : State) (item : Item) → IsWithout state later item → stands item ≡ [] → AreSame (present state) (present later)
without_same state later item without none =
    let rest = flat_map stands (without.before ++ without.after) in
    same_split (present state) (present later) [] rest
    (subst (λ (own : List Stand). Splits (present state) own rest) none (split_was state item without.before without.after without.was)) (split_is later without.before without.after without.is)

pub without_ceased : (state later : State) (item : Item) (file : List ℕ) (regime : Regime) → IsSound state → IsWithout state later item → stands item ≡ at file regime ∷ []
    → IsCeased (present state) file regime.number (present later)
without_ceased state later item file regime sound without one =
    let rest = flat_map stands (without.before ++ without.after) in
    ceased_split (present state) (present later) rest file regime
    (subst (λ (own : List Stand). Splits (present state) own rest) one (split_was state item without.before without.after without.was))
    (split_is later without.before without.after without.is)
    (others_differ state item without.before without.after sound without.was (at file regime) (subst (IsAmong (at file regime)) (sym one) (inl refl)))

-- ---- one comes from elsewhere

pub record IsElsewhere (state later : State) (item next : Item) : Type 0 where
  pub before : List Item
  pub after : List Item
  pub first : List Item
  pub last : List Item
  pub was : items state.dockets state.parties ≡ before ++ item ∷ after
  pub is : items later.dockets later.parties ≡ first ++ next ∷ last
  pub same : before ++ after ≡ first ++ last

pub elsewhere_same : (state later : State) (item next : Item) → IsElsewhere state later item next → stands next ≡ stands item → AreSame (present state) (present later)
elsewhere_same state later item next moved same =
    same_split (present state) (present later) (stands item) (flat_map stands (moved.before ++ moved.after)) (split_was state item moved.before moved.after moved.was)
    (subst (λ (rest : List Item). Splits (present later) (stands item) (flat_map stands rest)) (sym moved.same)
    (subst (λ (own : List Stand). Splits (present later) own (flat_map stands (moved.first ++ moved.last))) same (split_was later next moved.first moved.last moved.is)))

-- ---- the regimes that work

pub replaced_were : (state later : State) (item next : Item) → IsReplaced state later item next → AreOf (workers next) (workers item) → AreOf (working later) (working state)
replaced_were state later item next replaced own x there =
    subst (λ (all : List Item). IsAmong x (flat_map workers all)) (sym replaced.was)
    (were_next item next replaced.before replaced.after own x (subst (λ (all : List Item). IsAmong x (flat_map workers all)) replaced.is there))

pub without_were : (state later : State) (item : Item) → IsWithout state later item → AreOf (working later) (working state)
without_were state later item without x there =
    subst (λ (all : List Item). IsAmong x (flat_map workers all)) (sym without.was)
    (rest_of item without.before without.after x (subst (λ (all : List Item). IsAmong x (flat_map workers all)) without.is there))

pub elsewhere_were : (state later : State) (item next : Item) → IsElsewhere state later item next → AreOf (workers next) (workers item) → AreOf (working later) (working state)
elsewhere_were state later item next moved own x there =
    subst (λ (all : List Item). IsAmong x (flat_map workers all)) (sym moved.was)
    (elim (apart_of next moved.first moved.last x (subst (λ (all : List Item). IsAmong x (flat_map workers all)) moved.is there)) [
      | inl mine ↦ own_of item moved.before moved.after x (own x mine)
      | inr others ↦ rest_of item moved.before moved.after x (subst (λ (all : List Item). IsAmong x (flat_map workers all)) (sym moved.same) others)
    ])
