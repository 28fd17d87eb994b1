-- Answers one after another, what is said in them, and what the disk represents along them.
use Rattle.std.proofs.Common.{◌≡◌, ℕ, zero, suc, List, [], ◌∷◌, ◌++◌, take, refl, ap, sym, subst, ◌∙◌, append_assoc, append-nil}
use Rattle.vf_disk.proofs.Runs.{joined, weaker}
use Rattle.vf_disk.specs.Disk.{LeavesOnly}
use Rattle.vf_store.specs.Represented.{Represents as ImageRepresents}
use Rattle.vf_responder.specs.Along.{RepresentsAlong}
use Rattle.vf_responder.specs.Answers.{Answer, at_end, spoken_in}
use Rattle.vf_responder.specs.Represents.{Answers, Kept, Represents}
use Rattle.vf_responder.specs.Run.{tables_in}
use Rattle.vf_responder.specs.Serving.{Serving}
use Rattle.vf_responder.specs.declared.event.Reply.{Reply}

pub at_end-join : (state : Serving) (first second : List Answer) → at_end state (first ++ second) ≡ at_end (at_end state first) second
at_end-join state [] second = refl
at_end-join state (answer ∷ first) second = at_end-join answer.state first second

pub spoken-join : (first second : List Answer) → spoken_in (first ++ second) ≡ spoken_in first ++ spoken_in second
spoken-join [] second = refl
spoken-join (answer ∷ first) second =
    ap (λ (said : List Reply). answer.spoken ++ said) (spoken-join first second) ∙ sym (append_assoc answer.spoken (spoken_in first) (spoken_in second))

-- So many answers from the beginning are so many of the first ones,
front-count : (count : ℕ) (first rest : List Answer) → (n : ℕ) × (take n (first ++ rest) ≡ take count first)
front-count zero first rest = (0, refl)
front-count (suc count) [] rest = (0, refl)
front-count (suc count) (answer ∷ first) rest =
    let more = front-count count first rest in (suc more.0, ap (λ (answers : List Answer). answer ∷ answers) more.1)

-- and after these so many of the next ones.
later-count : (count : ℕ) (first next : List Answer) → (n : ℕ) × (take n (first ++ next) ≡ first ++ take count next)
later-count count [] next = (count, refl)
later-count count (answer ∷ first) next =
    let more = later-count count first next in (suc more.0, ap (λ (answers : List Answer). answer ∷ answers) more.1)

pub along-front : (state : Serving) (first rest : List Answer) (image : List ℕ) → RepresentsAlong state first image → RepresentsAlong state (first ++ rest) image
along-front state first rest image along =
    let n = front-count along.0 first rest in
    (n.0, subst (λ (answers : List Answer). ImageRepresents image (tables_in (at_end state answers))) (sym n.1) along.1)

pub along-later : (state : Serving) (first next : List Answer) (image : List ℕ) → RepresentsAlong (at_end state first) next image → RepresentsAlong state (first ++ next) image
along-later state first next image along =
    let n = later-count along.0 first next in
    let is : at_end state (take n.0 (first ++ next)) ≡ at_end (at_end state first) (take along.0 next) =
    ap (at_end state) n.1 ∙ at_end-join state first (take along.0 next) in
    (n.0, subst (λ (s : Serving). ImageRepresents image (tables_in s)) (sym is) along.1)

-- the tables before the first answer, and after the last one
pub along-none : (state : Serving) (answers : List Answer) (image : List ℕ) → ImageRepresents image (tables_in state) → RepresentsAlong state answers image
along-none state answers image represents = (0, represents)

pub along-all : (state : Serving) (answers : List Answer) (image : List ℕ) → ImageRepresents image (tables_in (at_end state answers)) → RepresentsAlong state answers image
along-all state answers image represents =
    let n = later-count 0 answers [] in
    let is : take n.0 answers ≡ answers = subst (λ (whole : List Answer). take n.0 whole ≡ answers ++ []) (append-nil answers) n.1 ∙ append-nil answers in
    (n.0, subst (λ (some : List Answer). ImageRepresents image (tables_in (at_end state some))) (sym is) represents)

-- ANSWERED SO FAR. Of all answers these were made, and the rest is what the state then has left.
pub record IsOnward {D : Type 0} (all : List Answer) (serving : Serving) (old : List Reply) (kept : Kept D) (new : List Reply) (rest : Serving → List Answer) : Type 0 where
  pub done : List Answer
  pub answers : Answers done serving old kept new
  pub whole : all ≡ done ++ rest (at_end serving done)

pub onward-none : {D : Type 0} (serving : Serving) (old : List Reply) (kept : Kept D) (rest : Serving → List Answer) → Represents kept serving → IsOnward (rest serving) serving old kept old rest
onward-none serving old kept rest represents = record {
  done = [];
  answers = record { spoken = sym (append-nil old); represents = represents };
  whole = refl;
}

pub joined-answers : {D : Type 0} (serving : Serving) (first second : List Answer) (old mid new : List Reply) (kept kept' : Kept D)
    → Answers first serving old kept mid → Answers second (at_end serving first) mid kept' new → Answers (first ++ second) serving old kept' new
joined-answers serving first second old mid new kept kept' a b = record {
  spoken = b.spoken ∙ ap (λ (said : List Reply). said ++ spoken_in second) a.spoken ∙ append_assoc old (spoken_in first) (spoken_in second)
      ∙ ap (λ (said : List Reply). old ++ said) (sym (spoken-join first second));
  represents = subst (λ (s : Serving). Represents kept' s) (sym (at_end-join serving first second)) b.represents;
}

pub onward-next : {D : Type 0} (all : List Answer) (serving : Serving) (old mid new : List Reply) (kept kept' : Kept D) (rest rest' : Serving → List Answer)
    → (o : IsOnward all serving old kept mid rest) → (next : List Answer) → rest (at_end serving o.done) ≡ next ++ rest' (at_end (at_end serving o.done) next)
    → Answers next (at_end serving o.done) mid kept' new → IsOnward all serving old kept' new rest'
onward-next all serving old mid new kept kept' rest rest' o next splits a = record {
  done = o.done ++ next;
  answers = joined-answers serving o.done next old mid new kept kept' o.answers a;
  whole = o.whole ∙ ap (λ (answers : List Answer). o.done ++ answers) splits ∙ sym (append_assoc o.done next (rest' (at_end (at_end serving o.done) next)))
      ∙ ap (λ (s : Serving). (o.done ++ next) ++ rest' s) (sym (at_end-join serving o.done next));
}

-- nothing is left
pub onward-all : {D : Type 0} (all : List Answer) (serving : Serving) (old new : List Reply) (kept : Kept D) (rest : Serving → List Answer)
    → (o : IsOnward all serving old kept new rest) → rest (at_end serving o.done) ≡ [] → Answers all serving old kept new
onward-all all serving old new kept rest o none =
    let is : all ≡ o.done = o.whole ∙ ap (λ (answers : List Answer). o.done ++ answers) none ∙ append-nil o.done in
    subst (λ (answers : List Answer). Answers answers serving old kept new) (sym is) o.answers

-- what is represented along the next answers is along all
pub onward-along : {D : Type 0} (all : List Answer) (serving : Serving) (old mid : List Reply) (kept : Kept D) (rest : Serving → List Answer)
    → (o : IsOnward all serving old kept mid rest) → (next later : List Answer) → rest (at_end serving o.done) ≡ next ++ later
    → (image : List ℕ) → RepresentsAlong (at_end serving o.done) next image → RepresentsAlong serving all image
onward-along all serving old mid kept rest o next later splits image along =
    let is : all ≡ o.done ++ (next ++ later) = o.whole ∙ ap (λ (answers : List Answer). o.done ++ answers) splits in
    subst (λ (answers : List Answer). RepresentsAlong serving answers image) (sym is)
    (along-later serving o.done (next ++ later) image (along-front (at_end serving o.done) next later image along))

module _ {D : Type 0} (moment : D → ℕ) (left_since : D → ℕ → List ℕ → Type 0) where
  -- a run goes on along all
  pub run-next : (old mid new : D) (all : List Answer) (serving now : Serving) (next : List Answer)
      → LeavesOnly moment left_since old mid (RepresentsAlong serving all) → LeavesOnly moment left_since mid new (RepresentsAlong now next)
      → ((image : List ℕ) → RepresentsAlong now next image → RepresentsAlong serving all image) → LeavesOnly moment left_since old new (RepresentsAlong serving all)
  run-next old mid new all serving now next first second goes =
      joined moment left_since old mid new (RepresentsAlong serving all) (RepresentsAlong now next) (RepresentsAlong serving all) first second (λ image along. along) goes

  pub run-within : (old new : D) (serving : Serving) (first all : List Answer) → LeavesOnly moment left_since old new (RepresentsAlong serving first)
      → ((image : List ℕ) → RepresentsAlong serving first image → RepresentsAlong serving all image) → LeavesOnly moment left_since old new (RepresentsAlong serving all)
  run-within old new serving first all run goes = weaker moment left_since old new (RepresentsAlong serving first) (RepresentsAlong serving all) run goes
