-- How what was taken goes on, block by block.
use Rattle.std.proofs.Common.{◌≡◌, ℕ, ◌+◌, ◌<◌, true, false, List, [], ◌∷◌, ◌++◌, length, take, drop, get_or, Option, Some, None, Ok, Err, ap, subst, sym, ◌∙◌, append_assoc}
use Rattle.std.proofs.lemmas.List.{take-append-drop, take_more}
use Rattle.vf_base.specs.Streams.{Reads}
use Rattle.vf_store_commands.specs.Reading.{Ends, Taken, Takes, Tells, told_with}
use Rattle.vf_store_commands.specs.UserLines.{users_told}
use Rattle.vf_store_commands.specs.declared.user_lines.Told.{Told}
use Rattle.vf_store_commands.specs.declared.user_lines.Told.TheVariants.{Users, Bad}

module _ (old mid new : Taken) (block : List ℕ) (place : ℕ) (within : place < length block) (first : Takes old (take place block) mid true) where
  -- an octet more of a block was taken
  pub takes_one : Takes mid (get_or block place 0 ∷ []) new true → Takes old (take (place + 1) block) new true
  takes_one second = λ rest.
      ap (λ (l : List ℕ). told_with old (l ++ rest)) (take_more block place 0 within)
      ∙ ap (told_with old) (append_assoc (take place block) (get_or block place 0 ∷ []) rest)
      ∙ first (get_or block place 0 ∷ rest) ∙ second rest

  split : (take place block ++ get_or block place 0 ∷ []) ++ drop (place + 1) block ≡ block
  split = ap (λ (l : List ℕ). l ++ drop (place + 1) block) (sym (take_more block place 0 within)) ∙ take-append-drop (place + 1) block

  -- an octet more ends or goes on a bad line
  pub takes_bad : Takes mid (get_or block place 0 ∷ []) new false → Takes old block new false
  takes_bad second = λ rest.
      let later : List ℕ = drop (place + 1) block ++ rest in
      ap (λ (l : List ℕ). told_with old (l ++ rest)) (sym split)
      ∙ ap (told_with old) (append_assoc (take place block ++ get_or block place 0 ∷ []) (drop (place + 1) block) rest)
      ∙ ap (told_with old) (append_assoc (take place block) (get_or block place 0 ∷ []) later)
      ∙ first (get_or block place 0 ∷ later) ∙ second later

-- of a source that tells what it has: what it has told, and what it has left
abbrev pub HasTold : Option (List ℕ) → Option (List ℕ) → Taken → Type 0
HasTold None left taken = Unit {0}
HasTold (Some octets) left taken = (rest : List ℕ) × (left ≡ Some rest) × (users_told octets ≡ told_with taken rest)

-- a block was read, and all of its octets were taken
pub told_on : (first before after : Option (List ℕ)) (into : List ℕ) (count : ℕ) (old new : Taken) → HasTold first before old → Reads before after into (Ok count) → Takes old (take count into) new true
    → HasTold first after new
told_on None before after into count old new told reads takes = tt
told_on (Some octets) before after into count old new told reads takes =
    let read = subst (λ (b : Option (List ℕ)). Reads b after into (Ok count)) told.1 reads in
    (read.0, read.1, told.2 ∙ ap (told_with old) read.2 ∙ takes read.0)

-- a block was read that ends or goes on a bad line
pub told_bad : (first before after : Option (List ℕ)) (into : List ℕ) (count : ℕ) (old new : Taken) → HasTold first before old → Reads before after into (Ok count) → Takes old (take count into) new false
    → (octets : List ℕ) → first ≡ Some octets → users_told octets ≡ Err (length new.users + 1)
told_bad first before after into count old new told reads takes octets is =
    let so_far : HasTold (Some octets) before old = subst (λ (f : Option (List ℕ)). HasTold f before old) is told in
    let read = subst (λ (b : Option (List ℕ)). Reads b after into (Ok count)) so_far.1 reads in
    so_far.2 ∙ ap (told_with old) read.2 ∙ takes read.0

all_told : (octets : List ℕ) (old : Taken) (result : Told) → users_told octets ≡ told_with old [] → Ends old result → Tells octets result
all_told octets old (Users users) told ends = told ∙ ends
all_told octets old (Bad number) told ends = told ∙ ends

-- nothing was left to be read
pub told_all : (first before after : Option (List ℕ)) (into : List ℕ) (count : ℕ) (old : Taken) (result : Told) → HasTold first before old → Reads before after into (Ok count) → count ≡ 0 → Ends old result
    → (octets : List ℕ) → first ≡ Some octets → Tells octets result
told_all first before after into count old result told reads none ends octets is =
    let so_far : HasTold (Some octets) before old = subst (λ (f : Option (List ℕ)). HasTold f before old) is told in
    let read = subst (λ (b : Option (List ℕ)). Reads b after into (Ok count)) so_far.1 reads in
    all_told octets old result (so_far.2 ∙ ap (told_with old) (read.3 none)) ends
