-- The values open around a place.
use Rattle.std.proofs.Common.{◌≡◌, ◌≢◌, ℕ, zero, suc, ◌+◌, ◌-◌, ◌<◌, ◌≤◌, List, [], ◌∷◌, length, set, refl, ap, sym, ◌∙◌, arith, add-one, get_or}
use Rattle.std.proofs.lemmas.List.{get_or-set_same, get_or-set_other}
use Rattle.vf_ber.specs.declared.room.Room.{Room}
use Rattle.vf_ber.specs.declared.room.Room.TheVariants.{Exact, Within}
use Rattle.vf_ber.specs.Steps.{less}
use Rattle.vf_ber_scan.specs.declared.frames.Frame.{Frame}
use Rattle.vf_ber_scan.specs.declared.frames.Frame.TheVariants.{Definite, Indefinite}
use Rattle.vf_ber_scan.specs.Frames.{innermost_first, room_in, less_in, ended_in}

-- ---- in an array

pub length-innermost_first : (n : ℕ) (held : List Frame) → length (innermost_first n held) ≡ n
length-innermost_first zero held = refl
length-innermost_first (suc n) held = ap suc (length-innermost_first n held)

-- a frame after them is none of them
pub innermost_first-set : (n i : ℕ) (held : List Frame) (frame : Frame) → n ≤ i → innermost_first n (set held i frame) ≡ innermost_first n held
innermost_first-set zero i held frame le = refl
innermost_first-set (suc n) i held frame le =
    let other : n ≢ i = omega arith in
    ap (λ f. f ∷ innermost_first n (set held i frame)) (get_or-set_other held i n frame (Definite 0) other)
    ∙ ap (λ fs. get_or held n (Definite 0) ∷ fs) (innermost_first-set n i held frame (omega arith))

pub innermost_first-push : (n : ℕ) (held : List Frame) (frame : Frame) → n < length held → innermost_first (n + 1) (set held n frame) ≡ frame ∷ innermost_first n held
innermost_first-push n held frame lt =
    ap (λ k. innermost_first k (set held n frame)) (add-one n)
    ∙ ap (λ f. f ∷ innermost_first n (set held n frame)) (get_or-set_same held n frame (Definite 0) lt)
    ∙ ap (λ fs. frame ∷ fs) (innermost_first-set n n held frame (omega arith))

-- ---- what is left

pub length-less_in : (frames : List Frame) (n : ℕ) → length (less_in frames n) ≡ length frames
length-less_in [] n = refl
length-less_in (Definite left ∷ frames) n = refl
length-less_in (Indefinite room ∷ frames) n = refl

pub length-ended_in : (frames : List Frame) (room : Room) → length (ended_in frames room) ≡ length frames
length-ended_in [] room = refl
length-ended_in (Definite left ∷ frames) room = refl
length-ended_in (Indefinite around ∷ frames) room = refl

pub less-less : (room : Room) (m n : ℕ) → less (less room m) n ≡ less room (m + n)
less-less (Exact most) m n = ap Exact (omega arith)
less-less (Within most) m n = ap Within (omega arith)

pub less-zero : (room : Room) → less room 0 ≡ room
less-zero (Exact most) = ap Exact (omega arith)
less-zero (Within most) = ap Within (omega arith)

-- After a value of an indefinite length that took so many octets, the two of its end among them, as many are left
-- around it as if its length had been known.
pub ended_is_less : (frames : List Frame) (prefix contents : ℕ) → 2 ≤ contents
    → ended_in frames (less (less (room_in frames) prefix) (contents - 2)) ≡ less_in frames (prefix + contents)
ended_is_less [] prefix contents some = refl
ended_is_less (Definite left ∷ frames) prefix contents some = ap (λ k. Definite k ∷ frames) (omega arith)
ended_is_less (Indefinite room ∷ frames) prefix contents some =
    ap (λ r. Indefinite r ∷ frames)
    (ap (λ r. less r (contents - 2)) (less-less room 2 prefix) ∙ less-less room (2 + prefix) (contents - 2) ∙ ap (less room) (omega arith))

-- ---- a change of the innermost one

innermost_first-last : (n : ℕ) (held : List Frame) → 0 < n → innermost_first n held ≡ get_or held (n - 1) (Definite 0) ∷ innermost_first (n - 1) held
innermost_first-last zero held some = absurd (omega arith)
innermost_first-last (suc n) held some = let same : n ≡ suc n - 1 = omega arith in ap (λ k. get_or held k (Definite 0) ∷ innermost_first k held) same

changed_last : (n : ℕ) (held : List Frame) (frame : Frame) → 0 < n → n ≤ length held → innermost_first n (set held (n - 1) frame) ≡ frame ∷ innermost_first (n - 1) held
changed_last n held frame some le =
    innermost_first-last n (set held (n - 1) frame) some
    ∙ ap (λ f. f ∷ innermost_first (n - 1) (set held (n - 1) frame)) (get_or-set_same held (n - 1) frame (Definite 0) (omega arith))
    ∙ ap (λ fs. frame ∷ fs) (innermost_first-set (n - 1) (n - 1) held frame (omega arith))

lessened_in : (frame other : Frame) (frames : List Frame) (n : ℕ) → (other ∷ []) ≡ less_in (frame ∷ []) n → other ∷ frames ≡ less_in (frame ∷ frames) n
lessened_in (Definite left) other frames n is = cc
lessened_in (Indefinite room) other frames n is = cc

resumed_in : (frame other : Frame) (frames : List Frame) (room : Room) → (other ∷ []) ≡ ended_in (frame ∷ []) room → other ∷ frames ≡ ended_in (frame ∷ frames) room
resumed_in (Definite left) other frames room is = cc
resumed_in (Indefinite around) other frames room is = cc

pub take_is_less_in : (n octets : ℕ) (held frames : List Frame) (frame : Frame) → 0 < n → n ≤ length held → innermost_first n held ≡ frames
    → (frame ∷ []) ≡ less_in (get_or held (n - 1) (Definite 0) ∷ []) octets → innermost_first n (set held (n - 1) frame) ≡ less_in frames octets
take_is_less_in n octets held frames frame some le view is =
    changed_last n held frame some le ∙ lessened_in (get_or held (n - 1) (Definite 0)) frame (innermost_first (n - 1) held) octets is
    ∙ ap (λ fs. less_in fs octets) (sym (innermost_first-last n held some) ∙ view)

pub resume_is_ended_in : (n : ℕ) (room : Room) (held frames : List Frame) (frame : Frame) → 0 < n → n ≤ length held → innermost_first n held ≡ frames
    → (frame ∷ []) ≡ ended_in (get_or held (n - 1) (Definite 0) ∷ []) room → innermost_first n (set held (n - 1) frame) ≡ ended_in frames room
resume_is_ended_in n room held frames frame some le view is =
    changed_last n held frame some le ∙ resumed_in (get_or held (n - 1) (Definite 0)) frame (innermost_first (n - 1) held) room is
    ∙ ap (λ fs. ended_in fs room) (sym (innermost_first-last n held some) ∙ view)
