-- Rounds of a loop: the commits of an indication more, or of a piece more; and those of octets on a link that was taken out.
use Rattle.std.proofs.Common.{◌≡◌, ℕ, Bool, List, [], ◌∷◌, ◌++◌, length, None, Result, Ok, Err, refl, ap, sym, subst, ◌∙◌}
use Rattle.std.specs.Prelude.{is_some}
use Rattle.vf_journal.specs.declared.error.JournalError.{JournalError}
use Rattle.vf_stack.specs.declared.indication.Indication.{Indication}
use Rattle.vf_store.specs.StoreState.{StoreState}
use Rattle.vf_responder.proofs.CommitLemmas.{IsCommitted, all-made, committed-all, committed-next, committed-up}
use Rattle.vf_responder.proofs.CommitParts.{cut-commits, gone-commits, heard-gone-commits, told-split}
use Rattle.vf_responder.proofs.MoveLemmas.{IsTakenOut, nobody-on, out-numbered, out-represents}
use Rattle.vf_responder.proofs.TellLemmas.{told-gone}
use Rattle.vf_responder.specs.Answers.{at_end, octets_heard, told, told_all}
use Rattle.vf_responder.specs.AnswersTo.{to_indications}
use Rattle.vf_responder.specs.Commits.{AreMade, AreMadeUpTo, Commit, CommitsAlong, CommitsSo, DiskTells, commits_heard, commits_told, commits_told_all}
use Rattle.vf_responder.specs.Represents.{Does, IsErrorOf, Kept, Represents, link_of, with_link}
use Rattle.vf_responder.specs.Serving.{Serving}
use Rattle.vf_responder.specs.declared.event.Reply.{Reply}
use Rattle.vf_responder.specs.declared.link.Link.{Link}

module _ {D : Type 0} (tells : DiskTells D) (moment number other : ℕ) (all : List Commit) (kept kept' : Kept D) (old mid new : StoreState D) (same : other ≡ number) where
  -- ---- an indication more

  module _ (indication : Indication) (later whole : List Indication) (is : whole ≡ indication ∷ later) (o : IsCommitted tells all kept old mid (λ s. commits_told_all moment number s whole)) where
    splits : commits_told_all moment number o.now whole ≡ commits_told moment number o.now indication ++ commits_told_all moment number (at_end o.now (told moment number o.now indication)) later
    splits = ap (λ (rest : List Indication). commits_told_all moment number o.now rest) is ∙ told-split moment number o.now indication later

    pub tell-committed : (said said' : List Reply) → Does (λ s. told moment other s indication) kept said kept' said'
        → ((s : Serving) → Represents kept s → AreMade tells (commits_told moment other s indication) mid new)
        → IsCommitted tells all kept' old new (λ s. commits_told_all moment number s later)
    tell-committed said said' does made =
        committed-next tells all kept kept' old mid new (λ s. commits_told_all moment number s whole) (λ s. commits_told_all moment number s later) o
        (commits_told moment number o.now indication) (at_end o.now (told moment number o.now indication)) splits
        (subst (λ (n : ℕ). Represents kept' (at_end o.now (told moment n o.now indication))) same (does o.now o.represents).represents)
        (subst (λ (n : ℕ). AreMade tells (commits_told moment n o.now indication) mid new) same (made o.now o.represents))

    pub tell-up : (error : JournalError) → ((s : Serving) → Represents kept s → AreMadeUpTo tells error (commits_told moment other s indication) mid new) → AreMadeUpTo tells error all old new
    tell-up error up =
        committed-up tells error all kept old mid new (λ s. commits_told_all moment number s whole) o
        (commits_told moment number o.now indication) (commits_told_all moment number (at_end o.now (told moment number o.now indication)) later) splits
        (subst (λ (n : ℕ). AreMadeUpTo tells error (commits_told moment n o.now indication) mid new) same (up o.now o.represents))

  -- ---- a piece more

  module _ (whole front more : List ℕ) (is : whole ≡ front ++ more) (o : IsCommitted tells all kept old mid (λ s. commits_heard moment number s whole)) where
    parts : commits_heard moment number o.now whole ≡ commits_heard moment number o.now front ++ commits_heard moment number (at_end o.now (octets_heard moment number o.now front)) more
    parts = ap (λ (octets : List ℕ). commits_heard moment number o.now octets) is ∙ cut-commits moment number front more o.now

    pub piece-committed : (said said' : List Reply) → Does (λ s. octets_heard moment other s front) kept said kept' said'
        → ((s : Serving) → Represents kept s → AreMade tells (commits_heard moment other s front) mid new)
        → IsCommitted tells all kept' old new (λ s. commits_heard moment number s more)
    piece-committed said said' does made =
        committed-next tells all kept kept' old mid new (λ s. commits_heard moment number s whole) (λ s. commits_heard moment number s more) o
        (commits_heard moment number o.now front) (at_end o.now (octets_heard moment number o.now front)) parts
        (subst (λ (n : ℕ). Represents kept' (at_end o.now (octets_heard moment n o.now front))) same (does o.now o.represents).represents)
        (subst (λ (n : ℕ). AreMade tells (commits_heard moment n o.now front) mid new) same (made o.now o.represents))

    pub piece-up : (error : JournalError) → ((s : Serving) → Represents kept s → AreMadeUpTo tells error (commits_heard moment other s front) mid new) → AreMadeUpTo tells error all old new
    piece-up error up =
        committed-up tells error all kept old mid new (λ s. commits_heard moment number s whole) o
        (commits_heard moment number o.now front) (commits_heard moment number (at_end o.now (octets_heard moment number o.now front)) more) parts
        (subst (λ (n : ℕ). AreMadeUpTo tells error (commits_heard moment n o.now front) mid new) same (up o.now o.represents))

module _ {D : Type 0} (tells : DiskTells D) (moment number : ℕ) where
  -- ---- nobody stands on the link any more, or nothing is left

  pub told-committed : (all : List Commit) (kept : Kept D) (old new : StoreState D) (rest : List Indication) → IsCommitted tells all kept old new (λ s. commits_told_all moment number s rest)
      → link_of number kept.links ≡ None → AreMade tells all old new
  told-committed all kept old new rest o free =
      committed-all tells all kept old new (λ s. commits_told_all moment number s rest) o
      (gone-commits o.now (told_all moment number o.now rest) (to_indications moment number o.now rest) (told-gone moment number o.now rest (nobody-on number kept o.now o.represents free)))

  pub heard-committed : (all : List Commit) (kept : Kept D) (old new : StoreState D) (rest : List ℕ) → IsCommitted tells all kept old new (λ s. commits_heard moment number s rest)
      → link_of number kept.links ≡ None → AreMade tells all old new
  heard-committed all kept old new rest o free =
      committed-all tells all kept old new (λ s. commits_heard moment number s rest) o
      (heard-gone-commits moment number o.now rest (ap is_some (nobody-on number kept o.now o.represents free)))

  pub none-left-committed : (all : List Commit) (kept : Kept D) (old new : StoreState D) (rest : List ℕ) → length rest ≡ 0 → IsCommitted tells all kept old new (λ s. commits_heard moment number s rest) → AreMade tells all old new
  none-left-committed all kept old new [] none o = committed-all tells all kept old new (λ s. commits_heard moment number s []) o refl
  none-left-committed all kept old new (octet ∷ rest) none o = cc

  -- ---- a link that was taken out of the others

  commits-of : (all : List Commit) (old new : StoreState D) (heard : Result Bool JournalError) (result : Result (Unit {0}) JournalError) → CommitsSo tells all old new heard → IsErrorOf heard result → CommitsSo tells all old new result
  commits-of all old new (Ok goes) (Ok done) made is = made
  commits-of all old new (Ok goes) (Err error) made is = subst (λ (e : JournalError). AreMadeUpTo tells e all old new) (sym is) (all-made tells all old new made)
  commits-of all old new (Err error) (Ok done) made is = absurd is
  commits-of all old new (Err error) (Err other) made is = subst (λ (e : JournalError). AreMadeUpTo tells e all old new) (sym is) made

  pub back-commits : (link : Link) (octets : List ℕ) (kept rest : Kept D) (store last : StoreState D) (heard : Result Bool JournalError) (result : Result (Unit {0}) JournalError)
      → IsTakenOut number link kept rest → CommitsAlong tells (λ s. commits_heard moment link.number s octets) (with_link link rest) store heard → last ≡ store → IsErrorOf heard result
      → CommitsAlong tells (λ s. commits_heard moment number s octets) kept last result
  back-commits link octets kept rest store last heard result out along same is serving represents =
      let first = along serving (out-represents number link kept rest serving represents out) in
      let second = subst (λ (n : ℕ). CommitsSo tells (commits_heard moment n serving octets) rest.store store heard) (out-numbered number link kept rest serving represents out) first in
      let third = commits-of (commits_heard moment number serving octets) rest.store store heard result second is in
      subst (λ (store : StoreState D). CommitsSo tells (commits_heard moment number serving octets) kept.store store result) (sym same)
      (subst (λ (old : StoreState D). CommitsSo tells (commits_heard moment number serving octets) old store result) out.store third)

  -- nothing is heard on one that doesn't stand
  pub none-heard-commits : (octets : List ℕ) (kept : Kept D) → link_of number kept.links ≡ None → (serving : Serving) → Represents kept serving → AreMade tells (commits_heard moment number serving octets) kept.store kept.store
  none-heard-commits octets kept free serving represents =
      subst (λ (all : List Commit). AreMade tells all kept.store kept.store)
      (sym (heard-gone-commits moment number serving octets (ap is_some (nobody-on number kept serving represents free)))) refl
