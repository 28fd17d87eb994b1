-- Errors that come of one thing leave the counts of the others.
use Rattle.std.proofs.Common.{◌≡◌, ℕ, true, Result, Err, refl, arith}
use Rattle.std.proofs.lemmas.Bool.{false≢true}
use Rattle.vf_transact.specs.Connecting.{WritesByCause}
use Rattle.vf_transact.specs.Starting.{ReadsByCause, before_connections, interrupts, of_connections, of_input, of_store}
use Rattle.vf_transact.specs.Transaction.{BreaksByCause, StoreByCause}
use Rattle.vf_transact.specs.declared.error.TransactError.{TransactError}
use Rattle.vf_transact.specs.declared.error.TransactError.TheVariants as errors

module _ (T : Type 0) where
  abbrev failed : TransactError → Result T TransactError
  failed error = Err error

  pub store_stays : (error : TransactError) (limit disk disk' : ℕ) → of_input error ≡ true → disk' ≡ disk → StoreByCause limit disk disk' (failed error)
  store_stays (errors.Task error) limit disk disk' of same = same
  store_stays (errors.Broken connections) limit disk disk' of same = same
  store_stays errors.InUse limit disk disk' of same = same
  store_stays errors.InputFault limit disk disk' of same = same
  store_stays errors.OutputFault limit disk disk' of same = same
  store_stays (errors.Store error) limit disk disk' of same = absurd (false≢true of)
  store_stays errors.NoMemory limit disk disk' of same = same

  pub reads_stay : (error : TransactError) (old new : ℕ) → of_store error ≡ true → new ≡ old → ReadsByCause old new (failed error)
  reads_stay (errors.Task error) old new of same = same
  reads_stay (errors.Broken connections) old new of same = same
  reads_stay errors.InUse old new of same = same
  reads_stay errors.InputFault old new of same = absurd (false≢true of)
  reads_stay errors.OutputFault old new of same = same
  reads_stay (errors.Store error) old new of same = same
  reads_stay errors.NoMemory old new of same = omega (arith, same)

  pub reads_later : (error : TransactError) (old new : ℕ) → of_connections error ≡ true → new ≡ old → ReadsByCause old new (failed error)
  reads_later (errors.Task error) old new of same = same
  reads_later (errors.Broken connections) old new of same = same
  reads_later errors.InUse old new of same = same
  reads_later errors.InputFault old new of same = absurd (false≢true of)
  reads_later errors.OutputFault old new of same = same
  reads_later (errors.Store error) old new of same = same
  reads_later errors.NoMemory old new of same = omega (arith, same)

  pub writes_stay : (error : TransactError) (old new : ℕ) → before_connections error ≡ true → new ≡ old → WritesByCause old new (failed error)
  writes_stay (errors.Task error) old new of same = same
  writes_stay (errors.Broken connections) old new of same = same
  writes_stay errors.InUse old new of same = same
  writes_stay errors.InputFault old new of same = same
  writes_stay errors.OutputFault old new of same = absurd (false≢true of)
  writes_stay (errors.Store error) old new of same = same
  writes_stay errors.NoMemory old new of same = same

  pub breaks_later : (error : TransactError) (connections lost lost' : ℕ) → before_connections error ≡ true → BreaksByCause connections lost lost' (failed error)
  breaks_later (errors.Task error) connections lost lost' of = tt
  breaks_later (errors.Broken count) connections lost lost' of = absurd (false≢true of)
  breaks_later errors.InUse connections lost lost' of = tt
  breaks_later errors.InputFault connections lost lost' of = tt
  breaks_later errors.OutputFault connections lost lost' of = tt
  breaks_later (errors.Store error) connections lost lost' of = tt
  breaks_later errors.NoMemory connections lost lost' of = tt

pub stored_before : (error : TransactError) → of_store error ≡ true → before_connections error ≡ true
stored_before (errors.Task error) of = refl
stored_before (errors.Broken connections) of = of
stored_before errors.InUse of = refl
stored_before errors.InputFault of = refl
stored_before errors.OutputFault of = of
stored_before (errors.Store error) of = refl
stored_before errors.NoMemory of = refl

pub read_before : (error : TransactError) → of_input error ≡ true → before_connections error ≡ true
read_before (errors.Task error) of = refl
read_before (errors.Broken connections) of = of
read_before errors.InUse of = refl
read_before errors.InputFault of = refl
read_before errors.OutputFault of = of
read_before (errors.Store error) of = refl
read_before errors.NoMemory of = refl

pub interrupting : (error : TransactError) → of_store error ≡ true → interrupts error ≡ true
interrupting (errors.Task error) of = of
interrupting (errors.Broken connections) of = of
interrupting errors.InUse of = of
interrupting errors.InputFault of = refl
interrupting errors.OutputFault of = refl
interrupting (errors.Store error) of = refl
interrupting errors.NoMemory of = refl
