use Rattle.std.proofs.Common.{◌≡◌, ◌∙◌, ◌+◌, ◌≤◌, ℕ, Err, ap, le_antisymm, le_of_lt, refl, subst, sym}
use Rattle.vf_journal.specs.declared.error.JournalError.TheVariants.{NoMemory}
use Rattle.vf_cli_generate.proofs.Making.{after_more, goes_fewer, goes_no_file, goes_one_file, next_within}
use Rattle.vf_cli_generate.specs.Drawing.{after_file, after_files, contents_after, name_of}
use Rattle.vf_cli_generate.specs.Generating.{Answer, FrontOfFiles, Goes, MakesFiles, good}
use Rattle.vf_cli_generate.specs.Requests.{requests_for}
use Rattle.vf_cli_generate.proofs.generating.make_files.Goals as goal

pub loop-made-init : goal.loop-made-init
loop-made-init g c = record {
  makes = λ serving represents stands.
      goes_no_file g.D.Disk.shown g.D.Disk.may_leave g.D.Disk.moment g.D.Disk.left_since g.met.D.Disk.only_now c.args.number serving c.args.responder.now represents stands;
  numbers = c.after-numbers.ensures;
  limit = refl;
  disk = refl;
}

pub loop-made-preserved : goal.loop-made-preserved
loop-made-preserved g c =
    let number : ℕ = c.args.number in
    let made : ℕ = c.loop-made.made in
    let are : c.as_slice.result.now ≡ requests_for (name_of (made + 1)) (contents_after (after_files number made)) =
    c.as_slice.ensures.value ∙ c.in-Ok.ensures.requests ∙ ap (λ (last : ℕ). requests_for (name_of (made + 1)) (contents_after last)) c.loop-made.invariant.numbers in
    record {
      makes = λ serving represents stands.
          goes_one_file g.D.Disk.shown g.D.Disk.may_leave g.D.Disk.moment g.D.Disk.left_since number made serving c.args.responder.now c.loop-made.responder c.make_file.new.responder good
          (c.loop-made.invariant.makes serving represents stands) (λ between here standing. c.in-Ok-make_file.ensures.makes (after_files number made) between are here standing);
      numbers = c.in-Ok.ensures.last ∙ ap after_file c.loop-made.invariant.numbers ∙ sym (after_more number made);
      limit = c.make_file.ensures.limit ∙ c.loop-made.invariant.limit;
      disk = c.in-Ok-make_file.ensures.causes ∙ c.loop-made.invariant.disk;
    }

pub returns-in_default-clause-makes : goal.returns-in_default-clause-makes
returns-in_default-clause-makes g c = λ serving represents stands.
    goes_fewer g.D.Disk.shown g.D.Disk.may_leave g.D.Disk.moment g.D.Disk.left_since c.args.number c.loop-made.made c.args.count serving c.args.responder.now c.loop-made.responder NoMemory (le_of_lt c.loop-made-test.true)
    (c.loop-made.invariant.makes serving represents stands).any_moment tt

pub returns-in-Err-clause-makes : goal.returns-in-Err-clause-makes
returns-in-Err-clause-makes g c = λ serving represents stands.
    let number : ℕ = c.args.number in
    let made : ℕ = c.loop-made.made in
    let failed : Answer = Err c.in-Err.error in
    let within : made + 1 ≤ c.args.count = next_within made c.args.count c.loop-made-test.true in
    let are : c.as_slice.result.now ≡ requests_for (name_of (made + 1)) (contents_after (after_files number made)) =
    c.as_slice.ensures.value ∙ c.in-Ok.ensures.requests ∙ ap (λ (last : ℕ). requests_for (name_of (made + 1)) (contents_after last)) c.loop-made.invariant.numbers in
    let more : Goes g.D.Disk.shown g.D.Disk.may_leave g.D.Disk.moment g.D.Disk.left_since (MakesFiles number (made + 1) serving) (FrontOfFiles number (made + 1) serving) serving c.args.responder.now
    c.make_file.new.responder failed =
    goes_one_file g.D.Disk.shown g.D.Disk.may_leave g.D.Disk.moment g.D.Disk.left_since number made serving c.args.responder.now c.loop-made.responder c.make_file.new.responder failed
    (c.loop-made.invariant.makes serving represents stands) (λ between here standing. c.in-Err.ensures.makes (after_files number made) between are here standing) in
    goes_fewer g.D.Disk.shown g.D.Disk.may_leave g.D.Disk.moment g.D.Disk.left_since number (made + 1) c.args.count serving c.args.responder.now c.make_file.new.responder c.in-Err.error within more.any_moment more.full

pub returns-clause-makes : goal.returns-clause-makes
returns-clause-makes g c = λ serving represents stands.
    let all : c.loop-made.made ≡ c.args.count = le_antisymm c.loop-made.auto.made-end c.loop-made-test.false in
    subst (λ (count : ℕ). Goes g.D.Disk.shown g.D.Disk.may_leave g.D.Disk.moment g.D.Disk.left_since (MakesFiles c.args.number count serving) (FrontOfFiles c.args.number count serving) serving
    c.args.responder.now c.loop-made.responder good) all (c.loop-made.invariant.makes serving represents stands)
