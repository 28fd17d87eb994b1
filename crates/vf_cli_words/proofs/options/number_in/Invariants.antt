use Rattle.std.proofs.Common.{◌≡◌, ◌≤◌, true, take}
use Rattle.std.specs.List.{list_all}
use Rattle.vf_cli_words.specs.Words.{is_digit, number_of}
use Rattle.vf_cli_words.proofs.options.number_in.Given as goal

abbrev pub invariant-loop-digit : goal.invariant-loop-digit
invariant-loop-digit l = record {
  digits : list_all is_digit (take l.digit-index l.digits) ≡ true;
  number : l.number ≡ number_of (take l.digit-index l.digits);
  most : l.number ≤ l.range.most;
}
