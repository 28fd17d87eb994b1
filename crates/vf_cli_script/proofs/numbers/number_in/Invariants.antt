use Rattle.std.proofs.Common.{◌≡◌, ◌≤◌, true, take}
use Rattle.std.specs.List.{list_all}
use Rattle.vf_cli_script.specs.Words.{is_digit, number_of}
use Rattle.vf_cli_script.proofs.numbers.number_in.Given as goal

abbrev pub invariant-loop-digit : goal.invariant-loop-digit
invariant-loop-digit l = record {
  digits : list_all is_digit (take l.digit-index l.word) ≡ true;
  number : l.number ≡ number_of (take l.digit-index l.word);
  most : l.number ≤ l.most;
}
