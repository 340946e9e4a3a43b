use Rattle.std.proofs.Common.{◌≡◌, ◌<◌, ◌^◌, drop, true}
use Rattle.std.specs.List.{list_all}
use Rattle.mh_tabfile_read.specs.code.Numbers.{is_digit, value_from}
use Rattle.mh_tabfile_read.proofs.numbers.value_of.Given as goal

abbrev pub invariant-loop-byte : goal.invariant-loop-byte
invariant-loop-byte l = record {
  same : value_from l.value (drop l.byte-index l.word) ≡ value_from 0 l.word;
  digits : list_all is_digit (drop l.byte-index l.word) ≡ true;
  small : l.value < 2 ^ 32;
}
