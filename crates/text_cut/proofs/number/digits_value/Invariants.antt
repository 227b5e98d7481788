use Rattle.std.proofs.Common.{◌≡◌, ◌<◌, ◌^◌, drop}
use Rattle.std.specs.List.{list_all}
use Rattle.texts.specs.Numbers.{is_digit, value_behind, value_of}
use Rattle.text_cut.proofs.number.digits_value.Given as goal

abbrev pub invariant-loop-digit : goal.invariant-loop-digit
invariant-loop-digit l = record {
  small : l.value < 10 ^ l.digit-index;
  digits : list_all is_digit (drop l.digit-index l.word) ≡ list_all is_digit l.word;
  same : value_behind l.value (drop l.digit-index l.word) ≡ value_of l.word;
}
