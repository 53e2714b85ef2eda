use Rattle.std.proofs.Common.{◌≡◌, ◌<◌, ◌^◌, true, take}
use Rattle.std.specs.Char.{is_ascii_digit}
use Rattle.std.specs.List.{list_all}
use Rattle.dom_words.specs.Number.{digits_value}
use Rattle.trace_text.proofs.plain.leading_digits.Given as goal

abbrev pub invariant-loop-count : goal.invariant-loop-count
invariant-loop-count l =
    (l.value ≡ digits_value (take l.count l.text))
    × (list_all is_ascii_digit (take l.count l.text) ≡ true)
    × (l.value < 10 ^ l.count)
