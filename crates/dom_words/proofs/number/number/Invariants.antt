use Rattle.std.proofs.Common.{◌≡◌, ◌<◌, ◌^◌, true, take}
use Rattle.std.specs.Char.{is_ascii_digit}
use Rattle.std.specs.List.{list_all}
use Rattle.dom_words.specs.Number.{digits_value}
use Rattle.dom_words.proofs.number.number.Given as goal

abbrev pub invariant-loop-byte : goal.invariant-loop-byte
invariant-loop-byte l =
    (l.value ≡ digits_value (take l.byte-index l.text))
    × (list_all is_ascii_digit (take l.byte-index l.text) ≡ true)
    × (l.value < 10 ^ l.byte-index)
