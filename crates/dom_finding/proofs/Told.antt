-- What was read is what the file holds, as far as it is told.
use Rattle.std.proofs.Common.{◌≡◌, ℕ, ◌+◌, ◌<◌, ◌≤◌, List, length, take, refl, sym, ap, ◌∙◌, Option, Some, None, IfSome, arith}
use Rattle.std.proofs.lemmas.List.{length-take, take_all}

-- what a read up to a limit tells of the whole
abbrev pub IsRead : Option (List ℕ) → ℕ → List ℕ → Type 0
IsRead told most text = IfSome told (λ bytes. text ≡ take most bytes)

-- bytes that may be the whole
abbrev pub MayBe : Option (List ℕ) → List ℕ → Type 0
MayBe told text = IfSome told (λ bytes. bytes ≡ text)

-- bytes of which fewer than were wanted were read are the whole
whole : (bytes text : List ℕ) (most : ℕ) → text ≡ take (most + 1) bytes → length text ≤ most → bytes ≡ text
whole bytes text most e short =
    let size = ap length e ∙ length-take (most + 1) bytes in
    let few : length bytes ≤ most + 1 = omega (arith, size, short) in
    sym (e ∙ take_all (most + 1) bytes few)

pub within : (told : Option (List ℕ)) (text : List ℕ) (most : ℕ) → IsRead told (most + 1) text → length text ≤ most → MayBe told text
within None text most is short = tt
within (Some bytes) text most is short = whole bytes text most is short

-- and where more than the limit were read, the whole is longer than it
longer : (bytes text : List ℕ) (most : ℕ) → text ≡ take (most + 1) bytes → most < length text → most < length bytes
longer bytes text most e long = let size = ap length e ∙ length-take (most + 1) bytes in omega (arith, size)

pub beyond : (told : Option (List ℕ)) (text : List ℕ) (most : ℕ) → IsRead told (most + 1) text → most < length text → (w : List ℕ) × MayBe told w × (most < length w)
beyond None text most is long = (text, tt, long)
beyond (Some bytes) text most is long = (bytes, refl, longer bytes text most is long)
