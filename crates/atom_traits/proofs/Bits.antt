-- From 32 bits on every word is within them, read as a signed number too.
use Rattle.std.proofs.Common.{◌≡◌, ℕ, zero, suc, ◌-◌, ◌^◌, ◌<◌, ◌≤◌, ◌&&◌, Bool, true, false, ltb, nat_eq, nat_le, pos, negsuc, neg_ℤ, int_le, int_lt, if◌then◌else◌, refl, sym, arith}
use Rattle.std.proofs.lemmas.Bool.{eqb-true, ltb-true, ltb-false, leb-true, le-leb, lt-ltb, and_from}
use Rattle.std.proofs.Math.Nat.{pow-le-pow_right}
use Rattle.dom_words.specs.Number.{signed_of}
use Rattle.atom_traits.specs.Tests.{is_signed_within, is_within}
use mir.Val.{sel}

-- at the two readings of a word
reads : (h word : ℕ) (b : Bool) → (b ≡ true → word < 2 ^ 31) → (b ≡ false → 2 ^ 31 ≤ word) → word < 2 ^ 32 → 2 ^ 31 ≤ suc h
    → (int_le (negsuc h) (sel b (pos word) (negsuc (2 ^ 32 - suc word))) && int_lt (sel b (pos word) (negsuc (2 ^ 32 - suc word))) (pos (suc h))) ≡ true
reads h word true below above s m = let k = below refl in lt-ltb word (suc h) (omega arith)
reads h word false below above s m = let k = above refl in and_from _ true (le-leb (2 ^ 32 - suc word) h (omega arith)) refl

within_half : (half word : ℕ) → word < 2 ^ 32 → 2 ^ 31 ≤ half → (int_le (neg_ℤ (pos half)) (signed_of word) && int_lt (signed_of word) (pos half)) ≡ true
within_half zero word s m = absurd (omega arith)
within_half (suc h) word s m = reads h word (ltb word (2 ^ 31)) (ltb-true word (2 ^ 31)) (ltb-false word (2 ^ 31)) s m

all_within_32 : (bits word : ℕ) → 32 ≤ bits → word < 2 ^ 32 → true ≡ is_signed_within bits word
all_within_32 bits word m s = sym (within_half (2 ^ (bits - 1)) word s (pow-le-pow_right {n = 2} (omega arith) {i = 31} {j = bits - 1} (omega arith)))

by_width : (bits word : ℕ) (b : Bool) → nat_le 32 bits ≡ b → word < 2 ^ 32 → (if b then true else is_signed_within bits word) ≡ is_signed_within bits word
by_width bits word true e s = all_within_32 bits word (leb-true 32 bits e) s
by_width bits word false e s = refl

by_zero : (bits word : ℕ) (b : Bool) → nat_eq bits 0 ≡ b → 1 ≤ bits → word < 2 ^ 32
    → (if b then false else if nat_le 32 bits then true else is_signed_within bits word) ≡ is_signed_within bits word
by_zero bits word true e m s = let k = eqb-true bits 0 e in absurd (omega arith)
by_zero bits word false e m s = by_width bits word (nat_le 32 bits) refl s

pub within_is_signed : (bits word : ℕ) → 1 ≤ bits → word < 2 ^ 32 → is_within bits word ≡ is_signed_within bits word
within_is_signed bits word m s = by_zero bits word (nat_eq bits 0) refl m s
