-- Packets that are drawn.
use Rattle.std.proofs.Common.{◌≡◌, ℕ, zero, suc, ◌/◌, ◌^◌, ◌-◌, ◌<◌, ◌≤◌, List, ◌∷◌, ◌++◌, length, take, drop, replicate, refl, sym, ap, ◌∙◌, All, arith}
use Rattle.std.proofs.lemmas.List.{length-replicate, take-append-le}
use Rattle.std.proofs.Math.Seq.{take-length}
use Rattle.dom_report.specs.SelfRun.{drawn, fields_drawn, next_draw, packet_drawn}

-- zeros and more of them
zeros_of : (n m : ℕ) → n ≤ m → take {A = ℕ} n (replicate m 0) ≡ replicate n 0
zeros_of zero m few = refl
zeros_of (suc n) zero few = absurd (omega (arith, few))
zeros_of (suc n) (suc m) few = ap (λ (l : List ℕ). 0 ∷ l) (zeros_of n m (omega arith))

-- a packet has as many words as it has fields
pub fields_length : (n key val : ℕ) → length (fields_drawn n key val) ≡ n
fields_length zero key val = refl
fields_length (suc zero) key val = refl
fields_length (suc (suc n)) key val = ap (λ (l : List ℕ). suc (suc (length l))) (zeros_of n (suc (suc n)) (omega arith)) ∙ ap (λ k. suc (suc k)) (length-replicate {A = ℕ} n 0)

-- as many words over others
pub written_over : (old new : List ℕ) → length old ≡ length new → take (length old) (new ++ drop (length new) old) ≡ new
written_over old new same = ap (λ n. take n (new ++ drop (length new) old)) same ∙ take-append-le (length new) new (drop (length new) old) (omega arith) ∙ take-length new

-- each packet has so many fields
pub drawn_width : (width word left n : ℕ) → 0 < left → All (λ (p : ℕ × List ℕ). length p.1 ≡ n) (drawn width word left) → n ≡ width
drawn_width width word zero n some each = absurd (omega (arith, some))
drawn_width width word (suc left) n some each = sym (each 0 (packet_drawn width word) (omega arith)) ∙ fields_length width _ _

pub drawn_next : (width word left gap key val idle width' word' left' : ℕ) (words : List ℕ) → 0 < left → gap ≡ next_draw word → key ≡ next_draw gap → val ≡ next_draw key → words ≡ fields_drawn width (key / 2 ^ 26) (val / 2 ^ 16)
    → idle ≡ gap / 2 ^ 30 → width' ≡ width → word' ≡ val → left' ≡ left - 1 → drawn width word left ≡ (idle, words) ∷ drawn width' word' left'
drawn_next width word zero gap key val idle width' word' left' words some gap_is key_is val_is words_are idle_is width_is word_is left_is = absurd (omega (arith, some))
drawn_next width word (suc left) gap key val idle width' word' left' words some gap_is key_is val_is words_are idle_is width_is word_is left_is =
    let one_less : left ≡ left' = omega (arith, left_is) in
    let key_of : next_draw (next_draw word) ≡ key = sym (key_is ∙ ap next_draw gap_is) in
    let val_of : next_draw (next_draw (next_draw word)) ≡ val = ap next_draw key_of ∙ sym val_is in
    ap (λ g. (g / 2 ^ 30, fields_drawn width (next_draw (next_draw word) / 2 ^ 26) (next_draw (next_draw (next_draw word)) / 2 ^ 16)) ∷ drawn width (next_draw (next_draw (next_draw word))) left) (sym gap_is)
    ∙ ap (λ k. (gap / 2 ^ 30, fields_drawn width (k / 2 ^ 26) (next_draw (next_draw (next_draw word)) / 2 ^ 16)) ∷ drawn width (next_draw (next_draw (next_draw word))) left) key_of
    ∙ ap (λ v. (gap / 2 ^ 30, fields_drawn width (key / 2 ^ 26) (v / 2 ^ 16)) ∷ drawn width v left) val_of
    ∙ ap (λ w. (gap / 2 ^ 30, w) ∷ drawn width val left) (sym words_are)
    ∙ ap (λ n. (gap / 2 ^ 30, words) ∷ drawn width val n) one_less
    ∙ ap (λ v. (gap / 2 ^ 30, words) ∷ drawn width v left') (sym word_is)
    ∙ ap (λ i. (i, words) ∷ drawn width word' left') (sym idle_is)
    ∙ ap (λ n. (idle, words) ∷ drawn n word' left') (sym width_is)
