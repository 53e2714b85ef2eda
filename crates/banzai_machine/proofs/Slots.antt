-- What an atom of one or two slots writes and exports.
use Rattle.std.proofs.Common.{◌≡◌, ℕ, zero, suc, ◌<◌, ◌≤◌, Some, List, [], ◌∷◌, ◌++◌, length, map, get_or, set, slice_get, refl, ◌∙◌, ap, arith}
use Rattle.atom_traits.specs.Form.{two_of}
use Rattle.banzai_config.specs.declared.parts.PartSlot.{PartSlot}
use Rattle.banzai_config.specs.Action.{Arrays, export_to, old_word, put, slot_element, slot_exports, slot_writes}
use Rattle.banzai_machine.proofs.AnyOrder.{put-append}

-- another array of the same length keeps the lengths
pub sizes_keep : (arrays : Arrays) (k : ℕ) (x d : List ℕ) → length x ≡ length (get_or arrays k d) → k < length arrays → map length (set arrays k x) ≡ map length arrays
sizes_keep [] k x d e n = refl
sizes_keep (a ∷ arrays) zero x d e n = ap (λ (m : ℕ). m ∷ map length arrays) e
sizes_keep (a ∷ arrays) (suc k) x d e n =
    let less : k < length arrays = omega arith in
    ap (λ (ns : List ℕ). length a ∷ ns) (sizes_keep arrays k x d e less)

pub one_slot : (xs : List PartSlot) (s : PartSlot) → slice_get xs 0 ≡ Some s → length xs ≡ 1 → xs ≡ s ∷ []
one_slot [] s e n = cc
one_slot (x ∷ []) s e n = cc
one_slot (x ∷ y ∷ xs) s e n = absurd (omega (arith, n))

pub two_slots : (xs : List PartSlot) (s t : PartSlot) → slice_get xs 0 ≡ Some s → slice_get xs 1 ≡ Some t → length xs ≤ 2 → xs ≡ s ∷ t ∷ []
two_slots [] s t e f n = cc
two_slots (x ∷ []) s t e f n = cc
two_slots (x ∷ y ∷ []) s t e f n = cc
two_slots (x ∷ y ∷ z ∷ xs) s t e f n = absurd (omega (arith, n))

-- news: what the template answers
pub writes_one : (f : List ℕ → List ℕ) (slots : List PartSlot) (s : PartSlot) (arrays : Arrays) (words news : List ℕ)
    → slots ≡ s ∷ [] → news ≡ f (old_word s arrays words ∷ 0 ∷ []) → length news ≡ 2
    → slot_writes slots (f (two_of (map (λ t. old_word t arrays words) slots))) arrays words ≡ record { array = s.array; index = slot_element s arrays words; word = get_or news 0 0 } ∷ []
writes_one f slots s arrays words news is ne n = rw (is, ← ne) (cut news n)
  where
    cut : (ns : List ℕ) → length ns ≡ 2 → slot_writes (s ∷ []) ns arrays words ≡ record { array = s.array; index = slot_element s arrays words; word = get_or ns 0 0 } ∷ []
    cut [] n = absurd (omega (arith, n))
    cut (x ∷ ns) n = refl

pub exports_one : (f : List ℕ → List ℕ) (slots : List PartSlot) (s : PartSlot) (arrays : Arrays) (words news after : List ℕ)
    → slots ≡ s ∷ [] → news ≡ f (old_word s arrays words ∷ 0 ∷ []) → length news ≡ 2
    → put (slot_exports slots (f (two_of (map (λ t. old_word t arrays words) slots))) arrays words) after ≡ put (export_to s.new (get_or news 0 0)) (put (export_to s.old (old_word s arrays words)) after)
exports_one f slots s arrays words news after is ne n = rw (is, ← ne) (cut news n)
  where
    cut : (ns : List ℕ) → length ns ≡ 2 → put (slot_exports (s ∷ []) ns arrays words) after ≡ put (export_to s.new (get_or ns 0 0)) (put (export_to s.old (old_word s arrays words)) after)
    cut [] n = absurd (omega (arith, n))
    cut (x ∷ ns) n =
        put-append (export_to s.old (old_word s arrays words)) (export_to s.new x ++ []) after
        ∙ put-append (export_to s.new x) [] (put (export_to s.old (old_word s arrays words)) after)

pub writes_two : (f : List ℕ → List ℕ) (slots : List PartSlot) (s t : PartSlot) (arrays : Arrays) (words news : List ℕ)
    → slots ≡ s ∷ t ∷ [] → news ≡ f (old_word s arrays words ∷ old_word t arrays words ∷ []) → length news ≡ 2
    → slot_writes slots (f (two_of (map (λ t. old_word t arrays words) slots))) arrays words
    ≡ record { array = s.array; index = slot_element s arrays words; word = get_or news 0 0 } ∷ record { array = t.array; index = slot_element t arrays words; word = get_or news 1 0 } ∷ []
writes_two f slots s t arrays words news is ne n = rw (is, ← ne) (cut news n)
  where
    cut : (ns : List ℕ) → length ns ≡ 2 → slot_writes (s ∷ t ∷ []) ns arrays words
        ≡ record { array = s.array; index = slot_element s arrays words; word = get_or ns 0 0 } ∷ record { array = t.array; index = slot_element t arrays words; word = get_or ns 1 0 } ∷ []
    cut [] n = absurd (omega (arith, n))
    cut (x ∷ []) n = absurd (omega (arith, n))
    cut (x ∷ y ∷ ns) n = refl

pub exports_two : (f : List ℕ → List ℕ) (slots : List PartSlot) (s t : PartSlot) (arrays : Arrays) (words news after : List ℕ)
    → slots ≡ s ∷ t ∷ [] → news ≡ f (old_word s arrays words ∷ old_word t arrays words ∷ []) → length news ≡ 2
    → put (slot_exports slots (f (two_of (map (λ t. old_word t arrays words) slots))) arrays words) after
    ≡ put (export_to t.new (get_or news 1 0)) (put (export_to t.old (old_word t arrays words)) (put (export_to s.new (get_or news 0 0)) (put (export_to s.old (old_word s arrays words)) after)))
exports_two f slots s t arrays words news after is ne n = rw (is, ← ne) (cut news n)
  where
    cut : (ns : List ℕ) → length ns ≡ 2 → put (slot_exports (s ∷ t ∷ []) ns arrays words) after
        ≡ put (export_to t.new (get_or ns 1 0)) (put (export_to t.old (old_word t arrays words)) (put (export_to s.new (get_or ns 0 0)) (put (export_to s.old (old_word s arrays words)) after)))
    cut [] n = absurd (omega (arith, n))
    cut (x ∷ []) n = absurd (omega (arith, n))
    cut (x ∷ y ∷ ns) n =
        let a : List ℕ = put (export_to s.old (old_word s arrays words)) after in
        let b : List ℕ = put (export_to s.new x) a in
        put-append (export_to s.old (old_word s arrays words)) (export_to s.new x ++ (export_to t.old (old_word t arrays words) ++ (export_to t.new y ++ []))) after
        ∙ put-append (export_to s.new x) (export_to t.old (old_word t arrays words) ++ (export_to t.new y ++ [])) a
        ∙ put-append (export_to t.old (old_word t arrays words)) (export_to t.new y ++ []) b
        ∙ put-append (export_to t.new y) [] (put (export_to t.old (old_word t arrays words)) b)
