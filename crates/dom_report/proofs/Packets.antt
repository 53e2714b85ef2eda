-- The entries of a trace, packet by packet.
use Rattle.std.proofs.Common.{◌≡◌, ℕ, zero, suc, ◌+◌, ◌<◌, ◌≤◌, List, [], ◌∷◌, ◌++◌, length, map, take, drop, get_or, refl, sym, ap, ◌∙◌, append_assoc, append-nil, length-append, drop-cons, sum_by, Some, None, arith}
use Rattle.std.proofs.lemmas.List.{length-replicate, take-append-drop, take_more}
use Rattle.std.proofs.Math.Seq.{take-length}
use Rattle.std.proofs.lemmas.List.Sums.{sum_by-append}
use Rattle.trace_text.specs.Trace.{cycles_of, entries}
use Rattle.banzai_config.specs.Action.{Entry}
use Rattle.banzai_machine.specs.Alone.{packets_of}
use Rattle.dom_report.proofs.Parts.{idles}

-- the entries of one packet
abbrev pub entries_of_one : ℕ × List ℕ → List Entry
entries_of_one p = idles p.0 ++ Some p.1 ∷ []

pub entries-append : (ps qs : List (ℕ × List ℕ)) → entries (ps ++ qs) ≡ entries ps ++ entries qs
entries-append [] qs = refl
entries-append (p ∷ ps) qs = ap (λ l. entries_of_one p ++ l) (entries-append ps qs) ∙ sym (append_assoc (entries_of_one p) (entries ps) (entries qs))

-- the entries in front of packet k, its own, and those behind it
pub entries_around : (ps : List (ℕ × List ℕ)) (k : ℕ) (d : ℕ × List ℕ) → k < length ps
    → entries ps ≡ entries (take k ps) ++ (entries_of_one (get_or ps k d) ++ entries (drop (suc k) ps))
entries_around ps k d inside =
    ap entries (sym (take-append-drop k ps)) ∙ entries-append (take k ps) (drop k ps) ∙ ap (λ l. entries (take k ps) ++ entries l) (drop-cons ps k d inside)

pub entries_more : (ps : List (ℕ × List ℕ)) (k : ℕ) (d : ℕ × List ℕ) → k < length ps → entries (take (k + 1) ps) ≡ entries (take k ps) ++ entries_of_one (get_or ps k d)
entries_more ps k d inside =
    ap entries (take_more ps k d inside) ∙ entries-append (take k ps) (get_or ps k d ∷ []) ∙ ap (λ l. entries (take k ps) ++ l) (append-nil (entries_of_one (get_or ps k d)))

pub length-entries_of_one : (p : ℕ × List ℕ) → length (entries_of_one p) ≡ p.0 + 1
length-entries_of_one p = length-append (idles p.0) (Some p.1 ∷ []) ∙ ap (λ n. n + 1) (length-replicate {A = Entry} p.0 None)

-- as many entries as the packets take cycles
pub length-entries : (ps : List (ℕ × List ℕ)) → length (entries ps) ≡ cycles_of ps
length-entries [] = refl
length-entries (p ∷ ps) =
    let whole : length (entries (p ∷ ps)) ≡ (p.0 + 1) + (sum_by (λ q. q.0) ps + length ps) =
    length-append (entries_of_one p) (entries ps) ∙ ap (λ n. n + length (entries ps)) (length-entries_of_one p) ∙ ap (λ n. (p.0 + 1) + n) (length-entries ps) in
    whole ∙ regroup p.0 (sum_by (λ q. q.0) ps) (length ps) ∙ ap (λ n. n + suc (length ps)) (sym (sum_by-append (λ (q : ℕ × List ℕ). q.0) (p ∷ []) ps))
  where
    regroup : (a b c : ℕ) → (a + 1) + (b + c) ≡ ((0 + a) + b) + suc c
    regroup a b c = omega arith

-- the cycle after packet k, and that there is one
pub cycle_more : (ps : List (ℕ × List ℕ)) (k cycle : ℕ) (d : ℕ × List ℕ) → k < length ps → cycle ≡ length (entries (take k ps))
    → cycle + ((get_or ps k d).0 + 1) ≡ length (entries (take (k + 1) ps))
cycle_more ps k cycle d inside at_k =
    let e = ap length (entries_more ps k d inside) in
    omega (arith, e, length-append (entries (take k ps)) (entries_of_one (get_or ps k d)), length-entries_of_one (get_or ps k d), at_k)

pub cycle_fits : (ps : List (ℕ × List ℕ)) (k cycle : ℕ) (d : ℕ × List ℕ) → k < length ps → cycle ≡ length (entries (take k ps))
    → cycle + (get_or ps k d).0 + 1 ≤ cycles_of ps
cycle_fits ps k cycle d inside at_k =
    let e = ap length (entries_around ps k d inside) in
    omega (
      arith,
      e,
      length-append (entries (take k ps)) (entries_of_one (get_or ps k d) ++ entries (drop (suc k) ps)),
      length-append (entries_of_one (get_or ps k d)) (entries (drop (suc k) ps)),
      length-entries_of_one (get_or ps k d),
      length-entries ps,
      at_k,
    )

pub cycles_all : (cycle k : ℕ) (ps : List (ℕ × List ℕ)) → k ≡ length ps → cycle ≡ length (entries (take k ps)) → cycle ≡ length (entries ps)
cycles_all cycle k ps all at_k = at_k ∙ ap (λ l. length (entries l)) (ap (λ n. take n ps) all ∙ take-length ps)

-- the packets of the entries are the trace's
pub packets_of-entries : (ps : List (ℕ × List ℕ)) → packets_of (entries ps) ≡ map (λ p. p.1) ps
packets_of-entries [] = refl
packets_of-entries (p ∷ ps) = skipped p.0 ∙ ap (λ l. p.1 ∷ l) (packets_of-entries ps)
  where
    skipped : (gap : ℕ) → packets_of ((idles gap ++ Some p.1 ∷ []) ++ entries ps) ≡ p.1 ∷ packets_of (entries ps)
    skipped zero = refl
    skipped (suc gap) = skipped gap
