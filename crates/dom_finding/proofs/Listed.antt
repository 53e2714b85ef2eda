-- Codelets, line by line.
use Rattle.std.proofs.Common.{◌≡◌, ℕ, zero, suc, ◌+◌, ◌<◌, List, [], ◌∷◌, ◌++◌, length, map, take, get_or, slice_get, Some, refl, sym, ap, ◌∙◌, append_assoc, append-nil, arith}
use Rattle.codelets.specs.declared.codelet.Codelet.{Codelet}
use Rattle.codelets.specs.Leveled.{AreLeveled}
use Rattle.trace_text.specs.Lines.{joined}

-- a codelet uses codelets before it
pub uses_below : (cs : List Codelet) (k : ℕ) (c : Codelet) → AreLeveled cs → slice_get cs k ≡ Some c → k < length cs → (j d : ℕ) → j < length c.uses → get_or c.uses j d < length cs
uses_below cs k c leveled at low j d inside = let u = (leveled k c at).0 j d inside in omega arith

-- one more line
pub joined_next : (line : Codelet → List ℕ) (cs : List Codelet) (k : ℕ) (c : Codelet) → slice_get cs k ≡ Some c → joined (map line (take (k + 1) cs)) ≡ joined (map line (take k cs)) ++ line c
joined_next line [] k c at = absurd (cc)
joined_next line (d ∷ cs) zero c at = let same : d ≡ c = cc in append-nil (line d) ∙ ap line same
joined_next line (d ∷ cs) (suc k) c at =
    let e : suc k + 1 ≡ suc (k + 1) = omega arith in
    ap (λ n. joined (map line (take n (d ∷ cs)))) e ∙ ap (λ l. line d ++ l) (joined_next line cs k c at)
    ∙ sym (append_assoc (line d) (joined (map line (take k cs))) (line c))
