-- Runs of bytes of one kind.
use Rattle.std.proofs.Common.{◌≡◌, ℕ, suc, ◌+◌, ◌≤◌, Bool, true, false, cond, List, [], ◌∷◌, ◌++◌, length, take, drop, refl, arith}
use Rattle.std.specs.List.{prefix_len, list_all}
use Rattle.std.proofs.lemmas.List.Sums.{prefix_len-le-length}
use Rattle.std.proofs.lemmas.Bool.{and_parts, and_from}
use Rattle.dom_lexer.specs.Text.{first_is}

pub suc_of : (n : ℕ) → 1 + n ≡ suc n
suc_of n = omega arith

module _ (p : ℕ → Bool) where
  pub run_within : (text : List ℕ) → prefix_len p text ≤ length text
  run_within text = prefix_len-le-length p text

  pub run_passes : (text : List ℕ) → list_all p (take (prefix_len p text) text) ≡ true
  run_passes [] = refl
  run_passes (b ∷ bs) = by_case (run_passes bs) (p b) refl
    where
      by_case : list_all p (take (prefix_len p bs) bs) ≡ true → (t : Bool) → p b ≡ t → list_all p (take (cond t (1 + prefix_len p bs) 0) (b ∷ bs)) ≡ true
      by_case more true e = rw (suc_of (prefix_len p bs)) (and_from _ _ e more)
      by_case more false e = refl

  pub run_stops : (text : List ℕ) → first_is p (drop (prefix_len p text) text) ≡ false
  run_stops [] = refl
  run_stops (b ∷ bs) = by_case (run_stops bs) (p b) refl
    where
      by_case : first_is p (drop (prefix_len p bs) bs) ≡ false → (t : Bool) → p b ≡ t → first_is p (drop (cond t (1 + prefix_len p bs) 0) (b ∷ bs)) ≡ false
      by_case more true e = rw (suc_of (prefix_len p bs)) more
      by_case more false e = e

  pub run_longest : (v rest : List ℕ) → list_all p v ≡ true → length v ≤ prefix_len p (v ++ rest)
  run_longest [] rest h = omega arith
  run_longest (b ∷ bs) rest h =
      let passes = and_parts (p b) (list_all p bs) h in
      let more = run_longest bs rest passes.1 in
      rw passes.0 (omega arith)

pub ruleset runs = run_within
