-- The statements that are kept mean what all statements mean.
use Rattle.std.proofs.Common.{◌≡◌, ℕ, suc, ◌+◌, ◌||◌, Bool, true, false, List, [], ◌∷◌, length, map, refl, sym, ap, ◌∙◌, subst, arith}
use Rattle.std.specs.Prelude.{slice_index}
use Rattle.std.proofs.lemmas.Bool.{ltb-true, eq-eqb, or_left, or_right, and_parts}
use Rattle.std.proofs.lemmas.List.{length_push, length-replicate}
use Rattle.dom_words.specs.State.{Hash, Outcome}
use Rattle.dom_flat.specs.declared.line.Operand.{Operand}
use Rattle.dom_flat.specs.declared.line.Operand.TheVariants.{Const, Value}
use Rattle.dom_flat.specs.declared.line.Line.{Line}
use Rattle.dom_flat.specs.declared.line.Line.TheVariants as line
use Rattle.dom_flat.specs.Kept.{are_after, are_below, are_known, entered, is_below, values_of}
use Rattle.dom_flat.specs.Lines.{is_value, operands_of, uses}
use Rattle.dom_flat.specs.Meaning.{FlatEnv, flat_entering, flat_outcome, line_arrays, line_step, line_word, operand_word, run_lines}
use Rattle.dom_flat.proofs.Order.{AreEarlier}
use Rattle.dom_flat.proofs.Facts.{all_known_below, are_earlier}
use Rattle.dom_flat.proofs.Run.{HaveWords, length_run, line_arrays-with, line_word-with, words-with}
use Rattle.three_address.specs.Needs.{is_kept_flank, is_used, kept, line_renumbered, needed, new_number, renumbered}
use Rattle.three_address.specs.Statements.{needed_only}
use Rattle.three_address.specs.inner.Numbering.{all_of}
use Rattle.three_address.proofs.Grown.{length_values}
use Rattle.three_address.proofs.Kept.{Held, Stands, held_start, kept_none, kept_one, mark, next_dropped, next_kept, stands_next, used, uses_kept}

-- a statement that is not needed leaves the state
dropped_arrays : (whole : List Line) (l : Line) (arrays : List (List ℕ)) (val : ℕ → ℕ) (b : Bool) → (b || is_kept_flank whole l) ≡ false → line_arrays l arrays val ≡ arrays
dropped_arrays whole (line.Fetch a i) arrays val b e = refl
dropped_arrays whole (line.Store a i v) arrays val true e = absurd (cc)
dropped_arrays whole (line.Store a i v) arrays val false e = absurd (cc)
dropped_arrays whole (line.Un o x) arrays val b e = refl
dropped_arrays whole (line.Bin o x y) arrays val b e = refl
dropped_arrays whole (line.Cond c x y) arrays val b e = refl
dropped_arrays whole (line.Hash unit modulus args) arrays val b e = refl

agree_held : (number : ℕ → ℕ) (u : ℕ → Bool) (all left : List ℕ) (os : List Operand) → Held ℕ 0 number u all left → ((w : ℕ) → uses w os ≡ true → u w ≡ true) → are_below (length all) os ≡ true → HaveWords (renumbered number) (slice_index left) (slice_index all) os
agree_held number u all left [] h less e = tt
agree_held number u all left (o ∷ os) h less e =
    let p = and_parts (is_below (length all) o) (are_below (length all) os) e in
    (one o (λ w q. less w (or_left (is_value w o) (uses w os) q)) p.0, agree_held number u all left os h (λ w q. less w (or_right (is_value w o) (uses w os) q)) p.1)
  where
    one : (x : Operand) → ((w : ℕ) → is_value w x ≡ true → u w ≡ true) → is_below (length all) x ≡ true → operand_word (renumbered number x) (slice_index left) ≡ operand_word x (slice_index all)
    one (Const w) less e = refl
    one (Value w) less e = h.same w (ltb-true w (length all) e) (less w (eq-eqb w w refl))

module _ (hash : Hash) (fields : ℕ) (whole : List Line) (outputs : List Operand) (marks : List Bool) where
  abbrev number : ℕ → ℕ
  number = new_number fields marks

  abbrev us : ℕ → List Line → List Line
  us v lines = map (line_renumbered number) (kept (needed whole outputs v lines) lines)

  -- the two runs come to the same
  record Ran (env now : FlatEnv) (v : ℕ) (lines : List Line) : Type 0 where
    pub arrays : (run_lines hash now (us v lines)).arrays ≡ (run_lines hash env lines).arrays
    pub held : Held ℕ 0 number (is_used outputs []) (run_lines hash env lines).values (run_lines hash now (us v lines)).values

  run_one : (v : ℕ) (l : Line) (lines : List Line) (env now : FlatEnv) → Stands fields whole outputs marks v (l ∷ lines) → v ≡ length env.values → Held ℕ 0 number (used fields whole outputs marks v (l ∷ lines)) env.values now.values → now.arrays ≡ env.arrays → are_below v (operands_of l) ≡ true
      → ((next : FlatEnv) → Held ℕ 0 number (used fields whole outputs marks (suc v) lines) (line_step hash env l).values next.values → next.arrays ≡ (line_step hash env l).arrays → Ran (line_step hash env l) next (suc v) lines)
      → Ran env now v (l ∷ lines)
  run_one v l lines env now s e h same below rest = by_case (mark fields whole outputs marks v l lines) refl
    where
      by_case : (b : Bool) → mark fields whole outputs marks v l lines ≡ b → Ran env now v (l ∷ lines)
      by_case true q =
          let new = line_renumbered number l in
          let agree : HaveWords (renumbered number) (slice_index now.values) (slice_index env.values) (operands_of l) =
          agree_held number (used fields whole outputs marks v (l ∷ lines)) env.values now.values (operands_of l) h (λ w x. uses_kept fields whole outputs marks v w l lines q x) (subst (λ (n : ℕ). are_below n (operands_of l) ≡ true) e below) in
          let word : line_word hash new now.arrays (slice_index now.values) ≡ line_word hash l env.arrays (slice_index env.values) =
          line_word-with (renumbered number) hash l now.arrays (slice_index now.values) (slice_index env.values) agree ∙ ap (λ (x : List (List ℕ)). line_word hash l x (slice_index env.values)) same in
          let state : line_arrays new now.arrays (slice_index now.values) ≡ line_arrays l env.arrays (slice_index env.values) =
          line_arrays-with (renumbered number) l now.arrays (slice_index now.values) (slice_index env.values) agree ∙ ap (λ (x : List (List ℕ)). line_arrays l x (slice_index env.values)) same in
          let held = next_kept fields whole outputs marks ℕ 0 v l lines env.values now.values (line_word hash l env.arrays (slice_index env.values)) (line_word hash new now.arrays (slice_index now.values)) s e q word h in
          let r = rest (line_step hash now new) held state in
          let is : us v (l ∷ lines) ≡ new ∷ us (suc v) lines = ap (map (line_renumbered number)) (kept_one fields whole outputs marks v l lines q) in
          record {
            arrays = ap (λ (ls : List Line). (run_lines hash now ls).arrays) is ∙ r.arrays;
            held = subst (λ (ls : List Line). Held ℕ 0 number (is_used outputs []) (run_lines hash (line_step hash env l) lines).values (run_lines hash now ls).values) (sym is) r.held;
          }
      by_case false q =
          let held = next_dropped fields whole outputs marks ℕ 0 v l lines env.values now.values (line_word hash l env.arrays (slice_index env.values)) s e q h in
          let r = rest now held (same ∙ sym (dropped_arrays whole l env.arrays (slice_index env.values) (used fields whole outputs marks (suc v) lines v) q)) in
          let is : us v (l ∷ lines) ≡ us (suc v) lines = ap (map (line_renumbered number)) (kept_none fields whole outputs marks v l lines q) in
          record {
            arrays = ap (λ (ls : List Line). (run_lines hash now ls).arrays) is ∙ r.arrays;
            held = subst (λ (ls : List Line). Held ℕ 0 number (is_used outputs []) (run_lines hash (line_step hash env l) lines).values (run_lines hash now ls).values) (sym is) r.held;
          }

  runs_alike : (v : ℕ) (lines : List Line) (env now : FlatEnv) → Stands fields whole outputs marks v lines → v ≡ length env.values → Held ℕ 0 number (used fields whole outputs marks v lines) env.values now.values → now.arrays ≡ env.arrays → AreEarlier v lines → Ran env now v lines
  runs_alike v [] env now s e h same earlier = record { arrays = same; held = h }
  runs_alike v (l ∷ lines) env now s e h same earlier =
      let next : suc v ≡ length (line_step hash env l).values = (let p = length_push env.values (line_word hash l env.arrays (slice_index env.values)) in omega arith) in
      run_one v l lines env now s e h same earlier.0 (λ now held state. runs_alike (suc v) lines (line_step hash env l) now (stands_next fields whole outputs marks v l lines s) next held state earlier.1)

abbrev outcome : List ℕ → List (List ℕ) → Outcome
outcome p a = record { packet = p; arrays = a }

-- the needed statements mean what all statements mean
pub needed_mean : (hash : Hash) (fields : ℕ) (lines : List Line) (outputs : List Operand) (packet : List ℕ) (state : List (List ℕ)) → length packet ≡ fields → are_after (entered fields) lines ≡ true → are_known (values_of fields lines) outputs ≡ true
    → flat_outcome hash (needed_only fields (all_of lines outputs)).lines (needed_only fields (all_of lines outputs)).operands packet state ≡ flat_outcome hash lines outputs packet state
needed_mean hash fields lines outputs packet state fits order known =
    let marks = needed lines outputs fields lines in
    let env = flat_entering packet state in
    let number_is = new_number fields marks in
    let earlier : AreEarlier fields lines = subst (λ (n : ℕ). AreEarlier n lines) (length-replicate fields true) (are_earlier (entered fields) lines order) in
    let start = held_start fields lines outputs marks ℕ 0 (used fields lines outputs marks fields lines) packet fits in
    let r = runs_alike hash fields lines outputs marks fields lines env env (record { place = 0; is = (let e : fields ≡ fields + 0 = omega arith in e); rest = refl }) (sym fits) start refl earlier in
    let size = length_run hash env lines in
    let below : are_below (length (run_lines hash env lines).values) outputs ≡ true =
    subst (λ (n : ℕ). are_below n outputs ≡ true) (let n : length (values_of fields lines) ≡ length (run_lines hash env lines).values = (let m = length_values fields lines in omega arith) in n) (all_known_below (values_of fields lines) outputs known) in
    let agree = agree_held number_is (is_used outputs []) (run_lines hash env lines).values (run_lines hash env (needed_only fields (all_of lines outputs)).lines).values outputs r.held (λ w q. or_left (uses w outputs) false q) below in
    let out = words-with (renumbered number_is) (slice_index (run_lines hash env (needed_only fields (all_of lines outputs)).lines).values) (slice_index (run_lines hash env lines).values) outputs agree in
    ap (λ (p : List ℕ). outcome p (run_lines hash env (needed_only fields (all_of lines outputs)).lines).arrays) out
    ∙ ap (outcome (map (λ o. operand_word o (slice_index (run_lines hash env lines).values)) outputs)) r.arrays
