-- The statements of a list with one name for each value mean what the list means.
use Rattle.std.proofs.Common.{◌≡◌, ℕ, suc, ◌+◌, ◌%◌, ◌<◌, ◌≤◌, ◌==◌, ◌&&◌, nat_eq, nat_le, nat_lt, Bool, true, false, List, [], ◌∷◌, ◌++◌, length, map, refl, sym, ap, ◌∙◌, subst, arith, append_assoc, get_or, inl, inr, ⊎_elim, ◌⊎◌, if◌then◌else◌}
use Rattle.std.specs.Prelude.{ℤ, int_rem, pos, slice_index}
use Rattle.std.specs.Int.{w32}
use Rattle.std.specs.List.{AllByRecursion as Every}
use Rattle.std.proofs.Math.ListN.{get_or-append}
use Rattle.std.proofs.Math.Seq.{get_or-append_seam}
use Rattle.std.proofs.lemmas.Bool.{ltb-true, lt-ltb, eqb-true, leb-true, ne_eqb, and_parts, cases_lt}
use Rattle.std.proofs.lemmas.Int.{to_z_pos}
use Rattle.std.proofs.lemmas.List.{append-nil, get_or_past, length_push}
use Rattle.std.proofs.lemmas.List.Sums.{fold-append}
use Rattle.std.proofs.Common.{length-append}
use Rattle.dom_words.specs.Number.{signed_of}
use Rattle.dom_words.specs.Operators.{bin_word, chosen, reduced, un_word, word_of}
use Rattle.dom_words.specs.State.{Hash, IsSmallHash, Outcome, fetched, stored}
use Rattle.dom_words.specs.declared.operators.BinOp.{BinOp}
use Rattle.dom_words.specs.declared.operators.BinOp.TheVariants as binop
use Rattle.dom_ast.specs.Kept.{parts_count, ops_within, part_within, parts_within}
use Rattle.dom_ast.specs.Meaning.{Names, value, values as words_of, folded as folded_word}
use Rattle.dom_ast.specs.Named.{NamedEnv, NamedForm, all_named, are_named, are_outputs, is_operand, make, makes_of, item_names, named_outcome, named_ranges, named_step, named_value, operand_within, read, write}
use Rattle.dom_ast.specs.Resolved.{PartForm, number, field, state, fresh, made, call, un, chain, choice, PartForms, no_parts, part, OpForms, no_ops, op, parts_of}
use Rattle.dom_flat.specs.declared.line.Operand.{Operand}
use Rattle.dom_flat.specs.declared.line.Operand.TheVariants.{Const, Value}
use Rattle.dom_flat.specs.declared.line.Line.{Line}
use Rattle.dom_flat.specs.declared.line.Line.TheVariants as line
use Rattle.dom_flat.specs.Kept.{is_below}
use Rattle.dom_flat.specs.Lines.{is_flank}
use Rattle.dom_flat.proofs.Run.{length_run}
use Rattle.dom_flat.specs.Meaning.{FlatEnv, flat_entering, flat_outcome, line_arrays, line_step, line_word, operand_word, run_lines}
use Rattle.dom_flat.proofs.Run.{run_kept}
use Rattle.three_address.specs.Flattening.{AllFlattened, Flattened, all_flattened, as_modulus, with_line, first_modulus, flattened, folded, folded_later, is_modulus, op_modulus}
use Rattle.three_address.specs.Statements.{Draft, all_statements, draft, with_item, with_items}
use Rattle.three_address.proofs.Flanks.{none_made, outputs_within}
use Rattle.three_address.proofs.Grown.{Grown, all_grow, grown_by, grown_more, grows}

abbrev outcome : List ℕ → List (List ℕ) → Outcome
outcome p a = record { packet = p; arrays = a }

outcome_same : (p q : List ℕ) (a b : List (List ℕ)) → p ≡ q → a ≡ b → outcome p a ≡ outcome q b
outcome_same p q a b e f = ap (λ (x : List ℕ). outcome x a) e ∙ ap (outcome q) f

-- a word below 2^31 has one remainder, signed or not
rem_word : (h k : ℕ) → h < 2147483648 → k < 2147483648 → (k == 0) ≡ false → h % k ≡ bin_word binop.Rem h k
rem_word h k a b e =
    sym (ap (λ (t : Bool). if t then 0 else word_of (int_rem (signed_of h) (signed_of k))) e
    ∙ ap (λ (z : ℤ). word_of (int_rem z (signed_of k))) (to_z_pos w32 h a)
    ∙ ap (λ (z : ℤ). word_of (int_rem (pos h) z)) (to_z_pos w32 k b))

-- the word of an expression, where a call takes a modulus
abbrev pub taken_word : ℕ → PartForm → ℕ → ℕ
taken_word modulus (call unit ps) w = reduced modulus w
taken_word modulus (number v) w = w
taken_word modulus (field f) w = w
taken_word modulus (state a i) w = w
taken_word modulus (fresh k) w = w
taken_word modulus (made k) w = w
taken_word modulus (un o p) w = w
taken_word modulus (chain p os) w = w
taken_word modulus (choice c p q) w = w

taken_none : (p : PartForm) (w : ℕ) → taken_word 0 p w ≡ w
taken_none (call unit ps) w = refl
taken_none (number v) w = refl
taken_none (field f) w = refl
taken_none (state a i) w = refl
taken_none (fresh k) w = refl
taken_none (made k) w = refl
taken_none (un o p) w = refl
taken_none (chain p os) w = refl
taken_none (choice c p q) w = refl

zero_is : (n : ℕ) → (n == 0) ≡ true → n ≡ 0
zero_is n e = eqb-true n 0 e

-- a modulus that is taken is the number after a remainder sign
record Takes (o : BinOp) (q : PartForm) : Type 0 where
  modulus : ℕ
  is_rem : o ≡ binop.Rem
  is_number : q ≡ number modulus
  some : 1 ≤ modulus
  few : modulus ≤ 2147483647
  taken : op_modulus o q ≡ modulus

number_takes : (m : ℕ) → (as_modulus (number m) == 0) ≡ false → Takes binop.Rem (number m)
number_takes m e = by_case (is_modulus m) refl e
  where
    by_case : (b : Bool) → is_modulus m ≡ b → ((if b then m else 0) == 0) ≡ false → Takes binop.Rem (number m)
    by_case true is e =
        let p = and_parts (nat_le 1 m) (nat_le m 2147483647) is in
        record {
          modulus = m;
          is_rem = refl;
          is_number = refl;
          some = leb-true 1 m p.0;
          few = leb-true m 2147483647 p.1;
          taken = ap (λ (b : Bool). if b then m else 0) is;
        }
    by_case false is e = absurd (cc)

part_takes : (q : PartForm) → (as_modulus q == 0) ≡ false → Takes binop.Rem q
part_takes (number m) e = number_takes m e
part_takes (field f) e = absurd (cc)
part_takes (state a i) e = absurd (cc)
part_takes (fresh k) e = absurd (cc)
part_takes (made k) e = absurd (cc)
part_takes (call unit ps) e = absurd (cc)
part_takes (un o p) e = absurd (cc)
part_takes (chain p os) e = absurd (cc)
part_takes (choice c p q) e = absurd (cc)

op_takes : (o : BinOp) (q : PartForm) → (op_modulus o q == 0) ≡ false → Takes o q
op_takes binop.Mul q e = absurd (cc)
op_takes binop.Div q e = absurd (cc)
op_takes binop.Rem q e = part_takes q e
op_takes binop.Add q e = absurd (cc)
op_takes binop.Sub q e = absurd (cc)
op_takes binop.Shl q e = absurd (cc)
op_takes binop.Shr q e = absurd (cc)
op_takes binop.Lt q e = absurd (cc)
op_takes binop.Le q e = absurd (cc)
op_takes binop.Gt q e = absurd (cc)
op_takes binop.Ge q e = absurd (cc)
op_takes binop.Eq q e = absurd (cc)
op_takes binop.Ne q e = absurd (cc)
op_takes binop.BitAnd q e = absurd (cc)
op_takes binop.BitXor q e = absurd (cc)
op_takes binop.BitOr q e = absurd (cc)
op_takes binop.And q e = absurd (cc)
op_takes binop.Or q e = absurd (cc)

module _ (hash : Hash) (fields : ℕ) (packet : List ℕ) (start : List (List ℕ)) (fits : length packet ≡ fields) where
  -- the state and all values after statements
  abbrev pub after : List Line → FlatEnv
  after lines = run_lines hash (flat_entering packet start) lines

  abbrev pub words : List Line → ℕ → ℕ
  words lines = slice_index (after lines).values

  after_one : (lines : List Line) (l : Line) → after (lines ++ l ∷ []) ≡ line_step hash (after lines) l
  after_one lines l = fold-append (line_step hash) (flat_entering packet start) lines (l ∷ [])

  pub length_after : (lines : List Line) → length (after lines).values ≡ fields + length lines
  length_after lines = length_run hash (flat_entering packet start) lines ∙ ap (λ (n : ℕ). n + length lines) fits

  -- a statement that is no flank leaves the state
  plain_arrays : (l : Line) (arrays : List (List ℕ)) (val : ℕ → ℕ) → is_flank l ≡ false → line_arrays l arrays val ≡ arrays
  plain_arrays (line.Fetch a i) arrays val e = refl
  plain_arrays (line.Store a i v) arrays val e = absurd (cc)
  plain_arrays (line.Un o x) arrays val e = refl
  plain_arrays (line.Bin o x y) arrays val e = refl
  plain_arrays (line.Cond c x y) arrays val e = refl
  plain_arrays (line.Hash unit modulus args) arrays val e = refl

  plain_run : (env : FlatEnv) (lines : List Line) → Every (λ l. is_flank l ≡ false) lines → (run_lines hash env lines).arrays ≡ env.arrays
  plain_run env [] p = refl
  plain_run env (l ∷ lines) p = plain_run (line_step hash env l) lines p.1 ∙ plain_arrays l env.arrays (slice_index env.values) p.0

  after_more : (a b : List Line) (g : Grown a b) → after b ≡ run_lines hash (after a) g.more
  after_more a b g = ap after g.is ∙ fold-append (line_step hash) (flat_entering packet start) a g.more

  pub arrays_grown : (a b : List Line) → Grown a b → (after b).arrays ≡ (after a).arrays
  arrays_grown a b g = ap (λ (e : FlatEnv). e.arrays) (after_more a b g) ∙ plain_run (after a) g.more g.plain

  pub words_grown : (a b : List Line) (v : ℕ) → Grown a b → v < fields + length a → words b v ≡ words a v
  words_grown a b v g h =
      let n = length_after a in
      ap (λ (e : FlatEnv). slice_index e.values v) (after_more a b g) ∙ run_kept hash (after a) g.more v (omega arith)

  pub word_grown : (a b : List Line) (o : Operand) → Grown a b → is_below (fields + length a) o ≡ true → operand_word o (words b) ≡ operand_word o (words a)
  word_grown a b (Const w) g h = refl
  word_grown a b (Value v) g h = words_grown a b v g (ltb-true v (fields + length a) h)

  length_grown : (a b : List Line) → Grown a b → length a ≤ length b
  length_grown a b g = let e = ap length g.is ∙ length-append a g.more in omega arith

  pub below_grown : (a b : List Line) (o : Operand) → Grown a b → is_below (fields + length a) o ≡ true → is_below (fields + length b) o ≡ true
  below_grown a b (Const w) g h = refl
  below_grown a b (Value v) g h =
      let n = length_grown a b g in let m = ltb-true v (fields + length a) h in lt-ltb v (fields + length b) (omega arith)

  -- an operand has this word
  pub record Says (f : Flattened) (w : ℕ) : Type 0 where
    pub below : is_below (fields + length f.lines) f.operand ≡ true
    pub word : operand_word f.operand (words f.lines) ≡ w

  pub record AllSay (f : AllFlattened) (ws : List ℕ) : Type 0 where
    pub word : map (λ o. operand_word o (words f.lines)) f.operands ≡ ws

  pub says_line : (lines : List Line) (l : Line) (w : ℕ) → line_word hash l (after lines).arrays (words lines) ≡ w → Says (with_line fields lines l) w
  says_line lines l w e =
      let n = length_push lines l in
      let m = length_after lines in
      record {
        below = lt-ltb (fields + length lines) (fields + length (lines ++ l ∷ [])) (omega arith);
        word = ap (λ (x : FlatEnv). slice_index x.values (fields + length lines)) (after_one lines l)
            ∙ ap (λ (k : ℕ). slice_index ((after lines).values ++ line_word hash l (after lines).arrays (words lines) ∷ []) k) (sym m)
            ∙ get_or-append_seam (after lines).values (line_word hash l (after lines).arrays (words lines)) [] 0
            ∙ e;
      }

  module _ (so_far : List Bool) (values : List Operand) (makings : List ℕ) where
    -- the entered fields and the items' values so far are there
    pub record Holds (lines : List Line) : Type 0 where
      pub entered : (f : ℕ) → f < fields → words lines f ≡ slice_index packet f
      pub below : (k : ℕ) → get_or so_far k false ≡ true → is_below (fields + length lines) (get_or values k (Const 0)) ≡ true
      pub made : (k : ℕ) → get_or so_far k false ≡ true → operand_word (get_or values k (Const 0)) (words lines) ≡ slice_index makings k

    pub holds_grown : (a b : List Line) → Grown a b → Holds a → Holds b
    holds_grown a b g h =
        record {
          entered = λ f e. words_grown a b f g (omega arith) ∙ h.entered f e;
          below = λ k e. below_grown a b (get_or values k (Const 0)) g (h.below k e);
          made = λ k e. word_grown a b (get_or values k (Const 0)) g (h.below k e) ∙ h.made k e;
        }

    abbrev names : Names
    names = item_names packet makings

    fused_call : (o : BinOp) (q : PartForm) (f : Flattened) (w : ℕ) → Takes o q → w < 2147483648 → Says f (reduced (op_modulus o q) w) → Says f (bin_word o w (value hash names q))
    fused_call o q f w t h s =
        let not_zero : (t.modulus == 0) ≡ false = ne_eqb t.modulus 0 (λ (z : t.modulus ≡ 0). omega arith) in
        record {
          below = s.below;
          word = s.word ∙ ap (λ (n : ℕ). reduced n w) t.taken
              ∙ ap (λ (b : Bool). if b then w else w % t.modulus) not_zero
              ∙ rem_word w t.modulus h (omega arith) not_zero
              ∙ ap (λ (x : BinOp). bin_word x w t.modulus) (sym t.is_rem)
              ∙ ap (λ (x : PartForm). bin_word o w (value hash names x)) (sym t.is_number);
        }

    module _ (small : IsSmallHash hash) where
      -- a hash that takes the modulus of the first operator makes the remainder
      fused : (p : PartForm) (o : BinOp) (q : PartForm) (rest : OpForms) (f : Flattened) → (first_modulus p (op o q rest) == 0) ≡ false → Says f (taken_word (first_modulus p (op o q rest)) p (value hash names p))
          → Says f (bin_word o (value hash names p) (value hash names q))
      fused (call unit ps) o q rest f e s =
          fused_call o q f (hash unit (words_of hash names ps)) (op_takes o q e) (small unit (words_of hash names ps)) s
      fused (number v) o q rest f e s = absurd (cc)
      fused (field k) o q rest f e s = absurd (cc)
      fused (state a i) o q rest f e s = absurd (cc)
      fused (fresh k) o q rest f e s = absurd (cc)
      fused (made k) o q rest f e s = absurd (cc)
      fused (un u p) o q rest f e s = absurd (cc)
      fused (chain p os) o q rest f e s = absurd (cc)
      fused (choice c p r) o q rest f e s = absurd (cc)

      none_later : (p : PartForm) → (first_modulus p no_ops == 0) ≡ true
      none_later (call unit ps) = refl
      none_later (number v) = refl
      none_later (field k) = refl
      none_later (state a i) = refl
      none_later (fresh k) = refl
      none_later (made k) = refl
      none_later (un u p) = refl
      none_later (chain p os) = refl
      none_later (choice c p q) = refl

      untaken : (f : Flattened) (p : PartForm) (modulus : ℕ) → (modulus == 0) ≡ true → Says f (taken_word modulus p (value hash names p)) → Says f (value hash names p)
      untaken f p modulus e s =
          record {
            below = s.below;
            word = s.word ∙ ap (λ (m : ℕ). taken_word m p (value hash names p)) (zero_is modulus e) ∙ taken_none p (value hash names p);
          }

      chain_says : (b : Bool) (all rest : Flattened) (w : ℕ) (n : ℕ) → (n == 0) ≡ b → ((n == 0) ≡ true → Says all w) → ((n == 0) ≡ false → Says rest w) → Says (if b then all else rest) w
      chain_says true all rest w n e f g = f e
      chain_says false all rest w n e f g = g e

      mutual
        pub says : (lines : List Line) (modulus : ℕ) (p : PartForm) → Holds lines → part_within (named_ranges fields so_far) p ≡ true → Says (flattened fields values lines modulus p) (taken_word modulus p (value hash names p))
        says lines modulus (number w) h e = record { below = refl; word = refl }
        says lines modulus (field f) h e =
            let b = ltb-true f fields e in
            record { below = lt-ltb f (fields + length lines) (omega arith); word = h.entered f b }
        says lines modulus (state a i) h e = record { below = refl; word = refl }
        says lines modulus (fresh k) h e = record { below = refl; word = refl }
        says lines modulus (made k) h e = record { below = h.below k e; word = h.made k e }
        says lines modulus (call unit ps) h e =
            let args = all_flattened fields values lines ps in
            let q = and_parts (nat_eq (parts_count ps) unit.args) (parts_within (named_ranges fields so_far) ps) e in
            says_line args.lines (line.Hash unit modulus args.operands) _ (ap (λ (ws : List ℕ). reduced modulus (hash unit ws)) (all_say lines ps h q.1).word)
        says lines modulus (un o p) h e =
            let a = flattened fields values lines 0 p in
            says_line a.lines (line.Un o a.operand) _ (ap (un_word o) (untaken (flattened fields values lines 0 p) p 0 refl (says lines 0 p h e)).word)
        says lines modulus (chain p os) h e =
            let r = named_ranges fields so_far in
            let q = and_parts (part_within r p) (ops_within r os) e in
            let first = flattened fields values lines (first_modulus p os) p in
            let held = holds_grown lines first.lines (grows fields values lines (first_modulus p os) p) h in
            let s = says lines (first_modulus p os) p h q.0 in
            chain_says (first_modulus p os == 0) (folded fields values first os) (folded_later fields values first os) (folded_word hash names (value hash names p) os) (first_modulus p os) refl
            (λ z. folds_say first (value hash names p) os held (untaken first p (first_modulus p os) z s) q.1)
            (λ z. later_say p first os held z s q.1)
        says lines modulus (choice c p q) h e =
            let r = named_ranges fields so_far in
            let u = and_parts (part_within r c) (part_within r p && part_within r q) e in
            let w = and_parts (part_within r p) (part_within r q) u.1 in
            let test = flattened fields values lines 0 c in
            let a = flattened fields values test.lines 0 p in
            let b = flattened fields values a.lines 0 q in
            let g = grows fields values lines 0 c in
            let ga = grows fields values test.lines 0 p in
            let gb = grows fields values a.lines 0 q in
            let h1 = holds_grown lines test.lines g h in
            let h2 = holds_grown test.lines a.lines ga h1 in
            let x = untaken (flattened fields values lines 0 c) c 0 refl (says lines 0 c h u.0) in
            let y = untaken (flattened fields values test.lines 0 p) p 0 refl (says test.lines 0 p h1 w.0) in
            let z = untaken (flattened fields values a.lines 0 q) q 0 refl (says a.lines 0 q h2 w.1) in
            let x' = word_grown test.lines b.lines test.operand (grown_more test.lines a.lines b.lines ga gb) x.below ∙ x.word in
            let y' = word_grown a.lines b.lines a.operand gb y.below ∙ y.word in
            says_line b.lines (line.Cond test.operand a.operand b.operand) _
            (ap (λ (k : ℕ). chosen k (operand_word a.operand (words b.lines)) (operand_word b.operand (words b.lines))) x'
            ∙ ap (λ (k : ℕ). chosen (value hash names c) k (operand_word b.operand (words b.lines))) y'
            ∙ ap (λ (k : ℕ). chosen (value hash names c) (value hash names p) k) z.word)

        pub all_say : (lines : List Line) (ps : PartForms) → Holds lines → parts_within (named_ranges fields so_far) ps ≡ true → AllSay (all_flattened fields values lines ps) (words_of hash names ps)
        all_say lines no_parts h e = record { word = refl }
        all_say lines (part p ps) h e =
            let r = named_ranges fields so_far in
            let q = and_parts (part_within r p) (parts_within r ps) e in
            let first = flattened fields values lines 0 p in
            let rest = all_flattened fields values first.lines ps in
            let g = grows fields values lines 0 p in
            let x = untaken (flattened fields values lines 0 p) p 0 refl (says lines 0 p h q.0) in
            let y = all_say first.lines ps (holds_grown lines first.lines g h) q.1 in
            let x' = word_grown first.lines rest.lines first.operand (all_grow fields values first.lines ps) x.below ∙ x.word in
            record {
              word = ap (λ (w : ℕ). w ∷ map (λ o. operand_word o (words rest.lines)) rest.operands) x' ∙ ap (λ (ws : List ℕ). value hash names p ∷ ws) y.word;
            }

        folds_say : (a : Flattened) (w : ℕ) (os : OpForms) → Holds a.lines → Says a w → ops_within (named_ranges fields so_far) os ≡ true → Says (folded fields values a os) (folded_word hash names w os)
        folds_say a w no_ops h s e = s
        folds_say a w (op o p os) h s e =
            let r = named_ranges fields so_far in
            let q = and_parts (part_within r p) (ops_within r os) e in
            let b = flattened fields values a.lines 0 p in
            let l = line.Bin o a.operand b.operand in
            let g = grows fields values a.lines 0 p in
            let y = untaken (flattened fields values a.lines 0 p) p 0 refl (says a.lines 0 p h q.0) in
            let x' = word_grown a.lines b.lines a.operand g s.below ∙ s.word in
            let next = says_line b.lines l (bin_word o w (value hash names p)) (ap (λ (k : ℕ). bin_word o k (operand_word b.operand (words b.lines))) x' ∙ ap (bin_word o w) y.word) in
            folds_say (with_line fields b.lines l) (bin_word o w (value hash names p)) os (holds_grown a.lines (b.lines ++ l ∷ []) (grown_by a.lines b.lines l refl g) h) next q.1

        later_say : (p : PartForm) (a : Flattened) (os : OpForms) → Holds a.lines → (first_modulus p os == 0) ≡ false → Says a (taken_word (first_modulus p os) p (value hash names p)) → ops_within (named_ranges fields so_far) os ≡ true
            → Says (folded_later fields values a os) (folded_word hash names (value hash names p) os)
        later_say p a no_ops h z s e = absurd (let n = none_later p in cc)
        later_say p a (op o q os) h z s e =
            let r = named_ranges fields so_far in
            folds_say a (bin_word o (value hash names p) (value hash names q)) os h (fused p o q os a z s) (and_parts (part_within r q) (ops_within r os) e).1

      -- without a modulus
      pub plainly : (lines : List Line) (p : PartForm) → Holds lines → part_within (named_ranges fields so_far) p ≡ true → Says (flattened fields values lines 0 p) (value hash names p)
      plainly lines p h e = untaken (flattened fields values lines 0 p) p 0 refl (says lines 0 p h e)

  -- the statements so far and the items so far have come to the same
  pub record Runs (so_far : List Bool) (d : Draft) (env : NamedEnv) : Type 0 where
    pub size : length d.values ≡ length so_far
    pub makings : length env.made ≡ length so_far
    pub arrays : (after d.lines).arrays ≡ env.arrays
    pub holds : Holds so_far d.values env.made d.lines

  at_last : (so_far : List Bool) (b : Bool) (k : ℕ) → get_or (so_far ++ b ∷ []) k false ≡ true → ((k < length so_far) × (get_or so_far k false ≡ true)) ⊎ ((k ≡ length so_far) × (b ≡ true))
  at_last so_far b k e =
      ⊎_elim (λ (h : k < length so_far). inl (h, sym (get_or-append so_far (b ∷ []) false k h) ∙ e))
      (λ (h : length so_far ≤ k).
      ⊎_elim (λ (q : k < suc (length so_far)).
      let is : k ≡ length so_far = omega arith in
      inr (is, sym (get_or-append_seam so_far b [] false) ∙ ap (λ (j : ℕ). get_or (so_far ++ b ∷ []) j false) (sym is) ∙ e))
      (λ (q : suc (length so_far) ≤ k). absurd (let size = length_push so_far b in let past : get_or (so_far ++ b ∷ []) k false ≡ false = get_or_past (so_far ++ b ∷ []) k false (omega arith) in cc))
      (cases_lt k (suc (length so_far))))
      (cases_lt k (length so_far))

  holds_more : (so_far : List Bool) (b : Bool) (values : List Operand) (makings : List ℕ) (lines : List Line) (o : Operand) (w : ℕ) → length values ≡ length so_far → length makings ≡ length so_far → (b ≡ true → is_below (fields + length lines) o ≡ true) → (b ≡ true → operand_word o (words lines) ≡ w) → Holds so_far values makings lines
      → Holds (so_far ++ b ∷ []) (values ++ o ∷ []) (makings ++ w ∷ []) lines
  holds_more so_far b values makings lines o w nv nm below word h =
      record {
        entered = h.entered;
        below = λ k e. ⊎_elim
            (λ (p : (k < length so_far) × (get_or so_far k false ≡ true)).
            let within : k < length values = (let q = p.0 in omega arith) in
            ap (is_below (fields + length lines)) (get_or-append values (o ∷ []) (Const 0) k within) ∙ h.below k p.1)
            (λ (p : (k ≡ length so_far) × (b ≡ true)).
            ap (λ (j : ℕ). is_below (fields + length lines) (get_or (values ++ o ∷ []) j (Const 0))) (p.0 ∙ sym nv)
            ∙ ap (is_below (fields + length lines)) (get_or-append_seam values o [] (Const 0)) ∙ below p.1)
            (at_last so_far b k e);
        made = λ k e. ⊎_elim
            (λ (p : (k < length so_far) × (get_or so_far k false ≡ true)).
            let within : k < length values = (let q = p.0 in omega arith) in
            let within' : k < length makings = (let q = p.0 in omega arith) in
            ap (λ (x : Operand). operand_word x (words lines)) (get_or-append values (o ∷ []) (Const 0) k within)
            ∙ h.made k p.1 ∙ sym (get_or-append makings (w ∷ []) 0 k within'))
            (λ (p : (k ≡ length so_far) × (b ≡ true)).
            ap (λ (j : ℕ). operand_word (get_or (values ++ o ∷ []) j (Const 0)) (words lines)) (p.0 ∙ sym nv)
            ∙ ap (λ (x : Operand). operand_word x (words lines)) (get_or-append_seam values o [] (Const 0))
            ∙ word p.1
            ∙ sym (ap (λ (j : ℕ). slice_index (makings ++ w ∷ []) j) (p.0 ∙ sym nm) ∙ get_or-append_seam makings w [] 0))
            (at_last so_far b k e);
      }

  push_size : {A : Type 0} (so_far : List Bool) (b : Bool) (xs : List A) (x : A) → length xs ≡ length so_far → length (xs ++ x ∷ []) ≡ length (so_far ++ b ∷ [])
  push_size so_far b xs x e = let p = length_push xs x in let q = length_push so_far b in omega arith

  -- a flank more
  flank_holds : (so_far : List Bool) (values : List Operand) (makings : List ℕ) (lines : List Line) (l : Line) → Holds so_far values makings lines → Holds so_far values makings (lines ++ l ∷ [])
  flank_holds so_far values makings lines l h =
      let n = length_push lines l in
      let m = length_after lines in
      let stays : (v : ℕ) → v < fields + length lines → words (lines ++ l ∷ []) v ≡ words lines v = λ v q.
      ap (λ (e : FlatEnv). slice_index e.values v) (after_one lines l) ∙ get_or-append (after lines).values (line_word hash l (after lines).arrays (words lines) ∷ []) 0 v (omega arith) in
      let same : (o : Operand) → is_below (fields + length lines) o ≡ true → operand_word o (words (lines ++ l ∷ [])) ≡ operand_word o (words lines) = λ o q. word_stays lines l stays o q in
      record {
        entered = λ f e. stays f (omega arith) ∙ h.entered f e;
        below = λ k e. below_longer (fields + length lines) (fields + length (lines ++ l ∷ [])) (get_or values k (Const 0)) (omega arith) (h.below k e);
        made = λ k e. same (get_or values k (Const 0)) (h.below k e) ∙ h.made k e;
      }
    where
      word_stays : (ls : List Line) (m : Line) → ((v : ℕ) → v < fields + length ls → words (ls ++ m ∷ []) v ≡ words ls v) → (o : Operand) → is_below (fields + length ls) o ≡ true → operand_word o (words (ls ++ m ∷ [])) ≡ operand_word o (words ls)
      word_stays ls m f (Const w) q = refl
      word_stays ls m f (Value v) q = f v (ltb-true v (fields + length ls) q)

      below_longer : (a b : ℕ) (o : Operand) → a ≤ b → is_below a o ≡ true → is_below b o ≡ true
      below_longer a b (Const w) le q = refl
      below_longer a b (Value v) le q = let h = ltb-true v a q in lt-ltb v b (omega arith)

  module _ (small : IsSmallHash hash) where
    make_runs : (so_far : List Bool) (d : Draft) (env : NamedEnv) (p : PartForm) → part_within (named_ranges fields so_far) p ≡ true → Runs so_far d env → Runs (so_far ++ true ∷ []) (with_item fields d (make p)) (named_step hash packet env (make p))
    make_runs so_far d env p e r =
        let f = flattened fields d.values d.lines 0 p in
        let g = grows fields d.values d.lines 0 p in
        let s = plainly so_far d.values env.made small d.lines p r.holds e in
        record {
          size = push_size so_far true d.values f.operand r.size;
          makings = push_size so_far true env.made (named_value hash packet env p) r.makings;
          arrays = arrays_grown d.lines f.lines g ∙ r.arrays;
          holds = holds_more so_far true d.values env.made f.lines f.operand (named_value hash packet env p) r.size r.makings (λ x. s.below) (λ x. s.word) (holds_grown so_far d.values env.made d.lines f.lines g r.holds);
        }

    read_runs : (so_far : List Bool) (d : Draft) (env : NamedEnv) (a : ℕ) (i : PartForm) → part_within (named_ranges fields so_far) i ≡ true → Runs so_far d env → Runs (so_far ++ true ∷ []) (with_item fields d (read a i)) (named_step hash packet env (read a i))
    read_runs so_far d env a i e r =
        let f = flattened fields d.values d.lines 0 i in
        let g = grows fields d.values d.lines 0 i in
        let s = plainly so_far d.values env.made small d.lines i r.holds e in
        let l = line.Fetch a f.operand in
        let now = arrays_grown d.lines f.lines g ∙ r.arrays in
        let w = fetched env.arrays a (named_value hash packet env i) in
        let is : line_word hash l (after f.lines).arrays (words f.lines) ≡ w =
        ap (λ (x : List (List ℕ)). fetched x a (operand_word f.operand (words f.lines))) now ∙ ap (fetched env.arrays a) s.word in
        let t = says_line f.lines l w is in
        let held = flank_holds so_far d.values env.made f.lines l (holds_grown so_far d.values env.made d.lines f.lines g r.holds) in
        record {
          size = push_size so_far true d.values (Value (fields + length f.lines)) r.size;
          makings = push_size so_far true env.made w r.makings;
          arrays = ap (λ (x : FlatEnv). x.arrays) (after_one f.lines l) ∙ now;
          holds = holds_more so_far true d.values env.made (f.lines ++ l ∷ []) (Value (fields + length f.lines)) w r.size r.makings (λ x. t.below) (λ x. t.word) held;
        }

    write_runs : (so_far : List Bool) (d : Draft) (env : NamedEnv) (a : ℕ) (i p : PartForm) → part_within (named_ranges fields so_far) i ≡ true → part_within (named_ranges fields so_far) p ≡ true → Runs so_far d env → Runs (so_far ++ false ∷ []) (with_item fields d (write a i p)) (named_step hash packet env (write a i p))
    write_runs so_far d env a i p ei ep r =
        let f = flattened fields d.values d.lines 0 i in
        let g = grows fields d.values d.lines 0 i in
        let s = plainly so_far d.values env.made small d.lines i r.holds ei in
        let held = holds_grown so_far d.values env.made d.lines f.lines g r.holds in
        let f' = flattened fields d.values f.lines 0 p in
        let g' = grows fields d.values f.lines 0 p in
        let s' = plainly so_far d.values env.made small f.lines p held ep in
        let l = line.Store a f.operand f'.operand in
        let now = arrays_grown f.lines f'.lines g' ∙ arrays_grown d.lines f.lines g ∙ r.arrays in
        let index = word_grown f.lines f'.lines f.operand g' s.below ∙ s.word in
        let held' = flank_holds so_far d.values env.made f'.lines l (holds_grown so_far d.values env.made f.lines f'.lines g' held) in
        record {
          size = push_size so_far false d.values (Value (fields + length f'.lines)) r.size;
          makings = push_size so_far false env.made 0 r.makings;
          arrays = ap (λ (x : FlatEnv). x.arrays) (after_one f'.lines l)
              ∙ ap (λ (x : List (List ℕ)). stored x a (operand_word f.operand (words f'.lines)) (operand_word f'.operand (words f'.lines))) now
              ∙ ap (λ (k : ℕ). stored env.arrays a k (operand_word f'.operand (words f'.lines))) index
              ∙ ap (stored env.arrays a (named_value hash packet env i)) s'.word;
          holds = holds_more so_far false d.values env.made (f'.lines ++ l ∷ []) (Value (fields + length f'.lines)) 0 r.size r.makings (λ x. absurd (let c : false ≡ true = x in cc)) (λ x. absurd (let c : false ≡ true = x in cc)) held';
        }

    items_run : (arrays : ℕ) (items : List NamedForm) (so_far : List Bool) (d : Draft) (env : NamedEnv) → are_named fields arrays so_far items ≡ true → Runs so_far d env → Runs (so_far ++ makes_of items) (with_items fields d items) (all_named hash packet env items)
    items_run arrays [] so_far d env h r = subst (λ (bs : List Bool). Runs bs d env) (sym (append-nil so_far)) r
    items_run arrays (read a i ∷ items) so_far d env h r =
        let x = and_parts (nat_lt a arrays && operand_within fields so_far i) (are_named fields arrays (so_far ++ true ∷ []) items) h in
        let y = and_parts (nat_lt a arrays) (operand_within fields so_far i) x.0 in
        let i' = (and_parts (is_operand i) (part_within (named_ranges fields so_far) i) y.1).1 in
        subst (λ (bs : List Bool). Runs bs (with_items fields d (read a i ∷ items)) (all_named hash packet env (read a i ∷ items))) (append_assoc so_far (true ∷ []) (makes_of items))
        (items_run arrays items (so_far ++ true ∷ []) (with_item fields d (read a i)) (named_step hash packet env (read a i)) x.1 (read_runs so_far d env a i i' r))
    items_run arrays (make p ∷ items) so_far d env h r =
        let x = and_parts (part_within (named_ranges fields so_far) p) (are_named fields arrays (so_far ++ true ∷ []) items) h in
        subst (λ (bs : List Bool). Runs bs (with_items fields d (make p ∷ items)) (all_named hash packet env (make p ∷ items))) (append_assoc so_far (true ∷ []) (makes_of items))
        (items_run arrays items (so_far ++ true ∷ []) (with_item fields d (make p)) (named_step hash packet env (make p)) x.1 (make_runs so_far d env p x.0 r))
    items_run arrays (write a i p ∷ items) so_far d env h r =
        let x = and_parts (nat_lt a arrays && (operand_within fields so_far i && operand_within fields so_far p)) (are_named fields arrays (so_far ++ false ∷ []) items) h in
        let y = and_parts (nat_lt a arrays) (operand_within fields so_far i && operand_within fields so_far p) x.0 in
        let o = and_parts (operand_within fields so_far i) (operand_within fields so_far p) y.1 in
        let i' = (and_parts (is_operand i) (part_within (named_ranges fields so_far) i) o.0).1 in
        let p' = (and_parts (is_operand p) (part_within (named_ranges fields so_far) p) o.1).1 in
        subst (λ (bs : List Bool). Runs bs (with_items fields d (write a i p ∷ items)) (all_named hash packet env (write a i p ∷ items))) (append_assoc so_far (false ∷ []) (makes_of items))
        (items_run arrays items (so_far ++ false ∷ []) (with_item fields d (write a i p)) (named_step hash packet env (write a i p)) x.1 (write_runs so_far d env a i p i' p' r))

    words_list : (env : NamedEnv) (ps : List PartForm) → words_of hash (item_names packet env.made) (parts_of ps) ≡ map (named_value hash packet env) ps
    words_list env [] = refl
    words_list env (p ∷ ps) = ap (λ (ws : List ℕ). named_value hash packet env p ∷ ws) (words_list env ps)

    -- all statements mean what the items mean
    pub all_mean : (arrays : ℕ) (items : List NamedForm) (outputs : List PartForm) → are_named fields arrays [] items ≡ true → are_outputs fields (makes_of items) outputs ≡ true
        → flat_outcome hash (all_statements fields items outputs).lines (all_statements fields items outputs).operands packet start ≡ named_outcome hash items outputs packet start
    all_mean arrays items outputs h o =
        let begin : NamedEnv = record { arrays = start; made = [] } in
        let none : (k : ℕ) → get_or none_made k false ≡ true → ⊥ = λ k e. (let past : get_or none_made k false ≡ false = get_or_past none_made k false (omega arith) in absurd (cc)) in
        let first : Runs [] (draft [] []) begin = record {
          size = refl;
          makings = refl;
          arrays = refl;
          holds = record { entered = λ f e. refl; below = λ k e. absurd (none k e); made = λ k e. absurd (none k e) };
        } in
        let r = items_run arrays items [] (draft [] []) begin h first in
        let d = with_items fields (draft [] []) items in
        let env = all_named hash packet begin items in
        let ends = all_flattened fields d.values d.lines (parts_of outputs) in
        let s = all_say (makes_of items) d.values env.made small d.lines (parts_of outputs) r.holds (outputs_within fields arrays (makes_of items) outputs o) in
        let out = s.word ∙ words_list env outputs in
        let state = arrays_grown d.lines ends.lines (all_grow fields d.values d.lines (parts_of outputs)) ∙ r.arrays in
        outcome_same (map (λ x. operand_word x (words ends.lines)) ends.operands) (map (named_value hash packet env) outputs) (after ends.lines).arrays env.arrays out state
