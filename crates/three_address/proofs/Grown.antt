-- What holds of the statements of expressions: values are used after they are made, and numbers are in range.
use Rattle.std.proofs.Common.{◌≡◌, ℕ, suc, ◌+◌, ◌<◌, ◌≤◌, ◌==◌, ◌&&◌, nat_eq, nat_le, nat_lt, Bool, true, false, List, [], ◌∷◌, ◌++◌, length, map, refl, sym, ap, ◌∙◌, subst, get_or, append_assoc, ⊎_elim, if◌then◌else◌}
use Rattle.std.specs.List.{AllByRecursion as Every}
use Rattle.std.proofs.Math.ListN.{get_or-append}
use Rattle.std.proofs.Math.Seq.{get_or-append_seam}
use Rattle.std.proofs.lemmas.Bool.{ltb-true, eqb-true, eq-eqb, and_parts, and_from, cases_lt}
use Rattle.std.proofs.lemmas.List.{append-nil, get_or-replicate, get_or_past, length-map, length-replicate, map-append}
use Rattle.std.proofs.lemmas.List.Folds.{list_all-append}
use Rattle.std.proofs.Common.{length-append}
use Rattle.dom_words.specs.declared.operators.BinOp.{BinOp}
use Rattle.dom_words.specs.declared.operators.BinOp.TheVariants.{Rem}
use Rattle.dom_ast.specs.Kept.{parts_count, ops_within, part_within, parts_within}
use Rattle.dom_ast.specs.Named.{named_ranges}
use Rattle.dom_ast.specs.Resolved.{PartForm, number, field, state, fresh, made, call, un, chain, choice, PartForms, no_parts, part, OpForms, no_ops, op}
use Rattle.dom_flat.specs.declared.line.Operand.{Operand}
use Rattle.dom_flat.specs.declared.line.Operand.TheVariants.{Const, Value}
use Rattle.dom_flat.specs.declared.line.Line.{Line}
use Rattle.dom_flat.specs.declared.line.Line.TheVariants as line
use Rattle.dom_flat.specs.Kept.{are_after, are_known, entered, has_array, has_its_args, has_small_modulus, have_small_moduli, is_known, lines_within, values_of}
use Rattle.dom_flat.specs.Lines.{is_flank, makes, operands_of}
use Rattle.three_address.specs.Flattening.{AllFlattened, Flattened, all_flattened, with_line, as_modulus, first_modulus, flattened, folded, folded_later, is_modulus, op_modulus, ops_modulus}

-- more statements, none of them a flank
pub record Grown (before after : List Line) : Type 0 where
  pub more : List Line
  pub is : after ≡ before ++ more
  pub plain : Every (λ l. is_flank l ≡ false) more

pub grown_none : (a : List Line) → Grown a a
grown_none a = record { more = []; is = sym (append-nil a); plain = tt }

every_append : (P : Line → Type 0) (xs ys : List Line) → Every P xs → Every P ys → Every P (xs ++ ys)
every_append P [] ys p q = q
every_append P (x ∷ xs) ys p q = (p.0, every_append P xs ys p.1 q)

pub grown_more : (a b c : List Line) → Grown a b → Grown b c → Grown a c
grown_more a b c p q =
    record {
      more = p.more ++ q.more;
      is = q.is ∙ ap (λ (ls : List Line). ls ++ q.more) p.is ∙ append_assoc a p.more q.more;
      plain = every_append (λ l. is_flank l ≡ false) p.more q.more p.plain q.plain;
    }

pub grown_by : (a b : List Line) (l : Line) → is_flank l ≡ false → Grown a b → Grown a (b ++ l ∷ [])
grown_by a b l e p = grown_more a b (b ++ l ∷ []) p (record { more = l ∷ []; is = refl; plain = (e, tt) })

module _ (fields : ℕ) (values : List Operand) where
  chain_grows : (lines : List Line) (b : Bool) (first all rest : Flattened) → Grown lines first.lines → Grown first.lines all.lines → Grown first.lines rest.lines → Grown lines (if b then all else rest).lines
  chain_grows lines true first all rest p q r = grown_more lines first.lines all.lines p q
  chain_grows lines false first all rest p q r = grown_more lines first.lines rest.lines p r

  mutual
    pub grows : (lines : List Line) (modulus : ℕ) (p : PartForm) → Grown lines (flattened fields values lines modulus p).lines
    grows lines modulus (number w) = grown_none lines
    grows lines modulus (field f) = grown_none lines
    grows lines modulus (state a i) = grown_none lines
    grows lines modulus (fresh k) = grown_none lines
    grows lines modulus (made k) = grown_none lines
    grows lines modulus (call unit ps) =
        let args = all_flattened fields values lines ps in
        grown_by lines args.lines (line.Hash unit modulus args.operands) refl (all_grow lines ps)
    grows lines modulus (un o p) =
        let a = flattened fields values lines 0 p in
        grown_by lines a.lines (line.Un o a.operand) refl (grows lines 0 p)
    grows lines modulus (chain p os) =
        let first = flattened fields values lines (first_modulus p os) p in
        let all = folds_grow first os in
        let rest = later_grow first os in
        chain_grows lines (first_modulus p os == 0) first (folded fields values first os) (folded_later fields values first os) (grows lines (first_modulus p os) p) all rest
    grows lines modulus (choice c p q) =
        let test = flattened fields values lines 0 c in
        let a = flattened fields values test.lines 0 p in
        let b = flattened fields values a.lines 0 q in
        grown_by lines b.lines (line.Cond test.operand a.operand b.operand) refl
        (grown_more lines test.lines b.lines (grows lines 0 c) (grown_more test.lines a.lines b.lines (grows test.lines 0 p) (grows a.lines 0 q)))

    pub all_grow : (lines : List Line) (ps : PartForms) → Grown lines (all_flattened fields values lines ps).lines
    all_grow lines no_parts = grown_none lines
    all_grow lines (part p ps) =
        let first = flattened fields values lines 0 p in
        grown_more lines first.lines (all_flattened fields values first.lines ps).lines (grows lines 0 p) (all_grow first.lines ps)

    pub folds_grow : (a : Flattened) (os : OpForms) → Grown a.lines (folded fields values a os).lines
    folds_grow a no_ops = grown_none a.lines
    folds_grow a (op o p os) =
        let b = flattened fields values a.lines 0 p in
        let next = with_line fields b.lines (line.Bin o a.operand b.operand) in
        grown_more a.lines next.lines (folded fields values next os).lines (grown_by a.lines b.lines (line.Bin o a.operand b.operand) refl (grows a.lines 0 p)) (folds_grow next os)

    later_grow : (a : Flattened) (os : OpForms) → Grown a.lines (folded_later fields values a os).lines
    later_grow a no_ops = grown_none a.lines
    later_grow a (op o p os) = folds_grow a os

-- values that are there stay
pub known_more : (vs ws : List Bool) (o : Operand) → is_known vs o ≡ true → is_known (vs ++ ws) o ≡ true
known_more vs ws (Const w) e = refl
known_more vs ws (Value v) e =
    ⊎_elim (λ (h : v < length vs). get_or-append vs ws false v h ∙ e) (λ (h : length vs ≤ v). absurd (let past = get_or_past vs v false h in cc)) (cases_lt v (length vs))

pub values_append : (fields : ℕ) (a more : List Line) → values_of fields (a ++ more) ≡ values_of fields a ++ map makes more
values_append fields a more =
    ap (λ (bs : List Bool). entered fields ++ bs) (map-append makes a more) ∙ sym (append_assoc (entered fields) (map makes a) (map makes more))

pub known_grown : (fields : ℕ) (a b : List Line) (o : Operand) → Grown a b → is_known (values_of fields a) o ≡ true → is_known (values_of fields b) o ≡ true
known_grown fields a b o g e =
    subst (λ (vs : List Bool). is_known vs o ≡ true) (sym (ap (values_of fields) g.is ∙ values_append fields a g.more)) (known_more (values_of fields a) (map makes g.more) o e)

pub length_values : (fields : ℕ) (lines : List Line) → length (values_of fields lines) ≡ fields + length lines
length_values fields lines =
    length-append (entered fields) (map makes lines) ∙ ap (λ (n : ℕ). n + length (map makes lines)) (length-replicate fields true) ∙ ap (λ (n : ℕ). fields + n) (length-map lines makes)

-- a statement more makes its value
pub made_known : (fields : ℕ) (lines : List Line) (l : Line) → makes l ≡ true → is_known (values_of fields (lines ++ l ∷ [])) (Value (fields + length lines)) ≡ true
made_known fields lines l e =
    ap (λ (vs : List Bool). get_or vs (fields + length lines) false) (values_append fields lines (l ∷ []))
    ∙ ap (λ (n : ℕ). get_or (values_of fields lines ++ makes l ∷ []) n false) (sym (length_values fields lines))
    ∙ get_or-append_seam (values_of fields lines) (makes l) [] false
    ∙ e

pub after_push : (vs : List Bool) (lines : List Line) (l : Line) → are_after vs lines ≡ true → are_known (vs ++ map makes lines) (operands_of l) ≡ true → are_after vs (lines ++ l ∷ []) ≡ true
after_push vs [] l h e =
    and_from (are_known vs (operands_of l)) true (subst (λ (us : List Bool). are_known us (operands_of l) ≡ true) (append-nil vs) e) refl
after_push vs (x ∷ lines) l h e =
    let p = and_parts (are_known vs (operands_of x)) (are_after (vs ++ makes x ∷ []) lines) h in
    and_from (are_known vs (operands_of x)) (are_after (vs ++ makes x ∷ []) (lines ++ l ∷ [])) p.0
    (after_push (vs ++ makes x ∷ []) lines l p.1 (subst (λ (us : List Bool). are_known us (operands_of l) ≡ true) (sym (append_assoc vs (makes x ∷ []) (map makes lines))) e))

pub within_push : (arrays : ℕ) (lines : List Line) (l : Line) → lines_within arrays lines ≡ true → has_array arrays l ≡ true → has_its_args l ≡ true → lines_within arrays (lines ++ l ∷ []) ≡ true
within_push arrays lines l h a e =
    list_all-append (λ m. has_array arrays m && has_its_args m) lines (l ∷ [])
    ∙ and_from (lines_within arrays lines) (lines_within arrays (l ∷ [])) h (and_from (has_array arrays l && has_its_args l) true (and_from (has_array arrays l) (has_its_args l) a e) refl)

pub moduli_push : (lines : List Line) (l : Line) → have_small_moduli lines ≡ true → has_small_modulus l ≡ true → have_small_moduli (lines ++ l ∷ []) ≡ true
moduli_push lines l h e =
    list_all-append has_small_modulus lines (l ∷ [])
    ∙ and_from (have_small_moduli lines) (have_small_moduli (l ∷ [])) h (and_from (has_small_modulus l) true e refl)

-- the modulus that a chain's first operand takes with it is small
small_number : (m : ℕ) (b : Bool) → is_modulus m ≡ b → nat_le (if b then m else 0) 2147483647 ≡ true
small_number m true e = (and_parts (nat_le 1 m) (nat_le m 2147483647) e).1
small_number m false e = refl

small_as : (p : PartForm) → nat_le (as_modulus p) 2147483647 ≡ true
small_as (number m) = small_number m (is_modulus m) refl
small_as (field f) = refl
small_as (state a i) = refl
small_as (fresh k) = refl
small_as (made k) = refl
small_as (call unit ps) = refl
small_as (un o p) = refl
small_as (chain p os) = refl
small_as (choice c p q) = refl

small_op : (o : BinOp) (p : PartForm) → nat_le (op_modulus o p) 2147483647 ≡ true
small_op Rem p = small_as p
small_op _ p = refl

small_ops : (os : OpForms) → nat_le (ops_modulus os) 2147483647 ≡ true
small_ops no_ops = refl
small_ops (op o p os) = small_op o p

small_first : (p : PartForm) (os : OpForms) → nat_le (first_modulus p os) 2147483647 ≡ true
small_first (call unit ps) os = small_ops os
small_first (number m) os = refl
small_first (field f) os = refl
small_first (state a i) os = refl
small_first (fresh k) os = refl
small_first (made k) os = refl
small_first (un o p) os = refl
small_first (chain p rest) os = refl
small_first (choice c p q) os = refl

module _ (fields arrays : ℕ) where
  -- values are used after they are made, and numbers are in range
  pub record Ordered (lines : List Line) : Type 0 where
    pub order : are_after (entered fields) lines ≡ true
    pub ranges : lines_within arrays lines ≡ true
    pub moduli : have_small_moduli lines ≡ true

  pub record Placed (f : Flattened) : Type 0 where
    pub lines : Ordered f.lines
    pub operand : is_known (values_of fields f.lines) f.operand ≡ true

  pub record AllPlaced (f : AllFlattened) : Type 0 where
    pub lines : Ordered f.lines
    pub operands : are_known (values_of fields f.lines) f.operands ≡ true

  pub place_line : (lines : List Line) (l : Line) → Ordered lines → are_known (values_of fields lines) (operands_of l) ≡ true → has_array arrays l ≡ true → has_its_args l ≡ true → has_small_modulus l ≡ true → makes l ≡ true → Placed (with_line fields lines l)
  place_line lines l p k a e small m =
      record {
        lines = record { order = after_push (entered fields) lines l p.order k; ranges = within_push arrays lines l p.ranges a e; moduli = moduli_push lines l p.moduli small };
        operand = made_known fields lines l m;
      }

  module _ (so_far : List Bool) (values : List Operand) where
    -- the operands of values that were made are there
    abbrev pub AreThere : List Line → Type 0
    AreThere lines = (k : ℕ) → get_or so_far k false ≡ true → is_known (values_of fields lines) (get_or values k (Const 0)) ≡ true

    pub there_grown : (a b : List Line) → Grown a b → AreThere a → AreThere b
    there_grown a b g t k e = known_grown fields a b (get_or values k (Const 0)) g (t k e)

    entered_known : (lines : List Line) (f : ℕ) → nat_lt f fields ≡ true → is_known (values_of fields lines) (Value f) ≡ true
    entered_known lines f e =
        known_more (entered fields) (map makes lines) (Value f) (get_or-replicate fields f true false (ltb-true f fields e))

    chain_placed : (b : Bool) (all rest : Flattened) → Placed all → Placed rest → Placed (if b then all else rest)
    chain_placed true all rest x y = x
    chain_placed false all rest x y = y

    mutual
      pub places : (lines : List Line) (modulus : ℕ) (p : PartForm) → nat_le modulus 2147483647 ≡ true → AreThere lines → Ordered lines → part_within (named_ranges fields so_far) p ≡ true → Placed (flattened fields values lines modulus p)
      places lines modulus (number w) small t s h = record { lines = s; operand = refl }
      places lines modulus (field f) small t s h = record { lines = s; operand = entered_known lines f h }
      places lines modulus (state a i) small t s h = record { lines = s; operand = refl }
      places lines modulus (fresh k) small t s h = record { lines = s; operand = refl }
      places lines modulus (made k) small t s h = record { lines = s; operand = t k h }
      places lines modulus (call unit ps) small t s h =
          let r = named_ranges fields so_far in
          let q = and_parts (nat_eq (parts_count ps) unit.args) (parts_within r ps) h in
          let args = all_flattened fields values lines ps in
          let placed = all_place lines ps t s q.1 in
          let count : length args.operands ≡ unit.args = args_count lines ps ∙ eqb-true (parts_count ps) unit.args q.0 in
          place_line args.lines (line.Hash unit modulus args.operands) placed.lines placed.operands refl (eq-eqb (length args.operands) unit.args count) small refl
      places lines modulus (un o p) small t s h =
          let a = flattened fields values lines 0 p in
          let placed = places lines 0 p refl t s h in
          place_line a.lines (line.Un o a.operand) placed.lines (and_from (is_known (values_of fields a.lines) a.operand) true placed.operand refl) refl refl refl refl
      places lines modulus (chain p os) small t s h =
          let r = named_ranges fields so_far in
          let q = and_parts (part_within r p) (ops_within r os) h in
          let first = flattened fields values lines (first_modulus p os) p in
          let there = there_grown lines first.lines (grows fields values lines (first_modulus p os) p) t in
          let placed = places lines (first_modulus p os) p (small_first p os) t s q.0 in
          chain_placed (first_modulus p os == 0) (folded fields values first os) (folded_later fields values first os) (folds_place first os there placed q.1) (later_place first os there placed q.1)
      places lines modulus (choice c p q) small t s h =
          let r = named_ranges fields so_far in
          let u = and_parts (part_within r c) (part_within r p && part_within r q) h in
          let w = and_parts (part_within r p) (part_within r q) u.1 in
          let test = flattened fields values lines 0 c in
          let a = flattened fields values test.lines 0 p in
          let b = flattened fields values a.lines 0 q in
          let g = grows fields values lines 0 c in
          let ga = grows fields values test.lines 0 p in
          let gb = grows fields values a.lines 0 q in
          let there = there_grown lines test.lines g t in
          let there' = there_grown test.lines a.lines ga there in
          let x = places lines 0 c refl t s u.0 in
          let y = places test.lines 0 p refl there x.lines w.0 in
          let z = places a.lines 0 q refl there' y.lines w.1 in
          let x' = known_grown fields test.lines b.lines test.operand (grown_more test.lines a.lines b.lines ga gb) x.operand in
          let y' = known_grown fields a.lines b.lines a.operand gb y.operand in
          place_line b.lines (line.Cond test.operand a.operand b.operand) z.lines
          (and_from (is_known (values_of fields b.lines) test.operand) _ x' (and_from (is_known (values_of fields b.lines) a.operand) _ y' (and_from (is_known (values_of fields b.lines) b.operand) true z.operand refl))) refl refl refl refl

      args_count : (lines : List Line) (ps : PartForms) → length (all_flattened fields values lines ps).operands ≡ parts_count ps
      args_count lines no_parts = refl
      args_count lines (part p ps) = ap suc (args_count (flattened fields values lines 0 p).lines ps)

      pub all_place : (lines : List Line) (ps : PartForms) → AreThere lines → Ordered lines → parts_within (named_ranges fields so_far) ps ≡ true → AllPlaced (all_flattened fields values lines ps)
      all_place lines no_parts t s h = record { lines = s; operands = refl }
      all_place lines (part p ps) t s h =
          let r = named_ranges fields so_far in
          let q = and_parts (part_within r p) (parts_within r ps) h in
          let first = flattened fields values lines 0 p in
          let rest = all_flattened fields values first.lines ps in
          let g = grows fields values lines 0 p in
          let x = places lines 0 p refl t s q.0 in
          let y = all_place first.lines ps (there_grown lines first.lines g t) x.lines q.1 in
          let x' = known_grown fields first.lines rest.lines first.operand (all_grow fields values first.lines ps) x.operand in
          record { lines = y.lines; operands = and_from (is_known (values_of fields rest.lines) first.operand) (are_known (values_of fields rest.lines) rest.operands) x' y.operands }

      folds_place : (a : Flattened) (os : OpForms) → AreThere a.lines → Placed a → ops_within (named_ranges fields so_far) os ≡ true → Placed (folded fields values a os)
      folds_place a no_ops t s h = s
      folds_place a (op o p os) t s h =
          let r = named_ranges fields so_far in
          let q = and_parts (part_within r p) (ops_within r os) h in
          let b = flattened fields values a.lines 0 p in
          let l = line.Bin o a.operand b.operand in
          let g = grows fields values a.lines 0 p in
          let y = places a.lines 0 p refl t s.lines q.0 in
          let x' = known_grown fields a.lines b.lines a.operand g s.operand in
          let next = place_line b.lines l y.lines (and_from (is_known (values_of fields b.lines) a.operand) _ x' (and_from (is_known (values_of fields b.lines) b.operand) true y.operand refl)) refl refl refl refl in
          folds_place (with_line fields b.lines l) os (there_grown a.lines (b.lines ++ l ∷ []) (grown_by a.lines b.lines l refl g) t) next q.1

      later_place : (a : Flattened) (os : OpForms) → AreThere a.lines → Placed a → ops_within (named_ranges fields so_far) os ≡ true → Placed (folded_later fields values a os)
      later_place a no_ops t s h = s
      later_place a (op o p os) t s h = folds_place a os t s (and_parts (part_within (named_ranges fields so_far) p) (ops_within (named_ranges fields so_far) os) h).1
