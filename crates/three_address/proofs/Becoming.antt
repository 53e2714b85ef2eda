-- Flattened expressions are their statements, and no others are.
use Rattle.std.proofs.Common.{◌≡◌, ℕ, ◌+◌, ◌==◌, Bool, true, false, List, [], ◌∷◌, ◌++◌, length, refl, sym, ap, ◌∙◌, subst, arith, append_assoc, length-append, if◌then◌else◌}
use Rattle.std.proofs.lemmas.Bool.{eqb-true}
use Rattle.std.proofs.lemmas.List.{append-nil}
use Rattle.dom_ast.specs.Resolved.{PartForm, number, field, state, fresh, made, call, un, chain, choice, PartForms, no_parts, part, OpForms, no_ops, op}
use Rattle.dom_flat.specs.declared.line.Operand.{Operand}
use Rattle.dom_flat.specs.declared.line.Operand.TheVariants.{Value}
use Rattle.dom_flat.specs.declared.line.Line.{Line}
use Rattle.dom_flat.specs.declared.line.Line.TheVariants as line
use Rattle.three_address.specs.Becomes.{AllBecome, Becomes, Fused, FusedList, all_fused, also, binary, conditional, constant, entered, fused, grouped, grouped_later, hash, item, no_more, unary}
use Rattle.three_address.specs.Flattening.{AllFlattened, Flattened, all_flattened, first_modulus, flattened, folded, folded_later, with_line}

-- statements behind others, and one more
two : (before first after second all : List Line) → after ≡ before ++ first → all ≡ after ++ second → all ≡ before ++ (first ++ second)
two before first after second all e f = f ∙ ap (λ (ls : List Line). ls ++ second) e ∙ append_assoc before first second

one_more : (before parts all : List Line) (l : Line) → all ≡ before ++ parts → all ++ l ∷ [] ≡ before ++ (parts ++ l ∷ [])
one_more before parts all l e = ap (λ (ls : List Line). ls ++ l ∷ []) e ∙ append_assoc before parts (l ∷ [])

module _ (fields : ℕ) (values : List Operand) where
  -- the statements that flattening put behind others are those of the expression
  abbrev pub Found : List Line → Flattened → Fused → Type 0
  Found before f e =
      (new : List Line) × (f.lines ≡ before ++ new) × Becomes values (fields + length before) e new f.operand

  abbrev pub AllFound : List Line → AllFlattened → FusedList → Type 0
  AllFound before f es =
      (new : List Line) × (f.lines ≡ before ++ new) × AllBecome values (fields + length before) es new f.operands

  -- the value of the statement behind them
  place : (before first after : List Line) → after ≡ before ++ first → fields + length after ≡ (fields + length before) + length first
  place before first after e = let n = ap length e ∙ length-append before first in omega arith

  value_is : (before parts all : List Line) → all ≡ before ++ parts → Value (fields + length all) ≡ Value ((fields + length before) + length parts)
  value_is before parts all e = ap Value (place before parts all e)

  behind : (before first after : List Line) (e : Fused) (new : List Line) (o : Operand) → after ≡ before ++ first → Becomes values (fields + length after) e new o → Becomes values ((fields + length before) + length first) e new o
  behind before first after e new o is h = subst (λ (n : ℕ). Becomes values n e new o) (place before first after is) h

  chain_found : (before : List Line) (b : Bool) (all rest : Flattened) (x y : Fused) → (b ≡ true → Found before all x) → (b ≡ false → Found before rest y) → Found before (if b then all else rest) (if b then x else y)
  chain_found before true all rest x y f g = f refl
  chain_found before false all rest x y f g = g refl

  mutual
    pub found : (before : List Line) (modulus : ℕ) (p : PartForm) → Found before (flattened fields values before modulus p) (fused modulus p)
    found before modulus (number w) = ([], sym (append-nil before), (refl, refl))
    found before modulus (field f) = ([], sym (append-nil before), (refl, refl))
    found before modulus (state a i) = ([], sym (append-nil before), (refl, refl))
    found before modulus (fresh k) = ([], sym (append-nil before), (refl, refl))
    found before modulus (made k) = ([], sym (append-nil before), (refl, refl))
    found before modulus (call unit ps) =
        let args = all_flattened fields values before ps in
        let l = line.Hash unit modulus args.operands in
        let x = all_found before ps in
        (x.0 ++ l ∷ [], one_more before x.0 args.lines l x.1, (x.0, args.operands, x.2, refl, value_is before x.0 args.lines x.1))
    found before modulus (un o p) =
        let a = flattened fields values before 0 p in
        let l = line.Un o a.operand in
        let x = found before 0 p in
        (x.0 ++ l ∷ [], one_more before x.0 a.lines l x.1, (x.0, a.operand, x.2, refl, value_is before x.0 a.lines x.1))
    found before modulus (chain p os) =
        let first = flattened fields values before (first_modulus p os) p in
        let x = found before (first_modulus p os) p in
        chain_found before (first_modulus p os == 0) (folded fields values first os) (folded_later fields values first os) (grouped (fused 0 p) os) (grouped_later (fused (first_modulus p os) p) os)
        (λ z. folds_found before first (fused 0 p) os (subst (λ (k : ℕ). Found before first (fused k p)) (eqb-true (first_modulus p os) 0 z) x))
        (λ z. later_found before first (fused (first_modulus p os) p) os x)
    found before modulus (choice c p q) =
        let test = flattened fields values before 0 c in
        let a = flattened fields values test.lines 0 p in
        let b = flattened fields values a.lines 0 q in
        let l = line.Cond test.operand a.operand b.operand in
        let x = found before 0 c in
        let y = found test.lines 0 p in
        let z = found a.lines 0 q in
        let some = two before x.0 test.lines y.0 a.lines x.1 y.1 in
        let all = two before (x.0 ++ y.0) a.lines z.0 b.lines some z.1 in (
          ((x.0 ++ y.0) ++ z.0) ++ l ∷ [],
          one_more before ((x.0 ++ y.0) ++ z.0) b.lines l all,
          (x.0, y.0, z.0, test.operand, a.operand, b.operand, x.2, behind before x.0 test.lines (fused 0 p) y.0 a.operand x.1 y.2, behind before (x.0 ++ y.0) a.lines (fused 0 q) z.0 b.operand some z.2, refl, value_is before ((x.0 ++ y.0) ++ z.0) b.lines all),
        )

    pub all_found : (before : List Line) (ps : PartForms) → AllFound before (all_flattened fields values before ps) (all_fused ps)
    all_found before no_parts = ([], sym (append-nil before), (refl, refl))
    all_found before (part p ps) =
        let first = flattened fields values before 0 p in
        let rest = all_flattened fields values first.lines ps in
        let x = found before 0 p in
        let y = all_found first.lines ps in (
          x.0 ++ y.0,
          two before x.0 first.lines y.0 rest.lines x.1 y.1,
          (x.0, y.0, first.operand, rest.operands, x.2, subst (λ (n : ℕ). AllBecome values n (all_fused ps) y.0 rest.operands) (place before x.0 first.lines x.1) y.2, refl, refl),
        )

    folds_found : (before : List Line) (a : Flattened) (e : Fused) (os : OpForms) → Found before a e → Found before (folded fields values a os) (grouped e os)
    folds_found before a e no_ops x = x
    folds_found before a e (op o p os) x =
        let b = flattened fields values a.lines 0 p in
        let l = line.Bin o a.operand b.operand in
        let y = found a.lines 0 p in
        let both = two before x.0 a.lines y.0 b.lines x.1 y.1 in
        folds_found before (with_line fields b.lines l) (binary o e (fused 0 p)) os (
          (x.0 ++ y.0) ++ l ∷ [],
          one_more before (x.0 ++ y.0) b.lines l both,
          (x.0, y.0, a.operand, b.operand, x.2, behind before x.0 a.lines (fused 0 p) y.0 b.operand x.1 y.2, refl, value_is before (x.0 ++ y.0) b.lines both),
        )

    later_found : (before : List Line) (a : Flattened) (e : Fused) (os : OpForms) → Found before a e → Found before (folded_later fields values a os) (grouped_later e os)
    later_found before a e no_ops x = x
    later_found before a e (op o p os) x = folds_found before a e os x

module _ (values : List Operand) where
  mutual
    -- an expression is no other statements and no other operand
    pub one : (n : ℕ) (e : Fused) (lines others : List Line) (o q : Operand) → Becomes values n e lines o → Becomes values n e others q → (lines ≡ others) × (o ≡ q)
    one n (constant w) lines others o q x y = (x.0 ∙ sym y.0, x.1 ∙ sym y.1)
    one n (entered f) lines others o q x y = (x.0 ∙ sym y.0, x.1 ∙ sym y.1)
    one n (item k) lines others o q x y = (x.0 ∙ sym y.0, x.1 ∙ sym y.1)
    one n (hash unit modulus es) lines others o q (before, args, x, is, at) (before', args', x', is', at') =
        let s = all_one n es before before' args args' x x' in
        (is ∙ ap (λ (ls : List Line). ls ++ line.Hash unit modulus args ∷ []) s.0 ∙ ap (λ (os : List Operand). before' ++ line.Hash unit modulus os ∷ []) s.1 ∙ sym is', at ∙ ap (λ (ls : List Line). Value (n + length ls)) s.0 ∙ sym at')
    one n (unary sign e) lines others o q (before, a, x, is, at) (before', a', x', is', at') =
        let s = one n e before before' a a' x x' in
        (is ∙ ap (λ (ls : List Line). ls ++ line.Un sign a ∷ []) s.0 ∙ ap (λ (k : Operand). before' ++ line.Un sign k ∷ []) s.1 ∙ sym is', at ∙ ap (λ (ls : List Line). Value (n + length ls)) s.0 ∙ sym at')
    one n (binary sign e f) lines others o q (first, second, a, b, x, y, is, at) (first', second', a', b', x', y', is', at') =
        let s = one n e first first' a a' x x' in
        let t = one (n + length first) f second second' b b' y (subst (λ (ls : List Line). Becomes values (n + length ls) f second' b') (sym s.0) y') in
        let parts : first ++ second ≡ first' ++ second' = ap (λ (ls : List Line). ls ++ second) s.0 ∙ ap (λ (ls : List Line). first' ++ ls) t.0 in (
          is ∙ ap (λ (ls : List Line). ls ++ line.Bin sign a b ∷ []) parts
              ∙ ap (λ (k : Operand). (first' ++ second') ++ line.Bin sign k b ∷ []) s.1
              ∙ ap (λ (k : Operand). (first' ++ second') ++ line.Bin sign a' k ∷ []) t.1
              ∙ sym is',
          at ∙ ap (λ (ls : List Line). Value (n + length ls)) parts ∙ sym at',
        )
    one n (conditional c e f) lines others o q (test, first, second, t, a, b, x, y, z, is, at) (test', first', second', t', a', b', x', y', z', is', at') =
        let s = one n c test test' t t' x x' in
        let u = one (n + length test) e first first' a a' y (subst (λ (ls : List Line). Becomes values (n + length ls) e first' a') (sym s.0) y') in
        let some : test ++ first ≡ test' ++ first' = ap (λ (ls : List Line). ls ++ first) s.0 ∙ ap (λ (ls : List Line). test' ++ ls) u.0 in
        let v = one (n + length (test ++ first)) f second second' b b' z (subst (λ (ls : List Line). Becomes values (n + length ls) f second' b') (sym some) z') in
        let parts : (test ++ first) ++ second ≡ (test' ++ first') ++ second' =
        ap (λ (ls : List Line). ls ++ second) some ∙ ap (λ (ls : List Line). (test' ++ first') ++ ls) v.0 in (
          is ∙ ap (λ (ls : List Line). ls ++ line.Cond t a b ∷ []) parts
              ∙ ap (λ (k : Operand). ((test' ++ first') ++ second') ++ line.Cond k a b ∷ []) s.1
              ∙ ap (λ (k : Operand). ((test' ++ first') ++ second') ++ line.Cond t' k b ∷ []) u.1
              ∙ ap (λ (k : Operand). ((test' ++ first') ++ second') ++ line.Cond t' a' k ∷ []) v.1
              ∙ sym is',
          at ∙ ap (λ (ls : List Line). Value (n + length ls)) parts ∙ sym at',
        )

    pub all_one : (n : ℕ) (es : FusedList) (lines others : List Line) (os qs : List Operand) → AllBecome values n es lines os → AllBecome values n es others qs → (lines ≡ others) × (os ≡ qs)
    all_one n no_more lines others os qs x y = (x.0 ∙ sym y.0, x.1 ∙ sym y.1)
    all_one n (also e es) lines others os qs (first, rest, a, more, x, y, is, at) (first', rest', a', more', x', y', is', at') =
        let s = one n e first first' a a' x x' in
        let t = all_one (n + length first) es rest rest' more more' y (subst (λ (ls : List Line). AllBecome values (n + length ls) es rest' more') (sym s.0) y') in
        (is ∙ ap (λ (ls : List Line). ls ++ rest) s.0 ∙ ap (λ (ls : List Line). first' ++ ls) t.0 ∙ sym is', at ∙ ap (λ (k : Operand). k ∷ more) s.1 ∙ ap (λ (ks : List Operand). a' ∷ ks) t.1 ∙ sym at')
