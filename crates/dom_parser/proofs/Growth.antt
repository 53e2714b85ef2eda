-- A token opens one construct at most, and what comes next decides something after a `-` alone.
use Rattle.std.proofs.Common.{◌≡◌, ℕ, zero, suc, ◌+◌, ◌≤◌, Bool, true, false, ◌&&◌, List, [], ◌∷◌, ◌++◌, Option, Some, None, refl, sym, ap, ◌∙◌, subst, arith, nat_eq, if◌then◌else◌}
use Rattle.dom_words.specs.declared.operators.BinOp.{BinOp}
use Rattle.dom_words.specs.declared.operators.BinOp.TheVariants as bin
use Rattle.dom_words.specs.declared.operators.UnOp.{UnOp}
use Rattle.dom_parser.specs.declared.kinds.Fixed.TheVariants as fixed
use Rattle.dom_parser.specs.declared.kinds.Kind.{Kind}
use Rattle.dom_parser.specs.declared.kinds.Kind.TheVariants as kind
use Rattle.dom_parser.specs.declared.kinds.Begin.{Begin}
use Rattle.dom_parser.specs.declared.kinds.Begin.TheVariants as begin
use Rattle.dom_parser.specs.declared.kinds.Suffix.{Suffix}
use Rattle.dom_parser.specs.declared.kinds.Suffix.TheVariants as suffix
use Rattle.dom_parser.specs.declared.kinds.Lead.{Lead}
use Rattle.dom_parser.specs.declared.kinds.Lead.TheVariants as lead
use Rattle.dom_parser.specs.declared.kinds.Declared.{Declared}
use Rattle.dom_parser.specs.declared.kinds.Declared.TheVariants as declared
use Rattle.dom_parser.specs.inner.AtPlace.{is_fixed, is_name, number_of, operator_of, unary_of}
use Rattle.dom_parser.specs.Tokens.{is_minus}
use Rattle.dom_parser.specs.Grammar.{top}
use Rattle.dom_parser.specs.inner.Following as item
use Rattle.dom_parser.specs.inner.Following.{Item, when, then_row, ends, held, expand, may_skip, resume, step}

-- constructs in a row of items

-- so many, and one more where the item ends a construct
abbrev room : ℕ → Item → ℕ
room m i = if ends i then suc m else m

held_room : (m : ℕ) (i : Item) (s : List Item) → room m i + held s ≡ m + held (i ∷ s)
held_room m i s = go (ends i)
  where
    go : (b : Bool) → (if b then suc m else m) + held s ≡ m + (if b then suc (held s) else held s)
    go true = omega arith
    go false = refl

held_append : (a b : List Item) → held (a ++ b) ≡ held a + held b
held_append [] b = omega arith
held_append (i ∷ a) b = go (ends i) (held_append a b)
  where
    go : (c : Bool) → held (a ++ b) ≡ held a + held b → (if c then suc (held (a ++ b)) else held (a ++ b)) ≡ (if c then suc (held a) else held a) + held b
    go true e = omega arith
    go false e = e

-- a row with so many constructs at most
abbrev pub Bounded : ℕ → Option (List Item) → Type 0
Bounded m None = Unit {0}
Bounded m (Some row) = held row ≤ m

weaken : (a b : ℕ) (o : Option (List Item)) → a ≤ b → Bounded a o → Bounded b o
weaken a b None h x = tt
weaken a b (Some row) h x = omega arith

when_bound : (m : ℕ) (b : Bool) (row : List Item) → held row ≤ m → Bounded m (when b row)
when_bound m true row h = h
when_bound m false row h = tt

then_bound : (m c : ℕ) (o : Option (List Item)) (x : List Item) → m + held x ≤ c → Bounded m o → Bounded c (then_row o x)
then_bound m c None x h b = tt
then_bound m c (Some row) x h b = let f = held_append row x in omega arith

-- a token opens one construct at most

number_bound : (m : ℕ) (o : Option ℕ) → Bounded m (item.number_row o)
number_bound m None = tt
number_bound m (Some w) = omega arith

begin_bound : (b : Begin) → Bounded 1 (item.begin_row b)
begin_bound (begin.Number w) = omega arith
begin_bound begin.Name = omega arith
begin_bound begin.Paren = omega arith
begin_bound begin.Other = tt

operand_bound : (n : Bool) (o : Option UnOp) (b : Begin) → Bounded 1 (item.operand_row n o b)
operand_bound n None b = begin_bound b
operand_bound n (Some o) b = go (item.is_neg o && n)
  where
    go : (c : Bool) → Bounded 1 (if c then Some (item.a_number ∷ []) else Some (item.level 0 ∷ item.ended ∷ []))
    go true = omega arith
    go false = omega arith

level_bound : (j : ℕ) (k : Kind) (n : Bool) → Bounded 1 (item.level_row j k n)
level_bound zero k n = operand_bound n (unary_of k) (item.begin_of k)
level_bound (suc j) k n = then_bound 1 1 (item.level_row j k n) (item.more j ∷ []) (omega arith) (level_bound j k n)

operator_bound : (m j : ℕ) (o : Option BinOp) → Bounded m (item.operator_row j o)
operator_bound m j None = tt
operator_bound m j (Some o) = omega arith

more_bound : (b : Bool) (j : ℕ) (k : Kind) → Bounded 1 (if b then when (is_fixed fixed.Question k) item.choice_row else item.operator_row j (operator_of (suc j) k))
more_bound true j k = when_bound 1 (is_fixed fixed.Question k) item.choice_row (omega arith)
more_bound false j k = operator_bound 1 j (operator_of (suc j) k)

suffix_bound : (a : Suffix) → Bounded 1 (item.suffix_row a)
suffix_bound suffix.Dot = omega arith
suffix_bound suffix.Bracket = omega arith
suffix_bound suffix.Paren = omega arith
suffix_bound suffix.Other = tt

target_bound : (a : Suffix) → Bounded 1 (item.target_row a)
target_bound suffix.Dot = omega arith
target_bound suffix.Bracket = omega arith
target_bound suffix.Paren = tt
target_bound suffix.Other = tt

args_bound : (b : Bool) (k : Kind) (n : Bool) → Bounded 2 (if b then Some (item.ended ∷ []) else then_row (item.level_row top k n) item.args_row)
args_bound true k n = omega arith
args_bound false k n = then_bound 1 2 (item.level_row top k n) item.args_row (omega arith) (level_bound top k n)

stmt_bound : (a : Lead) → Bounded 1 (item.stmt_row a)
stmt_bound lead.Block = tt
stmt_bound lead.Assign = omega arith
stmt_bound lead.If = omega arith
stmt_bound lead.Other = tt

body_bound : (a : Lead) → Bounded 1 (item.body_row a)
body_bound lead.Block = omega arith
body_bound lead.Assign = omega arith
body_bound lead.If = tt
body_bound lead.Other = tt

else_bound : (a : Lead) → Bounded 1 (item.else_row a)
else_bound lead.Block = omega arith
else_bound lead.Assign = omega arith
else_bound lead.If = omega arith
else_bound lead.Other = tt

decl_bound : (a : Declared) → Bounded 1 (item.decl_row a)
decl_bound declared.Define = omega arith
decl_bound declared.Global = omega arith
decl_bound declared.Other = tt

constant_bound : (o : Option ℕ) (b : Bool) → Bounded 1 (item.constant_row o b)
constant_bound (Some w) b = omega arith
constant_bound None b = when_bound 1 b (item.a_number ∷ []) (omega arith)

value_bound : (b : Bool) (o : Option ℕ) (c : Bool) → Bounded 1 (if b then Some [] else item.constant_row o c)
value_bound true o c = omega arith
value_bound false o c = constant_bound o c

start_bound : (b d : Bool) (o : Option ℕ) (c : Bool) → Bounded 1 (if b then Some (item.value ∷ item.close fixed.CloseBrace ∷ []) else (if d then Some [] else item.constant_row o c))
start_bound true d o c = omega arith
start_bound false d o c = value_bound d o c

size_bound : (b : Bool) (o : Option ℕ) → Bounded 1 (if b then Some [] else item.number_row o)
size_bound true o = omega arith
size_bound false o = number_bound 1 o

pub row_bound : (k : Kind) (n : Bool) (i : Item) → Bounded (room 1 i) (expand i k n)
row_bound k n (item.term f) = when_bound 1 (is_fixed f k) [] (omega arith)
row_bound k n item.a_name = when_bound 1 (is_name k) [] (omega arith)
row_bound k n item.a_number = number_bound 1 (number_of k)
row_bound k n (item.close f) = when_bound 2 (is_fixed f k) (item.ended ∷ []) (omega arith)
row_bound k n item.ended = tt
row_bound k n (item.level j) = level_bound j k n
row_bound k n (item.more j) = more_bound (nat_eq j 10) j k
row_bound k n item.name_rest = suffix_bound (item.suffix_of k)
row_bound k n item.args = args_bound (is_fixed fixed.CloseParen k) k n
row_bound k n item.more_args = when_bound 1 (is_fixed fixed.Comma k) (item.level top ∷ item.more_args ∷ []) (omega arith)
row_bound k n item.target_rest = target_bound (item.suffix_of k)
row_bound k n item.assignment = when_bound 1 (is_name k) item.assign_row (omega arith)
row_bound k n item.stmt = stmt_bound (item.lead_of k)
row_bound k n item.stmts = then_bound 1 1 (item.stmt_row (item.lead_of k)) (item.stmts ∷ []) (omega arith) (stmt_bound (item.lead_of k))
row_bound k n item.block = when_bound 1 (is_fixed fixed.OpenBrace k) item.block_row (omega arith)
row_bound k n item.condition = when_bound 1 (is_fixed fixed.OpenParen k) item.paren_row (omega arith)
row_bound k n item.body = body_bound (item.lead_of k)
row_bound k n item.else_part = when_bound 1 (is_fixed fixed.Else k) (item.else_rest ∷ []) (omega arith)
row_bound k n item.else_rest = else_bound (item.lead_of k)
row_bound k n item.decl = decl_bound (item.declared_of k)
row_bound k n item.decls = then_bound 1 1 (item.decl_row (item.declared_of k)) (item.decls ∷ []) (omega arith) (decl_bound (item.declared_of k))
row_bound k n item.constant = constant_bound (number_of k) (is_minus k)
row_bound k n item.value = value_bound (is_name k) (number_of k) (is_minus k)
row_bound k n item.start = start_bound (is_fixed fixed.OpenBrace k) (is_name k) (number_of k) (is_minus k)
row_bound k n item.start_part = when_bound 1 (is_fixed fixed.Assign k) (item.start ∷ []) (omega arith)
row_bound k n item.size = size_bound (is_name k) (number_of k)
row_bound k n item.size_part = when_bound 1 (is_fixed fixed.OpenBracket k) (item.size ∷ item.close fixed.CloseBracket ∷ []) (omega arith)
row_bound k n item.fields = when_bound 1 (is_fixed fixed.Int k) (item.a_name ∷ item.term fixed.Semi ∷ item.fields ∷ []) (omega arith)
row_bound k n item.field_block = when_bound 1 (is_fixed fixed.OpenBrace k) (item.term fixed.Int ∷ item.a_name ∷ item.term fixed.Semi ∷ item.fields ∷ item.close fixed.CloseBrace ∷ []) (omega arith)
row_bound k n item.structure = when_bound 1 (is_fixed fixed.Struct k) (item.a_name ∷ item.field_block ∷ item.term fixed.Semi ∷ []) (omega arith)
row_bound k n item.header = when_bound 1 (is_fixed fixed.OpenParen k) (item.term fixed.Struct ∷ item.a_name ∷ item.a_name ∷ item.close fixed.CloseParen ∷ []) (omega arith)
row_bound k n item.guard = when_bound 1 (is_fixed fixed.If k) (item.condition ∷ []) (omega arith)
row_bound k n item.transactions = when_bound 1 (is_fixed fixed.Void k) (item.a_name ∷ item.header ∷ item.guard ∷ item.block ∷ item.transactions ∷ []) (omega arith)

-- and a "-" before a number none

level_signed : (j : ℕ) → Bounded 0 (item.level_row j (kind.Operator bin.Sub) true)
level_signed zero = omega arith
level_signed (suc j) = then_bound 0 0 (item.level_row j (kind.Operator bin.Sub) true) (item.more j ∷ []) (omega arith) (level_signed j)

more_signed : (b : Bool) (j : ℕ) → Bounded 0 (if b then when false item.choice_row else item.operator_row j (operator_of (suc j) (kind.Operator bin.Sub)))
more_signed true j = tt
more_signed false j = operator_bound 0 j (operator_of (suc j) (kind.Operator bin.Sub))

row_signed : (i : Item) → Bounded (room 0 i) (expand i (kind.Operator bin.Sub) true)
row_signed (item.term f) = tt
row_signed item.a_name = tt
row_signed item.a_number = tt
row_signed (item.close f) = tt
row_signed item.ended = tt
row_signed (item.level j) = level_signed j
row_signed (item.more j) = more_signed (nat_eq j 10) j
row_signed item.name_rest = tt
row_signed item.args = then_bound 0 1 (item.level_row top (kind.Operator bin.Sub) true) item.args_row (omega arith) (level_signed top)
row_signed item.more_args = tt
row_signed item.target_rest = tt
row_signed item.assignment = tt
row_signed item.stmt = tt
row_signed item.stmts = tt
row_signed item.block = tt
row_signed item.condition = tt
row_signed item.body = tt
row_signed item.else_part = tt
row_signed item.else_rest = tt
row_signed item.decl = tt
row_signed item.decls = tt
row_signed item.constant = omega arith
row_signed item.value = omega arith
row_signed item.start = omega arith
row_signed item.start_part = tt
row_signed item.size = tt
row_signed item.size_part = tt
row_signed item.fields = tt
row_signed item.field_block = tt
row_signed item.structure = tt
row_signed item.header = tt
row_signed item.guard = tt
row_signed item.transactions = tt

-- so much for rows; a stack

step_bound : (m : ℕ) (k : Kind) (n : Bool) → ((i : Item) → Bounded (room m i) (expand i k n)) → (s : List Item) → Bounded (m + held s) (step s k n)
step_bound m k n h [] = tt
step_bound m k n h (i ∷ s) = over i s (expand i k n) (may_skip i) (h i) (step_bound m k n h s)
  where
    longer : (s : List Item) (b : Bool) → m + held s ≤ m + (if b then suc (held s) else held s)
    longer s true = omega arith
    longer s false = omega arith

    over : (i : Item) (s : List Item) (o : Option (List Item)) (b : Bool) → Bounded (room m i) o → Bounded (m + held s) (step s k n) → Bounded (m + held (i ∷ s)) (resume o b (step s k n) s)
    over i s (Some row) b x y = let f = held_room m i s in let g = held_append row s in omega arith
    over i s None true x y = weaken (m + held s) (m + held (i ∷ s)) (step s k n) (longer s (ends i)) y
    over i s None false x y = tt

pub one_more : (s next : List Item) (k : Kind) (n : Bool) → step s k n ≡ Some next → held next ≤ suc (held s)
one_more s next k n e = let f : held next ≤ 1 + held s = subst (Bounded (1 + held s)) e (step_bound 1 k n (row_bound k n) s) in omega arith

minus_kind : (k : Kind) → is_minus k ≡ true → k ≡ kind.Operator bin.Sub
minus_kind kind.Name e = absurd (cc)
minus_kind (kind.Number w) e = absurd (cc)
minus_kind (kind.Fixed f) e = absurd (cc)
minus_kind kind.Inv e = absurd (cc)
minus_kind kind.Not e = absurd (cc)
minus_kind (kind.Operator bin.Mul) e = absurd (cc)
minus_kind (kind.Operator bin.Div) e = absurd (cc)
minus_kind (kind.Operator bin.Rem) e = absurd (cc)
minus_kind (kind.Operator bin.Add) e = absurd (cc)
minus_kind (kind.Operator bin.Sub) e = refl
minus_kind (kind.Operator bin.Shl) e = absurd (cc)
minus_kind (kind.Operator bin.Shr) e = absurd (cc)
minus_kind (kind.Operator bin.Lt) e = absurd (cc)
minus_kind (kind.Operator bin.Le) e = absurd (cc)
minus_kind (kind.Operator bin.Gt) e = absurd (cc)
minus_kind (kind.Operator bin.Ge) e = absurd (cc)
minus_kind (kind.Operator bin.Eq) e = absurd (cc)
minus_kind (kind.Operator bin.Ne) e = absurd (cc)
minus_kind (kind.Operator bin.BitAnd) e = absurd (cc)
minus_kind (kind.Operator bin.BitXor) e = absurd (cc)
minus_kind (kind.Operator bin.BitOr) e = absurd (cc)
minus_kind (kind.Operator bin.And) e = absurd (cc)
minus_kind (kind.Operator bin.Or) e = absurd (cc)
minus_kind kind.Forbidden e = absurd (cc)
minus_kind kind.End e = absurd (cc)

pub no_more : (s next : List Item) (k : Kind) → is_minus k ≡ true → step s k true ≡ Some next → held next ≤ held s
no_more s next k m e =
    let f : step s (kind.Operator bin.Sub) true ≡ Some next = ap (λ (x : Kind). step s x true) (sym (minus_kind k m)) ∙ e in
    let g : held next ≤ 0 + held s = subst (Bounded (0 + held s)) f (step_bound 0 (kind.Operator bin.Sub) true row_signed s) in omega arith

-- where no "-" stands, what comes next decides nothing

operand_same : (k : Kind) → is_minus k ≡ false → (n m : Bool) (b : Begin) → item.operand_row n (unary_of k) b ≡ item.operand_row m (unary_of k) b
operand_same kind.Name e n m b = refl
operand_same (kind.Number w) e n m b = refl
operand_same (kind.Fixed f) e n m b = refl
operand_same kind.Inv e n m b = refl
operand_same kind.Not e n m b = refl
operand_same (kind.Operator bin.Mul) e n m b = refl
operand_same (kind.Operator bin.Div) e n m b = refl
operand_same (kind.Operator bin.Rem) e n m b = refl
operand_same (kind.Operator bin.Add) e n m b = refl
operand_same (kind.Operator bin.Sub) e n m b = absurd (cc)
operand_same (kind.Operator bin.Shl) e n m b = refl
operand_same (kind.Operator bin.Shr) e n m b = refl
operand_same (kind.Operator bin.Lt) e n m b = refl
operand_same (kind.Operator bin.Le) e n m b = refl
operand_same (kind.Operator bin.Gt) e n m b = refl
operand_same (kind.Operator bin.Ge) e n m b = refl
operand_same (kind.Operator bin.Eq) e n m b = refl
operand_same (kind.Operator bin.Ne) e n m b = refl
operand_same (kind.Operator bin.BitAnd) e n m b = refl
operand_same (kind.Operator bin.BitXor) e n m b = refl
operand_same (kind.Operator bin.BitOr) e n m b = refl
operand_same (kind.Operator bin.And) e n m b = refl
operand_same (kind.Operator bin.Or) e n m b = refl
operand_same kind.Forbidden e n m b = refl
operand_same kind.End e n m b = refl

level_same : (j : ℕ) (k : Kind) → is_minus k ≡ false → (n m : Bool) → item.level_row j k n ≡ item.level_row j k m
level_same zero k e n m = operand_same k e n m (item.begin_of k)
level_same (suc j) k e n m = ap (λ (o : Option (List Item)). then_row o (item.more j ∷ [])) (level_same j k e n m)

row_same : (i : Item) (k : Kind) → is_minus k ≡ false → (n m : Bool) → expand i k n ≡ expand i k m
row_same (item.term f) k e n m = refl
row_same item.a_name k e n m = refl
row_same item.a_number k e n m = refl
row_same (item.close f) k e n m = refl
row_same item.ended k e n m = refl
row_same (item.level j) k e n m = level_same j k e n m
row_same (item.more j) k e n m = refl
row_same item.name_rest k e n m = refl
row_same item.args k e n m = ap (λ (o : Option (List Item)). if is_fixed fixed.CloseParen k then Some (item.ended ∷ []) else then_row o item.args_row) (level_same top k e n m)
row_same item.more_args k e n m = refl
row_same item.target_rest k e n m = refl
row_same item.assignment k e n m = refl
row_same item.stmt k e n m = refl
row_same item.stmts k e n m = refl
row_same item.block k e n m = refl
row_same item.condition k e n m = refl
row_same item.body k e n m = refl
row_same item.else_part k e n m = refl
row_same item.else_rest k e n m = refl
row_same item.decl k e n m = refl
row_same item.decls k e n m = refl
row_same item.constant k e n m = refl
row_same item.value k e n m = refl
row_same item.start k e n m = refl
row_same item.start_part k e n m = refl
row_same item.size k e n m = refl
row_same item.size_part k e n m = refl
row_same item.fields k e n m = refl
row_same item.field_block k e n m = refl
row_same item.structure k e n m = refl
row_same item.header k e n m = refl
row_same item.guard k e n m = refl
row_same item.transactions k e n m = refl

pub step_same : (s : List Item) (k : Kind) → is_minus k ≡ false → (n m : Bool) → step s k n ≡ step s k m
step_same [] k e n m = refl
step_same (i ∷ s) k e n m =
    ap (λ (o : Option (List Item)). resume o (may_skip i) (step s k n) s) (row_same i k e n m) ∙ ap (λ (o : Option (List Item)). resume (expand i k m) (may_skip i) o s) (step_same s k e n m)
