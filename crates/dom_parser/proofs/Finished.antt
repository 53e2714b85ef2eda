-- What comes before a token that may not stand there can be finished.
use Rattle.std.proofs.Common.{◌≡◌, ℕ, zero, suc, Bool, true, false, ◌&&◌, List, [], ◌∷◌, ◌++◌, Option, Some, None, refl, sym, ap, ◌∙◌, subst, arith, append_assoc, nat_eq, if◌then◌else◌}
use Rattle.std.proofs.lemmas.Bool.{eqb-true, eq-eqb}
use Rattle.dom_words.specs.declared.operators.BinOp.{BinOp}
use Rattle.dom_words.specs.declared.operators.UnOp.{UnOp}
use Rattle.dom_parser.specs.declared.kinds.Fixed.{Fixed}
use Rattle.dom_parser.specs.declared.kinds.Fixed.TheVariants as fixed
use Rattle.dom_parser.specs.declared.kinds.Kind.{Kind}
use Rattle.dom_parser.specs.declared.kinds.Kind.TheVariants as kind
use Rattle.dom_parser.specs.declared.kinds.Begin.{Begin}
use Rattle.dom_parser.specs.declared.kinds.Begin.TheVariants as begin
use Rattle.dom_parser.specs.declared.kinds.Suffix.{Suffix}
use Rattle.dom_parser.specs.declared.kinds.Suffix.TheVariants as suffix
use Rattle.dom_parser.specs.declared.kinds.Lead.{Lead}
use Rattle.dom_parser.specs.declared.kinds.Lead.TheVariants as lead
use Rattle.dom_parser.specs.declared.kinds.Declared.{Declared}
use Rattle.dom_parser.specs.declared.kinds.Declared.TheVariants as declared
use Rattle.dom_parser.specs.Tokens.{Mark, is_minus, number_first}
use Rattle.dom_parser.specs.inner.AtPlace.{fixed_number, is_fixed, is_name, number_of, operator_of, unary_of}
use Rattle.dom_parser.specs.Grammar.{top, sign, name_mark, number_mark}
use Rattle.dom_parser.specs.inner.Following as item
use Rattle.dom_parser.specs.inner.Following.{Item, expand, may_skip, resume, step, held, Trace, fine, stuck, count, on_step, trace, when, then_row, problem, Problem, bad, deep, limit}
use Rattle.dom_parser.proofs.Traces.{counted, counted_append, Refused, Ends, ends_close, weaker, passes, ended_passes, goes}

-- the least that an item stands for
abbrev a_name_mark : Mark
a_name_mark = name_mark 0 []

abbrev pub least : Item → List Mark
least (item.term f) = sign f 0 ∷ []
least item.a_name = a_name_mark ∷ []
least item.a_number = number_mark 0 0 ∷ []
least (item.close f) = sign f 0 ∷ []
least item.ended = []
least (item.level k) = a_name_mark ∷ []
least (item.more k) = []
least item.name_rest = []
least item.args = sign fixed.CloseParen 0 ∷ []
least item.more_args = []
least item.target_rest = []
least item.assignment = a_name_mark ∷ sign fixed.Assign 0 ∷ a_name_mark ∷ sign fixed.Semi 0 ∷ []
least item.stmt = a_name_mark ∷ sign fixed.Assign 0 ∷ a_name_mark ∷ sign fixed.Semi 0 ∷ []
least item.stmts = []
least item.block = sign fixed.OpenBrace 0 ∷ sign fixed.CloseBrace 0 ∷ []
least item.condition = sign fixed.OpenParen 0 ∷ a_name_mark ∷ sign fixed.CloseParen 0 ∷ []
least item.body = sign fixed.OpenBrace 0 ∷ sign fixed.CloseBrace 0 ∷ []
least item.else_part = []
least item.else_rest = sign fixed.OpenBrace 0 ∷ sign fixed.CloseBrace 0 ∷ []
least item.decl = sign fixed.Hash 0 ∷ sign fixed.Define 0 ∷ a_name_mark ∷ number_mark 0 0 ∷ []
least item.decls = []
least item.constant = number_mark 0 0 ∷ []
least item.value = number_mark 0 0 ∷ []
least item.start = number_mark 0 0 ∷ []
least item.start_part = []
least item.size = number_mark 0 0 ∷ []
least item.size_part = []
least item.fields = []
least item.field_block = sign fixed.OpenBrace 0 ∷ sign fixed.Int 0 ∷ a_name_mark ∷ sign fixed.Semi 0 ∷ sign fixed.CloseBrace 0 ∷ []
least item.structure = sign fixed.Struct 0 ∷ a_name_mark ∷ sign fixed.OpenBrace 0 ∷ sign fixed.Int 0 ∷ a_name_mark ∷ sign fixed.Semi 0 ∷ sign fixed.CloseBrace 0 ∷ sign fixed.Semi 0 ∷ []
least item.header = sign fixed.OpenParen 0 ∷ sign fixed.Struct 0 ∷ a_name_mark ∷ a_name_mark ∷ sign fixed.CloseParen 0 ∷ []
least item.guard = []
least item.transactions = []

abbrev pub finish : List Item → List Mark
finish [] = []
finish (i ∷ s) = least i ++ finish s

-- what may come after an item
abbrev Fit : Item → List Mark → Type 0
Fit (item.level k) l = Ends k l
Fit (item.more k) l = Ends (suc k) l
Fit item.name_rest l = Ends zero l
Fit item.more_args l = Ends top l × Refused item.more_args l
Fit item.target_rest l = Refused item.target_rest l
Fit item.stmt l = Refused item.else_part l
Fit item.stmts l = Refused item.stmts l × Refused item.else_part l
Fit item.else_part l = Refused item.else_part l
Fit item.else_rest l = Refused item.else_part l
Fit item.decls l = Refused item.decls l
Fit item.start_part l = Refused item.start_part l
Fit item.size_part l = Refused item.size_part l
Fit item.fields l = Refused item.fields l
Fit item.guard l = Refused item.guard l
Fit item.transactions l = Refused item.transactions l
Fit _ l = Unit {0}

abbrev pub Good : List Item → Type 0
Good [] = Unit {0}
Good (i ∷ s) = Fit i (finish s) × Good s

-- an item reads the least that it stands for
abbrev ReadsLeast : Item → List Item → Type 0
ReadsLeast i s = (ms : List ℕ) × (trace (i ∷ s) (least i ++ finish s) ≡ counted ms (trace s (finish s)))

same_sign : (f : Fixed) → is_fixed f (kind.Fixed f) ≡ true
same_sign f = eq-eqb (fixed_number f) (fixed_number f) refl

lower : (k : ℕ) (s : List Item) (t : Mark) (l : List Mark) → trace (item.level (suc k) ∷ s) (t ∷ l) ≡ trace (item.level k ∷ item.more k ∷ s) (t ∷ l)
lower k s t l = go (item.level_row k t.kind (number_first l)) refl
  where
    go : (o : Option (List Item)) → item.level_row k t.kind (number_first l) ≡ o → trace (item.level (suc k) ∷ s) (t ∷ l) ≡ trace (item.level k ∷ item.more k ∷ s) (t ∷ l)
    go None e =
        ap (λ (r : Option (List Item)). on_step (resume (then_row r (item.more k ∷ [])) false (step s t.kind (number_first l)) s) (λ s. trace s l)) e
        ∙ sym (ap (λ (r : Option (List Item)). on_step (resume r false (step (item.more k ∷ s) t.kind (number_first l)) (item.more k ∷ s)) (λ s. trace s l)) e)
    go (Some row) e =
        goes (item.level (suc k)) (row ++ item.more k ∷ []) s t l (ap (λ (r : Option (List Item)). then_row r (item.more k ∷ [])) e)
        ∙ ap (λ (y : List Item). count (held y) (trace y l)) (append_assoc row (item.more k ∷ []) s)
        ∙ sym (goes (item.level k) row (item.more k ∷ s) t l e)

level_least : (k : ℕ) (s : List Item) (l : List Mark) → Ends k l → (ms : List ℕ) × (trace (item.level k ∷ s) (a_name_mark ∷ l) ≡ counted ms (trace s l))
level_least zero s l e = (held s ∷ [], ap (count (held s)) (passes item.name_rest s l refl e.name))
level_least (suc k) s l e =
    let f = level_least k (item.more k ∷ s) l (weaker k l e) in
    (f.0, lower k s a_name_mark l ∙ f.1 ∙ ap (counted f.0) (passes (item.more k) s l refl (e.op k (omega arith))))

reads_least : (i : Item) (s : List Item) → Fit i (finish s) → ReadsLeast i s
reads_least (item.term f) s h = (held s ∷ [], goes (item.term f) [] s (sign f 0) (finish s) (ap (λ (b : Bool). when b []) (same_sign f)))
reads_least item.a_name s h = (held s ∷ [], refl)
reads_least item.a_number s h = (held s ∷ [], refl)
reads_least (item.close f) s h = (suc (held s) ∷ [], goes (item.close f) (item.ended ∷ []) s (sign f 0) (finish s) (ap (λ (b : Bool). when b (item.ended ∷ [])) (same_sign f)) ∙ ap (count (suc (held s))) (ended_passes s (finish s)))
reads_least item.ended s h = ([], ended_passes s (finish s))
reads_least (item.level k) s h = level_least k s (finish s) h
reads_least (item.more k) s h = ([], passes (item.more k) s (finish s) refl (h.op k (omega arith)))
reads_least item.name_rest s h = ([], passes item.name_rest s (finish s) refl h.name)
reads_least item.args s h = (suc (held s) ∷ [], ap (count (suc (held s))) (ended_passes s (finish s)))
reads_least item.more_args s h = ([], passes item.more_args s (finish s) refl h.1)
reads_least item.target_rest s h = ([], passes item.target_rest s (finish s) refl h)
reads_least item.assignment s h = (held s ∷ held s ∷ held s ∷ held s ∷ [], refl)
reads_least item.stmt s h = (held s ∷ held s ∷ held s ∷ held s ∷ [], refl)
reads_least item.stmts s h = ([], passes item.stmts s (finish s) refl h.0)
reads_least item.block s h = (suc (held s) ∷ suc (held s) ∷ [], ap (λ (t : Trace). count (suc (held s)) (count (suc (held s)) t)) (ended_passes s (finish s)))
reads_least item.condition s h = (suc (held s) ∷ suc (held s) ∷ suc (held s) ∷ [], ap (λ (t : Trace). count (suc (held s)) (count (suc (held s)) (count (suc (held s)) t))) (ended_passes s (finish s)))
reads_least item.body s h = (suc (held s) ∷ suc (held s) ∷ [], ap (λ (t : Trace). count (suc (held s)) (count (suc (held s)) t)) (ended_passes s (finish s)))
reads_least item.else_part s h = ([], passes item.else_part s (finish s) refl h)
reads_least item.else_rest s h = (suc (held s) ∷ suc (held s) ∷ [], ap (λ (t : Trace). count (suc (held s)) (count (suc (held s)) t)) (ended_passes s (finish s)))
reads_least item.decl s h = (held s ∷ held s ∷ held s ∷ held s ∷ [], refl)
reads_least item.decls s h = ([], passes item.decls s (finish s) refl h)
reads_least item.constant s h = (held s ∷ [], refl)
reads_least item.value s h = (held s ∷ [], refl)
reads_least item.start s h = (held s ∷ [], refl)
reads_least item.start_part s h = ([], passes item.start_part s (finish s) refl h)
reads_least item.size s h = (held s ∷ [], refl)
reads_least item.size_part s h = ([], passes item.size_part s (finish s) refl h)
reads_least item.fields s h = ([], passes item.fields s (finish s) refl h)
reads_least item.field_block s h = (suc (held s) ∷ suc (held s) ∷ suc (held s) ∷ suc (held s) ∷ suc (held s) ∷ [], ap (λ (t : Trace). count (suc (held s)) (count (suc (held s)) (count (suc (held s)) (count (suc (held s)) (count (suc (held s)) t))))) (ended_passes s (finish s)))
reads_least item.structure s h = (held s ∷ held s ∷ suc (held s) ∷ suc (held s) ∷ suc (held s) ∷ suc (held s) ∷ suc (held s) ∷ held s ∷ [], refl)
reads_least item.header s h = (suc (held s) ∷ suc (held s) ∷ suc (held s) ∷ suc (held s) ∷ suc (held s) ∷ [], ap (λ (t : Trace). count (suc (held s)) (count (suc (held s)) (count (suc (held s)) (count (suc (held s)) (count (suc (held s)) t))))) (ended_passes s (finish s)))
reads_least item.guard s h = ([], passes item.guard s (finish s) refl h)
reads_least item.transactions s h = ([], passes item.transactions s (finish s) refl h)

pub finishes : (s : List Item) → Good s → (ns : List ℕ) × (trace s (finish s) ≡ counted ns fine)
finishes [] g = ([], refl)
finishes (i ∷ s) g =
    let f = reads_least i s g.0 in let k = finishes s g.1 in
    (f.0 ++ k.0, f.1 ∙ ap (counted f.0) k.1 ∙ sym (counted_append f.0 k.0 fine))

-- rows keep stacks good

when_row : (b : Bool) (r row : List Item) → when b r ≡ Some row → r ≡ row
when_row true r row e = let f : r ≡ row = cc in f
when_row false r row e = absurd (cc)

pub some_row : (r row : List Item) → Some r ≡ Some row → r ≡ row
some_row r row e = let f : r ≡ row = cc in f

kept_as : (s r row : List Item) → r ≡ row → Good (r ++ s) → Good (row ++ s)
kept_as s r row e g = subst (λ (x : List Item). Good (x ++ s)) e g

in_parens : (s : List Item) → Good s → Good (item.paren_row ++ s)
in_parens s g = (ends_close fixed.CloseParen top 0 (finish s) refl refl, (tt, g))

in_square : (s : List Item) → Good s → Good (item.bracket_row ++ s)
in_square s g = (ends_close fixed.CloseBracket top 0 (finish s) refl refl, (tt, g))

good_assign : (s : List Item) → Good s → Good (item.assign_row ++ s)
good_assign s g = (refl, (tt, (ends_close fixed.Semi top 0 (finish s) refl refl, (tt, g))))

good_if : (s : List Item) → Refused item.else_part (finish s) → Good s → Good (item.if_row ++ s)
good_if s h g = (tt, (tt, (h, (tt, g))))

good_block : (s : List Item) → Good s → Good (item.block_row ++ s)
good_block s g = ((refl, refl), (tt, g))

begin_good : (b : Begin) (s row : List Item) → Ends zero (finish s) → Good s → item.begin_row b ≡ Some row → Good (row ++ s)
begin_good (begin.Number w) s row h g e = kept_as s [] row (some_row [] row e) g
begin_good begin.Name s row h g e = kept_as s (item.name_rest ∷ []) row (some_row _ row e) (h, g)
begin_good begin.Paren s row h g e = kept_as s item.paren_row row (some_row _ row e) (in_parens s g)
begin_good begin.Other s row h g e = absurd (cc)

operand_good : (n : Bool) (o : Option UnOp) (b : Begin) (s row : List Item) → Ends zero (finish s) → Good s → item.operand_row n o b ≡ Some row → Good (row ++ s)
operand_good n None b s row h g e = begin_good b s row h g e
operand_good n (Some o) b s row h g e = go (item.is_neg o && n) e
  where
    go : (c : Bool) → (if c then Some (item.a_number ∷ []) else Some (item.level 0 ∷ item.ended ∷ [])) ≡ Some row → Good (row ++ s)
    go true f = kept_as s (item.a_number ∷ []) row (some_row _ row f) (tt, g)
    go false f = kept_as s (item.level 0 ∷ item.ended ∷ []) row (some_row _ row f) (h, (tt, g))

level_good : (j : ℕ) (k : Kind) (n : Bool) (s row : List Item) → Ends j (finish s) → Good s → item.level_row j k n ≡ Some row → Good (row ++ s)
level_good zero k n s row h g e = operand_good n (unary_of k) (item.begin_of k) s row h g e
level_good (suc j) k n s row h g e = go (item.level_row j k n) refl e (λ r f. level_good j k n (item.more j ∷ s) r (weaker j (finish s) h) (h, g) f)
  where
    go : (o : Option (List Item)) → item.level_row j k n ≡ o → then_row o (item.more j ∷ []) ≡ Some row → ((r : List Item) → item.level_row j k n ≡ Some r → Good (r ++ item.more j ∷ s)) → Good (row ++ s)
    go None q f rec = absurd (cc)
    go (Some r) q f rec = kept_as s (r ++ item.more j ∷ []) row (some_row _ row f) (subst Good (sym (append_assoc r (item.more j ∷ []) s)) (rec r q))

more_good : (j : ℕ) (b : Bool) (k : Kind) (s row : List Item) → nat_eq j 10 ≡ b → Ends (suc j) (finish s) → Good s → (if b then when (is_fixed fixed.Question k) item.choice_row else item.operator_row j (operator_of (suc j) k)) ≡ Some row → Good (row ++ s)
more_good j true k s row q h g e =
    let t : Ends top (finish s) = subst (λ (x : ℕ). Ends (suc x) (finish s)) (eqb-true j 10 q) h in
    kept_as s item.choice_row row (when_row (is_fixed fixed.Question k) item.choice_row row e) (ends_close fixed.Colon top 0 (a_name_mark ∷ finish s) refl refl, (tt, (t, (tt, g))))
more_good j false k s row q h g e = go (operator_of (suc j) k) e
  where
    go : (o : Option BinOp) → item.operator_row j o ≡ Some row → Good (row ++ s)
    go None f = absurd (cc)
    go (Some o) f = kept_as s (item.level j ∷ item.more j ∷ []) row (some_row _ row f) (weaker j (finish s) h, (h, g))

suffix_good : (a : Suffix) (s row : List Item) → Good s → item.suffix_row a ≡ Some row → Good (row ++ s)
suffix_good suffix.Dot s row g e = kept_as s (item.a_name ∷ []) row (some_row _ row e) (tt, g)
suffix_good suffix.Bracket s row g e = kept_as s item.bracket_row row (some_row _ row e) (in_square s g)
suffix_good suffix.Paren s row g e = kept_as s (item.args ∷ []) row (some_row _ row e) (tt, g)
suffix_good suffix.Other s row g e = absurd (cc)

target_good : (a : Suffix) (s row : List Item) → Good s → item.target_row a ≡ Some row → Good (row ++ s)
target_good suffix.Dot s row g e = kept_as s (item.a_name ∷ []) row (some_row _ row e) (tt, g)
target_good suffix.Bracket s row g e = kept_as s item.bracket_row row (some_row _ row e) (in_square s g)
target_good suffix.Paren s row g e = absurd (cc)
target_good suffix.Other s row g e = absurd (cc)

args_good : (b : Bool) (k : Kind) (n : Bool) (s row : List Item) → Good s → (if b then Some (item.ended ∷ []) else then_row (item.level_row top k n) item.args_row) ≡ Some row → Good (row ++ s)
args_good true k n s row g e = kept_as s (item.ended ∷ []) row (some_row _ row e) (tt, g)
args_good false k n s row g e = go (item.level_row top k n) refl e
  where
    closing : Ends top (finish (item.close fixed.CloseParen ∷ s))
    closing = ends_close fixed.CloseParen top 0 (finish s) refl refl

    go : (o : Option (List Item)) → item.level_row top k n ≡ o → then_row o item.args_row ≡ Some row → Good (row ++ s)
    go None q f = absurd (cc)
    go (Some r) q f = kept_as s (r ++ item.args_row) row (some_row _ row f) (subst Good (sym (append_assoc r item.args_row s)) (level_good top k n (item.more_args ∷ item.close fixed.CloseParen ∷ s) r closing ((closing, refl), (tt, g)) q))

stmt_good : (a : Lead) (s row : List Item) → Refused item.else_part (finish s) → Good s → item.stmt_row a ≡ Some row → Good (row ++ s)
stmt_good lead.Block s row h g e = absurd (cc)
stmt_good lead.Assign s row h g e = kept_as s item.assign_row row (some_row _ row e) (good_assign s g)
stmt_good lead.If s row h g e = kept_as s item.if_row row (some_row _ row e) (good_if s h g)
stmt_good lead.Other s row h g e = absurd (cc)

stmts_good : (a : Lead) (s row : List Item) → Refused item.stmts (finish s) → Refused item.else_part (finish s) → Good s → then_row (item.stmt_row a) (item.stmts ∷ []) ≡ Some row → Good (row ++ s)
stmts_good lead.Block s row h k g e = absurd (cc)
stmts_good lead.Assign s row h k g e = kept_as s (item.assign_row ++ item.stmts ∷ []) row (some_row _ row e) (good_assign (item.stmts ∷ s) ((h, k), g))
stmts_good lead.If s row h k g e = kept_as s (item.if_row ++ item.stmts ∷ []) row (some_row _ row e) (good_if (item.stmts ∷ s) k ((h, k), g))
stmts_good lead.Other s row h k g e = absurd (cc)

body_good : (a : Lead) (s row : List Item) → Good s → item.body_row a ≡ Some row → Good (row ++ s)
body_good lead.Block s row g e = kept_as s item.block_row row (some_row _ row e) (good_block s g)
body_good lead.Assign s row g e = kept_as s item.assign_row row (some_row _ row e) (good_assign s g)
body_good lead.If s row g e = absurd (cc)
body_good lead.Other s row g e = absurd (cc)

else_good : (a : Lead) (s row : List Item) → Refused item.else_part (finish s) → Good s → item.else_row a ≡ Some row → Good (row ++ s)
else_good lead.Block s row h g e = kept_as s item.block_row row (some_row _ row e) (good_block s g)
else_good lead.Assign s row h g e = kept_as s item.assign_row row (some_row _ row e) (good_assign s g)
else_good lead.If s row h g e = kept_as s item.if_row row (some_row _ row e) (good_if s h g)
else_good lead.Other s row h g e = absurd (cc)

decl_good : (a : Declared) (s row : List Item) → Good s → item.decl_row a ≡ Some row → Good (row ++ s)
decl_good declared.Define s row g e = kept_as s (item.term fixed.Define ∷ item.a_name ∷ item.constant ∷ []) row (some_row _ row e) (tt, (tt, (tt, g)))
decl_good declared.Global s row g e = kept_as s (item.a_name ∷ item.size_part ∷ item.start_part ∷ item.term fixed.Semi ∷ []) row (some_row _ row e) (tt, (refl, (refl, (tt, g))))
decl_good declared.Other s row g e = absurd (cc)

decls_good : (a : Declared) (s row : List Item) → Refused item.decls (finish s) → Good s → then_row (item.decl_row a) (item.decls ∷ []) ≡ Some row → Good (row ++ s)
decls_good declared.Define s row h g e = kept_as s (item.term fixed.Define ∷ item.a_name ∷ item.constant ∷ item.decls ∷ []) row (some_row _ row e) (tt, (tt, (tt, (h, g))))
decls_good declared.Global s row h g e = kept_as s (item.a_name ∷ item.size_part ∷ item.start_part ∷ item.term fixed.Semi ∷ item.decls ∷ []) row (some_row _ row e) (tt, (refl, (refl, (tt, (h, g)))))
decls_good declared.Other s row h g e = absurd (cc)

number_good : (o : Option ℕ) (s row : List Item) → Good s → item.number_row o ≡ Some row → Good (row ++ s)
number_good None s row g e = absurd (cc)
number_good (Some w) s row g e = kept_as s [] row (some_row [] row e) g

constant_good : (o : Option ℕ) (b : Bool) (s row : List Item) → Good s → item.constant_row o b ≡ Some row → Good (row ++ s)
constant_good (Some w) b s row g e = kept_as s [] row (some_row [] row e) g
constant_good None b s row g e = kept_as s (item.a_number ∷ []) row (when_row b _ row e) (tt, g)

value_good : (b : Bool) (o : Option ℕ) (c : Bool) (s row : List Item) → Good s → (if b then Some [] else item.constant_row o c) ≡ Some row → Good (row ++ s)
value_good true o c s row g e = kept_as s [] row (some_row [] row e) g
value_good false o c s row g e = constant_good o c s row g e

start_good : (b d : Bool) (o : Option ℕ) (c : Bool) (s row : List Item) → Good s → (if b then Some (item.value ∷ item.close fixed.CloseBrace ∷ []) else (if d then Some [] else item.constant_row o c)) ≡ Some row → Good (row ++ s)
start_good true d o c s row g e = kept_as s (item.value ∷ item.close fixed.CloseBrace ∷ []) row (some_row _ row e) (tt, (tt, g))
start_good false d o c s row g e = value_good d o c s row g e

size_good : (b : Bool) (o : Option ℕ) (s row : List Item) → Good s → (if b then Some [] else item.number_row o) ≡ Some row → Good (row ++ s)
size_good true o s row g e = kept_as s [] row (some_row [] row e) g
size_good false o s row g e = number_good o s row g e

row_good : (i : Item) (k : Kind) (n : Bool) (s row : List Item) → Fit i (finish s) → Good s → expand i k n ≡ Some row → Good (row ++ s)
row_good (item.term f) k n s row h g e = kept_as s [] row (when_row (is_fixed f k) _ row e) g
row_good item.a_name k n s row h g e = kept_as s [] row (when_row (is_name k) _ row e) g
row_good item.a_number k n s row h g e = number_good (number_of k) s row g e
row_good (item.close f) k n s row h g e = kept_as s (item.ended ∷ []) row (when_row (is_fixed f k) _ row e) (tt, g)
row_good item.ended k n s row h g e = absurd (cc)
row_good (item.level j) k n s row h g e = level_good j k n s row h g e
row_good (item.more j) k n s row h g e = more_good j (nat_eq j 10) k s row refl h g e
row_good item.name_rest k n s row h g e = suffix_good (item.suffix_of k) s row g e
row_good item.args k n s row h g e = args_good (is_fixed fixed.CloseParen k) k n s row g e
row_good item.more_args k n s row h g e = kept_as s (item.level top ∷ item.more_args ∷ []) row (when_row (is_fixed fixed.Comma k) _ row e) (h.0, (h, g))
row_good item.target_rest k n s row h g e = target_good (item.suffix_of k) s row g e
row_good item.assignment k n s row h g e = kept_as s item.assign_row row (when_row (is_name k) _ row e) (good_assign s g)
row_good item.stmt k n s row h g e = stmt_good (item.lead_of k) s row h g e
row_good item.stmts k n s row h g e = stmts_good (item.lead_of k) s row h.0 h.1 g e
row_good item.block k n s row h g e = kept_as s (item.block_row) row (when_row (is_fixed fixed.OpenBrace k) _ row e) (good_block s g)
row_good item.condition k n s row h g e = kept_as s (item.paren_row) row (when_row (is_fixed fixed.OpenParen k) _ row e) (in_parens s g)
row_good item.body k n s row h g e = body_good (item.lead_of k) s row g e
row_good item.else_part k n s row h g e = kept_as s (item.else_rest ∷ []) row (when_row (is_fixed fixed.Else k) _ row e) (h, g)
row_good item.else_rest k n s row h g e = else_good (item.lead_of k) s row h g e
row_good item.decl k n s row h g e = decl_good (item.declared_of k) s row g e
row_good item.decls k n s row h g e = decls_good (item.declared_of k) s row h g e
row_good item.constant k n s row h g e = constant_good (number_of k) (is_minus k) s row g e
row_good item.value k n s row h g e = value_good (is_name k) (number_of k) (is_minus k) s row g e
row_good item.start k n s row h g e = start_good (is_fixed fixed.OpenBrace k) (is_name k) (number_of k) (is_minus k) s row g e
row_good item.start_part k n s row h g e = kept_as s (item.start ∷ []) row (when_row (is_fixed fixed.Assign k) _ row e) (tt, g)
row_good item.size k n s row h g e = size_good (is_name k) (number_of k) s row g e
row_good item.size_part k n s row h g e = kept_as s (item.size ∷ item.close fixed.CloseBracket ∷ []) row (when_row (is_fixed fixed.OpenBracket k) _ row e) (tt, (tt, g))
row_good item.fields k n s row h g e = kept_as s (item.a_name ∷ item.term fixed.Semi ∷ item.fields ∷ []) row (when_row (is_fixed fixed.Int k) _ row e) (tt, (tt, (h, g)))
row_good item.field_block k n s row h g e = kept_as s (item.term fixed.Int ∷ item.a_name ∷ item.term fixed.Semi ∷ item.fields ∷ item.close fixed.CloseBrace ∷ []) row (when_row (is_fixed fixed.OpenBrace k) _ row e) (tt, (tt, (tt, (refl, (tt, g)))))
row_good item.structure k n s row h g e = kept_as s (item.a_name ∷ item.field_block ∷ item.term fixed.Semi ∷ []) row (when_row (is_fixed fixed.Struct k) _ row e) (tt, (tt, (tt, g)))
row_good item.header k n s row h g e = kept_as s (item.term fixed.Struct ∷ item.a_name ∷ item.a_name ∷ item.close fixed.CloseParen ∷ []) row (when_row (is_fixed fixed.OpenParen k) _ row e) (tt, (tt, (tt, (tt, g))))
row_good item.guard k n s row h g e = kept_as s (item.condition ∷ []) row (when_row (is_fixed fixed.If k) _ row e) (tt, g)
row_good item.transactions k n s row h g e = kept_as s (item.a_name ∷ item.header ∷ item.guard ∷ item.block ∷ item.transactions ∷ []) row (when_row (is_fixed fixed.Void k) _ row e) (tt, (tt, (refl, (tt, (h, g)))))

pub step_good : (s next : List Item) (k : Kind) (n : Bool) → Good s → step s k n ≡ Some next → Good next
step_good [] next k n g e = absurd (cc)
step_good (i ∷ s) next k n g e = over i s next k n (expand i k n) (may_skip i) refl g e (λ f. step_good s next k n g.1 f)
  where
    over : (i : Item) (s next : List Item) (k : Kind) (n : Bool) (o : Option (List Item)) (b : Bool) → expand i k n ≡ o → Good (i ∷ s) → resume o b (step s k n) s ≡ Some next → (step s k n ≡ Some next → Good next) → Good next
    over i s next k n (Some row) b q g e rec = subst Good (some_row (row ++ s) next e) (row_good i k n s row g.0 g.1 q)
    over i s next k n None true q g e rec = rec e
    over i s next k n None false q g e rec = absurd (cc)

pub whole_good : Good item.whole
whole_good = (refl, (tt, (refl, (tt, (tt, (tt, (refl, (tt, (tt, tt)))))))))
