-- Where no token is one that may not stand there, the tokens are those of some program.
use Rattle.std.proofs.Common.{◌≡◌, ℕ, zero, suc, Bool, true, false, ◌&&◌, List, [], ◌∷◌, ◌++◌, Option, Some, None, refl, sym, ap, ◌∙◌, subst, append_assoc, nat_eq, if◌then◌else◌}
use Rattle.std.proofs.lemmas.Bool.{eqb-true}
use Rattle.std.proofs.lemmas.List.{append-nil}
use Rattle.dom_words.specs.declared.operators.BinOp.{BinOp}
use Rattle.dom_words.specs.declared.operators.BinOp.TheVariants as bin
use Rattle.dom_words.specs.declared.operators.UnOp.{UnOp}
use Rattle.dom_words.specs.declared.operators.UnOp.TheVariants as un
use Rattle.dom_parser.specs.declared.kinds.Fixed.{Fixed}
use Rattle.dom_parser.specs.declared.kinds.Fixed.TheVariants as fixed
use Rattle.dom_parser.specs.declared.kinds.Kind.{Kind}
use Rattle.dom_parser.specs.declared.kinds.Kind.TheVariants as kind
use Rattle.dom_parser.specs.declared.kinds.Begin.{Begin}
use Rattle.dom_parser.specs.declared.kinds.Begin.TheVariants as begin
use Rattle.dom_parser.specs.declared.kinds.Suffix.{Suffix}
use Rattle.dom_parser.specs.declared.kinds.Suffix.TheVariants as suffix
use Rattle.dom_parser.specs.declared.kinds.Lead.{Lead}
use Rattle.dom_parser.specs.declared.kinds.Lead.TheVariants as lead
use Rattle.dom_parser.specs.declared.kinds.Declared.{Declared}
use Rattle.dom_parser.specs.declared.kinds.Declared.TheVariants as declared
use Rattle.dom_parser.specs.Tokens.{Mark, name_text, is_minus, number_first}
use Rattle.dom_parser.specs.inner.AtPlace.{is_fixed, is_name, number_of, operator_of, unary_of}
use Rattle.dom_parser.specs.Grammar.{top, sign, name_mark, number_mark, bin_mark, un_mark, un_kind, Way, a_number, a_negated, a_word, a_field, an_index, a_call, in_parens, operated, level_of, More, stop, and_then, if_so, Args, no_args, some_args, MoreArgs, last_arg, next_arg, MakesNode, IsAt, IsAfter, AreArgs, AreMoreArgs, tokens, more_tokens, arg_tokens, more_arg_tokens, TargetWay, target_word, target_field, target_index, IsTarget, target_tokens, Assign, assigned, IsAssign, assign_tokens, Stmts, no_more, then_stmt, Stmt, an_assign, an_if, Body, body_block, body_assign, Else, no_else, else_block, else_stmt, AreStmts, IsStmt, IsBody, IsElse, stmts_tokens, stmt_tokens, body_tokens, else_tokens, Constant, plain, negative, constant_tokens, Value, a_constant, a_name, value_tokens, Start, no_start, bare, braced, start_tokens, Size, no_size, number_size, name_size, size_tokens, Decl, a_define, a_global, decl_tokens, Decls, no_decls, then_decl, decls_tokens, Field, fields_tokens, Structure, struct_tokens, Guard, no_guard, a_guard, IsGuard, guard_tokens, Transaction, IsTransaction, transaction_tokens, AreTransactions, transactions_tokens, Program, program, IsProgram, program_tokens}
use Rattle.dom_parser.specs.inner.Following as item
use Rattle.dom_parser.specs.inner.Following.{Item, begin_of, begin_row, expand, may_skip, resume, step, held, Trace, fine, stuck, count, on_step, trace, when, then_row}
use Rattle.dom_parser.proofs.KnownKinds.{kind_fixed, kind_name, kind_number, kind_minus, kind_unary, kind_operator, begin_paren, begin_number, begin_name, suffix_dot, suffix_bracket, suffix_paren, lead_block, lead_if, lead_assign, declared_define, declared_global}
use Rattle.dom_parser.proofs.Traces.{counted}

-- what each item stands for
abbrev Of : Item → List Mark → Type 0
Of (item.term f) ts = (x : ℕ) × (ts ≡ sign f x ∷ [])
Of item.a_name ts = (x : ℕ) × (n : List ℕ) × (ts ≡ name_mark x n ∷ [])
Of item.a_number ts = (x : ℕ) × (w : ℕ) × (ts ≡ number_mark x w ∷ [])
Of (item.close f) ts = (x : ℕ) × (ts ≡ sign f x ∷ [])
Of item.ended ts = ts ≡ []
Of (item.level k) ts = (w : Way) × IsAt k w × (ts ≡ tokens w)
Of (item.more k) ts = (m : More) × IsAfter k m × (ts ≡ more_tokens m)
Of item.name_rest ts = (x : ℕ) (n : List ℕ) → (w : Way) × IsAt zero w × (name_mark x n ∷ ts ≡ tokens w)
Of item.args ts = (a : Args) × (r : ℕ) × AreArgs a × (ts ≡ arg_tokens a ++ sign fixed.CloseParen r ∷ [])
Of item.more_args ts = (m : MoreArgs) × AreMoreArgs m × (ts ≡ more_arg_tokens m)
Of item.target_rest ts = (x : ℕ) (n : List ℕ) → (g : TargetWay) × IsTarget g × (name_mark x n ∷ ts ≡ target_tokens g)
Of item.assignment ts = (a : Assign) × IsAssign a × (ts ≡ assign_tokens a)
Of item.stmt ts = (a : Stmt) × IsStmt a × (ts ≡ stmt_tokens a)
Of item.stmts ts = (b : Stmts) × AreStmts b × (ts ≡ stmts_tokens b)
Of item.block ts = (p : ℕ) × (b : Stmts) × (q : ℕ) × AreStmts b × (ts ≡ sign fixed.OpenBrace p ∷ (stmts_tokens b ++ sign fixed.CloseBrace q ∷ []))
Of item.condition ts = (p : ℕ) × (w : Way) × (q : ℕ) × IsAt top w × (ts ≡ sign fixed.OpenParen p ∷ (tokens w ++ sign fixed.CloseParen q ∷ []))
Of item.body ts = (b : Body) × IsBody b × (ts ≡ body_tokens b)
Of item.else_part ts = (c : Else) × IsElse c × (ts ≡ else_tokens c)
Of item.else_rest ts = (x : ℕ) → (c : Else) × IsElse c × (sign fixed.Else x ∷ ts ≡ else_tokens c)
Of item.decl ts = (a : Decl) × (ts ≡ decl_tokens a)
Of item.decls ts = (d : Decls) × (ts ≡ decls_tokens d)
Of item.constant ts = (c : Constant) × (ts ≡ constant_tokens c)
Of item.value ts = (v : Value) × (ts ≡ value_tokens v)
Of item.start ts = (x : ℕ) → (v : Start) × (sign fixed.Assign x ∷ ts ≡ start_tokens v)
Of item.start_part ts = (v : Start) × (ts ≡ start_tokens v)
Of item.size ts = (x y : ℕ) → (z : Size) × (sign fixed.OpenBracket x ∷ (ts ++ sign fixed.CloseBracket y ∷ []) ≡ size_tokens z)
Of item.size_part ts = (z : Size) × (ts ≡ size_tokens z)
Of item.fields ts = (f : List Field) × (ts ≡ fields_tokens f)
Of item.field_block ts = (o : ℕ) × (x : Field) × (f : List Field) × (c : ℕ) × (ts ≡ sign fixed.OpenBrace o ∷ (fields_tokens (x ∷ f) ++ sign fixed.CloseBrace c ∷ []))
Of item.structure ts = (z : Structure) × (ts ≡ struct_tokens z)
Of item.header ts = (o : ℕ) × (z : ℕ) × (r : ℕ) × (t : List ℕ) × (u : ℕ) × (v : List ℕ) × (c : ℕ) × (ts ≡ sign fixed.OpenParen o ∷ sign fixed.Struct z ∷ name_mark r t ∷ name_mark u v ∷ sign fixed.CloseParen c ∷ [])
Of item.guard ts = (g : Guard) × IsGuard g × (ts ≡ guard_tokens g)
Of item.transactions ts = (t : List Transaction) × AreTransactions t × (ts ≡ transactions_tokens t)

abbrev OfRow : List Item → List Mark → Type 0
OfRow [] ts = ts ≡ []
OfRow (i ∷ r) ts = (a : List Mark) × (b : List Mark) × (ts ≡ a ++ b) × Of i a × OfRow r b

-- items that may be nothing
of_nothing : (i : Item) → may_skip i ≡ true → Of i []
of_nothing (item.term f) e = absurd (cc)
of_nothing item.a_name e = absurd (cc)
of_nothing item.a_number e = absurd (cc)
of_nothing (item.close f) e = absurd (cc)
of_nothing item.ended e = refl
of_nothing (item.level j) e = absurd (cc)
of_nothing (item.more j) e = (stop, tt, refl)
of_nothing item.name_rest e = λ x n. (a_word x n, tt, refl)
of_nothing item.args e = absurd (cc)
of_nothing item.more_args e = (last_arg, tt, refl)
of_nothing item.target_rest e = λ x n. (target_word x n, tt, refl)
of_nothing item.assignment e = absurd (cc)
of_nothing item.stmt e = absurd (cc)
of_nothing item.stmts e = (no_more, tt, refl)
of_nothing item.block e = absurd (cc)
of_nothing item.condition e = absurd (cc)
of_nothing item.body e = absurd (cc)
of_nothing item.else_part e = (no_else, tt, refl)
of_nothing item.else_rest e = absurd (cc)
of_nothing item.decl e = absurd (cc)
of_nothing item.decls e = (no_decls, refl)
of_nothing item.constant e = absurd (cc)
of_nothing item.value e = absurd (cc)
of_nothing item.start e = absurd (cc)
of_nothing item.start_part e = (no_start, refl)
of_nothing item.size e = absurd (cc)
of_nothing item.size_part e = (no_size, refl)
of_nothing item.fields e = ([], refl)
of_nothing item.field_block e = absurd (cc)
of_nothing item.structure e = absurd (cc)
of_nothing item.header e = absurd (cc)
of_nothing item.guard e = (no_guard, tt, refl)
of_nothing item.transactions e = ([], tt, refl)

-- a token without a text where it is no name
abbrev pub Clean : Mark → Type 0
Clean t = t.text ≡ name_text t.kind t.text

as_mark : (t : Mark) (k : Kind) → Clean t → t.kind ≡ k → t ≡ record { place = t.place; kind = k; text = name_text k t.text }
as_mark t k c e = ap (λ (x : List ℕ). record { place = t.place; kind = t.kind; text = x }) c ∙ ap (λ (j : Kind). record { place = t.place; kind = j; text = name_text j t.text }) e

row_split : (r x : List Item) (ts : List Mark) → OfRow (r ++ x) ts → (a : List Mark) × (b : List Mark) × (ts ≡ a ++ b) × OfRow r a × OfRow x b
row_split [] x ts d = ([], ts, refl, refl, d)
row_split (i ∷ r) x ts d =
    let f = row_split r x d.1 d.4 in
    (d.0 ++ f.0, f.1, d.2 ∙ ap (λ (y : List Mark). d.0 ++ y) f.2 ∙ sym (append_assoc d.0 f.0 f.1), (d.0, f.0, refl, d.3, f.3), f.4)

row1 : (i : Item) (ts : List Mark) → OfRow (i ∷ []) ts → Of i ts
row1 i ts d = subst (Of i) (sym (d.2 ∙ ap (λ (y : List Mark). d.0 ++ y) d.4 ∙ append-nil d.0)) d.3

row2 : (i j : Item) (ts : List Mark) → OfRow (i ∷ j ∷ []) ts → (a : List Mark) × (b : List Mark) × (ts ≡ a ++ b) × Of i a × Of j b
row2 i j ts d = (d.0, d.1, d.2, d.3, row1 j d.1 d.4)

row3 : (i j k : Item) (ts : List Mark) → OfRow (i ∷ j ∷ k ∷ []) ts → (a : List Mark) × (b : List Mark) × (c : List Mark) × (ts ≡ a ++ (b ++ c)) × Of i a × Of j b × Of k c
row3 i j k ts d = let f = row2 j k d.1 d.4 in (d.0, f.0, f.1, d.2 ∙ ap (λ (y : List Mark). d.0 ++ y) f.2, d.3, f.3, f.4)

row4 : (i j k m : Item) (ts : List Mark) → OfRow (i ∷ j ∷ k ∷ m ∷ []) ts → (a : List Mark) × (b : List Mark) × (c : List Mark) × (e : List Mark) × (ts ≡ a ++ (b ++ (c ++ e))) × Of i a × Of j b × Of k c × Of m e
row4 i j k m ts d = let f = row3 j k m d.1 d.4 in (d.0, f.0, f.1, f.2, d.2 ∙ ap (λ (y : List Mark). d.0 ++ y) f.3, d.3, f.4, f.5, f.6)

-- where it is known which token begins, and which row follows
with_row : (b : Bool) (r row : List Item) (ts : List Mark) → when b r ≡ Some row → OfRow row ts → (b ≡ true) × OfRow r ts
with_row true r row ts e d = let f : r ≡ row = cc in (refl, subst (λ (x : List Item). OfRow x ts) (sym f) d)
with_row false r row ts e d = absurd (cc)

on_sign : (f : Fixed) (t : Mark) (r row : List Item) (ts : List Mark) → Clean t → when (is_fixed f t.kind) r ≡ Some row → OfRow row ts → (t ≡ sign f t.place) × OfRow r ts
on_sign f t r row ts c e d = let w = with_row (is_fixed f t.kind) r row ts e d in (as_mark t (kind.Fixed f) c (kind_fixed f t.kind w.0), w.1)

-- the row itself
same_row : (r row : List Item) (ts : List Mark) → Some r ≡ Some row → OfRow row ts → OfRow r ts
same_row r row ts e d = let f : r ≡ row = cc in subst (λ (x : List Item). OfRow x ts) (sym f) d

-- a row with more after it
more_row : (o : Option (List Item)) (x row : List Item) (ts : List Mark) → then_row o x ≡ Some row → OfRow row ts → (r : List Item) × (a : List Mark) × (b : List Mark) × (o ≡ Some r) × (ts ≡ a ++ b) × OfRow r a × OfRow x b
more_row None x row ts e d = absurd (cc)
more_row (Some r) x row ts e d = let f = row_split r x ts (same_row (r ++ x) row ts e d) in (r, f.0, f.1, refl, f.2, f.3, f.4)

-- operands

abbrev WayOf : ℕ → List Mark → Type 0
WayOf k ts = (w : Way) × IsAt k w × (ts ≡ tokens w)

from_begin : (t : Mark) (b : Begin) (row : List Item) (ts : List Mark) → Clean t → begin_of t.kind ≡ b → begin_row b ≡ Some row → OfRow row ts → WayOf zero (t ∷ ts)
from_begin t (begin.Number w) row ts c e r d =
    let k = as_mark t (kind.Number w) c (begin_number t.kind w e) in let f = same_row [] row ts r d in
    (a_number t.place w, tt, ap (λ (x : Mark). x ∷ ts) k ∙ ap (λ (x : List Mark). number_mark t.place w ∷ x) f)
from_begin t begin.Name row ts c e r d =
    let k = as_mark t kind.Name c (begin_name t.kind e) in
    let f = row1 item.name_rest ts (same_row (item.name_rest ∷ []) row ts r d) t.place t.text in
    (f.0, f.1, ap (λ (x : Mark). x ∷ ts) k ∙ f.2)
from_begin t begin.Paren row ts c e r d =
    let k = as_mark t (kind.Fixed fixed.OpenParen) c (begin_paren t.kind e) in
    let f = row2 (item.level top) (item.close fixed.CloseParen) ts (same_row item.paren_row row ts r d) in
    (in_parens t.place f.3.0 f.4.0, f.3.1, ap (λ (x : Mark). x ∷ ts) k ∙ ap (λ (x : List Mark). sign fixed.OpenParen t.place ∷ x) (f.2 ∙ ap (λ (x : List Mark). x ++ f.1) f.3.2 ∙ ap (λ (x : List Mark). tokens f.3.0 ++ x) f.4.1))
from_begin t begin.Other row ts c e r d = absurd (cc)

-- an operator that makes a node
from_node : (o : UnOp) (t : Mark) (ts : List Mark) → Clean t → t.kind ≡ un_kind o → ((x : ℕ) (w : ℕ) → o ≡ un.Neg → ts ≡ number_mark x w ∷ [] → ⊥) → OfRow (item.level 0 ∷ item.ended ∷ []) ts → WayOf zero (t ∷ ts)
from_node o t ts c k never d =
    let f = row2 (item.level 0) item.ended ts d in
    let all : ts ≡ tokens f.3.0 = f.2 ∙ ap (λ (x : List Mark). f.0 ++ x) f.4 ∙ append-nil f.0 ∙ f.3.2 in
    (operated t.place o f.3.0, (makes o f.3.0 (λ x w e g. never x w e (all ∙ g)), f.3.1), ap (λ (x : Mark). x ∷ ts) (unary o t c k) ∙ ap (λ (x : List Mark). un_mark o t.place ∷ x) all)
  where
    unary : (o : UnOp) (t : Mark) → Clean t → t.kind ≡ un_kind o → t ≡ un_mark o t.place
    unary un.Neg t c k = as_mark t (kind.Operator bin.Sub) c k
    unary un.Inv t c k = as_mark t kind.Inv c k
    unary un.Not t c k = as_mark t kind.Not c k

    makes : (o : UnOp) (w : Way) → ((x : ℕ) (v : ℕ) → o ≡ un.Neg → tokens w ≡ number_mark x v ∷ [] → ⊥) → MakesNode o w
    makes un.Neg (a_number x v) never = never x v refl refl
    makes un.Neg (a_negated x y v) never = tt
    makes un.Neg (a_word x n) never = tt
    makes un.Neg (a_field x n y z g) never = tt
    makes un.Neg (an_index x n y v z) never = tt
    makes un.Neg (a_call x n y v z) never = tt
    makes un.Neg (in_parens x v y) never = tt
    makes un.Neg (operated x o v) never = tt
    makes un.Neg (level_of v m) never = tt
    makes un.Inv w never = tt
    makes un.Not w never = tt

-- a number after the token is told by n
abbrev Tells : Bool → List Mark → Type 0
Tells n ts = (x w : ℕ) (y : List Mark) → ts ≡ number_mark x w ∷ y → n ≡ true

from_zero : (t : Mark) (n : Bool) (row : List Item) (ts : List Mark) → Clean t → Tells n ts → (o : Option UnOp) → unary_of t.kind ≡ o → item.operand_row n o (begin_of t.kind) ≡ Some row → OfRow row ts → WayOf zero (t ∷ ts)
from_zero t n row ts c h None e r d = from_begin t (begin_of t.kind) row ts c refl r d
from_zero t n row ts c h (Some un.Inv) e r d = from_node un.Inv t ts c (kind_unary t.kind un.Inv e) (λ x w f g. absurd (cc)) (same_row (item.level 0 ∷ item.ended ∷ []) row ts r d)
from_zero t n row ts c h (Some un.Not) e r d = from_node un.Not t ts c (kind_unary t.kind un.Not e) (λ x w f g. absurd (cc)) (same_row (item.level 0 ∷ item.ended ∷ []) row ts r d)
from_zero t true row ts c h (Some un.Neg) e r d =
    let f = row1 item.a_number ts (same_row (item.a_number ∷ []) row ts r d) in
    (a_negated t.place f.0 f.1, tt, ap (λ (x : Mark). x ∷ ts) (as_mark t (kind.Operator bin.Sub) c (kind_unary t.kind un.Neg e)) ∙ ap (λ (x : List Mark). bin_mark bin.Sub t.place ∷ x) f.2)
from_zero t false row ts c h (Some un.Neg) e r d = from_node un.Neg t ts c (kind_unary t.kind un.Neg e) (λ x w f g. absurd (let k = h x w [] g in cc)) (same_row (item.level 0 ∷ item.ended ∷ []) row ts r d)

from_level : (j : ℕ) (t : Mark) (n : Bool) (row : List Item) (ts : List Mark) → Clean t → Tells n ts → item.level_row j t.kind n ≡ Some row → OfRow row ts → WayOf j (t ∷ ts)
from_level zero t n row ts c h r d = from_zero t n row ts c h (unary_of t.kind) refl r d
from_level (suc j) t n row ts c h r d =
    let f = more_row (item.level_row j t.kind n) (item.more j ∷ []) row ts r d in
    let g = from_level j t n f.0 f.1 c (λ x w y e. h x w (y ++ f.2) (f.4 ∙ ap (λ (z : List Mark). z ++ f.2) e)) f.3 f.5 in
    let m = row1 (item.more j) f.2 f.6 in
    (level_of g.0 m.0, (g.1, m.1), ap (λ (x : List Mark). t ∷ x) f.4 ∙ ap (λ (x : List Mark). x ++ f.2) g.2 ∙ ap (λ (x : List Mark). tokens g.0 ++ x) m.2)

-- what follows the first part of a level
from_question : (j : ℕ) (t : Mark) (row : List Item) (ts : List Mark) → Clean t → j ≡ 10 → when (is_fixed fixed.Question t.kind) item.choice_row ≡ Some row → OfRow row ts → (m : More) × IsAfter j m × (t ∷ ts ≡ more_tokens m)
from_question j t row ts c q r d =
    let s = on_sign fixed.Question t item.choice_row row ts c r d in
    let f = row4 (item.level top) (item.term fixed.Colon) (item.level top) item.ended ts s.1 in
    (if_so t.place f.5.0 f.6.0 f.7.0, (q, f.5.1, f.7.1), ap (λ (x : Mark). x ∷ ts) s.0 ∙ ap (λ (x : List Mark). sign fixed.Question t.place ∷ x) (f.4 ∙ ap (λ (x : List Mark). x ++ (f.1 ++ (f.2 ++ f.3))) f.5.2 ∙ ap (λ (x : List Mark). tokens f.5.0 ++ (x ++ (f.2 ++ f.3))) f.6.1 ∙ ap (λ (x : List Mark). tokens f.5.0 ++ (sign fixed.Colon f.6.0 ∷ (f.2 ++ x))) f.8 ∙ ap (λ (x : List Mark). tokens f.5.0 ++ (sign fixed.Colon f.6.0 ∷ x)) (append-nil f.2 ∙ f.7.2)))

from_operator : (j : ℕ) (t : Mark) (o : Option BinOp) (row : List Item) (ts : List Mark) → Clean t → operator_of (suc j) t.kind ≡ o → item.operator_row j o ≡ Some row → OfRow row ts → (m : More) × IsAfter j m × (t ∷ ts ≡ more_tokens m)
from_operator j t None row ts c e r d = absurd (cc)
from_operator j t (Some o) row ts c e r d =
    let k = kind_operator (suc j) t.kind o e in
    let f = row2 (item.level j) (item.more j) ts (same_row (item.level j ∷ item.more j ∷ []) row ts r d) in
    (and_then o t.place f.3.0 f.4.0, (k.1, f.3.1, f.4.1), ap (λ (x : Mark). x ∷ ts) (as_mark t (kind.Operator o) c k.0) ∙ ap (λ (x : List Mark). bin_mark o t.place ∷ x) (f.2 ∙ ap (λ (x : List Mark). x ++ f.1) f.3.2 ∙ ap (λ (x : List Mark). tokens f.3.0 ++ x) f.4.2))

from_more : (j : ℕ) (t : Mark) (b : Bool) (row : List Item) (ts : List Mark) → Clean t → nat_eq j 10 ≡ b → (if b then when (is_fixed fixed.Question t.kind) item.choice_row else item.operator_row j (operator_of (suc j) t.kind)) ≡ Some row → OfRow row ts → (m : More) × IsAfter j m × (t ∷ ts ≡ more_tokens m)
from_more j t true row ts c e r d = from_question j t row ts c (eqb-true j 10 e) r d
from_more j t false row ts c e r d = from_operator j t (operator_of (suc j) t.kind) row ts c refl r d

from_suffix : (t : Mark) (s : Suffix) (row : List Item) (ts : List Mark) → Clean t → item.suffix_of t.kind ≡ s → item.suffix_row s ≡ Some row → OfRow row ts → (x : ℕ) (n : List ℕ) → WayOf zero (name_mark x n ∷ t ∷ ts)
from_suffix t suffix.Dot row ts c e r d x n =
    let f = row1 item.a_name ts (same_row (item.a_name ∷ []) row ts r d) in
    (a_field x n t.place f.0 f.1, tt, ap (λ (y : Mark). name_mark x n ∷ y ∷ ts) (as_mark t (kind.Fixed fixed.Dot) c (suffix_dot t.kind e)) ∙ ap (λ (y : List Mark). name_mark x n ∷ sign fixed.Dot t.place ∷ y) f.2)
from_suffix t suffix.Bracket row ts c e r d x n =
    let f = row2 (item.level top) (item.close fixed.CloseBracket) ts (same_row item.bracket_row row ts r d) in
    (an_index x n t.place f.3.0 f.4.0, f.3.1, ap (λ (y : Mark). name_mark x n ∷ y ∷ ts) (as_mark t (kind.Fixed fixed.OpenBracket) c (suffix_bracket t.kind e)) ∙ ap (λ (y : List Mark). name_mark x n ∷ sign fixed.OpenBracket t.place ∷ y) (f.2 ∙ ap (λ (y : List Mark). y ++ f.1) f.3.2 ∙ ap (λ (y : List Mark). tokens f.3.0 ++ y) f.4.1))
from_suffix t suffix.Paren row ts c e r d x n =
    let f = row1 item.args ts (same_row (item.args ∷ []) row ts r d) in
    (a_call x n t.place f.0 f.1, f.2, ap (λ (y : Mark). name_mark x n ∷ y ∷ ts) (as_mark t (kind.Fixed fixed.OpenParen) c (suffix_paren t.kind e)) ∙ ap (λ (y : List Mark). name_mark x n ∷ sign fixed.OpenParen t.place ∷ y) f.3)
from_suffix t suffix.Other row ts c e r d x n = absurd (cc)

from_args : (t : Mark) (n : Bool) (b : Bool) (row : List Item) (ts : List Mark) → Clean t → Tells n ts → is_fixed fixed.CloseParen t.kind ≡ b → (if b then Some (item.ended ∷ []) else then_row (item.level_row top t.kind n) item.args_row) ≡ Some row → OfRow row ts → Of item.args (t ∷ ts)
from_args t n true row ts c h e r d =
    let f = row1 item.ended ts (same_row (item.ended ∷ []) row ts r d) in
    (no_args, t.place, tt, ap (λ (y : Mark). y ∷ ts) (as_mark t (kind.Fixed fixed.CloseParen) c (kind_fixed fixed.CloseParen t.kind e)) ∙ ap (λ (y : List Mark). sign fixed.CloseParen t.place ∷ y) f)
from_args t n false row ts c h e r d =
    let f = more_row (item.level_row top t.kind n) item.args_row row ts r d in
    let g = from_level top t n f.0 f.1 c (λ x w y e. h x w (y ++ f.2) (f.4 ∙ ap (λ (z : List Mark). z ++ f.2) e)) f.3 f.5 in
    let k = row2 item.more_args (item.close fixed.CloseParen) f.2 f.6 in
    (some_args g.0 k.3.0, k.4.0, (g.1, k.3.1), ap (λ (y : List Mark). t ∷ y) f.4 ∙ ap (λ (y : List Mark). y ++ f.2) g.2 ∙ ap (λ (y : List Mark). tokens g.0 ++ y) (k.2 ∙ ap (λ (y : List Mark). y ++ k.1) k.3.2 ∙ ap (λ (y : List Mark). more_arg_tokens k.3.0 ++ y) k.4.1) ∙ sym (append_assoc (tokens g.0) (more_arg_tokens k.3.0) (sign fixed.CloseParen k.4.0 ∷ [])))

from_comma : (t : Mark) (row : List Item) (ts : List Mark) → Clean t → when (is_fixed fixed.Comma t.kind) (item.level top ∷ item.more_args ∷ []) ≡ Some row → OfRow row ts → Of item.more_args (t ∷ ts)
from_comma t row ts c r d =
    let s = on_sign fixed.Comma t (item.level top ∷ item.more_args ∷ []) row ts c r d in
    let f = row2 (item.level top) item.more_args ts s.1 in
    (next_arg t.place f.3.0 f.4.0, (f.3.1, f.4.1), ap (λ (y : Mark). y ∷ ts) s.0 ∙ ap (λ (y : List Mark). sign fixed.Comma t.place ∷ y) (f.2 ∙ ap (λ (y : List Mark). y ++ f.1) f.3.2 ∙ ap (λ (y : List Mark). tokens f.3.0 ++ y) f.4.2))

-- statements

from_target : (t : Mark) (s : Suffix) (row : List Item) (ts : List Mark) → Clean t → item.suffix_of t.kind ≡ s → item.target_row s ≡ Some row → OfRow row ts → Of item.target_rest (t ∷ ts)
from_target t suffix.Dot row ts c e r d = λ x n.
    let f = row1 item.a_name ts (same_row (item.a_name ∷ []) row ts r d) in
    (target_field x n t.place f.0 f.1, tt, ap (λ (y : Mark). name_mark x n ∷ y ∷ ts) (as_mark t (kind.Fixed fixed.Dot) c (suffix_dot t.kind e)) ∙ ap (λ (y : List Mark). name_mark x n ∷ sign fixed.Dot t.place ∷ y) f.2)
from_target t suffix.Bracket row ts c e r d = λ x n.
    let f = row2 (item.level top) (item.close fixed.CloseBracket) ts (same_row item.bracket_row row ts r d) in
    (target_index x n t.place f.3.0 f.4.0, f.3.1, ap (λ (y : Mark). name_mark x n ∷ y ∷ ts) (as_mark t (kind.Fixed fixed.OpenBracket) c (suffix_bracket t.kind e)) ∙ ap (λ (y : List Mark). name_mark x n ∷ sign fixed.OpenBracket t.place ∷ y) (f.2 ∙ ap (λ (y : List Mark). y ++ f.1) f.3.2 ∙ ap (λ (y : List Mark). tokens f.3.0 ++ y) f.4.1))
from_target t suffix.Paren row ts c e r d = absurd (cc)
from_target t suffix.Other row ts c e r d = absurd (cc)

assign_of : (t : Mark) (ts : List Mark) → Clean t → t.kind ≡ kind.Name → OfRow item.assign_row ts → Of item.assignment (t ∷ ts)
assign_of t ts c k d =
    let f = row4 item.target_rest (item.term fixed.Assign) (item.level top) (item.term fixed.Semi) ts d in
    let g = f.5 t.place t.text in
    (assigned g.0 f.6.0 f.7.0 f.8.0, (g.1, f.7.1), ap (λ (y : Mark). y ∷ ts) (as_mark t kind.Name c k) ∙ ap (λ (y : List Mark). name_mark t.place t.text ∷ y) f.4 ∙ ap (λ (y : List Mark). y ++ (f.1 ++ (f.2 ++ f.3))) g.2 ∙ ap (λ (y : List Mark). target_tokens g.0 ++ (y ++ (f.2 ++ f.3))) f.6.1 ∙ ap (λ (y : List Mark). target_tokens g.0 ++ sign fixed.Assign f.6.0 ∷ (y ++ f.3)) f.7.2 ∙ ap (λ (y : List Mark). target_tokens g.0 ++ sign fixed.Assign f.6.0 ∷ (tokens f.7.0 ++ y)) f.8.1)

if_of : (t : Mark) (ts : List Mark) → Clean t → t.kind ≡ kind.Fixed fixed.If → OfRow item.if_row ts → Of item.stmt (t ∷ ts)
if_of t ts c k d =
    let f = row4 item.condition item.body item.else_part item.ended ts d in
    let a = f.5 in let b = f.6 in let e = f.7 in
    let tail : f.1 ++ (f.2 ++ f.3) ≡ body_tokens b.0 ++ else_tokens e.0 = ap (λ (y : List Mark). y ++ (f.2 ++ f.3)) b.2 ∙ ap (λ (y : List Mark). body_tokens b.0 ++ (f.2 ++ y)) f.8 ∙ ap (λ (y : List Mark). body_tokens b.0 ++ y) (append-nil f.2 ∙ e.2) in
    (an_if (record { if_at = t.place; open_at = a.0; close_at = a.2 }) a.1 b.0 e.0, (a.3, b.1, e.1), ap (λ (y : Mark). y ∷ ts) (as_mark t (kind.Fixed fixed.If) c k) ∙ ap (λ (y : List Mark). sign fixed.If t.place ∷ y) (f.4 ∙ ap (λ (y : List Mark). y ++ (f.1 ++ (f.2 ++ f.3))) a.4 ∙ ap (λ (y : List Mark). (sign fixed.OpenParen a.0 ∷ (tokens a.1 ++ sign fixed.CloseParen a.2 ∷ [])) ++ y) tail ∙ ap (λ (y : List Mark). sign fixed.OpenParen a.0 ∷ y) (append_assoc (tokens a.1) (sign fixed.CloseParen a.2 ∷ []) (body_tokens b.0 ++ else_tokens e.0))))

block_of : (t : Mark) (ts : List Mark) → Clean t → t.kind ≡ kind.Fixed fixed.OpenBrace → OfRow item.block_row ts → Of item.block (t ∷ ts)
block_of t ts c k d =
    let f = row2 item.stmts (item.close fixed.CloseBrace) ts d in
    (t.place, f.3.0, f.4.0, f.3.1, ap (λ (y : Mark). y ∷ ts) (as_mark t (kind.Fixed fixed.OpenBrace) c k) ∙ ap (λ (y : List Mark). sign fixed.OpenBrace t.place ∷ y) (f.2 ∙ ap (λ (y : List Mark). y ++ f.1) f.3.2 ∙ ap (λ (y : List Mark). stmts_tokens f.3.0 ++ y) f.4.1))

from_stmt : (t : Mark) (a : Lead) (row : List Item) (ts : List Mark) → Clean t → item.lead_of t.kind ≡ a → item.stmt_row a ≡ Some row → OfRow row ts → Of item.stmt (t ∷ ts)
from_stmt t lead.Block row ts c e r d = absurd (cc)
from_stmt t lead.Assign row ts c e r d = let f = assign_of t ts c (lead_assign t.kind e) (same_row item.assign_row row ts r d) in (an_assign f.0, f.1, f.2)
from_stmt t lead.If row ts c e r d = if_of t ts c (lead_if t.kind e) (same_row item.if_row row ts r d)
from_stmt t lead.Other row ts c e r d = absurd (cc)

from_stmts : (t : Mark) (row : List Item) (ts : List Mark) → Clean t → then_row (item.stmt_row (item.lead_of t.kind)) (item.stmts ∷ []) ≡ Some row → OfRow row ts → Of item.stmts (t ∷ ts)
from_stmts t row ts c r d =
    let f = more_row (item.stmt_row (item.lead_of t.kind)) (item.stmts ∷ []) row ts r d in
    let g = from_stmt t (item.lead_of t.kind) f.0 f.1 c refl f.3 f.5 in
    let k = row1 item.stmts f.2 f.6 in
    (then_stmt g.0 k.0, (g.1, k.1), ap (λ (y : List Mark). t ∷ y) f.4 ∙ ap (λ (y : List Mark). y ++ f.2) g.2 ∙ ap (λ (y : List Mark). stmt_tokens g.0 ++ y) k.2)

from_body : (t : Mark) (a : Lead) (row : List Item) (ts : List Mark) → Clean t → item.lead_of t.kind ≡ a → item.body_row a ≡ Some row → OfRow row ts → Of item.body (t ∷ ts)
from_body t lead.Block row ts c e r d = let f = block_of t ts c (lead_block t.kind e) (same_row item.block_row row ts r d) in (body_block f.0 f.1 f.2, f.3, f.4)
from_body t lead.Assign row ts c e r d = let f = assign_of t ts c (lead_assign t.kind e) (same_row item.assign_row row ts r d) in (body_assign f.0, f.1, f.2)
from_body t lead.If row ts c e r d = absurd (cc)
from_body t lead.Other row ts c e r d = absurd (cc)

from_else : (t : Mark) (a : Lead) (row : List Item) (ts : List Mark) → Clean t → item.lead_of t.kind ≡ a → item.else_row a ≡ Some row → OfRow row ts → Of item.else_rest (t ∷ ts)
from_else t lead.Block row ts c e r d = λ x. let f = block_of t ts c (lead_block t.kind e) (same_row item.block_row row ts r d) in (else_block x f.0 f.1 f.2, f.3, ap (λ (y : List Mark). sign fixed.Else x ∷ y) f.4)
from_else t lead.Assign row ts c e r d = λ x. let f = assign_of t ts c (lead_assign t.kind e) (same_row item.assign_row row ts r d) in (else_stmt x (an_assign f.0), f.1, ap (λ (y : List Mark). sign fixed.Else x ∷ y) f.2)
from_else t lead.If row ts c e r d = λ x. let f = if_of t ts c (lead_if t.kind e) (same_row item.if_row row ts r d) in (else_stmt x f.0, f.1, ap (λ (y : List Mark). sign fixed.Else x ∷ y) f.2)
from_else t lead.Other row ts c e r d = absurd (cc)

from_else_part : (t : Mark) (row : List Item) (ts : List Mark) → Clean t → when (is_fixed fixed.Else t.kind) (item.else_rest ∷ []) ≡ Some row → OfRow row ts → Of item.else_part (t ∷ ts)
from_else_part t row ts c r d =
    let s = on_sign fixed.Else t (item.else_rest ∷ []) row ts c r d in
    let f = row1 item.else_rest ts s.1 t.place in
    (f.0, f.1, ap (λ (y : Mark). y ∷ ts) s.0 ∙ f.2)

from_condition : (t : Mark) (row : List Item) (ts : List Mark) → Clean t → when (is_fixed fixed.OpenParen t.kind) item.paren_row ≡ Some row → OfRow row ts → Of item.condition (t ∷ ts)
from_condition t row ts c r d =
    let s = on_sign fixed.OpenParen t item.paren_row row ts c r d in
    let f = row2 (item.level top) (item.close fixed.CloseParen) ts s.1 in
    (t.place, f.3.0, f.4.0, f.3.1, ap (λ (y : Mark). y ∷ ts) s.0 ∙ ap (λ (y : List Mark). sign fixed.OpenParen t.place ∷ y) (f.2 ∙ ap (λ (y : List Mark). y ++ f.1) f.3.2 ∙ ap (λ (y : List Mark). tokens f.3.0 ++ y) f.4.1))

-- heads

from_number : (t : Mark) (o : Option ℕ) (b : Bool) (row : List Item) (ts : List Mark) → Clean t → number_of t.kind ≡ o → is_minus t.kind ≡ b → item.constant_row o b ≡ Some row → OfRow row ts → Of item.constant (t ∷ ts)
from_number t (Some w) b row ts c e m r d =
    let f = same_row [] row ts r d in
    (plain t.place w, ap (λ (x : Mark). x ∷ ts) (as_mark t (kind.Number w) c (kind_number t.kind w e)) ∙ ap (λ (x : List Mark). number_mark t.place w ∷ x) f)
from_number t None b row ts c e m r d =
    let s = with_row b (item.a_number ∷ []) row ts r d in
    let f = row1 item.a_number ts s.1 in
    (negative t.place f.0 f.1, ap (λ (x : Mark). x ∷ ts) (as_mark t (kind.Operator bin.Sub) c (kind_minus t.kind (m ∙ s.0))) ∙ ap (λ (x : List Mark). bin_mark bin.Sub t.place ∷ x) f.2)

from_value : (t : Mark) (b : Bool) (row : List Item) (ts : List Mark) → Clean t → is_name t.kind ≡ b → (if b then Some [] else item.constant_row (number_of t.kind) (is_minus t.kind)) ≡ Some row → OfRow row ts → Of item.value (t ∷ ts)
from_value t true row ts c e r d =
    let f = same_row [] row ts r d in
    (a_name t.place t.text, ap (λ (x : Mark). x ∷ ts) (as_mark t kind.Name c (kind_name t.kind e)) ∙ ap (λ (x : List Mark). name_mark t.place t.text ∷ x) f)
from_value t false row ts c e r d = let f = from_number t (number_of t.kind) (is_minus t.kind) row ts c refl refl r d in (a_constant f.0, f.1)

from_start : (t : Mark) (b : Bool) (row : List Item) (ts : List Mark) → Clean t → is_fixed fixed.OpenBrace t.kind ≡ b → (if b then Some (item.value ∷ item.close fixed.CloseBrace ∷ []) else (if is_name t.kind then Some [] else item.constant_row (number_of t.kind) (is_minus t.kind))) ≡ Some row → OfRow row ts → Of item.start (t ∷ ts)
from_start t true row ts c e r d = λ x.
    let f = row2 item.value (item.close fixed.CloseBrace) ts (same_row (item.value ∷ item.close fixed.CloseBrace ∷ []) row ts r d) in
    (braced x t.place f.3.0 f.4.0, ap (λ (y : Mark). sign fixed.Assign x ∷ y ∷ ts) (as_mark t (kind.Fixed fixed.OpenBrace) c (kind_fixed fixed.OpenBrace t.kind e)) ∙ ap (λ (y : List Mark). sign fixed.Assign x ∷ sign fixed.OpenBrace t.place ∷ y) (f.2 ∙ ap (λ (y : List Mark). y ++ f.1) f.3.1 ∙ ap (λ (y : List Mark). value_tokens f.3.0 ++ y) f.4.1))
from_start t false row ts c e r d = λ x. let f = from_value t (is_name t.kind) row ts c refl r d in (bare x f.0, ap (λ (y : List Mark). sign fixed.Assign x ∷ y) f.1)

from_start_part : (t : Mark) (row : List Item) (ts : List Mark) → Clean t → when (is_fixed fixed.Assign t.kind) (item.start ∷ []) ≡ Some row → OfRow row ts → Of item.start_part (t ∷ ts)
from_start_part t row ts c r d =
    let s = on_sign fixed.Assign t (item.start ∷ []) row ts c r d in
    let f = row1 item.start ts s.1 t.place in (f.0, ap (λ (y : Mark). y ∷ ts) s.0 ∙ f.1)

from_digits : (t : Mark) (o : Option ℕ) (row : List Item) (ts : List Mark) → Clean t → number_of t.kind ≡ o → item.number_row o ≡ Some row → OfRow row ts → (w : ℕ) × (t ∷ ts ≡ number_mark t.place w ∷ [])
from_digits t None row ts c e r d = absurd (cc)
from_digits t (Some w) row ts c e r d = let f = same_row [] row ts r d in (w, ap (λ (x : Mark). x ∷ ts) (as_mark t (kind.Number w) c (kind_number t.kind w e)) ∙ ap (λ (x : List Mark). number_mark t.place w ∷ x) f)

from_size : (t : Mark) (b : Bool) (row : List Item) (ts : List Mark) → Clean t → is_name t.kind ≡ b → (if b then Some [] else item.number_row (number_of t.kind)) ≡ Some row → OfRow row ts → Of item.size (t ∷ ts)
from_size t true row ts c e r d = λ x y.
    let f = same_row [] row ts r d in
    (name_size x t.place t.text y, ap (λ (z : List Mark). sign fixed.OpenBracket x ∷ (z ++ sign fixed.CloseBracket y ∷ [])) (ap (λ (z : Mark). z ∷ ts) (as_mark t kind.Name c (kind_name t.kind e)) ∙ ap (λ (z : List Mark). name_mark t.place t.text ∷ z) f))
from_size t false row ts c e r d = λ x y.
    let f = from_digits t (number_of t.kind) row ts c refl r d in (number_size x t.place f.0 y, ap (λ (z : List Mark). sign fixed.OpenBracket x ∷ (z ++ sign fixed.CloseBracket y ∷ [])) f.1)

from_size_part : (t : Mark) (row : List Item) (ts : List Mark) → Clean t → when (is_fixed fixed.OpenBracket t.kind) (item.size ∷ item.close fixed.CloseBracket ∷ []) ≡ Some row → OfRow row ts → Of item.size_part (t ∷ ts)
from_size_part t row ts c r d =
    let s = on_sign fixed.OpenBracket t (item.size ∷ item.close fixed.CloseBracket ∷ []) row ts c r d in
    let f = row2 item.size (item.close fixed.CloseBracket) ts s.1 in
    let g = f.3 t.place f.4.0 in
    (g.0, ap (λ (y : Mark). y ∷ ts) s.0 ∙ ap (λ (y : List Mark). sign fixed.OpenBracket t.place ∷ y) (f.2 ∙ ap (λ (y : List Mark). f.0 ++ y) f.4.1) ∙ g.1)

from_decl : (t : Mark) (a : Declared) (row : List Item) (ts : List Mark) → Clean t → item.declared_of t.kind ≡ a → item.decl_row a ≡ Some row → OfRow row ts → Of item.decl (t ∷ ts)
from_decl t declared.Define row ts c e r d =
    let f = row3 (item.term fixed.Define) item.a_name item.constant ts (same_row (item.term fixed.Define ∷ item.a_name ∷ item.constant ∷ []) row ts r d) in
    (a_define t.place f.4.0 f.5.0 f.5.1 f.6.0, ap (λ (y : Mark). y ∷ ts) (as_mark t (kind.Fixed fixed.Hash) c (declared_define t.kind e)) ∙ ap (λ (y : List Mark). sign fixed.Hash t.place ∷ y) (f.3 ∙ ap (λ (y : List Mark). y ++ (f.1 ++ f.2)) f.4.1 ∙ ap (λ (y : List Mark). sign fixed.Define f.4.0 ∷ (y ++ f.2)) f.5.2 ∙ ap (λ (y : List Mark). sign fixed.Define f.4.0 ∷ name_mark f.5.0 f.5.1 ∷ y) f.6.1))
from_decl t declared.Global row ts c e r d =
    let f = row4 item.a_name item.size_part item.start_part (item.term fixed.Semi) ts (same_row (item.a_name ∷ item.size_part ∷ item.start_part ∷ item.term fixed.Semi ∷ []) row ts r d) in
    (a_global (record { int_at = t.place; name_at = f.5.0; name = f.5.1; semi_at = f.8.0 }) f.6.0 f.7.0, ap (λ (y : Mark). y ∷ ts) (as_mark t (kind.Fixed fixed.Int) c (declared_global t.kind e)) ∙ ap (λ (y : List Mark). sign fixed.Int t.place ∷ y) (f.4 ∙ ap (λ (y : List Mark). y ++ (f.1 ++ (f.2 ++ f.3))) f.5.2 ∙ ap (λ (y : List Mark). name_mark f.5.0 f.5.1 ∷ (y ++ (f.2 ++ f.3))) f.6.1 ∙ ap (λ (y : List Mark). name_mark f.5.0 f.5.1 ∷ (size_tokens f.6.0 ++ (y ++ f.3))) f.7.1 ∙ ap (λ (y : List Mark). name_mark f.5.0 f.5.1 ∷ (size_tokens f.6.0 ++ (start_tokens f.7.0 ++ y))) f.8.1))
from_decl t declared.Other row ts c e r d = absurd (cc)

from_decls : (t : Mark) (row : List Item) (ts : List Mark) → Clean t → then_row (item.decl_row (item.declared_of t.kind)) (item.decls ∷ []) ≡ Some row → OfRow row ts → Of item.decls (t ∷ ts)
from_decls t row ts c r d =
    let f = more_row (item.decl_row (item.declared_of t.kind)) (item.decls ∷ []) row ts r d in
    let g = from_decl t (item.declared_of t.kind) f.0 f.1 c refl f.3 f.5 in
    let k = row1 item.decls f.2 f.6 in
    (then_decl g.0 k.0, ap (λ (y : List Mark). t ∷ y) f.4 ∙ ap (λ (y : List Mark). y ++ f.2) g.1 ∙ ap (λ (y : List Mark). decl_tokens g.0 ++ y) k.1)

from_fields : (t : Mark) (row : List Item) (ts : List Mark) → Clean t → when (is_fixed fixed.Int t.kind) (item.a_name ∷ item.term fixed.Semi ∷ item.fields ∷ []) ≡ Some row → OfRow row ts → Of item.fields (t ∷ ts)
from_fields t row ts c r d =
    let s = on_sign fixed.Int t (item.a_name ∷ item.term fixed.Semi ∷ item.fields ∷ []) row ts c r d in
    let f = row3 item.a_name (item.term fixed.Semi) item.fields ts s.1 in
    (record { int_at = t.place; name_at = f.4.0; name = f.4.1; semi_at = f.5.0 } ∷ f.6.0, ap (λ (y : Mark). y ∷ ts) s.0 ∙ ap (λ (y : List Mark). sign fixed.Int t.place ∷ y) (f.3 ∙ ap (λ (y : List Mark). y ++ (f.1 ++ f.2)) f.4.2 ∙ ap (λ (y : List Mark). name_mark f.4.0 f.4.1 ∷ (y ++ f.2)) f.5.1 ∙ ap (λ (y : List Mark). name_mark f.4.0 f.4.1 ∷ sign fixed.Semi f.5.0 ∷ y) f.6.1))

from_field_block : (t : Mark) (row : List Item) (ts : List Mark) → Clean t → when (is_fixed fixed.OpenBrace t.kind) (item.term fixed.Int ∷ item.a_name ∷ item.term fixed.Semi ∷ item.fields ∷ item.close fixed.CloseBrace ∷ []) ≡ Some row → OfRow row ts → Of item.field_block (t ∷ ts)
from_field_block t row ts c r d =
    let s = on_sign fixed.OpenBrace t (item.term fixed.Int ∷ item.a_name ∷ item.term fixed.Semi ∷ item.fields ∷ item.close fixed.CloseBrace ∷ []) row ts c r d in
    let g = s.1 in
    let i = g.3 in
    let f = row4 item.a_name (item.term fixed.Semi) item.fields (item.close fixed.CloseBrace) g.1 g.4 in
    (t.place, record { int_at = i.0; name_at = f.5.0; name = f.5.1; semi_at = f.6.0 }, f.7.0, f.8.0, ap (λ (y : Mark). y ∷ ts) s.0 ∙ ap (λ (y : List Mark). sign fixed.OpenBrace t.place ∷ y) (g.2 ∙ ap (λ (y : List Mark). y ++ g.1) i.1 ∙ ap (λ (y : List Mark). sign fixed.Int i.0 ∷ y) (f.4 ∙ ap (λ (y : List Mark). y ++ (f.1 ++ (f.2 ++ f.3))) f.5.2 ∙ ap (λ (y : List Mark). name_mark f.5.0 f.5.1 ∷ (y ++ (f.2 ++ f.3))) f.6.1 ∙ ap (λ (y : List Mark). name_mark f.5.0 f.5.1 ∷ sign fixed.Semi f.6.0 ∷ (y ++ f.3)) f.7.1 ∙ ap (λ (y : List Mark). name_mark f.5.0 f.5.1 ∷ sign fixed.Semi f.6.0 ∷ (fields_tokens f.7.0 ++ y)) f.8.1)))

from_structure : (t : Mark) (row : List Item) (ts : List Mark) → Clean t → when (is_fixed fixed.Struct t.kind) (item.a_name ∷ item.field_block ∷ item.term fixed.Semi ∷ []) ≡ Some row → OfRow row ts → Of item.structure (t ∷ ts)
from_structure t row ts c r d =
    let s = on_sign fixed.Struct t (item.a_name ∷ item.field_block ∷ item.term fixed.Semi ∷ []) row ts c r d in
    let f = row3 item.a_name item.field_block (item.term fixed.Semi) ts s.1 in
    let b = f.5 in
    (record { struct_at = t.place; tag_at = f.4.0; tag = f.4.1; open_at = b.0; first = b.1; others = b.2; close_at = b.3; semi_at = f.6.0 }, ap (λ (y : Mark). y ∷ ts) s.0 ∙ ap (λ (y : List Mark). sign fixed.Struct t.place ∷ y) (f.3 ∙ ap (λ (y : List Mark). y ++ (f.1 ++ f.2)) f.4.2 ∙ ap (λ (y : List Mark). name_mark f.4.0 f.4.1 ∷ (y ++ f.2)) b.4 ∙ ap (λ (y : List Mark). name_mark f.4.0 f.4.1 ∷ ((sign fixed.OpenBrace b.0 ∷ sign fixed.Int b.1.int_at ∷ name_mark b.1.name_at b.1.name ∷ sign fixed.Semi b.1.semi_at ∷ (fields_tokens b.2 ++ sign fixed.CloseBrace b.3 ∷ [])) ++ y)) f.6.1 ∙ ap (λ (y : List Mark). name_mark f.4.0 f.4.1 ∷ sign fixed.OpenBrace b.0 ∷ sign fixed.Int b.1.int_at ∷ name_mark b.1.name_at b.1.name ∷ sign fixed.Semi b.1.semi_at ∷ y) (append_assoc (fields_tokens b.2) (sign fixed.CloseBrace b.3 ∷ []) (sign fixed.Semi f.6.0 ∷ []))))

from_header : (t : Mark) (row : List Item) (ts : List Mark) → Clean t → when (is_fixed fixed.OpenParen t.kind) (item.term fixed.Struct ∷ item.a_name ∷ item.a_name ∷ item.close fixed.CloseParen ∷ []) ≡ Some row → OfRow row ts → Of item.header (t ∷ ts)
from_header t row ts c r d =
    let s = on_sign fixed.OpenParen t (item.term fixed.Struct ∷ item.a_name ∷ item.a_name ∷ item.close fixed.CloseParen ∷ []) row ts c r d in
    let f = row4 (item.term fixed.Struct) item.a_name item.a_name (item.close fixed.CloseParen) ts s.1 in
    (t.place, f.5.0, f.6.0, f.6.1, f.7.0, f.7.1, f.8.0, ap (λ (y : Mark). y ∷ ts) s.0 ∙ ap (λ (y : List Mark). sign fixed.OpenParen t.place ∷ y) (f.4 ∙ ap (λ (y : List Mark). y ++ (f.1 ++ (f.2 ++ f.3))) f.5.1 ∙ ap (λ (y : List Mark). sign fixed.Struct f.5.0 ∷ (y ++ (f.2 ++ f.3))) f.6.2 ∙ ap (λ (y : List Mark). sign fixed.Struct f.5.0 ∷ name_mark f.6.0 f.6.1 ∷ (y ++ f.3)) f.7.2 ∙ ap (λ (y : List Mark). sign fixed.Struct f.5.0 ∷ name_mark f.6.0 f.6.1 ∷ name_mark f.7.0 f.7.1 ∷ y) f.8.1))

from_guard : (t : Mark) (row : List Item) (ts : List Mark) → Clean t → when (is_fixed fixed.If t.kind) (item.condition ∷ []) ≡ Some row → OfRow row ts → Of item.guard (t ∷ ts)
from_guard t row ts c r d =
    let s = on_sign fixed.If t (item.condition ∷ []) row ts c r d in
    let f = row1 item.condition ts s.1 in
    (a_guard t.place f.0 f.1 f.2, f.3, ap (λ (y : Mark). y ∷ ts) s.0 ∙ ap (λ (y : List Mark). sign fixed.If t.place ∷ y) f.4)

-- a transaction after its `void`
described : (x : ℕ) (ts : List Mark) → OfRow (item.a_name ∷ item.header ∷ item.guard ∷ item.block ∷ []) ts → (w : Transaction) × IsTransaction w × (sign fixed.Void x ∷ ts ≡ transaction_tokens w)
described x ts d =
    let f = row4 item.a_name item.header item.guard item.block ts d in
    let n = f.5 in let h = f.6 in let g = f.7 in let b = f.8 in
    (record { void_at = x; name_at = n.0; name = n.1; open_at = h.0; struct_at = h.1; tag_at = h.2; tag = h.3; param_at = h.4; param = h.5; close_at = h.6; guard = g.0; begin_at = b.0; body = b.1; end_at = b.2 }, (g.1, b.3), ap (λ (y : List Mark). sign fixed.Void x ∷ y) (f.4 ∙ ap (λ (y : List Mark). y ++ (f.1 ++ (f.2 ++ f.3))) n.2 ∙ ap (λ (y : List Mark). name_mark n.0 n.1 ∷ (y ++ (f.2 ++ f.3))) h.7 ∙ ap (λ (y : List Mark). name_mark n.0 n.1 ∷ sign fixed.OpenParen h.0 ∷ sign fixed.Struct h.1 ∷ name_mark h.2 h.3 ∷ name_mark h.4 h.5 ∷ sign fixed.CloseParen h.6 ∷ (y ++ f.3)) g.2 ∙ ap (λ (y : List Mark). name_mark n.0 n.1 ∷ sign fixed.OpenParen h.0 ∷ sign fixed.Struct h.1 ∷ name_mark h.2 h.3 ∷ name_mark h.4 h.5 ∷ sign fixed.CloseParen h.6 ∷ (guard_tokens g.0 ++ y)) b.4))

from_void : (t : Mark) (row : List Item) (ts : List Mark) → Clean t → when (is_fixed fixed.Void t.kind) (item.a_name ∷ item.header ∷ item.guard ∷ item.block ∷ item.transactions ∷ []) ≡ Some row → OfRow row ts → Of item.transactions (t ∷ ts)
from_void t row ts c r d =
    let s = on_sign fixed.Void t (item.a_name ∷ item.header ∷ item.guard ∷ item.block ∷ item.transactions ∷ []) row ts c r d in
    let f = row_split (item.a_name ∷ item.header ∷ item.guard ∷ item.block ∷ []) (item.transactions ∷ []) ts s.1 in
    let g = described t.place f.0 f.3 in
    let k = row1 item.transactions f.1 f.4 in
    (g.0 ∷ k.0, (g.1, k.1), ap (λ (y : Mark). y ∷ ts) s.0 ∙ ap (λ (y : List Mark). sign fixed.Void t.place ∷ y) f.2 ∙ ap (λ (y : List Mark). y ++ f.1) g.2 ∙ ap (λ (y : List Mark). transaction_tokens g.0 ++ y) k.2)

-- a token that begins an item, and what the row after it stands for
back : (i : Item) (t : Mark) (n : Bool) (row : List Item) (ts : List Mark) → Clean t → Tells n ts → expand i t.kind n ≡ Some row → OfRow row ts → Of i (t ∷ ts)
back (item.term f) t n row ts c h r d = let s = on_sign f t [] row ts c r d in (t.place, ap (λ (y : Mark). y ∷ ts) s.0 ∙ ap (λ (y : List Mark). sign f t.place ∷ y) s.1)
back item.a_name t n row ts c h r d = let w = with_row (is_name t.kind) [] row ts r d in (t.place, t.text, ap (λ (y : Mark). y ∷ ts) (as_mark t kind.Name c (kind_name t.kind w.0)) ∙ ap (λ (y : List Mark). name_mark t.place t.text ∷ y) w.1)
back item.a_number t n row ts c h r d = let w = from_digits t (number_of t.kind) row ts c refl r d in (t.place, w.0, w.1)
back (item.close f) t n row ts c h r d = let s = on_sign f t (item.ended ∷ []) row ts c r d in (t.place, ap (λ (y : Mark). y ∷ ts) s.0 ∙ ap (λ (y : List Mark). sign f t.place ∷ y) (row1 item.ended ts s.1))
back item.ended t n row ts c h r d = absurd (cc)
back (item.level j) t n row ts c h r d = from_level j t n row ts c h r d
back (item.more j) t n row ts c h r d = from_more j t (nat_eq j 10) row ts c refl r d
back item.name_rest t n row ts c h r d = λ x m. from_suffix t (item.suffix_of t.kind) row ts c refl r d x m
back item.args t n row ts c h r d = from_args t n (is_fixed fixed.CloseParen t.kind) row ts c h refl r d
back item.more_args t n row ts c h r d = from_comma t row ts c r d
back item.target_rest t n row ts c h r d = from_target t (item.suffix_of t.kind) row ts c refl r d
back item.assignment t n row ts c h r d = let w = with_row (is_name t.kind) item.assign_row row ts r d in assign_of t ts c (kind_name t.kind w.0) w.1
back item.stmt t n row ts c h r d = from_stmt t (item.lead_of t.kind) row ts c refl r d
back item.stmts t n row ts c h r d = from_stmts t row ts c r d
back item.block t n row ts c h r d = let w = with_row (is_fixed fixed.OpenBrace t.kind) item.block_row row ts r d in block_of t ts c (kind_fixed fixed.OpenBrace t.kind w.0) w.1
back item.condition t n row ts c h r d = from_condition t row ts c r d
back item.body t n row ts c h r d = from_body t (item.lead_of t.kind) row ts c refl r d
back item.else_part t n row ts c h r d = from_else_part t row ts c r d
back item.else_rest t n row ts c h r d = from_else t (item.lead_of t.kind) row ts c refl r d
back item.decl t n row ts c h r d = from_decl t (item.declared_of t.kind) row ts c refl r d
back item.decls t n row ts c h r d = from_decls t row ts c r d
back item.constant t n row ts c h r d = from_number t (number_of t.kind) (is_minus t.kind) row ts c refl refl r d
back item.value t n row ts c h r d = from_value t (is_name t.kind) row ts c refl r d
back item.start t n row ts c h r d = from_start t (is_fixed fixed.OpenBrace t.kind) row ts c refl r d
back item.start_part t n row ts c h r d = from_start_part t row ts c r d
back item.size t n row ts c h r d = from_size t (is_name t.kind) row ts c refl r d
back item.size_part t n row ts c h r d = from_size_part t row ts c r d
back item.fields t n row ts c h r d = from_fields t row ts c r d
back item.field_block t n row ts c h r d = from_field_block t row ts c r d
back item.structure t n row ts c h r d = from_structure t row ts c r d
back item.header t n row ts c h r d = from_header t row ts c r d
back item.guard t n row ts c h r d = from_guard t row ts c r d
back item.transactions t n row ts c h r d = from_void t row ts c r d

-- all tokens clean
abbrev pub AllClean : List Mark → Type 0
AllClean [] = Unit {0}
AllClean (t ∷ l) = Clean t × AllClean l

may_be_nothing : (s : List Item) → item.may_end s ≡ true → OfRow s []
may_be_nothing [] e = refl
may_be_nothing (i ∷ s) e = go (may_skip i) refl e (λ f. may_be_nothing s f)
  where
    go : (b : Bool) → may_skip i ≡ b → (b && item.may_end s) ≡ true → (item.may_end s ≡ true → OfRow s []) → OfRow (i ∷ s) []
    go true k f rec = ([], [], refl, of_nothing i k, rec f)
    go false k f rec = absurd (cc)

over : (i : Item) (s next : List Item) (t : Mark) (l : List Mark) (n : Bool) (o : Option (List Item)) (b : Bool) → Clean t → Tells n l → expand i t.kind n ≡ o → may_skip i ≡ b → resume o b (step s t.kind n) s ≡ Some next → (step s t.kind n ≡ Some next → OfRow s (t ∷ l)) → OfRow next l → OfRow (i ∷ s) (t ∷ l)
over i s next t l n (Some row) b c h e k r rec d =
    let f = row_split row s l (same_row (row ++ s) next l r d) in
    (t ∷ f.0, f.1, ap (λ (y : List Mark). t ∷ y) f.2, back i t n row f.0 c (λ x w y g. h x w (y ++ f.1) (f.2 ∙ ap (λ (z : List Mark). z ++ f.1) g)) e f.3, f.4)
over i s next t l n None true c h e k r rec d = ([], t ∷ l, refl, of_nothing i k, rec r)
over i s next t l n None false c h e k r rec d = absurd (cc)

one_back : (s next : List Item) (t : Mark) (l : List Mark) (n : Bool) → Clean t → Tells n l → step s t.kind n ≡ Some next → OfRow next l → OfRow s (t ∷ l)
one_back [] next t l n c h r d = absurd (cc)
one_back (i ∷ s) next t l n c h r d = over i s next t l n (expand i t.kind n) (may_skip i) c h refl refl r (λ f. one_back s next t l n c h f d) d

tells_first : (l : List Mark) → Tells (number_first l) l
tells_first l x w y e = ap number_first e

pub derived : (l : List Mark) (s : List Item) (ns : List ℕ) → AllClean l → trace s l ≡ counted ns fine → OfRow s l
derived [] s [] c e = may_be_nothing s (go (item.may_end s) e)
  where
    go : (b : Bool) → (if b then fine else stuck) ≡ fine → b ≡ true
    go true f = refl
    go false f = absurd (cc)
derived [] s (n ∷ ns) c e = absurd (go (item.may_end s) e)
  where
    go : (b : Bool) → (if b then fine else stuck) ≡ counted (n ∷ ns) fine → ⊥
    go true f = absurd (cc)
    go false f = absurd (cc)
derived (t ∷ l) s ns c e = go (step s t.kind (number_first l)) refl ns e (λ next ms f. derived l next ms c.1 f)
  where
    go : (o : Option (List Item)) → step s t.kind (number_first l) ≡ o → (ns : List ℕ) → on_step o (λ s. trace s l) ≡ counted ns fine → ((next : List Item) (ms : List ℕ) → trace next l ≡ counted ms fine → OfRow next l) → OfRow s (t ∷ l)
    go None k [] f rec = absurd (cc)
    go None k (n ∷ ns) f rec = absurd (cc)
    go (Some next) k [] f rec = absurd (cc)
    go (Some next) k (n ∷ ns) f rec = one_back s next t l (number_first l) c.0 (tells_first l) k (rec next ns (let g : trace next l ≡ counted ns fine = cc in g))

-- a program
pub spelled : (l : List Mark) (ns : List ℕ) → AllClean l → trace item.whole l ≡ counted ns fine → (w : Program) × IsProgram w × (program_tokens w ≡ l)
spelled l ns c e =
    let d = derived l item.whole ns c e in
    let z = d.4 in let x = z.4 in let v = x.4 in
    let f = row_split (item.a_name ∷ item.header ∷ item.guard ∷ item.block ∷ []) (item.transactions ∷ []) v.1 v.4 in
    let t = described v.3.0 f.0 f.3 in
    let ts = row1 item.transactions f.1 f.4 in
    let last : x.1 ≡ transaction_tokens t.0 ++ transactions_tokens ts.0 = v.2 ∙ ap (λ (y : List Mark). y ++ v.1) v.3.1 ∙ ap (λ (y : List Mark). sign fixed.Void v.3.0 ∷ y) f.2 ∙ ap (λ (y : List Mark). y ++ f.1) t.2 ∙ ap (λ (y : List Mark). transaction_tokens t.0 ++ y) ts.2 in
    (program d.3.0 z.3.0 x.3.0 t.0 ts.0, (t.1, ts.1), sym (d.2 ∙ ap (λ (y : List Mark). y ++ d.1) d.3.1 ∙ ap (λ (y : List Mark). decls_tokens d.3.0 ++ y) (z.2 ∙ ap (λ (y : List Mark). y ++ z.1) z.3.1 ∙ ap (λ (y : List Mark). struct_tokens z.3.0 ++ y) (x.2 ∙ ap (λ (y : List Mark). y ++ x.1) x.3.1 ∙ ap (λ (y : List Mark). decls_tokens x.3.0 ++ y) last))))
