-- A program is read as what it spells, and so no program that keeps to the limit has a fault.
use Rattle.std.proofs.Common.{◌≡◌, ℕ, suc, ◌+◌, ◌≤◌, Bool, true, false, List, [], ◌∷◌, ◌++◌, map, Some, None, refl, sym, ap, ◌∙◌, subst, append_assoc, if◌then◌else◌}
use Rattle.std.specs.Prelude.{nat_le}
use Rattle.std.proofs.lemmas.Bool.{le-leb, leb-true}
use Rattle.dom_lexer.specs.declared.token.Token.{Token}
use Rattle.dom_ast.specs.Form.{ProgramForm}
use Rattle.dom_parser.specs.declared.kinds.Fixed.{Fixed}
use Rattle.dom_parser.specs.declared.kinds.Fixed.TheVariants as fixed
use Rattle.dom_parser.specs.declared.kinds.Kind.{Kind}
use Rattle.dom_parser.specs.declared.kinds.Kind.TheVariants as kind
use Rattle.dom_parser.specs.declared.faults.Fault.{Fault}
use Rattle.dom_parser.specs.declared.faults.Fault.TheVariants as place
use Rattle.dom_parser.specs.declared.faults.ParseFault.{ParseFault}
use Rattle.dom_parser.specs.Faults.{unexpected_at, located_at, SpellsNone}
use Rattle.dom_parser.specs.inner.HeadReads.{ReadsWhole, FailsWholeBy}
use Rattle.dom_parser.specs.Tokens.{Mark, mark, stands, offset_at}
use Rattle.dom_parser.specs.inner.AtPlace.{is_fixed}
use Rattle.dom_parser.specs.Grammar.{top, sign, name_mark, Way, IsAt, tokens, opens, target_word, target_field, target_index, Assign, assigned, IsAssign, assign_tokens, assign_opens, Stmts, no_more, then_stmt, Stmt, an_assign, an_if, Body, body_block, body_assign, Else, no_else, else_block, else_stmt, AreStmts, IsStmt, IsBody, IsElse, stmts_tokens, stmt_tokens, body_tokens, else_tokens, stmts_opens, stmt_opens, body_opens, else_opens, Constant, plain, negative, constant_tokens, constant_opens, Value, a_constant, a_name, value_tokens, value_opens, Start, no_start, bare, braced, start_tokens, start_opens, Size, no_size, number_size, name_size, size_tokens, size_opens, Decl, a_define, a_global, decl_tokens, decl_opens, Decls, no_decls, then_decl, decls_tokens, decls_opens, Field, fields_tokens, fields_opens, Structure, struct_tokens, struct_opens, Guard, no_guard, a_guard, IsGuard, guard_tokens, guard_opens, Transaction, IsTransaction, transaction_tokens, transaction_opens, AreTransactions, transactions_tokens, transactions_opens, Program, program, IsProgram, program_tokens, program_opens, Spells, AreWithin, SpellsWithin}
use Rattle.dom_parser.specs.inner.Following as item
use Rattle.dom_parser.specs.inner.Following.{Item, term, close, ended, level, assign_row, if_row, expand, held, Trace, fine, stuck, count, trace, limit, Problem, problem, whole}
use Rattle.dom_parser.proofs.Traces.{counted, counted_append, ends_close, in_brackets, way_traced, ended_passes, Refused, passes, goes}

-- an expression and the symbol after it
in_term : (f : Fixed) (w : Way) → IsAt top w → (q : ℕ) (s : List Item) (l : List Mark) → item.suffix_row (item.suffix_fixed f) ≡ None → is_fixed fixed.Question (kind.Fixed f) ≡ false → is_fixed f (kind.Fixed f) ≡ true → trace (level top ∷ term f ∷ s) ((tokens w ++ sign f q ∷ []) ++ l) ≡ counted (opens (held s) w ++ held s ∷ []) (trace s l)
in_term f w a q s l x y z =
    ap (trace (level top ∷ term f ∷ s)) (append_assoc (tokens w) (sign f q ∷ []) l)
    ∙ way_traced top w a (term f ∷ s) (sign f q ∷ l) (ends_close f top q l x y)
    ∙ ap (counted (opens (held s) w)) (goes (term f) [] s (sign f q) l (ap (λ (b : Bool). item.when b []) z))
    ∙ sym (counted_append (opens (held s) w) (held s ∷ []) (trace s l))

-- the value of an assignment, from its `=`
value_traced : (p : ℕ) (w : Way) (q : ℕ) → IsAt top w → (s : List Item) (l : List Mark) → trace (term fixed.Assign ∷ level top ∷ term fixed.Semi ∷ s) ((sign fixed.Assign p ∷ (tokens w ++ sign fixed.Semi q ∷ [])) ++ l) ≡ counted (held s ∷ (opens (held s) w ++ held s ∷ [])) (trace s l)
value_traced p w q a s l = ap (count (held s)) (in_term fixed.Semi w a q s l refl refl refl)

-- an item that a name leads on as an assignment, and others after it
assign_traced : (i : Item) (x s : List Item) → ((n : Bool) → expand i kind.Name n ≡ Some (assign_row ++ x)) → (a : Assign) → IsAssign a → (l : List Mark) → trace (i ∷ s) (assign_tokens a ++ l) ≡ counted (assign_opens (held (x ++ s)) a) (trace (x ++ s) l)
assign_traced i x s e (assigned (target_word p n) r w q) a l =
    goes i (assign_row ++ x) s (name_mark p n) ((sign fixed.Assign r ∷ (tokens w ++ sign fixed.Semi q ∷ [])) ++ l) (e _) ∙ ap (count (held (x ++ s))) (value_traced r w q a.1 (x ++ s) l)
assign_traced i x s e (assigned (target_field p n y z f) r w q) a l =
    goes i (assign_row ++ x) s (name_mark p n) (sign fixed.Dot y ∷ name_mark z f ∷ ((sign fixed.Assign r ∷ (tokens w ++ sign fixed.Semi q ∷ [])) ++ l)) (e _) ∙ ap (λ (t : Trace). count (held (x ++ s)) (count (held (x ++ s)) (count (held (x ++ s)) t))) (value_traced r w q a.1 (x ++ s) l)
assign_traced i x s e (assigned (target_index p n y v z) r w q) a l =
    let value = sign fixed.Assign r ∷ (tokens w ++ sign fixed.Semi q ∷ []) in
    let after : List Item = term fixed.Assign ∷ level top ∷ term fixed.Semi ∷ (x ++ s) in
    goes i (assign_row ++ x) s (name_mark p n) (sign fixed.OpenBracket y ∷ (((tokens v ++ sign fixed.CloseBracket z ∷ []) ++ value) ++ l)) (e _)
    ∙ ap (λ (t : List Mark). count (held (x ++ s)) (count (suc (held (x ++ s))) (trace (level top ∷ close fixed.CloseBracket ∷ after) t))) (append_assoc (tokens v ++ sign fixed.CloseBracket z ∷ []) value l)
    ∙ ap (λ (t : Trace). count (held (x ++ s)) (count (suc (held (x ++ s))) t)) (in_brackets fixed.CloseBracket v (way_traced top v a.0) z after (value ++ l) refl refl refl ∙ ap (counted (opens (suc (held (x ++ s))) v ++ suc (held (x ++ s)) ∷ [])) (value_traced r w q a.1 (x ++ s) l) ∙ sym (counted_append (opens (suc (held (x ++ s))) v ++ suc (held (x ++ s)) ∷ []) (held (x ++ s) ∷ (opens (held (x ++ s)) w ++ held (x ++ s) ∷ [])) (trace (x ++ s) l)))

-- a condition after its opening bracket
condition_traced : (w : Way) → IsAt top w → (r : ℕ) (s : List Item) (z l : List Mark) → trace (level top ∷ close fixed.CloseParen ∷ s) ((tokens w ++ sign fixed.CloseParen r ∷ z) ++ l) ≡ counted (opens (suc (held s)) w ++ suc (held s) ∷ []) (trace s (z ++ l))
condition_traced w a r s z l =
    ap (trace (level top ∷ close fixed.CloseParen ∷ s)) (append_assoc (tokens w) (sign fixed.CloseParen r ∷ z) l ∙ sym (append_assoc (tokens w) (sign fixed.CloseParen r ∷ []) (z ++ l)))
    ∙ in_brackets fixed.CloseParen w (way_traced top w a) r s (z ++ l) refl refl refl

-- no statement begins with `else`, nor does what follows it in a block
pub starts_ok : (b : Stmts) (q : ℕ) (l : List Mark) → Refused item.else_part ((stmts_tokens b ++ sign fixed.CloseBrace q ∷ []) ++ l)
starts_ok no_more q l = refl
starts_ok (then_stmt (an_assign (assigned (target_word p n) r w z)) b) q l = refl
starts_ok (then_stmt (an_assign (assigned (target_field p n x y f) r w z)) b) q l = refl
starts_ok (then_stmt (an_assign (assigned (target_index p n x v y) r w z)) b) q l = refl
starts_ok (then_stmt (an_if m w c e) b) q l = refl

mutual
  stmts_traced : (b : Stmts) → AreStmts b → (q : ℕ) (s : List Item) (l : List Mark) → trace (item.stmts ∷ close fixed.CloseBrace ∷ s) ((stmts_tokens b ++ sign fixed.CloseBrace q ∷ []) ++ l) ≡ counted (stmts_opens (suc (held s)) b ++ suc (held s) ∷ []) (trace s l)
  stmts_traced no_more a q s l = ap (count (suc (held s))) (ended_passes s l)
  stmts_traced (then_stmt x b) a q s l =
      ap (trace (item.stmts ∷ close fixed.CloseBrace ∷ s)) (append_assoc (stmt_tokens x ++ stmts_tokens b) (sign fixed.CloseBrace q ∷ []) l ∙ append_assoc (stmt_tokens x) (stmts_tokens b) (sign fixed.CloseBrace q ∷ l) ∙ ap (λ (y : List Mark). stmt_tokens x ++ y) (sym (append_assoc (stmts_tokens b) (sign fixed.CloseBrace q ∷ []) l)))
      ∙ stmt_traced x a.0 item.stmts (item.stmts ∷ []) (close fixed.CloseBrace ∷ s) (λ n. refl) (λ n. refl) ((stmts_tokens b ++ sign fixed.CloseBrace q ∷ []) ++ l) (starts_ok b q l)
      ∙ ap (counted (stmt_opens (suc (held s)) x)) (stmts_traced b a.1 q s l)
      ∙ sym (counted_append (stmt_opens (suc (held s)) x) (stmts_opens (suc (held s)) b ++ suc (held s) ∷ []) (trace s l))
      ∙ ap (λ (y : List ℕ). counted y (trace s l)) (sym (append_assoc (stmt_opens (suc (held s)) x) (stmts_opens (suc (held s)) b) (suc (held s) ∷ [])))

  stmt_traced : (a : Stmt) → IsStmt a → (i : Item) (x s : List Item) → ((n : Bool) → expand i kind.Name n ≡ Some (assign_row ++ x)) → ((n : Bool) → expand i (kind.Fixed fixed.If) n ≡ Some (if_row ++ x)) → (l : List Mark) → Refused item.else_part l → trace (i ∷ s) (stmt_tokens a ++ l) ≡ counted (stmt_opens (held (x ++ s)) a) (trace (x ++ s) l)
  stmt_traced (an_assign a) h i x s e f l g = assign_traced i x s e a h l
  stmt_traced (an_if m w b c) h i x s e f l g =
      let n = held (x ++ s) in
      let after : List Item = item.body ∷ item.else_part ∷ ended ∷ (x ++ s) in
      goes i (if_row ++ x) s (sign fixed.If m.if_at) (sign fixed.OpenParen m.open_at ∷ ((tokens w ++ sign fixed.CloseParen m.close_at ∷ (body_tokens b ++ else_tokens c)) ++ l)) (f _)
      ∙ ap (λ (t : Trace). count (suc n) (count (suc (suc n)) t)) (condition_traced w h.0 m.close_at after (body_tokens b ++ else_tokens c) l ∙ ap (counted (opens (suc (suc n)) w ++ suc (suc n) ∷ [])) (ap (trace after) (append_assoc (body_tokens b) (else_tokens c) l) ∙ body_traced b h.1 (item.else_part ∷ ended ∷ (x ++ s)) (else_tokens c ++ l) ∙ ap (counted (body_opens (suc n) b)) (else_traced c h.2 (ended ∷ (x ++ s)) l g ∙ ap (counted (else_opens (suc n) c)) (ended_passes (x ++ s) l)) ∙ sym (counted_append (body_opens (suc n) b) (else_opens (suc n) c) (trace (x ++ s) l))) ∙ sym (counted_append (opens (suc (suc n)) w ++ suc (suc n) ∷ []) (body_opens (suc n) b ++ else_opens (suc n) c) (trace (x ++ s) l)) ∙ ap (λ (t : List ℕ). counted t (trace (x ++ s) l)) (append_assoc (opens (suc (suc n)) w) (suc (suc n) ∷ []) (body_opens (suc n) b ++ else_opens (suc n) c)))

  body_traced : (b : Body) → IsBody b → (s : List Item) (l : List Mark) → trace (item.body ∷ s) (body_tokens b ++ l) ≡ counted (body_opens (held s) b) (trace s l)
  body_traced (body_block p b q) a s l = ap (count (suc (held s))) (stmts_traced b a q s l)
  body_traced (body_assign a) h s l = assign_traced item.body [] s (λ n. refl) a h l

  else_traced : (c : Else) → IsElse c → (s : List Item) (l : List Mark) → Refused item.else_part l → trace (item.else_part ∷ s) (else_tokens c ++ l) ≡ counted (else_opens (held s) c) (trace s l)
  else_traced no_else a s l g = passes item.else_part s l refl g
  else_traced (else_block p o b q) a s l g = ap (λ (t : Trace). count (held s) (count (suc (held s)) t)) (stmts_traced b a q s l)
  else_traced (else_stmt p a) h s l g = ap (count (held s)) (stmt_traced a h item.else_rest [] s (λ n. refl) (λ n. refl) l g)

-- heads

constant_traced : (c : Constant) (s : List Item) (l : List Mark) → trace (item.constant ∷ s) (constant_tokens c ++ l) ≡ counted (constant_opens (held s) c) (trace s l)
constant_traced (plain p w) s l = refl
constant_traced (negative p q w) s l = refl

value_of : (v : Value) (s : List Item) (l : List Mark) → trace (item.value ∷ s) (value_tokens v ++ l) ≡ counted (value_opens (held s) v) (trace s l)
value_of (a_constant (plain p w)) s l = refl
value_of (a_constant (negative p q w)) s l = refl
value_of (a_name p n) s l = refl

bare_of : (v : Value) (s : List Item) (l : List Mark) → trace (item.start ∷ s) (value_tokens v ++ l) ≡ counted (value_opens (held s) v) (trace s l)
bare_of (a_constant (plain p w)) s l = refl
bare_of (a_constant (negative p q w)) s l = refl
bare_of (a_name p n) s l = refl

-- an initial value and the semicolon
start_traced : (v : Start) (r : ℕ) (s : List Item) (l : List Mark) → trace (item.start_part ∷ term fixed.Semi ∷ s) ((start_tokens v ++ sign fixed.Semi r ∷ []) ++ l) ≡ counted (start_opens (held s) v ++ held s ∷ []) (trace s l)
start_traced no_start r s l = refl
start_traced (bare p (a_constant (plain q w))) r s l = refl
start_traced (bare p (a_constant (negative q x w))) r s l = refl
start_traced (bare p (a_name q n)) r s l = refl
start_traced (braced p q (a_constant (plain x w)) y) r s l = refl
start_traced (braced p q (a_constant (negative x z w)) y) r s l = refl
start_traced (braced p q (a_name x n) y) r s l = refl

-- a length before them
size_traced : (z : Size) (v : Start) (r : ℕ) (s : List Item) (l : List Mark) → trace (item.size_part ∷ item.start_part ∷ term fixed.Semi ∷ s) (size_tokens z ++ ((start_tokens v ++ sign fixed.Semi r ∷ []) ++ l)) ≡ counted (size_opens (held s) z) (trace (item.start_part ∷ term fixed.Semi ∷ s) ((start_tokens v ++ sign fixed.Semi r ∷ []) ++ l))
size_traced no_size no_start r s l = refl
size_traced no_size (bare p v) r s l = refl
size_traced no_size (braced p q v x) r s l = refl
size_traced (number_size p q w x) v r s l = ap (λ (t : Trace). count (suc (held s)) (count (suc (held s)) (count (suc (held s)) t))) (ended_passes (item.start_part ∷ term fixed.Semi ∷ s) ((start_tokens v ++ sign fixed.Semi r ∷ []) ++ l))
size_traced (name_size p q n x) v r s l = ap (λ (t : Trace). count (suc (held s)) (count (suc (held s)) (count (suc (held s)) t))) (ended_passes (item.start_part ∷ term fixed.Semi ∷ s) ((start_tokens v ++ sign fixed.Semi r ∷ []) ++ l))

decl_traced : (a : Decl) (s : List Item) (l : List Mark) → trace (item.decls ∷ s) (decl_tokens a ++ l) ≡ counted (decl_opens (held s) a) (trace (item.decls ∷ s) l)
decl_traced (a_define p q r m c) s l = ap (λ (t : Trace). count (held s) (count (held s) (count (held s) t))) (constant_traced c (item.decls ∷ s) l)
decl_traced (a_global m z v) s l =
    ap (λ (t : List Mark). count (held s) (count (held s) (trace (item.size_part ∷ item.start_part ∷ term fixed.Semi ∷ item.decls ∷ s) t))) (append_assoc (size_tokens z) (start_tokens v ++ sign fixed.Semi m.semi_at ∷ []) l)
    ∙ ap (λ (t : Trace). count (held s) (count (held s) t)) (size_traced z v m.semi_at (item.decls ∷ s) l ∙ ap (counted (size_opens (held s) z)) (start_traced v m.semi_at (item.decls ∷ s) l) ∙ sym (counted_append (size_opens (held s) z) (start_opens (held s) v ++ held s ∷ []) (trace (item.decls ∷ s) l)))

decls_traced : (d : Decls) (s : List Item) (l : List Mark) → Refused item.decls l → trace (item.decls ∷ s) (decls_tokens d ++ l) ≡ counted (decls_opens (held s) d) (trace s l)
decls_traced no_decls s l e = passes item.decls s l refl e
decls_traced (then_decl a d) s l e =
    ap (trace (item.decls ∷ s)) (append_assoc (decl_tokens a) (decls_tokens d) l)
    ∙ decl_traced a s (decls_tokens d ++ l)
    ∙ ap (counted (decl_opens (held s) a)) (decls_traced d s l e)
    ∙ sym (counted_append (decl_opens (held s) a) (decls_opens (held s) d) (trace s l))

fields_traced : (f : List Field) (c : ℕ) (s : List Item) (l : List Mark) → trace (item.fields ∷ close fixed.CloseBrace ∷ s) (fields_tokens f ++ sign fixed.CloseBrace c ∷ l) ≡ counted (fields_opens (suc (held s)) f) (count (suc (held s)) (trace s l))
fields_traced [] c s l = ap (count (suc (held s))) (ended_passes s l)
fields_traced (x ∷ f) c s l = ap (λ (t : Trace). count (suc (held s)) (count (suc (held s)) (count (suc (held s)) t))) (fields_traced f c s l)

struct_traced : (z : Structure) (s : List Item) (l : List Mark) → trace (item.structure ∷ s) (struct_tokens z ++ l) ≡ counted (struct_opens (held s) z) (trace s l)
struct_traced z s l =
    let n = held s in
    ap (λ (y : Trace). count n (count n (count (suc n) (count (suc n) (count (suc n) (count (suc n) y)))))) (ap (trace (item.fields ∷ close fixed.CloseBrace ∷ term fixed.Semi ∷ s)) (append_assoc (fields_tokens z.others) (sign fixed.CloseBrace z.close_at ∷ sign fixed.Semi z.semi_at ∷ []) l) ∙ fields_traced z.others z.close_at (term fixed.Semi ∷ s) (sign fixed.Semi z.semi_at ∷ l) ∙ sym (counted_append (fields_opens (suc n) z.others) (suc n ∷ n ∷ []) (trace s l)))

pub struct_first : (z : Structure) (l : List Mark) → Refused item.decls (struct_tokens z ++ l)
struct_first z l = refl

-- transactions

guard_traced : (g : Guard) → IsGuard g → (b : ℕ) (s : List Item) (l : List Mark) → trace (item.guard ∷ item.block ∷ s) (guard_tokens g ++ sign fixed.OpenBrace b ∷ l) ≡ counted (guard_opens (held s) g) (trace (item.block ∷ s) (sign fixed.OpenBrace b ∷ l))
guard_traced no_guard a b s l = refl
guard_traced (a_guard p q w r) a b s l = ap (λ (t : Trace). count (held s) (count (suc (held s)) t)) (in_brackets fixed.CloseParen w (way_traced top w a) r (item.block ∷ s) (sign fixed.OpenBrace b ∷ l) refl refl refl)

-- from the name on
described : (t : Transaction) → IsTransaction t → (s : List Item) (l : List Mark)
    → trace (item.a_name ∷ item.header ∷ item.guard ∷ item.block ∷ s) ((name_mark t.name_at t.name ∷ sign fixed.OpenParen t.open_at ∷ sign fixed.Struct t.struct_at ∷ name_mark t.tag_at t.tag ∷ name_mark t.param_at t.param ∷ sign fixed.CloseParen t.close_at ∷ (guard_tokens t.guard ++ sign fixed.OpenBrace t.begin_at ∷ (stmts_tokens t.body ++ sign fixed.CloseBrace t.end_at ∷ []))) ++ l)
    ≡ counted (held s ∷ suc (held s) ∷ suc (held s) ∷ suc (held s) ∷ suc (held s) ∷ suc (held s) ∷ (guard_opens (held s) t.guard ++ suc (held s) ∷ (stmts_opens (suc (held s)) t.body ++ suc (held s) ∷ []))) (trace s l)
described t a s l =
    let n = held s in
    let body = sign fixed.OpenBrace t.begin_at ∷ (stmts_tokens t.body ++ sign fixed.CloseBrace t.end_at ∷ []) in
    let counts = suc n ∷ (stmts_opens (suc n) t.body ++ suc n ∷ []) in
    ap (λ (k : Trace). count n (count (suc n) (count (suc n) (count (suc n) (count (suc n) (count (suc n) k)))))) (ended_passes (item.guard ∷ item.block ∷ s) ((guard_tokens t.guard ++ body) ++ l) ∙ ap (trace (item.guard ∷ item.block ∷ s)) (append_assoc (guard_tokens t.guard) body l) ∙ guard_traced t.guard a.0 t.begin_at s ((stmts_tokens t.body ++ sign fixed.CloseBrace t.end_at ∷ []) ++ l) ∙ ap (λ (k : Trace). counted (guard_opens n t.guard) (count (suc n) k)) (stmts_traced t.body a.1 t.end_at s l) ∙ sym (counted_append (guard_opens n t.guard) counts (trace s l)))

first_traced : (t : Transaction) → IsTransaction t → (s : List Item) (l : List Mark) → trace (term fixed.Void ∷ item.a_name ∷ item.header ∷ item.guard ∷ item.block ∷ s) (transaction_tokens t ++ l) ≡ counted (transaction_opens (held s) t) (trace s l)
first_traced t a s l = ap (count (held s)) (described t a s l)

more_traced : (t : Transaction) → IsTransaction t → (s : List Item) (l : List Mark) → trace (item.transactions ∷ s) (transaction_tokens t ++ l) ≡ counted (transaction_opens (held s) t) (trace (item.transactions ∷ s) l)
more_traced t a s l = ap (count (held s)) (described t a (item.transactions ∷ s) l)

transactions_traced : (ts : List Transaction) → AreTransactions ts → trace (item.transactions ∷ []) (transactions_tokens ts) ≡ counted (transactions_opens 0 ts) fine
transactions_traced [] a = refl
transactions_traced (t ∷ ts) a =
    more_traced t a.0 [] (transactions_tokens ts) ∙ ap (counted (transaction_opens 0 t)) (transactions_traced ts a.1) ∙ sym (counted_append (transaction_opens 0 t) (transactions_opens 0 ts) fine)

pub transaction_first : (t : Transaction) (l : List Mark) → Refused item.decls (transaction_tokens t ++ l)
transaction_first t l = refl

pub program_traced : (w : Program) → IsProgram w → trace whole (program_tokens w) ≡ counted (program_opens w) fine
program_traced (program d z e t ts) a =
    let four = transaction_tokens t ++ transactions_tokens ts in
    let rest4 : List Item = term fixed.Void ∷ item.a_name ∷ item.header ∷ item.guard ∷ item.block ∷ item.transactions ∷ [] in
    decls_traced d (item.structure ∷ item.decls ∷ rest4) (struct_tokens z ++ (decls_tokens e ++ four)) (struct_first z (decls_tokens e ++ four))
    ∙ ap (counted (decls_opens 0 d)) (struct_traced z (item.decls ∷ rest4) (decls_tokens e ++ four) ∙ ap (counted (struct_opens 0 z)) (decls_traced e rest4 four (transaction_first t (transactions_tokens ts)) ∙ ap (counted (decls_opens 0 e)) (first_traced t a.0 (item.transactions ∷ []) (transactions_tokens ts) ∙ ap (counted (transaction_opens 0 t)) (transactions_traced ts a.1) ∙ sym (counted_append (transaction_opens 0 t) (transactions_opens 0 ts) fine)) ∙ sym (counted_append (decls_opens 0 e) (transaction_opens 0 t ++ transactions_opens 0 ts) fine)) ∙ sym (counted_append (struct_opens 0 z) (decls_opens 0 e ++ (transaction_opens 0 t ++ transactions_opens 0 ts)) fine))
    ∙ sym (counted_append (decls_opens 0 d) (struct_opens 0 z ++ (decls_opens 0 e ++ (transaction_opens 0 t ++ transactions_opens 0 ts))) fine)

-- the limit

no_problem : (ns : List ℕ) (p : ℕ) → AreWithin ns → problem p (counted ns fine) ≡ None
no_problem [] p a = refl
no_problem (n ∷ ns) p a = ap (λ (b : Bool). if b then problem (p + 1) (counted ns fine) else Some (item.deep p)) (le-leb n limit a.0) ∙ no_problem ns (p + 1) a.1

within : (ns : List ℕ) (p : ℕ) → problem p (counted ns fine) ≡ None → AreWithin ns
within [] p e = tt
within (n ∷ ns) p e = go (nat_le n limit) refl e (λ f. within ns (p + 1) f)
  where
    go : (b : Bool) → nat_le n limit ≡ b → (if b then problem (p + 1) (counted ns fine) else Some (item.deep p)) ≡ None → (problem (p + 1) (counted ns fine) ≡ None → AreWithin ns) → (n ≤ limit) × AreWithin ns
    go true q f rec = (leb-true n limit q, rec f)
    go false q f rec = absurd (cc)

-- what is spelled without a problem keeps to the limit
pub keeps : (p : ProgramForm) (l : List Token) → Spells p l → problem 0 (trace whole (map mark l)) ≡ None → SpellsWithin p l
keeps p l s e =
    let f : problem 0 (counted (program_opens s.0) fine) ≡ None = ap (problem 0) (sym (program_traced s.0 s.1) ∙ ap (trace whole) s.2) ∙ e in
    (s.0, s.1, s.2, s.3, within (program_opens s.0) 0 f)

-- where there is a problem no program is spelled within the limit
pub excludes : (p : ProgramForm) (l : List Token) (x : Problem) → problem 0 (trace whole (map mark l)) ≡ Some x → SpellsWithin p l → ⊥
excludes p l x e s =
    let f : problem 0 (trace whole (map mark l)) ≡ None = ap (λ (k : List Mark). problem 0 (trace whole k)) (sym s.2) ∙ ap (problem 0) (program_traced s.0 s.1) ∙ no_problem (program_opens s.0) 0 s.4 in
    let g : None ≡ Some x = sym f ∙ e in
    absurd (cc)

-- the same for the parser's answers

pub parsed : (p : ProgramForm) (l m : List Token) → m ≡ l → ReadsWhole p m → SpellsWithin p l
parsed p l m e r = subst (λ (x : List Token). SpellsWithin p x) e (keeps p m r.spelled r.reads)

spells_none : (l : List Token) (end : ℕ) (f : Fault) → FailsWholeBy whole l 0 f → SpellsNone l (located_at l end f)
spells_none l end (place.Unexpected q) a = go (stands l q)
  where
    go : (k : Kind) → SpellsNone l (unexpected_at k (offset_at l q) end)
    go kind.Name = λ p s. excludes p l (item.bad q) a.there s
    go (kind.Number w) = λ p s. excludes p l (item.bad q) a.there s
    go (kind.Fixed x) = λ p s. excludes p l (item.bad q) a.there s
    go kind.Inv = λ p s. excludes p l (item.bad q) a.there s
    go kind.Not = λ p s. excludes p l (item.bad q) a.there s
    go (kind.Operator o) = λ p s. excludes p l (item.bad q) a.there s
    go kind.Forbidden = λ p s. excludes p l (item.bad q) a.there s
    go kind.End = λ p s. excludes p l (item.bad q) a.there s
spells_none l end (place.TooNested q) a = λ p s. excludes p l (item.deep q) a.there s
spells_none l end place.Memory a = tt

pub no_program : (l m : List Token) (end : ℕ) (f : Fault) (g : ParseFault) → m ≡ l → g ≡ located_at l end f → FailsWholeBy whole m 0 f → SpellsNone l g
no_program l m end f g e h a = subst (λ (x : ParseFault). SpellsNone l x) (sym h) (spells_none l end f (subst (λ (x : List Token). FailsWholeBy whole x 0 f) e a))
