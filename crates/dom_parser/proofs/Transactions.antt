-- What the functions on transactions and on the whole program read.
use Rattle.std.proofs.Common.{◌≡◌, ℕ, zero, suc, ◌+◌, ◌<◌, ◌≤◌, Bool, true, false, List, [], ◌∷◌, ◌++◌, map, Option, Some, None, length, refl, sym, ap, ◌∙◌, arith, append_assoc}
use Rattle.std.proofs.lemmas.List.{append-nil, map-append}
use Rattle.dom_lexer.specs.declared.token.Token.{Token}
use Rattle.dom_ast.specs.declared.program.Head.{Head}
use Rattle.dom_ast.specs.declared.program.Transaction.{Transaction as TransactionTree}
use Rattle.std.specs.Prelude.{slice_get}
use Rattle.dom_ast.specs.Form.{ExprForm, StmtForms, TransactionForm, transaction_form}
use Rattle.dom_parser.specs.declared.faults.Fault.{Fault}
use Rattle.dom_parser.specs.declared.faults.Fault.TheVariants.{Unexpected, TooNested, Memory}
use Rattle.dom_parser.specs.declared.kinds.Fixed.TheVariants as fixed
use Rattle.dom_parser.specs.Tokens.{Mark, stands, offset_at, ahead}
use Rattle.dom_parser.specs.inner.AtPlace.{rest, text_at, is_fixed, is_name}
use Rattle.dom_parser.specs.Grammar.{sign, name_mark, decls_tokens, decls_trees, struct_tokens, struct_tree, stmts_tokens, stmts_trees, no_guard, a_guard, guard_tokens, transaction_tokens, transaction_tree, transactions_tokens, transaction_trees, program, Transaction}
use Rattle.dom_parser.specs.inner.Following as item
use Rattle.dom_parser.specs.inner.Following.{problem, trace, Item, term, close, ended, when, whole, expand, may_skip, held, limit, bad, deep, fault_from}
use Rattle.dom_parser.specs.inner.Reads.{FailsBy, Step, Reads, Passes, SpellsCondition, SpellsBlock}
use Rattle.dom_parser.specs.inner.HeadReads.{ReadsDecls, SpellsStruct, ReadsHeads, FailsRowBy, ReadsHeader, SpellsGuard, transaction_row, ReadsTransaction, ReadsTransactions, FailsWholeBy, ReadsWhole}
use Rattle.dom_parser.proofs.SoFar.{TransactionsSoFar}
use Rattle.dom_parser.proofs.Steps.{rest_end, rest_there, skips, fails, takes, row_none, row_one, row_here, row_later, row_read, row_failed, fails_here, read_term, read_name, read_close, fails_term, fails_name, fails_close, fixed_mark, fixed_inside, named_mark}
use Rattle.dom_parser.proofs.HeadParts.{step_to, mark_to}

-- the parameter

header_at : (l : List Token) (p : ℕ) (b : Bool) → is_fixed fixed.OpenParen (stands l p) ≡ b → expand item.header (stands l p) (ahead l p) ≡ when b (term fixed.Struct ∷ item.a_name ∷ item.a_name ∷ close fixed.CloseParen ∷ [])
header_at l p b e = ap (λ (x : Bool). when x (term fixed.Struct ∷ item.a_name ∷ item.a_name ∷ close fixed.CloseParen ∷ [])) e

pub no_header : (l : List Token) (p : ℕ) → is_fixed fixed.OpenParen (stands l p) ≡ false → FailsBy item.header 0 l p (Unexpected p)
no_header l p e = fails_here item.header 0 l p (header_at l p false e) refl

pub header_struct : (l : List Token) (p : ℕ) → is_fixed fixed.OpenParen (stands l p) ≡ true → is_fixed fixed.Struct (stands l (p + 1)) ≡ false → FailsBy item.header 0 l p (Unexpected (p + 1))
header_struct l p e f =
    row_failed item.header (term fixed.Struct ∷ item.a_name ∷ item.a_name ∷ close fixed.CloseParen ∷ []) 0 l p (Unexpected (p + 1)) (header_at l p true e) (omega arith) (row_here (term fixed.Struct) (item.a_name ∷ item.a_name ∷ close fixed.CloseParen ∷ []) 0 1 l (p + 1) (Unexpected (p + 1)) (omega arith) (fails_term fixed.Struct 1 l (p + 1) f))

to_tag : (l : List Token) (p : ℕ) → is_fixed fixed.Struct (stands l (p + 1)) ≡ true → Step (term fixed.Struct) 1 l (p + 1) (p + 2)
to_tag l p f = step_to (term fixed.Struct) 1 l (p + 1) (p + 1 + 1) (p + 2) (omega arith) (read_term fixed.Struct 1 l (p + 1) f (omega arith))

pub header_tag : (l : List Token) (p : ℕ) → is_fixed fixed.OpenParen (stands l p) ≡ true → is_fixed fixed.Struct (stands l (p + 1)) ≡ true → is_name (stands l (p + 2)) ≡ false → FailsBy item.header 0 l p (Unexpected (p + 2))
header_tag l p e f g =
    row_failed item.header (term fixed.Struct ∷ item.a_name ∷ item.a_name ∷ close fixed.CloseParen ∷ []) 0 l p (Unexpected (p + 2)) (header_at l p true e) (omega arith) (row_later (term fixed.Struct) (item.a_name ∷ item.a_name ∷ close fixed.CloseParen ∷ []) 0 1 l (p + 1) (p + 2) (Unexpected (p + 2)) (omega arith) (to_tag l p f) (row_here item.a_name (item.a_name ∷ close fixed.CloseParen ∷ []) 0 1 l (p + 2) (Unexpected (p + 2)) (omega arith) (fails_name 1 l (p + 2) g)))

to_param : (l : List Token) (p : ℕ) → is_name (stands l (p + 2)) ≡ true → Step item.a_name 1 l (p + 2) (p + 3)
to_param l p g = step_to item.a_name 1 l (p + 2) (p + 2 + 1) (p + 3) (omega arith) (read_name 1 l (p + 2) g (omega arith))

pub header_param : (l : List Token) (p : ℕ) → is_fixed fixed.OpenParen (stands l p) ≡ true → is_fixed fixed.Struct (stands l (p + 1)) ≡ true → is_name (stands l (p + 2)) ≡ true → is_name (stands l (p + 3)) ≡ false → FailsBy item.header 0 l p (Unexpected (p + 3))
header_param l p e f g h =
    row_failed item.header (term fixed.Struct ∷ item.a_name ∷ item.a_name ∷ close fixed.CloseParen ∷ []) 0 l p (Unexpected (p + 3)) (header_at l p true e) (omega arith) (row_later (term fixed.Struct) (item.a_name ∷ item.a_name ∷ close fixed.CloseParen ∷ []) 0 1 l (p + 1) (p + 2) (Unexpected (p + 3)) (omega arith) (to_tag l p f) (row_later item.a_name (item.a_name ∷ close fixed.CloseParen ∷ []) 0 1 l (p + 2) (p + 3) (Unexpected (p + 3)) (omega arith) (to_param l p g) (row_here item.a_name (close fixed.CloseParen ∷ []) 0 1 l (p + 3) (Unexpected (p + 3)) (omega arith) (fails_name 1 l (p + 3) h))))

to_close : (l : List Token) (p : ℕ) → is_name (stands l (p + 3)) ≡ true → Step item.a_name 1 l (p + 3) (p + 4)
to_close l p h = step_to item.a_name 1 l (p + 3) (p + 3 + 1) (p + 4) (omega arith) (read_name 1 l (p + 3) h (omega arith))

pub header_open : (l : List Token) (p : ℕ) → is_fixed fixed.OpenParen (stands l p) ≡ true → is_fixed fixed.Struct (stands l (p + 1)) ≡ true → is_name (stands l (p + 2)) ≡ true → is_name (stands l (p + 3)) ≡ true → is_fixed fixed.CloseParen (stands l (p + 4)) ≡ false → FailsBy item.header 0 l p (Unexpected (p + 4))
header_open l p e f g h k =
    row_failed item.header (term fixed.Struct ∷ item.a_name ∷ item.a_name ∷ close fixed.CloseParen ∷ []) 0 l p (Unexpected (p + 4)) (header_at l p true e) (omega arith) (row_later (term fixed.Struct) (item.a_name ∷ item.a_name ∷ close fixed.CloseParen ∷ []) 0 1 l (p + 1) (p + 2) (Unexpected (p + 4)) (omega arith) (to_tag l p f) (row_later item.a_name (item.a_name ∷ close fixed.CloseParen ∷ []) 0 1 l (p + 2) (p + 3) (Unexpected (p + 4)) (omega arith) (to_param l p g) (row_later item.a_name (close fixed.CloseParen ∷ []) 0 1 l (p + 3) (p + 4) (Unexpected (p + 4)) (omega arith) (to_close l p h) (row_here (close fixed.CloseParen) [] 0 0 l (p + 4) (Unexpected (p + 4)) (omega arith) (fails_close fixed.CloseParen 0 l (p + 4) k)))))

pub reads_header : (l : List Token) (p : ℕ) → is_fixed fixed.OpenParen (stands l p) ≡ true → is_fixed fixed.Struct (stands l (p + 1)) ≡ true → is_name (stands l (p + 2)) ≡ true → is_name (stands l (p + 3)) ≡ true → is_fixed fixed.CloseParen (stands l (p + 4)) ≡ true → ReadsHeader l p
reads_header l p e f g h k =
    let inside = fixed_inside fixed.CloseParen l (p + 4) k in
    let second = mark_to (sign fixed.Struct (offset_at l (p + 1))) l (p + 1) (p + 1 + 1) (p + 2) (omega arith) (fixed_mark fixed.Struct l (p + 1) f) in
    let third = mark_to (name_mark (offset_at l (p + 2)) (text_at l (p + 2))) l (p + 2) (p + 2 + 1) (p + 3) (omega arith) (named_mark l (p + 2) g) in
    let fourth = mark_to (name_mark (offset_at l (p + 3)) (text_at l (p + 3))) l (p + 3) (p + 3 + 1) (p + 4) (omega arith) (named_mark l (p + 3) h) in
    let fifth = mark_to (sign fixed.CloseParen (offset_at l (p + 4))) l (p + 4) (p + 4 + 1) (p + 5) (omega arith) (fixed_mark fixed.CloseParen l (p + 4) k) in
    record {
      within = omega arith;
      reads = row_read item.header (term fixed.Struct ∷ item.a_name ∷ item.a_name ∷ close fixed.CloseParen ∷ []) 0 l p (p + 5) (header_at l p true e) (omega arith) (row_one (term fixed.Struct) (item.a_name ∷ item.a_name ∷ close fixed.CloseParen ∷ []) 0 1 l (p + 1) (p + 2) (p + 5) (omega arith) (to_tag l p f) (row_one item.a_name (item.a_name ∷ close fixed.CloseParen ∷ []) 0 1 l (p + 2) (p + 3) (p + 5) (omega arith) (to_param l p g) (row_one item.a_name (close fixed.CloseParen ∷ []) 0 1 l (p + 3) (p + 4) (p + 5) (omega arith) (to_close l p h) (row_one (close fixed.CloseParen) [] 0 0 l (p + 4) (p + 5) (p + 5) (omega arith) (step_to (close fixed.CloseParen) 0 l (p + 4) (p + 4 + 1) (p + 5) (omega arith) (read_close fixed.CloseParen 0 l (p + 4) k (omega arith))) (row_none 0 l (p + 5))))));
      spelled = (offset_at l p, offset_at l (p + 1), offset_at l (p + 4), fixed_mark fixed.OpenParen l p e ∙ ap (λ (y : List Mark). sign fixed.OpenParen (offset_at l p) ∷ y) (second ∙ ap (λ (y : List Mark). sign fixed.Struct (offset_at l (p + 1)) ∷ y) (third ∙ ap (λ (y : List Mark). name_mark (offset_at l (p + 2)) (text_at l (p + 2)) ∷ y) (fourth ∙ ap (λ (y : List Mark). name_mark (offset_at l (p + 3)) (text_at l (p + 3)) ∷ y) fifth))));
    }

-- the guard

guard_at : (l : List Token) (p : ℕ) (b : Bool) → is_fixed fixed.If (stands l p) ≡ b → expand item.guard (stands l p) (ahead l p) ≡ when b (item.condition ∷ [])
guard_at l p b e = ap (λ (x : Bool). when x (item.condition ∷ [])) e

pub passes_guard : (l : List Token) (p : ℕ) → p ≤ length l → is_fixed fixed.If (stands l p) ≡ false → Passes item.guard 0 (SpellsGuard None) l p p
passes_guard l p h e = record {
  forth = omega arith;
  within = h;
  reads = λ s z. skips l p item.guard s (guard_at l p false e) refl;
  spelled = ([], refl, (no_guard, tt, refl, refl));
}

pub guard_fails : (l : List Token) (p : ℕ) (f : Fault) → is_fixed fixed.If (stands l p) ≡ true → FailsBy item.condition 0 l (p + 1) f → FailsBy item.guard 0 l p f
guard_fails l p f e a = row_failed item.guard (item.condition ∷ []) 0 l p f (guard_at l p true e) (omega arith) (row_here item.condition [] 0 0 l (p + 1) f (omega arith) a)

pub reads_guard : (l : List Token) (p q : ℕ) (e : ExprForm) → is_fixed fixed.If (stands l p) ≡ true → Reads item.condition 0 (SpellsCondition e) l (p + 1) q → Passes item.guard 0 (SpellsGuard (Some e)) l p q
reads_guard l p q e x r =
    let a = r.forth in
    let c = r.spelled.2 in
    let o = offset_at l p in
    record {
      forth = omega arith;
      within = r.within;
      reads = row_read item.guard (item.condition ∷ []) 0 l p q (guard_at l p true x) (omega arith) (row_one item.condition [] 0 0 l (p + 1) q q (omega arith) r.reads (row_none 0 l q));
      spelled = (sign fixed.If o ∷ r.spelled.0, fixed_mark fixed.If l p x ∙ ap (λ (y : List Mark). sign fixed.If o ∷ y) r.spelled.1, (a_guard o c.0 c.1 c.2, c.3, ap (λ (y : List Mark). sign fixed.If o ∷ y) c.4, ap Some c.5));
    }

-- a transaction

pub transaction_name : (l : List Token) (p : ℕ) → is_name (stands l (p + 1)) ≡ false → FailsRowBy transaction_row l (p + 1) (Unexpected (p + 1))
transaction_name l p e = record { there = λ s z. fails l (p + 1) item.a_name (item.header ∷ item.guard ∷ item.block ∷ s) (ap (λ (b : Bool). when b []) e) refl }

name_step : (l : List Token) (p : ℕ) → is_name (stands l (p + 1)) ≡ true → Step item.a_name 0 l (p + 1) (p + 2)
name_step l p e = step_to item.a_name 0 l (p + 1) (p + 1 + 1) (p + 2) (omega arith) (read_name 0 l (p + 1) e (omega arith))

pub transaction_header : (l : List Token) (p : ℕ) (f : Fault) → is_name (stands l (p + 1)) ≡ true → FailsBy item.header 0 l (p + 2) f → FailsRowBy transaction_row l (p + 1) f
transaction_header l p (Unexpected q) e a = record { there = λ s z. name_step l p e (item.header ∷ item.guard ∷ item.block ∷ s) z ∙ a.there (item.guard ∷ item.block ∷ s) z }
transaction_header l p (TooNested q) e a = record { there = λ s z. name_step l p e (item.header ∷ item.guard ∷ item.block ∷ s) z ∙ a.there (item.guard ∷ item.block ∷ s) z }
transaction_header l p Memory e a = tt

to_guard : (l : List Token) (p : ℕ) → is_name (stands l (p + 1)) ≡ true → ReadsHeader l (p + 2) → (s : List Item) → held s ≡ 0 → fault_from l (p + 1) (transaction_row ++ s) ≡ fault_from l (p + 7) (item.guard ∷ item.block ∷ s)
to_guard l p e r s z =
    name_step l p e (item.header ∷ item.guard ∷ item.block ∷ s) z ∙ step_to item.header 0 l (p + 2) (p + 2 + 5) (p + 7) (omega arith) r.reads (item.guard ∷ item.block ∷ s) z

pub transaction_guard : (l : List Token) (p : ℕ) (f : Fault) → is_name (stands l (p + 1)) ≡ true → ReadsHeader l (p + 2) → FailsBy item.guard 0 l (p + 7) f → FailsRowBy transaction_row l (p + 1) f
transaction_guard l p (Unexpected q) e r a = record { there = λ s z. to_guard l p e r s z ∙ a.there (item.block ∷ s) z }
transaction_guard l p (TooNested q) e r a = record { there = λ s z. to_guard l p e r s z ∙ a.there (item.block ∷ s) z }
transaction_guard l p Memory e r a = tt

pub transaction_block : (Is : List Mark → Type 0) (l : List Token) (p q : ℕ) (f : Fault) → is_name (stands l (p + 1)) ≡ true → ReadsHeader l (p + 2) → Passes item.guard 0 Is l (p + 7) q → FailsBy item.block 0 l q f → FailsRowBy transaction_row l (p + 1) f
transaction_block Is l p q (Unexpected x) e r g a = record { there = λ s z. to_guard l p e r s z ∙ g.reads (item.block ∷ s) z ∙ a.there s z }
transaction_block Is l p q (TooNested x) e r g a = record { there = λ s z. to_guard l p e r s z ∙ g.reads (item.block ∷ s) z ∙ a.there s z }
transaction_block Is l p q Memory e r g a = tt

pub reads_transaction : (l : List Token) (p q u : ℕ) (g : Option ExprForm) (ss : StmtForms) (t : TransactionForm) → is_fixed fixed.Void (stands l p) ≡ true → is_name (stands l (p + 1)) ≡ true → ReadsHeader l (p + 2) → Passes item.guard 0 (SpellsGuard g) l (p + 7) q → Reads item.block 0 (SpellsBlock ss) l q u → t ≡ record { tag_at = offset_at l (p + 4); tag = text_at l (p + 4); param_at = offset_at l (p + 5); param = text_at l (p + 5); guard = g; body = ss } → ReadsTransaction l p u t
reads_transaction l p q u g ss t v e r x y is =
    let a = x.forth in let b = y.forth in
    let four : p + 2 + 2 ≡ p + 4 = omega arith in
    let five : p + 2 + 3 ≡ p + 5 = omega arith in
    let seven : p + 2 + 5 ≡ p + 7 = omega arith in
    let h = r.spelled in let gw = x.spelled.2 in let c = y.spelled.2 in
    let o = offset_at l p in let n = name_mark (offset_at l (p + 1)) (text_at l (p + 1)) in
    let second = mark_to n l (p + 1) (p + 1 + 1) (p + 2) (omega arith) (named_mark l (p + 1) e) in
    let middle : rest l (p + 2) ≡ sign fixed.OpenParen h.0 ∷ sign fixed.Struct h.1 ∷ name_mark (offset_at l (p + 4)) (text_at l (p + 4)) ∷ name_mark (offset_at l (p + 5)) (text_at l (p + 5)) ∷ sign fixed.CloseParen h.2 ∷ rest l (p + 7) = h.3 ∙ ap (λ (k : ℕ). sign fixed.OpenParen h.0 ∷ sign fixed.Struct h.1 ∷ name_mark (offset_at l k) (text_at l k) ∷ name_mark (offset_at l (p + 2 + 3)) (text_at l (p + 2 + 3)) ∷ sign fixed.CloseParen h.2 ∷ rest l (p + 2 + 5)) four ∙ ap (λ (k : ℕ). sign fixed.OpenParen h.0 ∷ sign fixed.Struct h.1 ∷ name_mark (offset_at l (p + 4)) (text_at l (p + 4)) ∷ name_mark (offset_at l k) (text_at l k) ∷ sign fixed.CloseParen h.2 ∷ rest l (p + 2 + 5)) five ∙ ap (λ (k : ℕ). sign fixed.OpenParen h.0 ∷ sign fixed.Struct h.1 ∷ name_mark (offset_at l (p + 4)) (text_at l (p + 4)) ∷ name_mark (offset_at l (p + 5)) (text_at l (p + 5)) ∷ sign fixed.CloseParen h.2 ∷ rest l k) seven in
    let read_block : rest l q ≡ (sign fixed.OpenBrace c.0 ∷ (stmts_tokens c.1 ++ sign fixed.CloseBrace c.2 ∷ [])) ++ rest l u = y.spelled.1 ∙ ap (λ (k : List Mark). k ++ rest l u) (sym c.4) in
    let read_rest : rest l (p + 7) ≡ (guard_tokens gw.0 ++ sign fixed.OpenBrace c.0 ∷ (stmts_tokens c.1 ++ sign fixed.CloseBrace c.2 ∷ [])) ++ rest l u = x.spelled.1 ∙ ap (λ (k : List Mark). k ++ rest l q) (sym gw.2) ∙ ap (λ (k : List Mark). guard_tokens gw.0 ++ k) read_block ∙ sym (append_assoc (guard_tokens gw.0) (sign fixed.OpenBrace c.0 ∷ (stmts_tokens c.1 ++ sign fixed.CloseBrace c.2 ∷ [])) (rest l u)) in
    let way : Transaction = record { void_at = o; name_at = offset_at l (p + 1); name = text_at l (p + 1); open_at = h.0; struct_at = h.1; tag_at = offset_at l (p + 4); tag = text_at l (p + 4); param_at = offset_at l (p + 5); param = text_at l (p + 5); close_at = h.2; guard = gw.0; begin_at = c.0; body = c.1; end_at = c.2 } in
    record {
      forth = omega arith;
      within = y.within;
      reads = λ s z. to_guard l p e r s z ∙ x.reads (item.block ∷ s) z ∙ y.reads s z;
      spelled = (way, (gw.1, c.3), fixed_mark fixed.Void l p v ∙ ap (λ (k : List Mark). sign fixed.Void o ∷ k) (second ∙ ap (λ (k : List Mark). n ∷ k) (middle ∙ ap (λ (k : List Mark). sign fixed.OpenParen h.0 ∷ sign fixed.Struct h.1 ∷ name_mark (offset_at l (p + 4)) (text_at l (p + 4)) ∷ name_mark (offset_at l (p + 5)) (text_at l (p + 5)) ∷ sign fixed.CloseParen h.2 ∷ k) read_rest)), ap (λ (k : Option ExprForm). record { tag_at = offset_at l (p + 4); tag = text_at l (p + 4); param_at = offset_at l (p + 5); param = text_at l (p + 5); guard = k; body = stmts_trees c.1 }) gw.3 ∙ ap (λ (k : StmtForms). record { tag_at = offset_at l (p + 4); tag = text_at l (p + 4); param_at = offset_at l (p + 5); param = text_at l (p + 5); guard = g; body = k }) c.5 ∙ sym is);
    }

-- several transactions

pub no_transaction : (l : List Token) (p : ℕ) → is_fixed fixed.Void (stands l p) ≡ false → FailsWholeBy (term fixed.Void ∷ (transaction_row ++ item.transactions ∷ [])) l p (Unexpected p)
no_transaction l p e = record { there = fails l p (term fixed.Void) (transaction_row ++ item.transactions ∷ []) (ap (λ (b : Bool). when b []) e) refl }

void_step : (l : List Token) (p : ℕ) → is_fixed fixed.Void (stands l p) ≡ true → (s : List Item) → held s ≡ 0 → fault_from l p (term fixed.Void ∷ s) ≡ fault_from l (p + 1) s
void_step l p e s z = read_term fixed.Void 0 l p e (omega arith) s z

pub first_fails_so : (l : List Token) (p : ℕ) (f : Fault) → is_fixed fixed.Void (stands l p) ≡ true → FailsRowBy transaction_row l (p + 1) f → FailsWholeBy (term fixed.Void ∷ (transaction_row ++ item.transactions ∷ [])) l p f
first_fails_so l p (Unexpected q) e a = record { there = void_step l p e (transaction_row ++ item.transactions ∷ []) refl ∙ a.there (item.transactions ∷ []) refl }
first_fails_so l p (TooNested q) e a = record { there = void_step l p e (transaction_row ++ item.transactions ∷ []) refl ∙ a.there (item.transactions ∷ []) refl }
first_fails_so l p Memory e a = tt

pub transactions_start : (l : List Token) (p q : ℕ) (t : TransactionForm) → is_fixed fixed.Void (stands l p) ≡ true → ReadsTransaction l p q t → TransactionsSoFar l p q (t ∷ [])
transactions_start l p q t e r = record {
  forth = r.forth;
  within = r.within;
  reads = λ s z. void_step l p e (transaction_row ++ item.transactions ∷ s) z ∙ r.reads (item.transactions ∷ s) z;
  spelled = λ ws tail a eq. (r.spelled.0, ws, r.spelled.1, a, r.spelled.2 ∙ ap (λ (k : List Mark). transaction_tokens r.spelled.0 ++ k) eq, ap (λ (k : TransactionForm). k ∷ transaction_trees ws) r.spelled.3);
}

more_at : (l : List Token) (p : ℕ) (b : Bool) → is_fixed fixed.Void (stands l p) ≡ b → expand item.transactions (stands l p) (ahead l p) ≡ when b (item.a_name ∷ item.header ∷ item.guard ∷ item.block ∷ item.transactions ∷ [])
more_at l p b e = ap (λ (x : Bool). when x (item.a_name ∷ item.header ∷ item.guard ∷ item.block ∷ item.transactions ∷ [])) e

more_step : (l : List Token) (p : ℕ) → is_fixed fixed.Void (stands l p) ≡ true → (s : List Item) → held s ≡ 0 → fault_from l p (item.transactions ∷ s) ≡ fault_from l (p + 1) (transaction_row ++ item.transactions ∷ s)
more_step l p e s z = takes l p item.transactions (item.a_name ∷ item.header ∷ item.guard ∷ item.block ∷ item.transactions ∷ []) s (more_at l p true e) (omega arith)

pub transactions_next : (l : List Token) (p next after : ℕ) (done all : List TransactionTree) (t : TransactionTree) → TransactionsSoFar l p next (map transaction_form done) → is_fixed fixed.Void (stands l next) ≡ true → ReadsTransaction l next after (transaction_form t) → all ≡ done ++ t ∷ [] → TransactionsSoFar l p after (map transaction_form all)
transactions_next l p next after done all t m e r is =
    let a = m.forth in let b = r.forth in
    let pushed : map transaction_form all ≡ map transaction_form done ++ transaction_form t ∷ [] = ap (map transaction_form) is ∙ map-append transaction_form done (t ∷ []) in
    record {
      forth = omega arith;
      within = r.within;
      reads = λ s z. m.reads s z ∙ more_step l next e s z ∙ r.reads (item.transactions ∷ s) z;
      spelled = λ ws tail aq eq.
          let w = m.spelled (r.spelled.0 ∷ ws) tail (r.spelled.1, aq) (r.spelled.2 ∙ ap (λ (k : List Mark). transaction_tokens r.spelled.0 ++ k) eq ∙ sym (append_assoc (transaction_tokens r.spelled.0) (transactions_tokens ws) tail)) in
          (w.0, w.1, w.2, w.3, w.4, w.5 ∙ ap (λ (k : TransactionForm). map transaction_form done ++ k ∷ transaction_trees ws) r.spelled.3 ∙ sym (append_assoc (map transaction_form done) (transaction_form t ∷ []) (transaction_trees ws)) ∙ ap (λ (k : List TransactionForm). k ++ transaction_trees ws) (sym pushed));
    }

pub transactions_fail : (l : List Token) (p next : ℕ) (done : List TransactionForm) (f : Fault) → TransactionsSoFar l p next done → is_fixed fixed.Void (stands l next) ≡ true → FailsRowBy transaction_row l (next + 1) f → FailsWholeBy (term fixed.Void ∷ (transaction_row ++ item.transactions ∷ [])) l p f
transactions_fail l p next done (Unexpected q) m e a = record { there = m.reads [] refl ∙ more_step l next e [] refl ∙ a.there (item.transactions ∷ []) refl }
transactions_fail l p next done (TooNested q) m e a = record { there = m.reads [] refl ∙ more_step l next e [] refl ∙ a.there (item.transactions ∷ []) refl }
transactions_fail l p next done Memory m e a = tt

pub reads_transactions : (l : List Token) (p next : ℕ) (ts : List TransactionForm) → TransactionsSoFar l p next ts → is_fixed fixed.Void (stands l next) ≡ false → ReadsTransactions l p next ts
reads_transactions l p next ts m e =
    let w = m.spelled [] (rest l next) tt refl in
    record {
      within = m.within;
      reads = m.reads [] refl ∙ skips l next item.transactions [] (more_at l next false e) refl;
      spelled = (w.0, w.1, w.2, w.3, w.4, w.5 ∙ append-nil ts);
    }

-- heads

pub heads_before : (l : List Token) (f : Fault) → FailsBy item.decls 0 l 0 f → FailsRowBy (item.decls ∷ item.structure ∷ item.decls ∷ []) l 0 f
heads_before l (Unexpected q) a = record { there = λ s z. a.there (item.structure ∷ item.decls ∷ s) z }
heads_before l (TooNested q) a = record { there = λ s z. a.there (item.structure ∷ item.decls ∷ s) z }
heads_before l Memory a = tt

pub heads_struct : (l : List Token) (p : ℕ) (hs : List Head) (f : Fault) → ReadsDecls l 0 p [] hs → FailsBy item.structure 0 l p f → FailsRowBy (item.decls ∷ item.structure ∷ item.decls ∷ []) l 0 f
heads_struct l p hs (Unexpected q) r a = record { there = λ s z. r.reads (item.structure ∷ item.decls ∷ s) z ∙ a.there (item.decls ∷ s) z }
heads_struct l p hs (TooNested q) r a = record { there = λ s z. r.reads (item.structure ∷ item.decls ∷ s) z ∙ a.there (item.decls ∷ s) z }
heads_struct l p hs Memory r a = tt

pub heads_after : (Is : List Mark → Type 0) (l : List Token) (p q : ℕ) (hs : List Head) (f : Fault) → ReadsDecls l 0 p [] hs → Reads item.structure 0 Is l p q → FailsBy item.decls 0 l q f → FailsRowBy (item.decls ∷ item.structure ∷ item.decls ∷ []) l 0 f
heads_after Is l p q hs (Unexpected x) r u a = record { there = λ s z. r.reads (item.structure ∷ item.decls ∷ s) z ∙ u.reads (item.decls ∷ s) z ∙ a.there s z }
heads_after Is l p q hs (TooNested x) r u a = record { there = λ s z. r.reads (item.structure ∷ item.decls ∷ s) z ∙ u.reads (item.decls ∷ s) z ∙ a.there s z }
heads_after Is l p q hs Memory r u a = tt

pub reads_heads : (l : List Token) (p q u : ℕ) (before hs all : List Head) (h : Head) → ReadsDecls l 0 p [] before → Reads item.structure 0 (SpellsStruct h) l p q → hs ≡ before ++ h ∷ [] → ReadsDecls l q u hs all → ReadsHeads l u all
reads_heads l p q u before hs all h r x is y =
    let d = r.spelled in let z = x.spelled.2 in let e = y.spelled in
    let read_struct : rest l p ≡ struct_tokens z.0 ++ rest l q = x.spelled.1 ∙ ap (λ (k : List Mark). k ++ rest l q) (sym z.1) in
    record {
      within = y.within;
      reads = λ s v. r.reads (item.structure ∷ item.decls ∷ s) v ∙ x.reads (item.decls ∷ s) v ∙ y.reads s v;
      spelled = (d.0, z.0, e.0, d.1 ∙ ap (λ (k : List Mark). decls_tokens d.0 ++ k) (read_struct ∙ ap (λ (k : List Mark). struct_tokens z.0 ++ k) e.1), ap (λ (k : List Head). k ++ struct_tree z.0 ∷ decls_trees e.0) d.2 ∙ ap (λ (k : Head). before ++ k ∷ decls_trees e.0) z.2 ∙ sym (append_assoc before (h ∷ []) (decls_trees e.0)) ∙ ap (λ (k : List Head). k ++ decls_trees e.0) (sym is) ∙ e.2);
    }

-- the whole

pub whole_heads : (l : List Token) (f : Fault) → FailsRowBy (item.decls ∷ item.structure ∷ item.decls ∷ []) l 0 f → FailsWholeBy whole l 0 f
whole_heads l (Unexpected q) a = record { there = a.there (term fixed.Void ∷ (transaction_row ++ item.transactions ∷ [])) refl }
whole_heads l (TooNested q) a = record { there = a.there (term fixed.Void ∷ (transaction_row ++ item.transactions ∷ [])) refl }
whole_heads l Memory a = tt

pub whole_transactions : (l : List Token) (q : ℕ) (hs : List Head) (f : Fault) → ReadsHeads l q hs → FailsWholeBy (term fixed.Void ∷ (transaction_row ++ item.transactions ∷ [])) l q f → FailsWholeBy whole l 0 f
whole_transactions l q hs (Unexpected x) r a = record { there = r.reads (term fixed.Void ∷ (transaction_row ++ item.transactions ∷ [])) refl ∙ a.there }
whole_transactions l q hs (TooNested x) r a = record { there = r.reads (term fixed.Void ∷ (transaction_row ++ item.transactions ∷ [])) refl ∙ a.there }
whole_transactions l q hs Memory r a = tt

get_none : (l : List Token) (q : ℕ) → length l ≤ q → slice_get l q ≡ None
get_none [] zero h = refl
get_none [] (suc q) h = refl
get_none (x ∷ l) zero h = absurd (omega arith)
get_none (x ∷ l) (suc q) h = get_none l q (omega arith)

nothing_more : (l : List Token) (q : ℕ) → length l ≤ q → rest l q ≡ []
nothing_more l q h = rest_end l q (get_none l q h)

pub whole_rest : (l : List Token) (q u : ℕ) (hs : List Head) (ts : List TransactionForm) → ReadsHeads l q hs → ReadsTransactions l q u ts → u < length l → FailsWholeBy whole l 0 (Unexpected u)
whole_rest l q u hs ts r x h = record { there = r.reads (term fixed.Void ∷ (transaction_row ++ item.transactions ∷ [])) refl ∙ x.reads ∙ rest_there l u h }

pub reads_whole : (l : List Token) (q u : ℕ) (hs : List Head) (ts : List TransactionForm) → ReadsHeads l q hs → ReadsTransactions l q u ts → length l ≤ u → ReadsWhole (record { heads = hs; transactions = ts }) l
reads_whole l q u hs ts r x h =
    let a = r.spelled in let b = x.spelled in
    let done = nothing_more l u h in
    let tail : rest l q ≡ transaction_tokens b.0 ++ transactions_tokens b.1 = b.4 ∙ ap (λ (k : List Mark). transaction_tokens b.0 ++ (transactions_tokens b.1 ++ k)) done ∙ ap (λ (k : List Mark). transaction_tokens b.0 ++ k) (append-nil (transactions_tokens b.1)) in
    record {
      spelled = (program a.0 a.1 a.2 b.0 b.1, (b.2, b.3), sym (a.3 ∙ ap (λ (k : List Mark). decls_tokens a.0 ++ (struct_tokens a.1 ++ (decls_tokens a.2 ++ k))) tail), ap (λ (k : List Head). record { heads = k; transactions = transaction_tree b.0 ∷ transaction_trees b.1 }) a.4 ∙ ap (λ (k : List TransactionForm). record { heads = hs; transactions = k }) b.5);
      reads = r.reads (term fixed.Void ∷ (transaction_row ++ item.transactions ∷ [])) refl ∙ x.reads ∙ ap (λ (k : List Mark). problem u (trace [] k)) done;
    }
