-- What is known where a list is read in part: its items so far, and what the whole is with the rest.
use Rattle.std.specs.Prelude.{◌≡◌, ℕ, ◌+◌, ◌<◌, ◌≤◌, List, [], ◌∷◌, ◌++◌, length}
use Rattle.dom_words.specs.declared.operators.BinOp.{BinOp}
use Rattle.dom_lexer.specs.declared.token.Token.{Token}
use Rattle.dom_ast.specs.declared.program.Head.{Head}
use Rattle.dom_ast.specs.Form.{ExprForm, ExprForms, StmtForm, StmtForms, TransactionForm, expr, stmt}
use Rattle.dom_parser.specs.declared.kinds.Fixed.TheVariants as fixed
use Rattle.dom_parser.specs.Tokens.{Mark}
use Rattle.dom_parser.specs.inner.AtPlace.{rest}
use Rattle.dom_parser.specs.Grammar.{sign, More, IsAfter, more_tokens, more_trees, Tail, and_op, Args, AreArgs, arg_tokens, arg_trees, MoreArgs, AreMoreArgs, more_arg_tokens, more_arg_trees, Stmts, AreStmts, stmts_tokens, stmts_trees, Decls, decls_tokens, decls_trees, Field, fields_tokens, fields_trees, Transaction, IsTransaction, transaction_tokens, transaction_tree, transactions_tokens, AreTransactions, transaction_trees}
use Rattle.dom_parser.specs.inner.Following as item
use Rattle.dom_parser.specs.inner.Following.{Item, close, level, more, more_args, name_rest, stmts, held, fault_from}
use Rattle.dom_parser.specs.inner.Reads.{Reads, SpellsExpr}
use Rattle.dom_parser.specs.inner.HeadReads.{transaction_row}

-- operators and operands before a tail
abbrev pub with_ops : List (BinOp × ExprForm) → Tail → Tail
with_ops [] t = t
with_ops (f ∷ fs) t = and_op f.0 f.1 (with_ops fs t)

-- the operands read so far: whatever completes the rest completes the whole
pub record OpsSoFar (n k : ℕ) (l : List Token) (start next : ℕ) (fs : List (BinOp × ExprForm)) : Type 0 where
  pub forth : start ≤ next
  pub within : next ≤ length l
  pub reads : (s : List Item) → held s ≡ n → fault_from l start (more k ∷ s) ≡ fault_from l next (more k ∷ s)
  pub spelled : (m : More) (tail : List Mark) → IsAfter k m → rest l next ≡ more_tokens m ++ tail → (way : More) × IsAfter k way × (rest l start ≡ more_tokens way ++ tail) × (more_trees way ≡ with_ops fs (more_trees m))

-- a first operand and those after it
pub record LevelSoFar (n k : ℕ) (l : List Token) (p next : ℕ) (e : ExprForm) (fs : List (BinOp × ExprForm)) : Type 0 where
  pub start : ℕ
  pub first : Reads (level k) n (SpellsExpr k e) l p start
  pub others : OpsSoFar n k l start next fs

-- arguments before others
abbrev pub with_args : List ExprForm → ExprForms → ExprForms
with_args [] t = t
with_args (e ∷ es) t = expr e (with_args es t)

-- the arguments read so far, from the bracket at p on
pub record ArgsSoFar (n : ℕ) (l : List Token) (p next : ℕ) (es : List ExprForm) : Type 0 where
  pub forth : p + 1 < next
  pub within : next ≤ length l
  pub reads : (s : List Item) → held s ≡ n → fault_from l p (name_rest ∷ s) ≡ fault_from l next (more_args ∷ close fixed.CloseParen ∷ s)
  pub spelled : (m : MoreArgs) (tail : List Mark) → AreMoreArgs m → rest l next ≡ more_arg_tokens m ++ tail → (way : Args) × AreArgs way × (rest l (p + 1) ≡ arg_tokens way ++ tail) × (arg_trees way ≡ with_args es (more_arg_trees m))

-- statements before others
abbrev pub with_stmts : List StmtForm → StmtForms → StmtForms
with_stmts [] t = t
with_stmts (a ∷ ss) t = stmt a (with_stmts ss t)

-- the statements read so far, from the brace at p on
pub record StmtsSoFar (n : ℕ) (l : List Token) (p next : ℕ) (ss : List StmtForm) : Type 0 where
  pub forth : p < next
  pub within : next ≤ length l
  pub reads : (s : List Item) → held s ≡ n + 1 → fault_from l (p + 1) (stmts ∷ s) ≡ fault_from l next (stmts ∷ s)
  pub spelled : (q : Stmts) (tail : List Mark) → AreStmts q → rest l next ≡ stmts_tokens q ++ tail → (way : Stmts) × AreStmts way × (rest l (p + 1) ≡ stmts_tokens way ++ tail) × (stmts_trees way ≡ with_stmts ss (stmts_trees q))

pub record DeclsSoFar (l : List Token) (p next : ℕ) (before all : List Head) : Type 0 where
  pub forth : p ≤ next
  pub within : next ≤ length l
  pub reads : (s : List Item) → held s ≡ 0 → fault_from l p (item.decls ∷ s) ≡ fault_from l next (item.decls ∷ s)
  pub spelled : (q : Decls) (tail : List Mark) → rest l next ≡ decls_tokens q ++ tail → (way : Decls) × (rest l p ≡ decls_tokens way ++ tail) × (before ++ decls_trees way ≡ all ++ decls_trees q)

pub record FieldsSoFar (l : List Token) (p next : ℕ) (fs : List (ℕ × List ℕ)) : Type 0 where
  pub forth : p + 4 ≤ next
  pub within : next ≤ length l
  pub reads : (s : List Item) → held s ≡ 0 → fault_from l p (item.field_block ∷ s) ≡ fault_from l next (item.fields ∷ close fixed.CloseBrace ∷ s)
  pub spelled : (q : List Field) (tail : List Mark) → rest l next ≡ fields_tokens q ++ tail → (o : ℕ) × (f : Field) × (others : List Field) × (rest l p ≡ sign fixed.OpenBrace o ∷ (fields_tokens (f ∷ others) ++ tail)) × (fields_trees (f ∷ others) ≡ fs ++ fields_trees q)

-- transactions, of which the first stands at p
pub record TransactionsSoFar (l : List Token) (p next : ℕ) (ts : List TransactionForm) : Type 0 where
  pub forth : p < next
  pub within : next ≤ length l
  pub reads : (s : List Item) → held s ≡ 0 → fault_from l p (item.term fixed.Void ∷ (transaction_row ++ item.transactions ∷ s)) ≡ fault_from l next (item.transactions ∷ s)
  pub spelled : (q : List Transaction) (tail : List Mark) → AreTransactions q → rest l next ≡ transactions_tokens q ++ tail → (w : Transaction) × (ws : List Transaction) × IsTransaction w × AreTransactions ws × (rest l p ≡ transaction_tokens w ++ (transactions_tokens ws ++ tail)) × (transaction_tree w ∷ transaction_trees ws ≡ ts ++ transaction_trees q)
