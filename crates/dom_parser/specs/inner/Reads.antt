-- What the parser's functions read, and where they fail. Only proofs and contracts of private functions cite this.
use Rattle.std.specs.Prelude.{◌≡◌, ℕ, ◌+◌, ◌<◌, ◌≤◌, if◌then◌else◌, List, [], ◌∷◌, ◌++◌, Option, Some, None, length}
use Rattle.dom_words.specs.Number.{negated}
use Rattle.dom_lexer.specs.declared.token.Token.{Token}
use Rattle.dom_ast.specs.Form.{ExprForm, ExprForms, TargetForm, StmtForm, StmtForms}
use Rattle.dom_parser.specs.declared.faults.Fault.{Fault}
use Rattle.dom_parser.specs.declared.faults.Fault.TheVariants.{Unexpected, TooNested, Memory}
use Rattle.dom_words.specs.declared.operators.UnOp.{UnOp}
use Rattle.dom_parser.specs.declared.kinds.Fixed.{Fixed}
use Rattle.dom_parser.specs.declared.kinds.Fixed.TheVariants as fixed
use Rattle.dom_parser.specs.declared.kinds.Kind.{Kind}
use Rattle.dom_parser.specs.Tokens.{Mark, stands, offset_at, ahead}
use Rattle.dom_parser.specs.inner.AtPlace.{rest, number_of}
use Rattle.dom_parser.specs.Grammar.{top, sign, Way, IsAt, tokens, tree, Args, AreArgs, arg_tokens, arg_trees, TargetWay, IsTarget, target_tokens, target_tree, first_place, Assign, IsAssign, assign_tokens, assign_tree, Stmts, AreStmts, stmts_tokens, stmts_trees, Stmt, IsStmt, stmt_tokens, stmt_tree, Body, IsBody, body_tokens, body_tree, Else, IsElse, else_tokens, else_tree}
use Rattle.dom_parser.specs.inner.Following.{Item, level, close, name_rest, target_rest, expand, is_neg, Problem, bad, deep, held, fault_from}

-- where n constructs are open, the item has a fault
pub record Fails (i : Item) (n : ℕ) (l : List Token) (p : ℕ) (f : Problem) : Type 0 where
  pub there : (s : List Item) → held s ≡ n → fault_from l p (i ∷ s) ≡ Some f

abbrev pub FailsBy : Item → ℕ → List Token → ℕ → Fault → Type 0
FailsBy i n l p (Unexpected q) = Fails i n l p (bad q)
FailsBy i n l p (TooNested q) = Fails i n l p (deep q)
FailsBy i n l p Memory = Unit {0}

-- where n constructs are open, the item is read from p to q
abbrev pub Step : Item → ℕ → List Token → ℕ → ℕ → Type 0
Step i n l p q = (s : List Item) → held s ≡ n → fault_from l p (i ∷ s) ≡ fault_from l q s

-- and the tokens between are as `Is` says
pub record Reads (i : Item) (n : ℕ) (Is : List Mark → Type 0) (l : List Token) (p q : ℕ) : Type 0 where
  pub forth : p < q
  pub within : q ≤ length l
  pub reads : Step i n l p q
  pub spelled : (ts : List Mark) × (rest l p ≡ ts ++ rest l q) × Is ts

-- the same where there may be none
pub record Passes (i : Item) (n : ℕ) (Is : List Mark → Type 0) (l : List Token) (p q : ℕ) : Type 0 where
  pub forth : p ≤ q
  pub within : q ≤ length l
  pub reads : Step i n l p q
  pub spelled : (ts : List Mark) × (rest l p ≡ ts ++ rest l q) × Is ts

abbrev pub SpellsExpr : ℕ → ExprForm → List Mark → Type 0
SpellsExpr k e ts = (way : Way) × IsAt k way × (tokens way ≡ ts) × (tree way ≡ e)

-- where a bracket stands at p: an expression up to its partner
pub record ReadsIn (f : Fixed) (n : ℕ) (l : List Token) (p q : ℕ) (e : ExprForm) : Type 0 where
  pub forth : p + 2 < q
  pub within : q ≤ length l
  pub reads : (i : Item) → expand i (stands l p) (ahead l p) ≡ Some (level top ∷ close f ∷ []) → Step i n l p q
  pub spelled : (way : Way) × IsAt top way × (r : ℕ) × (rest l (p + 1) ≡ tokens way ++ sign f r ∷ rest l q) × (tree way ≡ e)

pub record FailsIn (f : Fixed) (n : ℕ) (l : List Token) (p : ℕ) (fault : Fault) : Type 0 where
  pub there : (i : Item) → expand i (stands l p) (ahead l p) ≡ Some (level top ∷ close f ∷ []) → FailsBy i n l p fault

-- where a bracket stands at p: arguments up to its partner
pub record ReadsArgs (n : ℕ) (l : List Token) (p q : ℕ) (es : ExprForms) : Type 0 where
  pub forth : p + 1 < q
  pub within : q ≤ length l
  pub reads : Step name_rest n l p q
  pub spelled : (way : Args) × AreArgs way × (r : ℕ) × (rest l (p + 1) ≡ arg_tokens way ++ sign fixed.CloseParen r ∷ rest l q) × (arg_trees way ≡ es)

-- the word of a number after an operator, where that is a `-`
abbrev pub negated_in : UnOp → Kind → Option ℕ
negated_in o k = if is_neg o then negated (number_of k) else None

-- a target, of which the name stands at p
pub record ReadsTarget (n : ℕ) (l : List Token) (p q : ℕ) (t : TargetForm) : Type 0 where
  pub forth : p < q
  pub within : q ≤ length l
  pub reads : Step target_rest n l (p + 1) q
  pub spelled : (way : TargetWay) × IsTarget way × (rest l p ≡ target_tokens way ++ rest l q) × (target_tree way ≡ t) × (first_place way ≡ offset_at l p)

abbrev pub SpellsAssign : StmtForm → List Mark → Type 0
SpellsAssign a ts = (way : Assign) × IsAssign way × (assign_tokens way ≡ ts) × (assign_tree way ≡ a)

abbrev pub SpellsCondition : ExprForm → List Mark → Type 0
SpellsCondition e ts = (p : ℕ) × (way : Way) × (q : ℕ) × IsAt top way × (sign fixed.OpenParen p ∷ (tokens way ++ sign fixed.CloseParen q ∷ []) ≡ ts) × (tree way ≡ e)

abbrev pub SpellsStmt : StmtForm → List Mark → Type 0
SpellsStmt a ts = (way : Stmt) × IsStmt way × (stmt_tokens way ≡ ts) × (stmt_tree way ≡ a)

abbrev pub SpellsBlock : StmtForms → List Mark → Type 0
SpellsBlock ss ts = (p : ℕ) × (way : Stmts) × (q : ℕ) × AreStmts way × (sign fixed.OpenBrace p ∷ (stmts_tokens way ++ sign fixed.CloseBrace q ∷ []) ≡ ts) × (stmts_trees way ≡ ss)

abbrev pub SpellsBody : StmtForms → List Mark → Type 0
SpellsBody ss ts = (way : Body) × IsBody way × (body_tokens way ≡ ts) × (body_tree way ≡ ss)

abbrev pub SpellsElse : StmtForms → List Mark → Type 0
SpellsElse ss ts = (way : Else) × IsElse way × (else_tokens way ≡ ts) × (else_tree way ≡ ss)
