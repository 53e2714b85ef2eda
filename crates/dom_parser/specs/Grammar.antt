-- The grammar. For each rule there is a type of the ways to spell it, with a constructor for each of its alternatives, or a
-- record where a rule has one alternative and many tokens. A constructor has the tokens from left to right: of each its
-- offset, and then the name, the number or the operator that it has, if it has one; in `and_then` alone the operator stands
-- before its offset, and in `an_if` and `a_global` a record of the marks stands first. Of a way there are the tokens that it
-- spells, the tree that they stand for, and, for each token, the number of open constructs.
use Rattle.std.specs.Prelude.{◌≡◌, ℕ, zero, suc, ◌-◌, ◌%◌, ◌^◌, ◌≤◌, List, [], ◌∷◌, ◌++◌, map, flat_map, Option, Some, None}
use Rattle.dom_words.specs.declared.operators.BinOp.{BinOp}
use Rattle.dom_words.specs.declared.operators.BinOp.TheVariants as bin
use Rattle.dom_words.specs.declared.operators.UnOp.{UnOp}
use Rattle.dom_words.specs.declared.operators.UnOp.TheVariants as un
use Rattle.dom_lexer.specs.declared.token.Token.{Token}
use Rattle.dom_ast.specs.declared.program.Head.{Head}
use Rattle.dom_ast.specs.declared.program.Head.TheVariants as head
use Rattle.dom_ast.specs.declared.program.Length.{Length}
use Rattle.dom_ast.specs.declared.program.Length.TheVariants as extent
use Rattle.dom_ast.specs.declared.program.Init.{Init}
use Rattle.dom_ast.specs.declared.program.Init.TheVariants as init
use Rattle.dom_ast.specs.Form.{ExprForm, number, word, field, index, call, un, chain, choice, ExprForms, no_exprs, expr, OpForms, no_ops, op, TargetForm, to_word, to_field, to_index, StmtForm, assign, branch, StmtForms, no_stmts, stmt, TransactionForm, ProgramForm}
use Rattle.dom_parser.specs.declared.kinds.Fixed.{Fixed}
use Rattle.dom_parser.specs.declared.kinds.Fixed.TheVariants as fixed
use Rattle.dom_parser.specs.declared.kinds.Kind.{Kind}
use Rattle.dom_parser.specs.declared.kinds.Kind.TheVariants as kind
use Rattle.dom_parser.specs.Tokens.{Mark, mark, rank_of}

-- tokens: an own word or a symbol, a name, a number, an operator between operands, one before an operand
abbrev pub sign : Fixed → ℕ → Mark
sign f p = record { place = p; kind = kind.Fixed f; text = [] }

abbrev pub name_mark : ℕ → List ℕ → Mark
name_mark p n = record { place = p; kind = kind.Name; text = n }

abbrev pub number_mark : ℕ → ℕ → Mark
number_mark p w = record { place = p; kind = kind.Number w; text = [] }

abbrev pub bin_mark : BinOp → ℕ → Mark
bin_mark o p = record { place = p; kind = kind.Operator o; text = [] }

abbrev pub un_kind : UnOp → Kind
un_kind un.Neg = kind.Operator bin.Sub
un_kind un.Inv = kind.Inv
un_kind un.Not = kind.Not

abbrev pub un_mark : UnOp → ℕ → Mark
un_mark o p = record { place = p; kind = un_kind o; text = [] }

-- the weakest level of expressions: that of conditionals
abbrev pub top : ℕ
top = 11

-- Expressions of all levels. Level 0 is
--   ("-" | "~" | "!") Level 0 | Number | Name | Name "." Name | Name "[" Level 11 "]"
--   | Name "(" [ Level 11 { "," Level 11 } ] ")" | "(" Level 11 ")"
-- where a "-" directly before a Number is part of the number. Level k + 1 is
--   Level k { operator of rank k + 1, Level k }                for k below 10
--   Level 10 [ "?" Level 11 ":" Level 11 ]                     for k = 10
mutual
  pub data Way : Type 0 where
    a_number : ℕ → ℕ → Way
    a_negated : ℕ → ℕ → ℕ → Way
    a_word : ℕ → List ℕ → Way
    a_field : ℕ → List ℕ → ℕ → ℕ → List ℕ → Way
    an_index : ℕ → List ℕ → ℕ → Way → ℕ → Way
    a_call : ℕ → List ℕ → ℕ → Args → ℕ → Way
    in_parens : ℕ → Way → ℕ → Way
    operated : ℕ → UnOp → Way → Way
    level_of : Way → More → Way

  -- what follows the first part of a level
  pub data More : Type 0 where
    stop : More
    and_then : BinOp → ℕ → Way → More → More
    if_so : ℕ → Way → ℕ → Way → More

  pub data Args : Type 0 where
    no_args : Args
    some_args : Way → MoreArgs → Args

  pub data MoreArgs : Type 0 where
    last_arg : MoreArgs
    next_arg : ℕ → Way → MoreArgs → MoreArgs

-- whether this operator may make a node of this operand: a "-" directly before a Number may not
abbrev pub MakesNode : UnOp → Way → Type 0
MakesNode un.Neg (a_number p w) = ⊥
MakesNode _ _ = Unit {0}

-- A way is one of level k, and `IsAfter k` may follow the first part of level k + 1.
abbrev mutual
  pub IsAt : ℕ → Way → Type 0
  IsAt zero (a_number p w) = Unit {0}
  IsAt zero (a_negated p q w) = Unit {0}
  IsAt zero (a_word p n) = Unit {0}
  IsAt zero (a_field p n q r f) = Unit {0}
  IsAt zero (an_index p n q w r) = IsAt top w
  IsAt zero (a_call p n q a r) = AreArgs a
  IsAt zero (in_parens p w q) = IsAt top w
  IsAt zero (operated p o w) = MakesNode o w × IsAt zero w
  IsAt zero (level_of w m) = ⊥
  IsAt (suc k) (level_of w m) = IsAt k w × IsAfter k m
  IsAt (suc k) _ = ⊥

  pub IsAfter : ℕ → More → Type 0
  IsAfter k stop = Unit {0}
  IsAfter k (and_then o p w m) = (rank_of o ≡ suc k) × IsAt k w × IsAfter k m
  IsAfter k (if_so p w q v) = (k ≡ 10) × IsAt top w × IsAt top v

  pub AreArgs : Args → Type 0
  AreArgs no_args = Unit {0}
  AreArgs (some_args w m) = IsAt top w × AreMoreArgs m

  pub AreMoreArgs : MoreArgs → Type 0
  AreMoreArgs last_arg = Unit {0}
  AreMoreArgs (next_arg p w m) = IsAt top w × AreMoreArgs m

-- the tokens of a way
abbrev mutual
  pub tokens : Way → List Mark
  tokens (a_number p w) = number_mark p w ∷ []
  tokens (a_negated p q w) = bin_mark bin.Sub p ∷ number_mark q w ∷ []
  tokens (a_word p n) = name_mark p n ∷ []
  tokens (a_field p n q r f) = name_mark p n ∷ sign fixed.Dot q ∷ name_mark r f ∷ []
  tokens (an_index p n q w r) = name_mark p n ∷ sign fixed.OpenBracket q ∷ (tokens w ++ sign fixed.CloseBracket r ∷ [])
  tokens (a_call p n q a r) = name_mark p n ∷ sign fixed.OpenParen q ∷ (arg_tokens a ++ sign fixed.CloseParen r ∷ [])
  tokens (in_parens p w q) = sign fixed.OpenParen p ∷ (tokens w ++ sign fixed.CloseParen q ∷ [])
  tokens (operated p o w) = un_mark o p ∷ tokens w
  tokens (level_of w m) = tokens w ++ more_tokens m

  pub more_tokens : More → List Mark
  more_tokens stop = []
  more_tokens (and_then o p w m) = bin_mark o p ∷ (tokens w ++ more_tokens m)
  more_tokens (if_so p w q v) = sign fixed.Question p ∷ (tokens w ++ sign fixed.Colon q ∷ tokens v)

  pub arg_tokens : Args → List Mark
  arg_tokens no_args = []
  arg_tokens (some_args w m) = tokens w ++ more_arg_tokens m

  pub more_arg_tokens : MoreArgs → List Mark
  more_arg_tokens last_arg = []
  more_arg_tokens (next_arg p w m) = sign fixed.Comma p ∷ (tokens w ++ more_arg_tokens m)

-- what follows the first part of a level, as a tree
pub data Tail : Type 0 where
  ops : OpForms → Tail
  choose : ExprForm → ExprForm → Tail

-- a level with nothing after its first part is that part
abbrev pub joined : ExprForm → Tail → ExprForm
joined e (ops no_ops) = e
joined e (ops (op o f fs)) = chain e (op o f fs)
joined e (choose a b) = choice e a b

-- an operator and its operand before others; a conditional is never among these
abbrev pub and_op : BinOp → ExprForm → Tail → Tail
and_op o e (ops fs) = ops (op o e fs)
and_op o e (choose a b) = ops (op o e no_ops)

-- the tree of a way; parentheses leave no trace in it
abbrev mutual
  pub tree : Way → ExprForm
  tree (a_number p w) = number p w
  tree (a_negated p q w) = number p ((2 ^ 32 - w) % 2 ^ 32)
  tree (a_word p n) = word p n
  tree (a_field p n q r f) = field p n r f
  tree (an_index p n q w r) = index p n (tree w)
  tree (a_call p n q a r) = call p n (arg_trees a)
  tree (in_parens p w q) = tree w
  tree (operated p o w) = un p o (tree w)
  tree (level_of w m) = joined (tree w) (more_trees m)

  pub more_trees : More → Tail
  more_trees stop = ops no_ops
  more_trees (and_then o p w m) = and_op o (tree w) (more_trees m)
  more_trees (if_so p w q v) = choose (tree w) (tree v)

  pub arg_trees : Args → ExprForms
  arg_trees no_args = no_exprs
  arg_trees (some_args w m) = expr (tree w) (more_arg_trees m)

  pub more_arg_trees : MoreArgs → ExprForms
  more_arg_trees last_arg = no_exprs
  more_arg_trees (next_arg p w m) = expr (tree w) (more_arg_trees m)

-- For each token the number of constructs that are open at it, where `n` are open around the whole. A bracket's construct
-- goes from it to its partner, that of an operator that makes a node to the end of its operand, that of a "?" to the end of
-- its conditional.
abbrev mutual
  pub opens : ℕ → Way → List ℕ
  opens n (a_number p w) = n ∷ []
  opens n (a_negated p q w) = n ∷ n ∷ []
  opens n (a_word p m) = n ∷ []
  opens n (a_field p m q r f) = n ∷ n ∷ n ∷ []
  opens n (an_index p m q w r) = n ∷ suc n ∷ (opens (suc n) w ++ suc n ∷ [])
  opens n (a_call p m q a r) = n ∷ suc n ∷ (arg_opens (suc n) a ++ suc n ∷ [])
  opens n (in_parens p w q) = suc n ∷ (opens (suc n) w ++ suc n ∷ [])
  opens n (operated p o w) = suc n ∷ opens (suc n) w
  opens n (level_of w m) = opens n w ++ more_opens n m

  pub more_opens : ℕ → More → List ℕ
  more_opens n stop = []
  more_opens n (and_then o p w m) = n ∷ (opens n w ++ more_opens n m)
  more_opens n (if_so p w q v) = suc n ∷ (opens (suc n) w ++ suc n ∷ opens (suc n) v)

  pub arg_opens : ℕ → Args → List ℕ
  arg_opens n no_args = []
  arg_opens n (some_args w m) = opens n w ++ more_arg_opens n m

  pub more_arg_opens : ℕ → MoreArgs → List ℕ
  more_arg_opens n last_arg = []
  more_arg_opens n (next_arg p w m) = n ∷ (opens n w ++ more_arg_opens n m)

-- Target = Name | Name "." Name | Name "[" Expr "]"
pub data TargetWay : Type 0 where
  target_word : ℕ → List ℕ → TargetWay
  target_field : ℕ → List ℕ → ℕ → ℕ → List ℕ → TargetWay
  target_index : ℕ → List ℕ → ℕ → Way → ℕ → TargetWay

abbrev pub IsTarget : TargetWay → Type 0
IsTarget (target_index p n q w r) = IsAt top w
IsTarget _ = Unit {0}

abbrev pub target_tokens : TargetWay → List Mark
target_tokens (target_word p n) = name_mark p n ∷ []
target_tokens (target_field p n q r f) = name_mark p n ∷ sign fixed.Dot q ∷ name_mark r f ∷ []
target_tokens (target_index p n q w r) = name_mark p n ∷ sign fixed.OpenBracket q ∷ (tokens w ++ sign fixed.CloseBracket r ∷ [])

abbrev pub target_tree : TargetWay → TargetForm
target_tree (target_word p n) = to_word n
target_tree (target_field p n q r f) = to_field n r f
target_tree (target_index p n q w r) = to_index n (tree w)

abbrev pub target_opens : ℕ → TargetWay → List ℕ
target_opens n (target_word p m) = n ∷ []
target_opens n (target_field p m q r f) = n ∷ n ∷ n ∷ []
target_opens n (target_index p m q w r) = n ∷ suc n ∷ (opens (suc n) w ++ suc n ∷ [])

-- where a target starts
abbrev pub first_place : TargetWay → ℕ
first_place (target_word p n) = p
first_place (target_field p n q r f) = p
first_place (target_index p n q w r) = p

-- Assign = Target "=" Expr ";"
pub data Assign : Type 0 where
  assigned : TargetWay → ℕ → Way → ℕ → Assign

abbrev pub IsAssign : Assign → Type 0
IsAssign (assigned g p w q) = IsTarget g × IsAt top w

abbrev pub assign_tokens : Assign → List Mark
assign_tokens (assigned g p w q) = target_tokens g ++ sign fixed.Assign p ∷ (tokens w ++ sign fixed.Semi q ∷ [])

abbrev pub assign_tree : Assign → StmtForm
assign_tree (assigned g p w q) = assign (first_place g) (target_tree g) (tree w)

abbrev pub assign_opens : ℕ → Assign → List ℕ
assign_opens n (assigned g p w q) = target_opens n g ++ n ∷ (opens n w ++ n ∷ [])

-- where the tokens of an `if` before its branches stand: the word and the round brackets
pub record IfMarks : Type 0 where
  pub if_at : ℕ
  pub open_at : ℕ
  pub close_at : ℕ

-- Statement = Assign | "if" "(" Expr ")" Body [ "else" ElseBody ], Body = Block | Assign, ElseBody = Block | Statement,
-- Block = "{" { Statement } "}"
mutual
  pub data Stmts : Type 0 where
    no_more : Stmts
    then_stmt : Stmt → Stmts → Stmts

  pub data Stmt : Type 0 where
    an_assign : Assign → Stmt
    an_if : IfMarks → Way → Body → Else → Stmt

  pub data Body : Type 0 where
    body_block : ℕ → Stmts → ℕ → Body
    body_assign : Assign → Body

  pub data Else : Type 0 where
    no_else : Else
    else_block : ℕ → ℕ → Stmts → ℕ → Else
    else_stmt : ℕ → Stmt → Else

abbrev mutual
  pub AreStmts : Stmts → Type 0
  AreStmts no_more = Unit {0}
  AreStmts (then_stmt a s) = IsStmt a × AreStmts s

  pub IsStmt : Stmt → Type 0
  IsStmt (an_assign a) = IsAssign a
  IsStmt (an_if m w b e) = IsAt top w × IsBody b × IsElse e

  pub IsBody : Body → Type 0
  IsBody (body_block p s q) = AreStmts s
  IsBody (body_assign a) = IsAssign a

  pub IsElse : Else → Type 0
  IsElse no_else = Unit {0}
  IsElse (else_block p o s c) = AreStmts s
  IsElse (else_stmt p a) = IsStmt a

abbrev mutual
  pub stmts_tokens : Stmts → List Mark
  stmts_tokens no_more = []
  stmts_tokens (then_stmt a s) = stmt_tokens a ++ stmts_tokens s

  pub stmt_tokens : Stmt → List Mark
  stmt_tokens (an_assign a) = assign_tokens a
  stmt_tokens (an_if m w b e) = sign fixed.If m.if_at ∷ sign fixed.OpenParen m.open_at ∷ (tokens w ++ sign fixed.CloseParen m.close_at ∷ (body_tokens b ++ else_tokens e))

  pub body_tokens : Body → List Mark
  body_tokens (body_block p s q) = sign fixed.OpenBrace p ∷ (stmts_tokens s ++ sign fixed.CloseBrace q ∷ [])
  body_tokens (body_assign a) = assign_tokens a

  pub else_tokens : Else → List Mark
  else_tokens no_else = []
  else_tokens (else_block p o s c) = sign fixed.Else p ∷ sign fixed.OpenBrace o ∷ (stmts_tokens s ++ sign fixed.CloseBrace c ∷ [])
  else_tokens (else_stmt p a) = sign fixed.Else p ∷ stmt_tokens a

abbrev mutual
  pub stmts_trees : Stmts → StmtForms
  stmts_trees no_more = no_stmts
  stmts_trees (then_stmt a s) = stmt (stmt_tree a) (stmts_trees s)

  pub stmt_tree : Stmt → StmtForm
  stmt_tree (an_assign a) = assign_tree a
  stmt_tree (an_if m w b e) = branch (tree w) (body_tree b) (else_tree e)

  pub body_tree : Body → StmtForms
  body_tree (body_block p s q) = stmts_trees s
  body_tree (body_assign a) = stmt (assign_tree a) no_stmts

  pub else_tree : Else → StmtForms
  else_tree no_else = no_stmts
  else_tree (else_block p o s c) = stmts_trees s
  else_tree (else_stmt p a) = stmt (stmt_tree a) no_stmts

-- an `if` is open until its statement ends
abbrev mutual
  pub stmts_opens : ℕ → Stmts → List ℕ
  stmts_opens n no_more = []
  stmts_opens n (then_stmt a s) = stmt_opens n a ++ stmts_opens n s

  pub stmt_opens : ℕ → Stmt → List ℕ
  stmt_opens n (an_assign a) = assign_opens n a
  stmt_opens n (an_if m w b e) =
      suc n ∷ suc (suc n) ∷ (opens (suc (suc n)) w ++ suc (suc n) ∷ (body_opens (suc n) b ++ else_opens (suc n) e))

  pub body_opens : ℕ → Body → List ℕ
  body_opens n (body_block p s q) = suc n ∷ (stmts_opens (suc n) s ++ suc n ∷ [])
  body_opens n (body_assign a) = assign_opens n a

  pub else_opens : ℕ → Else → List ℕ
  else_opens n no_else = []
  else_opens n (else_block p o s c) = n ∷ suc n ∷ (stmts_opens (suc n) s ++ suc n ∷ [])
  else_opens n (else_stmt p a) = n ∷ stmt_opens n a

-- Constant = [ "-" ] Number
pub data Constant : Type 0 where
  plain : ℕ → ℕ → Constant
  negative : ℕ → ℕ → ℕ → Constant

abbrev pub constant_tokens : Constant → List Mark
constant_tokens (plain p w) = number_mark p w ∷ []
constant_tokens (negative p q w) = bin_mark bin.Sub p ∷ number_mark q w ∷ []

abbrev pub constant_word : Constant → ℕ
constant_word (plain p w) = w
constant_word (negative p q w) = (2 ^ 32 - w) % 2 ^ 32

abbrev pub constant_opens : ℕ → Constant → List ℕ
constant_opens n (plain p w) = n ∷ []
constant_opens n (negative p q w) = n ∷ n ∷ []

-- Value = Constant | Name, and Init = Value | "{" Value "}"
pub data Value : Type 0 where
  a_constant : Constant → Value
  a_name : ℕ → List ℕ → Value

abbrev pub value_tokens : Value → List Mark
value_tokens (a_constant c) = constant_tokens c
value_tokens (a_name p n) = name_mark p n ∷ []

abbrev pub value_tree : Value → Init
value_tree (a_constant c) = init.Word (constant_word c)
value_tree (a_name p n) = init.Named p n

abbrev pub value_opens : ℕ → Value → List ℕ
value_opens n (a_constant c) = constant_opens n c
value_opens n (a_name p m) = n ∷ []

-- [ "=" Init ]
pub data Start : Type 0 where
  no_start : Start
  bare : ℕ → Value → Start
  braced : ℕ → ℕ → Value → ℕ → Start

abbrev pub start_tokens : Start → List Mark
start_tokens no_start = []
start_tokens (bare p v) = sign fixed.Assign p ∷ value_tokens v
start_tokens (braced p q v r) = sign fixed.Assign p ∷ sign fixed.OpenBrace q ∷ (value_tokens v ++ sign fixed.CloseBrace r ∷ [])

abbrev pub start_tree : Start → Option Init
start_tree no_start = None
start_tree (bare p v) = Some (value_tree v)
start_tree (braced p q v r) = Some (value_tree v)

abbrev pub start_opens : ℕ → Start → List ℕ
start_opens n no_start = []
start_opens n (bare p v) = n ∷ value_opens n v
start_opens n (braced p q v r) = n ∷ suc n ∷ (value_opens (suc n) v ++ suc n ∷ [])

-- [ "[" Length "]" ], where Length = Number | Name
pub data Size : Type 0 where
  no_size : Size
  number_size : ℕ → ℕ → ℕ → ℕ → Size
  name_size : ℕ → ℕ → List ℕ → ℕ → Size

abbrev pub size_tokens : Size → List Mark
size_tokens no_size = []
size_tokens (number_size p q w r) = sign fixed.OpenBracket p ∷ number_mark q w ∷ sign fixed.CloseBracket r ∷ []
size_tokens (name_size p q n r) = sign fixed.OpenBracket p ∷ name_mark q n ∷ sign fixed.CloseBracket r ∷ []

abbrev pub size_tree : Size → Option Length
size_tree no_size = None
size_tree (number_size p q w r) = Some (extent.Number q w)
size_tree (name_size p q n r) = Some (extent.Word q n)

abbrev pub size_opens : ℕ → Size → List ℕ
size_opens n no_size = []
size_opens n (number_size p q w r) = suc n ∷ suc n ∷ suc n ∷ []
size_opens n (name_size p q m r) = suc n ∷ suc n ∷ suc n ∷ []

-- of a global: the offset of `int`, the name with its offset, and the offset of `;`
pub record GlobalMarks : Type 0 where
  pub int_at : ℕ
  pub name_at : ℕ
  pub name : List ℕ
  pub semi_at : ℕ

-- Define = "#" "define" Name Constant, and Global = "int" Name [ "[" Length "]" ] [ "=" Init ] ";"
pub data Decl : Type 0 where
  a_define : ℕ → ℕ → ℕ → List ℕ → Constant → Decl
  a_global : GlobalMarks → Size → Start → Decl

abbrev pub decl_tokens : Decl → List Mark
decl_tokens (a_define p q r n c) = sign fixed.Hash p ∷ sign fixed.Define q ∷ name_mark r n ∷ constant_tokens c
decl_tokens (a_global m z s) = sign fixed.Int m.int_at ∷ name_mark m.name_at m.name ∷ (size_tokens z ++ (start_tokens s ++ sign fixed.Semi m.semi_at ∷ []))

abbrev pub decl_tree : Decl → Head
decl_tree (a_define p q r n c) = head.Define r n (constant_word c)
decl_tree (a_global m z s) = head.Global m.name_at m.name (size_tree z) (start_tree s)

abbrev pub decl_opens : ℕ → Decl → List ℕ
decl_opens n (a_define p q r m c) = n ∷ n ∷ n ∷ constant_opens n c
decl_opens n (a_global m z s) = n ∷ n ∷ (size_opens n z ++ (start_opens n s ++ n ∷ []))

-- { Define | Global }
pub data Decls : Type 0 where
  no_decls : Decls
  then_decl : Decl → Decls → Decls

abbrev pub decls_tokens : Decls → List Mark
decls_tokens no_decls = []
decls_tokens (then_decl a d) = decl_tokens a ++ decls_tokens d

abbrev pub decls_trees : Decls → List Head
decls_trees no_decls = []
decls_trees (then_decl a d) = decl_tree a ∷ decls_trees d

abbrev pub decls_opens : ℕ → Decls → List ℕ
decls_opens n no_decls = []
decls_opens n (then_decl a d) = decl_opens n a ++ decls_opens n d

-- Field = "int" Name ";"
pub record Field : Type 0 where
  pub int_at : ℕ
  pub name_at : ℕ
  pub name : List ℕ
  pub semi_at : ℕ

abbrev pub field_tokens : Field → List Mark
field_tokens f = sign fixed.Int f.int_at ∷ name_mark f.name_at f.name ∷ sign fixed.Semi f.semi_at ∷ []

abbrev pub field_tree : Field → ℕ × List ℕ
field_tree f = (f.name_at, f.name)

abbrev pub field_opens : ℕ → Field → List ℕ
field_opens n f = n ∷ n ∷ n ∷ []

-- { Field }
abbrev pub fields_tokens : List Field → List Mark
fields_tokens fs = flat_map field_tokens fs

abbrev pub fields_trees : List Field → List (ℕ × List ℕ)
fields_trees fs = map field_tree fs

abbrev pub fields_opens : ℕ → List Field → List ℕ
fields_opens n fs = flat_map (field_opens n) fs

-- Struct = "struct" Name "{" Field { Field } "}" ";"
pub record Structure : Type 0 where
  pub struct_at : ℕ
  pub tag_at : ℕ
  pub tag : List ℕ
  pub open_at : ℕ
  pub first : Field
  pub others : List Field
  pub close_at : ℕ
  pub semi_at : ℕ

abbrev pub struct_tokens : Structure → List Mark
struct_tokens z =
    sign fixed.Struct z.struct_at ∷ name_mark z.tag_at z.tag ∷ sign fixed.OpenBrace z.open_at ∷ (fields_tokens (z.first ∷ z.others) ++ sign fixed.CloseBrace z.close_at ∷ sign fixed.Semi z.semi_at ∷ [])

abbrev pub struct_tree : Structure → Head
struct_tree z = head.Struct z.tag_at z.tag (fields_trees (z.first ∷ z.others))

abbrev pub struct_opens : ℕ → Structure → List ℕ
struct_opens n z = n ∷ n ∷ suc n ∷ (fields_opens (suc n) (z.first ∷ z.others) ++ suc n ∷ n ∷ [])

-- [ "if" "(" Expr ")" ]
pub data Guard : Type 0 where
  no_guard : Guard
  a_guard : ℕ → ℕ → Way → ℕ → Guard

abbrev pub IsGuard : Guard → Type 0
IsGuard no_guard = Unit {0}
IsGuard (a_guard p q w r) = IsAt top w

abbrev pub guard_tokens : Guard → List Mark
guard_tokens no_guard = []
guard_tokens (a_guard p q w r) = sign fixed.If p ∷ sign fixed.OpenParen q ∷ (tokens w ++ sign fixed.CloseParen r ∷ [])

abbrev pub guard_tree : Guard → Option ExprForm
guard_tree no_guard = None
guard_tree (a_guard p q w r) = Some (tree w)

-- the `if` of a guard opens nothing
abbrev pub guard_opens : ℕ → Guard → List ℕ
guard_opens n no_guard = []
guard_opens n (a_guard p q w r) = n ∷ suc n ∷ (opens (suc n) w ++ suc n ∷ [])

-- Transaction = "void" Name "(" "struct" Name Name ")" [ "if" "(" Expr ")" ] Block
pub record Transaction : Type 0 where
  pub void_at : ℕ
  pub name_at : ℕ
  pub name : List ℕ
  pub open_at : ℕ
  pub struct_at : ℕ
  pub tag_at : ℕ
  pub tag : List ℕ
  pub param_at : ℕ
  pub param : List ℕ
  pub close_at : ℕ
  pub guard : Guard
  pub begin_at : ℕ
  pub body : Stmts
  pub end_at : ℕ

abbrev pub IsTransaction : Transaction → Type 0
IsTransaction t = IsGuard t.guard × AreStmts t.body

abbrev pub transaction_tokens : Transaction → List Mark
transaction_tokens t =
    sign fixed.Void t.void_at ∷ name_mark t.name_at t.name ∷ sign fixed.OpenParen t.open_at ∷ sign fixed.Struct t.struct_at ∷ name_mark t.tag_at t.tag ∷ name_mark t.param_at t.param ∷ sign fixed.CloseParen t.close_at
    ∷ (guard_tokens t.guard ++ sign fixed.OpenBrace t.begin_at ∷ (stmts_tokens t.body ++ sign fixed.CloseBrace t.end_at ∷ []))

abbrev pub transaction_tree : Transaction → TransactionForm
transaction_tree t =
    record { tag_at = t.tag_at; tag = t.tag; param_at = t.param_at; param = t.param; guard = guard_tree t.guard; body = stmts_trees t.body }

abbrev pub transaction_opens : ℕ → Transaction → List ℕ
transaction_opens n t =
    n ∷ n ∷ suc n ∷ suc n ∷ suc n ∷ suc n ∷ suc n ∷ (guard_opens n t.guard ++ suc n ∷ (stmts_opens (suc n) t.body ++ suc n ∷ []))

-- { Transaction }
abbrev pub AreTransactions : List Transaction → Type 0
AreTransactions [] = Unit {0}
AreTransactions (t ∷ ts) = IsTransaction t × AreTransactions ts

abbrev pub transactions_tokens : List Transaction → List Mark
transactions_tokens ts = flat_map transaction_tokens ts

abbrev pub transaction_trees : List Transaction → List TransactionForm
transaction_trees ts = map transaction_tree ts

abbrev pub transactions_opens : ℕ → List Transaction → List ℕ
transactions_opens n ts = flat_map (transaction_opens n) ts

-- Program = { Define | Global } Struct { Define | Global } Transaction { Transaction }
pub data Program : Type 0 where
  program : Decls → Structure → Decls → Transaction → List Transaction → Program

abbrev pub IsProgram : Program → Type 0
IsProgram (program d s e t ts) = IsTransaction t × AreTransactions ts

abbrev pub program_tokens : Program → List Mark
program_tokens (program d s e t ts) = decls_tokens d ++ (struct_tokens s ++ (decls_tokens e ++ (transaction_tokens t ++ transactions_tokens ts)))

abbrev pub program_tree : Program → ProgramForm
program_tree (program d s e t ts) =
    record { heads = decls_trees d ++ struct_tree s ∷ decls_trees e; transactions = transaction_tree t ∷ transaction_trees ts }

abbrev pub program_opens : Program → List ℕ
program_opens (program d s e t ts) = decls_opens 0 d ++ (struct_opens 0 s ++ (decls_opens 0 e ++ (transaction_opens 0 t ++ transactions_opens 0 ts)))

-- the tokens spell the program
abbrev pub Spells : ProgramForm → List Token → Type 0
Spells p l = (way : Program) × IsProgram way × (program_tokens way ≡ map mark l) × (program_tree way ≡ p)

-- so many constructs may be open at a token
abbrev pub most_open : ℕ
most_open = 64

-- no more constructs are open at any token
abbrev pub AreWithin : List ℕ → Type 0
AreWithin [] = Unit {0}
AreWithin (n ∷ ns) = (n ≤ most_open) × AreWithin ns

-- the tokens spell the program, with no more constructs open at any of them
abbrev pub SpellsWithin : ProgramForm → List Token → Type 0
SpellsWithin p l = (way : Program) × IsProgram way × (program_tokens way ≡ map mark l) × (program_tree way ≡ p) × AreWithin (program_opens way)

-- some program begins with the tokens
abbrev pub BeginProgram : List Token → Type 0
BeginProgram l = (way : Program) × IsProgram way × (rest : List Mark) × (program_tokens way ≡ map mark l ++ rest)
