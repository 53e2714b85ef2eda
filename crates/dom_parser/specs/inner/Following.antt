-- What may follow, token by token: a stack of the items that are still to come. Only proofs and contracts of private
-- functions cite this.
use Rattle.std.specs.Prelude.{ℕ, zero, suc, ◌+◌, Bool, true, false, ◌&&◌, List, [], ◌∷◌, ◌++◌, Option, Some, None, if◌then◌else◌, nat_eq, nat_le}
use Rattle.dom_words.specs.declared.operators.BinOp.{BinOp}
use Rattle.dom_words.specs.declared.operators.UnOp.{UnOp}
use Rattle.dom_words.specs.declared.operators.UnOp.TheVariants as un
use Rattle.dom_lexer.specs.declared.token.Token.{Token}
use Rattle.dom_parser.specs.declared.kinds.Fixed.{Fixed}
use Rattle.dom_parser.specs.declared.kinds.Fixed.TheVariants as fixed
use Rattle.dom_parser.specs.declared.kinds.Kind.{Kind}
use Rattle.dom_parser.specs.declared.kinds.Kind.TheVariants as kind
use Rattle.dom_parser.specs.declared.kinds.Begin.{Begin}
use Rattle.dom_parser.specs.declared.kinds.Begin.TheVariants as begin
use Rattle.dom_parser.specs.declared.kinds.Suffix.{Suffix}
use Rattle.dom_parser.specs.declared.kinds.Suffix.TheVariants as suffix
use Rattle.dom_parser.specs.declared.kinds.Lead.{Lead}
use Rattle.dom_parser.specs.declared.kinds.Lead.TheVariants as lead
use Rattle.dom_parser.specs.declared.kinds.Declared.{Declared}
use Rattle.dom_parser.specs.declared.kinds.Declared.TheVariants as declared
use Rattle.dom_parser.specs.Tokens.{Mark, is_minus, number_first}
use Rattle.dom_parser.specs.inner.AtPlace.{rest, is_fixed, is_name, number_of, operator_of, unary_of}
use Rattle.dom_parser.specs.Grammar.{top, most_open}

-- what may begin an operand that has no operator before it
abbrev pub begin_fixed : Fixed → Begin
begin_fixed fixed.OpenParen = begin.Paren
begin_fixed _ = begin.Other

abbrev pub begin_of : Kind → Begin
begin_of (kind.Number n) = begin.Number n
begin_of kind.Name = begin.Name
begin_of (kind.Fixed f) = begin_fixed f
begin_of _ = begin.Other

-- what may follow a name
abbrev pub suffix_fixed : Fixed → Suffix
suffix_fixed fixed.Dot = suffix.Dot
suffix_fixed fixed.OpenBracket = suffix.Bracket
suffix_fixed fixed.OpenParen = suffix.Paren
suffix_fixed _ = suffix.Other

abbrev pub suffix_of : Kind → Suffix
suffix_of (kind.Fixed f) = suffix_fixed f
suffix_of _ = suffix.Other

-- what may begin a statement or a branch
abbrev pub lead_fixed : Fixed → Lead
lead_fixed fixed.OpenBrace = lead.Block
lead_fixed fixed.If = lead.If
lead_fixed _ = lead.Other

abbrev pub lead_of : Kind → Lead
lead_of kind.Name = lead.Assign
lead_of (kind.Fixed f) = lead_fixed f
lead_of _ = lead.Other

-- what may begin a define or a global
abbrev pub declared_fixed : Fixed → Declared
declared_fixed fixed.Hash = declared.Define
declared_fixed fixed.Int = declared.Global
declared_fixed _ = declared.Other

abbrev pub declared_of : Kind → Declared
declared_of (kind.Fixed f) = declared_fixed f
declared_of _ = declared.Other

abbrev pub is_neg : UnOp → Bool
is_neg un.Neg = true
is_neg un.Inv = false
is_neg un.Not = false

-- what may be still to come; `close` and `args` end with a bracket that closes
pub data Item : Type 0 where
  term : Fixed → Item
  a_name : Item
  a_number : Item
  close : Fixed → Item
  ended : Item
  level : ℕ → Item
  more : ℕ → Item
  name_rest : Item
  args : Item
  more_args : Item
  target_rest : Item
  assignment : Item
  stmt : Item
  stmts : Item
  block : Item
  condition : Item
  body : Item
  else_part : Item
  else_rest : Item
  decl : Item
  decls : Item
  constant : Item
  value : Item
  start : Item
  start_part : Item
  size : Item
  size_part : Item
  fields : Item
  field_block : Item
  structure : Item
  header : Item
  guard : Item
  transactions : Item

-- Rows: what is still to come of an item behind its first token, or `None` where the token may not begin it.
abbrev pub when : Bool → List Item → Option (List Item)
when true row = Some row
when false row = None

-- a row with more items
abbrev pub then_row : Option (List Item) → List Item → Option (List Item)
then_row None others = None
then_row (Some row) others = Some (row ++ others)

abbrev pub number_row : Option ℕ → Option (List Item)
number_row None = None
number_row (Some n) = Some []

abbrev pub paren_row : List Item
paren_row = level top ∷ close fixed.CloseParen ∷ []

abbrev pub bracket_row : List Item
bracket_row = level top ∷ close fixed.CloseBracket ∷ []

abbrev pub begin_row : Begin → Option (List Item)
begin_row (begin.Number n) = Some []
begin_row begin.Name = Some (name_rest ∷ [])
begin_row begin.Paren = Some paren_row
begin_row begin.Other = None

-- whether it is a `-` that makes no node, where `n` says that a number comes next
abbrev pub operand_row : Bool → Option UnOp → Begin → Option (List Item)
operand_row n None b = begin_row b
operand_row n (Some o) b = if is_neg o && n then Some (a_number ∷ []) else Some (level 0 ∷ ended ∷ [])

abbrev pub level_row : ℕ → Kind → Bool → Option (List Item)
level_row zero k n = operand_row n (unary_of k) (begin_of k)
level_row (suc j) k n = then_row (level_row j k n) (more j ∷ [])

abbrev pub operator_row : ℕ → Option BinOp → Option (List Item)
operator_row j None = None
operator_row j (Some o) = Some (level j ∷ more j ∷ [])

abbrev pub choice_row : List Item
choice_row = level top ∷ term fixed.Colon ∷ level top ∷ ended ∷ []

-- after the first argument
abbrev pub args_row : List Item
args_row = more_args ∷ close fixed.CloseParen ∷ []

abbrev pub suffix_row : Suffix → Option (List Item)
suffix_row suffix.Dot = Some (a_name ∷ [])
suffix_row suffix.Bracket = Some bracket_row
suffix_row suffix.Paren = Some (args ∷ [])
suffix_row suffix.Other = None

abbrev pub target_row : Suffix → Option (List Item)
target_row suffix.Dot = Some (a_name ∷ [])
target_row suffix.Bracket = Some bracket_row
target_row suffix.Paren = None
target_row suffix.Other = None

abbrev pub assign_row : List Item
assign_row = target_rest ∷ term fixed.Assign ∷ level top ∷ term fixed.Semi ∷ []

abbrev pub if_row : List Item
if_row = condition ∷ body ∷ else_part ∷ ended ∷ []

abbrev pub block_row : List Item
block_row = stmts ∷ close fixed.CloseBrace ∷ []

abbrev pub stmt_row : Lead → Option (List Item)
stmt_row lead.Block = None
stmt_row lead.Assign = Some assign_row
stmt_row lead.If = Some if_row
stmt_row lead.Other = None

abbrev pub body_row : Lead → Option (List Item)
body_row lead.Block = Some block_row
body_row lead.Assign = Some assign_row
body_row lead.If = None
body_row lead.Other = None

abbrev pub else_row : Lead → Option (List Item)
else_row lead.Block = Some block_row
else_row lead.Assign = Some assign_row
else_row lead.If = Some if_row
else_row lead.Other = None

abbrev pub decl_row : Declared → Option (List Item)
decl_row declared.Define = Some (term fixed.Define ∷ a_name ∷ constant ∷ [])
decl_row declared.Global = Some (a_name ∷ size_part ∷ start_part ∷ term fixed.Semi ∷ [])
decl_row declared.Other = None

abbrev pub constant_row : Option ℕ → Bool → Option (List Item)
constant_row (Some n) b = Some []
constant_row None b = when b (a_number ∷ [])

-- what comes after a token of this kind, where it may begin the item; `n` says that a number comes next
abbrev pub expand : Item → Kind → Bool → Option (List Item)
expand (term f) k n = when (is_fixed f k) []
expand a_name k n = when (is_name k) []
expand a_number k n = number_row (number_of k)
expand (close f) k n = when (is_fixed f k) (ended ∷ [])
expand ended k n = None
expand (level j) k n = level_row j k n
expand (more j) k n = if nat_eq j 10 then when (is_fixed fixed.Question k) choice_row else operator_row j (operator_of (suc j) k)
expand name_rest k n = suffix_row (suffix_of k)
expand args k n = if is_fixed fixed.CloseParen k then Some (ended ∷ []) else then_row (level_row top k n) args_row
expand more_args k n = when (is_fixed fixed.Comma k) (level top ∷ more_args ∷ [])
expand target_rest k n = target_row (suffix_of k)
expand assignment k n = when (is_name k) assign_row
expand stmt k n = stmt_row (lead_of k)
expand stmts k n = then_row (stmt_row (lead_of k)) (stmts ∷ [])
expand block k n = when (is_fixed fixed.OpenBrace k) block_row
expand condition k n = when (is_fixed fixed.OpenParen k) paren_row
expand body k n = body_row (lead_of k)
expand else_part k n = when (is_fixed fixed.Else k) (else_rest ∷ [])
expand else_rest k n = else_row (lead_of k)
expand decl k n = decl_row (declared_of k)
expand decls k n = then_row (decl_row (declared_of k)) (decls ∷ [])
expand constant k n = constant_row (number_of k) (is_minus k)
expand value k n = if is_name k then Some [] else constant_row (number_of k) (is_minus k)
expand start k n = if is_fixed fixed.OpenBrace k then Some (value ∷ close fixed.CloseBrace ∷ []) else (if is_name k then Some [] else constant_row (number_of k) (is_minus k))
expand start_part k n = when (is_fixed fixed.Assign k) (start ∷ [])
expand size k n = if is_name k then Some [] else number_row (number_of k)
expand size_part k n = when (is_fixed fixed.OpenBracket k) (size ∷ close fixed.CloseBracket ∷ [])
expand fields k n = when (is_fixed fixed.Int k) (a_name ∷ term fixed.Semi ∷ fields ∷ [])
expand field_block k n = when (is_fixed fixed.OpenBrace k) (term fixed.Int ∷ a_name ∷ term fixed.Semi ∷ fields ∷ close fixed.CloseBrace ∷ [])
expand structure k n = when (is_fixed fixed.Struct k) (a_name ∷ field_block ∷ term fixed.Semi ∷ [])
expand header k n = when (is_fixed fixed.OpenParen k) (term fixed.Struct ∷ a_name ∷ a_name ∷ close fixed.CloseParen ∷ [])
expand guard k n = when (is_fixed fixed.If k) (condition ∷ [])
expand transactions k n = when (is_fixed fixed.Void k) (a_name ∷ header ∷ guard ∷ block ∷ transactions ∷ [])

-- the items that may be nothing
abbrev pub may_skip : Item → Bool
may_skip ended = true
may_skip (more j) = true
may_skip name_rest = true
may_skip more_args = true
may_skip target_rest = true
may_skip stmts = true
may_skip else_part = true
may_skip decls = true
may_skip start_part = true
may_skip size_part = true
may_skip fields = true
may_skip guard = true
may_skip transactions = true
may_skip _ = false

-- a program
abbrev pub whole : List Item
whole = decls ∷ structure ∷ decls ∷ term fixed.Void ∷ a_name ∷ header ∷ guard ∷ block ∷ transactions ∷ []

-- the stack after a token
abbrev pub resume : Option (List Item) → Bool → Option (List Item) → List Item → Option (List Item)
resume (Some row) b o s = Some (row ++ s)
resume None true o s = o
resume None false o s = None

-- the stack after a token; `None` where the token may not stand there
abbrev pub step : List Item → Kind → Bool → Option (List Item)
step [] k n = None
step (i ∷ s) k n = resume (expand i k n) (may_skip i) (step s k n) s

-- whether nothing need come
abbrev pub may_end : List Item → Bool
may_end [] = true
may_end (i ∷ s) = may_skip i && may_end s

-- how many constructs are open: those that end with one of the items
abbrev pub ends : Item → Bool
ends (close f) = true
ends ended = true
ends args = true
ends _ = false

abbrev pub held : List Item → ℕ
held [] = 0
held (i ∷ s) = if ends i then suc (held s) else held s

-- the open constructs after each token, up to the end or to a token that may not stand there
pub data Trace : Type 0 where
  fine : Trace
  stuck : Trace
  count : ℕ → Trace → Trace

-- the trace behind a token, from the stack after it
abbrev pub on_step : Option (List Item) → (List Item → Trace) → Trace
on_step None go = stuck
on_step (Some s) go = count (held s) (go s)

-- the trace of tokens from a stack
abbrev pub trace : List Item → List Mark → Trace
trace s [] = if may_end s then fine else stuck
trace s (t ∷ l) = on_step (step s t.kind (number_first l)) (λ s. trace s l)

-- so many constructs may be open
abbrev pub limit : ℕ
limit = most_open

-- a token that may not stand at a place, or one that opens one construct too many
pub data Problem : Type 0 where
  bad : ℕ → Problem
  deep : ℕ → Problem

-- the first problem, with places counted from `p`
abbrev pub problem : ℕ → Trace → Option Problem
problem p fine = None
problem p stuck = Some (bad p)
problem p (count n t) = if nat_le n limit then problem (p + 1) t else Some (deep p)

-- the first problem of the tokens from place p on, with a stack
abbrev pub fault_from : List Token → ℕ → List Item → Option Problem
fault_from l p s = problem p (trace s (rest l p))

-- whether a statement begins
abbrev pub begins : Lead → Bool
begins lead.Block = false
begins lead.Assign = true
begins lead.If = true
begins lead.Other = false

-- whether a define or a global begins
abbrev pub declares : Declared → Bool
declares declared.Define = true
declares declared.Global = true
declares declared.Other = false

-- which answers say that a token stands there
abbrev pub begins_operand : Begin → Bool
begins_operand (begin.Number w) = true
begins_operand begin.Name = true
begins_operand begin.Paren = true
begins_operand begin.Other = false

abbrev pub goes_on : Suffix → Bool
goes_on suffix.Dot = true
goes_on suffix.Bracket = true
goes_on suffix.Paren = true
goes_on suffix.Other = false

abbrev pub leads : Lead → Bool
leads lead.Block = true
leads lead.Assign = true
leads lead.If = true
leads lead.Other = false
