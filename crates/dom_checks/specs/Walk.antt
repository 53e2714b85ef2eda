-- The checks of a program, in the order of a walk through it, each with its fault and whether it holds. The letters p and q
-- stand for offsets.
use Rattle.std.specs.Prelude.{ℕ, suc, ◌+◌, Bool, true, false, not, ◌&&◌, ◌||◌, nat_eq, nat_le, nat_lt, List, [], ◌∷◌, ◌++◌, length, Option, Some, None, is_some, option_map}
use Rattle.std.specs.List.{find}
use Rattle.dom_words.specs.declared.array.Array.{Array}
use Rattle.dom_words.specs.declared.hash.HashName.{HashName}
use Rattle.dom_words.specs.Names.{has_name, is_same}
use Rattle.dom_words.specs.Units.{unit_named}
use Rattle.dom_ast.specs.declared.part.Place.{Place}
use Rattle.dom_ast.specs.declared.program.Head.{Head}
use Rattle.dom_ast.specs.declared.program.Head.TheVariants as head
use Rattle.dom_ast.specs.declared.program.Length.{Length}
use Rattle.dom_ast.specs.declared.program.Length.TheVariants as extent
use Rattle.dom_ast.specs.declared.program.Init.{Init}
use Rattle.dom_ast.specs.declared.program.Init.TheVariants as init
use Rattle.dom_ast.specs.Form.{ExprForm, number, word, field, index, call, un, chain, choice, ExprForms, no_exprs, expr, OpForms, no_ops, op, TargetForm, to_word, to_field, to_index, StmtForm, assign, branch, StmtForms, no_stmts, stmt, TransactionForm, ProgramForm}
use Rattle.dom_ast.specs.Kept.{Mention, acts_visits, act_visits, is_no_index, is_same_place, mention, mentions_in, part_mentions}
use Rattle.dom_words.specs.State.{is_length, state_words}
use Rattle.dom_checks.specs.declared.faults.CheckFault.{CheckFault}
use Rattle.dom_checks.specs.declared.faults.CheckFault.TheVariants as fault
use Rattle.dom_checks.specs.declared.faults.Limit.TheVariants as limit
use Rattle.dom_checks.specs.declared.meant.Meant.{Meant}
use Rattle.dom_checks.specs.declared.meant.Meant.TheVariants as meaning
use Rattle.dom_checks.specs.Scope.{Scope, declared, heads_scope, length_of, meant, nothing, with_global, with_param}
use Rattle.dom_checks.specs.Resolve.{acts_of, act_of, field_number, part_of, place_of}

pub record Check : Type 0 where
  pub fault : CheckFault
  pub holds : Bool

abbrev pub check : CheckFault → Bool → Check
check f b = record { fault = f; holds = b }

-- whether a name has the form of a hash name
abbrev pub is_hash_name : List ℕ → Bool
is_hash_name name = is_some (unit_named name)

abbrev pub is_declared : Scope → List ℕ → Bool
is_declared scope name = is_some (meant scope name)

-- Heads.

-- at a define, a global or a parameter
abbrev pub name_checks : Scope → ℕ → List ℕ → List Check
name_checks scope p name =
    check (fault.Twice p) (not (is_declared scope name)) ∷ check (fault.ShapeOfName p) (not (is_hash_name name)) ∷ []

-- whether what is declared is a define
abbrev pub is_define : Option Meant → Bool
is_define (Some (meaning.Define w)) = true
is_define _ = false

-- at a name that has to be a define's
abbrev pub define_checks : Scope → ℕ → List ℕ → List Check
define_checks scope p name =
    check (fault.UnknownName p) (is_declared scope name) ∷ check (fault.ShapeOfName p) (is_define (meant scope name)) ∷ []

-- at the length of a global
abbrev pub length_checks : Scope → Option Length → List Check
length_checks scope None = []
length_checks scope (Some (extent.Number p w)) = []
length_checks scope (Some (extent.Word p n)) = define_checks scope p n

-- at the word that a global starts with
abbrev pub init_checks : Scope → Option Init → List Check
init_checks scope None = []
init_checks scope (Some (init.Word w)) = []
init_checks scope (Some (init.Named p n)) = define_checks scope p n

-- at a global that has n words after those of the arrays before it
abbrev pub size_checks : List Array → ℕ → ℕ → List Check
size_checks arrays p n =
    check (fault.TooLarge limit.Length p) (is_length n)
    ∷ check (fault.TooLarge limit.Words p) (nat_le (state_words arrays + n) 1048576)
    ∷ []

-- at a global, whose own name is declared already
abbrev pub global_checks : Scope → ℕ → Option Length → Option Init → List Check
global_checks scope p l i = length_checks scope l ++ (size_checks scope.arrays p (length_of scope l) ++ init_checks scope i)

-- at a field, with those before it
abbrev pub new_field_checks : List (List ℕ) → ℕ × List ℕ → List Check
new_field_checks before f =
    check (fault.Twice f.0) (not (has_name before f.1)) ∷ check (fault.TooLarge limit.Fields f.0) (nat_lt (length before) 64) ∷ []

-- at the fields after some
abbrev pub fields_checks : List (List ℕ) → List (ℕ × List ℕ) → List Check
fields_checks before [] = []
fields_checks before (f ∷ fields) = new_field_checks before f ++ fields_checks (before ++ f.1 ∷ []) fields

-- at a head
abbrev pub head_checks : Scope → Head → List Check
head_checks scope (head.Define p name w) = name_checks scope p name
head_checks scope (head.Struct p tag fields) = fields_checks [] fields
head_checks scope (head.Global p name l i) =
    name_checks scope p name
    ++ (check (fault.TooLarge limit.Arrays p) (nat_lt (length scope.arrays) 32) ∷ global_checks (with_global scope name l) p l i)

-- at heads, each in the scope of those before it
abbrev pub heads_checks : Scope → List Head → List Check
heads_checks scope [] = []
heads_checks scope (h ∷ hs) = head_checks scope h ++ heads_checks (declared scope h) hs

-- Expressions. `before` are the mentions of arrays earlier in the walk.

-- whether what is declared is the parameter
abbrev pub is_parameter : Option Meant → Bool
is_parameter (Some meaning.Parameter) = true
is_parameter _ = false

-- at `X.f`
abbrev pub field_checks : Scope → ℕ → List ℕ → ℕ → List ℕ → List Check
field_checks scope p base q name =
    check (fault.UnknownName p) (is_declared scope base)
    ∷ check (fault.ShapeOfName p) (is_parameter (meant scope base))
    ∷ check (fault.UnknownName q) (has_name scope.fields name)
    ∷ []

-- whether what is declared may stand as a value; in a guard no state may
abbrev pub is_value : Bool → Option Meant → Bool
is_value in_guard None = true
is_value in_guard (Some (meaning.Define w)) = true
is_value in_guard (Some (meaning.Scalar k)) = not in_guard
is_value in_guard _ = false

-- at a name that is a value
abbrev pub word_checks : Bool → Scope → ℕ → List ℕ → List Check
word_checks in_guard scope p name =
    check (fault.ShapeOfName p) (not (is_hash_name name) && is_value in_guard (meant scope name))
    ∷ check (fault.UnknownName p) (is_declared scope name)
    ∷ []

-- whether what is declared is an array with an index
abbrev pub is_array : Option Meant → Bool
is_array (Some (meaning.Array k)) = true
is_array _ = false

-- the offset of the first token of an expression that is no `(`
abbrev pub first_at : ExprForm → ℕ
first_at (number p w) = p
first_at (word p n) = p
first_at (field p b q f) = p
first_at (index p n e) = p
first_at (call p n es) = p
first_at (un p o e) = p
first_at (chain e os) = first_at e
first_at (choice e a b) = first_at e

-- at an index
abbrev pub place_checks : Scope → ExprForm → List Check
place_checks scope (number p w) = []
place_checks scope (word p n) =
    check (fault.UnknownName p) (is_declared scope n) ∷ check (fault.BadIndex p) (is_define (meant scope n)) ∷ []
place_checks scope (field p b q f) = field_checks scope p b q f
place_checks scope (index p n e) = check (fault.BadIndex p) false ∷ []
place_checks scope (call p n es) = check (fault.BadIndex p) false ∷ []
place_checks scope (un p o e) = check (fault.BadIndex p) false ∷ []
place_checks scope (chain e os) = check (fault.BadIndex (first_at e)) false ∷ []
place_checks scope (choice e a b) = check (fault.BadIndex (first_at e)) false ∷ []

-- the index of the first mention of an array
abbrev pub first_index : List Mention → ℕ → Option Place
first_index before a = option_map (λ m. m.index) (find (λ m. nat_eq m.array a) before)

-- the index is that of the first mention, if there is one
abbrev pub is_same_index : Option Place → Place → Bool
is_same_index None i = true
is_same_index (Some j) i = is_same_place j i

-- at `X` of `X[e]`
abbrev pub array_checks : Bool → Scope → ℕ → List ℕ → List Check
array_checks in_guard scope p name =
    check (fault.UnknownName p) (is_declared scope name || is_hash_name name)
    ∷ check (fault.ShapeOfName p) (is_array (meant scope name) && not in_guard)
    ∷ []

-- at a mention after others
abbrev pub mention_checks : List Mention → ℕ → Mention → List Check
mention_checks before p m = check (fault.TwoIndexes p) (is_same_index (first_index before m.array) m.index) ∷ []

-- at an array with an index, after other mentions; any other name has failed before
abbrev pub element_checks : List Mention → ℕ → Option Meant → Place → List Check
element_checks before p (Some (meaning.Array k)) i = mention_checks before p (mention k i)
element_checks before p _ i = []

-- at `X[e]`
abbrev pub index_checks : Bool → Scope → List Mention → ℕ → List ℕ → ExprForm → List Check
index_checks in_guard scope before p name e =
    array_checks in_guard scope p name ++ (place_checks scope e ++ element_checks before p (meant scope name) (place_of scope e))

abbrev pub exprs_count : ExprForms → ℕ
exprs_count no_exprs = 0
exprs_count (expr e es) = suc (exprs_count es)

-- the unit is there, and takes so many arguments
abbrev pub takes : Option HashName → ℕ → Bool
takes None n = false
takes (Some unit) n = nat_eq unit.args n

-- at `X(args)`, where there are so many arguments
abbrev pub unit_checks : Scope → ℕ → List ℕ → ℕ → List Check
unit_checks scope p name n =
    check (fault.ShapeOfName p) (is_hash_name name || not (is_declared scope name))
    ∷ check (fault.UnknownName p) (is_hash_name name)
    ∷ check (fault.HashArgs p) (takes (unit_named name) n)
    ∷ []

-- the mentions of arrays in an expression
abbrev pub expr_mentions : Scope → ExprForm → List Mention
expr_mentions scope e = part_mentions (part_of scope e)

-- At an expression, from left to right. The mentions in a part come before the next part.
abbrev mutual
  pub expr_checks : Bool → Scope → List Mention → ExprForm → List Check
  expr_checks g scope before (number p w) = []
  expr_checks g scope before (word p n) = word_checks g scope p n
  expr_checks g scope before (field p b q f) = field_checks scope p b q f
  expr_checks g scope before (index p n e) = index_checks g scope before p n e
  expr_checks g scope before (call p n es) = unit_checks scope p n (exprs_count es) ++ exprs_checks g scope before es
  expr_checks g scope before (un p o e) = expr_checks g scope before e
  expr_checks g scope before (chain e os) =
      expr_checks g scope before e ++ ops_checks g scope (before ++ expr_mentions scope e) os
  expr_checks g scope before (choice e a b) =
      expr_checks g scope before e
      ++ (expr_checks g scope (before ++ expr_mentions scope e) a
      ++ expr_checks g scope ((before ++ expr_mentions scope e) ++ expr_mentions scope a) b)

  pub exprs_checks : Bool → Scope → List Mention → ExprForms → List Check
  exprs_checks g scope before no_exprs = []
  exprs_checks g scope before (expr e es) =
      expr_checks g scope before e ++ exprs_checks g scope (before ++ expr_mentions scope e) es

  pub ops_checks : Bool → Scope → List Mention → OpForms → List Check
  ops_checks g scope before no_ops = []
  ops_checks g scope before (op o e os) = expr_checks g scope before e ++ ops_checks g scope (before ++ expr_mentions scope e) os

-- Statements.

-- whether what is declared may be a target without an index
abbrev pub is_target : Option Meant → Bool
is_target None = true
is_target (Some (meaning.Scalar k)) = true
is_target _ = false

-- a field may not be assigned to that is an index mentioned before
abbrev pub kept_checks : List Mention → ℕ → ℕ → List Check
kept_checks before p f = check (fault.IndexAssignedLater p) (is_no_index before f) ∷ []

-- at a target, whose statement starts at p
abbrev pub target_checks : Scope → List Mention → ℕ → TargetForm → List Check
target_checks scope before p (to_word name) =
    check (fault.ShapeOfName p) (not (is_hash_name name) && is_target (meant scope name))
    ∷ check (fault.UnknownName p) (is_declared scope name)
    ∷ []
target_checks scope before p (to_field base q name) =
    field_checks scope p base q name ++ kept_checks before p (field_number scope name)
target_checks scope before p (to_index name e) = index_checks false scope before p name e

-- the mentions of arrays in a statement
abbrev pub stmt_mentions : Scope → StmtForm → List Mention
stmt_mentions scope s = mentions_in (act_visits (act_of scope s))

-- the mentions of arrays in statements
abbrev pub stmts_mentions : Scope → StmtForms → List Mention
stmts_mentions scope ss = mentions_in (acts_visits (acts_of scope ss))

-- At statements: a condition comes before its two branches, and a value before its target.
abbrev mutual
  pub stmt_checks : Scope → List Mention → StmtForm → List Check
  stmt_checks scope before (assign p t e) =
      expr_checks false scope before e ++ target_checks scope (before ++ expr_mentions scope e) p t
  stmt_checks scope before (branch e a b) =
      expr_checks false scope before e
      ++ (stmts_checks scope (before ++ expr_mentions scope e) a
      ++ stmts_checks scope ((before ++ expr_mentions scope e) ++ stmts_mentions scope a) b)

  pub stmts_checks : Scope → List Mention → StmtForms → List Check
  stmts_checks scope before no_stmts = []
  stmts_checks scope before (stmt s ss) = stmt_checks scope before s ++ stmts_checks scope (before ++ stmt_mentions scope s) ss

-- Transactions.

-- at a guard, if there is one
abbrev pub guard_checks : Scope → List Mention → Option ExprForm → List Check
guard_checks scope before None = []
guard_checks scope before (Some e) = expr_checks true scope before e

-- at a transaction; its parameter stands from its own place to its end
abbrev pub transaction_checks : Scope → List Mention → TransactionForm → List Check
transaction_checks scope before t =
    let inner = with_param scope t.param in
    check (fault.UnknownName t.tag_at) (is_same t.tag scope.tag)
    ∷ (name_checks scope t.param_at t.param ++ (guard_checks inner before t.guard ++ stmts_checks inner before t.body))

-- at transactions, each after the mentions in those before it
abbrev pub transactions_checks : Scope → List Mention → List TransactionForm → List Check
transactions_checks scope before [] = []
transactions_checks scope before (t ∷ ts) =
    transaction_checks scope before t
    ++ transactions_checks scope (before ++ stmts_mentions (with_param scope t.param) t.body) ts

-- all checks of a program
abbrev pub walk : ProgramForm → List Check
walk p = heads_checks nothing p.heads ++ transactions_checks (heads_scope p.heads) [] p.transactions

-- the fault of the first check that does not hold
abbrev pub first_fault : List Check → Option CheckFault
first_fault checks = option_map (λ c. c.fault) (find (λ c. not c.holds) checks)

-- the first violated check of a program
abbrev pub violation : ProgramForm → Option CheckFault
violation p = first_fault (walk p)
