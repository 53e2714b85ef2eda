-- A program with each name as its number and each define as its word. Of a program that is not well formed nothing is said.
use Rattle.std.specs.Prelude.{ℕ, List, map, Option, Some, None, unwrap_or}
use Rattle.dom_words.specs.Names.{index_of}
use Rattle.dom_words.specs.Units.{unit_named}
use Rattle.dom_words.specs.declared.hash.HashName.{HashName}
use Rattle.dom_ast.specs.declared.part.Goal.{Goal}
use Rattle.dom_ast.specs.declared.part.Goal.TheVariants as goal
use Rattle.dom_ast.specs.declared.part.Place.{Place}
use Rattle.dom_ast.specs.declared.part.Place.TheVariants as place
use Rattle.dom_ast.specs.Form.{ExprForm, ExprForms, no_exprs, expr, StmtForm, StmtForms, no_stmts, stmt, TargetForm, to_word, to_field, to_index, TransactionForm, ProgramForm}
use Rattle.dom_ast.specs.Form as syntax
use Rattle.dom_ast.specs.Resolved.{PartForm, PartForms, no_parts, part, ActForm, ActForms, no_acts, act, BodyForm, CheckedForm}
use Rattle.dom_ast.specs.Resolved as tree
use Rattle.dom_checks.specs.declared.meant.Meant.{Meant}
use Rattle.dom_checks.specs.declared.meant.Meant.TheVariants as meaning
use Rattle.dom_checks.specs.Scope.{Scope, define_word, heads_scope, meant, with_param}

-- the number of a field
abbrev pub field_number : Scope → List ℕ → ℕ
field_number scope name = unwrap_or (index_of scope.fields name) 0

-- a name that is a value: a define is its word, and a scalar is an array's one word; any other name stands for 0
abbrev pub name_part : Option Meant → PartForm
name_part (Some (meaning.Define w)) = tree.number w
name_part (Some (meaning.Scalar k)) = tree.state k (place.Word 0)
name_part _ = tree.number 0

-- a name with an index: an array's word there; any other name stands for 0
abbrev pub element_part : Option Meant → Place → PartForm
element_part (Some (meaning.Array k)) i = tree.state k i
element_part _ i = tree.number 0

-- an index: a number, a define or a packet field
abbrev pub place_of : Scope → ExprForm → Place
place_of scope (syntax.number p w) = place.Word w
place_of scope (syntax.word p n) = place.Word (define_word (meant scope n))
place_of scope (syntax.field p b q f) = place.Field (field_number scope f)
place_of scope (syntax.index p n e) = place.Word 0
place_of scope (syntax.call p n es) = place.Word 0
place_of scope (syntax.un p o e) = place.Word 0
place_of scope (syntax.chain e os) = place.Word 0
place_of scope (syntax.choice e a b) = place.Word 0

-- the call of a hash unit; a name that is no unit's stands for 0
abbrev pub call_part : Option HashName → PartForms → PartForm
call_part None parts = tree.number 0
call_part (Some unit) parts = tree.call unit parts

-- an expression with each name as its number
abbrev mutual
  pub part_of : Scope → ExprForm → PartForm
  part_of scope (syntax.number p w) = tree.number w
  part_of scope (syntax.word p n) = name_part (meant scope n)
  part_of scope (syntax.field p b q f) = tree.field (field_number scope f)
  part_of scope (syntax.index p n e) = element_part (meant scope n) (place_of scope e)
  part_of scope (syntax.call p n es) = call_part (unit_named n) (parts_of scope es)
  part_of scope (syntax.un p o e) = tree.un o (part_of scope e)
  part_of scope (syntax.chain e os) = tree.chain (part_of scope e) (ops_of scope os)
  part_of scope (syntax.choice e a b) = tree.choice (part_of scope e) (part_of scope a) (part_of scope b)

  pub parts_of : Scope → ExprForms → PartForms
  parts_of scope no_exprs = no_parts
  parts_of scope (expr e es) = part (part_of scope e) (parts_of scope es)

  pub ops_of : Scope → syntax.OpForms → tree.OpForms
  ops_of scope syntax.no_ops = tree.no_ops
  ops_of scope (syntax.op o e os) = tree.op o (part_of scope e) (ops_of scope os)

-- a target that is a name: a scalar's word; any other name stands for a fresh name, which no resolved program has
abbrev pub word_goal : Option Meant → Goal
word_goal (Some (meaning.Scalar k)) = goal.State k (place.Word 0)
word_goal _ = goal.Fresh 0

-- a target with an index, in the same way
abbrev pub element_goal : Option Meant → Place → Goal
element_goal (Some (meaning.Array k)) i = goal.State k i
element_goal _ i = goal.Fresh 0

-- a target with each name as its number
abbrev pub goal_of : Scope → TargetForm → Goal
goal_of scope (to_word n) = word_goal (meant scope n)
goal_of scope (to_field b q f) = goal.Field (field_number scope f)
goal_of scope (to_index n e) = element_goal (meant scope n) (place_of scope e)

-- statements with each name as its number
abbrev mutual
  pub act_of : Scope → StmtForm → ActForm
  act_of scope (syntax.assign p t e) = tree.assign (goal_of scope t) (part_of scope e)
  act_of scope (syntax.branch e a b) = tree.branch (part_of scope e) (acts_of scope a) (acts_of scope b)

  pub acts_of : Scope → StmtForms → ActForms
  acts_of scope no_stmts = no_acts
  acts_of scope (stmt s ss) = act (act_of scope s) (acts_of scope ss)

-- a guard, if there is one, with each name as its number
abbrev pub guard_of : Scope → Option ExprForm → Option PartForm
guard_of scope None = None
guard_of scope (Some e) = Some (part_of scope e)

-- a transaction, whose parameter is declared in it
abbrev pub body_of : Scope → TransactionForm → BodyForm
body_of scope t =
    record { guard = guard_of (with_param scope t.param) t.guard; acts = acts_of (with_param scope t.param) t.body }

-- a program with each name as its number and each define as its word
abbrev pub resolved : ProgramForm → CheckedForm
resolved p =
    let scope = heads_scope p.heads in
    record { fields = scope.fields; arrays = scope.arrays; bodies = map (body_of scope) p.transactions }
