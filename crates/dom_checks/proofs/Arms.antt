-- Expressions and statements of which a part after another is checked.
use Rattle.std.proofs.Common.{◌≡◌, ℕ, suc, Bool, true, false, not, ◌||◌, nat_eq, List, [], ◌∷◌, ◌++◌, length, Option, Some, None, Result, Ok, Err, refl, sym, ap, ◌∙◌, subst, append_assoc}
use Rattle.std.specs.Prelude.{Box, is_some, OnOk}
use Rattle.std.specs.declared.alloc.Global.{Global}
use Rattle.std.proofs.lemmas.Bool.{eq-eqb, ne_eqb}
use Rattle.std.proofs.lemmas.Grind.{flat_map-append}
use Rattle.std.proofs.lemmas.List.{append-nil}
use Rattle.dom_words.specs.declared.hash.HashName.{HashName}
use Rattle.dom_words.specs.declared.operators.BinOp.{BinOp}
use Rattle.dom_words.specs.Units.{unit_named}
use Rattle.dom_ast.specs.declared.expr.Expr.{Expr}
use Rattle.dom_ast.specs.declared.expr.Expr.TheViews.{Chain, Cond, rolls-Chain, rolls-Cond}
use Rattle.dom_ast.specs.declared.expr.Expr.TheFolds.{fold-roll-Expr}
use Rattle.dom_ast.specs.declared.expr.Expr.TheOpen.{Expr-F}
use Rattle.dom_ast.specs.declared.part.Place.{Place}
use Rattle.dom_ast.specs.declared.stmt.Stmt.{Stmt}
use Rattle.dom_ast.specs.declared.stmt.Stmt.TheVariants.{If, rolls-If}
use Rattle.dom_ast.specs.declared.stmt.Stmt.TheFolds.{fold-roll-Stmt}
use Rattle.dom_ast.specs.declared.stmt.Stmt.TheOpen.{Stmt-F}
use Rattle.dom_ast.specs.declared.stmt.Target.{Target}
use Rattle.dom_ast.specs.declared.stmt.Target.TheVariants as target
use Rattle.dom_ast.specs.Form.{ExprForm, OpForms, StmtForm, StmtForms, TargetForm, assign, branch, chain, choice, expr_step, form, forms, guard_form, stmt_form, stmt_forms, stmt_step, target_form, to_field}
use Rattle.dom_ast.specs.inner.ExprOps.{op_forms}
use Rattle.dom_ast.specs.Resolved as tree
use Rattle.dom_ast.specs.Kept.{Mention, act_visits, acts_visits, are_within, condition, guard_visits, is_empty, guard_mentions_none, mention, mentions_in, ops_mentions, part_mentions, resolved_ranges, visit_mentions}
use Rattle.dom_checks.specs.declared.faults.CheckFault.{CheckFault}
use Rattle.dom_checks.specs.declared.faults.CheckFault.TheVariants as fault
use Rattle.dom_checks.specs.declared.meant.Meant.{Meant}
use Rattle.dom_checks.specs.declared.meant.Meant.TheVariants as meaning
use Rattle.dom_checks.specs.Answers.{IsFirst}
use Rattle.dom_checks.specs.inner.Noted.{AreNumbers, are_settled}
use Rattle.dom_checks.specs.Resolve.{act_of, acts_of, field_number, guard_of, ops_of, part_of, place_of}
use Rattle.dom_checks.specs.Scope.{Scope, meant}
use Rattle.dom_checks.specs.Walk.{Check, array_checks, check, expr_checks, element_checks, exprs_count, field_checks, first_fault, index_checks, is_declared, kept_checks, mention_checks, ops_checks, place_checks, stmt_checks, stmts_checks, takes, target_checks, unit_checks}
use Rattle.dom_checks.proofs.FirstFaults.{both_hold, faults_behind, first_behind, first_front, first_same}
use Rattle.dom_checks.proofs.Sound.{expr_sound}
use Rattle.dom_checks.proofs.SoundStmts.{condition_sound, stmts_sound}

pub always : {T E P : Type 0} (r : Result T E) → P → OnOk r P
always (Ok x) p = p
always (Err e) p = tt

-- Chains.

pub as_chain : (x : Expr) (b : Box Expr Global) (rest more : List (BinOp × Expr)) (e : Expr) → x ≡ Chain b rest → e ≡ b.value → more ≡ rest → form x ≡ chain (form e) (op_forms more)
as_chain x b rest more e is here same =
    ap form (is ∙ sym (rolls-Chain b rest)) ∙ fold-roll-Expr ExprForm expr_step (Expr-F.Chain b rest) ∙ ap (λ y. chain (form y) (op_forms rest)) (sym here) ∙ ap (λ y. chain (form e) (op_forms y)) (sym same)

module _ (g : Bool) (scope : Scope) (before : List Mention) (x : Expr) (e : ExprForm) (os : OpForms) (is : form x ≡ chain e os) where
  pub chain_first : (f : CheckFault) → IsFirst f (expr_checks g scope before e) → IsFirst f (expr_checks g scope before (form x))
  chain_first f h =
      subst (λ (y : ExprForm). IsFirst f (expr_checks g scope before y)) (sym is)
      (first_front f (expr_checks g scope before e) (ops_checks g scope (before ++ part_mentions (part_of scope e)) os) h)

  pub chain_rest : (now : List Mention) (f : CheckFault) → first_fault (expr_checks g scope before e) ≡ None → now ≡ before ++ part_mentions (part_of scope e) → IsFirst f (ops_checks g scope now os) → IsFirst f (expr_checks g scope before (form x))
  chain_rest now f holds seen h =
      subst (λ (y : ExprForm). IsFirst f (expr_checks g scope before y)) (sym is)
      (first_behind f (expr_checks g scope before e) (ops_checks g scope (before ++ part_mentions (part_of scope e)) os) holds (subst (λ (ms : List Mention). IsFirst f (ops_checks g scope ms os)) seen h))

  pub chain_holds : (now : List Mention) → first_fault (expr_checks g scope before e) ≡ None → now ≡ before ++ part_mentions (part_of scope e) → first_fault (ops_checks g scope now os) ≡ None → first_fault (expr_checks g scope before (form x)) ≡ None
  chain_holds now holds seen h =
      ap (λ (y : ExprForm). first_fault (expr_checks g scope before y)) is
      ∙ both_hold (expr_checks g scope before e) (ops_checks g scope (before ++ part_mentions (part_of scope e)) os) holds (ap (λ (ms : List Mention). first_fault (ops_checks g scope ms os)) (sym seen) ∙ h)

  pub chain_seen : (now after : List Mention) → now ≡ before ++ part_mentions (part_of scope e) → after ≡ now ++ ops_mentions (ops_of scope os) → after ≡ before ++ part_mentions (part_of scope (form x))
  chain_seen now after seen h =
      h ∙ ap (λ (ms : List Mention). ms ++ ops_mentions (ops_of scope os)) seen ∙ append_assoc before (part_mentions (part_of scope e)) (ops_mentions (ops_of scope os))
      ∙ ap (λ (y : ExprForm). before ++ part_mentions (part_of scope y)) (sym is)

  pub chain_form : (p : tree.PartForm) (q : tree.PartForm) (qs : tree.OpForms) → p ≡ tree.chain q qs → q ≡ part_of scope e → qs ≡ ops_of scope os → p ≡ part_of scope (form x)
  chain_form p q qs made first rest =
      made ∙ ap (λ (r : tree.PartForm). tree.chain r qs) first ∙ ap (λ (rs : tree.OpForms). tree.chain (part_of scope e) rs) rest ∙ ap (part_of scope) (sym is)

abbrev operand : BinOp → tree.PartForm → BinOp × tree.PartForm
operand o p = (o, p)

pub same_operand : (o : BinOp) (p q : tree.PartForm) → p ≡ q → operand o p ≡ operand o q
same_operand o p q is = ap (operand o) is

-- Conditional expressions.

pub as_choice : (x : Expr) (b c d : Box Expr Global) (e p q : Expr) → x ≡ Cond b c d → e ≡ b.value → p ≡ c.value → q ≡ d.value → form x ≡ choice (form e) (form p) (form q)
as_choice x b c d e p q is first second third =
    ap form (is ∙ sym (rolls-Cond b c d)) ∙ fold-roll-Expr ExprForm expr_step (Expr-F.Cond b c d) ∙ ap (λ y. choice (form y) (form c.value) (form d.value)) (sym first)
    ∙ ap (λ y. choice (form e) (form y) (form d.value)) (sym second) ∙ ap (λ y. choice (form e) (form p) (form y)) (sym third)

module _ (g : Bool) (scope : Scope) (before : List Mention) (x : Expr) (e p q : ExprForm) (is : form x ≡ choice e p q) where
  abbrev after_test : List Mention
  after_test = before ++ part_mentions (part_of scope e)

  abbrev after_yes : List Mention
  after_yes = after_test ++ part_mentions (part_of scope p)

  pub choice_first : (f : CheckFault) → IsFirst f (expr_checks g scope before e) → IsFirst f (expr_checks g scope before (form x))
  choice_first f h =
      subst (λ (y : ExprForm). IsFirst f (expr_checks g scope before y)) (sym is)
      (first_front f (expr_checks g scope before e) (expr_checks g scope after_test p ++ expr_checks g scope after_yes q) h)

  pub choice_second : (now : List Mention) (f : CheckFault) → first_fault (expr_checks g scope before e) ≡ None → now ≡ after_test → IsFirst f (expr_checks g scope now p) → IsFirst f (expr_checks g scope before (form x))
  choice_second now f holds seen h =
      subst (λ (y : ExprForm). IsFirst f (expr_checks g scope before y)) (sym is)
      (first_behind f (expr_checks g scope before e) (expr_checks g scope after_test p ++ expr_checks g scope after_yes q) holds
      (first_front f (expr_checks g scope after_test p) (expr_checks g scope after_yes q) (subst (λ (ms : List Mention). IsFirst f (expr_checks g scope ms p)) seen h)))

  -- the mentions after the second part
  yes_seen : (now after : List Mention) → now ≡ after_test → after ≡ now ++ part_mentions (part_of scope p) → after ≡ after_yes
  yes_seen now after seen more = more ∙ ap (λ (ms : List Mention). ms ++ part_mentions (part_of scope p)) seen

  pub choice_third : (now after : List Mention) (f : CheckFault) → first_fault (expr_checks g scope before e) ≡ None → now ≡ after_test → first_fault (expr_checks g scope now p) ≡ None → after ≡ now ++ part_mentions (part_of scope p)
      → IsFirst f (expr_checks g scope after q) → IsFirst f (expr_checks g scope before (form x))
  choice_third now after f holds seen also more h =
      subst (λ (y : ExprForm). IsFirst f (expr_checks g scope before y)) (sym is)
      (first_behind f (expr_checks g scope before e) (expr_checks g scope after_test p ++ expr_checks g scope after_yes q) holds
      (first_behind f (expr_checks g scope after_test p) (expr_checks g scope after_yes q) (ap (λ (ms : List Mention). first_fault (expr_checks g scope ms p)) (sym seen) ∙ also)
      (subst (λ (ms : List Mention). IsFirst f (expr_checks g scope ms q)) (yes_seen now after seen more) h)))

  pub choice_holds : (now after : List Mention) → first_fault (expr_checks g scope before e) ≡ None → now ≡ after_test → first_fault (expr_checks g scope now p) ≡ None → after ≡ now ++ part_mentions (part_of scope p)
      → first_fault (expr_checks g scope after q) ≡ None → first_fault (expr_checks g scope before (form x)) ≡ None
  choice_holds now after holds seen also more h =
      ap (λ (y : ExprForm). first_fault (expr_checks g scope before y)) is
      ∙ both_hold (expr_checks g scope before e) (expr_checks g scope after_test p ++ expr_checks g scope after_yes q) holds
      (both_hold (expr_checks g scope after_test p) (expr_checks g scope after_yes q) (ap (λ (ms : List Mention). first_fault (expr_checks g scope ms p)) (sym seen) ∙ also)
      (ap (λ (ms : List Mention). first_fault (expr_checks g scope ms q)) (sym (yes_seen now after seen more)) ∙ h))

  pub choice_seen : (now after last : List Mention) → now ≡ after_test → after ≡ now ++ part_mentions (part_of scope p) → last ≡ after ++ part_mentions (part_of scope q) → last ≡ before ++ part_mentions (part_of scope (form x))
  choice_seen now after last seen more h =
      h ∙ ap (λ (ms : List Mention). ms ++ part_mentions (part_of scope q)) (yes_seen now after seen more)
      ∙ append_assoc after_test (part_mentions (part_of scope p)) (part_mentions (part_of scope q))
      ∙ append_assoc before (part_mentions (part_of scope e)) (part_mentions (part_of scope p) ++ part_mentions (part_of scope q))
      ∙ ap (λ (y : ExprForm). before ++ part_mentions (part_of scope y)) (sym is)

-- Elements.

module _ (g : Bool) (scope : Scope) (before : List Mention) (p : ℕ) (name : List ℕ) (e : ExprForm) (array_holds : first_fault (array_checks g scope p name) ≡ None) where
  abbrev last_checks : List Check
  last_checks = element_checks before p (meant scope name) (place_of scope e)

  pub element_place : (f : CheckFault) → IsFirst f (place_checks scope e) → IsFirst f (index_checks g scope before p name e)
  element_place f h = first_behind f (array_checks g scope p name) (place_checks scope e ++ last_checks) array_holds (first_front f (place_checks scope e) last_checks h)

  module _ (k : ℕ) (i : Place) (array : meant scope name ≡ Some (meaning.Array k)) (index : i ≡ place_of scope e) (place_holds : first_fault (place_checks scope e) ≡ None) where
    same_checks : mention_checks before p (mention k i) ≡ last_checks
    same_checks = ap (λ (j : Place). mention_checks before p (mention k j)) index ∙ ap (λ (o : Option Meant). element_checks before p o (place_of scope e)) (sym array)

    pub element_second : (f : CheckFault) → IsFirst f (mention_checks before p (mention k i)) → IsFirst f (index_checks g scope before p name e)
    element_second f h =
        first_behind f (array_checks g scope p name) (place_checks scope e ++ last_checks) array_holds
        (first_behind f (place_checks scope e) last_checks place_holds (subst (λ (checks : List Check). IsFirst f checks) same_checks h))

    pub element_holds : first_fault (mention_checks before p (mention k i)) ≡ None → first_fault (index_checks g scope before p name e) ≡ None
    element_holds h =
        both_hold (array_checks g scope p name) (place_checks scope e ++ last_checks) array_holds
        (both_hold (place_checks scope e) last_checks place_holds (ap first_fault (sym same_checks) ∙ h))

-- Calls.

count_forms : (xs : List Expr) → exprs_count (forms xs) ≡ length xs
count_forms [] = refl
count_forms (x ∷ xs) = ap (λ (n : ℕ). suc n) (count_forms xs)

-- the checks at a name that names this unit or none
abbrev unit_checks_at : ℕ → Option HashName → Bool → ℕ → List Check
unit_checks_at p o declared n = check (fault.ShapeOfName p) (is_some o || not declared) ∷ check (fault.UnknownName p) (is_some o) ∷ check (fault.HashArgs p) (takes o n) ∷ []

at_unit : (p n : ℕ) (unit : HashName) (declared b : Bool) → nat_eq unit.args n ≡ b → first_fault (unit_checks_at p (Some unit) declared n) ≡ first_fault (check (fault.HashArgs p) b ∷ [])
at_unit p n unit declared b e = ap (λ (t : Bool). first_fault (check (fault.HashArgs p) t ∷ [])) e

pub unit_holds : (scope : Scope) (p : ℕ) (name : List ℕ) (args : List Expr) (unit : HashName) → unit_named name ≡ Some unit → unit.args ≡ length args → first_fault (unit_checks scope p name (exprs_count (forms args))) ≡ None
unit_holds scope p name args unit is count =
    ap (λ (o : Option HashName). first_fault (unit_checks_at p o (is_declared scope name) (exprs_count (forms args)))) is
    ∙ at_unit p (exprs_count (forms args)) unit (is_declared scope name) true (eq-eqb unit.args (exprs_count (forms args)) (count ∙ sym (count_forms args)))

pub unit_fault : (scope : Scope) (p : ℕ) (name : List ℕ) (args : List Expr) (unit : HashName) → unit_named name ≡ Some unit → (unit.args ≡ length args → ⊥) → first_fault (unit_checks scope p name (exprs_count (forms args))) ≡ Some (fault.HashArgs p)
unit_fault scope p name args unit is other =
    ap (λ (o : Option HashName). first_fault (unit_checks_at p o (is_declared scope name) (exprs_count (forms args)))) is
    ∙ at_unit p (exprs_count (forms args)) unit (is_declared scope name) false (ne_eqb unit.args (exprs_count (forms args)) (λ e. other (e ∙ count_forms args)))

-- Guards.

nothing_empty : (ms : List Mention) → ms ≡ [] → is_empty ms ≡ true
nothing_empty ms e = ap is_empty e

module _ (scope : Scope) (numbers : AreNumbers (length scope.arrays) scope.meanings) (before : List Mention) (o : Option Expr) (e : Expr) (is : o ≡ Some e) (holds : first_fault (expr_checks true scope before (form e)) ≡ None) where
  pub guard_inside : are_within (resolved_ranges (length scope.fields) (length scope.arrays)) (guard_visits (guard_of scope (guard_form o))) ≡ true
  guard_inside =
      subst (λ (g : Option Expr). are_within (resolved_ranges (length scope.fields) (length scope.arrays)) (guard_visits (guard_of scope (guard_form g))) ≡ true) (sym is)
      (condition_sound true scope before (part_of scope (form e)) (expr_sound scope numbers true before (form e) holds)).inside

  pub guard_free : guard_mentions_none (guard_of scope (guard_form o)) ≡ true
  guard_free =
      subst (λ (g : Option Expr). guard_mentions_none (guard_of scope (guard_form g)) ≡ true) (sym is)
      (nothing_empty (part_mentions (part_of scope (form e))) ((expr_sound scope numbers true before (form e) holds).free refl))

  pub guard_seen : (after : List Mention) → after ≡ before ++ part_mentions (part_of scope (form e)) → after ≡ before
  guard_seen after seen = seen ∙ ap (λ (ms : List Mention). before ++ ms) ((expr_sound scope numbers true before (form e) holds).free refl) ∙ append-nil before

-- Assignments.

module _ (scope : Scope) (before : List Mention) (t : Target) (b c : List ℕ) (q : ℕ) (f g : List ℕ) (p k : ℕ) (is : t ≡ target.Field b q f) (base : c ≡ b) (name : g ≡ f) (number : k ≡ field_number scope g) (holds : first_fault (field_checks scope p c q g) ≡ None) where
  field_target : first_fault (target_checks scope before p (target_form t)) ≡ first_fault (kept_checks before p k)
  field_target =
      ap (λ (u : Target). first_fault (target_checks scope before p (target_form u))) is
      ∙ ap (λ (n : List ℕ). first_fault (target_checks scope before p (to_field n q f))) (sym base)
      ∙ ap (λ (n : List ℕ). first_fault (target_checks scope before p (to_field c q n))) (sym name)
      ∙ faults_behind (field_checks scope p c q g) (kept_checks before p (field_number scope g)) holds
      ∙ ap (λ (n : ℕ). first_fault (kept_checks before p n)) (sym number)

  pub field_target_holds : first_fault (kept_checks before p k) ≡ None → first_fault (target_checks scope before p (target_form t)) ≡ None
  field_target_holds h = field_target ∙ h

  pub field_target_fault : (x : CheckFault) → IsFirst x (kept_checks before p k) → IsFirst x (target_checks scope before p (target_form t))
  field_target_fault x h = first_same x (kept_checks before p k) (target_checks scope before p (target_form t)) (sym field_target) h

module _ (scope : Scope) (before : List Mention) (p : ℕ) (t : TargetForm) (e : ExprForm) where
  pub assign_first : (f : CheckFault) → IsFirst f (expr_checks false scope before e) → IsFirst f (stmt_checks scope before (assign p t e))
  assign_first f h = first_front f (expr_checks false scope before e) (target_checks scope (before ++ part_mentions (part_of scope e)) p t) h

  pub assign_second : (now : List Mention) (f : CheckFault) → first_fault (expr_checks false scope before e) ≡ None → now ≡ before ++ part_mentions (part_of scope e) → IsFirst f (target_checks scope now p t) → IsFirst f (stmt_checks scope before (assign p t e))
  assign_second now f holds seen h =
      first_behind f (expr_checks false scope before e) (target_checks scope (before ++ part_mentions (part_of scope e)) p t) holds (subst (λ (ms : List Mention). IsFirst f (target_checks scope ms p t)) seen h)

  pub assign_holds : (now : List Mention) → first_fault (expr_checks false scope before e) ≡ None → now ≡ before ++ part_mentions (part_of scope e) → first_fault (target_checks scope now p t) ≡ None → first_fault (stmt_checks scope before (assign p t e)) ≡ None
  assign_holds now holds seen h =
      both_hold (expr_checks false scope before e) (target_checks scope (before ++ part_mentions (part_of scope e)) p t) holds (ap (λ (ms : List Mention). first_fault (target_checks scope ms p t)) (sym seen) ∙ h)

-- Branches.

pub as_branch : (s : Stmt) (e : Expr) (a b x y : List Stmt) → s ≡ If e a b → x ≡ a → y ≡ b → stmt_form s ≡ branch (form e) (stmt_forms x) (stmt_forms y)
as_branch s e a b x y is first second =
    ap stmt_form (is ∙ sym (rolls-If e a b)) ∙ fold-roll-Stmt StmtForm stmt_step (Stmt-F.If e a b) ∙ ap (λ z. branch (form e) (stmt_forms z) (stmt_forms b)) (sym first)
    ∙ ap (λ z. branch (form e) (stmt_forms x) (stmt_forms z)) (sym second)

module _ (scope : Scope) (before : List Mention) (s : Stmt) (e : ExprForm) (a b : StmtForms) (is : stmt_form s ≡ branch e a b) where
  abbrev after_condition : List Mention
  after_condition = before ++ part_mentions (part_of scope e)

  abbrev after_then : List Mention
  after_then = after_condition ++ mentions_in (acts_visits (acts_of scope a))

  pub branch_first : (f : CheckFault) → IsFirst f (expr_checks false scope before e) → IsFirst f (stmt_checks scope before (stmt_form s))
  branch_first f h =
      subst (λ (y : StmtForm). IsFirst f (stmt_checks scope before y)) (sym is)
      (first_front f (expr_checks false scope before e) (stmts_checks scope after_condition a ++ stmts_checks scope after_then b) h)

  pub branch_second : (now : List Mention) (f : CheckFault) → first_fault (expr_checks false scope before e) ≡ None → now ≡ after_condition → IsFirst f (stmts_checks scope now a) → IsFirst f (stmt_checks scope before (stmt_form s))
  branch_second now f holds seen h =
      subst (λ (y : StmtForm). IsFirst f (stmt_checks scope before y)) (sym is)
      (first_behind f (expr_checks false scope before e) (stmts_checks scope after_condition a ++ stmts_checks scope after_then b) holds
      (first_front f (stmts_checks scope after_condition a) (stmts_checks scope after_then b) (subst (λ (ms : List Mention). IsFirst f (stmts_checks scope ms a)) seen h)))

  then_seen : (now after : List Mention) → now ≡ after_condition → after ≡ now ++ mentions_in (acts_visits (acts_of scope a)) → after ≡ after_then
  then_seen now after seen more = more ∙ ap (λ (ms : List Mention). ms ++ mentions_in (acts_visits (acts_of scope a))) seen

  pub branch_third : (now after : List Mention) (f : CheckFault) → first_fault (expr_checks false scope before e) ≡ None → now ≡ after_condition → first_fault (stmts_checks scope now a) ≡ None
      → after ≡ now ++ mentions_in (acts_visits (acts_of scope a)) → IsFirst f (stmts_checks scope after b) → IsFirst f (stmt_checks scope before (stmt_form s))
  branch_third now after f holds seen also more h =
      subst (λ (y : StmtForm). IsFirst f (stmt_checks scope before y)) (sym is)
      (first_behind f (expr_checks false scope before e) (stmts_checks scope after_condition a ++ stmts_checks scope after_then b) holds
      (first_behind f (stmts_checks scope after_condition a) (stmts_checks scope after_then b) (ap (λ (ms : List Mention). first_fault (stmts_checks scope ms a)) (sym seen) ∙ also)
      (subst (λ (ms : List Mention). IsFirst f (stmts_checks scope ms b)) (then_seen now after seen more) h)))

  pub branch_holds : (now after : List Mention) → first_fault (expr_checks false scope before e) ≡ None → now ≡ after_condition → first_fault (stmts_checks scope now a) ≡ None
      → after ≡ now ++ mentions_in (acts_visits (acts_of scope a)) → first_fault (stmts_checks scope after b) ≡ None → first_fault (stmt_checks scope before (stmt_form s)) ≡ None
  branch_holds now after holds seen also more h =
      ap (λ (y : StmtForm). first_fault (stmt_checks scope before y)) is
      ∙ both_hold (expr_checks false scope before e) (stmts_checks scope after_condition a ++ stmts_checks scope after_then b) holds
      (both_hold (stmts_checks scope after_condition a) (stmts_checks scope after_then b) (ap (λ (ms : List Mention). first_fault (stmts_checks scope ms a)) (sym seen) ∙ also)
      (ap (λ (ms : List Mention). first_fault (stmts_checks scope ms b)) (sym (then_seen now after seen more)) ∙ h))

  branch_mentions : mentions_in (condition (part_of scope e) ∷ (acts_visits (acts_of scope a) ++ acts_visits (acts_of scope b))) ≡ part_mentions (part_of scope e) ++ (mentions_in (acts_visits (acts_of scope a)) ++ mentions_in (acts_visits (acts_of scope b)))
  branch_mentions =
      ap (λ (ms : List Mention). ms ++ mentions_in (acts_visits (acts_of scope a) ++ acts_visits (acts_of scope b))) (append-nil (part_mentions (part_of scope e)))
      ∙ ap (λ (ms : List Mention). part_mentions (part_of scope e) ++ ms) (flat_map-append visit_mentions (acts_visits (acts_of scope a)) (acts_visits (acts_of scope b)))

  pub branch_seen : (now after last : List Mention) → now ≡ after_condition → after ≡ now ++ mentions_in (acts_visits (acts_of scope a)) → last ≡ after ++ mentions_in (acts_visits (acts_of scope b))
      → last ≡ before ++ mentions_in (act_visits (act_of scope (stmt_form s)))
  branch_seen now after last seen more h =
      h ∙ ap (λ (ms : List Mention). ms ++ mentions_in (acts_visits (acts_of scope b))) (then_seen now after seen more)
      ∙ append_assoc after_condition (mentions_in (acts_visits (acts_of scope a))) (mentions_in (acts_visits (acts_of scope b)))
      ∙ append_assoc before (part_mentions (part_of scope e)) (mentions_in (acts_visits (acts_of scope a)) ++ mentions_in (acts_visits (acts_of scope b)))
      ∙ ap (λ (ms : List Mention). before ++ ms) (sym branch_mentions)
      ∙ ap (λ (y : StmtForm). before ++ mentions_in (act_visits (act_of scope y))) (sym is)

-- Bodies.

pub body_settled : (scope : Scope) (before after : List Mention) (ss : StmtForms) → AreNumbers (length scope.arrays) scope.meanings → first_fault (stmts_checks scope before ss) ≡ None → after ≡ before ++ mentions_in (acts_visits (acts_of scope ss))
    → are_settled scope.meanings before ≡ true → are_settled scope.meanings after ≡ true
body_settled scope before after ss numbers holds seen settled =
    subst (λ (ms : List Mention). are_settled scope.meanings ms ≡ true) (sym seen) ((stmts_sound scope numbers before ss holds).settled settled)
