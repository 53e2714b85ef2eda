-- What holds of a resolved program and of the lists that the passes make of it.
use Rattle.std.specs.Prelude.{ℕ, suc, Bool, true, false, not, ◌&&◌, ◌||◌, nat_eq, nat_lt, List, [], ◌∷◌, ◌++◌, flat_map, Option, Some, None}
use Rattle.std.specs.List.{list_all}
use Rattle.dom_words.specs.Order.{Access}
use Rattle.dom_ast.specs.declared.part.Place.{Place}
use Rattle.dom_ast.specs.declared.part.Place.TheVariants as place
use Rattle.dom_ast.specs.declared.part.Goal.{Goal}
use Rattle.dom_ast.specs.declared.part.Goal.TheVariants as goal
use Rattle.dom_ast.specs.Resolved.{PartForm, number, field, state, fresh, made, call, un, chain, choice, PartForms, no_parts, part, OpForms, no_ops, op, ActForm, assign, branch, ActForms, no_acts, act, BodyForm}

-- What a walk through a program comes to, in order: a value, and the target that it is assigned to; a condition has none.
pub record Visit : Type 0 where
  pub target : Option Goal
  pub value : PartForm

abbrev pub condition : PartForm → Visit
condition p = record { target = None; value = p }

abbrev pub assignment : Goal → PartForm → Visit
assignment g p = record { target = Some g; value = p }

-- the visits of statements: at an `if` its condition is visited first, and then its two branches
abbrev mutual
  pub act_visits : ActForm → List Visit
  act_visits (assign g p) = assignment g p ∷ []
  act_visits (branch p a b) = condition p ∷ (acts_visits a ++ acts_visits b)

  pub acts_visits : ActForms → List Visit
  acts_visits no_acts = []
  acts_visits (act a rest) = act_visits a ++ acts_visits rest

-- the visit of a guard, if there is one
abbrev pub guard_visits : Option PartForm → List Visit
guard_visits None = []
guard_visits (Some p) = condition p ∷ []

-- the visits of transactions, each guard before its body
abbrev pub bodies_visits : List BodyForm → List Visit
bodies_visits bodies = flat_map (λ body. guard_visits body.guard ++ acts_visits body.acts) bodies

-- a mention of an array at an index
abbrev pub Mention : Type 0
Mention = Access Place

abbrev pub mention : ℕ → Place → Mention
mention a i = record { array = a; index = i }

-- the mentions of arrays in an expression, from left to right
abbrev mutual
  pub part_mentions : PartForm → List Mention
  part_mentions (number w) = []
  part_mentions (field f) = []
  part_mentions (state a i) = mention a i ∷ []
  part_mentions (fresh k) = []
  part_mentions (made k) = []
  part_mentions (call unit ps) = parts_mentions ps
  part_mentions (un o p) = part_mentions p
  part_mentions (chain p os) = part_mentions p ++ ops_mentions os
  part_mentions (choice c p q) = part_mentions c ++ (part_mentions p ++ part_mentions q)

  pub parts_mentions : PartForms → List Mention
  parts_mentions no_parts = []
  parts_mentions (part p ps) = part_mentions p ++ parts_mentions ps

  pub ops_mentions : OpForms → List Mention
  ops_mentions no_ops = []
  ops_mentions (op o p os) = part_mentions p ++ ops_mentions os

-- the mention that a target is, where it is the word of an array
abbrev pub goal_mentions : Goal → List Mention
goal_mentions (goal.Field f) = []
goal_mentions (goal.State a i) = mention a i ∷ []
goal_mentions (goal.Fresh k) = []

-- the same where there may be no target
abbrev pub target_mentions : Option Goal → List Mention
target_mentions None = []
target_mentions (Some g) = goal_mentions g

-- a value is walked before its target
abbrev pub visit_mentions : Visit → List Mention
visit_mentions v = part_mentions v.value ++ target_mentions v.target

-- the mentions of all visits, in order
abbrev pub mentions_in : List Visit → List Mention
mentions_in visits = flat_map visit_mentions visits

-- two indexes are the same
abbrev pub is_same_place : Place → Place → Bool
is_same_place (place.Word w) (place.Word v) = nat_eq w v
is_same_place (place.Word w) (place.Field f) = false
is_same_place (place.Field f) (place.Word w) = false
is_same_place (place.Field f) (place.Field g) = nat_eq f g

-- these are not two mentions of one array at two indexes
abbrev pub agree : Mention → Mention → Bool
agree m n = not (nat_eq m.array n.array) || is_same_place m.index n.index

-- all mentions of an array have one index
abbrev pub have_one_index : List Mention → Bool
have_one_index ms = list_all (λ m. list_all (agree m) ms) ms

-- the field is no index in these mentions
abbrev pub is_no_index : List Mention → ℕ → Bool
is_no_index ms f = list_all (λ m. not (is_same_place m.index (place.Field f))) ms

-- an assignment to this target changes no index in these mentions
abbrev pub changes_none : List Mention → Option Goal → Bool
changes_none ms None = true
changes_none ms (Some (goal.Field f)) = is_no_index ms f
changes_none ms (Some (goal.State a i)) = true
changes_none ms (Some (goal.Fresh k)) = true

-- no field is assigned to that is the index of an array mentioned before: by an earlier visit, or in the value
abbrev pub keep_indexes : List Mention → List Visit → Bool
keep_indexes before [] = true
keep_indexes before (v ∷ vs) = changes_none (before ++ part_mentions v.value) v.target && keep_indexes (before ++ visit_mentions v) vs

-- how many fields, arrays and fresh names there are, and which values are made
pub record Ranges : Type 0 where
  pub fields : ℕ
  pub arrays : ℕ
  pub fresh : ℕ
  pub is_made : ℕ → Bool

-- a field that is an index is in range
abbrev pub place_within : Ranges → Place → Bool
place_within r (place.Word w) = true
place_within r (place.Field f) = nat_lt f r.fields

-- how many expressions there are
abbrev pub parts_count : PartForms → ℕ
parts_count no_parts = 0
parts_count (part p ps) = suc (parts_count ps)

-- every number is in range, and a hash has as many arguments as its unit says
abbrev mutual
  pub part_within : Ranges → PartForm → Bool
  part_within r (number w) = true
  part_within r (field f) = nat_lt f r.fields
  part_within r (state a i) = nat_lt a r.arrays && place_within r i
  part_within r (fresh k) = nat_lt k r.fresh
  part_within r (made k) = r.is_made k
  part_within r (call unit ps) = nat_eq (parts_count ps) unit.args && parts_within r ps
  part_within r (un o p) = part_within r p
  part_within r (chain p os) = part_within r p && ops_within r os
  part_within r (choice c p q) = part_within r c && (part_within r p && part_within r q)

  pub parts_within : Ranges → PartForms → Bool
  parts_within r no_parts = true
  parts_within r (part p ps) = part_within r p && parts_within r ps

  pub ops_within : Ranges → OpForms → Bool
  ops_within r no_ops = true
  ops_within r (op o p os) = part_within r p && ops_within r os

-- the numbers in a target are in range
abbrev pub goal_within : Ranges → Goal → Bool
goal_within r (goal.Field f) = nat_lt f r.fields
goal_within r (goal.State a i) = nat_lt a r.arrays && place_within r i
goal_within r (goal.Fresh k) = nat_lt k r.fresh

-- the same where there may be no target
abbrev pub target_within : Ranges → Option Goal → Bool
target_within r None = true
target_within r (Some g) = goal_within r g

-- the numbers in a visit are in range
abbrev pub visit_within : Ranges → Visit → Bool
visit_within r v = part_within r v.value && target_within r v.target

-- the numbers in all visits are in range
abbrev pub are_within : Ranges → List Visit → Bool
are_within r visits = list_all (visit_within r) visits

-- a resolved program has no fresh name and no made value
abbrev pub resolved_ranges : ℕ → ℕ → Ranges
resolved_ranges fields arrays = record { fields = fields; arrays = arrays; fresh = 0; is_made = λ k. false }

abbrev pub is_empty : List Mention → Bool
is_empty [] = true
is_empty (m ∷ ms) = false

-- a guard, if there is one, mentions no array
abbrev pub guard_mentions_none : Option PartForm → Bool
guard_mentions_none None = true
guard_mentions_none (Some p) = is_empty (part_mentions p)

-- no guard mentions an array
abbrev pub guards_mention_none : List BodyForm → Bool
guards_mention_none bodies = list_all (λ body. guard_mentions_none body.guard) bodies
