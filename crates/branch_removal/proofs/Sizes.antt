-- How long the list of steps is, and how many fresh names there are.
use Rattle.std.proofs.Common.{◌≡◌, ℕ, zero, suc, ◌+◌, ◌*◌, ◌≤◌, ◌<◌, ◌^◌, true, List, [], ◌∷◌, ◌++◌, map, length, refl, ap, arith, length-append}
use Rattle.std.specs.Prelude.{Option, Some, None}
use Rattle.std.proofs.lemmas.Bool.{false≢true}
use Rattle.std.proofs.lemmas.List.Sums.{sum_by-cons}
use Rattle.dom_ast.specs.declared.part.Goal.{Goal}
use Rattle.dom_ast.specs.declared.part.Goal.TheVariants as goal
use Rattle.dom_ast.specs.PartSize.{act_nested, act_nodes, acts_nested, acts_nodes, bodies_nested, bodies_nodes, body_nodes, guard_nodes, guarded_nested, part_nodes}
use Rattle.dom_ast.specs.Resolved.{PartForm, number, field, state, fresh, made, call, un, chain, choice, ActForm, assign, branch, ActForms, no_acts, act, BodyForm}
use Rattle.dom_ast.specs.Straight.{StepForm, steps_nodes}
use Rattle.branch_removal.specs.declared.branch.Branch.{Branch}
use Rattle.branch_removal.specs.declared.branch.Branch.TheVariants.{Then, Else}
use Rattle.branch_removal.specs.Branches.{act_ifs, act_steps, acts_ifs, acts_steps, bodies_steps, chosen_steps, guard_count, guard_step, guard_steps, guarded, guarded_at, guards, ifs, step, straight}
use Rattle.branch_removal.proofs.Tests.{both}

steps_nodes-cons : (s : StepForm) (ss : List StepForm) → steps_nodes (s ∷ ss) ≡ suc (part_nodes s.value) + steps_nodes ss
steps_nodes-cons s ss =
    let size : StepForm → ℕ = λ s. suc (part_nodes s.value) in
    sum_by-cons (λ n. n) (size s) (map size ss)

bodies_nodes-cons : (body : BodyForm) (bodies : List BodyForm) → bodies_nodes (body ∷ bodies) ≡ body_nodes body + bodies_nodes bodies
bodies_nodes-cons body bodies = sum_by-cons (λ n. n) (body_nodes body) (map body_nodes bodies)

steps_nodes-append : (ss ts : List StepForm) → steps_nodes (ss ++ ts) ≡ steps_nodes ss + steps_nodes ts
steps_nodes-append [] ts = omega arith
steps_nodes-append (s ∷ ss) ts = omega (arith, steps_nodes-append ss ts, steps_nodes-cons s ss, steps_nodes-cons s (ss ++ ts))

some_nodes : (p : PartForm) → 1 ≤ part_nodes p
some_nodes (number w) = omega arith
some_nodes (field f) = omega arith
some_nodes (state a i) = omega arith
some_nodes (fresh k) = omega arith
some_nodes (made k) = omega arith
some_nodes (call unit ps) = omega arith
some_nodes (un o p) = omega arith
some_nodes (chain p os) = omega arith
some_nodes (choice c p q) = omega arith

guarded_at_nodes : (b : Branch) (g : Goal) (p : PartForm) → part_nodes (guarded_at b g p).value ≤ part_nodes p + 3
guarded_at_nodes (Then k) (goal.Field f) p = omega arith
guarded_at_nodes (Else k) (goal.Field f) p = omega arith
guarded_at_nodes (Then k) (goal.State a i) p = omega arith
guarded_at_nodes (Else k) (goal.State a i) p = omega arith
guarded_at_nodes (Then k) (goal.Fresh j) p = omega arith
guarded_at_nodes (Else k) (goal.Fresh j) p = omega arith

-- a conditional move has three nodes more
guarded_nodes : (b : Branch) (ss : List StepForm) → steps_nodes (map (guarded b) ss) ≤ steps_nodes ss + 3 * length ss
guarded_nodes b [] = omega arith
guarded_nodes b (s ∷ ss) =
    omega (arith, guarded_at_nodes b s.target s.value, guarded_nodes b ss, steps_nodes-cons s ss, steps_nodes-cons (guarded b s) (map (guarded b) ss))

guarded_length : (b : Branch) (ss : List StepForm) → length (map (guarded b) ss) ≡ length ss
guarded_length b [] = refl
guarded_length b (s ∷ ss) = ap suc (guarded_length b ss)

mutual
  act_length : (n : ℕ) (a : ActForm) → length (act_steps n a) ≤ act_nodes a
  act_length n (assign g p) = omega arith
  act_length n (branch c a b) =
      let ss = acts_steps (n + 1) a in
      let ts = acts_steps (n + 1 + acts_ifs a) b in
      omega (arith, acts_length (n + 1) a, acts_length (n + 1 + acts_ifs a) b, guarded_length (Then n) ss, guarded_length (Else n) ts, length-append (map (guarded (Then n)) ss) (map (guarded (Else n)) ts))

  acts_length : (n : ℕ) (acts : ActForms) → length (acts_steps n acts) ≤ acts_nodes acts
  acts_length n no_acts = omega arith
  acts_length n (act a rest) =
      omega (arith, act_length n a, acts_length (n + act_ifs a) rest, length-append (act_steps n a) (acts_steps (n + act_ifs a) rest))

one_bound : (d a x : ℕ) → x ≡ a + 0 → x ≤ (3 * d + 1) * a
one_bound d a x h = omega arith

branch_bound : (d c a b x y m n : ℕ) → x ≤ (3 * d + 1) * a → y ≤ (3 * d + 1) * b → m ≤ a → n ≤ b → suc c + ((x + 3 * m) + (y + 3 * n)) ≤ (3 * suc d + 1) * suc (c + (a + b))
branch_bound d c a b x y m n h k hm hn = omega arith

more_bound : (k a b x y : ℕ) → x ≤ k * a → y ≤ k * b → x + y ≤ k * (a + b)
more_bound k a b x y h g = omega arith

-- with `if`s at most d deep
mutual
  act_size : (d n : ℕ) (a : ActForm) → act_nested d a ≡ true → steps_nodes (act_steps n a) ≤ (3 * d + 1) * act_nodes a
  act_size d n (assign g p) h = one_bound d (suc (part_nodes p)) (steps_nodes (step g p ∷ [])) (steps_nodes-cons (step g p) [])
  act_size zero n (branch c a b) h = absurd (false≢true h)
  act_size (suc d) n (branch c a b) h =
      let parts = both (acts_nested d a) (acts_nested d b) h in
      let ss = acts_steps (n + 1) a in
      let ts = acts_steps (n + 1 + acts_ifs a) b in
      let bound = branch_bound d (part_nodes c) (acts_nodes a) (acts_nodes b) (steps_nodes ss) (steps_nodes ts) (length ss) (length ts) (acts_size d (n + 1) a parts.0) (acts_size d (n + 1 + acts_ifs a) b parts.1) (acts_length (n + 1) a) (acts_length (n + 1 + acts_ifs a) b) in
      omega (arith, bound, steps_nodes-cons (step (goal.Fresh n) c) (map (guarded (Then n)) ss ++ map (guarded (Else n)) ts), guarded_nodes (Then n) ss, guarded_nodes (Else n) ts, steps_nodes-append (map (guarded (Then n)) ss) (map (guarded (Else n)) ts))

  acts_size : (d n : ℕ) (acts : ActForms) → acts_nested d acts ≡ true → steps_nodes (acts_steps n acts) ≤ (3 * d + 1) * acts_nodes acts
  acts_size d n no_acts h = omega arith
  acts_size d n (act a rest) h =
      let parts = both (act_nested d a) (acts_nested d rest) h in
      let bound = more_bound (3 * d + 1) (act_nodes a) (acts_nodes rest) (steps_nodes (act_steps n a)) (steps_nodes (acts_steps (n + act_ifs a) rest)) (act_size d n a parts.0) (acts_size d (n + act_ifs a) rest parts.1) in
      omega (arith, bound, steps_nodes-append (act_steps n a) (acts_steps (n + act_ifs a) rest))

chosen_bound : (d a x y m : ℕ) → x ≤ (3 * d + 1) * a → m ≤ a → y ≤ x + 3 * m → y ≤ (3 * suc d + 1) * a
chosen_bound d a x y m h k l = omega arith

chosen_size : (d k n : ℕ) (guard : Option PartForm) (acts : ActForms) → guarded_nested d guard acts ≡ true → steps_nodes (chosen_steps k guard (acts_steps n acts)) ≤ (3 * d + 1) * acts_nodes acts
chosen_size d k n None acts h = acts_size d n acts h
chosen_size zero k n (Some p) acts h = absurd (false≢true h)
chosen_size (suc d) k n (Some p) acts h =
    let ss = acts_steps n acts in
    chosen_bound d (acts_nodes acts) (steps_nodes ss) _ (length ss) (acts_size d n acts h) (acts_length n acts) (guarded_nodes (Then k) ss)

guard_bound : (d a x : ℕ) → 1 ≤ a → x ≡ suc a + 0 → x ≤ (3 * suc d + 1) * a
guard_bound d a x h k = omega arith

guard_size : (d k : ℕ) (guard : Option PartForm) (acts : ActForms) → guarded_nested d guard acts ≡ true → steps_nodes (guard_step k guard) ≤ (3 * d + 1) * guard_nodes guard
guard_size d k None acts h = omega arith
guard_size zero k (Some p) acts h = absurd (false≢true h)
guard_size (suc d) k (Some p) acts h = guard_bound d (part_nodes p) (steps_nodes (step (goal.Fresh k) p ∷ [])) (some_nodes p) (steps_nodes-cons (step (goal.Fresh k) p) [])

guard_names : (guard : Option PartForm) → guard_count guard ≤ guard_nodes guard
guard_names None = omega arith
guard_names (Some p) = some_nodes p

bodies_bound : (k g a rest total u v x y : ℕ) → u ≤ k * g → v ≤ k * a → x + y ≤ k * rest → total ≡ (g + a) + rest → (u + x) + (v + y) ≤ k * total
bodies_bound k g a rest total u v x y h i j e = rw e (omega arith)

bodies_size : (d j k n : ℕ) (bodies : List BodyForm) → bodies_nested d bodies ≡ true → steps_nodes (guard_steps j bodies) + steps_nodes (bodies_steps k n bodies) ≤ (3 * d + 1) * bodies_nodes bodies
bodies_size d j k n [] h = omega arith
bodies_size d j k n (body ∷ bodies) h =
    let parts = both (guarded_nested d body.guard body.acts) (bodies_nested d bodies) h in
    let g = guard_step j body.guard in
    let gs = guard_steps (j + guard_count body.guard) bodies in
    let b = chosen_steps k body.guard (acts_steps n body.acts) in
    let bs = bodies_steps (k + guard_count body.guard) (n + acts_ifs body.acts) bodies in
    let bound = bodies_bound (3 * d + 1) (guard_nodes body.guard) (acts_nodes body.acts) (bodies_nodes bodies) (bodies_nodes (body ∷ bodies)) (steps_nodes g) (steps_nodes b) (steps_nodes gs) (steps_nodes bs) (guard_size d j body.guard body.acts parts.0) (chosen_size d k n body.guard body.acts parts.0) (bodies_size d (j + guard_count body.guard) (k + guard_count body.guard) (n + acts_ifs body.acts) bodies parts.1) (bodies_nodes-cons body bodies) in
    omega (arith, bound, steps_nodes-append g gs, steps_nodes-append b bs)

pub few_steps : (bodies : List BodyForm) → bodies_nodes bodies ≤ 16384 → bodies_nested 64 bodies ≡ true → steps_nodes (straight bodies) < 2 ^ 22
few_steps bodies size nested =
    let bound : steps_nodes (guard_steps 0 bodies) + steps_nodes (bodies_steps 0 (guards bodies) bodies) ≤ (3 * 64 + 1) * bodies_nodes bodies = bodies_size 64 0 0 (guards bodies) bodies nested in
    omega (arith, bound, steps_nodes-append (guard_steps 0 bodies) (bodies_steps 0 (guards bodies) bodies))

mutual
  act_names : (a : ActForm) → act_ifs a ≤ act_nodes a
  act_names (assign g p) = omega arith
  act_names (branch c a b) = omega (arith, acts_names a, acts_names b)

  acts_names : (acts : ActForms) → acts_ifs acts ≤ acts_nodes acts
  acts_names no_acts = omega arith
  acts_names (act a rest) = omega (arith, act_names a, acts_names rest)

pub few_names : (bodies : List BodyForm) → guards bodies + ifs bodies ≤ bodies_nodes bodies
few_names [] = omega arith
few_names (body ∷ bodies) = omega (arith, bodies_nodes-cons body bodies, guard_names body.guard, acts_names body.acts, few_names bodies)
