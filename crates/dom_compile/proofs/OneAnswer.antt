-- For one target a text is one thing.
use Rattle.std.proofs.Common.{◌≡◌, ℕ, ◌≤◌, List, [], length, Option, Some, None, sym, ap, ◌∙◌, subst, arith, Result, Ok, Err}
use Rattle.std.specs.Option.{option_map}
use Rattle.codelets.specs.declared.answer.Codelets.{Codelets}
use Rattle.codelets.specs.declared.codelet.Codelet.{Codelet}
use Rattle.codelets.specs.declared.codelet.Kind.{Kind}
use Rattle.stage_plan.specs.declared.place.Place.{Place}
use Rattle.stage_plan.specs.Chains.{IsFirstChain, greatest_level}
use Rattle.stage_plan.specs.Faults.{IsFullAt, IsShown, IsShownBy, full_stage}
use Rattle.stage_plan.specs.Schedule.{Placement, all_placed, other_kind, schedule, stuck}
use Rattle.stage_plan.proofs.Longest.{one_first}
use Rattle.atom_match.specs.Atoms.{AtomForm, first_outside}
use Rattle.banzai_config.specs.Legal.{Shape}
use Rattle.banzai_config.specs.Parts.{PartsForm}
use Rattle.compile_law.specs.Compiled.{compiled_parts}
use Rattle.container_plan.specs.Shared.{shared}
use Rattle.dom_ast.specs.Resolved.{CheckedForm}
use Rattle.dom_compile.specs.Answer.{CompileRefusal, IsCompileAnswer, IsFitted, full, ill_formed, outside, too_deep, too_many}
use Rattle.dom_compile.specs.Compiled.{IsCompiled, listed}
use Rattle.dom_compile.specs.Verdict.{IsProgram, ProgramFault}
use Rattle.dom_compile.proofs.Drawn.{drawn, one_drawn, same_atoms, same_list, same_outside, same_parts}
use Rattle.dom_compile.proofs.OneProgram.{one_program}

-- A full stage is shown in one way.

shown_once : (first other : Option ℕ) (own kind kind' : Kind) (stage stage' : ℕ) → IsShownBy first other own kind stage → IsShownBy first other own kind' stage' → (kind ≡ kind') × (stage ≡ stage')
shown_once (Some s) other own kind kind' stage stage' a b = (a.0 ∙ sym b.0, a.1 ∙ sym b.1)
shown_once None other own kind kind' stage stage' a b =
    let e : Some stage ≡ Some stage' = sym a.1 ∙ b.1 in
    let same : stage ≡ stage' = cc in
    (a.0 ∙ sym b.0, same)

full_once : (depth sl sf : ℕ) (cs : List Codelet) (n n' : ℕ) (kind kind' : Kind) (stage stage' : ℕ) → IsFullAt depth sl sf cs n kind stage → IsFullAt depth sl sf cs n' kind' stage'
    → full n kind stage ≡ full n' kind' stage'
full_once depth sl sf cs n n' kind kind' stage stage' a b =
    let e : stuck a.placed a.codelet ≡ stuck b.placed b.codelet = sym a.stops ∙ b.stops in
    let placed : b.placed ≡ a.placed = cc in
    let codelet : b.codelet ≡ a.codelet = cc in
    let number : n ≡ n' = a.its ∙ ap (λ (c : Codelet). c.first) (sym codelet) ∙ sym b.its in
    let shown : IsShown depth sl sf a.placed a.codelet kind' stage' =
    subst (λ (c : Codelet). IsShown depth sl sf a.placed c kind' stage') codelet (subst (λ (ps : List Place). IsShown depth sl sf ps b.codelet kind' stage') placed b.shown) in
    let same = shown_once (full_stage depth sl sf a.placed a.codelet.kind) (full_stage depth sl sf a.placed (other_kind a.codelet.kind)) a.codelet.kind kind kind' stage stage' a.shown shown in
    ap (λ (x : ℕ). full x kind stage) number ∙ ap (λ (x : Kind). full n' x stage) same.0 ∙ ap (λ (x : ℕ). full n' kind' x) same.1

module _ (s : Shape) (text : List ℕ) where
  abbrev Is : Result PartsForm CompileRefusal → Type 0
  Is r = IsCompileAnswer s text r

  abbrev inside_of : Codelets → Option Codelet
  inside_of c = first_outside s.fits s.multiplies c

  abbrev schedule_of : List Codelet → Placement
  schedule_of cs = schedule s.depth s.stateless s.stateful [] cs

  same_drawn : (a b : Codelets) → IsFitted s.fits s.multiplies text a → IsFitted s.fits s.multiplies text b → drawn a ≡ drawn b
  same_drawn a b x y = one_drawn text a b x.listed y.listed

  -- No text is two things.

  pub ill_or_well : (f : ProgramFault) (p : CheckedForm) → IsProgram text (Err f) → IsProgram text (Ok p) → ⊥
  ill_or_well f p a b = let e = one_program text (Err f) (Ok p) a b in cc

  pub long_or_listed : (n : ℕ) (c : Codelets) → Is (Err (too_many n)) → IsCompiled text c.flat → ⊥
  long_or_listed n c a b =
      let e = one_program text (Ok a.0) (Ok b.program) a.1 b.program_is in
      let same : a.0 ≡ b.program = cc in
      let count : n ≡ length c.flat.lines = a.2 ∙ ap (λ (p : CheckedForm). length (listed p).lines) same ∙ sym (ap length b.listed_is.lines) in
      let many = a.3 in
      let few = c.flat.few_lines in
      omega arith

  pub outside_or_fitted : (n : ℕ) (c : Codelets) → Is (Err (outside n)) → IsFitted s.fits s.multiplies text c → ⊥
  outside_or_fitted n c a b =
      let none : inside_of a.0 ≡ None = same_outside a.0 c (one_drawn text a.0 c a.1 b.listed) s.fits s.multiplies ∙ b.inside in
      let e : Some n ≡ option_map (λ (x : Codelet). x.first) None = sym a.2 ∙ ap (option_map (λ (x : Codelet). x.first)) none in
      cc

  deep_or_shallow : (chain : List ℕ) (c : Codelets) → Is (Err (too_deep chain)) → IsFitted s.fits s.multiplies text c → greatest_level c.list ≤ s.depth → ⊥
  deep_or_shallow chain c a b low =
      let same : greatest_level a.0.list ≡ greatest_level c.list = ap greatest_level (same_list a.0 c (same_drawn a.0 c a.1 b)) in
      let high = a.2.0 in
      omega arith

  full_or_placed : (n : ℕ) (kind : Kind) (stage : ℕ) (p : PartsForm) → Is (Err (full n kind stage)) → Is (Ok p) → ⊥
  full_or_placed n kind stage p a b =
      let e : stuck a.2.1.placed a.2.1.codelet ≡ all_placed b.2.places = sym a.2.1.stops ∙ ap schedule_of (same_list a.0 b.0 (same_drawn a.0 b.0 a.1 b.1)) ∙ b.2.placed in
      cc

  -- Each is one.

  one_long : (m n : ℕ) → Is (Err (too_many m)) → Is (Err (too_many n)) → m ≡ n
  one_long m n a b =
      let e = one_program text (Ok a.0) (Ok b.0) a.1 b.1 in
      let same : a.0 ≡ b.0 = cc in
      a.2 ∙ ap (λ (p : CheckedForm). length (listed p).lines) same ∙ sym b.2

  one_outside : (m n : ℕ) → Is (Err (outside m)) → Is (Err (outside n)) → m ≡ n
  one_outside m n a b =
      let e : Some m ≡ Some n = sym a.2 ∙ ap (option_map (λ (x : Codelet). x.first)) (same_outside a.0 b.0 (one_drawn text a.0 b.0 a.1 b.1) s.fits s.multiplies) ∙ b.2 in
      cc

  one_deep : (k l : List ℕ) → Is (Err (too_deep k)) → Is (Err (too_deep l)) → k ≡ l
  one_deep k l a b =
      let same : a.0.list ≡ b.0.list = same_list a.0 b.0 (same_drawn a.0 b.0 a.1 b.1) in
      one_first b.0.list k l (subst (λ (cs : List Codelet). IsFirstChain cs k) same a.2.1) b.2.1

  one_full : (m n : ℕ) (k l : Kind) (i j : ℕ) → Is (Err (full m k i)) → Is (Err (full n l j)) → full m k i ≡ full n l j
  one_full m n k l i j a b =
      let same : a.0.list ≡ b.0.list = same_list a.0 b.0 (same_drawn a.0 b.0 a.1 b.1) in
      full_once s.depth s.stateless s.stateful b.0.list m n k l i j (subst (λ (cs : List Codelet). IsFullAt s.depth s.stateless s.stateful cs m k i) same a.2.1) b.2.1

  one_config : (p q : PartsForm) → Is (Ok p) → Is (Ok q) → p ≡ q
  one_config p q a b =
      let same = same_drawn a.0 b.0 a.1 b.1 in
      let atoms : a.2.atoms ≡ b.2.atoms = same_atoms a.0 b.0 same a.2.atoms b.2.atoms a.2.atoms_are b.2.atoms_are in
      let e : all_placed a.2.places ≡ all_placed b.2.places = sym a.2.placed ∙ ap schedule_of (same_list a.0 b.0 same) ∙ b.2.placed in
      let places : a.2.places ≡ b.2.places = cc in
      let own : compiled_parts a.0 s.depth a.2.atoms a.2.places ≡ compiled_parts b.0 s.depth b.2.atoms b.2.places =
      same_parts a.0 b.0 same s.depth a.2.atoms a.2.places
      ∙ ap (λ (xs : List AtomForm). compiled_parts b.0 s.depth xs a.2.places) atoms
      ∙ ap (λ (ps : List Place). compiled_parts b.0 s.depth b.2.atoms ps) places in
      a.2.parts_are ∙ ap shared own ∙ sym b.2.parts_are

pub one_compile_answer : (s : Shape) (text : List ℕ) (a b : Result PartsForm CompileRefusal) → IsCompileAnswer s text a → IsCompileAnswer s text b → a ≡ b
one_compile_answer s text (Err (ill_formed f)) (Err (ill_formed f')) a b = let e = one_program text (Err f) (Err f') a b in let same : f ≡ f' = cc in ap (λ (x : ProgramFault). Err (ill_formed x)) same
one_compile_answer s text (Err (ill_formed f)) (Err (too_many m')) a b = absurd (ill_or_well s text f (b.0) a (b.1))
one_compile_answer s text (Err (ill_formed f)) (Err (outside m')) a b = absurd (ill_or_well s text f (b.1.program) a (b.1.program_is))
one_compile_answer s text (Err (ill_formed f)) (Err (too_deep k')) a b = absurd (ill_or_well s text f (b.1.listed.program) a (b.1.listed.program_is))
one_compile_answer s text (Err (ill_formed f)) (Err (full m' k' i')) a b = absurd (ill_or_well s text f (b.1.listed.program) a (b.1.listed.program_is))
one_compile_answer s text (Err (ill_formed f)) (Ok p') a b = absurd (ill_or_well s text f (b.1.listed.program) a (b.1.listed.program_is))
one_compile_answer s text (Err (too_many m)) (Err (ill_formed f')) a b = absurd (ill_or_well s text f' (a.0) b (a.1))
one_compile_answer s text (Err (too_many m)) (Err (too_many m')) a b = ap (λ (x : ℕ). Err (too_many x)) (one_long s text m m' a b)
one_compile_answer s text (Err (too_many m)) (Err (outside m')) a b = absurd (long_or_listed s text m (b.0) a (b.1))
one_compile_answer s text (Err (too_many m)) (Err (too_deep k')) a b = absurd (long_or_listed s text m (b.0) a (b.1.listed))
one_compile_answer s text (Err (too_many m)) (Err (full m' k' i')) a b = absurd (long_or_listed s text m (b.0) a (b.1.listed))
one_compile_answer s text (Err (too_many m)) (Ok p') a b = absurd (long_or_listed s text m (b.0) a (b.1.listed))
one_compile_answer s text (Err (outside m)) (Err (ill_formed f')) a b = absurd (ill_or_well s text f' (a.1.program) b (a.1.program_is))
one_compile_answer s text (Err (outside m)) (Err (too_many m')) a b = absurd (long_or_listed s text m' (a.0) b (a.1))
one_compile_answer s text (Err (outside m)) (Err (outside m')) a b = ap (λ (x : ℕ). Err (outside x)) (one_outside s text m m' a b)
one_compile_answer s text (Err (outside m)) (Err (too_deep k')) a b = absurd (outside_or_fitted s text m (b.0) a (b.1))
one_compile_answer s text (Err (outside m)) (Err (full m' k' i')) a b = absurd (outside_or_fitted s text m (b.0) a (b.1))
one_compile_answer s text (Err (outside m)) (Ok p') a b = absurd (outside_or_fitted s text m (b.0) a (b.1))
one_compile_answer s text (Err (too_deep k)) (Err (ill_formed f')) a b = absurd (ill_or_well s text f' (a.1.listed.program) b (a.1.listed.program_is))
one_compile_answer s text (Err (too_deep k)) (Err (too_many m')) a b = absurd (long_or_listed s text m' (a.0) b (a.1.listed))
one_compile_answer s text (Err (too_deep k)) (Err (outside m')) a b = absurd (outside_or_fitted s text m' (a.0) b (a.1))
one_compile_answer s text (Err (too_deep k)) (Err (too_deep k')) a b = ap (λ (x : List ℕ). Err (too_deep x)) (one_deep s text k k' a b)
one_compile_answer s text (Err (too_deep k)) (Err (full m' k' i')) a b = absurd (deep_or_shallow s text k (b.0) a (b.1) (b.2.0))
one_compile_answer s text (Err (too_deep k)) (Ok p') a b = absurd (deep_or_shallow s text k (b.0) a (b.1) (b.2.shallow))
one_compile_answer s text (Err (full m k i)) (Err (ill_formed f')) a b = absurd (ill_or_well s text f' (a.1.listed.program) b (a.1.listed.program_is))
one_compile_answer s text (Err (full m k i)) (Err (too_many m')) a b = absurd (long_or_listed s text m' (a.0) b (a.1.listed))
one_compile_answer s text (Err (full m k i)) (Err (outside m')) a b = absurd (outside_or_fitted s text m' (a.0) b (a.1))
one_compile_answer s text (Err (full m k i)) (Err (too_deep k')) a b = absurd (deep_or_shallow s text k' (a.0) b (a.1) (a.2.0))
one_compile_answer s text (Err (full m k i)) (Err (full m' k' i')) a b = ap (λ (x : CompileRefusal). Err x) (one_full s text m m' k k' i i' a b)
one_compile_answer s text (Err (full m k i)) (Ok p') a b = absurd (full_or_placed s text m k i p' a b)
one_compile_answer s text (Ok p) (Err (ill_formed f')) a b = absurd (ill_or_well s text f' (a.1.listed.program) b (a.1.listed.program_is))
one_compile_answer s text (Ok p) (Err (too_many m')) a b = absurd (long_or_listed s text m' (a.0) b (a.1.listed))
one_compile_answer s text (Ok p) (Err (outside m')) a b = absurd (outside_or_fitted s text m' (a.0) b (a.1))
one_compile_answer s text (Ok p) (Err (too_deep k')) a b = absurd (deep_or_shallow s text k' (a.0) b (a.1) (a.2.shallow))
one_compile_answer s text (Ok p) (Err (full m' k' i')) a b = absurd (full_or_placed s text m' k' i' p b a)
one_compile_answer s text (Ok p) (Ok p') a b = ap (λ (x : PartsForm). Ok x) (one_config s text p p' a b)
