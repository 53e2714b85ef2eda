-- What is known of codelets before a plan by hand is read, and how it stops.
use Rattle.std.specs.Prelude.{◌≡◌, ⊤, ℕ, ◌≤◌, Bool, true, None, List, map, Err}
use Rattle.atom_match.specs.Atoms.{AtomForm, first_outside}
use Rattle.atom_traits.specs.Form.{TreesForm}
use Rattle.banzai_config.specs.Legal.{are_names, name_of_array}
use Rattle.banzai_config.specs.declared.target.Target.{Target}
use Rattle.codelets.specs.declared.answer.Codelets.{Codelets}
use Rattle.compile_law.specs.Compiled.{AreAtomsOf}
use Rattle.dom_finding.specs.Finding.{GivesByPlan, found}
use Rattle.dom_finding.specs.declared.reading.Stop.{Stop}
use Rattle.dom_finding.specs.declared.reading.Stop.TheVariants.{Memory, Refused, Unread}

-- codelets with their atoms, all of which fit, and the numbers of a target
pub record CanPlan (fits : TreesForm → Bool) (depth stateless stateful : ℕ) (multiplies : Bool) (codelets : Codelets) (atoms : List AtomForm) : Type 0 where
  pub some : 1 ≤ depth
  pub few : depth ≤ 65535
  pub some_stateless : 1 ≤ stateless
  pub few_stateless : stateless ≤ 65535
  pub some_stateful : 1 ≤ stateful
  pub few_stateful : stateful ≤ 65535
  pub atoms_are : AreAtomsOf codelets atoms
  pub fit : first_outside fits multiplies codelets ≡ None
  pub fields : are_names codelets.flat.fields ≡ true
  pub arrays : are_names (map name_of_array codelets.flat.arrays) ≡ true

-- why the text of a plan gives no configuration
abbrev pub PlanStop : Target → Codelets → List AtomForm → List ℕ → Stop → Type 0
PlanStop target codelets atoms text (Refused r) = GivesByPlan target codelets atoms text (found (Err r))
PlanStop target codelets atoms text Unread = ⊥
PlanStop target codelets atoms text Memory = ⊤
