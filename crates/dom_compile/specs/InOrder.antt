-- Codelets done in their order.
use Rattle.std.specs.Prelude.{ℕ, suc, ◌≤◌, List, [], ◌∷◌, length}
use Rattle.codelets.specs.declared.answer.Codelets.{Codelets}
use Rattle.codelets.specs.declared.codelet.Codelet.{Codelet}
use Rattle.stage_plan.specs.declared.place.Place.{Place}
use Rattle.atom_match.specs.Atoms.{AtomForm}
use Rattle.banzai_config.specs.Parts.{PartsForm}
use Rattle.compile_law.specs.Compiled.{compiled_parts}
use Rattle.dom_ast.specs.Resolved.{CheckedForm}
use Rattle.dom_compile.specs.Compiled.{listed}
use Rattle.dom_compile.specs.Programs.{IsWellFormed}
use Rattle.dom_compile.specs.Runs.{ActsAs}

-- each codelet at a stage of its own, in their order, after k stages
abbrev pub one_by_one : ℕ → List Codelet → List Place
one_by_one k [] = []
one_by_one k (c ∷ cs) = record { kind = c.kind; stage = suc k } ∷ one_by_one (suc k) cs

-- the atoms of codelets, one after another in the order of the codelets
abbrev pub in_order : Codelets → List AtomForm → PartsForm
in_order codelets atoms = compiled_parts codelets (length codelets.list) atoms (one_by_one 0 codelets.list)

-- the text is that of a well-formed program with at most 512 statements, and the codelets, done in their order, make of each
-- packet and state what its transactions do
pub record IsFront (text : List ℕ) (codelets : Codelets) (atoms : List AtomForm) : Type 0 where
  pub program : CheckedForm
  pub program_is : IsWellFormed text program
  pub few : length (listed program).lines ≤ 512
  pub means : ActsAs program (in_order codelets atoms)
