-- Before stages are asked for, a text is one thing.
use Rattle.std.proofs.Common.{◌≡◌, ℕ, Bool, List, sym, ap, ◌∙◌, Result, Ok, Err}
use Rattle.codelets.specs.declared.answer.Codelets.{Codelets}
use Rattle.codelets.specs.declared.codelet.Codelet.{Codelet}
use Rattle.stage_plan.specs.declared.place.Place.{Place}
use Rattle.atom_traits.specs.Form.{TreesForm}
use Rattle.atom_match.specs.Atoms.{AtomForm}
use Rattle.banzai_config.specs.Checked.{shape_with}
use Rattle.banzai_config.specs.Legal.{Shape}
use Rattle.banzai_config.specs.Parts.{PartsForm}
use Rattle.compile_law.specs.Compiled.{AreAtomsOf, compiled_parts}
use Rattle.dom_compile.specs.Answer.{CompileRefusal, IsCompileAnswer, IsFitted, IsFrontAnswer, full, ill_formed, outside, too_deep, too_many}
use Rattle.dom_compile.proofs.Drawn.{one_drawn, same_atoms, same_list, same_parts}
use Rattle.dom_compile.proofs.OneAnswer.{ill_or_well, long_or_listed, one_compile_answer, outside_or_fitted}

module _ (fits : TreesForm → Bool) (multiplies : Bool) (text : List ℕ) where
  abbrev s : Shape
  s = shape_with fits 0 0 0 0 multiplies

  abbrev Is : Result (List Codelet) CompileRefusal → Type 0
  Is r = IsFrontAnswer fits multiplies text r

  as_compiled : (r : CompileRefusal) → Is (Err r) → IsCompileAnswer s text (Err r)
  as_compiled (ill_formed f) a = a
  as_compiled (too_many n) a = a
  as_compiled (outside n) a = a
  as_compiled (too_deep chain) a = absurd a
  as_compiled (full n kind stage) a = absurd a

  fitted_or_refused : (c : Codelets) (r : CompileRefusal) → IsFitted fits multiplies text c → Is (Err r) → ⊥
  fitted_or_refused c (ill_formed f) a b = ill_or_well s text f a.listed.program b a.listed.program_is
  fitted_or_refused c (too_many n) a b = long_or_listed s text n c b a.listed
  fitted_or_refused c (outside n) a b = outside_or_fitted s text n c b a
  fitted_or_refused c (too_deep chain) a b = b
  fitted_or_refused c (full n kind stage) a b = b

  pub one_front : (a b : Result (List Codelet) CompileRefusal) → Is a → Is b → a ≡ b
  one_front (Ok k) (Ok l) (c, x, e) (d, y, f) = ap Ok (e ∙ same_list c d (one_drawn text c d x.listed y.listed) ∙ sym f)
  one_front (Ok k) (Err r) (c, x, e) b = absurd (fitted_or_refused c r x b)
  one_front (Err r) (Ok l) a (d, y, f) = absurd (fitted_or_refused d r y a)
  one_front (Err r) (Err q) a b =
      let e = one_compile_answer s text (Err r) (Err q) (as_compiled r a) (as_compiled q b) in
      let same : r ≡ q = cc in
      ap Err same

  pub one_parts : (a b : Codelets) (atoms others : List AtomForm) (depth : ℕ) (places : List Place) → IsFitted fits multiplies text a → IsFitted fits multiplies text b → AreAtomsOf a atoms → AreAtomsOf b others
      → compiled_parts a depth atoms places ≡ compiled_parts b depth others places
  one_parts a b atoms others depth places x y p q =
      let same = one_drawn text a b x.listed y.listed in
      same_parts a b same depth atoms places ∙ ap (λ (xs : List AtomForm). compiled_parts b depth xs places) (same_atoms a b same atoms others p q)
