-- The statement of a codelet without state has a number below those of all statements and twins.
use Rattle.std.proofs.Common.{◌≡◌, ℕ, zero, suc, ◌<◌, ◌≤◌, ◌*◌, List, [], ◌∷◌, Option, Some, None, length, refl, ap, ◌∙◌, arith}
use Rattle.std.proofs.lemmas.List.FromFn.{length-map-range_with_len}
use Rattle.atom_traits.specs.declared.operation.StatelessOp.{StatelessOp}
use Rattle.atom_traits.specs.Form.{TreesForm}
use Rattle.dom_flat.specs.declared.line.Line.{Line}
use Rattle.codelets.specs.declared.answer.Codelets.{Codelets}
use Rattle.codelets.specs.declared.codelet.Codelet.{Codelet}
use Rattle.codelets.specs.declared.codelet.Kind.{Kind}
use Rattle.codelets.specs.declared.codelet.Kind.TheVariants.{Stateful, Stateless}
use Rattle.codelets.specs.Answer.{line_in}
use Rattle.codelets.specs.Cut.{Cut, line_of}
use Rattle.codelets.specs.Flat.{cut_of}
use Rattle.atom_match.specs.declared.atoms.Atom.{Atom}
use Rattle.atom_match.specs.declared.atoms.Atom.TheVariants as atom
use Rattle.atom_match.specs.Atoms.{atom_form, Operates, atom_by, atom_of, operator_if}
use Rattle.atom_match.specs.Classes.{class_of, container_of}
use Rattle.atom_match.specs.Resolve.{trees_of}

-- a statement that is there has its number within the table
there_within : (table : List (Option Line)) (k : ℕ) (l : Line) → line_in table k ≡ Some l → k < length table
there_within [] k l e = absurd (cc)
there_within (x ∷ table) zero l e = omega arith
there_within (x ∷ table) (suc k) l e = let h = there_within table k l e in omega arith

operator_within : (place : ℕ → ℕ) (table : List (Option Line)) (k : ℕ) (o : StatelessOp) → operator_if place (line_in table k) ≡ Some o → k < length table
operator_within place table k o e = by_case (line_in table k) refl e
  where
    by_case : (found : Option Line) → line_in table k ≡ found → operator_if place found ≡ Some o → k < length table
    by_case None is f = absurd (cc)
    by_case (Some l) is f = there_within table k l is

operates_within : (kind : Kind) (operator : Option StatelessOp) (trees : Option TreesForm) (o : StatelessOp) → atom_by kind operator trees ≡ Some (Operates o) → operator ≡ Some o
operates_within Stateless None trees o e = absurd (cc)
operates_within Stateless (Some p) trees o e = let same : p ≡ o = cc in ap (λ (x : StatelessOp). Some x) same
operates_within Stateful operator None o e = absurd (cc)
operates_within Stateful operator (Some t) o e = absurd (cc)

pub first_within : (cs : Codelets) (c : Codelet) (o : StatelessOp) → atom_of cs c ≡ Some (Operates o) → c.first < length cs.table
first_within cs c o e =
    operator_within (container_of cs.values) cs.table c.first o
    (operates_within c.kind (operator_if (container_of cs.values) (line_in cs.table c.first)) (trees_of (class_of cs c)) o e)

-- there are at most 1,024 statements and twins
pub few_numbers : (cs : Codelets) → length cs.table ≤ 1024
few_numbers cs =
    let D : Cut = cut_of cs.flat in
    let size : length cs.table ≡ 2 * length cs.flat.lines = ap (length {A = Option Line}) cs.is_table ∙ length-map-range_with_len (line_of D) 0 (2 * length cs.flat.lines) in
    let few = cs.flat.few_lines in
    omega arith

-- the codelet of an operator
pub operator_first : {P : Type 0} (trees_of : P → TreesForm) (cs : Codelets) (c : Codelet) (a : Atom P) (o : StatelessOp) → a ≡ atom.Stateless o → atom_of cs c ≡ Some (atom_form trees_of a) → c.first < length cs.table
operator_first {P = P} trees cs c a o is at = first_within cs c o (at ∙ ap (λ (x : Atom P). Some (atom_form trees x)) is)
