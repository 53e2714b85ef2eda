-- The atoms of codelets, and which codelets fit.
use Rattle.std.specs.Prelude.{◌≡◌, ℕ, ◌||◌, not, Bool, false, map, slice_get, Option, Some, None, find, option_map}
use Rattle.dom_flat.specs.declared.line.Operand.{Operand}
use Rattle.dom_flat.specs.declared.line.Operand.TheVariants as operand
use Rattle.dom_flat.specs.declared.line.Line.{Line}
use Rattle.dom_flat.specs.declared.line.Line.TheVariants as line
use Rattle.codelets.specs.declared.answer.Codelets.{Codelets}
use Rattle.codelets.specs.declared.codelet.Codelet.{Codelet}
use Rattle.codelets.specs.declared.codelet.Kind.{Kind}
use Rattle.codelets.specs.declared.codelet.Kind.TheVariants.{Stateless, Stateful}
use Rattle.codelets.specs.Answer.{line_in}
use Rattle.atom_traits.specs.declared.tree.Port.{Port}
use Rattle.atom_traits.specs.declared.tree.Port.TheVariants as port
use Rattle.atom_traits.specs.declared.operation.StatelessOp.{StatelessOp}
use Rattle.atom_traits.specs.declared.operation.StatelessOp.TheVariants as op
use Rattle.atom_traits.specs.Form.{TreesForm}
use Rattle.atom_traits.specs.Operation.{needs_multiplier}
use Rattle.atom_match.specs.declared.atoms.Atom.{Atom}
use Rattle.atom_match.specs.declared.atoms.Atom.TheVariants as atom
use Rattle.atom_match.specs.declared.fault.MatchFault.{MatchFault}
use Rattle.atom_match.specs.declared.fault.MatchFault.TheVariants.{Outside, Memory}
use Rattle.atom_match.specs.Classes.{class_of, container_of}
use Rattle.atom_match.specs.Resolve.{trees_of}

-- what an atom does: one operator, or the trees of its slots
pub data AtomForm : Type 0 where
  Operates : StatelessOp → AtomForm
  Updates : TreesForm → AtomForm

-- an operand as an atom reads it, where container gives the container of each value that has one
abbrev pub port_of : (ℕ → ℕ) → Operand → Port
port_of container (operand.Const w) = port.Const w
port_of container (operand.Value v) = port.Container (container v)

-- the operator of a statement; a flank has none
abbrev pub operator_of : (ℕ → ℕ) → Line → Option StatelessOp
operator_of container (line.Fetch array i) = None
operator_of container (line.Store array i value) = None
operator_of container (line.Un o a) = Some (op.Un o (port_of container a))
operator_of container (line.Bin o a b) = Some (op.Bin o (port_of container a) (port_of container b))
operator_of container (line.Cond c a b) = Some (op.Cond (port_of container c) (port_of container a) (port_of container b))
operator_of container (line.Hash unit modulus args) = Some (op.Hash unit modulus (map (port_of container) args))

abbrev pub operator_if : (ℕ → ℕ) → Option Line → Option StatelessOp
operator_if container None = None
operator_if container (Some l) = operator_of container l

-- the operator of a stateless codelet's statement
abbrev pub codelet_operator : Codelets → Codelet → Option StatelessOp
codelet_operator codelets c = operator_if (container_of codelets.values) (line_in codelets.table c.first)

abbrev pub atom_by : Kind → Option StatelessOp → Option TreesForm → Option AtomForm
atom_by Stateless operator trees = option_map Operates operator
atom_by Stateful operator trees = option_map Updates trees

-- what a codelet's atom does: the operator of its statement, or its trees, where it has some
abbrev pub atom_of : Codelets → Codelet → Option AtomForm
atom_of codelets c = atom_by c.kind (codelet_operator codelets c) (trees_of (class_of codelets c))

-- the trees of the codelet at a position
abbrev pub trees_if : Codelets → Option Codelet → Option TreesForm
trees_if codelets None = None
trees_if codelets (Some c) = trees_of (class_of codelets c)

abbrev pub trees_at_position : Codelets → ℕ → Option TreesForm
trees_at_position codelets k = trees_if codelets (slice_get codelets.list k)

-- trees fit a template's test; an operator fits a target that multiplies, and any target where it is no `*`, `/` or `%`
abbrev pub fits_atom : (TreesForm → Bool) → Bool → Option AtomForm → Bool
fits_atom fits multiplies None = false
fits_atom fits multiplies (Some (Operates o)) = multiplies || not (needs_multiplier o)
fits_atom fits multiplies (Some (Updates t)) = fits t

abbrev pub fits_codelet : (TreesForm → Bool) → Bool → Codelets → Codelet → Bool
fits_codelet fits multiplies codelets c = fits_atom fits multiplies (atom_of codelets c)

-- the first codelet in order that does not fit
abbrev pub first_outside : (TreesForm → Bool) → Bool → Codelets → Option Codelet
first_outside fits multiplies codelets = find (λ c. not (fits_codelet fits multiplies codelets c)) codelets.list

-- a refusal names the least statement number of the first codelet that does not fit; want of memory may come at any time
abbrev pub IsMatchFault : (TreesForm → Bool) → Bool → Codelets → MatchFault → Type 0
IsMatchFault fits multiplies codelets (Outside number) = option_map (λ c. c.first) (first_outside fits multiplies codelets) ≡ Some number
IsMatchFault fits multiplies codelets Memory = Unit {0}

-- what an atom does, where trees_of gives the trees of a template's parameters
abbrev pub atom_form : {P : Type 0} → (P → TreesForm) → Atom P → AtomForm
atom_form trees_of (atom.Stateless o) = Operates o
atom_form trees_of (atom.Stateful p) = Updates (trees_of p)
