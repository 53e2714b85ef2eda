-- What codelets are made into hangs on the text alone.
use Rattle.std.proofs.Common.{◌≡◌, ℕ, ◌+◌, Bool, not, List, [], ◌∷◌, length, map, Option, Some, refl, sym, ap, ◌∙◌, Ok}
use Rattle.std.specs.List.{find}
use Rattle.dom_words.specs.declared.array.Array.{Array}
use Rattle.dom_flat.specs.declared.line.Line.{Line}
use Rattle.dom_flat.specs.declared.line.Operand.{Operand}
use Rattle.dom_flat.specs.Form.{FlatForm}
use Rattle.codelets.specs.declared.answer.Codelets.{Codelets}
use Rattle.codelets.specs.declared.codelet.Codelet.{Codelet}
use Rattle.codelets.specs.declared.codelet.Slot.{Slot}
use Rattle.codelets.specs.Answer.{codelets, line_in}
use Rattle.codelets.specs.Containers.{holders}
use Rattle.codelets.specs.Cut.{Cut, lines_by_number, outer}
use Rattle.codelets.specs.Flat.{condensed}
use Rattle.stage_plan.specs.declared.place.Place.{Place}
use Rattle.atom_traits.specs.Form.{TreesForm}
use Rattle.atom_match.specs.declared.class.Flanks.{Flanks}
use Rattle.atom_match.specs.Atoms.{AtomForm as Does, Operates, Updates, atom_by, first_outside, fits_atom, operator_if, port_of}
use Rattle.atom_match.specs.Classes.{Class, container_of, read_of, write_of}
use Rattle.atom_match.specs.Resolve.{trees_of}
use Rattle.banzai_config.specs.declared.parts.PartSlot.{PartSlot}
use Rattle.banzai_config.specs.declared.parts.Version.TheVariants.{One}
use Rattle.banzai_config.specs.Parts.{Atom, PartsForm, Stateful, Stateless}
use Rattle.compile_law.specs.Compiled.{AreAtomsOf, Staged, compiled_parts, part_of, staged_by, stages_from}
use Rattle.dom_ast.specs.Resolved.{CheckedForm}
use Rattle.dom_compile.specs.Compiled.{IsCompiled, IsListed, listed}
use Rattle.dom_compile.proofs.OneProgram.{one_program}

-- what is asked of codelets
pub record Drawn : Type 0 where
  pub fields : List (List ℕ)
  pub arrays : List Array
  pub list : List Codelet
  pub table : List (Option Line)
  pub values : List ℕ
  pub outputs : List Operand

abbrev pub drawn : Codelets → Drawn
drawn c = record { fields = c.flat.fields; arrays = c.flat.arrays; list = c.list; table = c.table; values = c.values; outputs = c.outputs }

abbrev form_of : List (List ℕ) → List Array → List Line → List Operand → FlatForm
form_of fields arrays lines outputs = record { fields = length fields; arrays = length arrays; lines = lines; outputs = outputs }

-- what a statement list gives
made : List (List ℕ) → List Array → List Line → List Operand → Drawn
made fields arrays lines outputs = record {
  fields = fields;
  arrays = arrays;
  list = codelets (condensed (form_of fields arrays lines outputs));
  table = lines_by_number (condensed (form_of fields arrays lines outputs));
  values = holders (condensed (form_of fields arrays lines outputs));
  outputs = map (outer (condensed (form_of fields arrays lines outputs))) outputs;
}

abbrev D : Codelets → Cut
D c = condensed (form_of c.flat.fields c.flat.arrays c.flat.lines c.flat.outputs)

drawn_made : (c : Codelets) → drawn c ≡ made c.flat.fields c.flat.arrays c.flat.lines c.flat.outputs
unfolding made
drawn_made c =
    ap (λ (x : List Codelet). record { fields = c.flat.fields; arrays = c.flat.arrays; list = x; table = c.table; values = c.values; outputs = c.outputs }) c.is_list
    ∙ ap (λ (x : List (Option Line)). record { fields = c.flat.fields; arrays = c.flat.arrays; list = codelets (D c); table = x; values = c.values; outputs = c.outputs }) c.is_table
    ∙ ap (λ (x : List ℕ). record { fields = c.flat.fields; arrays = c.flat.arrays; list = codelets (D c); table = lines_by_number (D c); values = x; outputs = c.outputs }) c.is_values
    ∙ ap (λ (x : List Operand). record { fields = c.flat.fields; arrays = c.flat.arrays; list = codelets (D c); table = lines_by_number (D c); values = holders (D c); outputs = x }) c.is_outputs

made_of : CheckedForm → Drawn
made_of program = made program.fields program.arrays (listed program).lines (listed program).operands

drawn_of : (program : CheckedForm) (c : Codelets) → IsListed program c.flat → drawn c ≡ made_of program
unfolding made_of
drawn_of program c is =
    drawn_made c
    ∙ ap (λ (x : List (List ℕ)). made x c.flat.arrays c.flat.lines c.flat.outputs) is.fields
    ∙ ap (λ (x : List Array). made program.fields x c.flat.lines c.flat.outputs) is.arrays
    ∙ ap (λ (x : List Line). made program.fields program.arrays x c.flat.outputs) is.lines
    ∙ ap (λ (x : List Operand). made program.fields program.arrays (listed program).lines x) is.outputs

pub one_drawn : (text : List ℕ) (a b : Codelets) → IsCompiled text a.flat → IsCompiled text b.flat → drawn a ≡ drawn b
one_drawn text a b x y =
    let e = one_program text (Ok x.program) (Ok y.program) x.program_is y.program_is in
    let same : x.program ≡ y.program = cc in
    drawn_of x.program a x.listed_is ∙ ap made_of same ∙ sym (drawn_of y.program b y.listed_is)

-- The atoms.

abbrev flanks_in : Drawn → List ℕ → Slot → Flanks
flanks_in d members slot = record {
  index = slot.index;
  read = read_of (length d.fields) d.table members slot.array;
  write = write_of d.table members slot.array;
}

abbrev class_in : Drawn → Codelet → Class
class_in d c = record {
  fields = length d.fields;
  members = c.lines;
  slots = map (flanks_in d c.lines) c.slots;
  line_of = line_in d.table;
  container = container_of d.values;
}

abbrev atom_in : Drawn → Codelet → Option Does
atom_in d c = atom_by c.kind (operator_if (container_of d.values) (line_in d.table c.first)) (trees_of (class_in d c))

abbrev first_in : (TreesForm → Bool) → Bool → Drawn → Option Codelet
first_in fits multiplies d = find (λ c. not (fits_atom fits multiplies (atom_in d c))) d.list

some_once : {A : Type 0} (xs ys : List A) → map Some xs ≡ map Some ys → xs ≡ ys
some_once [] [] e = refl
some_once [] (y ∷ ys) e = absurd (cc)
some_once (x ∷ xs) [] e = absurd (cc)
some_once {A = A} (x ∷ xs) (y ∷ ys) e =
    let head : x ≡ y = cc in
    let tail : map Some xs ≡ map Some ys = cc in
    ap (λ (z : A). z ∷ xs) head ∙ ap (λ (zs : List A). y ∷ zs) (some_once xs ys tail)

module _ (a b : Codelets) (same : drawn a ≡ drawn b) where
  pub same_list : a.list ≡ b.list
  same_list = ap (λ (d : Drawn). d.list) same

  pub same_outside : (fits : TreesForm → Bool) (multiplies : Bool) → first_outside fits multiplies a ≡ first_outside fits multiplies b
  same_outside fits multiplies = ap (first_in fits multiplies) same

  pub same_atoms : (xs ys : List Does) → AreAtomsOf a xs → AreAtomsOf b ys → xs ≡ ys
  same_atoms xs ys x y = some_once xs ys (x ∙ ap (λ (d : Drawn). map (atom_in d) d.list) same ∙ sym y)

  -- The parts.

  same_part : (c : Codelet) (does : Does) → part_of a c does ≡ part_of b c does
  same_part c (Operates o) = ap (λ (d : Drawn). Stateless (record { to = container_of d.values (length d.fields + c.first); op = o })) same
  same_part c (Updates t) = ap (λ (d : Drawn). Stateful (record { slots = map (slot_in d) c.slots; trees = t })) same
    where
      slot_in : Drawn → Slot → PartSlot
      slot_in d s = record { array = s.array; index = port_of (container_of d.values) s.index; old = s.old; new = s.new }

  same_staged : (list : List Codelet) (atoms : List Does) (places : List Place) → staged_by a list atoms places ≡ staged_by b list atoms places
  same_staged [] atoms places = refl
  same_staged (c ∷ list) [] places = refl
  same_staged (c ∷ list) (x ∷ atoms) [] = refl
  same_staged (c ∷ list) (x ∷ atoms) (p ∷ places) =
      ap (λ (z : Atom). record { members = c.lines; atom = z; stage = p.stage } ∷ staged_by a list atoms places) (same_part c x)
      ∙ ap (λ (z : List Staged). record { members = c.lines; atom = part_of b c x; stage = p.stage } ∷ z) (same_staged list atoms places)

  parts_in : Drawn → List Staged → ℕ → PartsForm
  parts_in d qs depth = record {
    version = One;
    fields = d.fields;
    arrays = d.arrays;
    containers = length d.values;
    stages = stages_from qs 0 depth;
    outputs = map (port_of (container_of d.values)) d.outputs;
  }

  pub same_parts : (depth : ℕ) (atoms : List Does) (places : List Place) → compiled_parts a depth atoms places ≡ compiled_parts b depth atoms places
  unfolding parts_in
  same_parts depth atoms places =
      let staged : staged_by a a.list atoms places ≡ staged_by b b.list atoms places =
      ap (λ (list : List Codelet). staged_by a list atoms places) same_list ∙ same_staged b.list atoms places in
      ap (λ (d : Drawn). parts_in d (staged_by a a.list atoms places) depth) same ∙ ap (λ (qs : List Staged). parts_in (drawn b) qs depth) staged
