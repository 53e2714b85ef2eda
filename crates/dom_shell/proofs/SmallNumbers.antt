-- The numbers of compiled parts are below 2^32.
use Rattle.std.proofs.Common.{◌≡◌, ℕ, zero, suc, ◌+◌, ◌≤◌, Bool, true, false, nat_eq, List, [], ◌∷◌, length, map, Option, Some, None, refl, ap, ◌∙◌, arith}
use Rattle.std.specs.Bool.{if◌then◌else◌}
use Rattle.std.specs.Prelude.{nat_le}
use Rattle.std.specs.List.{flat_map, list_all}
use Rattle.std.proofs.lemmas.Bool.{and_from, and_parts, leb-true, lt-ltb}
use Rattle.std.proofs.lemmas.List.Folds.{list_all-append}
use Rattle.dom_words.specs.declared.array.Array.{Array}
use Rattle.dom_words.specs.State.{are_lengths, fits_word, is_length, start_with_words}
use Rattle.dom_flat.specs.declared.line.Operand.{Operand}
use Rattle.dom_flat.specs.declared.line.Operand.TheVariants as operand
use Rattle.dom_flat.specs.declared.line.Line.{Line}
use Rattle.dom_flat.specs.declared.line.Line.TheVariants as line
use Rattle.dom_flat.specs.Kept.{has_word}
use Rattle.codelets.specs.declared.answer.Codelets.{Codelets}
use Rattle.codelets.specs.declared.codelet.Codelet.{Codelet}
use Rattle.codelets.specs.declared.codelet.Kind.{Kind}
use Rattle.codelets.specs.declared.codelet.Kind.TheVariants as kind
use Rattle.codelets.specs.declared.codelet.Slot.{Slot}
use Rattle.codelets.specs.Answer.{line_in}
use Rattle.stage_plan.specs.declared.place.Place.{Place}
use Rattle.atom_traits.specs.declared.operation.StatelessOp.{StatelessOp}
use Rattle.atom_traits.specs.Form.{TreesForm}
use Rattle.atom_traits.specs.Operation.{ports_of}
use Rattle.atom_match.specs.Atoms.{AtomForm as Does, Operates, Updates, atom_by, atom_of, codelet_operator, operator_if, operator_of, port_of}
use Rattle.atom_match.specs.Classes.{class_of, container_of}
use Rattle.atom_match.specs.Resolve.{trees_of}
use Rattle.banzai_config.specs.Parts.{Atom, Stateless, Stateful}
use Rattle.compile_law.specs.Compiled.{AreAtomsOf, Staged, compiled_parts, if_at, part_of, part_slot, port_at, staged, staged_by, stages_from, stateful_of, stateless_of}
use Rattle.config_text.specs.Small.{has_small_numbers, is_array_small, is_atom_small, is_op_small, is_slot_small, is_stage_small}
use Rattle.config_text.specs.Words.{is_small, option_fits, port_fits}
use Rattle.dom_shell.proofs.SmallTrees.{are_trees_small, class_trees_small}
use Rattle.dom_shell.proofs.WordLines.{all_kept, has_line_words, has_low_slots, if_there, is_slot_low, line_in_words, output_words, place_word, slots_are_low}

arrays_small : (arrays : List Array) → are_lengths arrays ≡ true → start_with_words arrays ≡ true → list_all is_array_small arrays ≡ true
arrays_small [] e f = refl
arrays_small (a ∷ arrays) e f =
    let lengths = and_parts (is_length a.length) (are_lengths arrays) e in
    let words = and_parts (fits_word a.init) (start_with_words arrays) f in
    let low : a.length ≤ 1048576 = leb-true a.length 1048576 (and_parts (nat_le 1 a.length) (nat_le a.length 1048576) lengths.0).1 in
    and_from _ _ (and_from _ _ (lt-ltb a.length 4294967296 (omega arith)) words.0) (arrays_small arrays lengths.1 words.1)

abbrev has_small_ports : StatelessOp → Bool
has_small_ports o = list_all port_fits (ports_of o)

abbrev is_does_small : Does → Bool
is_does_small (Operates o) = has_small_ports o
is_does_small (Updates t) = are_trees_small t

abbrev is_part_small : Atom → Bool
is_part_small (Stateless a) = is_op_small a
is_part_small (Stateful a) = is_atom_small a

abbrev is_staged_small : Staged → Bool
is_staged_small q = is_part_small q.atom

module _ (container : ℕ → ℕ) (low : (v : ℕ) → is_small (container v) ≡ true) where
  port_small : (o : Operand) → has_word o ≡ true → port_fits (port_of container o) ≡ true
  port_small (operand.Const w) e = e
  port_small (operand.Value v) e = low v

  operator_small : (l : Line) → has_line_words l ≡ true → if_there has_small_ports (operator_of container l) ≡ true
  operator_small (line.Fetch array i) e = refl
  operator_small (line.Store array i value) e = refl
  operator_small (line.Un op a) e = all_kept has_word port_fits (port_of container) port_small (a ∷ []) e
  operator_small (line.Bin op a b) e = all_kept has_word port_fits (port_of container) port_small (a ∷ b ∷ []) e
  operator_small (line.Cond c a b) e = all_kept has_word port_fits (port_of container) port_small (c ∷ a ∷ b ∷ []) e
  operator_small (line.Hash unit modulus args) e = all_kept has_word port_fits (port_of container) port_small args e

  operator_if_small : (l : Option Line) → if_there has_line_words l ≡ true → if_there has_small_ports (operator_if container l) ≡ true
  operator_if_small None e = refl
  operator_if_small (Some l) e = operator_small l e

does_small : (k : Kind) (o : Option StatelessOp) (t : Option TreesForm) → if_there has_small_ports o ≡ true → if_there are_trees_small t ≡ true → if_there is_does_small (atom_by k o t) ≡ true
does_small kind.Stateless None t e f = refl
does_small kind.Stateless (Some o) t e f = e
does_small kind.Stateful o None e f = refl
does_small kind.Stateful o (Some t) e f = f

option_small : (o : Option ℕ) → if_there is_small o ≡ true → option_fits o ≡ true
option_small None e = refl
option_small (Some n) e = e

module _ (cs : Codelets) where
  port_at_small : (o : Operand) → has_word o ≡ true → port_fits (port_at cs o) ≡ true
  port_at_small o e = port_small (container_of cs.values) (place_word cs) o e

  slot_small : (s : Slot) → is_slot_low s ≡ true → is_slot_small (part_slot cs s) ≡ true
  slot_small s e =
      let one = and_parts (is_small s.array) _ e in
      let two = and_parts (has_word s.index) _ one.1 in
      let three = and_parts (if_there is_small s.old) (if_there is_small s.new) two.1 in
      and_from _ _ one.0 (and_from _ _ (port_at_small s.index two.0) (and_from _ _ (option_small s.old three.0) (option_small s.new three.1)))

  part_small : (c : Codelet) (a : Does) → has_low_slots c ≡ true → is_does_small a ≡ true → is_part_small (part_of cs c a) ≡ true
  part_small c (Operates o) slots e = and_from _ _ (place_word cs (length cs.flat.fields + c.first)) e
  part_small c (Updates t) slots e = and_from _ _ (all_kept is_slot_low is_slot_small (part_slot cs) slot_small c.slots slots) e

  atom_small : (c : Codelet) → if_there is_does_small (atom_of cs c) ≡ true
  atom_small c =
      does_small c.kind (codelet_operator cs c) (trees_of (class_of cs c)) (operator_if_small (container_of cs.values) (place_word cs) (line_in cs.table c.first) (line_in_words cs c.first))
      (class_trees_small cs c)

  staged_small : (list : List Codelet) (atoms : List Does) (places : List Place) → map Some atoms ≡ map (atom_of cs) list → list_all has_low_slots list ≡ true
      → list_all is_staged_small (staged_by cs list atoms places) ≡ true
  staged_small [] atoms places are slots = refl
  staged_small (c ∷ list) [] places are slots = refl
  staged_small (c ∷ list) (a ∷ atoms) [] are slots = refl
  staged_small (c ∷ list) (a ∷ atoms) (p ∷ places) are slots =
      let does : Some a ≡ atom_of cs c = cc in
      let rest : map Some atoms ≡ map (atom_of cs) list = cc in
      let both = and_parts (has_low_slots c) (list_all has_low_slots list) slots in
      and_from _ _ (part_small c a both.0 (ap (if_there is_does_small) does ∙ atom_small c)) (staged_small list atoms places rest both.1)

stateless_small : (a : Atom) → is_part_small a ≡ true → list_all is_op_small (stateless_of a) ≡ true
stateless_small (Stateless a) e = and_from _ _ e refl
stateless_small (Stateful a) e = refl

stateful_small : (a : Atom) → is_part_small a ≡ true → list_all is_atom_small (stateful_of a) ≡ true
stateful_small (Stateless a) e = refl
stateful_small (Stateful a) e = and_from _ _ e refl

module _ {X : Type 0} (p : X → Bool) (part : Atom → List X) (small : (a : Atom) → is_part_small a ≡ true → list_all p (part a) ≡ true) (k : ℕ) where
  at_small : (qs : List Staged) → list_all is_staged_small qs ≡ true → list_all p (flat_map (if_at k part) qs) ≡ true
  at_small [] e = refl
  at_small (q ∷ qs) e =
      let both = and_parts (is_staged_small q) (list_all is_staged_small qs) e in
      list_all-append p (if_at k part q) (flat_map (if_at k part) qs) ∙ and_from _ _ (by_case (nat_eq q.stage k) both.0) (at_small qs both.1)
    where
      by_case : (b : Bool) → is_staged_small q ≡ true → list_all p (if b then part q.atom else []) ≡ true
      by_case true h = small q.atom h
      by_case false h = refl

stages_small : (qs : List Staged) → list_all is_staged_small qs ≡ true → (k n : ℕ) → list_all is_stage_small (stages_from qs k n) ≡ true
stages_small qs e k zero = refl
stages_small qs e k (suc n) =
    and_from _ _ (and_from _ _ (at_small is_op_small stateless_of stateless_small (suc k) qs e) (at_small is_atom_small stateful_of stateful_small (suc k) qs e)) (stages_small qs e (suc k) n)

-- the numbers of arrays, atoms and outputs
pub parts_small : (cs : Codelets) (depth : ℕ) (atoms : List Does) (places : List Place) → AreAtomsOf cs atoms → has_small_numbers (compiled_parts cs depth atoms places) ≡ true
parts_small cs depth atoms places are =
    let arrays : list_all is_array_small cs.flat.arrays ≡ true = arrays_small cs.flat.arrays cs.flat.lengths cs.flat.first_words in
    let stages : list_all is_stage_small (stages_from (staged cs atoms places) 0 depth) ≡ true = stages_small (staged cs atoms places) (staged_small cs cs.list atoms places are (slots_are_low cs)) 0 depth in
    let outputs : list_all port_fits (map (port_at cs) cs.outputs) ≡ true = all_kept has_word port_fits (port_at cs) (port_at_small cs) cs.outputs (output_words cs) in
    and_from _ _ arrays (and_from _ _ stages outputs)
