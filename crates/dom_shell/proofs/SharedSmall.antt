-- Parts whose values share containers have numbers below 2^32, where they had before.
use Rattle.std.proofs.Common.{◌≡◌, ℕ, ◌≤◌, true, List, [], ◌∷◌, map, Option, Some, None, refl, arith}
use Rattle.std.specs.List.{list_all}
use Rattle.std.specs.Option.{option_map}
use Rattle.std.proofs.lemmas.Bool.{and_from, and_parts, lt-ltb}
use Rattle.atom_traits.specs.declared.operation.StatelessOp.{StatelessOp}
use Rattle.atom_traits.specs.declared.operation.StatelessOp.TheVariants as operation
use Rattle.atom_traits.specs.declared.tree.Guard.{Guard}
use Rattle.atom_traits.specs.declared.tree.Leaf.{Leaf}
use Rattle.atom_traits.specs.declared.tree.Leaf.TheVariants.{Keep, Put, Add, Sub}
use Rattle.atom_traits.specs.declared.tree.Port.{Port}
use Rattle.atom_traits.specs.declared.tree.Port.TheVariants as port
use Rattle.atom_traits.specs.declared.tree.Source.{Source}
use Rattle.atom_traits.specs.declared.tree.Source.TheVariants as source
use Rattle.atom_traits.specs.Form.{TreeForm, TreesForm, Ends, Asks}
use Rattle.atom_traits.specs.Operation.{operation_renamed, ports_of}
use Rattle.atom_traits.specs.Renamed.{guard_renamed, leaf_renamed, port_renamed, renamed, second_renamed, source_renamed, tree_renamed}
use Rattle.atom_traits.specs.Tests.{second_passes}
use Rattle.banzai_config.specs.declared.parts.OpAtom.{OpAtom}
use Rattle.banzai_config.specs.declared.parts.PartSlot.{PartSlot}
use Rattle.banzai_config.specs.Legal.{LegalFor, Shape}
use Rattle.banzai_config.specs.Parts.{AtomForm, PartsForm, StageForm}
use Rattle.banzai_config.specs.Stages.{AreNumbersLegal}
use Rattle.banzai_config.proofs.Staged.{legal_numbers}
use Rattle.config_text.specs.Small.{has_small_numbers, is_array_small, is_atom_small, is_op_small, is_slot_small, is_source_small, is_stage_small}
use Rattle.config_text.specs.Words.{is_small, option_fits, port_fits}
use Rattle.container_plan.specs.Renamed.{form_renamed, op_renamed, parts_renamed, slot_renamed, stage_renamed}
use Rattle.container_plan.specs.Shared.{all_taken, container_of, shared}
use Rattle.container_plan.specs.Spans.{number_in}
use Rattle.container_plan.proofs.Names.{container_low}
use Rattle.dom_shell.proofs.SmallTrees.{are_trees_small, is_guard_small, is_leaf_small, is_tree_small}
use Rattle.dom_shell.proofs.WordLines.{all_kept}

module _ (name : ℕ → ℕ) (low : (c : ℕ) → is_small (name c) ≡ true) where
  port_kept : (p : Port) → port_fits p ≡ true → port_fits (port_renamed name p) ≡ true
  port_kept (port.Const w) e = e
  port_kept (port.Container c) e = low c

  ports_kept : (ps : List Port) → list_all port_fits ps ≡ true → list_all port_fits (map (port_renamed name) ps) ≡ true
  ports_kept ps e = all_kept port_fits port_fits (port_renamed name) port_kept ps e

  source_kept : (x : Source) → is_source_small x ≡ true → is_source_small (source_renamed name x) ≡ true
  source_kept (source.Const w) e = e
  source_kept (source.Container c) e = low c
  source_kept (source.State k) e = refl

  guard_kept : (g : Guard) → is_guard_small g ≡ true → is_guard_small (guard_renamed name g) ≡ true
  guard_kept g e =
      let both = and_parts (is_source_small g.left) (is_source_small g.right) e in
      and_from _ _ (source_kept g.left both.0) (source_kept g.right both.1)

  leaf_kept : (leaf : Leaf) → is_leaf_small leaf ≡ true → is_leaf_small (leaf_renamed name leaf) ≡ true
  leaf_kept Keep e = refl
  leaf_kept (Put p) e = port_kept p e
  leaf_kept (Add p) e = port_kept p e
  leaf_kept (Sub p) e = port_kept p e

  tree_kept : (t : TreeForm) → is_tree_small t ≡ true → is_tree_small (tree_renamed name t) ≡ true
  tree_kept (Ends leaf) e = leaf_kept leaf e
  tree_kept (Asks g on_yes on_no) e =
      let one = and_parts (is_guard_small g) _ e in
      let two = and_parts (is_tree_small on_yes) (is_tree_small on_no) one.1 in
      and_from _ _ (guard_kept g one.0) (and_from _ _ (tree_kept on_yes two.0) (tree_kept on_no two.1))

  second_kept : (t : Option TreeForm) → second_passes port_fits is_source_small t ≡ true → second_passes port_fits is_source_small (second_renamed name t) ≡ true
  second_kept None e = refl
  second_kept (Some t) e = tree_kept t e

  trees_kept : (t : TreesForm) → are_trees_small t ≡ true → are_trees_small (renamed name t) ≡ true
  trees_kept t e =
      let both = and_parts (is_tree_small t.first) _ e in
      and_from _ _ (tree_kept t.first both.0) (second_kept t.second both.1)

  operation_kept : (o : StatelessOp) → list_all port_fits (ports_of o) ≡ true → list_all port_fits (ports_of (operation_renamed name o)) ≡ true
  operation_kept (operation.Un op a) e = ports_kept (a ∷ []) e
  operation_kept (operation.Bin op a b) e = ports_kept (a ∷ b ∷ []) e
  operation_kept (operation.Cond c a b) e = ports_kept (c ∷ a ∷ b ∷ []) e
  operation_kept (operation.Hash unit modulus args) e = ports_kept args e

  op_kept : (a : OpAtom) → is_op_small a ≡ true → is_op_small (op_renamed name a) ≡ true
  op_kept a e =
      let both = and_parts (is_small a.to) _ e in
      and_from _ _ (low a.to) (operation_kept a.op both.1)

  option_kept : (c : Option ℕ) → option_fits (option_map name c) ≡ true
  option_kept None = refl
  option_kept (Some c) = low c

  slot_kept : (s : PartSlot) → is_slot_small s ≡ true → is_slot_small (slot_renamed name s) ≡ true
  slot_kept s e =
      let one = and_parts (is_small s.array) _ e in
      let two = and_parts (port_fits s.index) _ one.1 in
      and_from _ _ one.0 (and_from _ _ (port_kept s.index two.0) (and_from _ _ (option_kept s.old) (option_kept s.new)))

  form_kept : (a : AtomForm) → is_atom_small a ≡ true → is_atom_small (form_renamed name a) ≡ true
  form_kept a e =
      let both = and_parts (list_all is_slot_small a.slots) _ e in
      and_from _ _ (all_kept is_slot_small is_slot_small (slot_renamed name) slot_kept a.slots both.0) (trees_kept a.trees both.1)

  stage_kept : (s : StageForm) → is_stage_small s ≡ true → is_stage_small (stage_renamed name s) ≡ true
  stage_kept s e =
      let both = and_parts (list_all is_op_small s.stateless) _ e in
      and_from _ _ (all_kept is_op_small is_op_small (op_renamed name) op_kept s.stateless both.0) (all_kept is_atom_small is_atom_small (form_renamed name) form_kept s.stateful both.1)

  renamed_small : (containers : ℕ) (p : PartsForm) → has_small_numbers p ≡ true → has_small_numbers (parts_renamed name containers p) ≡ true
  renamed_small containers p e =
      let one = and_parts (list_all is_array_small p.arrays) _ e in
      let two = and_parts (list_all is_stage_small p.stages) _ one.1 in
      and_from _ _ one.0 (and_from _ _ (all_kept is_stage_small is_stage_small (stage_renamed name) stage_kept p.stages two.0) (ports_kept p.outputs two.1))

pub shared_small : (s : Shape) (p : PartsForm) → LegalFor s (shared p) → has_small_numbers p ≡ true → has_small_numbers (shared p) ≡ true
shared_small s p legal e = renamed_small (container_of p) low (number_in (all_taken p)) p e
  where
    low : (c : ℕ) → is_small (container_of p c) ≡ true
    low c =
        let numbers : AreNumbersLegal (shared p) = legal_numbers s (shared p) legal in
        let most : (shared p).containers ≤ 2048 = numbers.few_containers in
        let at : container_of p c ≤ number_in (all_taken p) = container_low (all_taken p) c in
        lt-ltb (container_of p c) 4294967296 (omega (arith, most, at))
