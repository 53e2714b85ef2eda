-- What atoms under new container numbers read and write.
use Rattle.std.proofs.Common.{◌≡◌, ℕ, Option, Some, None, List, [], ◌∷◌, ◌++◌, map, refl, sym, ap, ◌∙◌}
use Rattle.std.specs.List.{flat_map, AllByRecursion as Every}
use Rattle.std.specs.Option.{option_map, option_to_list}
use Rattle.atom_traits.specs.declared.operation.StatelessOp.{StatelessOp}
use Rattle.atom_traits.specs.declared.operation.StatelessOp.TheVariants.{Un, Bin, Cond, Hash as HashOf}
use Rattle.atom_traits.specs.declared.tree.Guard.{Guard}
use Rattle.atom_traits.specs.declared.tree.Leaf.{Leaf}
use Rattle.atom_traits.specs.declared.tree.Leaf.TheVariants.{Keep, Put, Add, Sub}
use Rattle.atom_traits.specs.declared.tree.Port.{Port}
use Rattle.atom_traits.specs.declared.tree.Port.TheVariants as port
use Rattle.atom_traits.specs.declared.tree.Source.{Source}
use Rattle.atom_traits.specs.declared.tree.Source.TheVariants as source
use Rattle.atom_traits.specs.Form.{TreeForm, Ends, Asks, TreesForm}
use Rattle.atom_traits.specs.Operation.{operation_renamed, ports_of}
use Rattle.atom_traits.specs.Renamed.{port_renamed, source_renamed, guard_renamed, leaf_renamed, tree_renamed, second_renamed, renamed}
use Rattle.banzai_config.specs.declared.parts.OpAtom.{OpAtom}
use Rattle.banzai_config.specs.declared.parts.PartSlot.{PartSlot}
use Rattle.banzai_config.specs.Named.{arrays_of, guard_reads, leaf_reads, port_reads, reads_of, second_reads, slot_array, slot_reads, slot_targets, source_reads, stage_targets, targets_of, tree_reads, trees_reads}
use Rattle.banzai_config.specs.Parts.{Atom, AtomForm, Stateful, Stateless, StageForm, atoms_of}
use Rattle.banzai_config.specs.Stages.{stage_reads}
use Rattle.container_plan.specs.Renamed.{atom_renamed, form_renamed, op_renamed, slot_renamed, stage_renamed}
use Rattle.container_plan.proofs.Every.{Every-always}

pub map-append : {X Y : Type 0} (f : X → Y) (xs ys : List X) → map f (xs ++ ys) ≡ map f xs ++ map f ys
map-append f [] ys = refl
map-append f (x ∷ xs) ys = ap (λ z. f x ∷ z) (map-append f xs ys)

-- what a change of all elements does to a list made of their parts
pub flat_renamed : {X : Type 0} (f : ℕ → ℕ) (part : X → List ℕ) (change : X → X) (xs : List X) → Every (λ x. part (change x) ≡ map f (part x)) xs → flat_map part (map change xs) ≡ map f (flat_map part xs)
flat_renamed f part change [] p = refl
flat_renamed f part change (x ∷ xs) p =
    let rest : flat_map part (map change xs) ≡ map f (flat_map part xs) = flat_renamed f part change xs p.1 in
    ap (λ z. z ++ flat_map part (map change xs)) p.0 ∙ ap (λ z. map f (part x) ++ z) rest ∙ sym (map-append f (part x) (flat_map part xs))

-- the same where each element is changed so
all_renamed : {X : Type 0} (f : ℕ → ℕ) (part : X → List ℕ) (change : X → X) (xs : List X) → ((x : X) → part (change x) ≡ map f (part x)) → flat_map part (map change xs) ≡ map f (flat_map part xs)
all_renamed f part change xs each = flat_renamed f part change xs (Every-always (λ x. part (change x) ≡ map f (part x)) each xs)

module _ (name : ℕ → ℕ) where
  pub port_reads_renamed : (x : Port) → port_reads (port_renamed name x) ≡ map name (port_reads x)
  port_reads_renamed (port.Const w) = refl
  port_reads_renamed (port.Container c) = refl

  source_reads_renamed : (x : Source) → source_reads (source_renamed name x) ≡ map name (source_reads x)
  source_reads_renamed (source.Const w) = refl
  source_reads_renamed (source.Container c) = refl
  source_reads_renamed (source.State k) = refl

  both : (xs ys us vs : List ℕ) → us ≡ map name xs → vs ≡ map name ys → us ++ vs ≡ map name (xs ++ ys)
  both xs ys us vs e f = ap (λ z. z ++ vs) e ∙ ap (λ z. map name xs ++ z) f ∙ sym (map-append name xs ys)

  guard_reads_renamed : (g : Guard) → guard_reads (guard_renamed name g) ≡ map name (guard_reads g)
  guard_reads_renamed g = both (source_reads g.left) (source_reads g.right) _ _ (source_reads_renamed g.left) (source_reads_renamed g.right)

  leaf_reads_renamed : (l : Leaf) → leaf_reads (leaf_renamed name l) ≡ map name (leaf_reads l)
  leaf_reads_renamed Keep = refl
  leaf_reads_renamed (Put x) = port_reads_renamed x
  leaf_reads_renamed (Add x) = port_reads_renamed x
  leaf_reads_renamed (Sub x) = port_reads_renamed x

  tree_reads_renamed : (t : TreeForm) → tree_reads (tree_renamed name t) ≡ map name (tree_reads t)
  tree_reads_renamed (Ends l) = leaf_reads_renamed l
  tree_reads_renamed (Asks g a b) =
      both (guard_reads g) (tree_reads a ++ tree_reads b) _ _ (guard_reads_renamed g) (both (tree_reads a) (tree_reads b) _ _ (tree_reads_renamed a) (tree_reads_renamed b))

  second_reads_renamed : (t : Option TreeForm) → second_reads (second_renamed name t) ≡ map name (second_reads t)
  second_reads_renamed None = refl
  second_reads_renamed (Some t) = tree_reads_renamed t

  trees_reads_renamed : (t : TreesForm) → trees_reads (renamed name t) ≡ map name (trees_reads t)
  trees_reads_renamed t = both (tree_reads t.first) (second_reads t.second) _ _ (tree_reads_renamed t.first) (second_reads_renamed t.second)

  ports_renamed : (op : StatelessOp) → ports_of (operation_renamed name op) ≡ map (port_renamed name) (ports_of op)
  ports_renamed (Un op a) = refl
  ports_renamed (Bin op a b) = refl
  ports_renamed (Cond c a b) = refl
  ports_renamed (HashOf unit modulus args) = refl

  pub ports_read : (ps : List Port) → flat_map port_reads (map (port_renamed name) ps) ≡ map name (flat_map port_reads ps)
  ports_read ps = all_renamed name port_reads (port_renamed name) ps port_reads_renamed

  pub atom_reads : (a : Atom) → reads_of (atom_renamed name a) ≡ map name (reads_of a)
  atom_reads (Stateless a) = ap (λ (ps : List Port). flat_map port_reads ps) (ports_renamed a.op) ∙ ports_read (ports_of a.op)
  atom_reads (Stateful a) =
      both (flat_map slot_reads a.slots) (trees_reads a.trees) _ _ (all_renamed name slot_reads (slot_renamed name) a.slots (λ s. port_reads_renamed s.index)) (trees_reads_renamed a.trees)

  option_renamed : (o : Option ℕ) → option_to_list (option_map name o) ≡ map name (option_to_list o)
  option_renamed None = refl
  option_renamed (Some c) = refl

  slot_targets_renamed : (s : PartSlot) → slot_targets (slot_renamed name s) ≡ map name (slot_targets s)
  slot_targets_renamed s = both (option_to_list s.old) (option_to_list s.new) _ _ (option_renamed s.old) (option_renamed s.new)

  pub atom_targets : (a : Atom) → targets_of (atom_renamed name a) ≡ map name (targets_of a)
  atom_targets (Stateless a) = refl
  atom_targets (Stateful a) = all_renamed name slot_targets (slot_renamed name) a.slots slot_targets_renamed

  slots_arrays : (slots : List PartSlot) → map slot_array (map (slot_renamed name) slots) ≡ map slot_array slots
  slots_arrays [] = refl
  slots_arrays (s ∷ slots) = ap (λ z. s.array ∷ z) (slots_arrays slots)

  pub atom_arrays : (a : Atom) → arrays_of (atom_renamed name a) ≡ arrays_of a
  atom_arrays (Stateless a) = refl
  atom_arrays (Stateful a) = slots_arrays a.slots

  -- the atoms of a stage
  ops_renamed : (xs : List OpAtom) → map (λ a. Stateless a) (map (op_renamed name) xs) ≡ map (atom_renamed name) (map (λ a. Stateless a) xs)
  ops_renamed [] = refl
  ops_renamed (x ∷ xs) = ap (λ z. Stateless (op_renamed name x) ∷ z) (ops_renamed xs)

  forms_renamed : (xs : List AtomForm) → map (λ a. Stateful a) (map (form_renamed name) xs) ≡ map (atom_renamed name) (map (λ a. Stateful a) xs)
  forms_renamed [] = refl
  forms_renamed (x ∷ xs) = ap (λ z. Stateful (form_renamed name x) ∷ z) (forms_renamed xs)

  pub atoms_renamed : (s : StageForm) → atoms_of (stage_renamed name s) ≡ map (atom_renamed name) (atoms_of s)
  atoms_renamed s =
      ap (λ z. z ++ map (λ a. Stateful a) (map (form_renamed name) s.stateful)) (ops_renamed s.stateless)
      ∙ ap (λ z. map (atom_renamed name) (map (λ a. Stateless a) s.stateless) ++ z) (forms_renamed s.stateful)
      ∙ sym (map-append (atom_renamed name) (map (λ a. Stateless a) s.stateless) (map (λ a. Stateful a) s.stateful))

  pub reads_renamed : (s : StageForm) → stage_reads (stage_renamed name s) ≡ map name (stage_reads s)
  reads_renamed s = ap (λ (atoms : List Atom). flat_map reads_of atoms) (atoms_renamed s) ∙ all_renamed name reads_of (atom_renamed name) (atoms_of s) atom_reads

  pub targets_renamed : (s : StageForm) → stage_targets (stage_renamed name s) ≡ map name (stage_targets s)
  targets_renamed s = ap (λ (atoms : List Atom). flat_map targets_of atoms) (atoms_renamed s) ∙ all_renamed name targets_of (atom_renamed name) (atoms_of s) atom_targets

  pub all_targets_renamed : (ss : List StageForm) → flat_map stage_targets (map (stage_renamed name) ss) ≡ map name (flat_map stage_targets ss)
  all_targets_renamed ss = all_renamed name stage_targets (stage_renamed name) ss targets_renamed

  pub arrays_kept : (atoms : List Atom) → flat_map arrays_of (map (atom_renamed name) atoms) ≡ flat_map arrays_of atoms
  arrays_kept [] = refl
  arrays_kept (a ∷ atoms) = ap (λ z. z ++ flat_map arrays_of (map (atom_renamed name) atoms)) (atom_arrays a) ∙ ap (λ z. arrays_of a ++ z) (arrays_kept atoms)
