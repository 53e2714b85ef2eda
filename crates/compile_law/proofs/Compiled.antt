-- One packet through compiled parts is what the statement list makes of it.
use Rattle.std.proofs.Common.{◌≡◌, ℕ, zero, suc, ◌-◌, ◌≤◌, Bool, true, false, ◌&&◌, nat_eq, cond, List, [], ◌∷◌, ◌++◌, length, map, replicate, refl, sym, ap, ◌∙◌, arith}
use Rattle.std.specs.List.{filter, flat_map}
use Rattle.dom_words.specs.State.{Hash, Outcome}
use Rattle.dom_flat.specs.Meaning.{flat_outcome}
use Rattle.codelets.specs.declared.answer.Codelets.{Codelets}
use Rattle.codelets.specs.Containers.{containers, holders, place}
use Rattle.codelets.specs.Cut.{Cut, outer}
use Rattle.codelets.specs.Flat.{cut_of, linked_of}
use Rattle.codelets.proofs.FlatLinked.{flat_linked}
use Rattle.stage_plan.specs.declared.place.Place.{Place}
use Rattle.stage_plan.specs.Schedule.{IsPlan}
use Rattle.atom_traits.specs.declared.tree.Port.{Port}
use Rattle.atom_traits.specs.Form.{port_word}
use Rattle.atom_match.specs.Atoms.{AtomForm as Does, port_of}
use Rattle.banzai_config.specs.Action.{Arrays, Passed, atom_exports, atom_writes, entering, leaving, outcome_of, stage_exports, stage_writes, store, put, through_stages}
use Rattle.banzai_config.specs.Parts.{Atom, Stateless, Stateful, PartsForm, StageForm, atoms_of}
use Rattle.compile_law.specs.Compiled.{AreAtomsOf, Staged, compiled_parts, if_at, port_at, stage_at, staged, stages_from, stateful_of, stateless_of}
use Rattle.compile_law.proofs.Front.{front}
use Rattle.compile_law.proofs.Link.{ending, flat_end_is, words}
use Rattle.compile_law.proofs.Parts.{map_join}
use Rattle.compile_law.proofs.Placed.{planned, port_is}
use Rattle.compile_law.proofs.Planned.{IsPlanned, at_stage, atoms_from, is_group, is_single}

pub map_map : {X Y Z : Type 0} (f : Y → Z) (g : X → Y) (xs : List X) → map f (map g xs) ≡ map (λ x. f (g x)) xs
map_map f g [] = refl
map_map f g (x ∷ xs) = ap (λ ys. f (g x) ∷ ys) (map_map f g xs)

map_each : {X Y : Type 0} (f g : X → Y) → ((x : X) → f x ≡ g x) → (xs : List X) → map f xs ≡ map g xs
map_each f g each [] = refl
map_each f g each (x ∷ xs) = ap (λ y. y ∷ map f xs) (each x) ∙ ap (λ ys. g x ∷ ys) (map_each f g each xs)

module _ (k : ℕ) where
  abbrev single_at : Staged → Bool
  single_at q = is_single q.atom && nat_eq q.stage k

  abbrev group_at : Staged → Bool
  group_at q = is_group q.atom && nat_eq q.stage k

  singles : (qs : List Staged) → map (λ a. Stateless a) (flat_map (if_at k stateless_of) qs) ≡ map (λ (q : Staged). q.atom) (filter single_at qs)
  singles [] = refl
  singles (q ∷ qs) = by_case q.atom refl (nat_eq q.stage k) (singles qs)
    where
      by_case : (a : Atom) → q.atom ≡ a → (b : Bool) → map (λ a. Stateless a) (flat_map (if_at k stateless_of) qs) ≡ map (λ (q : Staged). q.atom) (filter single_at qs)
          → map (λ a. Stateless a) (cond b (stateless_of a) [] ++ flat_map (if_at k stateless_of) qs) ≡ map (λ (q : Staged). q.atom) (cond (is_single a && b) (q ∷ filter single_at qs) (filter single_at qs))
      by_case (Stateless a) e true rest = ap (λ (z : Atom). z ∷ map (λ a. Stateless a) (flat_map (if_at k stateless_of) qs)) (sym e) ∙ ap (λ (z : List Atom). q.atom ∷ z) rest
      by_case (Stateless a) e false rest = rest
      by_case (Stateful a) e true rest = rest
      by_case (Stateful a) e false rest = rest

  groups : (qs : List Staged) → map (λ a. Stateful a) (flat_map (if_at k stateful_of) qs) ≡ map (λ (q : Staged). q.atom) (filter group_at qs)
  groups [] = refl
  groups (q ∷ qs) = by_case q.atom refl (nat_eq q.stage k) (groups qs)
    where
      by_case : (a : Atom) → q.atom ≡ a → (b : Bool) → map (λ a. Stateful a) (flat_map (if_at k stateful_of) qs) ≡ map (λ (q : Staged). q.atom) (filter group_at qs)
          → map (λ a. Stateful a) (cond b (stateful_of a) [] ++ flat_map (if_at k stateful_of) qs) ≡ map (λ (q : Staged). q.atom) (cond (is_group a && b) (q ∷ filter group_at qs) (filter group_at qs))
      by_case (Stateless a) e true rest = rest
      by_case (Stateless a) e false rest = rest
      by_case (Stateful a) e true rest = ap (λ (z : Atom). z ∷ map (λ a. Stateful a) (flat_map (if_at k stateful_of) qs)) (sym e) ∙ ap (λ (z : List Atom). q.atom ∷ z) rest
      by_case (Stateful a) e false rest = rest

-- the atoms of a stage, in the order of their positions
pub stage_atoms : (qs : List Staged) (k : ℕ) → atoms_of (stage_at qs k) ≡ map (λ (q : Staged). q.atom) (at_stage qs k)
stage_atoms qs k =
    ap (λ (z : List Atom). z ++ map (λ a. Stateful a) (flat_map (if_at k stateful_of) qs)) (singles k qs)
    ∙ ap (λ (z : List Atom). map (λ (q : Staged). q.atom) (filter (single_at k) qs) ++ z) (groups k qs)
    ∙ sym (map_join (λ (q : Staged). q.atom) (filter (single_at k) qs) (filter (group_at k) qs))

pub stages_atoms : (qs : List Staged) (k n : ℕ) → map atoms_of (stages_from qs k n) ≡ atoms_from qs k n
stages_atoms qs k zero = refl
stages_atoms qs k (suc n) =
    ap (λ (z : List Atom). z ∷ map atoms_of (stages_from qs (suc k) n)) (stage_atoms qs (suc k))
    ∙ ap (λ (z : List (List Atom)). map (λ (q : Staged). q.atom) (at_stage qs (suc k)) ∷ z) (stages_atoms qs (suc k) n)

-- a packet through stages is one through lists of atoms
through_front : (hash : Hash) (stages : List StageForm) (arrays : Arrays) (ws : List ℕ)
    → ((through_stages hash stages arrays ws).words ≡ (front atom_writes (atom_exports hash) (map atoms_of stages) arrays ws).1)
    × ((through_stages hash stages arrays ws).arrays ≡ (front atom_writes (atom_exports hash) (map atoms_of stages) arrays ws).0)
through_front hash [] arrays ws = (refl, refl)
through_front hash (s ∷ stages) arrays ws = through_front hash stages (store (stage_writes s arrays ws) arrays) (put (stage_exports hash s arrays ws) ws)

module _ (cs : Codelets) where
  abbrev D : Cut
  D = cut_of cs.flat

  -- the outputs' words
  outs_are : (ws : List ℕ) → map (λ o. port_word o ws) (map (port_at cs) cs.outputs) ≡ map (λ o. port_word (port_of (place D) (outer D o)) ws) cs.flat.outputs
  outs_are ws =
      map_map (λ o. port_word o ws) (port_at cs) cs.outputs
      ∙ map_each (λ o. port_word (port_at cs o) ws) (λ o. port_word (port_of (place D) o) ws) (λ o. ap (λ (p : Port). port_word p ws) (port_is cs o)) cs.outputs
      ∙ ap (map (λ o. port_word (port_of (place D) o) ws)) cs.is_outputs
      ∙ map_map (λ o. port_word (port_of (place D) o) ws) (outer D) cs.flat.outputs

  pub room : containers D ≤ length cs.values
  room = let e : length cs.values ≡ length (holders D) = ap (length {A = ℕ}) cs.is_values in omega arith

  module _ (depth stateless stateful : ℕ) (atoms : List Does) (places : List Place) (are : AreAtomsOf cs atoms) (plan : IsPlan depth stateless stateful cs.list places) where
    abbrev qs : List Staged
    qs = staged cs atoms places

    abbrev parts : PartsForm
    parts = compiled_parts cs depth atoms places

    pub does_as_listed : (hash : Hash) (state : Arrays) (packet : List ℕ) → length packet ≡ length cs.flat.fields
        → outcome_of hash parts state packet ≡ flat_outcome hash cs.flat.lines cs.flat.outputs packet state
    does_as_listed hash state packet long =
        let ok = flat_linked cs.flat in
        let good : IsPlanned (linked_of cs.flat) depth qs = planned cs depth stateless stateful atoms places are plan in
        let size : ℕ = length cs.values in
        let flat : Outcome = flat_outcome hash cs.flat.lines cs.flat.outputs packet state in
        let end : Passed = through_stages hash parts.stages state (entering parts packet) in
        let done : Arrays × List ℕ = ending (linked_of cs.flat) ok hash state packet long depth qs good size (room) in
        let last = flat_end_is (linked_of cs.flat) ok hash state packet long depth qs good size (room) in
        let start : entering parts packet ≡ packet ++ replicate (size - length cs.flat.fields) 0 = ap (λ (n : ℕ). packet ++ replicate (size - n) 0) long in
        let one = through_front hash parts.stages state (entering parts packet) in
        let same : front atom_writes (atom_exports hash) (map atoms_of parts.stages) state (entering parts packet) ≡ done =
        ap (λ (ss : List (List Atom)). front atom_writes (atom_exports hash) ss state (entering parts packet)) (stages_atoms qs 0 depth)
        ∙ ap (λ (ws : List ℕ). front atom_writes (atom_exports hash) (atoms_from qs 0 depth) state ws) start in
        let ws_are : end.words ≡ done.1 = one.0 ∙ ap (λ (e : Arrays × List ℕ). e.1) same in
        let arrays_are : end.arrays ≡ done.0 = one.1 ∙ ap (λ (e : Arrays × List ℕ). e.0) same in
        let out : leaving parts end.words ≡ flat.packet =
        outs_are end.words ∙ ap (λ (ws : List ℕ). map (λ o. port_word (port_of (place D) (outer D o)) ws) cs.flat.outputs) ws_are ∙ last.0 in
        ap (λ (z : List ℕ). record { packet = z; arrays = end.arrays }) out
        ∙ ap (λ (z : Arrays). record { packet = flat.packet; arrays = z }) (arrays_are ∙ last.1)
