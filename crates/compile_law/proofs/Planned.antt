-- Codelets with their atoms at their stages: what these have to be for a statement list cut into codelets.
use Rattle.std.specs.Prelude.{◌≡◌, ℕ, zero, suc, ◌+◌, ◌<◌, ◌≤◌, Bool, true, false, ◌&&◌, nat_eq, List, [], ◌∷◌, ◌++◌, map, ◌⊎◌}
use Rattle.std.specs.List.{AllByRecursion, filter}
use Rattle.codelets.specs.declared.held.Held.{Held}
use Rattle.codelets.specs.Answer.{option_place}
use Rattle.codelets.specs.Containers.{place}
use Rattle.codelets.specs.Cut.{cut, in_order, uses_codelet}
use Rattle.codelets.specs.Held.{held}
use Rattle.codelets.specs.Linked.{Linked}
use Rattle.codelets.specs.Lists.{IsIn}
use Rattle.atom_match.specs.Atoms.{port_of}
use Rattle.atom_match.specs.Meaning.{AreTreesOf, IsOperatorOf}
use Rattle.banzai_config.specs.declared.parts.PartSlot.{PartSlot}
use Rattle.banzai_config.specs.Named.{targets_of}
use Rattle.banzai_config.specs.Parts.{Atom, Stateless, Stateful}
use Rattle.compile_law.specs.Compiled.{Staged}

abbrev pub is_single : Atom → Bool
is_single (Stateless a) = true
is_single (Stateful a) = false

abbrev pub is_group : Atom → Bool
is_group (Stateless a) = false
is_group (Stateful a) = true

-- what stands at a stage: the stateless atoms, then the stateful ones, each kind in the order of the codelets
abbrev pub at_stage : List Staged → ℕ → List Staged
at_stage qs k = filter (λ q. is_single q.atom && nat_eq q.stage k) qs ++ filter (λ q. is_group q.atom && nat_eq q.stage k) qs

-- the atoms of n stages, from stage k + 1
abbrev pub atoms_from : List Staged → ℕ → ℕ → List (List Atom)
atoms_from qs k zero = []
atoms_from qs k (suc n) = map (λ q. q.atom) (at_stage qs (suc k)) ∷ atoms_from qs (suc k) n

-- a container is right behind stage k where it is a field's or an atom at a stage up to k writes it
abbrev pub Known : ℕ → List Staged → ℕ → ℕ → Type 0
Known fields qs k c = (c < fields) ⊎ ((q : Staged) × IsIn q qs × (q.stage ≤ k) × IsIn c (targets_of q.atom))

module _ (P : Linked) where
  abbrev pub atom_slot : Held → PartSlot
  atom_slot h = record { array = h.array; index = port_of (place (cut P)) h.index; old = option_place (cut P) h.old; new = option_place (cut P) h.new }

  -- an atom is that of codelet c
  abbrev pub IsPartOf : List ℕ → Atom → Type 0
  IsPartOf c (Stateless a) = (is : IsOperatorOf P c a.op) × (a.to ≡ place (cut P) (P.fields + is.number))
  IsPartOf c (Stateful a) = AreTreesOf P c a.trees × (a.slots ≡ map atom_slot (held (cut P) c))

  -- the codelets in their order with their atoms, each at a stage after those that it uses
  pub record IsPlanned (depth : ℕ) (qs : List Staged) : Type 0 where
    pub members : map (λ q. q.members) qs ≡ in_order (cut P)
    pub atoms : AllByRecursion (λ q. IsPartOf q.members q.atom) qs
    pub stages : AllByRecursion (λ q. (1 ≤ q.stage) × (q.stage ≤ depth)) qs
    pub later : (q r : Staged) → IsIn q qs → IsIn r qs → uses_codelet (cut P) q.members r.members ≡ true → r.stage < q.stage
