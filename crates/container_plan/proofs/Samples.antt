-- Two configurations, with a container for each value and with shared containers.
use Rattle.std.proofs.Common.{◌≡◌, ℕ, List, [], ◌∷◌, Option, Some, None, map, replicate, codes, refl}
use Rattle.std.specs.List.{range_with_len}
use Rattle.dom_words.specs.declared.array.Array.{Array}
use Rattle.dom_words.specs.declared.hash.HashName.{HashName}
use Rattle.dom_words.specs.declared.operators.BinOp.TheVariants as bin
use Rattle.atom_traits.specs.declared.operation.StatelessOp.TheVariants as op
use Rattle.atom_traits.specs.declared.tree.Leaf.TheVariants.{Add, Keep, Put}
use Rattle.atom_traits.specs.declared.tree.Port.{Port}
use Rattle.atom_traits.specs.declared.tree.Port.TheVariants.{Const, Container}
use Rattle.atom_traits.specs.declared.tree.Rel.TheVariants as rel
use Rattle.atom_traits.specs.declared.tree.Source.TheVariants as source
use Rattle.atom_traits.specs.Form.{Asks, Ends, TreeForm}
use Rattle.banzai_config.specs.declared.parts.OpAtom.{OpAtom}
use Rattle.banzai_config.specs.declared.parts.Version.{Version}
use Rattle.banzai_config.specs.declared.parts.Version.TheVariants.{One, Two}
use Rattle.banzai_config.specs.Parts.{AtomForm, PartsForm, StageForm}
use Rattle.container_plan.specs.Shared.{container_of, live_counts, shared, shared_by}

-- an atom with one slot
abbrev one_slot : ℕ → Port → Option ℕ → Option ℕ → TreeForm → AtomForm
one_slot array index old new tree = record { slots = record { array = array; index = index; old = old; new = new } ∷ []; trees = record { first = tree; second = None } }

abbrev stateless : List OpAtom → StageForm
stateless atoms = record { stateless = atoms; stateful = [] }

abbrev stateful : AtomForm → StageForm
stateful atom = record { stateless = []; stateful = atom ∷ [] }

abbrev array : List ℕ → ℕ → Array
array name length = record { name = name; length = length; init = 0 }

-- a sum on four stages: an atom adds field 0, and shows the new word
abbrev total : Version → (containers new : ℕ) → PartsForm
total version containers new = record {
  version = version;
  fields = codes "x" ∷ codes "sum" ∷ [];
  arrays = array (codes "total") 1 ∷ [];
  containers = containers;
  stages = stateful (one_slot 0 (Const 0) None (Some new) (Ends (Add (Container 0)))) ∷ replicate 3 (stateless []);
  outputs = Container 0 ∷ Container new ∷ [];
}

-- the second field is not read, and its container takes the sum
pub total_shares : shared (total One 3 2) ≡ total Two 2 1
total_shares = refl

pub total_counts : live_counts (total One 3 2) ≡ 2 ∷ 2 ∷ 2 ∷ 2 ∷ 2 ∷ 2 ∷ []
total_counts = refl

-- and then it stays
pub total_stays : shared_by Two (total Two 2 1) ≡ total Two 2 1
total_stays = refl

-- flowlets on twelve stages, where the six values that the program makes stand in these containers
module _ (hash3 hash2 : HashName) where
  abbrev flow : Version → (containers new_hop id last gap late hop : ℕ) → PartsForm
  flow version containers new_hop id last gap late hop = record {
    version = version;
    fields = codes "sport" ∷ codes "dport" ∷ codes "arrival" ∷ codes "new_hop" ∷ codes "next_hop" ∷ codes "id" ∷ [];
    arrays = array (codes "last_time") 8000 ∷ array (codes "saved_hop") 8000 ∷ [];
    containers = containers;
    stages = stateless (record { to = new_hop; op = op.Hash hash3 10 (Container 0 ∷ Container 1 ∷ Container 2 ∷ []) } ∷ record { to = id; op = op.Hash hash2 8000 (Container 0 ∷ Container 1 ∷ []) } ∷ [])
        ∷ stateful (one_slot 0 (Container id) (Some last) None (Ends (Put (Container 2))))
        ∷ stateless (record { to = gap; op = op.Bin bin.Sub (Container 2) (Container last) } ∷ [])
        ∷ stateless (record { to = late; op = op.Bin bin.Gt (Container gap) (Const 5) } ∷ [])
        ∷ stateful (one_slot 1 (Container id) None (Some hop) (Asks (record { rel = rel.Eq; left = source.Container late; right = source.Const 0 }) (Ends Keep) (Ends (Put (Container new_hop)))))
        ∷ replicate 7 (stateless []);
    outputs = Container 0 ∷ Container 1 ∷ Container 2 ∷ Container new_hop ∷ Container hop ∷ Container id ∷ [];
  }

  pub flow_shares : shared (flow One 12 6 7 8 9 10 11) ≡ flow Two 7 3 4 5 6 5 6
  flow_shares = refl

  pub flow_names : map (container_of (flow One 12 6 7 8 9 10 11)) (range_with_len 0 12) ≡ 0 ∷ 1 ∷ 2 ∷ 3 ∷ 4 ∷ 5 ∷ 3 ∷ 4 ∷ 5 ∷ 6 ∷ 5 ∷ 6 ∷ []
  flow_names = refl

  pub flow_counts : live_counts (flow One 12 6 7 8 9 10 11) ≡ 6 ∷ 5 ∷ 6 ∷ 7 ∷ 7 ∷ 7 ∷ replicate 8 6
  flow_counts = refl
