-- What one event does to queues.
use Rattle.std.specs.Prelude.{◌≡◌, ℕ, ◌+◌, Some, List, ◌∷◌, map, slice_get, slice_set}
use Rattle.dom_words.specs.State.{Hash}
use Rattle.atom_traits.specs.declared.tree.Port.{Port}
use Rattle.atom_traits.specs.Form.{port_word}
use Rattle.banzai_config.specs.Action.{Arrays, Entry, acts}
use Rattle.banzai_config.specs.Parts.{StageForm}
use Rattle.elastic_machine.specs.Lanes.{put_last}

-- the head of queue k goes through a stage to the end of the next queue
pub record Passes (hash : Hash) (stage : StageForm) (k : ℕ) (old new : List (List Entry)) (before after : Arrays) : Type 0 where
  pub head : Entry
  pub rest : List Entry
  pub at : slice_get old k ≡ Some (head ∷ rest)
  pub queues : new ≡ slice_set (put_last (k + 1) (acts hash stage before head).1 old) k rest
  pub state : after ≡ (acts hash stage before head).0

-- the head of queue k leaves through ports
pub record Leaves (ports : List Port) (k : ℕ) (old new : List (List Entry)) (leaving : List ℕ) : Type 0 where
  pub head : List ℕ
  pub rest : List Entry
  pub at : slice_get old k ≡ Some (Some head ∷ rest)
  pub queues : new ≡ slice_set old k rest
  pub left : leaving ≡ map (λ port. port_word port head) ports
