-- What an Elastic is seen as, and where it stands.
use Rattle.std.specs.Prelude.{◌≡◌, ℕ, List, [], ◌∷◌, map}
use Rattle.dom_words.specs.State.{Hash, started}
use Rattle.pipeline_law.specs.Queues.{Event}
use Rattle.banzai_config.specs.Action.{Arrays, Entry}
use Rattle.banzai_config.specs.Parts.{PartsForm}
use Rattle.elastic_machine.specs.Queued.{queued}

pub record ElasticForm : Type 0 where
  pub config : PartsForm
  -- a queue before each stage and one behind the last, each with its oldest packet first
  pub queues : List (List Entry)
  pub state : Arrays

-- the Elastic is where these events lead from its beginning
abbrev pub Stands : Hash → ℕ → List (Event (List ℕ)) → ElasticForm → Type 0
Stands hash most events m = (m.queues ≡ (queued hash most m.config events).queues) × (m.state ≡ (queued hash most m.config events).state)

-- an Elastic with this configuration at its beginning: empty queues, and the arrays as they start
pub record IsNew (most : ℕ) (c : PartsForm) (m : ElasticForm) : Type 0 where
  pub config : m.config ≡ c
  pub queues : m.queues ≡ [] ∷ map (λ stage. []) c.stages
  pub state : m.state ≡ started c.arrays
  pub stands : (hash : Hash) → Stands hash most [] m
